use Rattle.std.proofs.{Common.{inl, inr, ◌≡◌, ◌≢◌, ℕ, ◌<◌, ◌∙◌, sym, ap, subst, true, false, true≢false}, lemmas.Bool.{cases_eq, false_from_ne_true}}
use Rattle.pas_profile.{specs.{Layouts.same_word, declared.word.Word.Word}, proofs.Places.same_word-true}
use Rattle.pas_steps.specs.{Paged.value_in, Told.free_by}
use Rattle.pas_plain.{specs.Short.{GotNone, HasNote}, proofs.ShortOnes.{short_apart, short_still, apart_pages}}
use Rattle.pas_plain.proofs.region.PlainRegion.exchange.Goals as goal

pub invariant_of-self : goal.invariant_of-self
invariant_of-self c = let r = c.args.self.now in record {
  valid = r.valid;
  pages = ap (λ l. l.pages) c.set.ensures.layout ∙ r.pages;
  heaps = ap (λ l. l.heaps) c.set.ensures.layout ∙ r.heaps;
  short_are = λ grains align p note.
      let old = c.forget.ensures grains align p note in
      short_apart r.profile.pages r.words.words.layout.pages r.words.words.layout.heaps r.pages r.words.words c.set.new.self.words c.target-word.result c.new_value-new.result c.set.ensures.words grains align p
      (λ i. ap (λ w. same_word w (Word.Free p i)) c.in-Free.is ∙ apart_pages c.in-Free.page c.in-Free.field-1 p i old.1) (r.short_are grains align p old.0);
}

pub invariant_of-self-else-not-stays_short : goal.invariant_of-self-else-not-stays_short
invariant_of-self-else-not-stays_short c = let r = c.args.self.now in record {
  valid = r.valid;
  pages = ap (λ l. l.pages) c.set.ensures.layout ∙ r.pages;
  heaps = ap (λ l. l.heaps) c.set.ensures.layout ∙ r.heaps;
  short_are = λ grains align p note. elim (cases_eq p c.in-Free.page) [
    | inl e ↦
        let stays = c.stays_short.ensures c.if-not-stays_short.false in
        short_still r.profile.pages r.words.words.layout.pages r.words.words.layout.heaps r.pages r.words.words c.set.new.self.words c.target-word.result c.new_value-new.result c.set.ensures.words grains align p
        (subst (λ n. GotNone n c.new_value-new.result) c.get-old.ensures stays.0)
        (subst (λ q. ((g : ℕ) → g < 256 → free_by (value_in c.set.new.self.words) q g ≡ false) → ⊥) (sym e) stays.1) (r.short_are grains align p note)
    | inr ne ↦
        short_apart r.profile.pages r.words.words.layout.pages r.words.words.layout.heaps r.pages r.words.words c.set.new.self.words c.target-word.result c.new_value-new.result c.set.ensures.words grains align p
        (λ i. ap (λ w. same_word w (Word.Free p i)) c.in-Free.is ∙ apart_pages c.in-Free.page c.in-Free.field-1 p i ne) (r.short_are grains align p note)
  ];
}

pub invariant_of-self-else-has : goal.invariant_of-self-else-has
invariant_of-self-else-has c = let r = c.args.self.now in record {
  valid = r.valid;
  pages = ap (λ l. l.pages) c.set.ensures.layout ∙ r.pages;
  heaps = ap (λ l. l.heaps) c.set.ensures.layout ∙ r.heaps;
  short_are = λ grains align p note.
      short_apart r.profile.pages r.words.words.layout.pages r.words.words.layout.heaps r.pages r.words.words c.set.new.self.words c.target-word.result c.new_value-new.result c.set.ensures.words grains align p
      (λ i. ap (λ w. same_word w (Word.Free p i)) c.in-Free.is ∙ apart_pages c.in-Free.page c.in-Free.field-1 p i
      (λ e. true≢false (sym (c.has.ensures grains align (subst (λ q. HasNote r.short grains align q) e note)) ∙ c.if-has.false))) (r.short_are grains align p note);
}

pub invariant_of-self-in_default : goal.invariant_of-self-in_default
invariant_of-self-in_default c = let r = c.args.self.now in record {
  valid = r.valid;
  pages = ap (λ l. l.pages) c.set.ensures.layout ∙ r.pages;
  heaps = ap (λ l. l.heaps) c.set.ensures.layout ∙ r.heaps;
  short_are = λ grains align p note.
      short_apart r.profile.pages r.words.words.layout.pages r.words.words.layout.heaps r.pages r.words.words c.set.new.self.words c.target-word.result c.new_value-new.result c.set.ensures.words grains align p
      (λ i. false_from_ne_true _ (λ e. c.in_default.not-Free p i (same_word-true c.target-word.result (Word.Free p i) e))) (r.short_are grains align p note);
}
