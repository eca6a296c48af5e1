use Rattle.std.proofs.{Common.{◌∙◌, ap, sym, subst, arith}, lemmas.Bool.false_from_ne_true}
use Rattle.pas_profile.{specs.{Layouts.same_word, Profiles.IsWordIn, declared.word.Word.Word}, proofs.Places.same_word-true}
use Rattle.pas_plain.proofs.FirstLives.{IsWrittenIn, first_written, firsts_kept, other_grain}
use Rattle.pas_plain.proofs.near.NearWords.set.Goals as goal

pub invariant_of-self : goal.invariant_of-self
invariant_of-self c =
    let r = c.args.self.now in let is = c.in-Life.is ∙ ap (λ n. Word.Life c.in-Life.page n) c.if-grain-eq0.true in
    let of : IsWordIn r.words.layout.pages r.words.layout.heaps (Word.Life c.in-Life.page c.in-Life.grain) =
    subst (λ w. IsWordIn r.words.layout.pages r.words.layout.heaps w) c.in-Life.is c.requires in record {
      sized = r.sized ∙ sym (ap (λ l. l.pages) c.set.ensures.layout);
      same = first_written r.words c.set.new.self r.firsts.items c.args.value c.set.ensures.layout r.same c.in-Life.page
          (subst (λ w. IsWrittenIn r.words c.set.new.self w c.args.value) is c.set.ensures.words) of.0 (omega (arith, of, r.sized, r.firsts.ok.0));
    }

pub invariant_of-self-else-grain-eq0 : goal.invariant_of-self-else-grain-eq0
invariant_of-self-else-grain-eq0 c = let r = c.args.self.now in record {
  sized = r.sized ∙ sym (ap (λ l. l.pages) c.set.ensures.layout);
  same = firsts_kept r.words c.set.new.self r.firsts.items c.args.value c.set.ensures.layout r.same c.args.word c.set.ensures.words
      (λ q. ap (λ w. same_word w (Word.Life q 0)) c.in-Life.is ∙ other_grain c.in-Life.page c.in-Life.grain q c.if-grain-eq0.false);
}

pub invariant_of-self-in_default : goal.invariant_of-self-in_default
invariant_of-self-in_default c = let r = c.args.self.now in record {
  sized = r.sized ∙ sym (ap (λ l. l.pages) c.set.ensures.layout);
  same = firsts_kept r.words c.set.new.self r.firsts.items c.args.value c.set.ensures.layout r.same c.args.word c.set.ensures.words
      (λ q. false_from_ne_true _ (λ e. c.in_default.not-Life q 0 (same_word-true c.args.word (Word.Life q 0) e)));
}
