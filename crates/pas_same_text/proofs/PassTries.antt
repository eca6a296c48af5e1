-- WHAT COMES OF A PAGE THAT IS TRIED: its outcome is that of the text, and where that ends its hint, it has none afterwards.
use Rattle.pas_same_text.proofs.StepMarks.{backed_read, HintsPage, OffersPage, WasRead, backed_stays, hinted_by, hint_read, hints_none, hints_of, once_parts}
use Rattle.pas_same_text.proofs.Common.{false≢true, false_from_ne_true, looks_same, hints_both, Mask4, page_bit-clear, number_of, IsValid, IsPage, Directory}
use Rattle.pas_same_text.proofs.Common.{Outcome, Profile, Word, made, triple, triples, Whole, word_after, Legal, Once, Always, all_ones, Kinds, kind_of}
use Rattle.pas_same_text.proofs.Common.{place_of, apart, looking, returning, Only, Taking, Putting, Offering, Hinting, Unbacking, Unhinting, Made, Look, Offer}
use Rattle.pas_same_text.proofs.Common.{Hint, Unback, Unhint, triples_append, in_apart, only_both, only_within, returns_are, IsEmptyBacked, empty_bit}
use Rattle.pas_same_text.proofs.Common.{eligible_bit, legal_earlier, hinted_page, looks, looks_until, ReadsBacked, HintsEmpty, ones, Used, leave_due}
use Rattle.pas_same_text.proofs.Common.{leave_returns, return_returns, puts_kinds, used_at, TrySteps, takes_until, first_looks, EndsWithout, ExamineSteps}
use Rattle.pas_same_text.proofs.{Common.{taken_on, Progress, World, outcome_of, IsSame, IsBetween, AreEndsStamped}, PassOutcomes.{WasOffered, stays_hinted}}
use Rattle.pas_same_text.proofs.PassOutcomes.{bare_outcome, used_outcome, kept_outcome, young_outcome, old_outcome, empty_backed, frees_stay, stamps_stay}
use Rattle.pas_same_text.proofs.PassOutcomes.{looks_told, IsAsked, asking, asks_only, asks_told, none_used, AreWordsKept, IsSpared, first_only}
use Rattle.pas_same_text.proofs.EntrySteps.{return_hints}
use Rattle.std.proofs.Common.{◌≡◌, ◌≢◌, ℕ, ◌+◌, ◌<◌, Bool, true, false, if◌then◌else◌, List, [], ◌∷◌, ◌++◌, Option, None, Some, inl, inr, refl, ap, sym, ◌∙◌}
use Rattle.std.proofs.Common.{subst, arith, true≢false, eq-eqb}
use Rattle.pas_steps.specs.Kinds.{LookStamp}
use Rattle.pas_scavenger.{specs.{Judgements.Judged, Puttings.BackSteps, Pages.EndsWith}, proofs.Examinations.takes_are}

-- ---- steps of some kinds hint no page, or offer none
none_hints : (ks : Kinds) → apart ks (Hinting ∷ []) ≡ true → (page : ℕ) (xs : List Made) → Only ks xs → HintsPage page xs → ⊥
none_hints ks w page [] only h = h
none_hints ks w page (m ∷ xs) only (inl h) = true≢false (cc (in_apart ks (Hinting ∷ []) (place_of (kind_of m.step)) w only.0))
none_hints ks w page (m ∷ xs) only (inr h) = none_hints ks w page xs only.1 h

none_offers : (ks : Kinds) → apart ks (Offering ∷ []) ≡ true → (page : ℕ) (xs : List Made) → Only ks xs → OffersPage page xs → ⊥
none_offers ks w page [] only h = h
none_offers ks w page (m ∷ xs) only (inl h) = true≢false (cc (in_apart ks (Offering ∷ []) (place_of (kind_of m.step)) w only.0))
none_offers ks w page (m ∷ xs) only (inr h) = none_offers ks w page xs only.1 h

-- ---- what is put back: it hints no page but one that it read as backed
abbrev giving : Kinds
giving = Putting ∷ returning

back_only : (page : ℕ) (d : Directory) (grains : Mask4) (steps : List Made) → BackSteps page d grains steps → Only giving steps
back_only page d grains steps h = subst (Only giving) (sym h.steps_are)
    (only_both giving h.left (h.after ++ h.puts) (only_within returning giving h.left refl (returns_are page h.left (leave_returns page d h.left h.leaves)))
    (only_both giving h.after h.puts (only_within returning giving h.after refl (returns_are page h.after (return_returns page d h.after h.returns)))
    (only_within (Putting ∷ []) giving h.puts refl (puts_kinds page grains 4 h.puts h.order))))

back_hints : (page : ℕ) (d : Directory) (grains : Mask4) (steps : List Made) → BackSteps page d grains steps → Always HintsEmpty steps
back_hints page d grains steps h = rw h.steps_are (hints_both h.left (h.after ++ h.puts) (hints_of h.left (leave_due page d h.left h.leaves))
    (hints_both h.after h.puts (return_hints page d h.after h.returns) (hints_none (Putting ∷ []) h.puts refl (puts_kinds page grains 4 h.puts h.order))))

-- a page without memory isn't read as backed
not_read : (f : Profile) (k : ℕ) (l : Whole) (page : ℕ) (xs : List Made) → Legal f (triples k xs ++ l) → Only giving xs → word_after l (Word.Backed page) ≡ 0
    → Once (ReadsBacked page) xs → ⊥
not_read f k l page xs legal only none read =
    omega (arith, backed_read giving f k l page refl refl xs legal only read, backed_stays giving refl k xs l page only, none)

-- ==== AN EXAMINATION
-- the page's outcome is this one; where the page stays hinted it is backed and empty, and where it doesn't the steps hint it not; and they offer it only if it was offered
record IsExamined (f : Profile) (w : World) (l : Whole) (page : ℕ) (o : Outcome) (steps : List Made) : Type 0 where
  is : outcome_of f w page ≡ o
  idle : stays_hinted o ≡ true → IsEmptyBacked l page
  hints : stays_hinted o ≡ false → HintsPage page steps → ⊥
  offers : OffersPage page steps → WasOffered f l page

-- what stands before the grains are judged
abbrev resting : Kinds
resting = Taking ∷ asking

abbrev judging : Kinds
judging = Unbacking ∷ LookStamp ∷ resting

module _ (f : Profile) (p : Progress) (w : World) (valid : IsValid f) (between : IsBetween f p) (same : IsSame f p w) (stamped : AreEndsStamped p.list)
    (page epoch : ℕ) (of : IsPage f page) (now : epoch ≡ w.epoch) where
  -- it begins after this list, which left the page's words as they were
  module _ (before : Whole) (kept : AreWordsKept page p.list before) where
    -- ---- the right isn't asked for, or not got
    without_right : (o : Outcome) (steps : List Made) → EndsWithout page o steps → Legal f (triples 0 steps ++ before) → IsExamined f w p.list page o steps
    without_right Outcome.Bare steps h legal = search (arith, bare_outcome, false≢true, none_hints, none_offers)
    without_right (Outcome.InUse word value) steps h legal =
        let back : Made = made (Look (Word.Backed page)) h.0 in
        let used : Option Used = Some (used_at word value) in
        let whole : Legal f (triples 0 (first_looks page h.0 used) ++ before) = subst (λ (ms : List Made). Legal f (triples 0 ms ++ before)) h.3 legal in
        let begun : Legal f (triples 0 (back ∷ []) ++ before) = legal_earlier f 0 (looks_until page used) (back ∷ []) before whole in
        let all : Only looking (first_looks page h.0 used) = first_only page h.0 used in
        let read = whole.0.answer_is ∙ (looks_same 0 (looks page ones word ++ (back ∷ [])) before (Word.Free page word) all.1 ∙ kept.free word) in
        let only : Only looking steps = subst (Only looking) (sym h.3) all in
        record {
          is = cc (used_outcome f p w valid between same stamped page word h.2.within (λ none. h.1 (begun.0.answer_is ∙ (kept.backed ∙ none)))
              (λ v lt. sym (kept.free v) ∙ looks_told f 0 before page ones word v (back ∷ []) lt (refl, tt) whole.1) (λ full. h.2.some (read ∙ full)));
          idle = λ stays. absurd (false≢true stays);
          hints = λ gone hint. none_hints looking refl page steps only hint;
          offers = λ offer. absurd (none_offers looking refl page steps only offer);
        }
    without_right Outcome.NotOffered steps h legal =
        search (arith, asks_told, only_within, asks_only, kept_outcome, empty_backed, true≢false, none_offers)
    without_right o steps h legal = absurd h

    -- ---- with the right
    module _ (d : Directory) (used : Option Used) (grains : Mask4) (back after rest : List Made) (none : used ≡ None) (asked : IsAsked f before page d true)
        (only : Only resting rest) (puts : BackSteps page d grains back)
        (legal : Legal f (triples 0 (back ++ (after ++ rest)) ++ before)) where
      -- The list in the midst of the examination is legal.
      middle : Legal f (triples 0 (after ++ rest) ++ before)
      middle = legal_earlier f 0 back (after ++ rest) before legal

      some_backed : word_after p.list (Word.Backed page) ≢ 0
      some_backed zero = asked.backed (kept.backed ∙ zero)

      all_full : (word : ℕ) → word < 4 → word_after p.list (Word.Free page word) ≡ all_ones
      all_full word small = sym (kept.free word) ∙ asked.full word small

      on_offer : eligible_bit p.list (number_of d) page ≡ true
      on_offer = sym (kept.offer (number_of d)) ∙ asked.offered

      -- after the page lost its memory it isn't hinted
      unbacked_hint : (b stamp u : ℕ) → after ≡ made (Unback page) u ∷ made (Look (Word.Stamp page)) stamp ∷ made (Look (Word.Backed page)) b ∷ []
          → HintsPage page (back ++ (after ++ rest)) → ⊥
      unbacked_hint b stamp u is hint = elim (once_parts (λ m. m.step ≡ Hint page) back (after ++ rest) hint) [
        | inl late ↦
            let low : Whole = triples 0 (made (Look (Word.Stamp page)) stamp ∷ made (Look (Word.Backed page)) b ∷ rest) ++ before in
            let zero : word_after (triples 0 (after ++ rest) ++ before) (Word.Backed page) ≡ 0 =
            cc (eq-eqb page page refl) in
            let read : WasRead page back = hint_read page back (back_hints page d grains back puts) late in
            not_read f 0 _ page back (subst (Legal f) (sym (triples_append 0 back (after ++ rest) before)) legal) (back_only page d grains back puts) zero read.backed
        | inr early ↦ none_hints judging refl page (after ++ rest) (only_both judging after rest (subst (Only judging) (sym is) (refl, (refl, (refl, tt)))) (only_within resting judging rest refl only)) early
      ]

      -- What was judged of the page is what the text says of it.
      judged : (o : Outcome) → Judged f.age epoch page used o after → IsExamined f w p.list page o (back ++ (after ++ rest))
      judged (Outcome.InUse word value) h = absurd (let bad : None ≡ Some (used_at word value) = sym none ∙ h.0 in cc)
      judged Outcome.Bare h =
          let look : Legal f (triples 0 (made (Look (Word.Backed page)) 0 ∷ rest) ++ before) = rw h.1 at middle in
          absurd (asked.backed (sym (look.0.answer_is ∙ backed_stays resting refl 0 rest before page only)))
      judged (Outcome.Young stamp) h =
          let look : Legal f (triples 0 (made (Look (Word.Stamp page)) stamp ∷ made (Look (Word.Backed page)) h.0 ∷ rest) ++ before) = rw h.4 at middle in
          let read = look.0.answer_is ∙ (stamps_stay resting refl 0 (made (Look (Word.Backed page)) h.0 ∷ rest) before page (refl, only) ∙ kept.stamp) in
          record {
            is = young_outcome f p w valid between same stamped page d of some_backed all_full asked.of_profile on_offer (omega (arith, h.3, now, read)) ∙ ap (λ (n : ℕ). Outcome.Young n) (sym read);
            idle = λ stays. empty_backed f p w valid between same stamped page some_backed all_full;
            hints = λ gone. absurd (true≢false gone);
            offers = λ offer. record { directory = d; of_profile = asked.of_profile; offered = on_offer };
          }
      judged Outcome.Unbacked h =
          let look = subst (λ (ms : List Made). Legal f (triples 0 (ms ++ rest) ++ before)) h.6 middle in
          let read = look.1.0.answer_is ∙ (stamps_stay resting refl 0 (made (Look (Word.Backed page)) h.0 ∷ rest) before page (refl, only) ∙ kept.stamp) in
          record {
            is = old_outcome f p w valid between same stamped page d of some_backed all_full asked.of_profile on_offer (omega (arith, h.5, now, read));
            idle = λ stays. absurd (false≢true stays);
            hints = λ gone hint. unbacked_hint h.0 h.1 h.2 h.6 hint;
            offers = λ offer. record { directory = d; of_profile = asked.of_profile; offered = on_offer };
          }
      judged Outcome.NotOffered h = absurd h

    with_right : (o : Outcome) (steps : List Made) → EndsWith f.age epoch page o steps → Legal f (triples 0 steps ++ before)
        → IsExamined f w p.list page o steps
    with_right o steps h legal =
        let t = h.takes in
        let rest : List Made = takes_until page t.used ++ h.asked in
        let whole : steps ≡ t.back ++ (t.after ++ rest) = taken_on f.age epoch page o steps h in
        let all : Legal f (triples 0 (t.back ++ (t.after ++ rest)) ++ before) = subst (λ (ms : List Made). Legal f (triples 0 ms ++ before)) whole legal in
        let low : Legal f (triples 0 rest ++ before) = legal_earlier f 0 t.after rest before (legal_earlier f 0 t.back (t.after ++ rest) before all) in
        let asked = asks_told f 0 before page h.directory true h.asked h.asks (legal_earlier f 0 (takes_until page t.used) h.asked before low) in
        let asks : Only asking h.asked = asks_only page h.directory true h.asked h.asks in
        let none = none_used f 0 before page t.used _ t.are (λ word small. frees_stay asking refl 0 _ before page word asks ∙ asked.full word small) low in
        let only = only_both resting _ h.asked (only_within (Taking ∷ []) resting _ refl (takes_are page t.used)) (only_within asking resting h.asked refl asks) in
        subst (IsExamined f w p.list page o) (sym whole) (judged h.directory t.used t.grains t.back t.after rest none asked only t.puts all o t.judged)

    -- A page that was examined is one that the text examines.
    examined : (o : Outcome) (steps : List Made) → ExamineSteps f.age epoch page o steps → Legal f (triples 0 steps ++ before)
        → IsExamined f w p.list page o steps
    examined o steps (inl h) legal = without_right o steps h legal
    examined o steps (inr h) legal = with_right o steps h legal

-- ==== A TRY of a page that was hinted when the pass began
-- the page was still hinted, and its outcome is that of the text. Where that ends the hint, the page has none after these steps
pub record IsTried (f : Profile) (w : World) (l before : Whole) (page : ℕ) (o : Option Outcome) (steps : List Made) : Type 0 where
  pub outcome : o ≡ Some (outcome_of f w page)
  pub idle : stays_hinted (outcome_of f w page) ≡ true → IsEmptyBacked l page
  pub bit : stays_hinted (outcome_of f w page) ≡ false → empty_bit (triples 0 steps ++ before) page ≡ false
  pub offers : OffersPage page steps → WasOffered f l page

module _ (f : Profile) (p : Progress) (w : World) (valid : IsValid f) (between : IsBetween f p) (same : IsSame f p w) (stamped : AreEndsStamped p.list)
    (page epoch : ℕ) (now : epoch ≡ w.epoch) (hinted : empty_bit p.list page ≡ true)
    (before : Whole) (spared : IsSpared page p.list before) where
  -- A page that a pass tries has the outcome of the text, and no hint afterwards where that ends it.
  pub tried : (o : Option Outcome) (steps : List Made) → TrySteps f.age epoch page o steps → Legal f (triples 0 steps ++ before)
      → IsTried f w p.list before page o steps
  tried None steps h legal = search (arith, true≢false)
  tried (Some outcome) steps h legal =
      let un : Made = made (Unhint page) h.0 in
      let start : Whole = triple 0 un ∷ before in
      let onto = triples_append 0 h.2 (un ∷ []) before in
      let upper : Legal f (triples 0 h.2 ++ start) = subst (Legal f) (sym onto) (subst (λ (ms : List Made). Legal f (triples 0 ms ++ before)) h.4 legal) in
      let kept : AreWordsKept page p.list start = assumption in
      let of : IsPage f page = hinted_page f p.list between.legal page hinted in
      let x : IsExamined f w p.list page outcome h.2 = examined f p w valid between same stamped page epoch of now start kept outcome h.2 h.3 upper in
      let told : stays_hinted outcome ≡ stays_hinted (outcome_of f w page) = ap stays_hinted (sym x.is) in
      record {
        outcome = ap (λ (out : Outcome). Some out) (sym x.is);
        idle = λ stays. x.idle (told ∙ stays);
        bit = λ gone.
            ap (λ (ms : List Made). empty_bit (triples 0 ms ++ before) page) h.4
            ∙ (ap (λ (m : Whole). empty_bit m page) (sym onto)
            ∙ false_from_ne_true (empty_bit (triples 0 h.2 ++ start) page) (λ set. elim (hinted_by 0 h.2 start page set) [
              | inl old ↦ true≢false (sym old ∙ page_bit-clear page page _ true
                  ∙ ap (λ (t : Bool). if t then false else empty_bit before page) (eq-eqb page page refl))
              | inr hint ↦ x.hints (told ∙ gone) hint
            ]));
        offers = λ offer. elim (once_parts (λ m. (d : Directory) × (m.step ≡ Offer page d)) h.2 (un ∷ []) (subst (OffersPage page) h.4 offer)) [
          | inl early ↦ x.offers early
          | inr late ↦ absurd (none_offers (Unhinting ∷ []) refl page (un ∷ []) (refl, tt) late)
        ];
      }
