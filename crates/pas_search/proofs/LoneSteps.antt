-- ONE ACTOR ALONE: what its steps read of a page is what was there before them, since they give and end no block, and give back only what they got.
use Rattle.std.proofs.Common.{◌≡◌, ◌≢◌, ℕ, ◌+◌, ◌*◌, ◌/◌, ◌%◌, ◌<◌, ◌==◌, Bool, true, false, ◌&&◌, ◌||◌, if◌then◌else◌, List, [], ◌∷◌, ◌++◌, ◌⊎◌, inl, inr}
use Rattle.std.proofs.{Common.{refl, ap, sym, ◌∙◌, arith, subst, true≢false, eqb-true}, lemmas.Bool.{false≢true, or_from, cases_Bool}}
use Rattle.pas_bits.{specs.Bits.has_bit, proofs.PageVectors.{page_bit-set, page_bit-clear}}
use Rattle.pas_profile.specs.{Directories.{number_of, deed_word_of}, Layouts.same_word, declared.{directory.Directory.Directory, profile.Profile.Profile}}
use Rattle.pas_profile.{specs.declared.word.Word.Word, proofs.Codecs.deed_word_of-positive}
use Rattle.pas_steps.specs.{Desks.triples, Past.{Once, Always}, Effects.{target, new_value}, Evidence.{Readings, ReadsFree, ShowsHere, NoDeedHere, GetsRight}}
use Rattle.pas_steps.specs.{Evidence.GetsHere, Lists.{Whole, part, word_after, Legal}, Views.{epoch_of, holds}, declared.step.{Made.Made, Step.Step}}
use Rattle.pas_steps.specs.declared.step.Step.TheVariants.{Look, TakeRight, Offer, Deed}
use Rattle.pas_core.{specs.Rights.{eligible_bit, free_of_page}, proofs.{Deeds.{looked, deed_kept}, Grains.free_step, OneActor.{LendsNone, bit_of}}}
use Rattle.pas_core.proofs.OneActor.{free_or_held, shown, of_page, deed_read, deed_none, deed_later}
use Rattle.pas_scan.specs.Usable.{OfHere, WholeHere, UsedHere, MakesNoDeedHere}
use Rattle.pas_search.specs.{Alone.IsLone, Kinds.{IsReturnOf, ReturnsDuly}}

-- Without the newest one such steps are such.
pub fewer : {f : Profile} {k : ℕ} {l : Whole} {m : Made} {xs : List Made} → IsLone f k l (m ∷ xs) → IsLone f k l xs
fewer lone = record { legal = lone.legal.1; lends_none = lone.lends_none.1; returns = lone.returns.1 }

-- What follows from some such step, whichever it is, follows where there is one.
pub once_lone : (P : Made → List Made → Type 0) (C : Type 0) (f : Profile) (k : ℕ) (l : Whole)
    → ((m : Made) (xs : List Made) → IsLone f k l (m ∷ xs) → P m xs → C) → (xs : List Made) → IsLone f k l xs → Once P xs → C
once_lone P C f k l step [] lone h = absurd h
once_lone P C f k l step (m ∷ xs) lone (inl here) = step m xs lone here
once_lone P C f k l step (m ∷ xs) lone (inr h) = once_lone P C f k l step xs (fewer lone) h

-- ---- GRAINS: one that isn't free stays so, since the steps put only what they took, and took only what was free
module _ (f : Profile) (k : ℕ) (l : Whole) where
  -- A grain that isn't free stays so, and isn't got, by steps that give and end no block and put back only what they took.
  pub stays_used : (g : ℕ) (xs : List Made) → Legal f (triples k xs ++ l) → LendsNone xs → Always ReturnsDuly xs → bit_of l g ≡ false
      → (bit_of (triples k xs ++ l) g ≡ false) × (holds xs g ≡ false)
  stays_used g [] legal lends due used = (used, refl)
  stays_used g (m ∷ xs) legal lends due used =
      let rest = stays_used g xs legal.1 lends.1 due.1 used in grind (arith, rest, true≢false, eqb-true, false≢true, free_step)

  -- A grain is free after such steps, or taken by them, exactly where it was free before them.
  pub free_same : (g : ℕ) (xs : List Made) → IsLone f k l xs → (bit_of (triples k xs ++ l) g || holds xs g) ≡ bit_of l g
  free_same g xs lone = elim (cases_Bool (bit_of l g)) [
    | inl free ↦ free_or_held f k l g xs lone.legal lone.lends_none free ∙ sym free
    | inr used ↦ let both = stays_used g xs lone.legal lone.lends_none lone.returns used in or_from _ _ both.0 both.1 ∙ sym used
  ]

  -- So what is read of a grain, where what the call took counts as free, is whether it was free before.
  bit_read : (page word b : ℕ) (m : Made) (xs : List Made) → IsLone f k l (m ∷ xs) → word < 4 → b < 64 → ReadsFree page word m.step
      → (has_bit m.answer b || holds xs (page * 256 + (64 * word + b))) ≡ free_of_page l page (64 * word + b)
  bit_read page word b m xs lone small lt reads =
      let w : Whole = triples k xs ++ l in
      let g : ℕ = page * 256 + (64 * word + b) in
      let now : m.answer ≡ word_after w (Word.Free page word) = search arith in
      ap (λ (n : ℕ). has_bit n b || holds xs g) now ∙ ap (λ (t : Bool). t || holds xs g) ((search arith) ∙ of_page w page (64 * word + b))
      ∙ (free_same g xs (fewer lone) ∙ sym (of_page l page (64 * word + b)))

  -- A free word that was read with all grains free had them so.
  pub whole_read : (page word b : ℕ) → word < 4 → b < 64 → (xs : List Made) → IsLone f k l xs → Once (WholeHere page word) xs
      → free_of_page l page (64 * word + b) ≡ true
  whole_read page word b small lt = once_lone (WholeHere page word) (free_of_page l page (64 * word + b) ≡ true) f k l
      (λ m xs lone h. sym (bit_read page word b m xs lone small lt h.0) ∙ h.1 b lt)

  -- A page whose grains were all free isn't read with one that isn't.
  pub used_never : (page : ℕ) → ((b : ℕ) → b < 256 → free_of_page l page b ≡ true) → (m : Made) (xs : List Made) → IsLone f k l (m ∷ xs)
      → UsedHere page m xs → ⊥
  used_never page free m xs lone h = h.3 (λ b lt. bit_read page h.0 b m xs lone h.1 lt h.2 ∙ free (64 * h.0 + b) (omega (arith, h.1, lt)))

  -- Readings of a page with its right show which of its grains were free.
  pub shown_same : (page b : ℕ) (r : Readings) → b < 256 → (xs : List Made) → IsLone f k l xs → Once (ShowsHere page (b / 64) r) xs
      → r b ≡ free_of_page l page b
  shown_same page b r lt = once_lone (ShowsHere page (b / 64) r) (r b ≡ free_of_page l page b) f k l
      (λ m xs lone h. shown f k l page b r m xs lone.legal lt h ∙ (free_same (page * 256 + b) xs (fewer lone) ∙ sym (of_page l page b)))

  -- ---- DEEDS: a page that was read as without one had none
  pub none_read : (p : ℕ) (xs : List Made) → IsLone f k l xs → Once (NoDeedHere p) xs → word_after l (Word.Deed p) ≡ 0
  none_read p = once_lone (NoDeedHere p) (word_after l (Word.Deed p) ≡ 0) f k l
      (λ m xs lone h. deed_none k l p xs (sym (lone.legal.0.answer_is ∙ deed_read p m.step _ h.0) ∙ h.1))

  -- where there is a deed none is made
  pub never_made : (p : ℕ) (xs : List Made) → Legal f (triples k xs ++ l) → word_after l (Word.Deed p) ≢ 0 → Always (MakesNoDeedHere p) xs
  never_made p [] legal some = tt
  never_made p (m ∷ xs) legal some = search (arith, deed_later, never_made p xs legal.1 some)

  -- what was read as of the directory is of it from then on
  pub of_now : (d : Directory) (p : ℕ) (xs : List Made) → Legal f (triples k xs ++ l) → Once (OfHere d p) xs
      → word_after (triples k xs ++ l) (Word.Deed p) ≡ deed_word_of d
  of_now d p [] legal h = absurd h
  of_now d p (m ∷ xs) legal (inl h) = search (arith, deed_read, deed_kept, deed_word_of-positive)
  of_now d p (m ∷ xs) legal (inr h) = search (arith, deed_kept, deed_word_of-positive, of_now d p xs legal.1 h)

-- ---- OFFERS: after a step a page's offered bit was set before, or the step offered the page
pub offer_one : (e : ℕ) (s : Step) (n p old : ℕ) → has_bit (if same_word (target s) (Word.Eligible n (p / 64)) then new_value e s old else old) (p % 64) ≡ true
    → (has_bit old (p % 64) ≡ true) ⊎ ((d : Directory) × (s ≡ Offer p d))
offer_one e (Look x) n p old h = inl (ap (λ a. has_bit a (p % 64)) (sym (looked (same_word x (Word.Eligible n (p / 64))) old)) ∙ h)
offer_one e (TakeRight q d) n p old h = search (arith, page_bit-clear, false≢true)
offer_one e (Offer q d) n p old h = by_page (number_of d == n) (q == p) refl (sym (page_bit-set q p old (number_of d == n)) ∙ h)
  where
    by_page : (x t : Bool) → (q == p) ≡ t → (if x && t then true else has_bit old (p % 64)) ≡ true
        → (has_bit old (p % 64) ≡ true) ⊎ ((d' : Directory) × (Offer q d ≡ Offer p d'))
    by_page true true same set = inr (d, ap (λ (x : ℕ). Offer x d) (eqb-true q p same))
    by_page true false same set = inl set
    by_page false t same set = inl set
offer_one e s n p old h = inl h

-- A right that was got without a deed was that of an offered page.
got_by : (p : ℕ) (w : Whole) (s : Step) (a : ℕ) → a ≡ word_after w (target s) → ((x : Directory) → s ≡ Deed p x → a ≡ 0 → ⊥) → GetsRight p s a
    → (n : ℕ) × (eligible_bit w n p ≡ true)
got_by p w s a answer never got = search arith

-- A page without a deed made here was offered before the search if the search got it, or if it is offered afterwards.
pub was_offered_before : (f : Profile) (k : ℕ) (l : Whole) (p : ℕ) (xs : List Made) → Legal f (triples k xs ++ l) → Always ReturnsDuly xs
    → Always (MakesNoDeedHere p) xs
    → (Once (GetsHere p) xs → (n : ℕ) × (eligible_bit l n p ≡ true))
    × ((m : ℕ) → eligible_bit (triples k xs ++ l) m p ≡ true → (n : ℕ) × (eligible_bit l n p ≡ true))
was_offered_before f k l p [] legal due never = (λ got. absurd got, λ n bit. (n, bit))
was_offered_before f k l p (m ∷ xs) legal due never =
    let before = was_offered_before f k l p xs legal.1 due.1 never.1 in (
      search (arith, got_by),
      λ n bit. elim (offer_one (epoch_of (part k (triples k xs ++ l))) m.step n p (word_after (triples k xs ++ l) (Word.Eligible n (p / 64))) bit) [
        | inl was ↦ before.1 n was
        | inr o ↦ before.0 (due.0.0 p (subst (IsReturnOf p) (sym o.1) (IsReturnOf.Offers o.0)))
      ],
    )
