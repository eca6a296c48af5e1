-- ONE ACTOR ALONE in a request for whole pages: a page that it read as usable was so, and one that was so it neither reads as not usable nor loses nor breaks.
-- So a search finds the lowest usable run, a door's run is got just where it was whole, and the reason of a refusal is true.
use Rattle.std.proofs.Common.{◌≡◌, ◌≢◌, ℕ, ◌+◌, ◌*◌, ◌/◌, ◌%◌, ◌<◌, ◌==◌, Bool, true, false, List, [], ◌∷◌, ◌++◌, inl, inr, refl, ap, ◌⊎◌, sym, ◌∙◌, subst}
use Rattle.std.proofs.{Common.{arith, true≢false, eqb-true, eq-eqb, not}, lemmas.Bool.{false≢true, cases_eq, or_left}}
use Rattle.pas_bits.specs.Bits.{has_bit}
use Rattle.pas_profile.specs.{Directories.{deed_word_of, number_of, IsKind}, Profiles.{IsValid, IsPage, IsDirectoryOf}, declared.directory.Directory.Directory}
use Rattle.pas_profile.{specs.declared.{profile.Profile.Profile, word.Word.Word, event.NoRoom.NoRoom}, proofs.Codecs.deed_word_of-positive}
use Rattle.pas_steps.specs.{Effects.{target, free_word_at}, Past.{Once, Always, Since}, Desks.triples, Agreement.Agreed, Allowed.Allowed, Views.way}
use Rattle.pas_steps.specs.{Views.{has_right, KnowsDeed, known_deed}, Lists.{Whole, part, word_after, Legal}, Kinds.{looking, Only}, Evidence.ReadsEligible}
use Rattle.pas_steps.specs.{Evidence.{ReadsDeed, OneHere, ZeroHere, ParkedHere, LacksAfter, MissingHere, HeldHere}, declared.step.Step.{Step, TheVariants.Deed}}
use Rattle.pas_steps.{specs.declared.step.{Step.TheVariants.{TakeRight, Park}, Made.Made}, proofs.{Frames.right_own, Parts.part_of_own, Past.since_once}}
use Rattle.pas_steps.proofs.{Past.once_map, Apart.rights_same}
use Rattle.pas_core.{specs.Rights.{eligible_bit, free_of_page}, proofs.{Deeds.{known_is, number_told, deed_kept, looked}, OneActor.{unfit_entry, deed_none}}}
use Rattle.pas_core.proofs.{OneActor.{deed_later, legal_before, of_page}, Rights.{Spot, With, InParked, is_offered, is_offered-true, spot_after, spot_of}}
use Rattle.pas_core.proofs.{Rights.{DeedFits, spotted, no_deed, free_without_deed, offered_has_deed, deeds_known}, Nexts.agreed_steps}
use Rattle.pas_scan.specs.Usable.{OfHere, WholeHere, ReadUsable, ParksNotHere, IsFresh, MakesNoDeedHere, DeedReadHere, OtherDeedHere, NotOfferedHere}
use Rattle.pas_scan.proofs.LeftPages.{lacks_by}
use Rattle.pas_search.{specs.{Alone.IsLone, Telling.{IsInHands, IsTrueReason}}, proofs.LoneSteps.{fewer, once_lone, free_same, whole_read, used_never}}
use Rattle.pas_search.proofs.{LoneSteps.{none_read, never_made, of_now, was_offered_before}, FindingAPage.{known_exit, not_held_there, held_there}}
use Rattle.pas_large.specs.Evidence.{LostRightHere, LostDeedHere, LostHere, BrokenHere, NotAll, BadHere, HasBad, AllUsable, FailsHere, HasFailed, DeedsOf}
use Rattle.pas_large.specs.{Evidence.{MissedHere, GotOf}, Telling.{IsWholePage, IsUsablePage, IsUsableRun, HasNoUsableRun, IsLowestRun}, Finds.MayFind}
use Rattle.pas_large.{specs.{Finds.{FoundRun, FoundNone}, Refusals.{NotReadHere, IsAccounted, IsHeldLarge, IsReason}}, proofs.Pages.known_of}

-- ---- looks change no word
-- Looks leave each word as it was.
pub looks_same : (k : ℕ) (steps : List Made) (l : Whole) (w : Word) → Only looking steps → word_after (triples k steps ++ l) w ≡ word_after l w
looks_same k [] l w only = refl
looks_same k (m ∷ more) l w only = (search (arith, false≢true)) ∙ looks_same k more l w only.1

-- ---- readings
-- A reading of a page's deed word is its word.
deed_told : (l : Whole) (p : ℕ) (s : Step) (a : ℕ) → ReadsDeed p s → a ≡ word_after l (target s) → a ≡ word_after l (Word.Deed p)
deed_told l p s a reads is = search arith

-- A bit that was read of an eligible word is the page's bit in it.
eligible_told : (l : Whole) (d : Directory) (p : ℕ) (s : Step) (a : ℕ) → ReadsEligible d p s → a ≡ word_after l (target s)
    → has_bit a (p % 64) ≡ eligible_bit l (number_of d) p
eligible_told l d p s a reads is = search arith

-- ---- A PAGE THAT IS USABLE before the steps
-- a page without a deed has none where the actor made none
none_kept : (f : Profile) (k : ℕ) (l : Whole) (p : ℕ) (xs : List Made) → Legal f (triples k xs ++ l) → Always (MakesNoDeedHere p) xs
    → word_after l (Word.Deed p) ≡ 0 → word_after (triples k xs ++ l) (Word.Deed p) ≡ 0
none_kept f k l p [] legal made none = none
none_kept f k l p (m ∷ more) legal made none = let ih = none_kept f k l p more legal.1 made.1 none in search (arith, looked, eq-eqb, eqb-true, ih)

-- all grains of a usable page are free
usable_free : (f : Profile) (d : Directory) (l : Whole) (p : ℕ) → Legal f l → IsUsablePage d l p → (b : ℕ) → b < 256 → free_of_page l p b ≡ true
usable_free f d l p legal (inl none) b lt =
    let page : (p * 256 + b) / 256 ≡ p = omega (arith, lt) in
    let bit : b % 64 ≡ (p * 256 + b) % 64 = omega arith in
    ap (has_bit (word_after l (free_word_at (p * 256 + b)))) bit ∙ free_without_deed f l legal (p * 256 + b) (ap (λ q. word_after l (Word.Deed q)) page ∙ none)
usable_free f d l p legal (inr whole) b lt = whole.free b lt

module _ (f : Profile) (k : ℕ) (l : Whole) (d : Directory) (p : ℕ) (kind : IsKind d.kind) where
  -- A page of the directory that was offered, with all grains free, was whole.
  was_whole : Legal f l → word_after l (Word.Deed p) ≡ deed_word_of d → (n : ℕ) × (eligible_bit l n p ≡ true) → ((b : ℕ) → b < 256 → free_of_page l p b ≡ true)
      → IsWholePage d l p
  was_whole legal deed offered free = record { deed = deed; offered = ap (λ (i : ℕ). eligible_bit l i p) (number_told d offered.0 kind (sym deed ∙ offered_has_deed f l legal offered.0 p offered.1)) ∙ offered.1; free = free }

  -- Its grains were free where its words were read so.
  words_free : (xs : List Made) → IsLone f k l xs → ((word : ℕ) → word < 4 → Once (WholeHere p word) xs) → (b : ℕ) → b < 256 → free_of_page l p b ≡ true
  words_free xs lone words b lt =
      let at : 64 * (b / 64) + b % 64 ≡ b = omega arith in
      let word : b / 64 < 4 = omega (arith, lt) in
      subst (λ (x : ℕ). free_of_page l p x ≡ true) at (whole_read f k l p (b / 64) (b % 64) word (omega arith) xs lone (words (b / 64) word))

  offered_read : word_after l (Word.Deed p) ≢ 0 → (xs : List Made) → IsLone f k l xs → Once (OneHere d p) xs → (n : ℕ) × (eligible_bit l n p ≡ true)
  offered_read some = once_lone (OneHere d p) ((n : ℕ) × (eligible_bit l n p ≡ true)) f k l (λ m xs lone h.
      (was_offered_before f k l p xs lone.legal.1 lone.returns.1 (never_made f k l p xs lone.legal.1 some)).1 (number_of d)
      (sym (eligible_told (triples k xs ++ l) d p m.step m.answer h.0 lone.legal.0.answer_is) ∙ h.1))

  -- A PAGE THAT WAS READ AS USABLE was so before the steps.
  usable_was : (xs : List Made) → IsLone f k l xs → ReadUsable d p xs → IsUsablePage d l p
  usable_was xs lone (inl bare) = inl (none_read f k l p xs lone bare)
  usable_was xs lone (inr whole) = elim (cases_eq (word_after l (Word.Deed p)) 0) [
    | inl none ↦ inl none
    | inr some ↦ inr (was_whole (legal_before f k xs l lone.legal) (sym (deed_later k l p xs some) ∙ of_now f k l d p xs lone.legal whole.of)
        (offered_read some xs lone whole.offered) (words_free xs lone whole.free))
  ]

  -- So was one that is usable after them.
  usable_earlier : (xs : List Made) → IsLone f k l xs → IsUsablePage d (triples k xs ++ l) p → IsUsablePage d l p
  usable_earlier xs lone (inl none) = inl (deed_none k l p xs none)
  usable_earlier xs lone (inr whole) = elim (cases_eq (word_after l (Word.Deed p)) 0) [
    | inl none ↦ inl none
    | inr some ↦ inr (was_whole (legal_before f k xs l lone.legal) (sym (deed_later k l p xs some) ∙ whole.deed)
        ((was_offered_before f k l p xs lone.legal lone.returns (never_made f k l p xs lone.legal some)).1 (number_of d) whole.offered)
        (λ b lt. of_page l p b ∙ (sym (free_same f k l (p * 256 + b) xs lone) ∙ or_left _ _ (sym (of_page (triples k xs ++ l) p b) ∙ whole.free b lt))))
  ]

  -- A page that was got without a deed made here, and taken whole, was whole before the steps.
  pub got_whole : (xs : List Made) → IsLone f k l xs → GotOf d p xs → ((word : ℕ) → word < 4 → Once (WholeHere p word) xs) → IsWholePage d l p
  got_whole xs lone got words =
      search (arith, of_now, deed_word_of-positive, none_kept, was_whole, legal_before, deed_later, was_offered_before, words_free)

-- ---- no page of a usable run is lost
-- where the right of a page may be while one actor alone goes on that doesn't park it: nowhere, offered, or with that actor
abbrev pub is_clean : ℕ → Spot → Bool
is_clean k (With j) = j == k
is_clean k InParked = false
is_clean k o = true

-- Nothing but a park of the page by the actor makes it another: step by step.
clean_after : (k : ℕ) (s : Step) (a p : ℕ) (o : Spot) → (s ≡ Park p → ⊥) → is_clean k o ≡ true → is_clean k (spot_after k (way s a p) o) ≡ true
clean_after k s a p o ne h = search (arith, eq-eqb, eqb-true)

-- A right that is clean for an actor stays so by its own steps that don't park the page.
clean_own : (k : ℕ) (l : Whole) (p : ℕ) (xs : List Made) → Always (ParksNotHere p) xs → is_clean k (spot_of l p) ≡ true
    → is_clean k (spot_of (triples k xs ++ l) p) ≡ true
clean_own k l p [] none h = h
clean_own k l p (m ∷ more) none h = clean_after k m.step m.answer p _ none.0 (clean_own k l p more none.1 h)

offered_clean : (k n : ℕ) (o : Spot) → is_offered n o ≡ true → is_clean k o ≡ true
offered_clean k n o h = ap (is_clean k) (is_offered-true n o h)

-- a park reads nothing
reads_no_park : (d : Directory) (p : ℕ) (s : Step) → ReadsEligible d p s → s ≡ Park p → ⊥
reads_no_park d p s reads e = search arith

clean_since : (f : Profile) (k : ℕ) (l : Whole) (d : Directory) (p : ℕ) (xs : List Made) → Legal f (triples k xs ++ l) → Since (OneHere d p) (ParksNotHere p) xs
    → is_clean k (spot_of (triples k xs ++ l) p) ≡ true
clean_since f k l d p [] legal h = absurd h
clean_since f k l d p (m ∷ more) legal (inl one) =
    let w : Whole = triples k more ++ l in
    let bit = sym ((spotted f w legal.1 p).eligible (number_of d)) ∙ sym (eligible_told w d p m.step m.answer one.0 legal.0.answer_is) ∙ one.1 in
    clean_after k m.step m.answer p (spot_of w p) (reads_no_park d p m.step one.0) (offered_clean k (number_of d) (spot_of w p) bit)
clean_since f k l d p (m ∷ more) legal (inr h) = clean_after k m.step m.answer p _ h.0 (clean_since f k l d p more legal.1 h.1)

-- The right of a usable page is clean for each actor.
usable_clean : (f : Profile) (k : ℕ) (l : Whole) (d : Directory) (p : ℕ) → Legal f l → IsUsablePage d l p → is_clean k (spot_of l p) ≡ true
usable_clean f k l d p legal (inl none) = ap (is_clean k) (no_deed (spot_of l p) (subst (DeedFits (spot_of l p)) none (spotted f l legal p).deed))
usable_clean f k l d p legal (inr whole) = offered_clean k (number_of d) (spot_of l p) (sym ((spotted f l legal p).eligible (number_of d)) ∙ whole.offered)

-- ---- nor broken
fewer_not_all : (r fewer : ℕ → Bool) → ((b : ℕ) → b < 256 → fewer b ≡ true → r b ≡ true) → NotAll r → NotAll fewer
fewer_not_all r fewer less not all = not (λ b lt. less b lt (all b lt))

module _ (f : Profile) (k : ℕ) (l : Whole) (d : Directory) (p : ℕ) (kind : IsKind d.kind) (lacks : has_right (part k l) p ≡ false)
    (usable : IsUsablePage d l p) where
  -- A usable page that the call neither has nor parked last is offered still, where it is of the directory.
  still_offered : (xs : List Made) → Legal f (triples k xs ++ l) → IsFresh d p xs → has_right xs p ≡ false
      → word_after (triples k xs ++ l) (Word.Deed p) ≡ deed_word_of d → eligible_bit (triples k xs ++ l) (number_of d) p ≡ true
  still_offered xs legal fresh none deed =
      let w : Whole = triples k xs ++ l in
      let at = spotted f w legal p in
      let view : has_right (part k w) p ≡ false = ap (λ v. has_right v p) (part_of_own k xs l) ∙ (right_own p xs (part k l) lacks ∙ none) in
      let clean : is_clean k (spot_of (triples k xs ++ l) p) ≡ true =
      search (arith, clean_own, clean_since, usable_clean f k l d p (legal_before f k xs l legal) usable) in
      at.eligible (number_of d) ∙ (search (arith, deed_word_of-positive, true≢false, eq-eqb, number_told))

  lost_right : (m : Made) (xs : List Made) → IsLone f k l (m ∷ xs) → LostRightHere d p m xs → ⊥
  lost_right m xs lone lost =
      let w : Whole = triples k xs ++ l in
      let step : m.answer ≡ word_after w (target (TakeRight p d)) = lone.legal.0.answer_is ∙ ap (λ s. word_after w (target s)) lost.0 in
      let knows : KnowsDeed p d (part k w) = subst (λ s. Allowed f (part k w) s) lost.0 lone.legal.0.allowed in
      let deed = sym (known_is _ _ ((spotted f w lone.legal.1 p).known k) (λ z. deed_word_of-positive d (sym knows ∙ z))) ∙ knows in
      true≢false (sym (still_offered xs lone.legal.1 lost.3 lost.2 deed) ∙ (sym (eligible_told w d p (TakeRight p d) m.answer ReadsEligible.Claims step) ∙ lost.1))

  lost_deed : (m : Made) (xs : List Made) → IsLone f k l (m ∷ xs) → LostDeedHere d p m xs → ⊥
  lost_deed m xs lone lost = lost.1 (lone.legal.0.answer_is ∙ (ap (λ s. word_after (triples k xs ++ l) (target s)) lost.0
      ∙ none_kept f k l p xs lone.legal.1 lost.3 (none_read f k l p xs (fewer lone) lost.2)))

  -- A usable page is neither lost nor broken.
  lost_never : (m : Made) (xs : List Made) → IsLone f k l (m ∷ xs) → LostHere d p m xs ⊎ BrokenHere p m xs → ⊥
  lost_never m xs lone (inl (inl right)) = lost_right m xs lone right
  lost_never m xs lone (inl (inr deed)) = lost_deed m xs lone deed
  lost_never m xs lone (inr broken) = unfit_entry NotAll f k l p (m ∷ xs) fewer_not_all lone.legal lone.lends_none (inl broken)
      (usable_free f d l p (legal_before f k xs l lone.legal.1) usable)

  -- ---- nor is it read as not usable, where all deeds are of the directory
  module _ (n : ℕ) (Chosen : ℕ → Type 0) where
    deed_is : (xs : List Made) → Legal f (triples k xs ++ l) → DeedsOf d n Chosen xs
        → (word_after (triples k xs ++ l) (Word.Deed p) ≡ 0) ⊎ (word_after (triples k xs ++ l) (Word.Deed p) ≡ deed_word_of d)
    deed_is [] legal made = elim usable [ inl none ↦ inl none | inr whole ↦ inr whole.deed ]
    deed_is (m ∷ xs) legal made = search (arith, eq-eqb, eqb-true, deed_kept, deed_word_of-positive, made.0, (deed_is xs legal.1 made.1))

    other_never : (m : Made) (xs : List Made) → IsLone f k l (m ∷ xs) → DeedsOf d n Chosen xs → OtherDeedHere d p m xs → ⊥
    other_never m xs lone made other = search (arith, deed_told, deed_is, other.1, other.2)

    missing_never : (m : Made) (xs : List Made) → IsLone f k l (m ∷ xs) → NotOfferedHere d p m xs → ⊥
    missing_never m xs lone h = true≢false (search (arith, still_offered, of_now, eligible_told))

    -- A PAGE THAT WAS USABLE before the search doesn't fail in it.
    bad_never : (xs : List Made) → IsLone f k l xs → DeedsOf d n Chosen xs → Once (BadHere d p) xs → ⊥
    bad_never [] lone made h = h
    bad_never (m ∷ xs) lone made (inr h) = bad_never xs (fewer lone) made.1 h
    bad_never (m ∷ xs) lone made (inl (inl (inl other))) = other_never m xs lone made.1 other
    bad_never (m ∷ xs) lone made (inl (inl (inr (inl missing)))) = missing_never m xs lone missing
    bad_never (m ∷ xs) lone made (inl (inl (inr (inr used)))) = used_never f k l p (usable_free f d l p (legal_before f k xs l lone.legal.1) usable) m xs lone used
    bad_never (m ∷ xs) lone made (inl (inr failed)) = lost_never m xs lone failed

-- ==== RUNS, where the actor may find one
module _ (f : Profile) (k : ℕ) (l : Whole) (d : Directory) (n : ℕ) (kind : IsKind d.kind) (met : MayFind d (part k l)) where
  -- the actor hasn't the right of a usable page
  lacks_usable : Legal f l → (p : ℕ) → IsUsablePage d l p → has_right (part k l) p ≡ false
  lacks_usable legal p usable = met.lacks p (elim (cases_eq (known_deed (part k l) p) 0) [
    | inl none ↦ inl none
    | inr some ↦ by_word (known_is (known_deed (part k l) p) (word_after l (Word.Deed p)) (deeds_known f l legal k p) some) some usable
  ])
    where
      by_word : known_deed (part k l) p ≡ word_after l (Word.Deed p) → (known_deed (part k l) p ≡ 0 → ⊥) → IsUsablePage d l p
          → (known_deed (part k l) p ≡ 0) ⊎ (known_deed (part k l) p ≡ deed_word_of d)
      by_word is some (inl none) = absurd (some (is ∙ none))
      by_word is some (inr whole) = inr (is ∙ whole.deed)

  -- A usable page is neither lost nor broken, as its right isn't the actor's before.
  keeps_usable : (p : ℕ) (m : Made) (xs : List Made) → IsLone f k l (m ∷ xs) → IsUsablePage d l p → LostHere d p m xs ⊎ BrokenHere p m xs → ⊥
  keeps_usable p m xs lone usable = lost_never f k l d p kind (lacks_usable (legal_before f k xs l lone.legal.1) p usable) usable m xs lone

  -- A run all of whose pages were read as usable was usable before.
  pub run_was : (first : ℕ) (xs : List Made) → IsLone f k l xs → AllUsable d n first xs → IsUsableRun d n l first
  run_was first xs lone usable p here = usable_was f k l d p kind xs lone (usable p here)

  -- No such run fails.
  pub never_fails : (first : ℕ) (xs : List Made) → IsLone f k l xs → HasFailed d n first xs → ⊥
  never_fails first = once_lone (FailsHere d n first) ⊥ f k l
      (λ m xs lone h. keeps_usable h.1.0 m xs lone (run_was first xs (fewer lone) h.0 h.1.0 h.1.1) h.1.2)

  -- A run that has a bad page wasn't usable.
  pub bad_run : (Chosen : ℕ → Type 0) (first : ℕ) (xs : List Made) → IsLone f k l xs → DeedsOf d n Chosen xs → HasBad d n first xs → IsUsableRun d n l first → ⊥
  bad_run Chosen first xs lone deeds bad usable =
      let here = usable bad.0 bad.1 in
      bad_never f k l d bad.0 kind (lacks_usable (legal_before f k xs l lone.legal) bad.0 here) here n Chosen xs lone deeds bad.2

  -- THE RUN that a search found is the lowest one that was usable before it.
  pub lowest_alone : (first : ℕ) (xs : List Made) → IsLone f k l xs → FoundRun f d n xs first → IsLowestRun f d n l first
  lowest_alone first xs lone found = search (arith, run_was, bad_run, found.lower)

  -- Where it found none, there was none before it.
  pub none_alone : (xs : List Made) → IsLone f k l xs → FoundNone f d n xs → HasNoUsableRun f d n l
  none_alone xs lone found first low high = bad_run (λ r. HasFailed d n r xs) first xs lone found.deeds (found.vain.runs first low high)

  -- Nor is there one after the steps of an actor alone, where there was none before them.
  pub none_after : (xs : List Made) → IsLone f k l xs → HasNoUsableRun f d n l → HasNoUsableRun f d n (triples k xs ++ l)
  none_after xs lone none first low high usable = none first low high (λ p here. usable_earlier f k l d p kind xs lone (usable p here))

  -- No page is missed of a run that is whole before the steps.
  pub never_missed : (p : ℕ) → IsWholePage d l p → (xs : List Made) → IsLone f k l xs → Once (MissedHere d p) xs → ⊥
  never_missed p whole = once_lone (MissedHere d p) ⊥ f k l (λ m xs lone h. elim h [
    | inl other ↦ other.1 (deed_told (triples k xs ++ l) p m.step m.answer other.0 lone.legal.0.answer_is
        ∙ (deed_later k l p xs (λ none. deed_word_of-positive d (sym whole.deed ∙ none)) ∙ whole.deed))
    | inr (inl right) ↦ keeps_usable p m xs lone (inr whole) (inl (inl right))
    | inr (inr broken) ↦ keeps_usable p m xs lone (inr whole) (inr broken)
  ])

-- ==== THE REASON of a refusal whose steps only looked
module _ (f : Profile) (k : ℕ) (l : Whole) (d : Directory) (xs : List Made) (valid : IsValid f) (of : IsDirectoryOf f d) (legal : Legal f (triples k xs ++ l))
    (met : MayFind d (part k l)) (only : Only looking xs) (read : (p : ℕ) → IsPage f p → Once (DeedReadHere p) xs) where
  -- The looks agree with the actor's view.
  agreed : Agreed f (part k l) xs
  agreed = agreed_steps f k l xs valid legal

  may : (p : ℕ) → KnowsDeed p d (part k l) → has_right (part k l) p ≡ false
  may p known = met.lacks p (inr known)

  lacked : (p : ℕ) (ys : List Made) → Only looking ys → Always (LacksAfter p) ys
  lacked p [] looks = tt
  lacked p (m ∷ ys) looks = (lacks_by looking refl p (m ∷ ys) looks, lacked p ys looks.1)

  -- a page of the directory is known to be
  knows : (p : ℕ) → IsPage f p → word_after l (Word.Deed p) ≡ deed_word_of d → KnowsDeed p d (xs ++ part k l)
  knows p here deed = known_of f d p xs (part k l) agreed (read_as xs legal only (read p here))
    where
      read_as : (ys : List Made) → Legal f (triples k ys ++ l) → Only looking ys → Once (DeedReadHere p) ys → Once (OfHere d p) ys
      read_as [] ok looks h = h
      read_as (m ∷ more) ok looks (inl h) = inl (h, deed_told _ p m.step m.answer h ok.0.answer_is ∙ (looks_same k more l (Word.Deed p) looks.1 ∙ deed))
      read_as (m ∷ more) ok looks (inr h) = inr (read_as more ok.1 looks.1 h)

  not_in_hands : (p : ℕ) → IsInHands f d (triples k xs ++ l) p → (KnowsDeed p d (xs ++ part k l) → IsAccounted d p xs) → ⊥
  not_in_hands p hands account = not_held_there f k l d xs valid of legal may p (rights_same looking refl p xs (part k l) only)
      (elim (account (knows p hands.of_region (sym (looks_same k xs l (Word.Deed p) only) ∙ hands.of_directory))) [
        | inl accounted ↦ inl accounted
        | inr offered ↦ inr (since_once (OneHere d p) (NotReadHere d p) xs offered)
      ]) hands

  -- it was read as not offered before it was read as not parked, since it has a deed
  zero_at : (p : ℕ) → word_after l (Word.Deed p) ≢ 0 → (ys : List Made) → Legal f (triples k ys ++ l) → Once (MissingHere d p) ys → Once (ZeroHere d p) ys
  zero_at p some [] ok h = h
  zero_at p some (m ∷ ys) ok (inl (inl zero_read, lacks)) = inl zero_read
  zero_at p some (m ∷ ys) ok (inl (inr none, lacks)) = absurd (some (deed_none k l p ys (sym (deed_told _ p m.step m.answer none.0 ok.0.answer_is) ∙ none.1)))
  zero_at p some (m ∷ ys) ok (inr h) = inr (zero_at p some ys ok.1 h)

  held_zero : (p : ℕ) → word_after l (Word.Deed p) ≢ 0 → (ys : List Made) → Legal f (triples k ys ++ l) → Once (HeldHere d p) ys → Once (ZeroHere d p) ys
  held_zero p some [] ok h = h
  held_zero p some (m ∷ ys) ok (inl held) = inr (zero_at p some ys ok.1 (since_once (MissingHere d p) (LacksAfter p) ys held.1))
  held_zero p some (m ∷ ys) ok (inr h) = inr (held_zero p some ys ok.1 h)

  in_hands : (p : ℕ) → IsHeldLarge f d xs p → IsInHands f d (triples k xs ++ l) p
  in_hands p held =
      let known = held.of_directory (part k l) agreed in
      let exit = sym (known_exit f k l xs legal p (λ z. deed_word_of-positive d (sym known ∙ z))) ∙ known in
      let some : word_after l (Word.Deed p) ≢ 0 = (λ none. deed_word_of-positive d (sym exit ∙ (looks_same k xs l (Word.Deed p) only ∙ none))) in
      held_there f k l d xs valid of legal may p held.page_of known (lacked p xs only) (held_zero p some xs legal held.held)
      (once_map (HeldHere d p) (ParkedHere false p) xs (λ m before h. h.0) held.held)

  -- A reason that looks alone show is true of the words after them.
  pub true_reason : (why : NoRoom) → IsReason f d xs why → IsTrueReason f d (triples k xs ++ l) why
  true_reason why all = search (arith, agreed, not_in_hands, in_hands)
