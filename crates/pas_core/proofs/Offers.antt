-- Nothing is lost: hints, checks and offers of pages.
use Rattle.std.proofs.Common.{◌≡◌, ℕ, ◌+◌, ◌*◌, ◌/◌, ◌%◌, ◌^◌, ◌<◌, ◌==◌, Bool, true, false, not, ◌&&◌, ◌||◌, if◌then◌else◌, [], ◌∷◌, refl, ap, sym, ◌∙◌, arith}
use Rattle.std.proofs.{Common.{bit_and, bit_or, inl, inr, ◌≢◌, subst, ◌⊎◌, List, ◌++◌, w64, eqb-true, eq-eqb, ne_eqb}, lemmas.Bool.{false≢true, and_parts}}
use Rattle.std.proofs.lemmas.Bool.{cases_Bool, false_from_ne_true, cond_both, cond-false, cond-true, not-true, or_from, and_from, cases_lt, cases_eq}
use Rattle.std.{proofs.lemmas.Nat.and_le_r, specs.Int.bit_not}
use Rattle.pas_bits.{specs.Bits.has_bit, proofs.{Words.bit_cleared, PageVectors.{page_bit-clear, page_bit-set}}}
use Rattle.pas_profile.specs.{Profiles.IsValid, Directories.directory_read, declared.{profile.Profile.Profile, word.Word.Word}}
use Rattle.pas_steps.specs.{Effects.{free_word_at, target}, Allowed.{Allowed, IsStepOf, HoldsOn}, Desks.{made, triple, triples}, Clear.IsClear, Views.all_ones}
use Rattle.pas_steps.specs.Views.{hint_after, owes_hint, examined_after, examines, epoch_of, way, has_right, known_deed, usable_by, no_usable, check_after}
use Rattle.pas_steps.specs.{Views.owes_check, Lists.{Whole, part, word_after, IsNext, Legal}, declared.step.Step.{Step, TheVariants.{Look, Take, Put, Hint}}}
use Rattle.pas_steps.{specs.declared.step.{Step.TheVariants.{Unback, Unhint, Deed, Park}, Made.Made}, proofs.{Flags.stays_set, Bits.{none_set, all_set}}}
use Rattle.pas_steps.proofs.{Bits.all_below-at, Parts.part_of_others}
use Rattle.pas_core.specs.{Good.{Held, is_free, IsPlacedOnce}, Hints.{IsEmptyBacked, IsMinded}, Rights.{empty_bit, parked_bit, IsUsableFree, IsOwed}}
use Rattle.pas_core.{specs.Rights.{IsRightInOnePlace, IsRightOffered, IsRightParked, NobodyHasRight, NobodyOwes, AllClear}, proofs.Deeds.{next_value, looked}}
use Rattle.pas_core.proofs.{Deeds.{known_is, word_stays}, Grains.{is_held_by-true, placed_once}, Lives.words_fit, Rights.{InParked, is_with, is_parked}}
use Rattle.pas_core.proofs.Rights.{spot_after, spot_of, IsSpotted, spotted, parked_spot, right_in_one_place}

-- ==== A backed page whose grains are all free isn't forgotten: its empty bit is set, or some actor owes its hint, or some actor examines it.

free_bits : (l : Whole) (p w b : ℕ) → w < 4 → b < 64 → IsEmptyBacked l p → has_bit (word_after l (Word.Free p w)) b ≡ true
free_bits l p w b hw hb empty = (search arith) ∙ empty.free (p * 256 + w * 64 + b) (omega (arith, hw, hb))

full_word : (f : Profile) (l : Whole) → IsValid f → Legal f l → (p w : ℕ) → w < 4 → IsEmptyBacked l p → word_after l (Word.Free p w) ≡ all_ones
full_word f l valid legal p w hw empty = search (arith, all_set, words_fit, free_bits)

-- ---- what was so before a step
-- the step puts grains of the page back
abbrev puts : Step → ℕ → Bool
puts (Put q w mask) p = q == p
puts s p = false

-- A page that is backed by another's step was backed.
back_was : (x : Bool) (old : ℕ) → (x ≡ true → ⊥) → (if x then bit_or old 1 else old) ≡ 1 → old ≡ 1
back_was x old never h = grind arith

-- whoever backs a page holds a grain of it, so it isn't empty
back_not_empty : (f : Profile) (l : Whole) → IsValid f → Legal f l → (j q p : ℕ) → HoldsOn (part j l) q
    → ((g : ℕ) → g / 256 ≡ p → has_bit (word_after l (free_word_at g)) (g % 64) ≡ true) → (q == p) ≡ true → ⊥
back_not_empty f l valid legal j q p on free h =
    let at : IsPlacedOnce l on.0 = placed_once f l valid legal on.0 in
    let here : at.place ≡ Held j = is_held_by-true j at.place (sym (at.held j) ∙ on.2) in
    false≢true (sym (at.free ∙ ap is_free here) ∙ free on.0 (on.1 ∙ eqb-true q p h))

was_empty : (f : Profile) (l : Whole) → IsValid f → Legal f l → (j : ℕ) (s : Step) (a p : ℕ) → IsStepOf f s → Allowed f (part j l) s → puts s p ≡ false
    → IsEmptyBacked (triple j (made s a) ∷ l) p → IsEmptyBacked l p
was_empty f l valid legal j (Unback q) a p of allowed other h = record { backed = grind arith; free = h.free }
was_empty f l valid legal j s a p of allowed other h =
    search (arith, looked, back_was, back_not_empty, and_parts, bit_cleared, false_from_ne_true, false≢true, eq-eqb, eqb-true)

-- ---- debts and examinations
-- the debt and the examination stay where the step ends none, and the bit where it stays set
keeps : (l : Whole) (j : ℕ) (s : Step) (a p : ℕ) → hint_after s a p true ≡ true → examined_after s a p true ≡ true
    → (empty_bit l p ≡ true → IsMinded (triple j (made s a) ∷ l) p) → IsMinded l p → IsMinded (triple j (made s a) ∷ l) p
keeps l j s a p hint examined bit e = grind (arith, cond_both)

-- who puts grains of a page back owes its hint
put_owes : (s : Step) (a p : ℕ) (was : Bool) → puts s p ≡ true → hint_after s a p was ≡ true
put_owes s a p was h = grind (arith, false≢true)

take_keeps : (f : Profile) (l : Whole) → IsValid f → Legal f l → (j q w mask a p : ℕ) → w < 4 → mask < 2 ^ 64 → a ≡ word_after l (Word.Free q w)
    → IsEmptyBacked l p → IsEmptyBacked (triple j (made (Take q w mask) a) ∷ l) p
    → ((q == p) && (not (a == all_ones) || not (bit_and a mask == 0))) ≡ false
take_keeps f l valid legal j q w mask a p hw hm is empty now = false_from_ne_true _ (λ h.
    let parts = and_parts (q == p) (not (a == all_ones) || not (bit_and a mask == 0)) h in
    let full : a ≡ all_ones = is ∙ ap (λ x. word_after l (Word.Free x w)) (eqb-true q p parts.0) ∙ full_word f l valid legal p w hw empty in
    let none : mask ≡ 0 = none_set mask hm (λ b' hb'.
    let both : ((w == w) && (q == p)) ≡ true = ap (λ t. t && (q == p)) (eq-eqb w w refl) ∙ parts.0 in
    let cleared : (has_bit (word_after l (Word.Free p w)) b' && not (has_bit mask b')) ≡ true
    = sym (bit_cleared _ mask b' hm hb')
    ∙ ap (λ t. has_bit (if t then bit_and (word_after l (Word.Free p w)) (bit_not w64 mask) else word_after l (Word.Free p w)) b') (sym both)
    ∙ (free_bits _ p w b' hw hb' now) in
    not-true _ (and_parts (has_bit (word_after l (Word.Free p w)) b') (not (has_bit mask b')) cleared).1) in
    let zero : bit_and a mask ≡ 0 = ap (bit_and a) none ∙ (let le = and_le_r a 0 in omega (arith, le)) in
    false≢true (sym (or_from _ _ (ap not (eq-eqb a all_ones full)) (ap not (eq-eqb _ 0 zero))) ∙ parts.1))

-- the empty bit
hint_keeps : (l : Whole) (j q a p : ℕ) → (x : Bool) → (q == p) ≡ x → IsMinded l p → IsMinded (triple j (made (Hint q) a) ∷ l) p
hint_keeps l j q a p true e was = inl (page_bit-set q p (word_after l (Word.Empty (p / 64))) true ∙ cond-true (q == p) true (empty_bit l p) e)
hint_keeps l j q a p false e was = keeps l j (Hint q) a p (cond-false _ false true e) (cond-false _ false true e) (λ set. inl (page_bit-set q p _ true ∙ stays_set _ _ set)) was

-- who clears the bit that was set examines the page
unhint_bit : (l : Whole) (j q a p : ℕ) → a ≡ word_after l (Word.Empty (q / 64)) → (x : Bool) → (q == p) ≡ x → empty_bit l p ≡ true
    → IsMinded (triple j (made (Unhint q) a) ∷ l) p
unhint_bit l j q a p is true e set =
    let read : has_bit a (p % 64) ≡ true = ap (λ n. has_bit n (p % 64)) (is ∙ ap (λ x. word_after l (Word.Empty (x / 64))) (eqb-true q p e)) ∙ set in
    inr (inr (record { actor = j; examines_it = ap (λ b. examines (if b then (made (Unhint q) a) ∷ (part j l) else (part j l)) p) (eq-eqb j j refl) ∙ ap (λ t. if t && has_bit a (p % 64) then true else examines (part j l) p) e ∙ ap (λ t. if t then true else examines (part j l) p) read }))
unhint_bit l j q a p is false e set = inl (page_bit-clear q p (word_after l (Word.Empty (p / 64))) true ∙ cond-false (q == p) false (empty_bit l p) e ∙ set)

-- what a step leaves of a page's hint; a look at hints changes no word, so that what the view said of the page it says still
minded_step : (f : Profile) (l : Whole) → IsValid f → Legal f l → (j : ℕ) (s : Step) (a p : ℕ) → IsStepOf f s → a ≡ word_after l (target s) → IsEmptyBacked l p
    → IsEmptyBacked (triple j (made s a) ∷ l) p → IsMinded l p → IsMinded (triple j (made s a) ∷ l) p
minded_step f l valid legal j (Look (Word.Free q w)) a p of is was now h = search (arith, cond-false, false_from_ne_true, and_parts, eqb-true, full_word, false≢true, eq-eqb)
minded_step f l valid legal j (Look (Word.Backed q)) a p of is was now h = search (arith, cond-false, false_from_ne_true, and_parts, eqb-true)
minded_step f l valid legal j (Look (Word.Empty i)) a p of is was now h = search arith
minded_step f l valid legal j (Take q w mask) a p of is was now h = keeps l j (Take q w mask) a p (cond-false _ false true (take_keeps f l valid legal j q w mask a p of.1 of.2 is was now)) (cond-false _ false true (take_keeps f l valid legal j q w mask a p of.1 of.2 is was now)) (λ set. inl set) h
minded_step f l valid legal j (Put q w mask) a p of is was now h = keeps l j (Put q w mask) a p (stays_set (q == p) true refl) refl (λ set. inl set) h
minded_step f l valid legal j (Hint q) a p of is was now h = hint_keeps l j q a p (q == p) refl h
minded_step f l valid legal j (Unhint q) a p of is was now h = keeps l j (Unhint q) a p refl (stays_set _ true refl) (unhint_bit l j q a p is _ refl) h
minded_step f l valid legal j s a p of is was now h = keeps l j s a p refl refl (λ set. inl set) h

-- a backed page whose grains are all free has its empty bit set, or some actor owes its hint, or some actor examines it
pub empty_is_minded : (f : Profile) (l : Whole) → IsValid f → Legal f l → (p : ℕ) → IsEmptyBacked l p → IsMinded l p
empty_is_minded f [] valid legal p h = absurd (omega (arith, h.backed))
empty_is_minded f (t ∷ l) valid legal p h =
    let next : IsNext f l t = legal.0 in
    let s = t.made.step in
    let a = t.made.answer in
    let j = t.actor in
    elim (cases_Bool _) [
      | inl put ↦ inr (inl (record { actor = t.actor; owes = ap (λ b. owes_hint (if b then t.made ∷ (part t.actor l) else (part t.actor l)) p) (eq-eqb t.actor _ refl) ∙ put_owes t.made.step t.made.answer p (owes_hint (part t.actor l) p) put }))
      | inr other ↦
          let was : IsEmptyBacked l p = was_empty f l valid legal.1 _ _ _ p next.of_region next.allowed other h in
          minded_step f l valid legal.1 _ _ _ p next.of_region next.answer_is was h (empty_is_minded f l valid legal.1 p was)
    ]

-- ==== Where a parked page has a free usable grain, some actor owes the check of its word.

-- ---- debts
-- the debt after a step, of an actor that owed it
abbrev stays_owed : Whole → Step → ℕ → ℕ → ℕ → ℕ → Bool
stays_owed l s a p w k = check_after s a p w (has_right (part k l) p) (known_deed (part k l) p) true

-- a debt stays where its own actor's step leaves it
keeps_owed : (l : Whole) (j : ℕ) (s : Step) (a p w : ℕ) → ((k : ℕ) → stays_owed l s a p w k ≡ true) → IsOwed l p w → IsOwed (triple j (made s a) ∷ l) p w
keeps_owed l j s a p w keep owed = search (arith, cond_both)

-- the actor of the step owes it now
owes_now : (l : Whole) (j : ℕ) (s : Step) (a p w : ℕ)
    → check_after s a p w (has_right (part j l) p) (known_deed (part j l) p) (owes_check (part j l) p w) ≡ true → IsOwed (triple j (made s a) ∷ l) p w
owes_now l j s a p w h = record { actor = j; owes = ap (λ t. owes_check (if t then made s a ∷ part j l else part j l) p w) (eq-eqb j j refl) ∙ h }

-- ---- a look that finds no usable bit
-- the word of a look has a usable bit, so the look ends no debt
look_keeps : (l : Whole) (q u a p w b k : ℕ) → IsSpotted l p → IsUsableFree l p w b → a ≡ word_after l (Word.Free q u)
    → ((u == w) && (q == p) && not (known_deed (part k l) p == 0) && no_usable (known_deed (part k l) p) w a) ≡ false
look_keeps l q u a p w b k at is_free is = false_from_ne_true _ (λ h.
    let none = and_parts ((u == w) && (q == p) && not (known_deed (part k l) p == 0)) (no_usable (known_deed (part k l) p) w a) h in
    let knows = and_parts ((u == w) && (q == p)) (not (known_deed (part k l) p == 0)) none.0 in
    let here = and_parts (u == w) (q == p) knows.0 in
    let word : a ≡ word_after l (Word.Free p w) =
    is ∙ ap (λ x. word_after l (Word.Free q x)) (eqb-true u w here.0) ∙ ap (λ x. word_after l (Word.Free x w)) (eqb-true q p here.1) in
    let some : known_deed (part k l) p ≢ 0 = λ z. false≢true (ap not (sym (eq-eqb _ 0 z)) ∙ knows.1) in
    let deed : known_deed (part k l) p ≡ word_after l (Word.Deed p) = known_is _ _ (at.known k) some in
    false≢true (sym (ap not (and_from _ _ (ap (λ n. has_bit n b) word ∙ is_free.free) (ap (λ n. usable_by (directory_read n) (64 * w + b)) deed ∙ is_free.usable)))
    ∙ all_below-at 64 b (λ i. not (has_bit a i && usable_by (directory_read (known_deed (part k l) p)) (64 * w + i))) none.1 is_free.small))

-- ---- what was so before a step
-- ---- steps
-- a page stays parked only where its parked bit isn't cleared
unpark_other : (l : Whole) (q a p : ℕ) → IsSpotted l p → a ≡ word_after l (Word.Parked (q / 64)) → spot_of l p ≡ InParked
    → ((q == p) && has_bit a (p % 64)) ≡ false → (q == p) ≡ false
unpark_other l q a p at is parked none = search (arith, false_from_ne_true, eqb-true, is_parked, false≢true, and_from)

owed_step : (f : Profile) (l : Whole) (j e : ℕ) (s : Step) (a p w b : ℕ) → b < 64 → IsSpotted l p → IsStepOf f s → a ≡ word_after l (target s)
    → (spot_of l p ≡ InParked → has_bit (word_after l (Word.Free p w)) b ≡ true → IsOwed l p w)
    → (spot_of l p ≡ InParked → has_bit (word_after l (Word.Free p w)) b ≡ true → IsUsableFree l p w b)
    → spot_after j (way s a p) (spot_of l p) ≡ InParked → has_bit (next_value e s (Word.Free p w) (word_after l (Word.Free p w))) b ≡ true
    → IsOwed (triple j (made s a) ∷ l) p w
owed_step f l j e (Look (Word.Free q u)) a p w b small at of is before usable o free =
    search (arith, looked, keeps_owed, cond-false, look_keeps)
owed_step f l j e (Put q u mask) a p w b small at of is before usable o free = grind (arith, owes_now, is_with, keeps_owed, stays_set)
owed_step f l j e (Park q) a p w b small at of is before usable o free = grind (arith, owes_now, keeps_owed, stays_set)
owed_step f l j e s a p w b small at of is before usable o free = search (arith, keeps_owed, and_parts, bit_cleared, cond-false, unpark_other)

-- the induction
owed_at : (f : Profile) (l : Whole) → Legal f l → (p w b : ℕ) → spot_of l p ≡ InParked → IsUsableFree l p w b → IsOwed l p w
owed_at f [] legal p w b o free = absurd cc
owed_at f (t ∷ l) legal p w b o free =
    let at : IsSpotted l p = spotted f l legal.1 p in
    let next : IsNext f l t = legal.0 in
    let e : ℕ = epoch_of (part t.actor l) in
    let was : spot_of l p ≡ InParked → has_bit (word_after l (Word.Free p w)) b ≡ true → IsUsableFree l p w b = search (arith, known_is, word_stays) in
    owed_step f l _ e _ _ p w b free.small at next.of_region next.answer_is (λ parked bit. owed_at f l legal.1 p w b parked (was parked bit)) was o free.free

-- where a parked page has a free usable grain, some actor owes the check of its word
pub parked_is_owed : (f : Profile) (l : Whole) → Legal f l → (p w b : ℕ) → parked_bit l p ≡ true → IsUsableFree l p w b → IsOwed l p w
parked_is_owed f l legal p w b parked free = owed_at f l legal p w b (parked_spot l p (spotted f l legal p) parked) free

-- ==== Nothing is lost: a page with a free usable grain, whose right no actor has and whose check no actor owes, is offered, and once all actors are clear
-- an empty page that is backed is hinted. And actors are those of the profile.

offered_place : (f : Profile) (l : Whole) → Legal f l → (p w b : ℕ) → word_after l (Word.Deed p) ≢ 0 → IsUsableFree l p w b → NobodyHasRight l p
    → NobodyOwes l p w → IsRightInOnePlace f l p → IsRightOffered f l p
offered_place f l legal p w b deed free lacks paid (inl none) = absurd (deed none.no_deed)
offered_place f l legal p w b deed free lacks paid (inr (inl one)) = absurd (false≢true (sym (lacks one.actor) ∙ one.holder one.actor ∙ eq-eqb one.actor one.actor refl))
offered_place f l legal p w b deed free lacks paid (inr (inr (inl offers))) = offers
offered_place f l legal p w b deed free lacks paid (inr (inr (inr parks))) =
    let owed : IsOwed l p w = parked_is_owed f l legal p w b parks.parked free in
    absurd (false≢true (sym (paid owed.actor) ∙ owed.owes))

-- NO PAGE IS LOST
pub free_is_offered : (f : Profile) (l : Whole) → Legal f l → (p w b : ℕ) → word_after l (Word.Deed p) ≢ 0 → IsUsableFree l p w b → NobodyHasRight l p
    → NobodyOwes l p w → IsRightOffered f l p
free_is_offered f l legal p w b deed free lacks paid = offered_place f l legal p w b deed free lacks paid (right_in_one_place f l legal p)

-- an actor past the threads makes no step
pub no_other_actor : (f : Profile) (l : Whole) → Legal f l → (k : ℕ) → f.threads < k → part k l ≡ []
no_other_actor f [] legal k past = refl
no_other_actor f (t ∷ l) legal k past = search (arith, ne_eqb, no_other_actor f l legal.1 k past)

-- ---- all at rest
-- When all actors are clear, a page with a usable free grain whose right nobody has is offered.
pub offered_at_rest : (f : Profile) (l : Whole) → Legal f l → AllClear f l → (p w b : ℕ) → w < 4 → word_after l (Word.Deed p) ≢ 0 → IsUsableFree l p w b
    → NobodyHasRight l p → IsRightOffered f l p
offered_at_rest f l legal clear p w b small deed free lacks = free_is_offered f l legal p w b deed free lacks (λ k. elim (cases_lt f.threads k) [
  | inl past ↦ ap (λ v. owes_check v p w) (no_other_actor f l legal k past)
  | inr within ↦ ((clear k within).on p).owes.checks w small
])

-- so is any actor
pub each_clear : (f : Profile) (l : Whole) → Legal f l → AllClear f l → (k : ℕ) → IsClear (part k l)
each_clear f l legal clear k = elim (cases_lt f.threads k) [
  | inl past ↦ subst IsClear (sym (no_other_actor f l legal k past)) (record { on = λ page. record { stamped = refl; owes = record { checks = λ word lt. refl; hint = refl }; examined = refl } })
  | inr within ↦ clear k within
]

-- When all actors are clear, a page that is backed and empty has its empty bit set.
pub hinted_at_rest : (f : Profile) (l : Whole) → IsValid f → Legal f l → AllClear f l → (page : ℕ) → IsEmptyBacked l page → empty_bit l page ≡ true
hinted_at_rest f l valid legal clear page h = elim (empty_is_minded f l valid legal page h) [
  | inl set ↦ set
  | inr (inl owed) ↦ absurd (false≢true (sym ((each_clear f l legal clear owed.actor).on page).owes.hint ∙ owed.owes))
  | inr (inr at) ↦ absurd (false≢true (sym ((each_clear f l legal clear at.actor).on page).examined ∙ at.examines_it))
]

-- ---- one actor alone goes on
lone_place : (f : Profile) (l : Whole) (k : ℕ) (steps : List Made) (p : ℕ) → NobodyHasRight l p → word_after (triples k steps ++ l) (Word.Deed p) ≢ 0
    → has_right (part k (triples k steps ++ l)) p ≡ false
    → IsRightInOnePlace f (triples k steps ++ l) p → IsRightOffered f (triples k steps ++ l) p ⊎ IsRightParked (triples k steps ++ l) p
lone_place f l k steps p nobody deed lacks (inl none) = absurd (deed none.no_deed)
lone_place f l k steps p nobody deed lacks (inr (inl one)) =
    let has : has_right (part one.actor (triples k steps ++ l)) p ≡ true = one.holder one.actor ∙ eq-eqb one.actor one.actor refl in
    search (arith, cases_eq, part_of_others)
lone_place f l k steps p nobody deed lacks (inr (inr (inl offers))) = inl offers
lone_place f l k steps p nobody deed lacks (inr (inr (inr parks))) = inr parks

-- After steps of one actor alone, a page whose right nobody had before and it hasn't now is offered or parked.
pub lone_right : (f : Profile) (l : Whole) (k : ℕ) (steps : List Made) → Legal f (triples k steps ++ l) → (p : ℕ) → NobodyHasRight l p
    → word_after (triples k steps ++ l) (Word.Deed p) ≢ 0
    → has_right (part k (triples k steps ++ l)) p ≡ false → IsRightOffered f (triples k steps ++ l) p ⊎ IsRightParked (triples k steps ++ l) p
lone_right f l k steps legal p nobody deed lacks = lone_place f l k steps p nobody deed lacks (right_in_one_place f (triples k steps ++ l) legal p)
