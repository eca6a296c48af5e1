-- Rights and what views know: where the right of a page is, the bits of page vectors that are set, and that what views know of deeds, of free grains and
-- of backed pages is true.
use Rattle.std.proofs.Common.{◌≡◌, ◌≢◌, ℕ, ◌/◌, ◌%◌, ◌==◌, Bool, true, false, ◌&&◌, if◌then◌else◌, [], ◌∷◌, refl, ap, sym, ◌∙◌, subst, inl, inr, arith, not}
use Rattle.std.proofs.{Common.{◌||◌, bit_or, ◌+◌, ◌*◌, ◌≤◌, eqb-true, eq-eqb}, lemmas.Bool.{false≢true, and_parts, cond_both, eqb-false, or_left, or_cases}}
use Rattle.std.proofs.lemmas.{Bool.{false_from_ne_true, cases_eq, Decides.nat_tests}, Nat.Bits.bit_at_ones}
use Rattle.pas_bits.{specs.Bits.has_bit, proofs.{Words.{none_of_zero, bit_cleared, bit_of_or}, PageVectors.{page_bit-clear, page_bit-set}}}
use Rattle.pas_profile.specs.{Directories.{number_of, deed_word_of, deed_word_numbered, IsKind}, Profiles.{IsPage, IsDirectoryOf, IsValid}}
use Rattle.pas_profile.{specs.declared.{profile.Profile.Profile, directory.Directory.Directory, word.Word.Word}, proofs.Codecs.deed_word_of-positive}
use Rattle.pas_profile.proofs.Codecs.{numbered}
use Rattle.pas_steps.specs.{Effects.{target, free_word_at, in_mask}, Allowed.Allowed, Agreement.IsDeedWord, Frames.unbacks, Views.{Way, Rests, ByDeed}}
use Rattle.pas_steps.specs.Views.{FromOffer, FromParked, ToOffer, ToParked, way, has_right, deed_after, known_deed, epoch_of, free_after, known_free, View}
use Rattle.pas_steps.specs.{Views.{holds, holds_on, backed_after, knows_backed}, Lists.{Whole, part, word_after, IsNext, Legal, Triple}}
use Rattle.pas_steps.{specs.declared.step.Step.{Step, TheVariants.{Look, Deed, Offer, Park, Take}}, proofs.{Flags.was_set, Frames.{any_one, backed_holds}}}
use Rattle.pas_steps.proofs.Parts.{each_part}
use Rattle.pas_core.{specs.Rights.{parked_bit, eligible_bit, empty_bit, IsRightInOnePlace}, proofs.Deeds.{next_value, looked, IsKnown, known_is, word_stays}}
use Rattle.pas_core.proofs.{Deeds.{deed_tells, look_tells, deed_at, numbered_ne, deed_words, deed_has_page, number_told}, Grains.{if_true, one_holder}}

-- ==== The right of each page is at one spot after a legal list, and what views know of deeds is true. Each needs the other, so one induction
-- proves both: an offer goes into the vector of the directory that its actor knows, and a set bit of that vector tells the directory.

-- ---- where the right of a page is
pub data Spot : Type 0 where
  Nowhere : Spot  -- the page has no deed
  With : ℕ → Spot  -- this actor has it
  Offered : ℕ → Spot  -- in the eligible vector of the directory of this number
  InParked : Spot

abbrev pub is_nowhere : Spot → Bool
is_nowhere Nowhere = true
is_nowhere s = false

abbrev pub is_with : ℕ → Spot → Bool
is_with k (With j) = j == k
is_with k s = false

abbrev pub is_offered : ℕ → Spot → Bool
is_offered n (Offered m) = m == n
is_offered n s = false

abbrev pub is_parked : Spot → Bool
is_parked InParked = true
is_parked s = false

abbrev pub spot_after : ℕ → Way → Spot → Spot
spot_after j Rests o = o
spot_after j (ToOffer n) o = Offered n
spot_after j ToParked o = InParked
spot_after j s o = With j

abbrev pub spot_of : Whole → ℕ → Spot
spot_of [] p = Nowhere
spot_of (t ∷ l) p = spot_after t.actor (way t.made.step t.made.answer p) (spot_of l p)

-- the actor may move it so from there
abbrev pub Suits : ℕ → Way → Spot → Type 0
Suits j Rests o = Unit {0}
Suits j ByDeed o = o ≡ Nowhere
Suits j (FromOffer n) o = o ≡ Offered n
Suits j FromParked o = o ≡ InParked
Suits j (ToOffer n) o = o ≡ With j
Suits j ToParked o = o ≡ With j

-- what the deed word says there
abbrev pub DeedFits : Spot → ℕ → Type 0
DeedFits Nowhere word = word ≡ 0
DeedFits (With k) word = word ≢ 0
DeedFits (Offered n) word = word ≡ deed_word_numbered n
DeedFits InParked word = word ≢ 0

-- the views and the words tell the spot, and the views know nothing false of the deed
pub record IsSpotted (l : Whole) (p : ℕ) : Type 0 where
  pub has : (k : ℕ) → has_right (part k l) p ≡ is_with k (spot_of l p)
  pub eligible : (n : ℕ) → eligible_bit l n p ≡ is_offered n (spot_of l p)
  pub parked : parked_bit l p ≡ is_parked (spot_of l p)
  pub deed : DeedFits (spot_of l p) (word_after l (Word.Deed p))
  pub known : (k : ℕ) → IsKnown (known_deed (part k l) p) (word_after l (Word.Deed p))

-- ---- the spots, from their tests
-- A right that passes as offered to a directory's number is offered there.
pub is_offered-true : (n : ℕ) (o : Spot) → is_offered n o ≡ true → o ≡ Offered n
is_offered-true n s h = grind (arith, eqb-true, false≢true)

-- The right of a page without a deed is nowhere.
pub no_deed : (o : Spot) → DeedFits o 0 → o ≡ Nowhere
no_deed s h = grind (arith, numbered_ne)

-- where there is a right there is a deed
somewhere : (o : Spot) (word : ℕ) → DeedFits o word → is_nowhere o ≡ false → word ≢ 0
somewhere s word h e = grind (arith, false≢true, numbered_ne)

-- ---- the ways, whatever the step
abbrev parked_moved : Way → Bool → Bool
parked_moved FromParked was = false
parked_moved ToParked was = true
parked_moved s was = was

abbrev offered_moved : Way → ℕ → Bool → Bool
offered_moved (FromOffer m) n was = if m == n then false else was
offered_moved (ToOffer m) n was = if m == n then true else was
offered_moved s n was = was

-- ---- the parked words
-- A page is parked where it was, or where it is parked now.
park_cases : (y was : Bool) → (if y then true else was) ≡ parked_moved (if y then ToParked else Rests) was
park_cases y was = grind arith

-- ---- the eligible words
eligible_step : (l : Whole) (e : ℕ) (s : Step) (a p n : ℕ) → a ≡ word_after l (target s)
    → has_bit (next_value e s (Word.Eligible n (p / 64)) (word_after l (Word.Eligible n (p / 64)))) (p % 64) ≡ offered_moved (way s a p) n (eligible_bit l n p)
eligible_step l e s a p n is = search (arith, page_bit-clear, eqb-true, page_bit-set, cond_both)

-- ---- a legal step's way suits
with_here : (f : Profile) (l : Whole) (j q p : ℕ) → IsSpotted l p → has_right (part j l) q ≡ true → (q == p) ≡ true → spot_of l p ≡ With j
with_here f l j q p at has h = grind (arith, eqb-true, false≢true)

-- A legal step finds each right where its move takes it from.
pub step_suits : (f : Profile) (l : Whole) (j : ℕ) (s : Step) (a p : ℕ) → IsSpotted l p → Allowed f (part j l) s → a ≡ word_after l (target s)
    → Suits j (way s a p) (spot_of l p)
step_suits f l j s a p at allowed is = search (arith, cond_both, and_parts, eqb-true, is_offered-true, with_here, false≢true)

suits_then : (j : ℕ) (m : Way) (o : Spot) (t : Bool) → t ≡ true → Suits j (if t then m else Rests) o → Suits j m o
suits_then j m o t e h = subst (λ b. Suits j (if b then m else Rests) o) e h

-- ---- the deed word at each spot
-- the deed that an actor knows is that of the page
known_here : (l : Whole) (j q p : ℕ) (d : Directory) → IsSpotted l p → known_deed (part j l) q ≡ deed_word_of d → (q == p) ≡ true
    → word_after l (Word.Deed p) ≡ deed_word_of d
known_here l j q p d at knows h = search (arith, eqb-true, known_is, deed_word_of-positive)

-- ---- what is known of deeds
-- an actor's own step tells it the word
deed_learns : (l : Whole) (e : ℕ) (s : Step) (a p known : ℕ) → IsSpotted l p → a ≡ word_after l (target s) → IsKnown known (word_after l (Word.Deed p))
    → IsKnown (deed_after s a p known) (next_value e s (Word.Deed p) (word_after l (Word.Deed p)))
deed_learns l e s a p known at is h = search (arith, look_tells, deed_at, and_parts, is_offered-true, eqb-true, deed_tells)

-- ---- the induction
-- the right of each page is at one spot
pub spotted : (f : Profile) (l : Whole) → Legal f l → (p : ℕ) → IsSpotted l p
spotted f [] legal p = record { has = λ k. refl; eligible = λ n. none_of_zero (p % 64); parked = none_of_zero (p % 64); deed = refl; known = λ k. inl refl }
spotted f (t ∷ l) legal p =
    let at : IsSpotted l p = spotted f l legal.1 p in
    let s = t.made.step in
    let a = t.made.answer in
    let j = t.actor in
    let e : ℕ = epoch_of (part t.actor l) in
    let next : IsNext f l t = legal.0 in
    let suits : Suits j (way s a p) (spot_of l p) = step_suits f l j s a p at next.allowed next.answer_is in
    record {
      has = λ k. cond_both (j == k) (t.made ∷ part k l) (part k l) (λ v. has_right v p ≡ is_with k (spot_of (t ∷ l) p)) (λ e. grind arith) (λ e. grind arith);
      eligible = λ n. eligible_step l e s a p n next.answer_is ∙ ap (offered_moved (way s a p) n) (at.eligible n) ∙ (grind (arith, if_true));
      parked = (search (arith, cond_both, page_bit-set, park_cases, page_bit-clear, eqb-true)) ∙ ap (parked_moved (way s a p)) at.parked ∙ (grind arith);
      deed = search (arith, nat_tests, deed_word_of-positive, eqb-true, cond_both, somewhere, suits_then, known_here, numbered);
      known = λ k. search (arith, cond_both, deed_learns, word_stays, at.known);
    }

-- ==== What follows for rights, for the bits of page vectors, and for the grains that views know as free.

-- ---- rights
-- at most one actor has the right of a page
pub one_has_right : (f : Profile) (l : Whole) → Legal f l → (j k p : ℕ) → has_right (part j l) p ≡ true → has_right (part k l) p ≡ true → j ≡ k
one_has_right f l legal j k p hj hk =
    let at : IsSpotted l p = spotted f l legal p in
    let there : spot_of l p ≡ With j = (grind (arith, eqb-true, false≢true)) in
    eqb-true j k (sym (ap (is_with k) there) ∙ sym (at.has k) ∙ hk)

-- the spot of a right that an actor has, that is offered, or that is parked
with_spot : (l : Whole) (k p : ℕ) → IsSpotted l p → has_right (part k l) p ≡ true → spot_of l p ≡ With k
with_spot l k p at h = grind (arith, eqb-true, false≢true)

-- A page whose eligible bit is set has its right offered in that directory's vector.
pub offered_spot : (l : Whole) (n p : ℕ) → IsSpotted l p → eligible_bit l n p ≡ true → spot_of l p ≡ Offered n
offered_spot l n p at h = is_offered-true n (spot_of l p) (sym (at.eligible n) ∙ h)

-- A page whose parked bit is set has its right parked.
pub parked_spot : (l : Whole) (p : ℕ) → IsSpotted l p → parked_bit l p ≡ true → spot_of l p ≡ InParked
parked_spot l p at h = grind (arith, false≢true)

deed_at_spot : (l : Whole) (p : ℕ) (o : Spot) → IsSpotted l p → spot_of l p ≡ o → DeedFits o (word_after l (Word.Deed p))
deed_at_spot l p o at is = subst (λ x. DeedFits x (word_after l (Word.Deed p))) is at.deed

-- a page whose right an actor has has a deed
pub right_has_deed : (f : Profile) (l : Whole) → Legal f l → (k p : ℕ) → has_right (part k l) p ≡ true → word_after l (Word.Deed p) ≢ 0
right_has_deed f l legal k p h = let at : IsSpotted l p = spotted f l legal p in deed_at_spot l p (With k) at (with_spot l k p at h)

-- a page that is offered in the vector of a directory's number has the deed of that directory
pub offered_has_deed : (f : Profile) (l : Whole) → Legal f l → (n p : ℕ) → eligible_bit l n p ≡ true → word_after l (Word.Deed p) ≡ deed_word_numbered n
offered_has_deed f l legal n p h = let at : IsSpotted l p = spotted f l legal p in deed_at_spot l p (Offered n) at (offered_spot l n p at h)

-- whoever has a right sees it neither offered nor parked
pub right_not_offered : (f : Profile) (l : Whole) → Legal f l → (k n p : ℕ) → has_right (part k l) p ≡ true → eligible_bit l n p ≡ false
right_not_offered f l legal k n p h = let at : IsSpotted l p = spotted f l legal p in at.eligible n ∙ ap (is_offered n) (with_spot l k p at h)

-- A page whose right an actor has isn't parked.
pub right_not_parked : (f : Profile) (l : Whole) → Legal f l → (k p : ℕ) → has_right (part k l) p ≡ true → parked_bit l p ≡ false
right_not_parked f l legal k p h = let at : IsSpotted l p = spotted f l legal p in at.parked ∙ ap is_parked (with_spot l k p at h)

in_place : (f : Profile) (l : Whole) (p : ℕ) (o : Spot) → ((k : ℕ) → has_right (part k l) p ≡ is_with k o) → ((n : ℕ) → eligible_bit l n p ≡ is_offered n o)
    → parked_bit l p ≡ is_parked o → DeedFits o (word_after l (Word.Deed p))
    → IsDeedWord f (word_after l (Word.Deed p)) → IsRightInOnePlace f l p
in_place f l p Nowhere has eligible parked deed word = inl (record { no_deed = deed; nobody = has; not_offered = eligible; not_parked = parked })
in_place f l p (With j) has eligible parked deed word = inr (inl (record { a_deed = deed; actor = j; holder = has; not_offered = eligible; not_parked = parked }))
in_place f l p (Offered n) has eligible parked deed word = search (arith, numbered_ne, number_told)
in_place f l p InParked has eligible parked deed word = inr (inr (inr (record { a_deed = deed; nobody = has; not_offered = eligible; parked = parked })))

-- the right of each page that has a deed is in exactly one place
pub right_in_one_place : (f : Profile) (l : Whole) → Legal f l → (p : ℕ) → IsRightInOnePlace f l p
right_in_one_place f l legal p = search (arith, spotted, in_place, deed_words)

-- the bit in the vector of the page's own directory says whether the right is offered
abbrev pub is_on_offer : Spot → Bool
is_on_offer (Offered n) = true
is_on_offer s = false

own_offer : (o : Spot) (d : Directory) → IsKind d.kind → DeedFits o (deed_word_of d) → is_offered (number_of d) o ≡ is_on_offer o
own_offer s d kind fits = grind (arith, eq-eqb, number_told)

-- The eligible bit in a page's own directory is set exactly where its right is offered.
pub own_eligible : (f : Profile) (l : Whole) → Legal f l → (p : ℕ) (d : Directory) → IsDirectoryOf f d → word_after l (Word.Deed p) ≡ deed_word_of d
    → eligible_bit l (number_of d) p ≡ is_on_offer (spot_of l p)
own_eligible f l legal p d of deed =
    cc ((spotted f l legal p).eligible (number_of d), own_offer _ d of.kind (subst (DeedFits (spot_of l p)) deed (spotted f l legal p).deed))

-- a set bit of an eligible word tells the deed that an actor knows, if it knows one
pub offered_is_known : (f : Profile) (l : Whole) → Legal f l → (k n p : ℕ) → eligible_bit l n p ≡ true → known_deed (part k l) p ≢ 0
    → known_deed (part k l) p ≡ deed_word_numbered n
offered_is_known f l legal k n p h ne =
    cc (known_is (known_deed (part k l) p) (word_after l (Word.Deed p)) ((spotted f l legal p).known k) ne, offered_has_deed f l legal n p h)

-- ---- bits of page vectors are of pages
pub offered_page : (f : Profile) (l : Whole) → Legal f l → (n p : ℕ) → eligible_bit l n p ≡ true → IsPage f p
offered_page f l legal n p h = deed_has_page f l legal p (λ z. numbered_ne n (sym (offered_has_deed f l legal n p h) ∙ z))

-- A page whose parked bit is set is one of the region.
pub parked_page : (f : Profile) (l : Whole) → Legal f l → (p : ℕ) → parked_bit l p ≡ true → IsPage f p
parked_page f l legal p h = deed_has_page f l legal p (let at : IsSpotted l p = spotted f l legal p in deed_at_spot l p InParked at (parked_spot l p at h))

-- A page whose empty bit is set is one of the region.
pub hinted_page : (f : Profile) (l : Whole) → Legal f l → (p : ℕ) → empty_bit l p ≡ true → IsPage f p
hinted_page f [] legal p h = absurd (false≢true (sym (none_of_zero (p % 64)) ∙ h))
hinted_page f (t ∷ l) legal p h = search (arith, eqb-true, page_bit-set, was_set, page_bit-clear, hinted_page f l legal.1 p)

-- ---- free grains
-- the free bit of a grain
abbrev pub free_bit : Whole → ℕ → Bool
free_bit l g = has_bit (word_after l (free_word_at g)) (g % 64)

-- the step clears the grain's bit
abbrev takes : Step → ℕ → Bool
takes (Take q w mask) g = in_mask q w mask g
takes s g = false

-- the step's actor gives the page's right away
abbrev leaves : Step → ℕ → Bool
leaves (Offer q d) p = q == p
leaves (Park q) p = q == p
leaves s p = false

-- A put keeps each free bit that was set.
pub put_keeps : (x : Bool) (old mask b : ℕ) → has_bit old b ≡ true → has_bit (if x then bit_or old mask else old) b ≡ true
put_keeps x old mask b h = grind (arith, bit_of_or, or_left)

takes_page : (q w mask g : ℕ) → in_mask q w mask g ≡ true → q ≡ g / 256
takes_page q w mask g h = search (arith, and_parts, eqb-true)

takes_not : (f : Profile) (l : Whole) (j : ℕ) (s : Step) (g : ℕ) → IsSpotted l (g / 256) → Allowed f (part j l) s → (spot_of l (g / 256) ≡ With j → ⊥)
    → takes s g ≡ false
takes_not f l j s g at allowed never = false_from_ne_true (takes s g) (λ h. never (grind (arith, eqb-true, false≢true, takes_page)))

with_differs : (j k : ℕ) (o : Spot) → o ≡ With k → (j == k) ≡ false → o ≡ With j → ⊥
with_differs j k o h ne g = let e : With j ≡ With k = sym g ∙ h in let same : j ≡ k = cc in eqb-false j k ne same

-- what another actor's step leaves
other_spot : (j k : ℕ) (m : Way) (o : Spot) → Suits j m o → (j == k) ≡ false → o ≡ With k → spot_after j m o ≡ With k
other_spot j k s o suits ne h = grind (arith, with_differs)

-- the free bits that follow from the spot of the page's right
pub record IsClear (l : Whole) (g : ℕ) : Type 0 where
  pub bare : spot_of l (g / 256) ≡ Nowhere → free_bit l g ≡ true
  pub free : (k : ℕ) → known_free (part k l) g ≡ true → (spot_of l (g / 256) ≡ With k) × (free_bit l g ≡ true)

abbrev Known : ℕ → Spot → Bool → Type 0
Known j o bit = (o ≡ With j) × (bit ≡ true)

-- the step tells its actor that the grain is free
abbrev tells_free : Step → ℕ → ℕ → Bool → Bool
tells_free (Look (Word.Free q w)) a g right = (w == g / 64 % 4) && (q == g / 256) && right && has_bit a (g % 64)
tells_free (Deed q d) a g right = (q == g / 256) && (a == 0)
tells_free s a g right = false

-- a grain is known as free if the step tells so, or if it was, and the step neither takes it nor gives the right away
free_after-is : (s : Step) (a g : ℕ) (right known : Bool)
    → free_after s a g right known ≡ (tells_free s a g right || (not (takes s g) && not (leaves s (g / 256)) && known))
free_after-is s a g right known = grind arith

-- the step tells it, and it is so
told_free : (f : Profile) (l : Whole) (j e : ℕ) (s : Step) (a g : ℕ) → IsSpotted l (g / 256) → IsClear l g → Allowed f (part j l) s
    → a ≡ word_after l (target s) → tells_free s a g (has_right (part j l) (g / 256)) ≡ true
    → Known j (spot_after j (way s a (g / 256)) (spot_of l (g / 256))) (has_bit (next_value e s (free_word_at g) (word_after l (free_word_at g))) (g % 64))
told_free f l j e s a g at clear allowed is h = search (arith, and_parts, eqb-true, false≢true, step_suits)

own_spot : (j : ℕ) (s : Step) (a p : ℕ) (o : Spot) → leaves s p ≡ false → o ≡ With j → spot_after j (way s a p) o ≡ With j
own_spot j s a p o stays h = grind (arith, cond_both, false≢true)

nowhere_not_with : (j : ℕ) (o : Spot) → o ≡ Nowhere → o ≡ With j → ⊥
nowhere_not_with j o h g = let e : Nowhere ≡ With j = sym h ∙ g in absurd cc

-- After every legal list each grain is clear.
cleared : (f : Profile) (l : Whole) → Legal f l → (g : ℕ) → IsClear l g
cleared f [] legal g = record { bare = λ h. ap (λ x. x == 1) (bit_at_ones 64 (g % 64) (omega arith)); free = λ k h. absurd (false≢true h) }
cleared f (t ∷ l) legal g =
    let clear : IsClear l g = cleared f l legal.1 g in
    let at : IsSpotted l (g / 256) = spotted f l legal.1 _ in
    let next : IsNext f l t = legal.0 in
    let s = t.made.step in
    let a = t.made.answer in
    let j = t.actor in
    let e : ℕ = epoch_of (part t.actor l) in
    record {
      bare = search (arith, looked, bit_cleared, put_keeps, takes_not, nowhere_not_with);
      free = λ k. cond_both (j == k) (t.made ∷ part k l) (part k l) (λ v. known_free v g ≡ true → Known k (spot_of (t ∷ l) (g / 256)) (free_bit (t ∷ l) g))
          (λ same h. let e' : j ≡ k = eqb-true j k same in
          subst (λ i. Known i (spot_of (t ∷ l) (g / 256)) (free_bit (t ∷ l) g)) e'
          (search (arith, or_cases, free_after-is, told_free, own_spot, looked, bit_cleared, put_keeps)))
          (λ ne h. (search (arith, other_spot, step_suits, looked, bit_cleared, put_keeps, takes_not, with_differs)));
    }

-- a grain that a view knows as free is free
pub free_known : (f : Profile) (l : Whole) → Legal f l → (k g : ℕ) → known_free (part k l) g ≡ true → free_bit l g ≡ true
free_known f l legal k g h = let clear : IsClear l g = cleared f l legal g in (clear.free k h).1

-- who knows a grain as free has the right of its page
pub free_known_has_right : (f : Profile) (l : Whole) → Legal f l → (k g : ℕ) → known_free (part k l) g ≡ true → has_right (part k l) (g / 256) ≡ true
free_known_has_right f l legal k g h = cc ((spotted f l legal _).has k, ((cleared f l legal g).free k h).0, eq-eqb k k refl)

-- each grain of a page without a deed is free
pub free_without_deed : (f : Profile) (l : Whole) → Legal f l → (g : ℕ) → word_after l (Word.Deed (g / 256)) ≡ 0 → free_bit l g ≡ true
free_without_deed f l legal g none =
    let clear : IsClear l g = cleared f l legal g in
    let at : IsSpotted l (g / 256) = spotted f l legal _ in
    clear.bare (no_deed (spot_of l (g / 256)) (subst (DeedFits (spot_of l (g / 256))) none at.deed))

-- ==== What views know of deeds and of backed pages is true.

-- what a view knows of a deed word is the word
pub deeds_known : (f : Profile) (l : Whole) → Legal f l → (k p : ℕ) → IsKnown (known_deed (part k l) p) (word_after l (Word.Deed p))
deeds_known f l legal k p = let at : IsSpotted l p = spotted f l legal p in at.known k

-- ---- backed pages
or_one : (old : ℕ) → old ≤ 1 → bit_or old 1 ≡ 1
or_one old h = elim (cases_eq old 0) [ inl e ↦ ap (λ n. bit_or n 1) e | inr ne ↦ let one : old ≡ 1 = omega arith in ap (λ n. bit_or n 1) one ]

-- a backed word is 0 or 1
pub backed_small : (f : Profile) (l : Whole) → Legal f l → (p : ℕ) → word_after l (Word.Backed p) ≤ 1
backed_small f [] legal p = omega arith
backed_small f (t ∷ l) legal p = grind (arith, looked, cond_both, or_one, backed_small f l legal.1 p)

back_tells : (x known : Bool) (old : ℕ) → old ≤ 1 → (known ≡ true → old ≡ 1) → (if x then true else known) ≡ true → (if x then bit_or old 1 else old) ≡ 1
back_tells x known old small was told = grind (arith, or_one)

-- A page that is known as backed after a backing ended is another, and its word stands.
unback_tells : (x known : Bool) (old : ℕ) → (known ≡ true → old ≡ 1) → (if x then false else known) ≡ true → (if x then 0 else old) ≡ 1
unback_tells x known old h e = grind arith

unbacks_held : (f : Profile) (v : View) (s : Step) (p : ℕ) → Allowed f v s → unbacks s p ≡ true → (g : ℕ) → g / 256 ≡ p → holds v g ≡ true
unbacks_held f v s p allowed h = grind (arith, eqb-true, false≢true)

-- so no other does while this actor holds one
other_unbacks : (f : Profile) (l : Whole) → IsValid f → Legal f l → (t : Triple) (k p : ℕ) → IsNext f l t → (t.actor == k) ≡ false
    → holds_on (part k l) p ≡ true → unbacks t.made.step p ≡ false
other_unbacks f l valid legal t k p next other held = false_from_ne_true (unbacks t.made.step p) (λ h.
    let one = any_one 256 (λ i. holds (part k l) (p * 256 + i)) held in
    let lt = one.1 in
    let all : holds (part t.actor l) (p * 256 + one.0) ≡ true = unbacks_held f (part t.actor l) t.made.step p next.allowed h (p * 256 + one.0) (omega (arith, lt)) in
    false≢true (sym other ∙ one_holder f l valid legal t.actor k (p * 256 + one.0) all one.2))

-- a page that a view knows as backed is
pub backed_known : (f : Profile) (l : Whole) → IsValid f → Legal f l → (k p : ℕ) → knows_backed (part k l) p ≡ true → word_after l (Word.Backed p) ≡ 1
backed_known f l valid legal k p = each_part f (λ l k v. knows_backed v p ≡ true → word_after l (Word.Backed p) ≡ 1) (λ k told. absurd (false≢true told))
    (λ t l legal before h. (grind (arith, nat_tests, eqb-true, back_tells, unback_tells, backed_small f l legal.1 p, (and_parts (backed_after t.made.step t.made.answer p (knows_backed (part t.actor l) p)) (holds_on (t.made ∷ part t.actor l) p) h).0)))
    (λ t l k legal other before h. (grind (arith, looked, cond_both, other_unbacks f l valid legal.1 t k p legal.0 other (backed_holds (part k l) p h)))) l legal k
