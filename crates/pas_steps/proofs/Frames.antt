-- What steps leave as it was.
use Rattle.std.proofs.Common.{◌≡◌, ℕ, ◌≤◌, Bool, true, false, ◌&&◌, List, [], ◌∷◌, ◌++◌, length, Option, refl, ap, sym, ◌∙◌, subst, arith, append_assoc, ◌%◌}
use Rattle.std.proofs.{Common.{if◌then◌else◌, ◌==◌, true≢false, ◌+◌, eqb-true, ◌≢◌, ◌*◌, ◌/◌, ◌<◌, ne_eqb}, lemmas.Bool.{and_parts, and_right, cond-false}}
use Rattle.std.{proofs.lemmas.Bool.{and_from, Decides.{nat_tests, Decides-below_or}}, specs.Bool.Decides}
use Rattle.pas_bits.specs.Bits.{has_bit}
use Rattle.pas_profile.specs.{declared.{event.Event.Event, directory.Directory.Directory, profile.Profile.Profile, word.Word.Word}, Directories.number_of}
use Rattle.pas_profile.proofs.Codecs.{deed_word_of-positive}
use Rattle.pas_steps.specs.{declared.step.{Made.Made, Step.{Step, TheVariants.{Deed, TakeRight, Offer, Park, Unpark, Look}}}, Views.{View, Way, way, Rests}}
use Rattle.pas_steps.specs.Views.{ByDeed, FromOffer, FromParked, ToOffer, ToParked, had_after, right_after, has_right, epoch_of, given_after, given_count}
use Rattle.pas_steps.specs.Views.{Stays, grain_move, held_after, holds, deed_after, known_deed, KnowsDeed, hint_after, examined_after, examines, any_below}
use Rattle.pas_steps.specs.{Views.{holds_on, backed_after, knows_backed}, Events.{event_of, with_event, events_of, events_by}, Past.Always, Effects.in_mask}
use Rattle.pas_steps.specs.{Agreement.{Agrees, Agreed}, Frames.{GivesUp, KeepsRight, IsOnPage, IsReturn, IsRead, IsScan, OnlyOn, OnlyReturns, OnlyReads}}
use Rattle.pas_steps.{specs.Frames.{OnlyScans, IsLook, AreLooks, unbacks}, proofs.{Flags.{ends_none, stays_set}, Past.always_map}}

-- ---- events
pub with_append : (o : Option Event) (xs ys : List Event) → with_event o (xs ++ ys) ≡ with_event o xs ++ ys
with_append o xs ys = grind arith

-- the events of two calls
pub events_append : (k : ℕ) (ys xs : List Made) (v : View) → events_by k v (ys ++ xs) ≡ events_by k (xs ++ v) ys ++ events_by k v xs
events_append k [] xs v = refl
events_append k (y ∷ ys) xs v =
    ap (λ w. with_event (event_of k (epoch_of w) y.step y.answer) (events_by k v (ys ++ xs))) (append_assoc ys xs v)
    ∙ ap (with_event (event_of k (epoch_of (ys ++ (xs ++ v))) y.step y.answer)) (events_append k ys xs v)
    ∙ with_append (event_of k (epoch_of (ys ++ (xs ++ v))) y.step y.answer) (events_by k (xs ++ v) ys) (events_by k v xs)

-- The events of steps after a view are those of the steps and those of the view.
pub events_split : (k : ℕ) (xs : List Made) (v : View) → events_of k (xs ++ v) ≡ events_by k v xs ++ events_of k v
events_split k [] v = refl
events_split k (m ∷ xs) v = ap (with_event _) (events_split k xs v) ∙ with_append _ (events_by k v xs) (events_of k v)

-- A step makes the events at most one more.
pub with_few : (o : Option Event) (es : List Event) → length (with_event o es) ≤ length es + 1
with_few o es = grind arith

-- A step that gives adds an event, and no other changes the count.
given_step : (k e : ℕ) (s : Step) (a n : ℕ) (es : List Event) → n ≤ length es → given_after s n ≤ length (with_event (event_of k e s a) es)
given_step k e s a n es h = grind arith

-- each block that was given is an event
pub given_le : (k : ℕ) (v : View) → given_count v ≤ length (events_of k v)
given_le k [] = omega arith
given_le k (m ∷ v) = given_step k (epoch_of v) m.step m.answer (given_count v) (events_of k v) (given_le k v)

-- ---- a right stays until it is given up
moves_to : (x had : Bool) (w : Way) → had_after w had ≡ true → had ≡ true → had_after (if x then w else Rests) had ≡ true
moves_to x had w now h = grind arith

-- The right of another page stays.
gone : (q p : ℕ) (t had : Bool) (w : Way) → (q == p) ≡ t → (q ≡ p → ⊥) → had ≡ true → had_after (if t then w else Rests) had ≡ true
gone q p t had w e ne h = grind (arith, eqb-true)

right_stays : (s : Step) (a p : ℕ) (had : Bool) → (GivesUp p s → ⊥) → had ≡ true → right_after s a p had ≡ true
right_stays (Deed q d) a p had keeps h = moves_to ((q == p) && (a == 0)) had ByDeed refl h
right_stays (TakeRight q d) a p had keeps h = moves_to ((q == p) && has_bit a (p % 64)) had (FromOffer (number_of d)) refl h
right_stays (Offer q d) a p had keeps h = gone q p (q == p) had (ToOffer (number_of d)) refl (λ e. keeps (subst (λ x. GivesUp p (Offer x d)) (sym e) (GivesUp.Offers d))) h
right_stays (Park q) a p had keeps h = gone q p (q == p) had ToParked refl (λ e. keeps (subst (λ x. GivesUp p (Park x)) (sym e) GivesUp.Parks)) h
right_stays (Unpark q) a p had keeps h = moves_to ((q == p) && has_bit a (p % 64)) had FromParked refl h
right_stays s a p had keeps h = h

-- A right that its actor had stays its own through steps that keep it.
pub rights_stay : (xs : List Made) (v : View) (p : ℕ) → KeepsRight p xs → has_right v p ≡ true → has_right (xs ++ v) p ≡ true
rights_stay [] v p keeps h = h
rights_stay (m ∷ xs) v p keeps h = right_stays m.step m.answer p (has_right (xs ++ v) p) keeps.0 (rights_stay xs v p keeps.1 h)

-- ---- the right by a call's own steps
pub right_own : (p : ℕ) (ys xs : List Made) → has_right xs p ≡ false → has_right (ys ++ xs) p ≡ has_right ys p
right_own p [] xs h = h
right_own p (y ∷ ys) xs h = ap (had_after (way y.step y.answer p)) (right_own p ys xs h)

-- A right that the steps of a call have is had after them.
pub right_of_own : (p : ℕ) (xs : List Made) (v : View) → has_right xs p ≡ true → has_right (xs ++ v) p ≡ true
right_of_own p [] v h = absurd (true≢false (sym h))
right_of_own p (m ∷ xs) v h = grind (arith, right_of_own p xs v)

-- Steps that never have a right lack it afterwards.
pub lacks_now : (p : ℕ) (xs : List Made) → Always (λ m before. has_right (m ∷ before) p ≡ false) xs → has_right xs p ≡ false
lacks_now p [] h = refl
lacks_now p (m ∷ more) h = h.0

-- What the framed steps leave as it was: rights, grains, knowledge, debts and events, and which pages are known as backed.
-- ==== Rights, grains, knowledge, debts and events.

-- ---- tests of another page
other : (p q : ℕ) → q ≢ p → (p == q) ≡ false
other p q ne = ne_eqb p q (λ e. ne (sym e))

-- Where the first test fails, the second way is taken.
unless : {A : Type 0} (t u : Bool) (x y : A) → t ≡ false → (if t && u then x else y) ≡ y
unless t u x y h = ap (λ s. if s && u then x else y) h

-- ---- steps on one page alone: nothing of another page changes, but for what is known of it
on_way : (p q : ℕ) (s : Step) (a : ℕ) → IsOnPage p s → q ≢ p → way s a q ≡ Rests
on_way p q s a step ne = grind (arith, unless, other, cond-false)

-- Steps on one page leave the right of every other where it was.
pub right_on : (p q : ℕ) (steps : List Made) (v : View) → OnlyOn p steps → q ≢ p → has_right (steps ++ v) q ≡ has_right v q
right_on p q [] v h ne = refl
right_on p q (m ∷ more) v h ne = ap (λ w. had_after w (has_right (more ++ v) q)) (on_way p q m.step m.answer h.0 ne) ∙ right_on p q more v h.1 ne

-- A grain of another page is in no mask of this one.
outside : (w p mask g : ℕ) → (p == g / 256) ≡ false → in_mask p w mask g ≡ false
outside w p mask g h = ap (λ t. (w == g / 64 % 4) && t && has_bit mask (g % 64)) h ∙ ap (λ t. t && has_bit mask (g % 64)) (and_right (w == g / 64 % 4) false refl)

-- A step on one page moves no grain of another.
pub on_grain : (p : ℕ) (s : Step) (a g : ℕ) → IsOnPage p s → g / 256 ≢ p → grain_move s a g ≡ Stays
on_grain p s a g step ne = grind (arith, unless, outside, other, cond-false)

-- Steps on one page hold no other grains than before.
pub holds_on_page : (p g : ℕ) (steps : List Made) (v : View) → OnlyOn p steps → g / 256 ≢ p → holds (steps ++ v) g ≡ holds v g
holds_on_page p g [] v h ne = refl
holds_on_page p g (m ∷ more) v h ne = ap (λ x. held_after x (holds (more ++ v) g)) (on_grain p m.step m.answer g h.0 ne) ∙ holds_on_page p g more v h.1 ne

-- A look leaves the hint of a page as it was, where none was owed.
pub look_hint : (word : Word) (a q : ℕ) (owed : Bool) → owed ≡ false → hint_after (Look word) a q owed ≡ false
look_hint s a q owed h = grind (arith, ends_none)

on_examined : (p : ℕ) (s : Step) (a q : ℕ) (was : Bool) → IsOnPage p s → was ≡ false → examined_after s a q was ≡ false
on_examined p s a q was is h = grind (arith, look_hint, ends_none)

-- no page becomes one that is examined
pub examined_on : (p q : ℕ) (steps : List Made) (v : View) → OnlyOn p steps → examines v q ≡ false → examines (steps ++ v) q ≡ false
examined_on p q [] v h e = e
examined_on p q (m ∷ more) v h e = on_examined p m.step m.answer q (examines (more ++ v) q) h.0 (examined_on p q more v h.1 e)

-- ---- a deed stays known, whatever the steps
told_here : (known a word : ℕ) (t z : Bool) → (a == 0) ≡ z → (t ≡ true → a ≡ known) → known ≢ 0 → (if t then (if z then word else a) else known) ≡ known
told_here known a word t z h e k = grind (arith, nat_tests)

-- A word that is read again is what is known.
told_bit : {A : Type 0} (known word : A) (t : Bool) → (t ≡ true → word ≡ known) → (if t then word else known) ≡ known
told_bit known word t h = grind arith

deed_same : (f : Profile) (v : View) (s : Step) (a p : ℕ) → Agrees f v s a → known_deed v p ≢ 0 → deed_after s a p (known_deed v p) ≡ known_deed v p
deed_same f v s a p agrees ne = grind (arith, told_bit, eqb-true, and_parts, told_here)

-- A known deed stays known.
pub deed_stays : (f : Profile) (steps : List Made) (v : View) (p : ℕ) → Agreed f v steps → known_deed v p ≢ 0 → known_deed (steps ++ v) p ≡ known_deed v p
deed_stays f [] v p agreed ne = refl
deed_stays f (m ∷ more) v p agreed ne =
    let before : known_deed (more ++ v) p ≡ known_deed v p = deed_stays f more v p agreed.1 ne in
    deed_same f (more ++ v) m.step m.answer p agreed.0 (λ z. ne (sym before ∙ z)) ∙ before

-- so does that a page is of a directory
pub knows_still : (f : Profile) (d : Directory) (page : ℕ) (steps : List Made) (v : View) → Agreed f v steps → KnowsDeed page d v
    → KnowsDeed page d (steps ++ v)
knows_still f d page steps v agreed known = deed_stays f steps v page agreed (λ z. deed_word_of-positive d (sym known ∙ z)) ∙ known

-- ---- what is on a page
return_on : (p : ℕ) (s : Step) → IsReturn p s → IsOnPage p s
return_on p s (IsReturn.LooksFree w) = IsOnPage.Looks (Word.Free p w)
return_on p s IsReturn.LooksBacked = IsOnPage.Looks (Word.Backed p)
return_on p s (IsReturn.Offers d) = IsOnPage.Offers d
return_on p s IsReturn.Parks = IsOnPage.Parks
return_on p s IsReturn.Unparks = IsOnPage.Unparks
return_on p s IsReturn.Hints = IsOnPage.Hints

-- Steps that only return grains to a page are on that page.
pub returns_on : (p : ℕ) (steps : List Made) → OnlyReturns p steps → OnlyOn p steps
returns_on p steps = always_map (λ m before. IsReturn p m.step) (λ m before. IsOnPage p m.step) steps (λ m before. return_on p m.step)

-- A scan's step is a look.
scan_look : (s : Step) → IsScan s → IsLook s
scan_look s is = grind arith

-- Steps that are scans are looks.
pub scans_look : (steps : List Made) → OnlyScans steps → AreLooks steps
scans_look [] h = tt
scans_look (m ∷ more) h = (scan_look m.step h.0, scans_look more h.1)

-- ---- steps that changed nothing
look_read : (s : Step) (a : ℕ) → IsLook s → IsRead s a
look_read (Look word) a h = IsRead.Looks word a
look_read s a h = absurd h

-- Steps that are looks are reads.
pub looks_read : (steps : List Made) → AreLooks steps → OnlyReads steps
looks_read [] h = tt
looks_read (m ∷ more) h = (look_read m.step m.answer h.0, looks_read more h.1)

read_way : (s : Step) (a q : ℕ) → IsRead s a → way s a q ≡ Rests
read_way s a q e = grind (arith, ne_eqb, and_right)

-- Reads leave each right where it was.
pub right_reads : (q : ℕ) (steps : List Made) (v : View) → OnlyReads steps → has_right (steps ++ v) q ≡ has_right v q
right_reads q [] v h = refl
right_reads q (m ∷ more) v h = ap (λ w. had_after w (has_right (more ++ v) q)) (read_way m.step m.answer q h.0) ∙ right_reads q more v h.1

-- ==== A page that is known as backed stays so while a grain of it that is held isn't moved, whatever the steps.

-- ---- some number below a bound
any_decides : (n : ℕ) (p : ℕ → Bool) → Decides (any_below n p) ((i : ℕ) × (i < n) × (p i ≡ true))
unfolding any_below
any_decides n p = Decides-below_or p (λ i. p i ≡ true) (λ n. any_below n p) (λ i. (λ h. h, λ h. h)) refl (λ n. refl) n

-- Where some number below a bound passes a test, one does.
pub any_one : (n : ℕ) (p : ℕ → Bool) → any_below n p ≡ true → (i : ℕ) × (i < n) × (p i ≡ true)
any_one n p h = (any_decides n p).0 h

-- A number below a bound that passes a test makes that some does.
pub any_from : (n : ℕ) (p : ℕ → Bool) (i : ℕ) → i < n → p i ≡ true → any_below n p ≡ true
any_from n p i lt h = (any_decides n p).1 (i, lt, h)

-- ---- one step
one_read : (a : ℕ) (t known : Bool) → (t ≡ true → a ≡ 1) → known ≡ true → (if t then a == 1 else known) ≡ true
one_read a t known h e = grind (arith, nat_tests)

still_backed : (f : Profile) (v : View) (s : Step) (a q : ℕ) → Agrees f v s a → unbacks s q ≡ false → knows_backed v q ≡ true
    → backed_after s a q (knows_backed v q) ≡ true
still_backed f v s a q agrees keep h = grind (arith, one_read, eqb-true, stays_set)

-- ---- all steps
still_held : (x : ℕ) (steps : List Made) (v : View) → Always (λ m before. grain_move m.step m.answer x ≡ Stays) steps → holds v x ≡ true
    → holds (steps ++ v) x ≡ true
still_held x [] v stays h = h
still_held x (m ∷ more) v stays h = ap (λ t. held_after t (holds (more ++ v) x)) stays.0 ∙ still_held x more v stays.1 h

-- grain b of the page is held, and no step moves it
pub backed_with : (f : Profile) (q b : ℕ) (steps : List Made) (v : View) → b < 256 → Agreed f v steps → Always (λ m before. unbacks m.step q ≡ false) steps
    → Always (λ m before. grain_move m.step m.answer (q * 256 + b) ≡ Stays) steps → holds v (q * 256 + b) ≡ true → knows_backed v q ≡ true
    → knows_backed (steps ++ v) q ≡ true
backed_with f q b [] v lt agreed keep stays held h = h
backed_with f q b (m ∷ more) v lt agreed keep stays held h =
    let before : knows_backed (more ++ v) q ≡ true = backed_with f q b more v lt agreed.1 keep.1 stays.1 held h in
    and_from _ (holds_on (m ∷ more ++ v) q) (still_backed f (more ++ v) m.step m.answer q agreed.0 keep.0 before)
    (any_from 256 (λ i. holds (m ∷ more ++ v) (q * 256 + i)) b lt (still_held (q * 256 + b) (m ∷ more) v stays held))

-- A page that is known as backed has a grain that its actor holds.
pub backed_holds : (v : View) (q : ℕ) → knows_backed v q ≡ true → holds_on v q ≡ true
backed_holds [] q h = absurd (true≢false (sym h))
backed_holds (m ∷ v) q h = (and_parts (backed_after m.step m.answer q (knows_backed v q)) (holds_on (m ∷ v) q) h).1
