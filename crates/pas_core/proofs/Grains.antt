-- Each grain is in exactly one place: free, held by one actor, or covered by one live block.
use Rattle.std.proofs.Common.{◌≡◌, ℕ, ◌+◌, ◌-◌, ◌*◌, ◌/◌, ◌%◌, ◌^◌, ◌<◌, ◌≤◌, ◌==◌, nat_lt, nat_le, Bool, true, false, ◌&&◌, if◌then◌else◌, [], ◌∷◌, refl, ap}
use Rattle.std.proofs.{Common.{sym, ◌∙◌, arith, eqb-true, le-leb}, lemmas.{Nat.Bits.bit_at_ones, Bool.{and_parts, lt-leb, cond_both, Decides.nat_tests}}}
use Rattle.pas_bits.{specs.{Bits.has_bit, Runs.in_run}, proofs.{Words.{bit_cleared, bit_of_or}, Runs.first_of_run}}
use Rattle.pas_profile.specs.{Layouts.same_word, Lives.live_word, Profiles.IsValid, Blocks.grain_of, declared.{profile.Profile.Profile, name.Block.Block}}
use Rattle.pas_steps.specs.{Effects.{free_word_at, life_word_at, target, new_value}, Views.{Move, Stays, Gets, Puts, Gives, Ends, grain_move, held_after}}
use Rattle.pas_steps.specs.{Views.{holds, epoch_of}, Allowed.{Allowed, IsStepOf}, Lists.{Whole, word_after, part, IsNext, Legal}, declared.step.Step.Step}
use Rattle.pas_steps.{specs.declared.step.Step.TheVariants.{Take, Give}, proofs.Running.guess_fits}
use Rattle.pas_core.{specs.Good.{Place, IsFree, Held, Covered, is_free, is_held_by, is_covered_by, covers, IsPlacedOnce}, proofs.Deeds.looked}

-- ---- words of grains: one for each grain
-- two grains have the same life word where they are the same
pub life_same : (c b : ℕ) → same_word (life_word_at c) (life_word_at b) ≡ (c == b)
life_same c b = grind (arith, nat_tests)

-- ---- the numbers of a step of a valid profile fit
pub give_short : (f : Profile) (address room : ℕ) → IsValid f → address + room ≤ 4096 * (f.pages + 1) → room / 16 < 2 ^ 23
give_short f address room valid h = omega (arith, valid.pages, h)

-- ---- places and moves, whatever the step
abbrev place_after : ℕ → Move → Place → Place
place_after j Stays o = o
place_after j Puts o = IsFree
place_after j (Gives a) o = Covered a
place_after j s o = Held j

-- the grain is where the move of actor j takes it from
abbrev pub Fits : ℕ → Move → Place → Type 0
Fits j Stays o = Unit {0}
Fits j Gets o = o ≡ IsFree
Fits j Puts o = o ≡ Held j
Fits j (Gives a) o = o ≡ Held j
Fits j (Ends a) o = o ≡ Covered a

-- A grain's place that is held by an actor is in that actor's hands.
pub is_held_by-true : (k : ℕ) (o : Place) → is_held_by k o ≡ true → o ≡ Held k
is_held_by-true k s h = grind (arith, eqb-true)

-- What an actor holds after its own step is what the place says: by each move from each place.
own_next : (m : Move) (o : Place) (j k : ℕ) (had : Bool) → had ≡ is_held_by k o → (j == k) ≡ true → held_after m had ≡ is_held_by k (place_after j m o)
own_next s o j k had is e = grind arith

-- So it is for an actor that made no step.
other_next : (m : Move) (o : Place) (j k : ℕ) (had : Bool) → had ≡ is_held_by k o → Fits j m o → (j == k) ≡ false → had ≡ is_held_by k (place_after j m o)
other_next s o j k had is fits e = grind arith

abbrev pub free_moved : Move → Bool → Bool
free_moved Gets was = false
free_moved Puts was = true
free_moved s was = was

-- And for what is free.
free_next : (j : ℕ) (m : Move) (o : Place) → Fits j m o → free_moved m (is_free o) ≡ is_free (place_after j m o)
free_next j s o h = grind arith

abbrev covered_moved : Move → ℕ → Bool → Bool
covered_moved (Gives a) b was = if a == b then true else was
covered_moved (Ends a) b was = if a == b then false else was
covered_moved s b was = was

-- A test that chooses true or false is the test itself.
pub if_true : (t : Bool) → (if t then true else false) ≡ t
if_true t = grind arith

covered_next : (j : ℕ) (m : Move) (b : ℕ) (o : Place) → Fits j m o → covered_moved m b (is_covered_by b o) ≡ is_covered_by b (place_after j m o)
covered_next j s b o h = grind (arith, if_true)

-- ---- the free words
rests_free : (t was : Bool) (m : Move) → free_moved m was ≡ was → was ≡ free_moved (if t then m else Stays) was
rests_free t was m h = cond_both t m Stays (λ x. was ≡ free_moved x was) (λ here. sym h) (λ other. refl)

-- what a step does to the bit of a grain
pub free_step : (f : Profile) (l : Whole) (e : ℕ) (s : Step) (a g : ℕ) → IsStepOf f s → a ≡ word_after l (target s)
    → has_bit (if same_word (target s) (free_word_at g) then new_value e s (word_after l (free_word_at g)) else word_after l (free_word_at g)) (g % 64)
    ≡ free_moved (grain_move s a g) (has_bit (word_after l (free_word_at g)) (g % 64))
free_step f l e s a g of is = search (arith, bit_cleared, and_parts, eqb-true, bit_of_or, rests_free)

-- ---- the life words
pub covers_live : (turn n b g : ℕ) → turn < 2 ^ 40 → n < 2 ^ 23 → covers (live_word turn n) b g ≡ in_run b n g
covers_live turn n b g ht hn = search (arith, le-leb)

covers_ended : (turn b g : ℕ) → turn < 2 ^ 40 → covers turn b g ≡ false
covers_ended turn b g ht = ap (λ t. t && (nat_le b g && nat_lt g (b + turn / 2 ^ 40 % 2 ^ 23))) (lt-leb (2 ^ 63) turn (omega arith))

-- a block of some whole grains has one
pub some_grain : (room : ℕ) → room % 16 ≡ 0 → 0 < room → 0 < room / 16
some_grain room whole some = omega arith

not_covering : (f : Profile) (l : Whole) (k : ℕ) (block : Block) (g : ℕ) → IsPlacedOnce l (grain_of block.name) → Allowed f (part k l) (Give block)
    → covers (word_after l (life_word_at (grain_of block.name))) (grain_of block.name) g ≡ false
not_covering f l k block g at allowed = search (arith, is_held_by-true, first_of_run, some_grain, nat_tests)

give_covers : (x y : Bool) (c b g turn n old : ℕ) → y ≡ (c == b) → (c == b) ≡ x → turn < 2 ^ 40 → n < 2 ^ 23 → (x ≡ true → covers old b g ≡ false) → (r : Bool)
    → in_run c n g ≡ r
    → covers (if y then live_word turn n else old) b g ≡ covered_moved (if r then Gives c else Stays) b (covers old b g)
give_covers x y c b g turn n old ye e ht hn dead r run = grind (arith, covers_live, eqb-true)

covered_step : (f : Profile) (l : Whole) (k e : ℕ) (s : Step) (a g b : ℕ) → IsValid f → ((g : ℕ) → IsPlacedOnce l g) → IsStepOf f s → Allowed f (part k l) s
    → a ≡ word_after l (target s)
    → covers (if same_word (target s) (life_word_at b) then new_value e s (word_after l (life_word_at b)) else word_after l (life_word_at b)) b g
    ≡ covered_moved (grain_move s a g) b (covers (word_after l (life_word_at b)) b g)
covered_step f l k e (Give block) a g b valid placed of allowed is = give_covers _ _ _ b g block.name.turn _ _ (life_same _ b) refl
    of.turn (give_short f _ block.room valid of.last)
    (λ e. ap (λ x. covers (word_after l (life_word_at x)) x g) (sym (eqb-true _ b e)) ∙ not_covering f l k block g (placed (grain_of block.name)) allowed) _ refl
covered_step f l k e s a g b valid placed of allowed is = search (arith, looked, cond_both, life_same, covers_ended, eqb-true, covers_live, guess_fits)

-- ---- a legal step's move fits
fits_if : (j : ℕ) (m : Move) (o : Place) (t : Bool) → (t ≡ true → Fits j m o) → Fits j (if t then m else Stays) o
fits_if j m o t h = cond_both t m Stays (λ x. Fits j x o) h (λ other. tt)

-- A legal step takes each grain from where it is.
pub step_fits : (f : Profile) (l : Whole) (k : ℕ) (s : Step) (a g : ℕ) (at : IsPlacedOnce l g) → IsValid f → IsStepOf f s → Allowed f (part k l) s
    → a ≡ word_after l (target s) → Fits k (grain_move s a g) at.place
step_fits f l k (Take page word mask) a g at valid of allowed is = search (arith, fits_if, and_parts, eqb-true)
step_fits f l k s a g at valid of allowed is = search (arith, fits_if, and_parts, is_held_by-true, eqb-true, covers_live, guess_fits)

-- ---- the induction
-- after every legal list each grain is in exactly one place
pub placed_once : (f : Profile) (l : Whole) → IsValid f → Legal f l → (g : ℕ) → IsPlacedOnce l g
placed_once f [] valid legal g = record { place = IsFree; free = ap (λ x. x == 1) (bit_at_ones 64 _ (omega arith)); held = λ k. refl; covered = λ a. refl }
placed_once f (t ∷ l) valid legal g =
    let at : IsPlacedOnce l g = placed_once f l valid legal.1 g in
    let next : IsNext f l t = legal.0 in
    let m : Move = grain_move t.made.step t.made.answer g in
    let e : ℕ = epoch_of (part t.actor l) in
    let fits : Fits t.actor (grain_move t.made.step t.made.answer g) at.place = step_fits f l _ _ _ g at valid next.of_region next.allowed next.answer_is in
    record {
      place = place_after t.actor m at.place;
      free = free_step f l e _ _ g next.of_region next.answer_is ∙ ap (free_moved m) at.free ∙ free_next _ m at.place fits;
      held = λ k. search (arith, cond_both, own_next, other_next, at.held);
      covered = λ b. covered_step f l _ e _ _ g b valid (placed_once f l valid legal.1) next.of_region next.allowed next.answer_is ∙ ap (covered_moved m b) (at.covered b) ∙ covered_next _ m b at.place fits;
    }

-- no two actors hold one grain
pub one_holder : (f : Profile) (l : Whole) → IsValid f → Legal f l → (j k g : ℕ) → holds (part j l) g ≡ true → holds (part k l) g ≡ true → (j == k) ≡ true
one_holder f l valid legal j k g hj hk =
    let at : IsPlacedOnce l g = placed_once f l valid legal g in
    let here : at.place ≡ Held j = is_held_by-true j at.place (sym (at.held j) ∙ hj) in
    sym (ap (is_held_by k) here) ∙ sym (at.held k) ∙ hk
