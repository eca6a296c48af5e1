-- What steps of some kinds leave as it was: for each thing of a view the kinds that may change it, and that all others leave it. A set of kinds
-- that is apart from those leaves it, and that it is apart is found by computing.
use Rattle.std.proofs.Common.{arith, ◌≡◌, ℕ, ◌==◌, Bool, true, false, not, List, [], ◌∷◌, ◌++◌, None, inl, inr, refl, ap, sym, ◌∙◌, subst, true≢false, eqb-true}
use Rattle.std.proofs.lemmas.Bool.{and_parts, not-true, or_cases, false_from_ne_true}
use Rattle.pas_steps.specs.{declared.step.{Made.Made, Step.Step}, Kinds.{Kinds, kind_of, place_of, has_place, is_in, within, apart, Only, moving, righting}}
use Rattle.pas_steps.specs.{Kinds.{deed_telling, epoch_telling, unstamping, examining, showing}, Views.{View, Stays, grain_move, held_after, holds, has_right}}
use Rattle.pas_steps.specs.{Views.{known_deed, known_epoch, epoch_of, unstamped_after, is_unstamped, examines}, Events.{event_of, with_event, events_by}}
use Rattle.pas_steps.proofs.Past.{always_map, always_both}

-- ---- sets
in_within : (ks ls : Kinds) (n : ℕ) → within ks ls ≡ true → has_place ks n ≡ true → has_place ls n ≡ true
in_within [] ls n w h = absurd (true≢false (sym h))
in_within (k ∷ ks) ls n w h = let p = and_parts (is_in ls k) (within ks ls) w in elim (or_cases (place_of k == n) (has_place ks n) h) [
  | inl here ↦ subst (λ m. has_place ls m ≡ true) (eqb-true (place_of k) n here) p.0
  | inr later ↦ in_within ks ls n p.1 later
]

-- A kind of a set that is apart from another isn't in the other.
pub in_apart : (ks ls : Kinds) (n : ℕ) → apart ks ls ≡ true → has_place ks n ≡ true → has_place ls n ≡ false
in_apart [] ls n w h = absurd (true≢false (sym h))
in_apart (k ∷ ks) ls n w h = let p = and_parts (not (is_in ls k)) (apart ks ls) w in elim (or_cases (place_of k == n) (has_place ks n) h) [
  | inl here ↦ subst (λ m. has_place ls m ≡ false) (eqb-true (place_of k) n here) (not-true (is_in ls k) p.0)
  | inr later ↦ in_apart ks ls n p.1 later
]

-- A kind that isn't in a set is in none within it.
pub out_within : (ks ls : Kinds) (n : ℕ) → within ks ls ≡ true → has_place ls n ≡ false → has_place ks n ≡ false
out_within ks ls n w out = false_from_ne_true (has_place ks n) (λ h. true≢false (sym (in_within ks ls n w h) ∙ out))

-- steps of some kinds are steps of more, and of none that is apart
pub only_within : (ks ls : Kinds) (steps : List Made) → within ks ls ≡ true → Only ks steps → Only ls steps
only_within ks ls steps w = always_map _ (λ m before. is_in ls (kind_of m.step) ≡ true) steps (λ m before h. in_within ks ls (place_of (kind_of m.step)) w h)

-- Two lists of steps of some kinds are of those kinds together.
pub only_both : (ks : Kinds) (ys xs : List Made) → Only ks ys → Only ks xs → Only ks (ys ++ xs)
only_both ks ys xs = always_both (λ m before. is_in ks (kind_of m.step) ≡ true) (λ m before. is_in ks (kind_of m.step) ≡ true) ys xs (λ m before h. h)

-- what no step of other kinds ends holds on; `ks` are the kinds of the steps
pub holds_over : (P : View → Type 0) (ls ks : Kinds) → ((m : Made) (v : View) → is_in ls (kind_of m.step) ≡ false → P v → P (m ∷ v)) → apart ks ls ≡ true
    → (steps : List Made) (v : View) → Only ks steps → P v → P (steps ++ v)
holds_over P ls ks step w [] v only h = h
holds_over P ls ks step w (m ∷ more) v only h = step m (more ++ v) (in_apart ks ls _ w only.0) (holds_over P ls ks step w more v only.1 h)

-- Steps of kinds apart from those that change a thing leave it as it was.
pub same_over : {A : Type 0} (T : View → A) (ls ks : Kinds) → ((m : Made) (v : View) → is_in ls (kind_of m.step) ≡ false → T (m ∷ v) ≡ T v) → apart ks ls ≡ true
    → (steps : List Made) (v : View) → Only ks steps → T (steps ++ v) ≡ T v
same_over T ls ks step w steps v only = holds_over (λ u. T u ≡ T v) ls ks (λ m u other h. step m u other ∙ h) w steps v only refl

-- ---- grains
pub grain_same : (s : Step) (a g : ℕ) → is_in moving (kind_of s) ≡ false → grain_move s a g ≡ Stays
grain_same s a g h = grind arith

-- Steps of kinds that move no grain leave what is held as it was.
pub holds_same : (ks : Kinds) → apart ks moving ≡ true → (g : ℕ) (steps : List Made) (v : View) → Only ks steps → holds (steps ++ v) g ≡ holds v g
holds_same ks w g = same_over (λ v. holds v g) moving ks (λ m v h. ap (λ t. held_after t (holds v g)) (grain_same m.step m.answer g h)) w

-- ---- rights
-- Steps of kinds that move no right leave each right where it was.
pub rights_same : (ks : Kinds) → apart ks righting ≡ true → (p : ℕ) (steps : List Made) (v : View) → Only ks steps → has_right (steps ++ v) p ≡ has_right v p
rights_same ks w p = same_over (λ v. has_right v p) righting ks (λ m v h. (grind arith)) w

-- ---- deeds
-- Steps of kinds that tell no deed leave what is known of deeds as it was.
pub deeds_same : (ks : Kinds) → apart ks deed_telling ≡ true → (p : ℕ) (steps : List Made) (v : View) → Only ks steps
    → known_deed (steps ++ v) p ≡ known_deed v p
deeds_same ks w p = same_over (λ v. known_deed v p) deed_telling ks (λ m v h. (grind arith)) w

-- ---- the epoch
-- Steps of kinds that tell no epoch leave the known epoch as it was.
pub epoch_same : (ks : Kinds) → apart ks epoch_telling ≡ true → (steps : List Made) (v : View) → Only ks steps → known_epoch (steps ++ v) ≡ known_epoch v
epoch_same ks w = same_over known_epoch epoch_telling ks (λ m v h. (grind arith)) w

-- ---- what is owed
pub unstamped_step_same : (s : Step) (a p : ℕ) (was : Bool) → is_in unstamping (kind_of s) ≡ false → unstamped_after s a p was ≡ was
unstamped_step_same s a p was h = grind arith

-- Steps of kinds that end and stamp nothing leave which pages are unstamped as it was.
pub unstamped_same : (ks : Kinds) → apart ks unstamping ≡ true → (p : ℕ) (steps : List Made) (v : View) → Only ks steps
    → is_unstamped (steps ++ v) p ≡ is_unstamped v p
unstamped_same ks w p = same_over (λ v. is_unstamped v p) unstamping ks (λ m v h. unstamped_step_same m.step m.answer p (is_unstamped v p) h) w

-- Steps of kinds that examine nothing leave which pages are examined as it was.
pub examines_same : (ks : Kinds) → apart ks examining ≡ true → (p : ℕ) (steps : List Made) (v : View) → Only ks steps → examines (steps ++ v) p ≡ examines v p
examines_same ks e p = same_over (λ v. examines v p) examining ks (λ m v h. (grind arith)) e

-- ---- blocks given, and events
pub no_event : (k e : ℕ) (s : Step) (a : ℕ) → is_in showing (kind_of s) ≡ false → event_of k e s a ≡ None
no_event k e s a h = grind arith

-- the events of the steps before them
pub events_same : (ks : Kinds) → apart ks showing ≡ true → (k : ℕ) (v : View) (ys xs : List Made) → Only ks ys → events_by k v (ys ++ xs) ≡ events_by k v xs
events_same ks w k v [] xs only = refl
events_same ks w k v (y ∷ ys) xs only = ap (λ o. with_event o (events_by k v (ys ++ xs)))
    (no_event k (epoch_of (ys ++ xs ++ v)) y.step y.answer (in_apart ks showing (place_of (kind_of y.step)) w only.0)) ∙ events_same ks w k v ys xs only.1

-- Steps of kinds that show nothing make no event.
pub no_events : (ks : Kinds) → apart ks showing ≡ true → (k : ℕ) (v : View) (steps : List Made) → Only ks steps → events_by k v steps ≡ []
no_events ks w k v [] only = refl
no_events ks w k v (y ∷ ys) only = ap (λ o. with_event o (events_by k v ys))
    (no_event k (epoch_of (ys ++ v)) y.step y.answer (in_apart ks showing (place_of (kind_of y.step)) w only.0)) ∙ no_events ks w k v ys only.1
