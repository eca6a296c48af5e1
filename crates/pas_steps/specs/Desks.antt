-- What the calls of a desk say.
use Rattle.std.specs.Prelude.{ℕ, ◌≡◌, List, [], ◌∷◌, ◌++◌}
use Rattle.pas_profile.specs.declared.profile.Profile.{Profile}
use Rattle.pas_steps.specs.{Views.View, Allowed.{Allowed, IsStepOf}, Lists.{Triple, Whole}, Agreement.{Agrees, Agreed}, declared.step.{Step.Step, Made.Made}}

-- what no step of a desk changes: its actor, the region's profile, and how many events the actor's room holds in all
pub record Seat : Type 0 where
  pub actor : ℕ
  pub profile : Profile
  pub room : ℕ

-- All that a desk means: its seat, and for which views it stands, beside which lists of the steps of all actors. A desk of a region that
-- is shared stands for the one view of its seat, beside any list. A desk that tells the whole state stands for each legal list that ends
-- in its words, and for the part of its actor.
pub record Standing : Type 1 where
  pub seat : Seat
  pub stands : View → Whole → Type 0

abbrev pub made : Step → ℕ → Made
made step answer = record { step = step; answer = answer }

abbrev pub triple : ℕ → Made → Triple
triple k m = record { actor = k; made = m }

abbrev pub triples : ℕ → List Made → Whole
triples k [] = []
triples k (m ∷ ms) = triple k m ∷ triples k ms

-- some view that the desk stands for allows the step
pub record CanMake (desk : Standing) (step : Step) : Type 0 where
  pub of_region : IsStepOf desk.seat.profile step
  pub view : View
  pub whole : Whole
  pub stood : desk.stands view whole
  pub allowed : Allowed desk.seat.profile view step

-- For every view that the desk stood for and that allows the step, it now stands for the view with the step and its answer added, and the
-- answer agrees with that view.
pub record Makes (desk desk' : Standing) (step : Step) (answer : ℕ) : Type 0 where
  pub seat_is : desk'.seat ≡ desk.seat
  pub added : (v : View) (l : Whole) → desk.stands v l → Allowed desk.seat.profile v step
      → desk'.stands (made step answer ∷ v) (triple desk.seat.actor (made step answer) ∷ l)
  pub agrees : (v : View) (l : Whole) → desk.stands v l → Allowed desk.seat.profile v step → Agrees desk.seat.profile v step answer

-- the condition of a call that asks nothing of the view
abbrev pub AnyView : View → Type 0
AnyView v = Unit {0}

-- a condition of a call: some view that the desk stands for meets it
pub record CanCall (desk : Standing) (Meets : View → Type 0) : Type 0 where
  pub view : View
  pub whole : Whole
  pub stood : desk.stands view whole
  pub met : Meets view

-- a call made these steps: for every view that the desk stood for and that meets the condition, they were added to it, and each answer
-- agrees with the view of its moment
pub record Adds (desk desk' : Standing) (Meets : View → Type 0) (steps : List Made) : Type 0 where
  pub seat_is : desk'.seat ≡ desk.seat
  pub added : (v : View) (l : Whole) → desk.stands v l → Meets v → desk'.stands (steps ++ v) (triples desk.seat.actor steps ++ l)
  pub agreed : (v : View) (l : Whole) → desk.stands v l → Meets v → Agreed desk.seat.profile v steps
