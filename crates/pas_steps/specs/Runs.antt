-- Steps in order, and the state after them.
use Rattle.std.specs.Prelude.{ℕ, ◌≡◌, List, [], ◌∷◌, ◌++◌, if◌then◌else◌}
use Rattle.pas_profile.specs.{Layouts.{opening, same_word}, Profiles.IsWordOf, declared.{profile.Profile.Profile, word.Word.Word}}
use Rattle.pas_steps.specs.{Effects.{target, new_value}, Lists.{Whole, word_after, Legal}, States.{profile_of, word_in}, declared.state.State.State}
use Rattle.pas_steps.specs.declared.step.Step.{Step}

-- the actors of a list and their steps, the OLDEST first
abbrev pub in_order : Whole → List (ℕ × Step)
in_order [] = []
in_order (t ∷ l) = in_order l ++ (t.actor, t.made.step) ∷ []

-- some legal list has just these actors and steps, in this order
pub record CanRun (f : Profile) (steps : List (ℕ × Step)) : Type 0 where
  pub whole : Whole
  pub legal : Legal f whole
  pub steps_are : in_order whole ≡ steps

-- nobody changed a word yet
abbrev pub IsOpening : State → Type 0
IsOpening state = (w : Word) → IsWordOf (profile_of state) w → word_in state w ≡ opening w

-- for the legal list that has these actors and steps, in this order, each word of the state is as after that list
abbrev pub IsAfter : Profile → List (ℕ × Step) → State → Type 0
IsAfter f steps state = (l : Whole) → Legal f l → in_order l ≡ steps → (w : Word) → IsWordOf f w → word_in state w ≡ word_after l w

-- the state after one step of an actor that knows this epoch
pub record IsStepped (old new : State) (epoch : ℕ) (step : Step) : Type 0 where
  pub profile : profile_of new ≡ profile_of old
  pub words : (w : Word) → IsWordOf (profile_of old) w
      → word_in new w ≡ (if same_word (target step) w then new_value epoch step (word_in old (target step)) else word_in old w)
