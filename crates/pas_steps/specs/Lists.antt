-- Lists of steps of all actors, the NEWEST FIRST: the words and the events after them, the part of each actor, and which are legal.
use Rattle.std.specs.Prelude.{ℕ, ◌≤◌, ◌≡◌, ◌==◌, if◌then◌else◌, List, [], ◌∷◌}
use Rattle.pas_profile.specs.{Layouts.{opening, same_word}, declared.{profile.Profile.Profile, word.Word.Word, event.Event.Event}}
use Rattle.pas_steps.specs.{Effects.{target, new_value}, Views.{View, epoch_of}, Events.{event_of, with_event}, Allowed.{Allowed, IsStepOf}}
use Rattle.pas_steps.specs.declared.step.Made.{Made}

-- an actor, and a step that it made
pub record Triple : Type 0 where
  pub actor : ℕ
  pub made : Made

abbrev pub Whole : Type 0
Whole = List Triple

-- the steps of one actor
abbrev pub part : ℕ → Whole → View
part k [] = []
part k (t ∷ l) = if t.actor == k then t.made ∷ part k l else part k l

-- the value of a word after the list. A step uses the epoch that its actor's earlier steps read
abbrev pub word_after : Whole → Word → ℕ
word_after [] w = opening w
word_after (t ∷ l) w = if same_word (target t.made.step) w then new_value (epoch_of (part t.actor l)) t.made.step (word_after l w) else word_after l w

-- the visible events
abbrev pub visible : Whole → List Event
visible [] = []
visible (t ∷ l) = with_event (event_of t.actor (epoch_of (part t.actor l)) t.made.step t.made.answer) (visible l)

-- the step may come next: its actor's view allows it, and its answer is the word's value
pub record IsNext (f : Profile) (l : Whole) (t : Triple) : Type 0 where
  pub actor : t.actor ≤ f.threads
  pub of_region : IsStepOf f t.made.step
  pub allowed : Allowed f (part t.actor l) t.made.step
  pub answer_is : t.made.answer ≡ word_after l (target t.made.step)

-- each step may come after those before it
abbrev pub Legal : Profile → Whole → Type 0
Legal f [] = Unit {0}
Legal f (t ∷ l) = IsNext f l t × Legal f l
