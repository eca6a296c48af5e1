-- Which steps and records answer a tick and a pass.
use Rattle.std.specs.Prelude.{ℕ, ◌+◌, ◌≡◌, List, [], ◌∷◌, ◌++◌, Some, length, reverse}
use Rattle.pas_profile.specs.declared.event.Outcome.{Outcome}
use Rattle.pas_records.specs.declared.record.{Record.Record, Said.Said}
use Rattle.pas_scavenger.specs.Passes.{Passes, unbacks_in}
use Rattle.pas_steps.specs.{Calls.Calls, Clear.HasNothing, Desks.{Standing, made}, Effects.new_value, Events.events_by, Kinds.{Kinds, Ticking, Only}}
use Rattle.pas_steps.specs.{Views.{View, known_epoch}, declared.step.{Made.Made, Step.TheVariants.Tick}}
use Rattle.pas_answers.specs.PassRecords.{records_of_pass, events_in}

abbrev pub ticking : Kinds
ticking = Ticking ∷ []

-- One step asks for the epoch. What is said is the epoch after it, which is the word's new value whatever epoch the actor knew before: the greater of
-- the answer, which is the old one, and of what was asked for. The actor knows it then. It has nothing before and afterwards, and no event was made.
pub record AnswersTick (asked : ℕ) (desk desk' : Standing) (before after : List Record) : Type 0 where
  pub answer : ℕ
  pub steps : List Made
  pub steps_are : steps ≡ made (Tick asked) answer ∷ []
  pub few : length steps ≡ 1
  pub calls : Calls desk desk' HasNothing (λ v w. HasNothing w) steps
  pub kinds : Only ticking steps
  pub silent : (v : View) → events_by desk.seat.actor v steps ≡ []
  pub epoch : ℕ
  pub raised : (earlier : ℕ) → epoch ≡ new_value earlier (Tick asked) answer
  pub known : (v : View) → known_epoch (steps ++ v) ≡ Some epoch
  pub added : after ≡ before ++ Record.Said desk.seat.actor (Said.Tick epoch) ∷ []

-- A pass was made that read this epoch and came to these outcomes, and its records came to the end. The events among them are those of its steps, in
-- order: none is lost, and none is shown twice. The room for events fell by just those.
pub record AnswersPass (desk desk' : Standing) (spare spare' : ℕ) (found : List (ℕ × Outcome)) (before after : List Record) : Type 0 where
  pub epoch : ℕ
  pub passes : Passes desk desk' epoch found
  pub added : after ≡ before ++ records_of_pass desk.seat.actor epoch found
  pub shown : (v : View) → events_in (records_of_pass desk.seat.actor epoch found) ≡ reverse (events_by desk.seat.actor v passes.steps)
  pub spare_is : spare' + length (unbacks_in desk.seat.actor epoch (reverse found)) ≡ spare
