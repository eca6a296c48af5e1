-- What a replay in the order of the text told its sink.
use Rattle.std.specs.Prelude.{ℕ, ◌≡◌, ◌⊎◌, Bool, false, List, Option}
use Rattle.pas_steps.specs.declared.state.State.{State}
use Rattle.pas_trace.specs.declared.plan.Plan.{Plan}
use Rattle.pas_io.specs.Told.{Tells}
use Rattle.pas_records.specs.{Lines.lines_of, declared.record.Record.Record}
use Rattle.pas_answers.specs.{Replays.Shows, Ways.InOrder}
use Rattle.pas_telling.specs.Outcomes.{shown_text}
use Rattle.pas_calls.specs.{Ends.TellsInput, Outputs.{ComesTo, IsReplayStatus}, Wrote.Wrote}

-- the lines of a replay of the plan were told, up to the first write that failed
pub record TellsLines (plan : Plan) (held held' : Option (List ℕ)) (faults faults' : ℕ) (state : State) (failed : Bool) : Type 0 where
  pub records : List Record
  pub shows : Shows InOrder plan records state
  pub wrote : Wrote false failed held held' faults faults' (lines_of records)

-- the lines of a replay of the plan and its report were told
pub record TellsReplay (plan : Plan) (held held' : Option (List ℕ)) (faults faults' result : ℕ) : Type 0 where
  pub records : List Record
  pub state : State
  pub shows : Shows InOrder plan records state
  pub tells : Tells held held' faults faults' (shown_text records state) 0 result

-- memory was wanting, or what the input comes to was told
abbrev pub Orders : Option (List ℕ) → Option (List ℕ) → Option (List ℕ) → ℕ → ℕ → ℕ → Type 0
Orders rest held held' faults faults' result = (result ≡ 5) ⊎ TellsInput IsReplayStatus (ComesTo InOrder) rest held held' faults faults' result
