-- What an input comes to, before it is written.
use Rattle.std.specs.Prelude.{ℕ, ◌≡◌, List, Err}
use Rattle.pas_steps.specs.declared.state.State.{State}
use Rattle.pas_trace.specs.{Plans.{IsPlanOf, parsed}, declared.plan.Plan.Plan}
use Rattle.pas_records.specs.{Rooms.records_in, declared.record.Record.Record}
use Rattle.pas_answers.specs.{Replays.Shows, Ways.{Way, InOrder}}
use Rattle.pas_replay.specs.OneThread.{IsOfOneThread}
use Rattle.pas_telling.specs.declared.outcome.Outcome.{Outcome, TheVariants.{Replayed, Faulty}}

-- a replay of the plan in this way shows these, and so does one in the order of the text, where nothing in the plan could be at once
pub record ShowsBy (way : Way) (plan : Plan) (records : List Record) (state : State) : Type 0 where
  pub shows : Shows way plan records state
  pub alone : IsOfOneThread plan → Shows InOrder plan records state

-- the bytes are a trace, and its replay in this way shows these
pub record IsShowing (way : Way) (bytes : List ℕ) (records : List Record) (state : State) : Type 0 where
  pub plan : Plan
  pub read : IsPlanOf bytes plan
  pub shown : ShowsBy way plan records state

abbrev pub IsOutcome : Way → List ℕ → Outcome → Type 0
IsOutcome way bytes (Replayed records state) = IsShowing way bytes (records_in records) state
IsOutcome way bytes (Faulty fault) = parsed bytes ≡ Err fault
