use Rattle.std.specs.List.{All}
use Rattle.pas_shared.specs.Passes.{IsFreshPass}
use Rattle.pas_timing.specs.Repeats.{IsReadyToTake}
use Rattle.pas_timing.proofs.steps.table.workers_of.Given as goal

abbrev pub invariant-loop-pass : goal.invariant-loop-pass
invariant-loop-pass l = All (IsFreshPass l.region 1) l.pass-iterator.rest.items × All (IsReadyToTake l.region) l.workers.items
