use Rattle.std.specs.List.{All}
use Rattle.pas_trials.specs.Races.{IsReadyForRace}
use Rattle.pas_shared.specs.Passes.{IsFreshPass}
use Rattle.pas_trials.proofs.racing.workers_of.Given as goal

abbrev pub invariant-loop-pass : goal.invariant-loop-pass
invariant-loop-pass l = All (IsFreshPass l.region 2) l.pass-iterator.rest.items × All (IsReadyForRace l.region) l.workers.items
