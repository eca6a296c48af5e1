use Rattle.std.{proofs.Common.◌≡◌, specs.List.All}
use Rattle.pas_utility.specs.Pools.{threads_of}
use Rattle.pas_trials.specs.SharedStorms.{IsReadyForStorm}
use Rattle.pas_shared.specs.Passes.{IsFreshPass}
use Rattle.pas_trials.proofs.workers.storm_workers.Given as goal

abbrev pub invariant-loop-pass : goal.invariant-loop-pass
invariant-loop-pass l = record {
  threads : threads_of l.utility ≡ l.threads;
  rest : All (IsFreshPass l.region l.fn.events) l.pass-iterator.rest.items;
  ready : All (IsReadyForStorm l.region l.fn.events) l.workers.items;
}
