use Rattle.std.proofs.Common.{◌≡◌, ◌++◌, Some, All, map}
use Rattle.pas_shared.specs.{Passes.IsPassOf, Workers.{HasPass, pass_of, work_of}}
use Rattle.pas_shared.proofs.workers.into_passes.Given as goal

-- the workers that are left, behind those that were taken apart
abbrev pub invariant-loop-worker : goal.invariant-loop-worker
invariant-loop-worker g l = record {
  left : All (HasPass l.region) l.worker-iterator.rest.items;
  of_region : All (IsPassOf l.region) l.passes.items;
  passes : map Some l.passes.items ++ map pass_of l.worker-iterator.rest.items ≡ map pass_of l.fn.workers.items;
  works : l.works.items ++ map work_of l.worker-iterator.rest.items ≡ map work_of l.fn.workers.items;
}
