-- What a worker at a shared region has before and after its part of a job.
use Rattle.std.specs.Prelude.{Option, IsSome, IfSome}
use Rattle.pas_shared.specs.{Passes.IsPassOf, declared.{region.SharedRegion.SharedRegion, pass.SharedPass.SharedPass, workers.Worker.Worker}}

-- the worker has a pass of the region, with which it may do its part
pub record IsReady {W : Type 0} (allowed : SharedRegion → W → SharedPass → Type 0) (region : SharedRegion) (worker : Worker W) : Type 0 where
  pub has_pass : IsSome worker.pass
  pub of_region : IfSome worker.pass (IsPassOf region)
  pub may : IfSome worker.pass (allowed region worker.work)

-- the worker has a pass of the region
pub record HasPass {W : Type 0} (region : SharedRegion) (worker : Worker W) : Type 0 where
  pub has_pass : IsSome worker.pass
  pub of_region : IfSome worker.pass (IsPassOf region)

-- the worker did its part with the pass that it had, and has it back
pub record HasRisen {W : Type 0} (done : SharedRegion → W → SharedPass → W → SharedPass → Type 0) (region : SharedRegion)
    (before after : Worker W) : Type 0 where
  pub back : HasPass region after
  pub did : IfSome before.pass (λ pass. IfSome after.pass (done region before.work pass after.work))

abbrev pub pass_of : {W : Type 0} → Worker W → Option SharedPass
pass_of worker = worker.pass

abbrev pub work_of : {W : Type 0} → Worker W → W
work_of worker = worker.work
