-- Steps that can be made at any time, and what a worker has before it is measured.
use Rattle.std.specs.Prelude.{◌≡◌, ◌≤◌, ℕ}
use Rattle.pas_profile.specs.declared.profile.Profile.{Profile}
use Rattle.pas_steps.specs.{Views.View, Allowed.{Allowed, IsStepOf}, Events.wants, declared.step.Step.Step}
use Rattle.pas_shared.specs.{Passes.{profile_of, IsFreshPass}, Workers.IsReady, declared.{region.SharedRegion.SharedRegion, pass.SharedPass.SharedPass}}
use Rattle.pas_shared.specs.declared.workers.Worker.{Worker}

-- the step is of the region, makes no event, and any view allows it
pub record IsFreeToMake (f : Profile) (step : Step) : Type 0 where
  pub of_region : IsStepOf f step
  pub silent : wants step ≡ 0
  pub allowed : (v : View) → Allowed f v step

-- the profile of the regions that are measured
abbrev pub bench_profile : Profile
bench_profile = record { pages = 64; threads = 4; age = 2; heaps = 1; shared = 0; classes = 16 }

-- at a region that is measured the pass is fresh, with room for one event, and this is a page of the region
pub record MayTake (region : SharedRegion) (page : ℕ) (pass : SharedPass) : Type 0 where
  pub measured : profile_of region ≡ bench_profile
  pub fresh : IsFreshPass region 1 pass
  pub low : 1 ≤ page
  pub high : page ≤ 64

abbrev pub IsReadyToTake : SharedRegion → Worker ℕ → Type 0
IsReadyToTake region worker = IsReady MayTake region worker
