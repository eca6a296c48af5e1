-- What holds of a thread's desk and cache between the turns of a storm.
use Rattle.std.specs.Prelude.{◌≡◌, ℕ}
use Rattle.pas_profile.specs.declared.profile.Profile.{Profile}
use Rattle.pas_steps.specs.{Views.View, Clear.HasNothing, Desks.{Standing, CanCall}}
use Rattle.pas_cache.specs.Caches.{Cached, cached, AtRest}
use Rattle.pas_shared.specs.{Passes.IsFreshPass, Workers.IsReady, declared.{region.SharedRegion.SharedRegion, pass.SharedPass.SharedPass}}
use Rattle.pas_shared.specs.declared.workers.Worker.{Worker}
use Rattle.pas_trials.specs.declared.workers.StormWork.{StormWork}

-- the actor's room is for so many events in all, the actor is at rest with the cache, and of its events none is forgotten
pub record IsWorking (desk : Standing) (c : Cached) (room forgotten : ℕ) : Type 0 where
  pub room_is : desk.seat.room ≡ room
  pub rest : CanCall desk (AtRest desk.seat.profile c)
  pub whole : forgotten ≡ 0

-- the pass is fresh, with room for so many events, and an actor that has nothing is at rest with the thread's cache
pub record MayTakeTurns (events : ℕ) (region : SharedRegion) (work : StormWork) (pass : SharedPass) : Type 0 where
  pub fresh : IsFreshPass region events pass
  pub rest : (f : Profile) (v : View) → HasNothing v → AtRest f (cached work.cache) v

abbrev pub IsReadyForStorm : SharedRegion → ℕ → Worker StormWork → Type 0
IsReadyForStorm region events worker = IsReady (MayTakeTurns events) region worker
