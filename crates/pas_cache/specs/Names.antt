-- Names that are logged, and the flush of a full log.
use Rattle.std.specs.Prelude.{◌/◌, ◌%◌, ◌≡◌, ◌≢◌, Bool, List, All}
use Rattle.pas_profile.specs.{Profiles.IsPage, Blocks.address_of, declared.{event.FreeFault.{FreeFault, TheVariants.{Outside, Unaligned}}, name.Name.Name}}
use Rattle.pas_profile.specs.declared.{profile.Profile.Profile, entry.Entry.Entry}
use Rattle.pas_steps.specs.{Views.View, Calls.{Calls, Does, nothing}, Desks.Standing, Clear.IsClear, declared.step.Made.Made}
use Rattle.pas_free_log.specs.{declared.noting.EndedRun.EndedRun, Noted.AreRanges, Conditions.IsEntryOf}
use Rattle.pas_cache.specs.Changes.{EmptiesFull, LogsEntry}

-- the address is a multiple of 16 on a page of the region
pub record IsInRegion (f : Profile) (name : Name) : Type 0 where
  pub page : IsPage f (address_of name / 4096)
  pub aligned : address_of name % 16 ≡ 0

-- the page of the address is none of the region, or it is one and the address isn't a multiple of 16
abbrev pub IsFaultOf : Profile → Name → FreeFault → Type 0
IsFaultOf f name Outside = IsPage f (address_of name / 4096) → ⊥
IsFaultOf f name Unaligned = IsPage f (address_of name / 4096) × (address_of name % 16 ≢ 0)

-- the actor is clear, and each of the entries may be ended
pub record MayFlush (f : Profile) (logged : List Entry) (v : View) : Type 0 where
  pub clear : IsClear v
  pub each : All (IsEntryOf f) logged

-- the log is emptied where it is full
pub record EmptiesWhere (full : Bool) (log log' : List Entry) (noted noted' : List EndedRun) (desk desk' : Standing) : Type 0 where
  pub steps : List Made
  pub calls : Calls desk desk' IsClear (Does nothing) steps
  pub empties : EmptiesFull full desk.seat.actor log log' noted noted' steps
  pub ranges : AreRanges noted → AreRanges noted'

pub record LogsInto (log log' : List Entry) (noted noted' : List EndedRun) (entry : Entry) (desk desk' : Standing) : Type 0 where
  pub steps : List Made
  pub calls : Calls desk desk' IsClear (Does nothing) steps
  pub logs : LogsEntry desk.seat.actor log log' noted noted' entry steps
  pub ranges : AreRanges noted → AreRanges noted'
