-- Blocks that two threads hand to each other.
use Rattle.std.specs.Prelude.{ℕ, ◌-◌, ◌≡◌, List, [], ◌∷◌, length, IfSome}
use Rattle.atomic_table.specs.Seated.{TableId}
use Rattle.pas_profile.specs.{declared.{event.Event.Event, name.Name.Name}, Entries.entry_of}
use Rattle.pas_steps.specs.{Clear.HasNothing, Desks.Standing, Events.events_of, Noted.{events_noted, room_of_notes}}
use Rattle.pas_free_log.specs.{Flushes.event_for, declared.ending.Outcome.Outcome}
use Rattle.pas_shared.specs.{Passes.{IsPassOf, seat_of, view_of}, declared.{desk.SharedDesk.SharedDesk, past.Past.Past, pass.SharedPass.SharedPass}}
use Rattle.pas_shared.specs.declared.region.SharedRegion.{SharedRegion}
use Rattle.pas_trials.specs.declared.trading.Traded.{Traded}

-- ---- regions, by the tables of their words
abbrev pub table_of : SharedRegion → TableId
table_of region = region.table.shared.table_id

-- the past is one of the region with this table
abbrev pub IsPastAt : TableId → Past → Type 0
IsPastAt table past = past.ledger.seat.table_id ≡ table

-- one that no region has to have
abbrev pub no_table : TableId
no_table = record { words = 0; slots = 0; views_name = 0; atom = 0; block = 0; offset = 0; slot_names = [] }

-- ---- actors
-- what a desk of this pass stands for
abbrev pub standing_at : SharedPass → Standing
standing_at pass = record { seat = seat_of pass; stands = λ v l. view_of pass ≡ v }

-- for how many more events the actor has room
abbrev pub spare_of : SharedDesk → ℕ
spare_of desk = room_of_notes desk.pass.notes - length (events_noted desk.pass.notes)

-- the last event of the actor is what came of the end of this name
pub record HasEnded (pass : SharedPass) (name : Name) : Type 0 where
  pub epoch : ℕ
  pub outcome : Outcome
  pub before : List Event
  pub events : events_of (seat_of pass).actor (view_of pass) ≡ event_for (seat_of pass).actor epoch (entry_of name) outcome ∷ before

-- the actor has nothing and owes nothing, and the last of its events is what came of the block that it took, where it took one
pub record HasTraded (region : SharedRegion) (traded : Traded) : Type 0 where
  pub of_region : IsPassOf region traded.pass
  pub nothing : HasNothing (view_of traded.pass)
  pub ended : IfSome traded.ended (HasEnded traded.pass)
