-- WHAT A LOGGED FREE SHOWS.
use Rattle.std.specs.Prelude.{ℕ, ◌≡◌, Bool, true, false, not, ◌&&◌, List, [], ◌∷◌, ◌++◌, Some}
use Rattle.pas_profile.specs.{Blocks.address_of, Profiles.IsValid, Entries.is_sized, declared.{event.{Event.Event, Why.Why}, profile.Profile.Profile}}
use Rattle.pas_profile.specs.declared.{word.Word.Word, entry.Entry.Entry}
use Rattle.pas_machine.specs.State.{Live, live_in}
use Rattle.pas_free_log.specs.{declared.{ending.Outcome.Outcome, noting.EndedRun.EndedRun}, Flushes.event_for}
use Rattle.pas_records.specs.declared.record.Record.{Record}
use Rattle.pas_cache.specs.Changes.{EmptiesLog}
use Rattle.pas_steps.specs.{Desks.triples, Lists.{Whole, visible, word_after, Legal}, declared.step.Made.Made}
use Rattle.pas_same_text.specs.{State.{World, live_after, log_of}, Frees.is_other_room, Same.lives_in}

-- the text shows just this event more; caches and hints may change
pub record IsShown (e : Event) (w w' : World) : Type 0 where
  pub events : w'.events ≡ e ∷ w.events
  pub live : w'.live ≡ live_after e w.live
  pub records : w'.records ≡ Record.Event e ∷ w.records
  pub names : w'.names ≡ w.names
  pub epoch : w'.epoch ≡ w.epoch
  pub read : w'.read ≡ w.read
  pub indexes : w'.indexes ≡ w.indexes

-- another room is a reason where the free named one, and it is that
abbrev pub IsEntryReason : Entry → Why → Type 0
IsEntryReason entry Why.Ended = Unit {0}
IsEntryReason entry Why.NoBlock = Unit {0}
IsEntryReason entry (Why.SizeDiffers room) = (is_sized entry ≡ true) × (room ≡ entry.room)

-- An event that actor k may make for a logged free: the end of just its name, in the epoch of the text, of a block with the room that was named, if one was;
-- or a refusal of just its name.
abbrev pub IsEntryEvent : ℕ → Entry → World → Event → Type 0
IsEntryEvent k entry w (Event.Deed j page d) = ⊥
IsEntryEvent k entry w (Event.Back j page) = ⊥
IsEntryEvent k entry w (Event.Unback j page e) = ⊥
IsEntryEvent k entry w (Event.Give j block) = ⊥
IsEntryEvent k entry w (Event.End j name e) = (j ≡ k) × (name ≡ entry.name) × (e ≡ w.epoch) × ((b : Live) → live_in w.events (address_of entry.name) ≡ Some b → is_other_room entry b.block ≡ false)
IsEntryEvent k entry w (Event.Reject j name why) = (j ≡ k) × (name ≡ entry.name) × IsEntryReason entry why

-- ---- a flush
-- what came of each entry of a log, in its order
abbrev pub HaveOutcomes : List Entry → List Outcome → Type 0
HaveOutcomes [] [] = Unit {0}
HaveOutcomes [] (o ∷ outcomes) = ⊥
HaveOutcomes (entry ∷ entries) [] = ⊥
HaveOutcomes (entry ∷ entries) (o ∷ outcomes) = HaveOutcomes entries outcomes

-- their events by actor k, which knows this epoch, in the same order
abbrev pub events_of_flush : ℕ → ℕ → List Entry → List Outcome → List Event
events_of_flush k epoch [] outcomes = []
events_of_flush k epoch (entry ∷ entries) [] = []
events_of_flush k epoch (entry ∷ entries) (o ∷ outcomes) = event_for k epoch entry o ∷ events_of_flush k epoch entries outcomes

-- none of them names a room
abbrev pub are_unsized : List Entry → Bool
are_unsized [] = true
are_unsized (entry ∷ entries) = not (is_sized entry) && are_unsized entries

-- these events come one after the other onto those before, which stand with the newest first
abbrev pub onto : List Event → List Event → List Event
onto [] es = es
onto (e ∷ more) es = onto more (e ∷ es)

-- the text shows just these events more, in order, and has the blocks that live after them
pub record HasShown (evs : List Event) (w w' : World) : Type 0 where
  pub events : w'.events ≡ onto evs w.events
  pub live : w'.live ≡ lives_in w'.events
  pub names : w'.names ≡ w.names
  pub epoch : w'.epoch ≡ w.epoch

-- A log without rooms was emptied by these steps of actor k, which came onto a legal list: the text has shown its events, and has this log.
pub record IsFlushOf (f : Profile) (k : ℕ) (logged : List Entry) (noted noted' : List EndedRun) (steps : List Made) (l : Whole) (w : World) : Type 0 where
  pub valid : IsValid f
  pub legal : Legal f (triples k steps ++ l)
  pub empties : EmptiesLog k logged noted noted' steps
  pub unsized : are_unsized logged ≡ true
  pub events : w.events ≡ visible l
  pub live : w.live ≡ lives_in w.events
  pub epoch : w.epoch ≡ word_after l Word.Epoch
  pub log : log_of w k ≡ logged
