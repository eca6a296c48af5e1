-- The flush of a log.
use Rattle.std.specs.{Prelude.{ℕ, ◌+◌, ◌-◌, ◌*◌, ◌≤◌, ◌≡◌, List, [], ◌∷◌, ◌++◌, length, map, reverse, take, Option, Some, option_to_list}, List.flat_map}
use Rattle.pas_profile.specs.{Directories.directory_read, Blocks.grain_of, Entries.entry_of, declared.{directory.Directory.Directory, name.Name.Name}}
use Rattle.pas_profile.specs.declared.{word.Word.Word, event.Event.Event, entry.Entry.Entry}
use Rattle.pas_steps.specs.{Views.{View, known_epoch, epoch_of}, Events.events_by, Calls.{nothing, Does, Calls}, Kinds.Only, Desks.{Standing, made}}
use Rattle.pas_steps.specs.{InTurn.InTurn, Clear.IsClear, declared.step.{Made.Made, Step.TheVariants.Look}}
use Rattle.pas_free_log.specs.{Conditions.MayEnd, Stamps.{stamps_by, pages_met, stamps_with}, Frames.{ending, freeing}, Endings.{reason_for, EndSteps}}
use Rattle.pas_free_log.specs.{Returns.RunSteps, Noted.{AreRanges, noted_by}, declared.{noting.EndedRun.EndedRun, ending.Outcome.{Outcome, TheVariants.Ended}}}
use Rattle.pas_free_log.specs.declared.ending.Outcome.TheVariants.{Refused}

-- ---- one entry
-- an entry, what came of the end of its name, and of which directory its page was read
pub record Settled : Type 0 where
  pub entry : Entry
  pub outcome : Outcome
  pub directory : Option Directory

-- its one event, by an actor that knows this epoch. The reason of a refusal is told by the life word that was read
abbrev pub event_for : ℕ → ℕ → Entry → Outcome → Event
event_for k epoch entry (Ended grains) = Event.End k entry.name epoch
event_for k epoch entry (Refused read) = Event.Reject k entry.name (reason_for entry read)

abbrev pub shown_for : ℕ → ℕ → Settled → Event
shown_for k epoch settled = event_for k epoch settled.entry settled.outcome

-- each page of a block that ended is stamped once, and no page of a name that was refused
abbrev pub stamps_by_outcome : ℕ → Name → Outcome → List (ℕ × ℕ)
stamps_by_outcome epoch name (Ended grains) = stamps_with epoch (pages_met (grain_of name) grains)
stamps_by_outcome epoch name (Refused read) = []

abbrev pub stamps_for : ℕ → Settled → List (ℕ × ℕ)
stamps_for epoch settled = stamps_by_outcome epoch settled.entry.name settled.outcome

-- the run of a large block that ended
abbrev pub noted_for : Settled → List EndedRun
noted_for settled = noted_by settled.entry.name settled.directory settled.outcome

-- what follows an end: the run of a block that ended is put back
abbrev pub AfterEnd : Name → Outcome → List Made → Type 0
AfterEnd name (Ended grains) steps = RunSteps (grain_of name) grains steps
AfterEnd name (Refused read) steps = steps ≡ []

-- the steps for one entry
pub record EntrySteps (settled : Settled) (steps : List Made) : Type 0 where
  pub ends : List Made
  pub order : EndSteps settled.entry settled.outcome ends
  pub directory : settled.directory ≡ directory_read order.deed
  pub after : List Made
  pub returns : AfterEnd settled.entry.name settled.outcome after
  pub steps_are : steps ≡ after ++ ends

-- the actor is as it was then, and the run is that of a large block that ended
pub record EndsEntry (entry : Entry) (desk desk' : Standing) (run : Option EndedRun) : Type 0 where
  pub outcome : Outcome
  pub directory : Option Directory
  pub run_is : option_to_list run ≡ noted_by entry.name directory outcome
  pub range : AreRanges (option_to_list run)
  pub steps : List Made
  pub calls : Calls desk desk' MayEnd (Does nothing) steps
  pub kinds : Only ending steps
  pub order : EntrySteps record { entry = entry; outcome = outcome; directory = directory } steps
  pub event : (v : View) → events_by desk.seat.actor v steps ≡ event_for desk.seat.actor (epoch_of v) entry outcome ∷ []
  pub stamps : (v : View) → stamps_by v steps ≡ stamps_by_outcome (epoch_of v) entry.name outcome

-- the runs that are noted once these names were settled: those of the large blocks that ended, in order, behind the ones noted before, as far as 64
-- have room
abbrev pub noted_after : List EndedRun → List Settled → List EndedRun
noted_after ended settled = ended ++ take (64 - length ended) (flat_map noted_for (reverse settled))

-- ---- all entries
-- the steps for the entries, the newest first
abbrev pub EntriesSteps : List Settled → List Made → Type 0
EntriesSteps settled steps = InTurn EntrySteps settled steps

-- A flush of these entries: a look at the epoch, and then the steps for each entry in order. `settled` has what came of each, the newest first.
-- Each makes one event, with the epoch that was read; each page of each block that ended is stamped once with it, and no other page.
-- There are at most three steps for each entry, and fourteen for each page that is stamped. The actor is as it was: it holds the grains and has the rights that it had, is clear where it was, and knows as backed what it knew so.
-- The runs of the large blocks that ended are noted in order behind those that were noted before, as far as 64 have room, and nothing else.
pub record Flushes (logged : List Entry) (ended ended' : List EndedRun) (desk desk' : Standing) : Type 0 where
  pub epoch : ℕ
  pub settled : List Settled
  pub entries_are : reverse (map (λ s. s.entry) settled) ≡ logged
  pub noted : ended' ≡ noted_after ended settled
  pub ranges : AreRanges ended → AreRanges ended'
  pub steps : List Made
  pub entries : List Made
  pub order : EntriesSteps settled entries
  pub steps_are : steps ≡ entries ++ (made (Look Word.Epoch) epoch ∷ [])
  pub calls : Calls desk desk' IsClear (Does nothing) steps
  pub kinds : Only freeing steps
  pub events : (v : View) → events_by desk.seat.actor v steps ≡ map (shown_for desk.seat.actor epoch) settled
  pub stamps : (v : View) → stamps_by v steps ≡ flat_map (stamps_for epoch) settled
  pub few : length steps ≤ 1 + 3 * length logged + 14 * length (flat_map (stamps_for epoch) settled)
  pub epoch_known : (v : View) → known_epoch (steps ++ v) ≡ Some epoch

-- ---- one name
-- A flush of a log that has this name alone, without a room: what came of its end, of which directory its page was read, and its one event.
pub record EndsName (name : Name) (desk desk' : Standing) : Type 0 where
  pub noted : List EndedRun
  pub flushes : Flushes (entry_of name ∷ []) [] noted desk desk'
  pub outcome : Outcome
  pub directory : Option Directory
  pub settled_is : flushes.settled ≡ record { entry = entry_of name; outcome = outcome; directory = directory } ∷ []
  pub event : (v : View) → events_by desk.seat.actor v flushes.steps ≡ event_for desk.seat.actor flushes.epoch (entry_of name) outcome ∷ []
