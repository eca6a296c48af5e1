-- What an actor's notes say of its steps.
use Rattle.std.specs.{Prelude.{ℕ, ◌+◌, ◌-◌, ◌^◌, ◌≡◌, ◌++◌, List, length, min, reverse, Option, None}, Option.option_to_list}
use Rattle.pas_profile.specs.{Rooms.{shown, size_of_room, EventRoom}, declared.event.Event.Event}
use Rattle.pas_steps.specs.{Events.{event_of, events_of}, Views.{View, known_epoch, epoch_after, or_zero}, declared.{step.Step.Step, notes.Notes.Notes}}

abbrev pub events_noted : Notes → List Event
events_noted notes = shown notes.room

-- for how many events the room was made
abbrev pub room_of_notes : Notes → ℕ
room_of_notes notes = size_of_room notes.room

abbrev pub count_of_notes : Notes → ℕ
count_of_notes notes = notes.count

abbrev pub epoch_noted : Notes → Option ℕ
epoch_noted notes = notes.epoch

-- the notes of an actor that made no step
abbrev pub notes_for : EventRoom → Notes
notes_for room = record { room = room; count = 0; epoch = None }

-- Of these events, the newest first, the first n that were made are gone: they and what is shown, one after the other, are all of them, in order.
pub record ShowsRest (n : ℕ) (shown events : List Event) : Type 0 where
  pub gone : List Event
  pub many : length gone ≡ n
  pub all : gone ++ shown ≡ reverse events

-- the notes are those of the steps of this actor's view: its events, how many steps they are, and the newest epoch that it read
pub record AreNotesOf (actor : ℕ) (v : View) (notes : Notes) : Type 0 where
  pub shown : events_noted notes ≡ reverse (events_of actor v)
  pub count : count_of_notes notes ≡ min (length v) (2 ^ 64 - 1)
  pub epoch : epoch_noted notes ≡ known_epoch v

-- the notes after one more step of this actor, with this answer
pub record IsNoted (old new : Notes) (actor : ℕ) (step : Step) (answer : ℕ) : Type 0 where
  pub shown : events_noted new ≡ events_noted old ++ option_to_list (event_of actor (or_zero (epoch_noted old)) step answer)
  pub size : room_of_notes new ≡ room_of_notes old
  pub count : count_of_notes new ≡ min (count_of_notes old + 1) (2 ^ 64 - 1)
  pub epoch : epoch_noted new ≡ epoch_after step answer (epoch_noted old)
