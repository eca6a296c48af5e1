-- What a plain region, a pass and a plain desk stand for.
use Rattle.std.{specs.Prelude.{ℕ, ◌+◌, ◌-◌, ◌^◌, ◌≡◌, ◌≤◌, List, [], ◌∷◌, if◌then◌else◌, length, min, Option}, proofs.Common.arith}
use Rattle.pas_profile.specs.{Layouts.same_word, Profiles.IsWordOf, Rooms.EventRoom, declared.{event.Event.Event, profile.Profile.Profile, word.Word.Word}}
use Rattle.pas_steps.specs.{Effects.{target, new_value}, Events.events_of, Paged.value_in, Views.known_epoch, Lists.{Whole, part, word_after, Legal}}
use Rattle.pas_steps.specs.{declared.step.Step.Step, Noted.{ShowsRest, events_noted, room_of_notes, count_of_notes, epoch_noted, notes_for}}
use Rattle.pas_plain.specs.declared.{region.PlainRegion.PlainRegion, pass.PlainPass.PlainPass}

-- ---- regions
abbrev pub profile_of : PlainRegion → Profile
profile_of region = region.profile

-- the value of a word
abbrev pub word_at : PlainRegion → Word → ℕ
word_at region word = value_in region.words.words word

-- the region stands for each legal list of steps that ends in its words
pub record RegionStands (region : PlainRegion) (l : Whole) : Type 0 where
  pub legal : Legal (profile_of region) l
  pub ends : (word : Word) → IsWordOf (profile_of region) word → word_at region word ≡ word_after l word

-- ---- passes
abbrev pub actor_of : PlainPass → ℕ
actor_of pass = pass.actor

-- the events that it shows, which are in its room
abbrev pub events_shown : PlainPass → List Event
events_shown pass = events_noted pass.notes

-- how many it showed once, and forgot
abbrev pub forgotten_by : PlainPass → ℕ
forgotten_by pass = pass.forgotten

-- for how many events the room was made
abbrev pub room_of_pass : PlainPass → ℕ
room_of_pass pass = room_of_notes pass.notes

-- for how many events there still is room
abbrev pub spare_in : PlainPass → ℕ
spare_in pass = room_of_pass pass - (forgotten_by pass + length (events_shown pass))

abbrev pub count_of_pass : PlainPass → ℕ
count_of_pass pass = count_of_notes pass.notes

abbrev pub epoch_known : PlainPass → Option ℕ
epoch_known pass = epoch_noted pass.notes

-- The pass stands for the lists in which the part of its actor has its events, after as many as it forgot, its count and its epoch.
pub record PassStands (f : Profile) (pass : PlainPass) (l : Whole) : Type 0 where
  pub actor : actor_of pass ≤ f.threads
  pub shown : ShowsRest (forgotten_by pass) (events_shown pass) (events_of (actor_of pass) (part (actor_of pass) l))
  pub count : count_of_pass pass ≡ min (length (part (actor_of pass) l)) (2 ^ 64 - 1)
  pub epoch : epoch_known pass ≡ known_epoch (part (actor_of pass) l)

-- The pass once its room was emptied: what it showed is forgotten, and there is room for as many more. What it stands for stays.
pub record Forgets (old new : PlainPass) : Type 0 where
  pub actor : actor_of new ≡ actor_of old
  pub empty : events_shown new ≡ []
  pub forgotten : forgotten_by new ≡ forgotten_by old + length (events_shown old)
  pub room : room_of_pass new ≡ room_of_pass old
  pub spare : spare_in new ≡ spare_in old
  pub count : count_of_pass new ≡ count_of_pass old
  pub stands : (f : Profile) (l : Whole) → PassStands f old l → PassStands f new l

-- The pass once so many steps more were counted, and nothing else of them was noted.
pub record CountsMore (steps : ℕ) (old new : PlainPass) : Type 0 where
  pub actor : actor_of new ≡ actor_of old
  pub shown : events_shown new ≡ events_shown old
  pub forgotten : forgotten_by new ≡ forgotten_by old
  pub room : room_of_pass new ≡ room_of_pass old
  pub count : count_of_pass new ≡ min (count_of_pass old + steps) (2 ^ 64 - 1)
  pub epoch : epoch_known new ≡ epoch_known old

-- the pass of an actor that made no step
abbrev pub pass_for : ℕ → EventRoom → PlainPass
pass_for actor room = record { actor = actor; notes = notes_for room; forgotten = 0; within = omega (arith, room.within) }

-- a pass for each room, of the actors from this one on
abbrev pub passes_from : ℕ → List EventRoom → List PlainPass
passes_from actor [] = []
passes_from actor (room ∷ rooms) = pass_for actor room ∷ passes_from (actor + 1) rooms

-- ---- a step
-- the region after the step, with this answer, of an actor that knows this epoch
pub record IsExchanged (old new : PlainRegion) (epoch : ℕ) (step : Step) (answer : ℕ) : Type 0 where
  pub answer_is : answer ≡ word_at old (target step)
  pub words : (word : Word) → IsWordOf (profile_of old) word
      → word_at new word ≡ (if same_word (target step) word then new_value epoch step answer else word_at old word)
  pub profile : new.profile ≡ old.profile
