-- A block that one actor hands another with its past, and what comes of it.
use Rattle.std.specs.{Prelude.{◌≡◌, ℕ, List, [], ◌∷◌, Some}, List.AllByRecursion}
use Rattle.pas_profile.specs.{declared.{directory.Directory.Directory, event.Event.Event, name.Block.Block}, Entries.entry_of}
use Rattle.pas_steps.specs.Events.{events_of}
use Rattle.pas_free_log.specs.{Conditions.IsEntryOf, Flushes.event_for, declared.ending.Outcome.Outcome}
use Rattle.pas_cache.specs.Serves.{IsPreparing}
use Rattle.pas_shared.specs.{Ruled.IsEarlier, Pasts.{told, IsPastOf, HasOwn}, Passes.{IsPassOf, view_of, seat_of, IsFreshPass}, declared.past.Past.Past}
use Rattle.pas_shared.specs.declared.{pass.SharedPass.SharedPass, region.SharedRegion.SharedRegion}
use Rattle.pas_trials.specs.declared.handing.{Gift.Gift, Handed.Handed}

-- the pass of this actor, which made no step, with room for so many events
pub record IsFirst (region : SharedRegion) (k events : ℕ) (pass : SharedPass) : Type 0 where
  pub fresh : IsFreshPass region events pass
  pub actor : (seat_of pass).actor ≡ k

-- a pass of this actor
pub record IsOfActor (region : SharedRegion) (k : ℕ) (pass : SharedPass) : Type 0 where
  pub of_region : IsPassOf region pass
  pub actor : (seat_of pass).actor ≡ k

-- The name is that of the block that actor 1 gave last, behind deeds and backs alone, and its end may be tried. All steps of the actor stand in the past.
pub record IsGiftOf (region : SharedRegion) (pass : SharedPass) (gift : Gift) : Type 0 where
  pub past : IsPastOf region gift.past
  pub own : HasOwn 1 (view_of pass) (told gift.past)
  pub block : Block
  pub name_is : block.name ≡ gift.name
  pub directory : Directory
  pub before : List Event
  pub events : events_of 1 (view_of pass) ≡ Event.Give 1 block ∷ before
  pub prepared : AllByRecursion (IsPreparing directory) before
  pub entry : IsEntryOf region.profile (entry_of gift.name)

-- Actor 2 tried the end of the name once, and has one event, that of what came of it. All its steps stand behind the past that it has now, which goes on from the
-- one that it took.
pub record HasFreed (region : SharedRegion) (gift : Gift) (pass : SharedPass) (past : Past) : Type 0 where
  pub past_of : IsPastOf region past
  pub earlier : IsEarlier (told gift.past) (told past)
  pub own : HasOwn 2 [] (told past)
  pub epoch : ℕ
  pub outcome : Outcome
  pub events : events_of 2 (view_of pass) ≡ event_for 2 epoch (entry_of gift.name) outcome ∷ []

-- the event that actor 2 has is the end of the block
pub record IsHandedOver (handed : Handed) : Type 0 where
  pub epoch : ℕ
  pub ended : handed.event ≡ Some (Event.End 2 handed.name epoch)
