-- What a plain desk stands for, and which passes are a region's own.
use Rattle.std.{specs.Prelude.{ℕ, ◌≡◌, ◌≢◌, ◌+◌, List, [], All, length}, proofs.{Common.{ap, sym, ◌∙◌, subst}, Math.Nat.sub-add_cancel}}
use Rattle.pas_steps.specs.{Views.{View, or_zero}, Lists.{Whole, part}, Events.events_of, Desks.{Seat, Standing}, Noted.{IsNoted, ShowsRest}}
use Rattle.pas_steps.{specs.declared.step.Step.Step, proofs.Noting.rest_length}
use Rattle.pas_plain.specs.Plain.{profile_of, RegionStands, actor_of, events_shown, forgotten_by, spare_in, room_of_pass, epoch_known, PassStands, IsExchanged}
use Rattle.pas_plain.specs.declared.{region.PlainRegion.PlainRegion, pass.PlainPass.PlainPass, desk.PlainDesk.PlainDesk}

-- ---- desks
abbrev pub region_of : PlainDesk → PlainRegion
region_of desk = desk.region

abbrev pub pass_of : PlainDesk → PlainPass
pass_of desk = desk.pass

abbrev pub seat_of : PlainDesk → Seat
seat_of desk = record { actor = actor_of desk.pass; profile = profile_of desk.region; room = room_of_pass desk.pass }

-- the desk stands for the lists for which both its region and its pass stand, and for the part of its actor
pub record DeskStands (desk : PlainDesk) (v : View) (l : Whole) : Type 0 where
  pub region : RegionStands desk.region l
  pub pass : PassStands (profile_of desk.region) desk.pass l
  pub part_is : part (actor_of desk.pass) l ≡ v

-- the events that it shows are those of the view, after as many as were forgotten ..
pub shows_rest : (desk : PlainDesk) (v : View) (l : Whole) → DeskStands desk v l
    → ShowsRest (forgotten_by desk.pass) (events_shown desk.pass) (events_of (actor_of desk.pass) v)
shows_rest desk v l stood =
    subst (λ x. ShowsRest (forgotten_by desk.pass) (events_shown desk.pass) (events_of (actor_of desk.pass) x)) stood.part_is stood.pass.shown

-- .. and what is left of the room is what they don't take
pub spare_of_room : (desk : PlainDesk) (v : View) (l : Whole) → DeskStands desk v l
    → spare_in desk.pass + length (events_of (actor_of desk.pass) v) ≡ room_of_pass desk.pass
spare_of_room desk v l stood =
    ap (λ n. spare_in desk.pass + n) (sym (rest_length (shows_rest desk v l stood)))
    ∙ sub-add_cancel {n = room_of_pass desk.pass} {m = forgotten_by desk.pass + length (events_shown desk.pass)} desk.pass.within

abbrev pub standing_of : PlainDesk → Standing
standing_of desk = record { seat = seat_of desk; stands = DeskStands desk }

-- the desk after the step with this answer
pub record IsChanged (old new : PlainDesk) (step : Step) (answer : ℕ) : Type 0 where
  pub region : IsExchanged old.region new.region (or_zero (epoch_known old.pass)) step answer
  pub actor : actor_of new.pass ≡ actor_of old.pass
  pub forgotten : forgotten_by new.pass ≡ forgotten_by old.pass
  pub pass : IsNoted old.pass.notes new.pass.notes (actor_of old.pass) step answer

-- ---- passes of a region: region and passes stand for one list
pub record IsPassOf (region : PlainRegion) (pass : PlainPass) : Type 0 where
  pub whole : Whole
  pub stands : RegionStands region whole
  pub its_part : PassStands (profile_of region) pass whole

pub record ArePassesOf (region : PlainRegion) (passes : List PlainPass) : Type 0 where
  pub whole : Whole
  pub stands : RegionStands region whole
  pub parts : All (λ pass. PassStands (profile_of region) pass whole) passes

-- ---- two actors at a region that nobody used yet
-- one at its desk, and the pass of another one: nobody made a step. Each has room for so many events in all
pub record Opens (desk : PlainDesk) (pass : PlainPass) (room : ℕ) : Type 0 where
  pub stood : DeskStands desk [] []
  pub rests : PassStands (profile_of (region_of desk)) pass []
  pub other : actor_of (pass_of desk) ≢ actor_of pass
  pub room_of : room_of_pass (pass_of desk) ≡ room
  pub room_of_other : room_of_pass pass ≡ room
