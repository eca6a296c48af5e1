-- Two actors at one plain region, of whom one acts between the steps of the other.
use Rattle.std.{specs.Prelude.{◌+◌, ◌-◌, ◌^◌, ◌≡◌, ◌≢◌, List, length, min}, proofs.Common.{ap, ◌∙◌}}
use Rattle.pas_steps.specs.{Calls.Calls, Clear.HasNothing, Desks.{Seat, Standing}, Events.events_of, Lists.{Whole, part}, Noted.ShowsRest, Views.View}
use Rattle.pas_steps.specs.declared.step.Made.{Made}
use Rattle.pas_plain.specs.Plain.{profile_of, RegionStands, actor_of, events_shown, forgotten_by, spare_in, room_of_pass, count_of_pass, PassStands}
use Rattle.pas_plain.specs.{Seats.{region_of, pass_of, seat_of, DeskStands, shows_rest, spare_of_room}, declared.region.PlainRegion.PlainRegion}
use Rattle.pas_plain.specs.declared.{pass.PlainPass.PlainPass, desk.PlainDesk.PlainDesk}

-- an actor that had nothing and was clear made these steps, after which it has nothing and is clear again
pub record Acts (desk desk' : Standing) : Type 0 where
  pub steps : List Made
  pub calls : Calls desk desk' HasNothing (λ v w. HasNothing w) steps

-- Region and both passes stand for the list, in which the own actor's part is this view, and at whose end the foreign actor, which is another,
-- has nothing and is clear.
pub record StormStands (region : PlainRegion) (own foreign : PlainPass) (v : View) (l : Whole) : Type 0 where
  pub region_stands : RegionStands region l
  pub own_part : PassStands (profile_of region) own l
  pub foreign_part : PassStands (profile_of region) foreign l
  pub other : actor_of foreign ≢ actor_of own
  pub part_is : part (actor_of own) l ≡ v
  pub nothing : HasNothing (part (actor_of foreign) l)

-- some list is so
pub record MayStorm (region : PlainRegion) (own foreign : PlainPass) : Type 0 where
  pub view : View
  pub whole : Whole
  pub stands : StormStands region own foreign view whole

-- the seat of the own actor
abbrev pub seat_for : PlainRegion → PlainPass → Seat
seat_for region own = record { actor = actor_of own; profile = profile_of region; room = room_of_pass own }

-- The desk of the own actor, where the foreign pass waits: it stands for the own part of each such list, beside any list.
abbrev pub storm_of : PlainDesk → PlainPass → Standing
storm_of desk foreign = record {
  seat = seat_of desk;
  stands = λ v l. (w : Whole) × StormStands (region_of desk) (pass_of desk) foreign v w;
}

-- ---- what the storm tells of its own actor, as a plain desk of that actor does
-- for each such list a plain desk of the own actor stands
abbrev pub own_stands : (desk : PlainDesk) (foreign : PlainPass) (v : View) (l : Whole) → StormStands (region_of desk) (pass_of desk) foreign v l
    → DeskStands desk v l
own_stands desk foreign v l stood = record { region = stood.region_stands; pass = stood.own_part; part_is = stood.part_is }

pub shown_own : (desk : PlainDesk) (foreign : PlainPass) (v : View) (l : Whole) → StormStands (region_of desk) (pass_of desk) foreign v l
    → ShowsRest (forgotten_by (pass_of desk)) (events_shown (pass_of desk)) (events_of (actor_of (pass_of desk)) v)
shown_own desk foreign v l stood = shows_rest desk v l (own_stands desk foreign v l stood)

pub counted_own : (desk : PlainDesk) (foreign : PlainPass) (v : View) (l : Whole) → StormStands (region_of desk) (pass_of desk) foreign v l
    → count_of_pass (pass_of desk) ≡ min (length v) (2 ^ 64 - 1)
counted_own desk foreign v l stood = stood.own_part.count ∙ ap (λ x. min (length x) (2 ^ 64 - 1)) stood.part_is

pub spare_own : (desk : PlainDesk) (foreign : PlainPass) (v : View) (l : Whole) → StormStands (region_of desk) (pass_of desk) foreign v l
    → spare_in (pass_of desk) + length (events_of (actor_of (pass_of desk)) v) ≡ room_of_pass (pass_of desk)
spare_own desk foreign v l stood = spare_of_room desk v l (own_stands desk foreign v l stood)
