-- What a worker has before a race, and what came of its refill.
use Rattle.std.specs.Prelude.{◌≡◌, false, Option, None, Some, Result}
use Rattle.pas_profile.specs.declared.event.NoRoom.{NoRoom}
use Rattle.pas_steps.specs.Desks.{Standing}
use Rattle.pas_segregated.specs.{Refills.{exclusive_slots, Refills}, declared.slots.Slots.Slots}
use Rattle.pas_shared.specs.{Passes.{IsFreshPass, seat_of, view_of}, Workers.IsReady, declared.{region.SharedRegion.SharedRegion, pass.SharedPass.SharedPass}}
use Rattle.pas_shared.specs.declared.workers.Worker.{Worker}

-- the pass is fresh, with room for two events, which is enough for a refill
abbrev pub MayRefill : {W : Type 0} → SharedRegion → W → SharedPass → Type 0
MayRefill region work pass = IsFreshPass region 2 pass

abbrev pub IsReadyForRace : {W : Type 0} → SharedRegion → Worker W → Type 0
IsReadyForRace region worker = IsReady MayRefill region worker

-- a shared desk with this pass stands for the steps of its actor
abbrev pub standing_with : SharedPass → Standing
standing_with pass = record { seat = seat_of pass; stands = λ v l. view_of pass ≡ v }

-- the actor made a refill of the smallest class, and keeps its answer
abbrev pub HasRefilled : SharedPass → Option (Result Slots NoRoom) → SharedPass → Type 0
HasRefilled before None after = ⊥
HasRefilled before (Some answer) after = Refills (exclusive_slots 0 0) false (standing_with before) (standing_with after) answer
