-- What a machine stands for, and what a step of it does.
use Rattle.std.specs.Prelude.{◌-◌, ◌^◌, ◌≡◌, List, ◌∷◌, Result, Ok, Err}
use Rattle.pas_profile.specs.{declared.{profile.Profile.Profile, event.Event.Event}, Blocks.address_of}
use Rattle.pas_machine.specs.{State.gives_in, Machine.Admits, Reasons.IsFirst, Places.Shows, declared.{fault.StepFault.StepFault, machine.Machine.Machine}}

abbrev pub profile_of : Machine → Profile
profile_of machine = machine.profile

-- the machine stands for each run that leads to what it keeps
abbrev pub StandsFor : Machine → List Event → Type 0
StandsFor machine es = Shows machine.profile machine.pages.items machine.places.items machine.covered.items es

-- the block is one more than can be counted at its address
abbrev pub IsUncounted : List Event → Event → Type 0
IsUncounted es (Event.Deed k page d) = ⊥
IsUncounted es (Event.Back k page) = ⊥
IsUncounted es (Event.Unback k page epoch) = ⊥
IsUncounted es (Event.Give k block) = gives_in es (address_of block.name) ≡ 2 ^ 64 - 1
IsUncounted es (Event.End k name epoch) = ⊥
IsUncounted es (Event.Reject k name why) = ⊥

-- The event was taken, as it may come next, and the machine stands for the run with it. Or it was refused by its first reason, or for want of
-- memory, where the machine is as it was.
abbrev pub Steps : Machine → Machine → Event → Result Unit StepFault → Type 0
Steps old new e (Ok done) = (es : List Event) → StandsFor old es → Admits (profile_of old) es e × StandsFor new (e ∷ es)
Steps old new e (Err (StepFault.Illegal reason)) = (new ≡ old) × ((es : List Event) → StandsFor old es → IsFirst (profile_of old) es e reason)
Steps old new e (Err StepFault.NoMemory) = (new ≡ old) × ((es : List Event) → StandsFor old es → Admits (profile_of old) es e × IsUncounted es e)
