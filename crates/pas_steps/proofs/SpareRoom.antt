-- How the room for events falls.
use Rattle.std.proofs.Common.{◌≡◌, ℕ, ◌+◌, List, length, arith, length-append}
use Rattle.pas_steps.specs.{declared.step.Made.Made, Views.View, Events.{events_of, events_by}, Lists.Whole, Desks.{Standing, CanCall, Adds}}
use Rattle.pas_steps.proofs.Frames.{events_split}

-- the law of a desk on its room
abbrev pub Spares : Standing → ℕ → Type 0
Spares σ spare = (v : View) (l : Whole) → σ.stands v l → spare + length (events_of σ.seat.actor v) ≡ σ.seat.room

-- the room falls by the events of the steps
pub spare_falls : {σ σ' : Standing} {C : View → Type 0} {xs : List Made} (spare spare' n : ℕ) → Adds σ σ' C xs → (can : CanCall σ C) → Spares σ spare
    → Spares σ' spare' → length (events_by σ.seat.actor can.view xs) ≡ n → spare' + n ≡ spare
spare_falls {σ} {σ'} {C} {xs} spare spare' n adds can old new count = search (arith, events_split, length-append)
