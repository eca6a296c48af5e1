-- A value that a test chooses, and a flag after a step that sets it, or ends it, where a test says so.
use Rattle.std.proofs.Common.{◌≡◌, Bool, true, false, if◌then◌else◌, arith}

-- A flag that was off stays off where a step may only end it.
pub ends_none : (t was : Bool) → was ≡ false → (if t then false else was) ≡ false
ends_none t was h = grind arith

-- A flag that was set stays set where a step may only set it.
pub stays_set : (t was : Bool) → was ≡ true → (if t then true else was) ≡ true
stays_set t was h = grind arith

-- A flag that is set, where a step may end it, was set before.
pub was_set : (t was : Bool) → (if t then false else was) ≡ true → was ≡ true
was_set t was h = grind arith

-- What is done to a choice is done to either of its parts.
pub ap_if : {A B : Type 0} (f : A → B) (t : Bool) (x y : A) → f (if t then x else y) ≡ (if t then f x else f y)
ap_if f t x y = grind arith
