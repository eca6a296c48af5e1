-- What a past tells, and what stands behind it.
use Rattle.std.specs.Prelude.{◌≡◌, ℕ, ◌++◌}
use Rattle.pas_steps.specs.{Views.View, Lists.{Whole, part}}
use Rattle.pas_shared.specs.{Ledgers.{so_far, IsLedgerOf}, declared.{region.SharedRegion.SharedRegion, past.Past.Past}}

-- the steps of all actors that stand in it: the first ones of the list of all, the newest of them first
abbrev pub told : Past → Whole
told past = so_far past.ledger

-- it is of the region
abbrev pub IsPastOf : SharedRegion → Past → Type 0
IsPastOf region past = IsLedgerOf region past.ledger

-- the actor's own steps so far, and none that it will make, are among these
abbrev pub HasOwn : ℕ → View → Whole → Type 0
HasOwn k v first = part k first ≡ v

-- The list is these first steps and later ones, and the steps that the actor made since are among the later ones.
pub record StandsAfter (first : Whole) (k : ℕ) (since : View) (whole : Whole) : Type 0 where
  pub later : Whole
  pub whole_is : whole ≡ later ++ first
  pub own : part k later ≡ since
