-- Guards that are up.
use Rattle.std.specs.{Prelude.{ℕ, ◌==◌, List}, List.filter}
use Rattle.pas_profile.specs.declared.guard.{Guard.Guard, Raised.Raised}

-- a guard of this keeper
abbrev pub raised_by : ℕ → Guard → Raised
raised_by keeper guard = record { keeper = keeper; guard = guard }

-- of all that are up those of a keeper, in the order in which they went up
abbrev pub guards_of : ℕ → List Raised → List Raised
guards_of keeper raised = filter (λ r. r.keeper == keeper) raised
