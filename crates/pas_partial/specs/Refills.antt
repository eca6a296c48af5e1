-- A refill from a shared page.
use Rattle.std.specs.Prelude.{ℕ}
use Rattle.pas_profile.specs.declared.directory.{Directory.Directory, Kind.Kind}
use Rattle.pas_segregated.specs.{Refills.Filling, Takes.NoSlot}
use Rattle.pas_search.specs.Choices.{TookChosen}
use Rattle.pas_partial.specs.Rows.{rows}

-- the shared pages of a heap
abbrev pub shared_directory : ℕ → Directory
shared_directory heap = record { heap = heap; kind = Kind.Shared }

-- what a refill from them is of: the lowest free slot of the class, and up to three after it
abbrev pub shared_slots : ℕ → ℕ → Filling
shared_slots heap class = record { directory = shared_directory heap; class = class; no_fit = NoSlot class; took = TookChosen (rows class); steps = 15 }
