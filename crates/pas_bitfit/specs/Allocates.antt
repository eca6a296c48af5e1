-- The allocation of a bit-fit block.
use Rattle.std.specs.Prelude.{ℕ, ◌/◌, ◌%◌, ◌≡◌, Bool, List, Result, MatchResult}
use Rattle.pas_profile.specs.{Blocks.address_of, declared.{directory.{Directory.Directory, Kind.Kind}, event.NoRoom.NoRoom, name.Block.Block}}
use Rattle.pas_profile.specs.declared.profile.Profile.{Profile}
use Rattle.pas_steps.specs.{Desks.Standing, declared.step.Made.Made}
use Rattle.pas_search.specs.Allocates.{IsGiven, AllocatesRun}
use Rattle.pas_bitfit.specs.{Runs.{runs, run_at}, declared.wanted.Wanted.Wanted}

-- the bit-fit pages of a heap
abbrev pub bitfit_directory : ℕ → Directory
bitfit_directory heap = record { heap = heap; kind = Kind.Bitfit }

-- the run of a room at a multiple of the alignment, in grains
abbrev pub run_for : ℕ → ℕ → Wanted
run_for room align = record { grains = room / 16; align = align / 16 }

-- the block has the bytes that were asked for, at a multiple of the alignment
pub record IsOfRequest (room align : ℕ) (block : Block) : Type 0 where
  pub room_is : block.room ≡ room
  pub aligned : address_of block.name % align ≡ 0

-- of the lowest page that fits the lowest such run was taken and given
abbrev pub IsAllocated : Profile → Directory → ℕ → ℕ → List Made → List Made → Block → Type 0
IsAllocated f d room align searched after block = IsGiven (runs (run_for room align)) (run_at (run_for room align)) f d searched after block × IsOfRequest room align block

abbrev pub Allocates : ℕ → ℕ → ℕ → Bool → Standing → Standing → Result Block NoRoom → Type 0
Allocates heap room align tells desk desk' answer =
    AllocatesRun (runs (run_for room align)) (run_at (run_for room align)) (bitfit_directory heap) tells desk desk' answer × MatchResult answer (IsOfRequest room align) (λ why. Unit {0})
