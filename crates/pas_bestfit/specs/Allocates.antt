-- The allocation of a block at the best place.
use Rattle.std.specs.Prelude.{ℕ, ◌+◌, ◌*◌, ◌/◌, ◌≡◌, max, Bool, Result, MatchResult}
use Rattle.pas_search.specs.{Allocates.AllocatesRun, Placements.placed}
use Rattle.pas_profile.specs.declared.{directory.{Directory.Directory, Kind.Kind}, event.NoRoom.NoRoom, name.Block.Block}
use Rattle.pas_steps.specs.Desks.{Standing}
use Rattle.pas_bestfit.specs.Bests.{best_fit}

-- the bit-fit pages of a heap
abbrev pub bestfit_directory : ℕ → Directory
bestfit_directory heap = record { heap = heap; kind = Kind.Bitfit }

-- as many grains as hold so many bytes, and one for none
abbrev pub grains_for : ℕ → ℕ
grains_for bytes = max 1 ((bytes + 15) / 16)

-- the pages were searched for the best run, and the first grains of the one on the page that was found were given
abbrev pub GivesBest : ℕ → ℕ → Bool → Standing → Standing → Result Block NoRoom → Type 0
GivesBest heap n = AllocatesRun (placed (best_fit (record { grains = n }))) (best_fit (record { grains = n })).run (bestfit_directory heap)

-- they hold the bytes that were asked for
pub record Allocates (heap bytes : ℕ) (tells : Bool) (desk desk' : Standing) (answer : Result Block NoRoom) : Type 0 where
  pub by_run : GivesBest heap (grains_for bytes) tells desk desk' answer
  pub room_is : MatchResult answer (λ block. block.room ≡ grains_for bytes * 16) (λ why. Unit {0})
