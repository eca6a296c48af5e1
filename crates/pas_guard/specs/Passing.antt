-- Guards that are passed by: looks at their life words are told to a desk that tells the whole state, and not made.
use Rattle.std.specs.Prelude.{ℕ, zero, suc, ◌+◌, ◌/◌, ◌<◌, ◌≤◌, ◌≡◌, Bool, false, ◌||◌, List, [], ◌++◌, length, slice_index_or}
use Rattle.pas_profile.specs.{Profiles.IsPage, Blocks.address_of, declared.guard.Guard.Guard}
use Rattle.pas_steps.specs.{Told.TellsWord, Desks.{Standing, AnyView, Adds}, declared.step.Made.Made}
use Rattle.pas_guard.specs.Sweeps.{is_over, life_look, life_word_of}

abbrev pub no_guard : Guard
no_guard = record { low = 0; high = 0; block = record { name = record { address = record { 0 = 0 }; turn = 0 }; room = 0; heap = 0 } }

-- the guard at a place of the book
abbrev pub guard_at : List Guard → ℕ → Guard
guard_at guards place = slice_index_or guards place no_guard

-- the block of each of them begins in the region
abbrev pub AreOfRegion : Standing → List Guard → Type 0
AreOfRegion desk guards = (place : ℕ) → place < length guards → IsPage desk.seat.profile (address_of (guard_at guards place).block.name / 4096)

-- the desk tells the life word of the guard's block, by which it hasn't ended
abbrev pub KnowsAlive : Bool → Standing → Guard → Type 0
KnowsAlive tells desk guard = (word : ℕ) × TellsWord tells desk (life_word_of guard) word × (is_over guard word ≡ false)

-- so it does of each guard from this place on to below another
pub record KnowsAliveOnes (tells : Bool) (desk : Standing) (guards : List Guard) (from place : ℕ) : Type 0 where
  pub from_there : from ≤ place
  pub within : place ≤ length guards
  pub alive : (j : ℕ) → from ≤ j → j < place → KnowsAlive tells desk (guard_at guards j)

-- Looks at the life words of so many guards from this place on, in their order, with these answers. The newest look is the first one.
abbrev pub alive_looks : List Guard → (ℕ → ℕ) → ℕ → ℕ → List Made
alive_looks guards words from zero = []
alive_looks guards words from (suc n) = life_look (guard_at guards (from + n)) (words (from + n)) ++ alive_looks guards words from n

-- The life words of the guards from this place on to below another were looked at, and each guard stays up.
pub record PassesAlive (all : Bool) (guards : List Guard) (from : ℕ) (desk desk' : Standing) (place : ℕ) : Type 0 where
  pub words : ℕ → ℕ
  pub many : ℕ
  pub adds : Adds desk desk' AnyView (alive_looks guards words from many)
  pub at : from + many ≡ place
  pub within : place ≤ length guards
  pub stay : (j : ℕ) → from ≤ j → j < place → (all || is_over (guard_at guards j) (words j)) ≡ false
