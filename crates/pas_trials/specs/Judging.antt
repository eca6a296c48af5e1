-- What holds of each page of a region when all its actors are at rest, and what is wrong where it doesn't.
use Rattle.std.specs.{Prelude.{ℕ, ◌+◌, ◌*◌, ◌/◌, ◌%◌, ◌<◌, ◌≤◌, ◌≡◌, Bool, true, not, List, Option, None, Some}, List.list_any}
use Rattle.pas_bits.specs.{Bits.has_bit, Runs.in_run}
use Rattle.pas_profile.specs.{Directories.{number_of, directory_read}, Profiles.IsPage, Blocks.{grain_of, length_of}, declared.directory.Directory.Directory}
use Rattle.pas_profile.specs.declared.{name.Block.Block, word.Word.Word}
use Rattle.pas_steps.specs.{States.{profile_of, word_in}, Views.usable_by_kind, declared.state.State.State}
use Rattle.pas_trials.specs.declared.judging.Fault.{Fault}

-- ---- the words of a page
-- grain g of the page is free
abbrev pub is_free : State → ℕ → ℕ → Bool
is_free state page g = has_bit (word_in state (Word.Free page (g / 64))) (g % 64)

-- the directory is of the region, and any actor may take the page's right
abbrev pub IsOffered : State → ℕ → Directory → Type 0
IsOffered state page d = (d.heap < (profile_of state).heaps) × (has_bit (word_in state (Word.Eligible (number_of d) (page / 64))) (page % 64) ≡ true)

abbrev pub is_hinted : State → ℕ → Bool
is_hinted state page = has_bit (word_in state (Word.Empty (page / 64))) (page % 64)

-- ---- what holds of a page
-- it is offered wherever a grain is free that blocks of its directory may cover
abbrev pub IsKept : State → ℕ → Directory → Type 0
IsKept state page d = (g : ℕ) → g < 256 → usable_by_kind d.kind g ≡ true → is_free state page g ≡ true → IsOffered state page d

-- it is hinted wherever it is backed and all its grains are free
abbrev pub IsMinded : State → ℕ → Type 0
IsMinded state page = word_in state (Word.Backed page) ≡ 1 → ((g : ℕ) → g < 256 → is_free state page g ≡ true) → is_hinted state page ≡ true

-- the block covers the grain, a number of the region
abbrev pub covers : ℕ → Block → Bool
covers g block = in_run (grain_of block.name) (length_of block) g

-- each grain is free or covered by one of the blocks, and none is both
abbrev pub IsCounted : State → ℕ → List Block → Type 0
IsCounted state page live = (g : ℕ) → g < 256 → is_free state page g ≡ not (list_any (covers (256 * page + g)) live)

-- with a deed all three hold, and without one nothing is asked
pub record IsSound (state : State) (page : ℕ) (live : List Block) (d : Directory) : Type 0 where
  pub kept : IsKept state page d
  pub minded : IsMinded state page
  pub counted : IsCounted state page live

abbrev pub SoundWith : Option Directory → State → ℕ → List Block → Type 0
SoundWith None state page live = Unit {0}
SoundWith (Some d) state page live = IsSound state page live d

abbrev pub IsSoundPage : State → List Block → ℕ → Type 0
IsSoundPage state live page = SoundWith (directory_read (word_in state (Word.Deed page))) state page live

-- ---- what is wrong with a page of this directory
abbrev pub IsFault : State → ℕ → List Block → Directory → Fault → Type 0
IsFault state page live d (Fault.Lost q) = (q ≡ page) × (IsKept state page d → ⊥)
IsFault state page live d (Fault.NotHinted q) = (q ≡ page) × (IsMinded state page → ⊥)
IsFault state page live d (Fault.Miscounted q) = (q ≡ page) × (IsCounted state page live → ⊥)
IsFault state page live d (Fault.Unlawful place) = ⊥

abbrev pub HasFault : State → List Block → ℕ → Fault → Type 0
HasFault state live page fault = (d : Directory) × (directory_read (word_in state (Word.Deed page)) ≡ Some d) × IsFault state page live d fault

-- the fault is that of the lowest page that has one
pub record IsFirstFault (state : State) (live : List Block) (fault : Fault) : Type 0 where
  pub page : ℕ
  pub of_region : IsPage (profile_of state) page
  pub before : (q : ℕ) → 1 ≤ q → q < page → IsSoundPage state live q
  pub here : HasFault state live page fault

abbrev pub AreSound : State → List Block → Type 0
AreSound state live = (page : ℕ) → IsPage (profile_of state) page → IsSoundPage state live page
