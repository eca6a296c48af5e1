-- Runs of usable pages in a state, and what a request says of the states at its entry and its exit, on a desk that tells the whole state.
use Rattle.std.specs.Prelude.{ℕ, ◌+◌, ◌*◌, ◌<◌, ◌≤◌, ◌≡◌, ◌⊎◌, true, List, length, Option, Some, Result, Ok, MatchResult}
use Rattle.pas_profile.specs.{Directories.{deed_word_of, number_of}, Blocks.address_of, declared.{directory.Directory.Directory, event.NoRoom.NoRoom}}
use Rattle.pas_profile.specs.declared.{name.Block.Block, profile.Profile.Profile, word.Word.Word}
use Rattle.pas_steps.specs.{Lists.{Whole, word_after}, declared.step.Made.Made}
use Rattle.pas_core.specs.Rights.{eligible_bit, free_of_page}
use Rattle.pas_scan.specs.Runs.{IsInRun}
use Rattle.pas_search.specs.Telling.{IsTrueReason}

-- the page is of the directory, is offered, and all its grains are free
pub record IsWholePage (d : Directory) (l : Whole) (page : ℕ) : Type 0 where
  pub deed : word_after l (Word.Deed page) ≡ deed_word_of d
  pub offered : eligible_bit l (number_of d) page ≡ true
  pub free : (b : ℕ) → b < 256 → free_of_page l page b ≡ true

-- it has no deed, or is such a page
abbrev pub IsUsablePage : Directory → Whole → ℕ → Type 0
IsUsablePage d l page = (word_after l (Word.Deed page) ≡ 0) ⊎ IsWholePage d l page

-- all pages of the run are usable
abbrev pub IsUsableRun : Directory → ℕ → Whole → ℕ → Type 0
IsUsableRun d n l first = (page : ℕ) → IsInRun first n page → IsUsablePage d l page

-- the region has no run of n usable pages
abbrev pub HasNoUsableRun : Profile → Directory → ℕ → Whole → Type 0
HasNoUsableRun f d n l = (first : ℕ) → 1 ≤ first → first + n ≤ f.pages + 1 → IsUsableRun d n l first → ⊥

-- the lowest one
pub record IsLowestRun (f : Profile) (d : Directory) (n : ℕ) (l : Whole) (first : ℕ) : Type 0 where
  pub of_region : (1 ≤ first) × (first + n ≤ f.pages + 1)
  pub usable : IsUsableRun d n l first
  pub lowest : (other : ℕ) → 1 ≤ other → other < first → IsUsableRun d n l other → ⊥

-- the door named this run of the region, and its pages are of the directory, offered and all free
pub record IsNamedWhole (f : Profile) (d : Directory) (n : ℕ) (l : Whole) (found : Option ℕ) (first : ℕ) : Type 0 where
  pub named : found ≡ Some first
  pub of_region : (1 ≤ first) × (first + n ≤ f.pages + 1)
  pub whole : (page : ℕ) → IsInRun first n page → IsWholePage d l page

-- The block is given on the lowest run that was usable at entry. Where the request is refused, there was none at entry, nor is there one at exit,
-- and the reason is true at exit.
abbrev pub IsToldLarge : Profile → Directory → ℕ → Whole → Whole → Result Block NoRoom → Type 0
IsToldLarge f d n entry exit answer = MatchResult answer
    (λ block. (first : ℕ) × IsLowestRun f d n entry first × (address_of block.name ≡ first * 4096))
    (λ room. HasNoUsableRun f d n entry × HasNoUsableRun f d n exit × IsTrueReason f d exit room)

-- Where the run that the door named was whole at entry, the block is given on it, in at most 18 steps for each page and two more.
abbrev pub TakesNamed : Profile → Directory → ℕ → Option ℕ → Whole → List Made → Result Block NoRoom → Type 0
TakesNamed f d n found entry steps answer = (first : ℕ) → IsNamedWhole f d n entry found first → (block : Block) × (answer ≡ Ok block) × (address_of block.name ≡ first * 4096) × (length steps ≤ 18 * n + 2)

-- In every other case the lowest usable run is taken, as where the door named none.
pub record IsToldByDoor (f : Profile) (d : Directory) (n : ℕ) (found : Option ℕ) (entry exit : Whole) (steps : List Made) (answer : Result Block NoRoom) : Type 0 where
  pub served : TakesNamed f d n found entry steps answer
  pub otherwise : ((first : ℕ) → IsNamedWhole f d n entry found first → ⊥) → IsToldLarge f d n entry exit answer
