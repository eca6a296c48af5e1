-- A run of grains on the page that a rule ranks best is given as a block.
use Rattle.std.specs.Prelude.{◌/◌, ◌≤◌, ◌≡◌, ◌⊎◌, Bool, true, List, ◌++◌, length, Result, Ok}
use Rattle.pas_profile.specs.{Blocks.address_of, declared.{directory.Directory.Directory, event.NoRoom.NoRoom, name.Block.Block}}
use Rattle.pas_steps.specs.{Desks.{Standing, Adds}, Lists.Whole, Views.View, declared.step.Made.Made}
use Rattle.pas_search.specs.{Kinds.AreSearch, Searches.MaySearch, Allocates.{AllocatesRun, GivesFound}, Choices.Choice, Ranks.{Measure, FromSurvey}}
use Rattle.pas_search.specs.{Ranks.{IsBestOffered, FallsBack, try_steps}, declared.placing.Run.Run}

-- The page that is ranked best was taken from, and the block was given. That the page was the best one is true of the state at entry where the desk tells it.
pub record GivesBest {Found : Type 0} (choice : Choice Found) (run : Found → Run) (ranks : Measure) (d : Directory) (tells : Bool) (desk desk' : Standing)
    (block : Block) : Type 0 where
  pub searched : List Made
  pub searches : AreSearch searched
  pub few : length searched ≤ try_steps 15 desk.seat.profile.pages
  pub after : List Made
  pub adds : Adds desk desk' (MaySearch d) (after ++ searched)
  pub given : GivesFound choice run desk.seat.profile d (FromSurvey desk.seat.profile ranks d) searched after block
  pub told : tells ≡ true → (v : View) (l : Whole) → desk.stands v l → MaySearch d v
      → IsBestOffered choice.no_fit desk.seat.profile ranks d l (address_of block.name / 4096)

-- So it was, or the try of the best page came to nothing and the directory was searched.
abbrev pub AllocatesByRank : {Found : Type 0} → Choice Found → (Found → Run) → Measure → Directory → Bool → Standing → Standing → Result Block NoRoom → Type 0
AllocatesByRank choice run ranks d tells desk desk' answer =
    ((block : Block) × (answer ≡ Ok block) × GivesBest choice run ranks d tells desk desk' block)
    ⊎ FallsBack choice.no_fit 15 ranks d desk (λ tried. AllocatesRun choice run d tells tried desk' answer)
