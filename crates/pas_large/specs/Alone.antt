-- A request for whole pages whose actor alone made steps meanwhile, whatever its desk tells.
use Rattle.std.specs.Prelude.{ℕ, ◌≡◌, List, ◌++◌, Option, Result, Err}
use Rattle.pas_profile.specs.declared.{directory.Directory.Directory, event.NoRoom.{NoRoom, TheVariants.Held}, name.Block.Block, profile.Profile.Profile}
use Rattle.pas_steps.specs.{Lists.Whole, declared.step.Made.Made}
use Rattle.pas_core.specs.Rights.{AllRest}
use Rattle.pas_large.specs.{Allocates.IsScanned, Telling.{HasNoUsableRun, IsNamedWhole, TakesNamed}}

-- The run that the door named serves the request exactly where its pages were whole before, the list l. Otherwise what was tried with it is undone, and the
-- scan follows.
pub record GoesByDoor (f : Profile) (d : Directory) (n : ℕ) (found : Option ℕ) (l : Whole) (steps : List Made) (answer : Result Block NoRoom) : Type 0 where
  pub served : TakesNamed f d n found l steps answer
  pub tried : List Made
  pub rest : List Made
  pub steps_are : steps ≡ rest ++ tried
  pub otherwise : ((first : ℕ) → IsNamedWhole f d n l found first → ⊥) → IsScanned f d n found tried rest answer

-- Where the request was refused, the state before had no run of so many usable pages. Where all were at rest there besides, and none had a right, no page is
-- said to be held.
pub record FindsTheRunThereIs (f : Profile) (d : Directory) (n : ℕ) (found : Option ℕ) (l : Whole) (steps : List Made) (answer : Result Block NoRoom) : Type 0 where
  pub by_door : GoesByDoor f d n found l steps answer
  pub none_usable : (room : NoRoom) → answer ≡ Err room → HasNoUsableRun f d n l
  pub not_held : AllRest f l → (page : ℕ) → answer ≡ Err (Held page) → ⊥
