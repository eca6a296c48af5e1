-- A run of grains that was chosen is given as a block.
use Rattle.std.specs.Prelude.{ℕ, ◌+◌, ◌*◌, ◌/◌, ◌^◌, ◌<◌, ◌≤◌, ◌≡◌, ◌⊎◌, Bool, true, false, List, [], ◌∷◌, ◌++◌, length, Result, MatchResult}
use Rattle.pas_bits.specs.Runs.{in_run}
use Rattle.pas_profile.specs.{Blocks.{address_of, grain_of, length_of}, declared.{directory.Directory.Directory, event.{Event.Event, NoRoom.NoRoom}}}
use Rattle.pas_profile.specs.declared.{name.Block.Block, profile.Profile.Profile}
use Rattle.pas_rights.specs.{Gives.{block_of, give_steps}, Leaves.LeaveSteps}
use Rattle.pas_steps.specs.{Calls.{Leads, Lost, Does}, Desks.{Standing, Adds, triples}, Events.events_by, Lists.Whole, Views.{View, holds, KnowsDeed}}
use Rattle.pas_steps.specs.declared.step.Made.{Made}
use Rattle.pas_search.specs.{Kinds.AreSearch, Serving.right_of, Telling.IsTold, Choices.{Choice, choosing}, Searches.{search_steps, MaySearch, FromOffered}}
use Rattle.pas_search.specs.{Searches.{ByDeed, Finds, IsRefused}, declared.{serving.Served.Served, placing.Run.Run}}

abbrev pub served_by : {Found : Type 0} → ℕ → Found → Served Found
served_by page found = record { page = page; found = found }

-- The page's right isn't the actor's, and all else is as it was: none of the block's grains was held. The page is known to be of the directory.
pub record GaveBlock (page : ℕ) (d : Directory) (block : Block) (v w : View) : Type 0 where
  pub does : Does (right_of page Lost) v w
  pub apart : (g : ℕ) → in_run (grain_of block.name) (length_of block) g ≡ true → holds v g ≡ false
  pub deed : KnowsDeed page d w
  pub turn : block.name.turn < 2 ^ 37

-- The search found the page so, and what is chosen of it. Then the block of the run was given, so many bytes at the run's address, and after that the
-- page was left: at most 13 steps, and no event but the give.
pub record GivesFound {Found : Type 0} (choice : Choice Found) (run : Found → Run) (f : Profile) (d : Directory) (So : ℕ → List Made → Type 0)
    (searched after : List Made) (block : Block) : Type 0 where
  pub page : ℕ
  pub found : Found
  pub served : Finds (choosing choice) f d (So page) searched (served_by page found)
  pub word : ℕ
  pub answer : ℕ
  pub left : List Made
  pub after_is : after ≡ left ++ give_steps page (run found).first block word answer
  pub leaves : LeaveSteps page d left
  pub few : length after ≤ 13
  pub block_is : block ≡ block_of d.heap page (run found).first (run found).grains word
  pub address_is : address_of block.name ≡ page * 4096 + (run found).first * 16
  pub room_is : block.room ≡ (run found).grains * 16
  pub gave : Leads f (MaySearch d) (GaveBlock page d block) (after ++ searched)
  pub events : (k : ℕ) (v : View) → events_by k v (after ++ searched) ≡ Event.Give k block ∷ events_by k v searched

-- the page is the lowest offered one that fits, or the lowest without a deed
abbrev pub IsGiven : {Found : Type 0} → Choice Found → (Found → Run) → Profile → Directory → List Made → List Made → Block → Type 0
IsGiven choice run f d = GivesFound choice run f d (λ page call. FromOffered choice.no_fit d page call ⊎ ByDeed choice.no_fit f d page call)

-- The pages of the directory were searched. A block was given, or the search was refused and no step followed. The answer is true of the states at
-- entry and at exit where the desk tells them. The steps of the search are at most those of one whose turn of a page takes 15.
pub record AllocatesRun {Found : Type 0} (choice : Choice Found) (run : Found → Run) (d : Directory) (tells : Bool) (desk desk' : Standing) (answer : Result Block NoRoom) : Type 0 where
  pub searched : List Made
  pub searches : AreSearch searched
  pub few : length searched ≤ search_steps 15 desk.seat.profile.pages
  pub after : List Made
  pub adds : Adds desk desk' (MaySearch d) (after ++ searched)
  pub outcome : MatchResult answer (IsGiven choice run desk.seat.profile d searched after) (λ why. IsRefused choice.no_fit desk.seat.profile d searched why
      × (after ≡ []))
  pub told : tells ≡ true → (v : View) (l : Whole) → desk.stands v l → MaySearch d v
      → IsTold (λ (b : Block). address_of b.name / 4096) choice.no_fit desk.seat.profile d l (triples desk.seat.actor (after ++ searched) ++ l) answer
