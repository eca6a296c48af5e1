-- A guard goes up.
use Rattle.std.specs.Prelude.{ℕ, ◌+◌, ◌*◌, ◌/◌, ◌≤◌, ◌≡◌, true, ◌∷◌, [], List, ◌++◌, length, Option, MatchOption}
use Rattle.pas_profile.specs.declared.{directory.Directory.Directory, name.Block.Block, profile.Profile.Profile, guard.Guard.Guard}
use Rattle.pas_scan.specs.Runs.{large_directory}
use Rattle.pas_steps.specs.{Agreement.Agreed, Calls.Leads, Past.Always, Desks.{Standing, Adds}, InTurn.InTurn, Kinds.Only, Unknown.unknown_pages, Views.View}
use Rattle.pas_steps.specs.declared.step.{Step.TheVariants.Back, Made.Made}
use Rattle.pas_large.specs.{Claims.StaysPut, Evidence.DeedsRise, Gives.{BackStep, pages_from, run_block}, Pages.OnlyDeedsShow}
use Rattle.pas_rights.specs.{Gives.give_steps, Leaves.LeaveSteps}
use Rattle.pas_search.specs.Kinds.{ReturnsDuly}
use Rattle.pas_guard.specs.{Books.{is_outer, FitsBook}, Guards.left_last_first, Seeks.{seeking, SoughtRun, SoughtNone}}

-- the actor fits the book, and there is room for the deeds that aren't known, and for n events more
pub record RaiseRoom (f : Profile) (guards : List Guard) (n spare : ℕ) (v : View) : Type 0 where
  pub fits : FitsBook f guards v
  pub room : n + unknown_pages f v ≤ spare

-- the guard of the block of k pages that stands behind page `first`
abbrev pub guard_of : ℕ → ℕ → Block → Guard
guard_of first k block = record { low = first; high = first + k + 1; block = block }

-- The search found the run. Then its inner pages were backed from the lowest up and given as one block, and all its pages were left: those of the block
-- from the lowest up, then the two beside it. The guard is the last in the book.
pub record IsRaised (f : Profile) (d : Directory) (k : ℕ) (guards guards' : List Guard) (searched after : List Made) (block : Block) : Type 0 where
  pub first : ℕ
  pub found : SoughtRun f d k searched first
  pub backs : List Made
  pub back_order : InTurn BackStep (pages_from (first + 1) k) backs
  pub word : ℕ
  pub answer : ℕ
  pub block_is : block ≡ run_block d (first + 1) k word
  pub left : List Made
  pub left_order : InTurn (λ page piece. LeaveSteps page d piece) (left_last_first first k) left
  pub after_is : after ≡ left ++ (give_steps (first + 1) 0 block word answer ++ backs)
  pub raised : guards' ≡ guards ++ guard_of first k block ∷ []

-- the search found none, and the book is as it was
pub record IsNotRaised (f : Profile) (d : Directory) (k : ℕ) (guards guards' : List Guard) (searched after : List Made) : Type 0 where
  pub found : SoughtNone f d k searched
  pub nothing : after ≡ []
  pub same : guards' ≡ guards

-- no step backs the page
abbrev pub BacksNot : ℕ → List Made → Type 0
BacksNot page = Always (λ m before. m.step ≡ Back page → ⊥)

-- What a raise does, in the actor's own steps: the search, and what comes after it. The actor fits the book before and afterwards. The search makes its deeds
-- from the lowest page up. It gives up, takes back and hints no page but one that it got, hints none but one that it read as backed and empty, and puts no
-- grain but one that it took. The outer pages of the guards that were up are left alone: no step moves a grain of theirs or backs one. At most 71 steps for each
-- page of the region, 12 for each page that is asked for, and 26 more.
pub record RaiseSteps (f : Profile) (heap k : ℕ) (guards guards' : List Guard) (answer : Option Block) (steps : List Made) : Type 0 where
  pub searched : List Made
  pub after : List Made
  pub steps_are : steps ≡ after ++ searched
  pub fits : Leads f (FitsBook f guards) (λ v w. FitsBook f guards' w) steps
  pub kinds : Only seeking searched
  pub rise : DeedsRise searched
  pub returns : Always ReturnsDuly searched
  pub shows : OnlyDeedsShow f searched
  pub few : length steps ≤ 71 * f.pages + 12 * k + 26
  pub steady : (v : View) → FitsBook f guards v → Agreed f v steps → (g : ℕ) → is_outer guards (g / 256) ≡ true → StaysPut g steps
  pub unbacked : (v : View) → FitsBook f guards v → Agreed f v steps → (page : ℕ) → is_outer guards page ≡ true → BacksNot page steps
  pub outcome : MatchOption answer (IsNotRaised f (large_directory heap) k guards guards' searched after)
      (IsRaised f (large_directory heap) k guards guards' searched after)

pub record Raises (heap k : ℕ) (guards guards' : List Guard) (desk desk' : Standing) (answer : Option Block) : Type 0 where
  pub steps : List Made
  pub adds : Adds desk desk' (FitsBook desk.seat.profile guards) steps
  pub raise : RaiseSteps desk.seat.profile heap k guards guards' answer steps
