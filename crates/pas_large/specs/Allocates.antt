-- The allocation of a large block.
use Rattle.std.specs.Prelude.{ℕ, ◌+◌, ◌*◌, ◌/◌, ◌^◌, ◌<◌, ◌≤◌, ◌≡◌, Bool, true, false, List, ◌++◌, length, Option, Result, Ok, Err, MatchResult, ◌⊎◌}
use Rattle.pas_profile.specs.declared.{directory.Directory.Directory, event.NoRoom.NoRoom, name.Block.Block, profile.Profile.Profile}
use Rattle.pas_scan.specs.Runs.{large_directory}
use Rattle.pas_steps.specs.{Calls.{Leads, nothing, Does}, Desks.{Standing, Adds, triples}, Lists.Whole, Frames.OnlyScans, Kinds.Only, Past.Always, Views.View}
use Rattle.pas_steps.specs.{Views.{holds, KnowsDeed}, InTurn.InTurn, declared.step.Made.Made}
use Rattle.pas_search.specs.Kinds.{ReturnsDuly}
use Rattle.pas_large.specs.{Claims.in_span, Named.{HoldsNamed, MissesNamed, missed_steps}, Pages.{OnlyDeedsShow, claiming_old}, Gives.{BackStep, pages_from}}
use Rattle.pas_large.specs.{Gives.run_block, Refusals.IsReason, Telling.{IsToldLarge, IsToldByDoor}, Finds.{MayFind, finding, FoundRun, FoundNone, LooksAlone}}
use Rattle.pas_rights.specs.{Gives.give_steps, Leaves.LeaveSteps}

-- What the actor holds and has is as it was: none of the block's grains was held. The pages are known to be of the directory.
pub record GaveLarge (d : Directory) (first n : ℕ) (block : Block) (v w : View) : Type 0 where
  pub does : Does nothing v w
  pub apart : (g : ℕ) → in_span first (first + n) (g / 256) ≡ true → holds v g ≡ false
  pub deeds : (p : ℕ) → in_span first (first + n) p ≡ true → KnowsDeed p d w
  pub turn : block.name.turn < 2 ^ 37

-- The search found the run. Then its pages were backed, the block of the whole run was given, and the pages were left.
pub record IsAllocatedLarge (f : Profile) (d : Directory) (n : ℕ) (searched after : List Made) (block : Block) : Type 0 where
  pub first : ℕ
  pub found : FoundRun f d n searched first
  pub backs : List Made
  pub back_order : InTurn BackStep (pages_from first n) backs
  pub word : ℕ
  pub answer : ℕ
  pub block_is : block ≡ run_block d first n word
  pub left : List Made
  pub left_order : InTurn (λ page piece. LeaveSteps page d piece) (pages_from first n) left
  pub after_is : after ≡ left ++ (give_steps first 0 block word answer ++ backs)
  pub few : length after ≤ 12 * n + 2
  pub gave : Leads f (MayFind d) (GaveLarge d first n block) (after ++ searched)

-- The search found none. Then the eligible words and the parked words were looked at, which show the reason. All is as it was but for the deeds.
pub record IsRefusedLarge (f : Profile) (d : Directory) (n : ℕ) (searched after : List Made) (why : NoRoom) : Type 0 where
  pub found : FoundNone f d n searched
  pub scans : OnlyScans after
  pub few : length after ≤ 66 * (f.pages / 64 + 1)
  pub reason : IsReason f d (after ++ searched) why
  pub still : Leads f (MayFind d) (Does nothing) (after ++ searched)

-- ---- without the door
-- The scan finds a run that is given, or the request is refused. At most 56 steps for each page of the region, 12 for each page that is asked for, and
-- 66 more.
pub record AllocatesByScan (heap n : ℕ) (tells : Bool) (desk desk' : Standing) (answer : Result Block NoRoom) : Type 0 where
  pub searched : List Made
  pub after : List Made
  pub adds : Adds desk desk' (MayFind (large_directory heap)) (after ++ searched)
  pub kinds : Only finding searched
  pub returns : Always ReturnsDuly searched
  pub shows : OnlyDeedsShow desk.seat.profile searched
  pub few : length (after ++ searched) ≤ 56 * desk.seat.profile.pages + 12 * n + 66
  pub outcome : MatchResult answer (IsAllocatedLarge desk.seat.profile (large_directory heap) n searched after)
      (IsRefusedLarge desk.seat.profile (large_directory heap) n searched after)
  pub looked : (why : NoRoom) → answer ≡ Err why → LooksAlone desk.seat.profile (large_directory heap) searched
  pub told : tells ≡ true → (v : View) (l : Whole) → desk.stands v l → MayFind (large_directory heap) v
      → IsToldLarge desk.seat.profile (large_directory heap) n l (triples desk.seat.actor (after ++ searched) ++ l) answer

-- ---- by the door
-- The run that the door named was claimed without a deed, its pages were backed, the block of the whole run was given, and the pages were left. At most
-- 18 steps for each page that is asked for, and two more.
pub record IsAllocatedNamed (f : Profile) (d : Directory) (n : ℕ) (found : Option ℕ) (tried after : List Made) (block : Block) : Type 0 where
  pub first : ℕ
  pub holds_it : HoldsNamed f d n found tried first
  pub backs : List Made
  pub back_order : InTurn BackStep (pages_from first n) backs
  pub word : ℕ
  pub answer : ℕ
  pub block_is : block ≡ run_block d first n word
  pub left : List Made
  pub left_order : InTurn (λ page piece. LeaveSteps page d piece) (pages_from first n) left
  pub after_is : after ≡ left ++ (give_steps first 0 block word answer ++ backs)
  pub few : length (after ++ tried) ≤ 18 * n + 2
  pub gave : Leads f (MayFind d) (GaveLarge d first n block) (after ++ tried)

-- so the request was served
abbrev pub IsServedNamed : Profile → Directory → ℕ → Option ℕ → List Made → List Made → Result Block NoRoom → Type 0
IsServedNamed f d n found tried after answer = (block : Block) × (answer ≡ Ok block) × IsAllocatedNamed f d n found tried after block

-- ---- the whole request
-- The door named nothing of use, and whatever was tried with it is undone: nothing was, where it named no run. The scan followed. Its own steps show what a
-- scan shows, so it rests on nothing that was tried before; and so do all steps of the call together.
pub record IsScanned (f : Profile) (d : Directory) (n : ℕ) (found : Option ℕ) (tried rest : List Made) (answer : Result Block NoRoom) : Type 0 where
  pub misses : MissesNamed f d n found tried
  pub searched : List Made
  pub after : List Made
  pub rest_is : rest ≡ after ++ searched
  pub kinds : Only finding searched
  pub returns : Always ReturnsDuly searched
  pub shows : OnlyDeedsShow f searched
  pub looked : (why : NoRoom) → answer ≡ Err why → LooksAlone f d searched
  pub own : MatchResult answer (IsAllocatedLarge f d n searched after) (IsRefusedLarge f d n searched after)
  pub outcome : MatchResult answer (IsAllocatedLarge f d n (searched ++ tried) after) (IsRefusedLarge f d n (searched ++ tried) after)

-- A request for n pages, where the door named a run or none. It is served from that run, or by the scan. At most 56 steps for each page of the region, 12
-- for each page that is asked for, and 66 more, and where a run was named 48 more for each page that is asked for. On a desk that tells the whole state
-- the run that was named is given exactly where its pages are whole at entry; in every other case the block is on the lowest run that was usable then, and a
-- refusal has no such run at entry and none at exit.
pub record AllocatesLarge (heap n : ℕ) (found : Option ℕ) (tells : Bool) (desk desk' : Standing) (answer : Result Block NoRoom) : Type 0 where
  pub tried : List Made
  pub rest : List Made
  pub adds : Adds desk desk' (MayFind (large_directory heap)) (rest ++ tried)
  pub old : Only claiming_old tried
  pub returns : Always ReturnsDuly tried
  pub shows : OnlyDeedsShow desk.seat.profile tried
  pub few : length (rest ++ tried) ≤ 56 * desk.seat.profile.pages + 12 * n + missed_steps found n + 66
  pub told : tells ≡ true → (v : View) (l : Whole) → desk.stands v l → MayFind (large_directory heap) v
      → IsToldByDoor desk.seat.profile (large_directory heap) n found l (triples desk.seat.actor (rest ++ tried) ++ l) (rest ++ tried) answer
  pub outcome : IsServedNamed desk.seat.profile (large_directory heap) n found tried rest answer
      ⊎ IsScanned desk.seat.profile (large_directory heap) n found tried rest answer
