-- A run that is held is guarded: its inner pages are given as one block, and its outer pages are left whole.
use Rattle.std.specs.Prelude.{ℕ, ◌+◌, ◌*◌, ◌/◌, ◌^◌, ◌<◌, ◌≤◌, ◌≡◌, true, if◌then◌else◌, List, ◌∷◌, ◌++◌, length}
use Rattle.pas_profile.specs.declared.{directory.Directory.Directory, name.Block.Block}
use Rattle.pas_steps.specs.{Calls.{Calls, Effect, Kept, Lost, Does}, Desks.Standing, InTurn.InTurn, Views.{View, KnowsDeed}, declared.step.Made.Made}
use Rattle.pas_large.specs.{Claims.{in_span, HasPages}, Gives.{BackStep, pages_from, run_block}}
use Rattle.pas_rights.specs.{Gives.give_steps, Leaves.LeaveSteps}

-- the grains of the pages from `low` to below `high` are the actor's no longer, and neither are the rights of those from `first` to below `stop`
abbrev pub given_and_left : ℕ → ℕ → ℕ → ℕ → Effect
given_and_left low high first stop = record { grains = λ g. if in_span low high (g / 256) then Lost else Kept; rights = λ q. if in_span first stop q then Lost else Kept; clears = λ q. Kept }

pub record GuardedRun (d : Directory) (first k : ℕ) (block : Block) (v w : View) : Type 0 where
  pub does : Does (given_and_left (first + 1) (first + 1 + k) first (first + (k + 2))) v w
  pub deeds : (p : ℕ) → in_span first (first + (k + 2)) p ≡ true → KnowsDeed p d w
  pub turn : block.name.turn < 2 ^ 37

-- the pages of the run in the order in which they are left, the last one first: those of the block from the lowest up, then the low one, then the high one
abbrev pub left_last_first : ℕ → ℕ → List ℕ
left_last_first first k = (first + k + 1) ∷ first ∷ pages_from (first + 1) k

-- The inner pages are backed from the lowest up, then the block is given, and then each page of the run is left. At most k + 1 events, and
-- 12 * k + 24 steps.
pub record GuardsRun (d : Directory) (first k : ℕ) (block : Block) (desk desk' : Standing) : Type 0 where
  pub backs : List Made
  pub back_order : InTurn BackStep (pages_from (first + 1) k) backs
  pub word : ℕ
  pub answer : ℕ
  pub block_is : block ≡ run_block d (first + 1) k word
  pub left : List Made
  pub left_order : InTurn (λ page piece. LeaveSteps page d piece) (left_last_first first k) left
  pub few : length (left ++ (give_steps (first + 1) 0 block word answer ++ backs)) ≤ 12 * k + 24
  pub calls : Calls desk desk' (HasPages d first (first + (k + 2))) (GuardedRun d first k block) (left ++ (give_steps (first + 1) 0 block word answer ++ backs))
