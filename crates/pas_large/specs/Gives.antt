-- A run of pages is given as one block.
use Rattle.std.specs.Prelude.{ℕ, zero, suc, ◌+◌, ◌-◌, ◌*◌, ◌/◌, ◌^◌, ◌<◌, ◌≤◌, ◌≡◌, true, if◌then◌else◌, List, [], ◌∷◌, ◌++◌, length}
use Rattle.pas_profile.specs.{Lives.turn_of, declared.{directory.Directory.Directory, name.Block.Block}}
use Rattle.pas_steps.specs.{Calls.{Calls, Effect, Kept, Lost, nothing, Does, Bears}, Desks.{Standing, Makes, made}, InTurn.InTurn, Views.{View, has_right}}
use Rattle.pas_steps.specs.{Views.KnowsDeed, declared.step.{Made.Made, Step.TheVariants.Back}}
use Rattle.pas_rights.specs.{Gives.give_steps, Leaves.LeaveSteps}
use Rattle.pas_large.specs.{Claims.{in_span, HasPages}, Pages.of_pages}

-- so many pages from the first one on, the last one first
abbrev pub pages_from : ℕ → ℕ → List ℕ
pages_from first zero = []
pages_from first (suc n) = (first + n) ∷ pages_from first n

-- one back of the page
abbrev pub BackStep : ℕ → List Made → Type 0
BackStep page steps = (a : ℕ) × (steps ≡ made (Back page) a ∷ [])

-- ---- of private functions: the pages are backed
-- the one step is the back of this page
abbrev pub BacksPage : ℕ → Standing → Standing → Type 0
BacksPage page desk desk' = (a : ℕ) × Makes desk desk' (Back page) a

-- nothing changed but that they are known as backed
pub record BackedRun (first end : ℕ) (v w : View) : Type 0 where
  pub does : Does nothing v w
  pub bears : (g : ℕ) → in_span first end (g / 256) ≡ true → Bears w g

pub record BacksRun (d : Directory) (first end : ℕ) (desk desk' : Standing) : Type 0 where
  pub steps : List Made
  pub calls : Calls desk desk' (HasPages d first end) (BackedRun first end) steps
  pub order : InTurn BackStep (pages_from first (end - first)) steps

-- ---- and the pages are left
pub record MayLeaveRun (d : Directory) (first end : ℕ) (v : View) : Type 0 where
  pub right : (p : ℕ) → in_span first end p ≡ true → has_right v p ≡ true
  pub deeds : (p : ℕ) → in_span first end p ≡ true → KnowsDeed p d v

abbrev pub left_run : ℕ → ℕ → Effect
left_run first end = record { grains = λ g. Kept; rights = λ q. if in_span first end q then Lost else Kept; clears = λ q. Kept }

-- the rights are given up, and the deeds are known still
pub record LeftRun (d : Directory) (first end : ℕ) (v w : View) : Type 0 where
  pub does : Does (left_run first end) v w
  pub deeds : (p : ℕ) → in_span first end p ≡ true → KnowsDeed p d w

pub record LeavesRun (d : Directory) (first end : ℕ) (desk desk' : Standing) : Type 0 where
  pub steps : List Made
  pub calls : Calls desk desk' (MayLeaveRun d first end) (LeftRun d first end) steps
  pub order : InTurn (λ page piece. LeaveSteps page d piece) (pages_from first (end - first)) steps
  pub few : length steps ≤ 11 * (end - first)

-- ---- and given
-- the block of the run, with the turn of the life word that was read
abbrev pub run_block : Directory → ℕ → ℕ → ℕ → Block
run_block d first n word = record { name = record { address = record { 0 = first * 4096 }; turn = turn_of word }; room = n * 4096; heap = d.heap }

-- all its grains are
abbrev pub given_run : ℕ → ℕ → Effect
given_run first end = record { grains = λ g. if in_span first end (g / 256) then Lost else Kept; rights = λ q. Kept; clears = λ q. Kept }

-- The run is given: its pages are backed, the block is given, and the pages are left. Nothing of it is the actor's then. At most n + 1 events, and
-- 12 * n + 2 steps.
pub record GaveRun (d : Directory) (first n : ℕ) (block : Block) (v w : View) : Type 0 where
  pub does : Does (of_pages (in_span first (first + n)) Lost) v w
  pub deeds : (p : ℕ) → in_span first (first + n) p ≡ true → KnowsDeed p d w
  pub turn : block.name.turn < 2 ^ 37

pub record GivesRun (d : Directory) (first n : ℕ) (block : Block) (desk desk' : Standing) : Type 0 where
  pub backs : List Made
  pub back_order : InTurn BackStep (pages_from first n) backs
  pub word : ℕ
  pub answer : ℕ
  pub block_is : block ≡ run_block d first n word
  pub left : List Made
  pub left_order : InTurn (λ page piece. LeaveSteps page d piece) (pages_from first n) left
  pub few : length (left ++ (give_steps first 0 block word answer ++ backs)) ≤ 12 * n + 2
  pub calls : Calls desk desk' (HasPages d first (first + n)) (GaveRun d first n block) (left ++ (give_steps first 0 block word answer ++ backs))
