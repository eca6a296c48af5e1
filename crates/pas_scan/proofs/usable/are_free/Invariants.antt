use Rattle.std.proofs.Common.{◌≡◌, ℕ, ◌<◌, List, length}
use Rattle.pas_steps.specs.{declared.step.Made.Made, Desks.{AnyView, Adds}, Past.Once, Kinds.Only}
use Rattle.pas_scan.specs.Runs.{page_looks, FreeLookHere}
use Rattle.pas_scan.proofs.usable.are_free.Given as goal

-- the free words so far were read as all ones
abbrev pub invariant-loop-word : goal.invariant-loop-word
invariant-loop-word g l = let D = g.D.Desk in record {
  steps : List Made;
  adds : Adds (D.standing l.fn.desk) (D.standing l.desk) AnyView steps;
  kinds : Only page_looks steps;
  count : length steps ≡ l.word;
  free : (w : ℕ) → w < l.word → Once (FreeLookHere l.page w) steps;
  home : D.home l.desk ≡ D.home l.fn.desk;
}
