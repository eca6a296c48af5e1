use Rattle.std.proofs.Common.{◌≡◌, List, length, ◌≤◌}
use Rattle.pas_steps.specs.{declared.step.Made.Made, Desks.{AnyView, Adds}, Frames.OnlyScans}
use Rattle.pas_large.proofs.Refusals.{MarkedBelow}
use Rattle.pas_large.proofs.refusing.mark_offered.Given as goal

-- of the pages below this block those are marked that were read as offered
abbrev pub invariant-loop-block : goal.invariant-loop-block
invariant-loop-block g l = let D = g.D.Desk in record {
  steps : List Made;
  adds : Adds (D.standing l.fn.desk) (D.standing l.desk) AnyView steps;
  scans : OnlyScans steps;
  few : length steps ≤ l.block;
  marked : MarkedBelow l.fn.looked.directory l.block l.looked.unfit steps;
  directory : l.looked.directory ≡ l.fn.looked.directory;
  home : D.home l.desk ≡ D.home l.fn.desk;
}
