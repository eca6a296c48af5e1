use Rattle.std.proofs.Common.{◌≡◌, ◌+◌, ◌-◌, ◌*◌, ◌≤◌, List, length}
use Rattle.pas_steps.specs.{declared.step.Made.Made, Desks.{AnyView, Adds}, Kinds.Only}
use Rattle.pas_scan.{specs.Runs.{large_directory, page_looks}, proofs.LeftPages.RunSoFar}
use Rattle.pas_scan.proofs.runs.next_run.Given as goal

-- the run of usable pages that ends before this page, and the lower ones
abbrev pub invariant-loop-page : goal.invariant-loop-page
invariant-loop-page g l = let D = g.D.Desk in record {
  steps : List Made;
  adds : Adds (D.standing l.fn.desk) (D.standing l.desk) AnyView steps;
  kinds : Only page_looks steps;
  few : length steps + 6 * l.next ≤ 6 * l.page;
  most : length steps ≤ 6 * ((D.standing l.fn.desk).seat.profile.pages + 1 - l.next);
  so_far : RunSoFar (large_directory l.heap) l.from l.next l.pages l.page l.length steps;
  home : D.home l.desk ≡ D.home l.fn.desk;
}
