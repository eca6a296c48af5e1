use Rattle.std.proofs.Common.{◌≡◌, ℕ, ◌+◌, ◌-◌, ◌/◌, length, ◌≤◌, ◌<◌, ◌*◌, List}
use Rattle.pas_steps.specs.{declared.step.Made.Made, Desks.{AnyView, Adds}, Past.Once, Evidence.ZeroHere}
use Rattle.pas_profile.specs.Directories.{number_of}
use Rattle.pas_scan.specs.Rows.{eligible_looks}
use Rattle.pas_scan.proofs.offered.first_offered.Given as goal

-- each page from `next` to below this row's was read as 0
abbrev pub invariant-loop-block : goal.invariant-loop-block
invariant-loop-block g l = let D = g.D.Desk in record {
  steps : List Made;
  adds : Adds (D.standing l.fn.desk) (D.standing l.desk) AnyView steps;
  answers : List ℕ;
  order : steps ≡ eligible_looks (number_of l.fn.looked.directory) (l.next / 64) answers;
  at : l.next / 64 + length answers ≡ l.block;
  few : length answers ≤ (D.standing l.fn.desk).seat.profile.pages / 64 + 1 - l.next / 64;
  zeros : (p : ℕ) → l.next ≤ p → p < 64 * l.block → Once (ZeroHere l.fn.looked.directory p) steps;
  looked : l.looked ≡ l.fn.looked;
  home : D.home l.desk ≡ D.home l.fn.desk;
}

abbrev pub decreases-loop-block : goal.decreases-loop-block
decreases-loop-block g l = l.end - l.block
