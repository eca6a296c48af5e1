use Rattle.std.proofs.Common.{◌≡◌, ◌≤◌, ◌*◌, List, length}
use Rattle.pas_steps.specs.{declared.step.Made.Made, Desks.{AnyView, Adds}, Frames.OnlyScans, Evidence.IsSingle, Kinds.Only}
use Rattle.pas_scan.{specs.Scan.{AllParked, judging}, proofs.Reading.Below}
use Rattle.pas_scan.proofs.parked.verdict.Given as goal

-- the parked bit of each member below this block was read as 1
abbrev pub invariant-loop-block : goal.invariant-loop-block
invariant-loop-block g l = let D = g.D.Desk in record {
  steps : List Made;
  adds : Adds (D.standing l.fn.desk) (D.standing l.desk) AnyView steps;
  scans : OnlyScans steps;
  single : IsSingle steps;
  kinds : Only judging steps;
  below : Below (65 * l.block) steps;
  parked : AllParked (D.standing l.fn.desk).seat.profile l.looked.unfit l.looked.directory (64 * l.block) steps;
  few : length steps ≤ 65 * l.block;
  home : D.home l.desk ≡ D.home l.fn.desk;
}
