use Rattle.std.proofs.Common.{◌≡◌, ◌+◌, ◌/◌, List, length}
use Rattle.pas_steps.specs.{declared.step.Made.Made, Desks.{AnyView, Adds}, Evidence.IsSingle}
use Rattle.pas_scan.{specs.Scan.InBlock, proofs.Reading.{Below, Members}}
use Rattle.pas_scan.proofs.parked.members.Given as goal

-- the members of the block below this page
abbrev pub invariant-loop-page : goal.invariant-loop-page
invariant-loop-page g l = let D = g.D.Desk in record {
  steps : List Made;
  adds : Adds (D.standing l.fn.desk) (D.standing l.desk) AnyView steps;
  deeds : InBlock l.block steps;
  single : IsSingle steps;
  below : Below (l.page + l.page / 64) steps;
  members : Members (D.standing l.fn.desk).seat.profile l.looked.unfit l.looked.directory l.block l.first l.page l.members steps;
  count : l.first + length steps ≡ l.page;
  home : D.home l.desk ≡ D.home l.fn.desk;
}
