use Rattle.pas_steps.specs.Desks.{AnyView, CanCall}
use Rattle.pas_profile.specs.Profiles.{IsDirectoryOf}
use Rattle.pas_timing.proofs.scan.searching.search_often.Given as goal

abbrev pub invariant-loop-round : goal.invariant-loop-round
invariant-loop-round g l = let D = g.D.Desk in record {
  directory : IsDirectoryOf (D.standing l.desk).seat.profile l.looked.directory;
  can : CanCall (D.standing l.desk) AnyView;
}
