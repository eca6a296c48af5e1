use Rattle.std.proofs.Common.{◌≡◌, ◌-◌, ◌≤◌, length}
use Rattle.pas_steps.specs.Desks.{AnyView, CanCall}
use Rattle.pas_search.specs.Passing.{PassesPages}
use Rattle.pas_search.proofs.passing.pass_short.Given as goal

abbrev pub invariant-loop-passed : goal.invariant-loop-passed
invariant-loop-passed g l = let D = g.D.Desk in record {
  directory : l.looked.directory ≡ l.fn.looked.directory;
  low : l.fn.looked.next ≤ l.looked.next;
  passes : PassesPages (g.S.Serving.rule l.serving) l.fn.looked.directory l.fn.looked.next l.looked.next l.fn.looked.unfit l.looked.unfit (D.standing l.fn.desk)
      (D.standing l.desk);
  can : CanCall (D.standing l.desk) AnyView;
  sized : length l.looked.unfit ≡ 257;
  home : D.home l.desk ≡ D.home l.fn.desk;
}

abbrev pub decreases-loop-passed : goal.decreases-loop-passed
decreases-loop-passed g l = 16448 - l.looked.next
