use Rattle.std.proofs.Common.{◌≡◌, ◌-◌, ◌+◌, ◌≤◌, List}
use Rattle.pas_steps.specs.{declared.step.Made.Made, Calls.{Does, Calls}}
use Rattle.pas_free_log.{specs.{Stamps.page_count, Frames.{run_freed, PutsBack}, Returns.{MayReturn, PagesSteps}}, proofs.OneEntry.IsBorder}
use Rattle.pas_free_log.proofs.returning.return_run.Given as goal

-- the run up to the grain `from` was put back
abbrev pub invariant-loop-from : goal.invariant-loop-from
invariant-loop-from g l = let D = g.D.Desk in record {
  steps : List Made;
  calls : Calls (D.standing l.fn.desk) (D.standing l.desk) (MayReturn l.grain l.grains) (Does (run_freed l.grain (l.from - l.grain))) steps;
  order : PagesSteps (page_count l.grain (l.from - l.grain)) l.grain l.grains steps;
  back : PutsBack l.grain (l.from - l.grain) steps;
  low : l.grain ≤ l.from;
  high : l.from ≤ l.grain + l.grains;
  border : IsBorder l.grain l.grains l.from;
  home : D.home l.desk ≡ D.home l.fn.desk;
}

abbrev pub decreases-loop-from : goal.decreases-loop-from
decreases-loop-from g l = l.end - l.from
