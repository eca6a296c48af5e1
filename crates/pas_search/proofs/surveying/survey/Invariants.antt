use Rattle.std.proofs.Common.{◌+◌, ◌-◌, ◌≡◌, ◌≤◌}
use Rattle.pas_search.proofs.Surveyed.{SurveysTo}
use Rattle.pas_search.proofs.surveying.survey.Given as goal

-- the survey so far
abbrev pub invariant-loop-looked : goal.invariant-loop-looked
invariant-loop-looked g l =
    let D = g.D.Desk in
    record {
      low : 1 ≤ l.looked.next;
      directory : l.looked.directory ≡ l.fn.directory;
      surveys : SurveysTo (g.R.Ranking.ranks l.ranking) l.fn.directory l.looked.next l.best (D.standing l.fn.desk) (D.standing l.desk);
      home : D.home l.desk ≡ D.home l.fn.desk;
    }

abbrev pub decreases-loop-looked : goal.decreases-loop-looked
decreases-loop-looked g l = (l.pages + 1) - l.looked.next
