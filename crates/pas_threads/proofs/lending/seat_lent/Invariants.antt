-- the lent threads before this place sit on the bench, and the others have their passes
use Rattle.std.proofs.Common.{◌≡◌, ◌≤◌, ℕ, get_or}
use Rattle.pas_threads.proofs.{Common.{Progress, rows_on, IsBenchOf, all_actors, Shift, AreLent, AreOfCrew, TellAs, Worker}, CrewSits.SeatedSoFar}
use Rattle.pas_threads.proofs.lending.seat_lent.Given as goal

abbrev pub invariant-loop-index : goal.invariant-loop-index
invariant-loop-index l = record {
  of : IsBenchOf l.region l.bench;
  left : (j : ℕ) (d : Worker) → l.index ≤ j → get_or l.lent j d ≡ get_or l.fn.lent j d;
  far : (s : Shift) (p : Progress) → AreLent l.region s l.fn.lent p → AreOfCrew s 0 0 (all_actors (rows_on l.fn.bench)) → TellAs (rows_on l.fn.bench) p.list
      → SeatedSoFar l.region s l.index l.fn.lent l.lent (rows_on l.bench) p;
}
