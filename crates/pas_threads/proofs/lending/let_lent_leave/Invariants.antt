-- the lent threads before this place left the bench, and the others sit there
use Rattle.std.proofs.Common.{ℕ, List}
use Rattle.pas_threads.proofs.{Common.{Progress, rows_on, IsBenchOf, Entry, Shift, MayLeaveAll}, CrewSits.LeftSoFar}
use Rattle.pas_threads.proofs.lending.let_lent_leave.Given as goal

abbrev pub invariant-loop-index : goal.invariant-loop-index
invariant-loop-index l = record {
  of : IsBenchOf l.region l.bench;
  far : (s : Shift) (actors : List ℕ) (base : List Entry) (p : Progress) → MayLeaveAll l.region s l.fn.lent actors base (rows_on l.fn.bench) p
      → LeftSoFar l.region s actors base l.index l.fn.lent l.lent (rows_on l.bench) p;
}
