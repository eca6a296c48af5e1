-- the lent threads before this place were stopped where they were idle for long enough
use Rattle.std.proofs.Common.{◌≡◌}
use Rattle.pas_threads.proofs.{Common.{BenchHome, Progress, Shift, home_at, AreBeside, SitsLent, IsDeskAt}, ByCrew.StopsSoFar}
use Rattle.pas_threads.proofs.lending.stop_idle.Given as goal

abbrev pub invariant-loop-index : goal.invariant-loop-index
invariant-loop-index l = record {
  far : (h : BenchHome) (s : Shift) (p : Progress) → IsDeskAt h l.fn.desk p → AreBeside (SitsLent h.region h.row.actors s) s l.fn.lent p → p.epoch ≡ l.fn.epoch
      → StopsSoFar h s l.fn.epochs l.desk.place.bench l.fn.lent l.lent l.fn.out l.out l.index p;
  home : home_at l.desk ≡ home_at l.fn.desk;
  member : l.desk.place.member ≡ l.fn.desk.place.member;
}
