-- the scavenger's operations so far are done
use Rattle.std.proofs.Common.{◌≡◌, ◌≤◌, ℕ, List, length}
use Rattle.pas_threads.proofs.{Common.{BenchHome, AreSound, scavenger_acts, Progress, Shift, home_at, standing_at, SitsLent, crew, CrewSits}, ByCrew.CrewSoFar}
use Rattle.pas_utility.specs.Outcomes.{places_of}
use Rattle.pas_threads.proofs.crew.scavenge.Given as goal

abbrev pub invariant-loop-op : goal.invariant-loop-op
invariant-loop-op g l = record {
  far : (h : BenchHome) (s : Shift) (asked : List ℕ) (p : Progress) → home_at l.fn.desk ≡ h → AreSound s.profile asked l.ops
      → CrewSits h s (scavenger_acts s.idle l.ops) (crew (standing_at l.fn.desk) l.fn.lent (places_of l.fn.outcomes) l.fn.out) p
      → CrewSoFar (SitsLent h.region h.row.actors s) s l.ops l.op-index (crew (standing_at l.fn.desk) l.fn.lent (places_of l.fn.outcomes) l.fn.out)
      (crew (standing_at l.desk) l.lent (places_of l.outcomes) l.out) p;
  number : l.number ≤ l.op-index;
  home : home_at l.desk ≡ home_at l.fn.desk;
  many : length l.lent ≡ length l.fn.lent;
}
