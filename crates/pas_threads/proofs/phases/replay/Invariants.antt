-- the phases so far are done
use Rattle.std.proofs.Common.{◌≡◌, ◌+◌, drop, length, map}
use Rattle.pas_threads.proofs.{Common.{ops_of, at_start, so_far, IsLedgerOf, Session, TeamAt, HasRoom}, BetweenPhases.AfterPhases}
use Rattle.pas_threads.proofs.phases.replay.Given as goal

abbrev pub invariant-loop-phase : goal.invariant-loop-phase
invariant-loop-phase g l = record {
  far : (s : Session) → TeamAt l.region s (map ops_of l.phases) l.fn.team at_start
      → HasRoom s (map ops_of l.phases) (length l.phases + 1) l.fn.team.threads.items l.fn.out at_start
      → AfterPhases l.region s (map ops_of l.phases) l.phase-index (map ops_of (drop l.phase-index l.phases)) l.team (so_far l.ledger) l.out;
  ledger : IsLedgerOf l.region l.ledger;
  count : l.number ≡ l.phase-index;
}
