-- the actors before this place closed, and the ledger is settled
use Rattle.std.proofs.Common.{◌≡◌}
use Rattle.pas_threads.proofs.Common.{Progress, IsLedgerOf, so_far, Session, ClosedSo, MayClose}
use Rattle.pas_threads.proofs.turns.close_all.Given as goal

abbrev pub invariant-loop-place : goal.invariant-loop-place
invariant-loop-place l = record {
  of : IsLedgerOf l.region l.ledger;
  same : l.scavenger ≡ l.fn.scavenger;
  closed : (s : Session) (p : Progress) → MayClose l.region s l.fn.scavenger.pass l.fn.threads (so_far l.fn.ledger) p
      → ClosedSo l.region s l.place l.fn.threads l.threads (so_far l.fn.ledger) (so_far l.ledger) p;
}
