-- the phases so far are done, and some records were taken
use Rattle.std.proofs.Common.{◌≡◌, List, drop, length, map}
use Rattle.pas_replay.proofs.Common.{Replay, hand_of, session, telling, Begins, Between, acts_left, without_lines, Op, Record}
use Rattle.pas_replay.proofs.order.replay.Given as goal

abbrev pub invariant-loop-phase : goal.invariant-loop-phase
invariant-loop-phase g l = record {
  told : List Record;
  took : g.T.Takes.took l.fn.taker l.taker told;
  far : (lists : List (List Op)) → map g.P.Operations.ops l.phases ≡ without_lines lists → (r : Replay)
      → Begins g.T.Takes.waits lists r (hand_of l.fn.region l.fn.actors l.fn.names l.fn.out)
      → Between g.T.Takes.waits (telling r told) (acts_left r.threads r.keepers l.phase-index (drop l.phase-index lists)) (session l.desk l.actors l.names l.out);
  count : l.number ≡ l.phase-index;
  threads : length l.actors.caches.items ≡ length l.fn.actors.caches.items;
}
