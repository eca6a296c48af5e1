-- the operations so far are done, and some records were taken
use Rattle.std.proofs.Common.{◌≡◌, ◌++◌, List, drop, length, map}
use Rattle.pas_replay.proofs.Common.{Act, acts_of_ops, unlined, Op, idle_in, Replay, session, telling, Between, Record}
use Rattle.pas_replay.proofs.order.perform_all.Given as goal

abbrev pub invariant-loop-place : goal.invariant-loop-place
invariant-loop-place g l = record {
  told : List Record;
  took : g.T.Takes.took l.fn.taker l.taker told;
  far : (ops : List Op) → g.P.Operations.ops l.phase ≡ map unlined ops → (r : Replay) (more : List Act)
      → Between g.T.Takes.waits r (acts_of_ops (idle_in l.awake r.threads) ops ++ more) (session l.fn.desk l.fn.actors l.fn.names l.fn.out)
      → Between g.T.Takes.waits (telling r told) (acts_of_ops (idle_in l.awake r.threads) (drop l.place ops) ++ more) (session l.desk l.actors l.names l.out);
  threads : length l.actors.caches.items ≡ length l.fn.actors.caches.items;
}
