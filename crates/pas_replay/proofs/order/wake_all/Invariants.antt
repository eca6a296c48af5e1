-- the threads so far read the epoch where they are active
use Rattle.std.proofs.Common.{◌≡◌, ◌+◌, ◌-◌, length, map}
use Rattle.pas_replay.proofs.Common.{filter, is_set, Records, Wakes, numbers_from, awake_in, Replay, Left, SoFarAt, session, upon, Names}
use Rattle.pas_replay.proofs.order.wake_all.Given as goal

abbrev pub invariant-loop-index : goal.invariant-loop-index
invariant-loop-index l = record {
  far : (r : Replay) (more : Left) (table : Names) (out : Records)
      → SoFarAt r (upon r (map Wakes (awake_in l.awake r.threads)) more) (session l.fn.desk l.fn.actors table out)
      → SoFarAt r (upon r (map Wakes (filter (is_set l.awake) (numbers_from (l.index + 1) (r.threads - l.index)))) more) (session l.desk l.actors table out);
  threads : length l.actors.caches.items ≡ length l.fn.actors.caches.items;
}
