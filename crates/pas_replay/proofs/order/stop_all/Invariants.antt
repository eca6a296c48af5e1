-- the threads so far were stopped
use Rattle.std.proofs.Common.{◌≡◌, ◌+◌, ◌-◌, ◌<◌, ℕ, [], length, get_or, map}
use Rattle.pas_replay.proofs.Common.{cached, ThreadCache, Ends, numbers_from, Names, Replay, Left, SoFarAt, session, upon}
use Rattle.pas_replay.proofs.order.stop_all.Given as goal

abbrev pub invariant-loop-index : goal.invariant-loop-index
invariant-loop-index l = record {
  far : (table : Names) (r : Replay) (more : Left)
      → SoFarAt r (upon r (map Ends (numbers_from 1 r.threads)) more) (session l.fn.desk l.fn.actors table l.fn.out)
      → SoFarAt r (upon r (map Ends (numbers_from (1 + l.index) (r.threads - l.index))) more) (session l.desk l.actors table l.out);
  threads : length l.actors.caches.items ≡ length l.fn.actors.caches.items;
  empty : (j : ℕ) (d : ThreadCache) → j < l.index → (cached (get_or l.actors.caches.items j d)).locals ≡ [];
}
