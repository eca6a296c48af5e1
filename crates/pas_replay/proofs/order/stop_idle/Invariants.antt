-- the idle threads so far were stopped, where they were idle for so many epochs
use Rattle.std.proofs.Common.{◌≡◌, ◌+◌, ◌-◌, not, ◌∷◌, length}
use Rattle.pas_replay.{proofs.Common.{filter, is_set, numbers_from, idle_stops, Names, idle_in, Replay, Left, SoFarAt, session, upon}, specs.Sessions.HasRead}
use Rattle.pas_trace.specs.Acts.{ReadsEpoch}
use Rattle.pas_replay.proofs.order.stop_idle.Given as goal

abbrev pub invariant-loop-index : goal.invariant-loop-index
invariant-loop-index l = record {
  far : (table : Names) (r : Replay) (more : Left)
      → SoFarAt r (upon r (ReadsEpoch ∷ idle_stops l.epochs (idle_in l.awake r.threads)) more) (session l.fn.desk l.fn.actors table l.fn.out)
      → HasRead l.epoch r (upon r (idle_stops l.epochs (filter (λ k. not (is_set l.awake k)) (numbers_from (l.index + 1) (r.threads - l.index)))) more)
      (session l.desk l.actors table l.out);
  threads : length l.actors.caches.items ≡ length l.fn.actors.caches.items;
}
