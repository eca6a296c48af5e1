-- the idle threads so far were stopped, where they were idle for so many epochs
use Rattle.std.proofs.Common.{◌∷◌, [], not, true}
use Rattle.pas_bits.specs.Masks.{is_set}
use Rattle.pas_trace.{specs.Acts.{ReadsEpoch, StopsIdle, idle_stops, threads_where}, proofs.ThreadsInOrder.acts_there}
use Rattle.pas_check.specs.{Checks.{IsSizedAs, TakenTo, threads_in}, Leading.IsWithin}
use Rattle.pas_check.proofs.checking.stop_all_idle.Given as goal

abbrev pub invariant-loop-index : goal.invariant-loop-index
invariant-loop-index l = record {
  sized : IsSizedAs l.fn.judge l.judge;
  within : IsWithin l.text l.cursor;
  far : TakenTo l.text l.fn.judge l.fn.cursor l.judge l.cursor
      (ReadsEpoch ∷ idle_stops l.epochs (threads_where (λ k. not (is_set l.awake k)) (threads_in l.fn.judge)))
      (acts_there (λ k. StopsIdle k l.epochs) (λ k. not (is_set l.awake k)) l.index (threads_in l.fn.judge) []) true;
}
