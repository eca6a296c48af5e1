-- the threads so far woke where they are awake
use Rattle.std.proofs.Common.{ℕ, List, [], true, map}
use Rattle.pas_bits.specs.Masks.{is_set}
use Rattle.pas_trace.{specs.Acts.{Wakes, threads_where}, proofs.ThreadsInOrder.acts_there}
use Rattle.pas_check.specs.{Checks.{IsSizedAs, TakenTo, threads_in}, Leading.IsWithin, declared.cutting.Cursor.Cursor}
use Rattle.pas_check.proofs.checking.wake_all.Given as goal

abbrev pub invariant-loop-index : goal.invariant-loop-index
invariant-loop-index l = record {
  sized : IsSizedAs l.fn.judge l.judge;
  far : (text : List ℕ) (at : Cursor) → IsWithin text at
      → TakenTo text l.fn.judge at l.judge at (map Wakes (threads_where (is_set l.awake) (threads_in l.fn.judge)))
      (acts_there Wakes (is_set l.awake) l.index (threads_in l.fn.judge) []) true;
}
