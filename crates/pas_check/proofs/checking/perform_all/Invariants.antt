-- the operations so far were taken
use Rattle.std.proofs.Common.{drop, not, true}
use Rattle.pas_bits.specs.Masks.{is_set}
use Rattle.pas_machine.specs.Machines.{profile_of}
use Rattle.pas_trace.specs.Acts.{acts_of_ops, threads_where}
use Rattle.pas_check.specs.{Checks.{ArePlanned, IsSizedAs, TakenTo, threads_in}, Leading.IsWithin, Tables.names_held}
use Rattle.pas_check.proofs.checking.perform_all.Given as goal

abbrev pub invariant-loop-op : goal.invariant-loop-op
invariant-loop-op l = record {
  sized : IsSizedAs l.fn.judge l.judge;
  within : IsWithin l.text l.cursor;
  planned : ArePlanned (profile_of l.fn.judge.machine) (names_held l.fn.judge.names) (drop l.op-index l.ops);
  far : TakenTo l.text l.fn.judge l.fn.cursor l.judge l.cursor (acts_of_ops (threads_where (λ k. not (is_set l.awake k)) (threads_in l.fn.judge)) l.ops)
      (acts_of_ops (threads_where (λ k. not (is_set l.awake k)) (threads_in l.fn.judge)) (drop l.op-index l.ops)) true;
}
