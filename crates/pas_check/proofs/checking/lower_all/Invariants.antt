-- the keepers so far lowered their guards
use Rattle.std.proofs.Common.{◌+◌, ◌-◌, ◌≤◌, map, true}
use Rattle.pas_trace.specs.Acts.{Lowers, numbers_from}
use Rattle.pas_check.specs.{Checks.{IsSizedAs, TakenTo, threads_in}, Leading.IsWithin}
use Rattle.pas_check.proofs.checking.lower_all.Given as goal

abbrev pub invariant-loop-index : goal.invariant-loop-index
invariant-loop-index l = record {
  sized : IsSizedAs l.fn.judge l.judge;
  within : IsWithin l.text l.cursor;
  after : threads_in l.fn.judge ≤ l.index;
  far : TakenTo l.text l.fn.judge l.fn.cursor l.judge l.cursor (map Lowers (numbers_from (threads_in l.fn.judge + 1) l.keepers))
      (map Lowers (numbers_from (l.index + 1) (threads_in l.fn.judge + l.keepers - l.index))) true;
}
