-- the threads so far ended
use Rattle.std.proofs.Common.{◌+◌, ◌-◌, map, true}
use Rattle.pas_trace.specs.Acts.{Ends, numbers_from}
use Rattle.pas_check.specs.{Checks.{IsSizedAs, TakenTo, threads_in}, Leading.IsWithin}
use Rattle.pas_check.proofs.checking.end_all.Given as goal

abbrev pub invariant-loop-index : goal.invariant-loop-index
invariant-loop-index l = record {
  sized : IsSizedAs l.fn.judge l.judge;
  within : IsWithin l.text l.cursor;
  far : TakenTo l.text l.fn.judge l.fn.cursor l.judge l.cursor (map Ends (numbers_from 1 (threads_in l.fn.judge)))
      (map Ends (numbers_from (l.index + 1) (threads_in l.fn.judge - l.index))) true;
}
