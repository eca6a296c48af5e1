-- the phases so far were taken
use Rattle.std.proofs.Common.{◌≡◌, ℕ, ◌+◌, drop, map, true}
use Rattle.pas_machine.specs.Machines.{profile_of}
use Rattle.pas_trace.specs.{Acts.acts_from, EveryPlan.all_ops, Plans.ops_of}
use Rattle.pas_check.specs.{Checks.{ArePlanned, IsSizedAs, TakenTo, threads_in}, Leading.IsWithin, Tables.names_held}
use Rattle.pas_check.proofs.checking.take_later.Given as goal

abbrev pub invariant-loop-phase : goal.invariant-loop-phase
invariant-loop-phase l = record {
  sized : IsSizedAs l.fn.judge l.judge;
  within : IsWithin l.text l.cursor;
  count : l.number ≡ l.phase-index + 1;
  planned : ArePlanned (profile_of l.fn.judge.machine) (names_held l.fn.judge.names) (all_ops (map ops_of (drop l.phase-index l.phases)));
  far : (keepers : ℕ) → TakenTo l.text l.fn.judge l.fn.cursor l.judge l.cursor (acts_from (threads_in l.fn.judge) keepers 2 (map ops_of l.phases))
      (acts_from (threads_in l.fn.judge) keepers (l.number + 1) (map ops_of (drop l.phase-index l.phases))) true;
}
