-- the operations so far are done
use Rattle.std.proofs.Common.{◌≡◌, ℕ, ◌≤◌, List, ◌++◌, drop}
use Rattle.pas_acts.proofs.Common.{Profile, cached, Act, own_acts, Progress, LaterKept, table, PairAt, PairWorks, Later, keeps}
use Rattle.pas_acts.proofs.own.work.Given as goal

abbrev pub invariant-loop-op : goal.invariant-loop-op
invariant-loop-op g l = record {
  far : (f : Profile) (keeper : ℕ) (later : Later) (more : LaterKept) (p : Progress)
      → PairAt f (g.D.Desk.standing l.fn.desk).seat.actor keeper (own_acts (g.D.Desk.standing l.fn.desk).seat.actor l.ops) (g.D.Desk.standing l.fn.desk)
      (keeps (cached l.fn.cache) (table l.book l.fn.requests) l.fn.out) (g.K.Tries.has l.fn.desk l.fn.keeper) later more p
      → (did : List Act)
      × (did ++ own_acts (g.D.Desk.standing l.fn.desk).seat.actor (drop l.op-index l.ops) ≡ own_acts (g.D.Desk.standing l.fn.desk).seat.actor l.ops)
      × PairWorks f (g.D.Desk.standing l.fn.desk).seat.actor keeper did (own_acts (g.D.Desk.standing l.fn.desk).seat.actor (drop l.op-index l.ops)) (g.D.Desk.standing l.fn.desk) (g.D.Desk.standing l.desk)
      (keeps (cached l.fn.cache) (table l.book l.fn.requests) l.fn.out) (keeps (cached l.cache) (table l.book l.requests) l.out) (g.K.Tries.has l.fn.desk l.fn.keeper) (g.K.Tries.has l.desk l.keeper) later more p;
  number : l.number ≤ l.op-index;
  home : g.D.Desk.home l.desk ≡ g.D.Desk.home l.fn.desk;
  keeps_home : g.K.Tries.home l.keeper ≡ g.K.Tries.home l.fn.keeper;
}
