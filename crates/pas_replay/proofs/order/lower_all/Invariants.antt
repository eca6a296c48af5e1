-- the keepers so far lowered their guards
use Rattle.std.proofs.Common.{◌≡◌, ◌+◌, ◌-◌, ◌<◌, ℕ, [], get_or, length, map}
use Rattle.pas_replay.proofs.Common.{guards_in, GuardBook, Lowers, numbers_from, Names, Replay, Left, SoFarAt, session, upon}
use Rattle.pas_replay.proofs.order.lower_all.Given as goal

abbrev pub invariant-loop-index : goal.invariant-loop-index
invariant-loop-index l = record {
  far : (table : Names) (r : Replay) (more : Left)
      → SoFarAt r (upon r (map Lowers (numbers_from (r.threads + 1) r.keepers)) more) (session l.fn.desk l.fn.actors table l.fn.out)
      → SoFarAt r (upon r (map Lowers (numbers_from (r.threads + 1 + l.index) (r.keepers - l.index))) more) (session l.desk l.actors table l.out);
  caches : l.actors.caches ≡ l.fn.actors.caches;
  books : length l.actors.books.items ≡ length l.fn.actors.books.items;
  lowered : (j : ℕ) (d : GuardBook) → j < l.index → guards_in (get_or l.actors.books.items j d) ≡ [];
}
