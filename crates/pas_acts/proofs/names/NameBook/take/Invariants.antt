-- the last requests so far were taken over
use Rattle.std.proofs.Common.{◌≡◌, ◌-◌, ℕ, map, drop, length}
use Rattle.pas_acts.proofs.Common.{standing_for, names_held, block_named, named_of, came_to}
use Rattle.pas_acts.proofs.names.NameBook.take.Given as goal

abbrev pub invariant-loop-done : goal.invariant-loop-done
invariant-loop-done l = record {
  count : l.count ≡ length l.fn.requests.items;
  names : (n : ℕ)
      → block_named l.self.names n ≡ came_to (standing_for (map named_of (drop (l.count - l.done) l.fn.requests.items)) n) (block_named l.fn.self.names n);
  room : names_held l.self.names ≡ names_held l.fn.self.names;
}
