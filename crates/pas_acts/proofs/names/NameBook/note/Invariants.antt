-- the names of the operations so far have their places
use Rattle.std.proofs.Common.{◌≡◌, ℕ, take, length, slice_index_or}
use Rattle.pas_acts.proofs.Common.{own_acts, names_asked, ArePlaced}
use Rattle.pas_acts.proofs.names.NameBook.note.Given as goal

abbrev pub invariant-loop-op : goal.invariant-loop-op
invariant-loop-op l = record {
  names : l.self.names ≡ l.fn.self.names;
  placed : (k : ℕ) → ArePlaced l.self 0 (names_asked (own_acts k (take l.op-index l.ops)));
  counts : (k : ℕ) → slice_index_or l.counts.of k 0 ≡ length (names_asked (own_acts k (take l.op-index l.ops)));
}
