use Rattle.std.proofs.Common.{◌≡◌, ◌<◌, ◌≤◌, ◌+◌, ◌-◌, ℕ, List, Some, length}
use Rattle.pas_io.specs.{Inputs.HasRead, declared.reach.Reach.TheVariants.{Within, AtEnd}}
use Rattle.pas_io.proofs.whole.read_all.Given as goal

-- the bytes so far stand in the buffer's front; they are all where they don't fill it
abbrev pub invariant-loop-taken : goal.invariant-loop-taken
invariant-loop-taken g l = record {
  within : l.taken ≤ length l.buffer.items;
  short : length l.buffer.items ≤ l.most + 1;
  told : (told : List ℕ) → g.S.Source.rest l.fn.source ≡ Some told → HasRead told (g.S.Source.rest l.source) l.buffer.items l.taken;
  all : l.taken < length l.buffer.items → (told : List ℕ) → g.S.Source.rest l.fn.source ≡ Some told → l.taken ≡ length told;
  reach : g.S.Source.reach l.fn.source ≡ Within → l.taken ≡ length l.buffer.items → g.S.Source.reach l.source ≡ Within;
  ends : g.S.Source.reach l.fn.source ≡ Within → l.taken < length l.buffer.items → g.S.Source.reach l.source ≡ AtEnd;
  count : g.S.Source.faults l.source ≡ g.S.Source.faults l.fn.source;
}

abbrev pub decreases-loop-taken : goal.decreases-loop-taken
decreases-loop-taken g l = l.most + 1 - length l.buffer.items
