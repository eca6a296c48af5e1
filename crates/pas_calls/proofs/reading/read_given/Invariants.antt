use Rattle.std.proofs.Common.{◌≡◌, ◌<◌, ◌≤◌, ◌+◌, ◌-◌, length}
use Rattle.pas_io.specs.declared.reach.Reach.TheVariants.{Within}
use Rattle.pas_calls.{specs.Outputs.most_bytes, proofs.TextInPieces.IsReadTo}
use Rattle.pas_calls.proofs.reading.read_given.Given as goal

-- the buffer has a place, and what was read is no more than an input may have
abbrev pub invariant-pieces : goal.invariant-pieces
invariant-pieces g l = record {
  place : l.kept < length l.buffer.items;
  few : l.taken + l.kept ≤ most_bytes;
  read : IsReadTo l.reader (g.S.Source.rest l.fn.source) (g.S.Source.rest l.source) l.buffer.items l.taken l.kept;
  reach : g.S.Source.reach l.fn.source ≡ Within → g.S.Source.reach l.source ≡ Within;
  count : g.S.Source.faults l.source ≡ g.S.Source.faults l.fn.source;
}

abbrev pub decreases-pieces : goal.decreases-pieces
decreases-pieces g l = most_bytes + 1 - (l.taken + l.kept)
