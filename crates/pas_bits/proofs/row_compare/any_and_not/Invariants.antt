use Rattle.std.proofs.Common.{◌*◌}
use Rattle.pas_bits.specs.Rows.{IsWithinBelow}
use Rattle.pas_bits.proofs.row_compare.any_and_not.Given as goal

-- of the words so far each number of the first row is one of the second
abbrev pub invariant-loop-word : goal.invariant-loop-word
invariant-loop-word l = IsWithinBelow l.a l.b (64 * l.word)
