use Rattle.std.proofs.Common.{◌*◌}
use Rattle.pas_bits.specs.Rows.{IsClearBelow}
use Rattle.pas_bits.proofs.row_search.all_zero.Given as goal

-- no bit of the words so far is set
abbrev pub invariant-loop-word : goal.invariant-loop-word
invariant-loop-word l = IsClearBelow l.words (64 * l.word)
