use Rattle.std.proofs.Common.{◌*◌}
use Rattle.pas_bits.specs.Masks.{AreClear}
use Rattle.pas_bits.proofs.mask.Mask4.first_set_from.Given as goal

-- no bit of the words so far is set
abbrev pub invariant-loop-word : goal.invariant-loop-word
invariant-loop-word l = AreClear l.self l.from (64 * l.word)
