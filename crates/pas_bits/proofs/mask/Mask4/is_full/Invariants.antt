use Rattle.std.proofs.Common.{◌*◌}
use Rattle.pas_bits.proofs.Masks.{ApartBelow}
use Rattle.pas_bits.proofs.mask.Mask4.is_full.Given as goal

-- the words so far share no bit
abbrev pub invariant-loop-word : goal.invariant-loop-word
invariant-loop-word l = ApartBelow l.self l.usable (64 * l.word)
