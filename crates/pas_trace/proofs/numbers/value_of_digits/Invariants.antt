use Rattle.std.proofs.Common.{◌≡◌, drop}
use Rattle.pas_trace.proofs.Digits.{value_after}
use Rattle.pas_trace.proofs.numbers.value_of_digits.Given as goal

abbrev pub invariant-loop-byte : goal.invariant-loop-byte
invariant-loop-byte l = value_after l.value (drop l.byte-index l.word) ≡ value_after 0 l.word
