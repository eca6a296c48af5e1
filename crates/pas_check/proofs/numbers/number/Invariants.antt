use Rattle.std.proofs.Common.{◌≡◌, drop}
use Rattle.pas_check.specs.Readings.{digits_after}
use Rattle.pas_check.proofs.numbers.number.Given as goal

abbrev pub invariant-loop-byte : goal.invariant-loop-byte
invariant-loop-byte l = digits_after l.value (drop l.byte-index l.text) ≡ digits_after 0 l.text
