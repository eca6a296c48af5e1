use Rattle.std.proofs.Common.{◌≡◌, ◌^◌, ◌<◌, drop}
use Rattle.pas_trace.proofs.Digits.{hex_after}
use Rattle.pas_trace.proofs.numbers.value_of_hex.Given as goal

abbrev pub invariant-loop-byte : goal.invariant-loop-byte
invariant-loop-byte l = (hex_after l.value (drop l.byte-index l.digits) ≡ hex_after 0 l.digits) × (l.value < 16 ^ l.byte-index)
