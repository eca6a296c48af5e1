use Rattle.std.proofs.Common.{◌≡◌, drop}
use Rattle.pas_check.specs.Readings.{past_digits as after_digits}
use Rattle.pas_check.proofs.numbers.past_digits.Given as goal

abbrev pub invariant-loop-place : goal.invariant-loop-place
invariant-loop-place l = after_digits (drop l.place l.text) ≡ after_digits l.text
