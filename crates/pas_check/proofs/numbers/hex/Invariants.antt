use Rattle.std.proofs.Common.{◌≡◌, ◌^◌, ◌-◌, ◌<◌, drop}
use Rattle.pas_check.specs.Readings.{hex_after}
use Rattle.pas_check.proofs.numbers.hex.Given as goal

abbrev pub invariant-loop-place : goal.invariant-loop-place
invariant-loop-place l = (hex_after (l.digits - l.place) l.value (drop l.place l.text) ≡ hex_after l.digits 0 l.text) × (l.value < 16 ^ l.place)
