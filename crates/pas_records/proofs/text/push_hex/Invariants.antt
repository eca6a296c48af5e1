use Rattle.std.proofs.Common.{◌≡◌, ◌+◌, ◌++◌, length}
use Rattle.pas_records.specs.Lines.{hex_digits}
use Rattle.pas_records.proofs.text.push_hex.Given as goal

-- the digits that are left make the line whole
abbrev pub invariant-loop-place : goal.invariant-loop-place
invariant-loop-place g l = record {
  whole : l.text.bytes ++ hex_digits l.place l.n ≡ l.initial.text.bytes ++ hex_digits l.fn.digits l.n;
  room : length l.text.bytes + l.place ≡ length l.initial.text.bytes + l.fn.digits;
}
