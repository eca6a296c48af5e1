use Rattle.std.proofs.Common.{◌≡◌, ℕ, ◌+◌, ◌-◌, ◌<◌, ◌≤◌, List, length, slice_index}
use Rattle.pas_profile.specs.Directories.{number_of}
use Rattle.pas_steps.specs.{declared.step.Made.Made, Desks.{AnyView, Adds}, Past.Once}
use Rattle.pas_scan.specs.Rows.{eligible_looks, WordReadHere}
use Rattle.pas_scan.proofs.row.read_row.Given as goal

-- the words before this one were read, and zeros stand from its place on
abbrev pub invariant-loop-word : goal.invariant-loop-word
invariant-loop-word g l = let D = g.D.Desk in record {
  steps : List Made;
  adds : Adds (D.standing l.fn.desk) (D.standing l.desk) AnyView steps;
  answers : List ℕ;
  order : steps ≡ eligible_looks (number_of l.fn.directory) l.block answers;
  at : l.block + length answers ≡ l.word;
  words : (b : ℕ) → l.block ≤ b → b < l.word → Once (WordReadHere (number_of l.fn.directory) b (slice_index l.row (b - l.block))) steps;
  rest : (b : ℕ) → l.word ≤ b → slice_index l.row (b - l.block) ≡ 0;
  long : length l.row ≡ 8;
  home : D.home l.desk ≡ D.home l.fn.desk;
}
