use Rattle.std.proofs.Common.{◌≡◌, ◌+◌, ◌-◌, ◌*◌, ◌≤◌, List, [], length, map}
use Rattle.pas_steps.specs.{InTurn.{InTurn, numbers_below}, declared.step.Made.Made}
use Rattle.pas_utility.specs.Outcomes.{pairs_in, places_of}
use Rattle.pas_scavenger.specs.Passes.{WordRead, WordSteps, all_tried, Tries}
use Rattle.pas_scavenger.proofs.passing.pass.Given as goal

-- the words below this one were read
abbrev pub invariant-loop-block : goal.invariant-loop-block
invariant-loop-block g l = let D = g.D.Desk in let seat = (D.standing l.initial.desk).seat in record {
  words : List WordRead;
  numbers_are : map (λ w. w.number) words ≡ numbers_below l.block;
  read : List Made;
  order : InTurn (WordSteps seat.profile.age l.epoch) words read;
  tries : Tries l.epoch (all_tried words) (D.standing l.initial.desk) (D.standing l.desk) [] (pairs_in l.out) read;
  few : length read ≤ l.block + 38 * length (all_tried words);
  room : seat.profile.pages ≤ D.spare_of l.desk + (64 * l.block - 1);
  left : length (pairs_in l.out) ≤ 64 * l.block - 1;
  places : places_of l.out ≡ places_of l.fn.out;
  home : D.home l.desk ≡ D.home l.fn.desk;
}
