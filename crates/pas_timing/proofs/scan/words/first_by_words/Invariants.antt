use Rattle.std.proofs.Common.{◌≡◌, List}
use Rattle.pas_steps.specs.{declared.step.Made.Made, Desks.{AnyView, Adds}}
use Rattle.pas_timing.proofs.scan.words.first_by_words.Given as goal

abbrev pub invariant-loop-block : goal.invariant-loop-block
invariant-loop-block g l = let D = g.D.Desk in record {
  steps : List Made;
  adds : Adds (D.standing l.fn.desk) (D.standing l.desk) AnyView steps;
  looked : l.looked ≡ l.fn.looked;
}
