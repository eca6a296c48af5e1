use Rattle.std.proofs.Common.{◌≡◌, ◌≤◌, [], drop, length}
use Rattle.pas_steps.specs.Views.{View}
use Rattle.pas_tests.specs.Walks.{HasMade, MayFollow, view_with}
use Rattle.pas_tests.proofs.walking.walk.Given as goal

-- the steps so far were made, and the others may follow
abbrev pub invariant-loop-made : goal.invariant-loop-made
invariant-loop-made l = record {
  view : View;
  has_made : HasMade view l.desk;
  follow : MayFollow view (drop l.made-index l.steps);
  few : length view ≤ l.made-index;
  whole : view_with view (drop l.made-index l.steps) ≡ view_with [] l.steps;
}
