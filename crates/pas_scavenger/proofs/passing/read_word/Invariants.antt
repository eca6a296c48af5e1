use Rattle.std.proofs.Common.{◌≡◌, ◌+◌, ◌-◌, ◌*◌, ◌≤◌, List, [], ◌∷◌, ◌++◌, length, map}
use Rattle.pas_profile.specs.declared.word.Word.{Word}
use Rattle.pas_steps.specs.{Desks.made, InTurn.InTurn, declared.step.{Made.Made, Step.TheVariants.Look}}
use Rattle.pas_utility.specs.Outcomes.{pairs_in, places_of}
use Rattle.pas_scavenger.specs.Passes.{Tried, TriedSteps, pages_set, Tries}
use Rattle.pas_scavenger.proofs.passing.read_word.Given as goal

-- the pages below `next` were tried
abbrev pub invariant-pages : goal.invariant-pages
invariant-pages g l = let D = g.D.Desk in let seat = (D.standing l.fn.desk).seat in record {
  tried : List Tried;
  pages_are : map (λ t. t.page) tried ≡ pages_set l.block l.hinted (l.next - 64 * l.block);
  steps : List Made;
  each : InTurn (TriedSteps seat.profile.age l.epoch) tried steps;
  tries : Tries l.epoch tried (D.standing l.fn.desk) (D.standing l.desk) (pairs_in l.fn.out) (pairs_in l.out)
      (steps ++ (made (Look (Word.Empty l.block)) l.hinted ∷ []));
  few : length steps ≤ 38 * length tried;
  from : 64 * l.block ≤ l.next;
  to : l.next ≤ 64 * l.block + 64;
  room : seat.profile.pages ≤ D.spare_of l.desk + (l.next - 1);
  left : length (pairs_in l.out) ≤ l.next - 1;
  places : places_of l.out ≡ places_of l.fn.out;
  home : D.home l.desk ≡ D.home l.fn.desk;
}

abbrev pub decreases-pages : goal.decreases-pages
decreases-pages g l = 64 * l.block + 64 - l.next
