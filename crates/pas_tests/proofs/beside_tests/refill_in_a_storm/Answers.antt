use Rattle.std.proofs.Common.{[], ◌++◌, ap, ◌∙◌, arith}
use Rattle.pas_plain.specs.{Plain.profile_of, Storms.storm_of}
use Rattle.pas_segregated.specs.Stops.{class_directory}
use Rattle.pas_steps.specs.Desks.{Seat}
use Rattle.pas_tests.proofs.{Besides.may_search, Stormed.{of_heap, room_left, may_refill}}
use Rattle.pas_trials.proofs.Opened.{storm_stands}
use Rattle.pas_tests.proofs.beside_tests.refill_in_a_storm.Goals as goal

pub storm-storm-requires : goal.storm-storm-requires
storm-storm-requires c = let parts = c.into_parts-region.ensures in record { view = []; whole = []; stands = storm_stands c.requires.opens parts.region parts.pass }

pub fill-requires : goal.fill-requires
fill-requires c =
    let parts = c.into_parts-region.ensures in
    let opens = c.requires.opens in
    let room = room_left parts.pass opens in
    let spare = c.storm-storm.ensures.spare in
    record {
      directory = of_heap _ 1 (omega arith) (ap (λ (s : Seat). s.profile) c.storm-storm.ensures.seat ∙ ap profile_of parts.region ∙ c.requires.profile);
      can = may_refill {σ = storm_of c.storm-storm.result.desk c.storm-storm.result.foreign} 1 _ parts.region parts.pass opens (omega (arith, room, spare)) c.storm-storm.ensures.stands;
    }

-- the steps of the refill were added to a list for which region and both passes stand
pub returns-clause-storm : goal.returns-clause-storm
returns-clause-storm c =
    let parts = c.into_parts-region.ensures in
    let begun = c.storm-storm.ensures.stands [] [] [] (storm_stands c.requires.opens parts.region parts.pass) in
    let filled = c.fill.ensures.steps in
    let after = c.into_parts-region-2.ensures.stands (filled.steps ++ []) [] (filled.adds.added [] [] begun (may_search (class_directory 0 1))) in
    (filled.steps ++ [], after.0, after.1)
