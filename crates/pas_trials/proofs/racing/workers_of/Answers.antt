use Rattle.std.proofs.Common.{refl}
use Rattle.pas_trials.specs.Races.{IsReadyForRace}
use Rattle.pas_shared.{specs.Passes.IsFreshPass, proofs.Pops.{all_more, first_is, others_are}}
use Rattle.pas_trials.proofs.racing.workers_of.Goals as goal

pub loop-pass-preserved : goal.loop-pass-preserved
loop-pass-preserved c =
    let region = c.args.region.now in
    let inv = c.loop-pass.invariant in
    let is = c.in-Some.ensures.steps.0 in
    let fresh = first_is (IsFreshPass region 2) _ _ _ is inv.0 in
    let more = all_more (IsReadyForRace region) _ _ _ c.in_ok-push.ensures.items inv.1 (record { has_pass = refl; of_region = fresh.of_region; may = fresh }) in
    (others_are (IsFreshPass region 2) _ _ _ is inv.0, more)
