use Rattle.std.proofs.Common.{sym, subst}
use Rattle.pas_plain.specs.{Plain.{profile_of, PassStands}, declared.region.PlainRegion.PlainRegion}
use Rattle.pas_trials.proofs.Opened.{both_passes}
use Rattle.pas_trials.proofs.seats.close_both.Goals as goal

pub close-requires : goal.close-requires
close-requires c =
    let parts = c.into_parts-region.ensures in let beside = c.requires in
    let rests = subst (λ (r : PlainRegion). PassStands (profile_of r) c.args.pass beside.whole) (sym parts.region) beside.rests in
    both_passes c.in_ok-vec.ensures.items (parts.region_stands beside.view beside.whole beside.stood) (parts.pass_stands beside.view beside.whole beside.stood) rests
