use Rattle.std.proofs.Common.{◌≡◌, [], ap, ◌∙◌, arith}
use Rattle.pas_profile.specs.declared.profile.Profile.{Profile}
use Rattle.pas_steps.{specs.Desks.Seat, proofs.Nothing.nothing_yet}
use Rattle.pas_plain.specs.{Plain.profile_of, declared.region.PlainRegion.PlainRegion}
use Rattle.pas_tests.proofs.Besides.{may_search, whole_room, beside_first, waits_first, seated_then, beside_second}
use Rattle.pas_tests.proofs.pass_tests.refill_and_pass.Goals as goal

pub change-desk-requires : goal.change-desk-requires
change-desk-requires c = beside_first c.in_ok-desk.ensures.opens c.fill.ensures.steps (may_search _)

pub age_and_pass-requires-clause-can : goal.age_and_pass-requires-clause-can
age_and_pass-requires-clause-can c =
    let w = waits_first c.in_ok-desk.ensures.opens c.fill.ensures.steps (may_search _) in
    record { view = []; whole = w.whole; stood = seated_then w c.change-desk.result.0 c.change-desk.ensures.region c.change-desk.ensures.seated; met = nothing_yet }

pub age_and_pass-requires-clause-room : goal.age_and_pass-requires-clause-room
age_and_pass-requires-clause-room c =
    let w = waits_first c.in_ok-desk.ensures.opens c.fill.ensures.steps (may_search _) in
    let whole = whole_room w c.change-desk.result.0 c.change-desk.ensures.region c.change-desk.ensures.seated in
    let same = ap (λ (s : Seat). s.profile.pages) c.fill.ensures.steps.adds.seat_is in
    let region = ap (λ (r : PlainRegion). (profile_of r).pages) c.change-desk.ensures.region in
    let pages : (profile_of c.in_ok-desk.desk.region).pages ≡ 1 = ap (λ (f : Profile). f.pages) (c.in_ok-desk.ensures.profile ∙ c.plain_profile.ensures) in
    omega (arith, whole, same, region, pages)

pub close_both-requires : goal.close_both-requires
close_both-requires c =
    let w = waits_first c.in_ok-desk.ensures.opens c.fill.ensures.steps (may_search _) in let e = c.change-desk.ensures in
    beside_second w _ e.region e.seated e.risen c.age_and_pass.ensures.steps nothing_yet
