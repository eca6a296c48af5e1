use Rattle.std.proofs.Common.{◌∙◌, ap, arith}
use Rattle.pas_profile.specs.declared.profile.Profile.{Profile}
use Rattle.pas_tests.proofs.Stormed.{may_begin_alone}
use Rattle.pas_tests.proofs.sizing_tests.a_block_ends_by_its_own_room_alone.Goals as goal

pub borrow_and_end-block-requires-clause-can : goal.borrow_and_end-block-requires-clause-can
borrow_and_end-block-requires-clause-can g c =
    let pages = ap (λ (f : Profile). f.pages) (c.in_ok-desk.ensures.profile ∙ c.plain_profile.ensures) in
    may_begin_alone 5 _ c.in_ok-desk.ensures.opens.stood c.in_ok-cache.ensures.rest (omega (arith, c.in_ok-desk.ensures.room, pages))
