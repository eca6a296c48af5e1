use Rattle.std.proofs.Common.{ap, arith}
use Rattle.pas_profile.specs.declared.profile.Profile.{Profile}
use Rattle.pas_steps.proofs.Noting.{rest_length}
use Rattle.pas_tests.proofs.Stormed.{may_begin_alone}
use Rattle.pas_tests.proofs.paging_tests.reuse.Goals as goal

pub reuse_pages-requires-clause-can : goal.reuse_pages-requires-clause-can
reuse_pages-requires-clause-can g c =
    let none = rest_length c.in_ok-desk.ensures.fresh.pass.shown in
    let pages = ap (λ (f : Profile). f.pages) c.in_ok-desk.ensures.profile in
    may_begin_alone 2005 _ c.in_ok-desk.ensures.fresh c.new-cache.ensures.rest (omega (arith, c.in_ok-desk.ensures.room, none, pages))
