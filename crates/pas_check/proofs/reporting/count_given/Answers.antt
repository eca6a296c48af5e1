use Rattle.std.proofs.Common.{ap, arith}
use Rattle.pas_profile.specs.declared.profile.Profile.{Profile}
use Rattle.pas_check.proofs.Pages.{given_more}
use Rattle.pas_check.proofs.reporting.count_given.Goals as goal

pub overflow_add-given : goal.overflow_add-given
overflow_add-given c =
    let pages = ap (λ (f : Profile). f.pages) c.profile-before-end.ensures in
    omega (arith, c.given_there-given.ensures.few, c.loop-before.invariant.few, c.loop-before-test.true, pages, c.requires.valid.pages)

pub loop-before-preserved : goal.loop-before-preserved
loop-before-preserved c =
    search (arith, given_more)
