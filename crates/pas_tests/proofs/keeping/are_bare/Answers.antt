use Rattle.std.proofs.Common.{refl, ap, ◌∙◌, arith}
use Rattle.pas_profile.specs.declared.profile.Profile.{Profile}
use Rattle.pas_steps.specs.Desks.{Seat}
use Rattle.pas_tests.proofs.BetweenCalls.{looked_none, looked_both, may_look}
use Rattle.pas_tests.proofs.keeping.are_bare.Goals as goal

pub loop-before-init : goal.loop-before-init
loop-before-init g c = record { looked = looked_none; home = refl }

pub look_where-backed-requires : goal.look_where-backed-requires
look_where-backed-requires g c =
    let looked = c.loop-before.invariant.looked in
    let same = ap (λ (s : Seat). s.profile.pages) looked.calls.adds.seat_is in
    let pages = ap (λ (f : Profile). f.pages) c.profile.ensures in
    record { page = (omega arith, omega (arith, same, pages, c.loop-before-test.true)); can = may_look looked c.requires.can }

pub loop-before-preserved : goal.loop-before-preserved
loop-before-preserved g c = record {
  looked = looked_both c.loop-before.invariant.looked c.look_where-backed.ensures.looks;
  home = c.look_where-backed.ensures.home ∙ c.loop-before.invariant.home;
}
