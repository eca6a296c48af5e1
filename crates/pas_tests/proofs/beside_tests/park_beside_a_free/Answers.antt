use Rattle.std.proofs.Common.{◌∙◌, ap, arith}
use Rattle.pas_profile.specs.declared.profile.Profile.{Profile}
use Rattle.pas_tests.proofs.Stormed.{may_begin_alone, rests_beside}
use Rattle.pas_tests.proofs.beside_tests.park_beside_a_free.Goals as goal

pub borrow_many-requires : goal.borrow_many-requires
borrow_many-requires c = record {
  can = may_begin_alone 16 _ c.in_ok-desk.ensures.opens.stood c.in_ok-cache.ensures.rest
      (let pages = ap (λ (f : Profile). f.pages) (c.in_ok-desk.ensures.profile ∙ c.plain_profile.ensures) in omega (arith, c.in_ok-desk.ensures.room, pages));
}

pub stop_in_a_storm-calm-requires-clause-rest : goal.stop_in_a_storm-calm-requires-clause-rest
stop_in_a_storm-calm-requires-clause-rest c = rests_beside c.in_ok-desk.ensures.opens c.in_ok-cache.ensures.rest c.borrow_many.ensures.borrows
