use Rattle.std.proofs.Common.{◌∙◌, ap, arith}
use Rattle.pas_bits.specs.Bits.{has_bit}
use Rattle.pas_profile.specs.declared.profile.Profile.{Profile}
use Rattle.pas_tests.proofs.Stormed.{may_begin_alone}
use Rattle.pas_tests.proofs.cache_tests.a_region_of_twenty_classes_serves_each.Goals as goal

pub serves_each_class-requires-clause-exclusive : goal.serves_each_class-requires-clause-exclusive
serves_each_class-requires-clause-exclusive g c = ap (λ (f : Profile). has_bit f.shared 0) (c.in_ok-desk.ensures.profile ∙ c.large_profile.ensures)

pub serves_each_class-requires-clause-can : goal.serves_each_class-requires-clause-can
serves_each_class-requires-clause-can g c =
    let pages = ap (λ (f : Profile). f.pages) (c.in_ok-desk.ensures.profile ∙ c.large_profile.ensures) in
    may_begin_alone 200 _ c.in_ok-desk.ensures.opens.stood c.in_ok-cache.ensures.rest (omega (arith, c.in_ok-desk.ensures.room, pages))
