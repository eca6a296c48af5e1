use Rattle.std.proofs.Common.{ap, arith}
use Rattle.pas_profile.specs.declared.profile.Profile.{Profile}
use Rattle.pas_plain.specs.Storms.{storm_of}
use Rattle.pas_tests.proofs.BetweenCalls.{seat_profile, may_begin}
use Rattle.pas_tests.proofs.storming.ride.Goals as goal

pub storm-storm-requires : goal.storm-storm-requires
storm-storm-requires c = record { view = _; whole = _; stands = c.requires.begins.stands }

pub keep-are_bare-requires : goal.keep-are_bare-requires
keep-are_bare-requires c =
    let profile = seat_profile (storm_of c.storm-storm.result.desk c.storm-storm.result.foreign) c.requires.begins c.storm-storm.ensures.seat in
    let pages = ap (λ (f : Profile). f.pages) profile in
    let heaps = ap (λ (f : Profile). f.heaps) profile in
    record {
      pages = omega (arith, pages);
      heaps = omega (arith, heaps);
      can = may_begin (storm_of c.storm-storm.result.desk c.storm-storm.result.foreign) c.requires.begins c.storm-storm.ensures.seat c.args.book.now c.args.out.now c.requires.empty c.requires.book c.requires.none c.requires.room c.storm-storm.ensures.spare
          (λ v w l stands. c.storm-storm.ensures.stands v w l stands);
    }

pub returns : goal.returns
returns c =
    let can = c.keep-are_bare.ensures.can in
    let done = c.into_parts-region.ensures.stands can.view can.whole can.stood in
    record { storm = (can.view, done.0, done.1) }
