use Rattle.std.proofs.Common.{◌+◌, ◌++◌, ◌∙◌, refl, ap, subst, arith, List}
use Rattle.pas_profile.specs.declared.guard.Guard.{Guard}
use Rattle.pas_steps.{specs.Desks.Seat, proofs.Called.next_call}
use Rattle.pas_guard.specs.Books.{FitsBook}
use Rattle.pas_tests.proofs.BetweenCalls.{keeps_after_looks, keeps_after_try}
use Rattle.pas_tests.proofs.keeping.keep.Goals as goal

pub loop-round-init : goal.loop-round-init
loop-round-init g c = record { can = c.requires.can; seat = refl; home = refl }

pub try_guarded-requires-clause-admitted : goal.try_guarded-requires-clause-admitted
try_guarded-requires-clause-admitted g c =
    let same = ap (λ (s : Seat). s.profile) c.loop-round.invariant.seat in
    record {
      within = rw same (omega (arith, c.requires.pages));
      aligned = (omega arith, omega arith, refl);
      of_profile = rw same (omega (arith, c.requires.heaps));
    }

pub try_guarded-requires-clause-can : goal.try_guarded-requires-clause-can
try_guarded-requires-clause-can g c =
    let lt = c.loop-round-test.true in
    let can = c.loop-round.invariant.can in
    record {
      view = can.view;
      whole = can.whole;
      stood = can.stood;
      met = record {
        fits = can.met.fits;
        place = omega (arith, can.met.places, lt);
        room = omega (arith, can.met.room, lt);
        records = omega (arith, can.met.records, lt);
      };
    }

pub are_bare-here-requires : goal.are_bare-here-requires
are_bare-here-requires g c =
    let can = c.loop-round.invariant.can in
    record {
      can = next_call c.try_guarded.ensures.tries.calls (record { view = can.view; whole = can.whole; stood = can.stood; met = can.met.fits })
          (λ v fits after. tt);
    }

pub loop-round-preserved : goal.loop-round-preserved
loop-round-preserved g c =
    let tried = keeps_after_try c.loop-round.round (omega arith) c.loop-round.invariant.can c.try_guarded.ensures.tries
    (g.met.D.Desk.spares c.loop-round.desk) (g.met.D.Desk.spares c.try_guarded.new.desk) in
    let looks = c.are_bare-here.ensures.looks in
    record {
      can = keeps_after_looks tried looks (g.met.D.Desk.spares c.try_guarded.new.desk) (g.met.D.Desk.spares c.are_bare-here.new.desk);
      seat = looks.calls.adds.seat_is ∙ c.try_guarded.ensures.tries.calls.adds.seat_is ∙ c.loop-round.invariant.seat;
      home = c.are_bare-here.ensures.home ∙ c.try_guarded.ensures.home ∙ c.loop-round.invariant.home;
    }

pub lower_all-requires : goal.lower_all-requires
lower_all-requires g c =
    let can = c.loop-round.invariant.can in
    record {
      can = record {
        view = can.view;
        whole = can.whole;
        stood = can.stood;
        met = record {
          fits = can.met.fits;
          records = omega
              (arith, can.met.records, c.loop-round-test.false);
        };
      };
    }

pub returns-clause-can : goal.returns-clause-can
returns-clause-can g c =
    let f = (g.D.Desk.standing c.loop-round.desk).seat.profile in
    let can = c.loop-round.invariant.can in
    let t = c.lower_all.ensures.lowers in
    next_call t.calls (record { view = can.view; whole = can.whole; stood = can.stood; met = can.met.fits })
    (λ v fits after. rw t.calls.adds.seat_is (subst (λ (gs : List Guard). FitsBook f gs (t.steps ++ v)) t.none after))

pub returns-clause-seat : goal.returns-clause-seat
returns-clause-seat g c = c.lower_all.ensures.lowers.calls.adds.seat_is ∙ c.loop-round.invariant.seat
