use Rattle.std.proofs.Common.{◌≡◌, ◌+◌, ◌-◌, ◌*◌, false, sym, subst, arith}
use Rattle.pas_bits.specs.Bits.{has_bit}
use Rattle.pas_steps.specs.Desks.{Seat}
use Rattle.pas_trials.proofs.Going.{fewer}
use Rattle.pas_tests.proofs.cache_tests.serves_each_class.Goals as goal

pub loop-class-init : goal.loop-class-init
loop-class-init g c = record { exclusive = c.requires.exclusive; none_logged = c.requires.none_logged; can = c.requires.can }

pub serves_class-requires-clause-can : goal.serves_class-requires-clause-can
serves_class-requires-clause-can g c = fewer 10 (omega arith) c.loop-class.invariant.can

pub loop-class-preserved : goal.loop-class-preserved
loop-class-preserved g c =
    let left = 10 * (20 - (c.loop-class.class + 1)) in
    let served = c.serves_class.ensures in
    record {
      exclusive = subst (λ (s : Seat). has_bit s.profile.shared 0 ≡ false) (sym served.seat) c.loop-class.invariant.exclusive;
      none_logged = served.none_logged;
      can = served.room left (fewer (left + 10) (omega arith) c.loop-class.invariant.can);
    }
