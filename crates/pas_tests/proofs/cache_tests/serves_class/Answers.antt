use Rattle.std.proofs.Common.{◌≡◌, ◌+◌, ◌≤◌, false, sym, ◌∙◌, subst, arith}
use Rattle.pas_bits.specs.Bits.{has_bit}
use Rattle.pas_profile.proofs.Sizes.{class_size_le}
use Rattle.pas_steps.specs.Desks.{Seat}
use Rattle.pas_trials.proofs.Going.{fewer}
use Rattle.pas_tests.proofs.cache_tests.serves_class.Goals as goal

pub borrow_two-before-requires-clause-size : goal.borrow_two-before-requires-clause-size
borrow_two-before-requires-clause-size g c = let most = class_size_le c.args.class in subst (λ n. n ≤ 2048) (sym c.class_size-size.ensures) (omega (arith, most))

pub borrow_two-before-requires-clause-can : goal.borrow_two-before-requires-clause-can
borrow_two-before-requires-clause-can g c = fewer 5 (omega arith) c.requires.can

pub borrow_two-again-requires-clause-exclusive : goal.borrow_two-again-requires-clause-exclusive
borrow_two-again-requires-clause-exclusive g c = subst (λ (s : Seat). has_bit s.profile.shared 0 ≡ false) (sym c.borrow_two-before.ensures.seat) c.requires.exclusive

pub borrow_two-again-requires-clause-size : goal.borrow_two-again-requires-clause-size
borrow_two-again-requires-clause-size g c = let most = class_size_le c.args.class in subst (λ n. n ≤ 2048) (sym c.class_size-size.ensures) (omega (arith, most))

pub borrow_two-again-requires-clause-can : goal.borrow_two-again-requires-clause-can
borrow_two-again-requires-clause-can g c = c.borrow_two-before.ensures.room 5 (fewer (5 + 5) (omega arith) c.requires.can)

pub returns-clause-none_logged : goal.returns-clause-none_logged
returns-clause-none_logged g c = c.borrow_two-again.ensures.none_logged

pub returns-clause-seat : goal.returns-clause-seat
returns-clause-seat g c = c.borrow_two-again.ensures.seat ∙ c.borrow_two-before.ensures.seat

pub returns-clause-room : goal.returns-clause-room
returns-clause-room g c = λ n can. c.borrow_two-again.ensures.room n (c.borrow_two-before.ensures.room (n + 5) (fewer (n + 5 + 5) (omega arith) can))
