use Rattle.std.proofs.{lemmas.{Grind.pow_more, Bool.Decides.nat_tests, List.{drop_more, drop_all}}, Common.{◌≡◌, ◌≤◌, true, get_or, arith}}
use Rattle.pas_trace.{specs.Numbers.{is_hex, hex_value}, proofs.Digits.{some-tested, none-tested, hex-stop, hex-room, hex-bound}}
use Rattle.pas_trace.proofs.numbers.value_of_hex.Goals as goal

pub returns-in_default-clause-value : goal.returns-in_default-clause-value
returns-in_default-clause-value c = search (arith, drop_more, hex-stop, none-tested, c.in_default.ensures)

pub overflow_mul-value : goal.overflow_mul-value
overflow_mul-value c = let r = hex-room _ _ c.loop-byte.invariant.1 (omega arith) in omega arith

pub overflow_add-value : goal.overflow_add-value
overflow_add-value c =
    let d : (is_hex (get_or c.args.digits.now c.loop-byte.byte-index 0) ≡ true) × (c.in-Some.digit ≡ hex_value
    (get_or c.args.digits.now c.loop-byte.byte-index 0)) × (c.in-Some.digit ≤ 15) = search (arith, some-tested, nat_tests) in
    let r = hex-room c.loop-byte.value c.loop-byte.byte-index c.loop-byte.invariant.1 (omega arith) in omega (arith, d)

pub loop-byte-preserved : goal.loop-byte-preserved
loop-byte-preserved c =
    search (arith, some-tested, nat_tests, drop_more, pow_more)

pub returns-clause-small : goal.returns-clause-small
returns-clause-small c = hex-bound c.loop-byte.value c.loop-byte.byte-index c.loop-byte.invariant.1 (omega arith)

pub returns-clause-value : goal.returns-clause-value
returns-clause-value c = search (arith, drop_all)
