use Rattle.std.proofs.{Common.{◌≡◌, ◌<◌, ◌+◌, ◌-◌, ◌%◌, drop, get_or, arith}, lemmas.List.{drop_more, drop_all}}
use Rattle.pas_trace.specs.Numbers.{hex_value}
use Rattle.pas_check.proofs.Readings.{hex_bound, hex_room, hex_most, hex_more, hex_stops}
use Rattle.pas_check.proofs.numbers.hex.Goals as goal

pub returns-then-place-text-clause-value : goal.returns-then-place-text-clause-value
returns-then-place-text-clause-value c = search (arith, drop_all, hex_stops)

pub returns-then-place-text-clause-small : goal.returns-then-place-text-clause-small
returns-then-place-text-clause-small c = hex_most c.loop-place.value c.loop-place.place c.args.digits c.loop-place.invariant.1 (omega arith)

pub overflow_mul-value : goal.overflow_mul-value
overflow_mul-value c =
    let r = hex_room c.loop-place.value c.loop-place.place c.loop-place.invariant.1 (omega arith) in omega (arith, r)

pub overflow_add-value : goal.overflow_add-value
overflow_add-value c =
    let r = hex_room c.loop-place.value c.loop-place.place c.loop-place.invariant.1 (omega arith) in omega (arith, r)

pub loop-place-preserved : goal.loop-place-preserved
loop-place-preserved c =
    let w = c.args.text.now in
    let i = c.loop-place.place in
    let v = c.loop-place.value in
    let k = c.args.digits - i in
    let b = get_or w i 0 in
    let rest = drop (i + 1) w in
    let nibble : c.nibble.result ≡ hex_value b % 16 = c.nibble.ensures in
    let fewer : c.args.digits - (i + 1) ≡ k - 1 = omega arith in
    let less : c.nibble.result < 16 = omega (arith, nibble) in (
      cc (hex_more k v b rest (omega arith), drop_more w i 0 (omega arith)),
      hex_bound v c.nibble.result i c.loop-place.invariant.1 less,
    )
