use Rattle.std.proofs.{Common.{◌≡◌, ◌+◌, ◌-◌, ◌*◌, ◌/◌, min, arith}, lemmas.Nat.zero_from_ones, Math.Nat.pos_of_ne-zero}
use Rattle.pas_bits.proofs.Rows.{ones_counted}
use Rattle.pas_search.proofs.passing.steps_of.Goals as goal

pub overflow_sub-more : goal.overflow_sub-more
overflow_sub-more c = let some = pos_of_ne-zero (λ e. c.requires.some (zero_from_ones c.args.passed e)) in omega (arith, some)

pub returns : goal.returns
returns c =
    let row : c.min-row_end.result ≡ min (8 * (c.args.block / 8 + 1)) (c.args.pages / 64 + 1) = omega (arith, c.min-row_end.ensures) in
    λ i. (row i - c.args.next / 64 + 10) + ((ones_counted 64 c.args.passed c.ranges.passed.fits) i - 1) * (row i - c.args.block + 10)
