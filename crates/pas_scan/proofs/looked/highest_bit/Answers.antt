use Rattle.std.proofs.Common.{◌≡◌, ◌+◌, ◌-◌, ◌/◌, ◌^◌, arith, subst}
use Rattle.pas_scan.proofs.Reading.{highest_at}
use Rattle.pas_scan.proofs.looked.highest_bit.Goals as goal

pub returns : goal.returns
returns c =
    let i = c.loop-span.invariant in let last : c.loop-span.span ≡ 1 = omega (arith, i.some, c.loop-span-test.false) in
    highest_at c.args.word c.loop-span.low i.left (subst (λ n. c.args.word / 2 ^ (c.loop-span.low + n) ≡ 0) last i.none) (omega (arith, i.within, i.some))
