use Rattle.std.proofs.Common.{◌+◌, arith}
use Rattle.pas_bits.proofs.Rows.{group_within, within_more}
use Rattle.pas_bits.proofs.row_compare.groups_within.Goals as goal

pub loop-start-preserved : goal.loop-start-preserved
loop-start-preserved c =
    let a = c.args.a.now in
    let b = c.args.b.now in
    let start = c.loop-start.start in
    (omega arith, within_more a b start (start + 8) (λ word. (c.type_inv.b word).fits) (group_within a b start 8 (omega arith) (omega arith) c.if-union-ne0.false) c.loop-start.invariant.1)
