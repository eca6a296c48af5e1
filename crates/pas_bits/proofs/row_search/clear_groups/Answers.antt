use Rattle.std.proofs.Common.{◌+◌, arith}
use Rattle.pas_bits.proofs.Rows.{group_zero, clear_more}
use Rattle.pas_bits.proofs.row_search.clear_groups.Goals as goal

pub loop-start-preserved : goal.loop-start-preserved
loop-start-preserved c =
    search (arith, clear_more, group_zero)
