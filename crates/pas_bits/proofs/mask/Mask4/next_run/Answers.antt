use Rattle.pas_bits.proofs.FreeRuns.{no_next, next_is}
use Rattle.pas_bits.proofs.mask.Mask4.next_run.Goals as goal

pub returns-in_err-first : goal.returns-in_err-first
returns-in_err-first c =
    rw c.from_residual.ensures (no_next c.args.self.now c.moved_up.result c.complement.result c.both-starts.result
    c.moved_up.ensures c.complement.ensures c.both-starts.ensures c.args.from c.in_err-first.ensures)

pub returns : goal.returns
returns c =
    next_is c.args.self.now c.moved_up.result c.complement.result c.both-starts.result c.moved_up.ensures c.complement.ensures c.both-starts.ensures
    c.args.from c.in_ok-first.first c.run_end-end.result c.in_ok-first.ensures c.run_end-end.ensures
