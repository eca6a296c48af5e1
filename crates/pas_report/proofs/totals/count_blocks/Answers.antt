use Rattle.std.proofs.Common.{arith}
use Rattle.pas_report.proofs.ReportOfWords.{all_counted}
use Rattle.pas_report.proofs.totals.count_blocks.Goals as goal

pub returns-clause-live : goal.returns-clause-live
returns-clause-live c =
    let used = c.used_pages-before-end.ensures in let i = c.loop-before in
    (all_counted c.args.state.now _ i.before i.blocks.live i.blocks.ended used.unused used.within (omega (arith, i.auto.before-end, c.loop-before-test.false)) i.invariant).live_is

pub returns-clause-ended : goal.returns-clause-ended
returns-clause-ended c =
    let used = c.used_pages-before-end.ensures in let i = c.loop-before in
    (all_counted c.args.state.now _ i.before i.blocks.live i.blocks.ended used.unused used.within (omega (arith, i.auto.before-end, c.loop-before-test.false)) i.invariant).ended_is
