use Rattle.std.proofs.Common.{◌+◌, sym, subst}
use Rattle.pas_large.proofs.Spans.{blank, Gathers, gathers_more}
use Rattle.pas_large.proofs.searching.gather.Goals as goal

pub loop-end-preserved : goal.loop-end-preserved
loop-end-preserved c = subst (λ whole. Gathers c.args.new whole c.args.spans.now c.args.place (c.loop-end.end + 1)) (sym c.with-whole.ensures) (gathers_more c.args.new c.loop-end.whole c.args.spans.now c.args.place c.loop-end.end blank c.requires.apart c.loop-end-test.true c.if-spans-end.true c.loop-end.invariant)
