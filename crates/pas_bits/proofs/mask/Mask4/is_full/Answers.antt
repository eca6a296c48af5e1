use Rattle.std.proofs.Common.{rules, arith}
use Rattle.pas_bits.proofs.Masks.{apart_more, not_apart, apart_whole}
use Rattle.pas_bits.proofs.mask.Mask4.is_full.Goals as goal

pub returns-then-self-word-ne0 : goal.returns-then-self-word-ne0
returns-then-self-word-ne0 c = search (arith, not_apart, rules)

pub loop-word-preserved : goal.loop-word-preserved
loop-word-preserved c = apart_more c.args.self.now c.args.usable.now c.loop-word.word c.if-self-word-ne0.false c.loop-word.invariant

pub returns : goal.returns
returns c = search (arith, apart_whole)
