use Rattle.pas_bits.proofs.Rows.{within_more, outside, has_outside}
use Rattle.std.proofs.Common.{ap, ◌+◌, ◌∙◌, arith}
use Rattle.pas_bits.proofs.row_compare.any_and_not.Goals as goal

pub returns-then-outside-ne0 : goal.returns-then-outside-ne0
returns-then-outside-ne0 c =
    has_outside c.args.a.now c.args.b.now c.loop-word.word (λ word. (c.type_inv.a word).fits) (λ word. (c.type_inv.b word).fits) c.if-outside-ne0.true

pub loop-word-preserved : goal.loop-word-preserved
loop-word-preserved c = within_more c.args.a.now c.args.b.now c.loop-word.word (c.loop-word.word + 1) (λ word. (c.type_inv.b word).fits)
    (λ k le lt. ap (outside c.args.a.now c.args.b.now) (omega (arith, le, lt)) ∙ c.if-outside-ne0.false) c.loop-word.invariant
