use Rattle.std.{proofs.Common.{◌∙◌, arith, below_more, get_or-set_other, get_or-set_same, length-set, ext_get_or}, specs.Slots.{slots_items, slots_counts}}
use Rattle.pas_shared.proofs.Ruling.{read_at}
use Rattle.pas_shared.proofs.closing.copy.Goals as goal

pub loop-i-preserved : goal.loop-i-preserved
loop-i-preserved c =
    search (arith, length-set, below_more, get_or-set_other, get_or-set_same, read_at)

pub returns : goal.returns
returns c =
    let same = c.loop-i.invariant in
    let many = (slots_counts c.args.closed.now.words).0 in
    ext_get_or 0 c.loop-i.words.items (slots_items c.args.closed.now.words) (same.0 ∙ (c.requires.1 ∙ many)) (λ k h. same.1 k (let e = same.0 in omega arith))
