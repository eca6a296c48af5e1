use Rattle.std.proofs.{Common.{ap, ◌∙◌}, lemmas.Iterator.{items_from_collect, Adapters.{YieldsList-from_skip, YieldsList-from_vec}}}
use Rattle.std.specs.Vec.Iter.{into_iter_items, into_iter_len}
use Rattle.pas.proofs.after_name.Goals as goal

pub returns : goal.returns
returns c =
    let rest = c.args.arguments.rest in
    items_from_collect _ c.collect.ensures.ran
    (YieldsList-from_skip 1 (YieldsList-from_vec rest.items (ap into_iter_items c.skip.ensures.source) (ap into_iter_len c.skip.ensures.source ∙ rest.ok.0)) c.skip.ensures.count)
