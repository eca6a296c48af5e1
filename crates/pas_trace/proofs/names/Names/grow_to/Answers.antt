use Rattle.std.proofs.Common.{List, get_or, ap, ◌∙◌}
use Rattle.pas_trace.{specs.declared.names.Owner.Owner, proofs.Gathering.get_or-more}
use Rattle.pas_trace.proofs.names.Names.grow_to.Goals as goal

pub loop-self-preserved : goal.loop-self-preserved
loop-self-preserved c n =
    let at = λ (xs : List Owner). get_or xs n record { thread = 0; heap = 0; phase = 0 } in
    ap at c.push_reserved.ensures.items ∙ get_or-more _ _ n ∙ ap at c.reserve.ensures.items ∙ c.loop-self.invariant n
