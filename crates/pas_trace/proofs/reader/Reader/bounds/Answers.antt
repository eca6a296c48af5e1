use Rattle.pas_trace.proofs.Telling.{own_costs-le, bound-thread, bounds-more}
use Rattle.std.proofs.Common.{◌+◌, ◌∷◌, ◌++◌, [], get_or, ap, ◌∙◌, arith}
use Rattle.pas_trace.proofs.reader.Reader.bounds.Goals as goal

pub overflow_add-self : goal.overflow_add-self
overflow_add-self c = search (arith, own_costs-le)

pub loop-thread-init : goal.loop-thread-init
loop-thread-init c items t =
    let first = get_or c.args.self.now.counts.costs 0 0 in
    c.in_ok-push.ensures.items ∙ ap (λ xs. xs ++ first ∷ []) c.new-bounds.ensures.items ∙ ap (λ n. n ∷ []) (t.costs 0 (omega arith))

pub loop-thread-preserved : goal.loop-thread-preserved
loop-thread-preserved c items t =
    search (arith, bound-thread, bounds-more)
