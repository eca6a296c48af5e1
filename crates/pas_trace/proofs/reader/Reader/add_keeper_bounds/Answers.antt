use Rattle.pas_trace.{specs.Plans.{bound_of, bounds_upto, kept_costs}, proofs.Telling.{few_kept, bounds-more}}
use Rattle.std.proofs.{Common.{ne_eqb, ◌≡◌, ◌+◌, get_or, ap, ◌∙◌, arith}, lemmas.Bool.lt-leb}
use Rattle.pas_trace.proofs.reader.Reader.add_keeper_bounds.Goals as goal

pub overflow_add-self : goal.overflow_add-self
overflow_add-self c = search (arith, few_kept)

pub loop-thread-init : goal.loop-thread-init
loop-thread-init c items t = c.requires.threads items t

pub loop-thread-preserved : goal.loop-thread-preserved
loop-thread-preserved c items t =
    let r = c.args.self.now in
    let f = r.header.profile in
    let k = c.loop-thread.thread in
    let kept : get_or r.samples.kept k 0 ≡ kept_costs f k items = t.samples.kept k (omega arith) in
    let bound = ap (λ n. f.pages + n) kept
    ∙ (let it : f.pages + kept_costs f k items ≡ bound_of f items (f.threads + k) = search (arith, ne_eqb, lt-leb) in it) in
    let next : f.threads + k + 1 ≡ f.threads + (k + 1) = omega arith in
    bounds-more f items (f.threads + k) _ _ _ (c.loop-thread.invariant items t) bound c.in_ok-push.ensures.items ∙ ap (λ n. bounds_upto f items n) next

pub returns-then-self-eq0 : goal.returns-then-self-eq0
returns-then-self-eq0 c items t = cc (c.requires.threads items t)

pub returns : goal.returns
returns c items t = search (arith, ne_eqb)
