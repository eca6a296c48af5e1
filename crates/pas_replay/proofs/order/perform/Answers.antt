use Rattle.std.proofs.Common.{◌≡◌, ◌∙◌, None, ap, refl}
use Rattle.pas_replay.proofs.{InOrder.as_first, ByActors.acts_by_work, Common.{work_of, Op, Task, What, Work, idle_in}}
use Rattle.pas_replay.proofs.order.perform.Goals as goal

pub returns-in-Alloc-clause-so_far : goal.returns-in-Alloc-clause-so_far
returns-in-Alloc-clause-so_far g c op same r more so =
    let asks : work_of c.args.op.what ≡ Work.Own (Task.Request c.in-Alloc.name c.in-Alloc.heap c.in-Alloc.size c.in-Alloc.align) = ap (λ (w : What). work_of w) c.in-Alloc.is in
    c.serve_request.ensures.so_far op (ap (λ (o : Op). o.actor) same) (ap (λ (o : Op). o.what) same ∙ c.in-Alloc.is) r more
    (as_first more (acts_by_work (idle_in c.args.awake r.threads) op c.args.op same refl asks) so)

pub returns-in-Free-clause-so_far : goal.returns-in-Free-clause-so_far
returns-in-Free-clause-so_far g c op same r more so =
    let asks : work_of c.args.op.what ≡ Work.Own (Task.Free c.in-Free.name None) = ap (λ (w : What). work_of w) c.in-Free.is in
    c.serve_free.ensures.so_far op (ap (λ (o : Op). o.actor) same) (ap (λ (o : Op). o.what) same ∙ c.in-Free.is) r more
    (as_first more (acts_by_work (idle_in c.args.awake r.threads) op c.args.op same refl asks) so)
