use Rattle.std.proofs.Common.{◌≡◌, ◌∙◌, ℕ, ap, sym, arith}
use Rattle.pas_replay.proofs.{Common.{unlined, Op, Work, idle_in}, InOrder.as_first, ByActors.acts_by_work}
use Rattle.pas_trace.specs.declared.plan.Chore.{Chore}
use Rattle.pas_answers.proofs.SingleActs.{own_what}
use Rattle.pas_replay.proofs.order.perform_any.Goals as goal

pub tick-requires : goal.tick-requires
tick-requires g c =
    let so0 = c.requires.so_far in
    let is = c.in-Chore-Tick.is ∙ ap (λ (x : Chore). Work.Chore x) (c.in-Chore-Tick.field-0-is ∙ ap (λ (n : ℕ). Chore.Tick n) (sym c.in-Chore-Tick.epoch-is)) in
    record { so_far = (c.args.names.now, (so0.2.0, so0.2.1, as_first so0.2.1 (acts_by_work (idle_in c.args.awake so0.2.0.threads) so0.0 c.args.op so0.1 c.work.ensures is) so0.2.2)) }

pub pass-requires : goal.pass-requires
pass-requires g c =
    let so0 = c.requires.so_far in
    let is = c.in-Chore-Pass.is ∙ ap (λ (x : Chore). Work.Chore x) c.in-Chore-Pass.field-0-is in
    record { so_far = (c.args.names.now, (so0.2.0, so0.2.1, as_first so0.2.1 (acts_by_work (idle_in c.args.awake so0.2.0.threads) so0.0 c.args.op so0.1 c.work.ensures is) so0.2.2)) }

pub stop_idle-requires-clause-so_far : goal.stop_idle-requires-clause-so_far
stop_idle-requires-clause-so_far g c =
    let so0 = c.requires.so_far in
    let is = c.in-Chore-Idle.is ∙ ap (λ (x : Chore). Work.Chore x) (c.in-Chore-Idle.field-0-is ∙ ap (λ (n : ℕ). Chore.Idle n) (sym c.in-Chore-Idle.epochs-is)) in
    (c.args.names.now, (so0.2.0, so0.2.1, as_first so0.2.1 (acts_by_work (idle_in c.args.awake so0.2.0.threads) so0.0 c.args.op so0.1 c.work.ensures is) so0.2.2))

-- what it asks for, too, is what the other one does
same_what : (op said : Op) → unlined op ≡ unlined said → op.what ≡ said.what
same_what op said same = ap (λ (o : Op). o.what) same

pub operate-requires : goal.operate-requires
operate-requires g c = search (arith, as_first, acts_by_work, same_what, own_what)

pub returns-in-Own-clause-so_far : goal.returns-in-Own-clause-so_far
returns-in-Own-clause-so_far g c op same r more so =
    let what = same_what op c.args.op same ∙ own_what c.args.op.what c.in-Own.task (sym c.work.ensures ∙ c.in-Own.is) in
    c.operate.ensures.so_far op (ap (λ (o : Op). o.actor) same) what r more (as_first more (acts_by_work (idle_in c.args.awake r.threads) op c.args.op same c.work.ensures c.in-Own.is) so)

pub returns-in-Chore-Tick-clause-so_far : goal.returns-in-Chore-Tick-clause-so_far
returns-in-Chore-Tick-clause-so_far g c op same r more so =
    let is = c.in-Chore-Tick.is ∙ ap (λ (x : Chore). Work.Chore x) (c.in-Chore-Tick.field-0-is ∙ ap (λ (n : ℕ). Chore.Tick n) (sym c.in-Chore-Tick.epoch-is)) in
    c.tick.ensures.so_far _ r more (as_first more (acts_by_work (idle_in c.args.awake r.threads) op c.args.op same c.work.ensures is) so)

pub returns-in-Chore-Pass-clause-so_far : goal.returns-in-Chore-Pass-clause-so_far
returns-in-Chore-Pass-clause-so_far g c op same r more so =
    let is = c.in-Chore-Pass.is ∙ ap (λ (x : Chore). Work.Chore x) c.in-Chore-Pass.field-0-is in
    c.pass.ensures.so_far c.args.names.now r more (as_first more (acts_by_work (idle_in c.args.awake r.threads) op c.args.op same c.work.ensures is) so)

pub returns-in-Chore-Idle-clause-so_far : goal.returns-in-Chore-Idle-clause-so_far
returns-in-Chore-Idle-clause-so_far g c op same r more so =
    let is = c.in-Chore-Idle.is ∙ ap (λ (x : Chore). Work.Chore x) (c.in-Chore-Idle.field-0-is ∙ ap (λ (n : ℕ). Chore.Idle n) (sym c.in-Chore-Idle.epochs-is)) in
    c.stop_idle.ensures.so_far _ r more (as_first more (acts_by_work (idle_in c.args.awake r.threads) op c.args.op same c.work.ensures is) so)
