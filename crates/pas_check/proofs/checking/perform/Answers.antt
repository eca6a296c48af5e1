use Rattle.std.proofs.Common.{arith, ℕ, not, ap, sym, ◌∙◌}
use Rattle.pas_bits.specs.Masks.{is_set}
use Rattle.pas_trace.specs.{Acts.threads_where, declared.plan.{Chore.Chore, Work.Work}}
use Rattle.pas_check.{specs.Checks.threads_in, proofs.Actings.{act_taken, pass_taken, chore_taken, operation_taken}}
use Rattle.pas_check.proofs.checking.perform.Goals as goal

pub returns-in-Own-clause-taken : goal.returns-in-Own-clause-taken
returns-in-Own-clause-taken c = operation_taken (threads_where (λ k. not (is_set c.args.awake k)) (threads_in c.args.judge.now)) c.args.op _
    (sym c.work.ensures ∙ c.in-Own.is) c.operate.ensures.within c.operate.ensures.taken

pub returns-in-Chore-Tick-clause-taken : goal.returns-in-Chore-Tick-clause-taken
returns-in-Chore-Tick-clause-taken c = chore_taken (threads_where (λ k. not (is_set c.args.awake k)) (threads_in c.args.judge.now)) c.args.op _
    (sym c.work.ensures ∙ c.in-Chore-Tick.is ∙ ap Work.Chore (c.in-Chore-Tick.field-0-is ∙ ap (λ (n : ℕ). Chore.Tick n) (sym c.in-Chore-Tick.epoch-is)))
    (act_taken c.tick.ensures.taken)

pub returns-in-Chore-Pass-clause-taken : goal.returns-in-Chore-Pass-clause-taken
returns-in-Chore-Pass-clause-taken c = chore_taken (threads_where (λ k. not (is_set c.args.awake k)) (threads_in c.args.judge.now)) c.args.op Chore.Pass
    (sym c.work.ensures ∙ c.in-Chore-Pass.is ∙ ap Work.Chore c.in-Chore-Pass.field-0-is) (pass_taken c.pass.ensures.taken)

pub returns-in-Chore-Idle-clause-taken : goal.returns-in-Chore-Idle-clause-taken
returns-in-Chore-Idle-clause-taken c = search (arith, chore_taken)
