use Rattle.std.proofs.Common.{ℕ, List, subst}
use Rattle.pas_trace.specs.Plans.{IsPlanOf}
use Rattle.pas_check.specs.Accepted.{IsVerdict}
use Rattle.pas_calls.proofs.judging.judgement_of.Goals as goal

pub returns-in-Ok-check : goal.returns-in-Ok-check
returns-in-Ok-check c = record {
  plan = c.in-Ok.plan;
  read = subst (λ (t : List ℕ). IsPlanOf t c.in-Ok.plan) c.split-parts.ensures.trace c.in-Ok.ensures;
  verdict_is = subst (λ (t : List ℕ). IsVerdict c.in-Ok.plan t c.in-Ok-check.verdict) c.split-parts.ensures.transcript c.in-Ok-check.ensures;
}
