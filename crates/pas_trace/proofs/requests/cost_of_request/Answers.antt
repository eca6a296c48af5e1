use Rattle.std.proofs.Common.{◌+◌, ap, sym, ◌∙◌, arith}
use Rattle.pas_trace.proofs.Costs.{small_cost, small_request, unguarded_cost, guarded_cost}
use Rattle.pas_trace.proofs.requests.cost_of_request.Goals as goal

pub returns-then-size-le-MOST_BITFIT-clause-value : goal.returns-then-size-le-MOST_BITFIT-clause-value
returns-then-size-le-MOST_BITFIT-clause-value c =
    c.cost_of_allocation-plain.ensures.value ∙ sym (small_cost c.args.size (omega arith)) ∙ small_request c.args.guard c.args.size (omega arith)

pub returns-then-guard-eq0-clause-value : goal.returns-then-guard-eq0-clause-value
returns-then-guard-eq0-clause-value c = c.cost_of_allocation-plain.ensures.value ∙ unguarded_cost c.args.guard c.args.size c.if-guard-eq0.true

pub returns-clause-value : goal.returns-clause-value
returns-clause-value c = ap (λ n. n + 2) c.cost_of_allocation-plain.ensures.value ∙ guarded_cost c.args.guard c.args.size (omega arith) c.if-guard-eq0.false
