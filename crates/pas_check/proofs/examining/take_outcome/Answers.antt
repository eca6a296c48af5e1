use Rattle.std.proofs.Common.{ap, arith, sym, ◌∙◌, Some}
use Rattle.pas_check.proofs.OneNext.{record_is}
use Rattle.pas_check.proofs.examining.take_outcome.Goals as goal

pub returns-clause-taken : goal.returns-clause-taken
returns-clause-taken c =
    let x = c.in-Some-outcome_of.examined in
    let is = record_is c.args.epoch c.in-Some.item x (sym c.outcome_of.ensures ∙ c.in-Some-outcome_of.is) in
    (x.outcome, c.in-Some.is ∙ ap (λ r. Some r) is, omega (arith, c.if-examined-last.false), c.if-not-has_page.ensures, c.if-not-examine.ensures.came)
