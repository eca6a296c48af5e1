use Rattle.std.proofs.Common.{sym, subst}
use Rattle.pas_steps.specs.{Clear.HasNothing, Desks.CanCall}
use Rattle.pas_search.proofs.Sessions.{can_ask, bitfit_of_first}
use Rattle.pas_shared.specs.declared.pass.SharedPass.{SharedPass}
use Rattle.pas_trials.specs.Trades.{standing_at}
use Rattle.pas_trials.proofs.trading.give.Goals as goal

pub alloc-answer-requires-clause-directory : goal.alloc-answer-requires-clause-directory
alloc-answer-requires-clause-directory g c = bitfit_of_first _ c.args.desk.now.pass.valid

pub alloc-answer-requires-clause-can : goal.alloc-answer-requires-clause-can
alloc-answer-requires-clause-can g c = can_ask _ c.requires.room c.requires.can

pub returns-in-Ok-clause-can : goal.returns-in-Ok-clause-can
returns-in-Ok-clause-can g c =
    subst (λ (p : SharedPass). CanCall (standing_at p) HasNothing) (sym c.past-past.ensures.pass) (c.alloc-answer.ensures.rests c.requires.can)
