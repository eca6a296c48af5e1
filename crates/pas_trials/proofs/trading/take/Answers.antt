use Rattle.std.proofs.Common.{subst}
use Rattle.pas_free_log.specs.Flushes.{EndsName}
use Rattle.pas_shared.specs.{Passes.standing_of, declared.pass.SharedPass.SharedPass}
use Rattle.pas_trials.specs.Trades.{standing_at}
use Rattle.pas_trials.proofs.trading.take.Goals as goal

pub returns-clause-ended : goal.returns-clause-ended
returns-clause-ended g c =
    subst (λ (p : SharedPass). EndsName c.in-Ok.gift.name (standing_at p) (standing_of c.end_one.new.desk)) c.after.ensures.pass c.end_one.ensures.ends
