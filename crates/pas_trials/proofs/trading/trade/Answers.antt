use Rattle.std.proofs.Common.{arith, sym}
use Rattle.pas_trials.proofs.Ended.{has_nothing, has_ended}
use Rattle.pas_trials.proofs.trading.trade.Goals as goal

pub returns : goal.returns
returns g c =
    let pass = c.into_pass-pass.result in
    let risen = sym c.into_pass-pass.ensures.pass in
    let ended = has_ended _ c.take-ended.result c.give.new.desk.pass c.take-ended.new.desk.pass c.give.ensures.can c.take-ended.ensures.ended in
    search (arith, has_nothing)
