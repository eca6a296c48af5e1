use Rattle.pas_plain.proofs.Desks.{disturbed}
use Rattle.pas_plain.proofs.storm.StormDesk.disturb.Goals as goal

pub returns-then-spare-ge-LEAST_SPARE-clause-stands : goal.returns-then-spare-ge-LEAST_SPARE-clause-stands
returns-then-spare-ge-LEAST_SPARE-clause-stands g c =
    let first = c.exchange_pass.ensures in
    let second = c.exchange_pass-then-spare-ge-LEAST_SPARE.ensures in
    disturbed c.args.self.now.desk c.exchange_pass.new.self c.act.new.desk c.exchange_pass-then-spare-ge-LEAST_SPARE.new.self c.args.self.now.foreign c.exchange_pass-then-spare-ge-LEAST_SPARE.new.pass c.exchange_pass.new.pass
    first.region first.pass first.risen c.act.ensures.acts second.region second.pass second.risen
