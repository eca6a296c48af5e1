use Rattle.pas_plain.proofs.Desks.{may_step, storm_makes}
use Rattle.pas_plain.proofs.storm.StormDeskDesk.make.Goals as goal

pub make-requires-clause-can : goal.make-requires-clause-can
make-requires-clause-can g c =
    may_step c.args.self.now.desk c.disturb.new.self.desk c.args.self.now.foreign c.disturb.new.self.foreign c.args.step c.disturb.ensures.profile c.disturb.ensures.stands c.requires.can

pub returns-clause-makes : goal.returns-clause-makes
returns-clause-makes g c =
    storm_makes c.args.self.now.desk c.disturb.new.self.desk c.make.new.self c.args.self.now.foreign c.disturb.new.self.foreign c.args.step c.make.result c.disturb.ensures.own c.disturb.ensures.profile c.disturb.ensures.stands
    c.make.ensures.makes
