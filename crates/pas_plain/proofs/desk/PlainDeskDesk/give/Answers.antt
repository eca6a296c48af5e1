use Rattle.pas_steps.specs.declared.step.Step.{Step}
use Rattle.pas_plain.proofs.Desks.{plain_makes}
use Rattle.pas_plain.proofs.desk.PlainDeskDesk.give.Goals as goal

pub returns-clause-makes : goal.returns-clause-makes
returns-clause-makes c = plain_makes c.args.self.now c.change.new.self (Step.Give c.args.block) c.change.result c.requires.can.of_region c.change.ensures
