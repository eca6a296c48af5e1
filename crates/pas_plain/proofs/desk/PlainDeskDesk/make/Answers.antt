use Rattle.pas_steps.proofs.Running.{is_ranged, target_of_region}
use Rattle.pas_plain.{specs.Plain.profile_of, proofs.Desks.plain_makes}
use Rattle.pas_plain.proofs.desk.PlainDeskDesk.make.Goals as goal

pub change-requires-clause-of_region : goal.change-requires-clause-of_region
change-requires-clause-of_region c = target_of_region (profile_of c.args.self.now.region) c.requires.can.view c.args.step c.requires.can.of_region c.requires.can.allowed

pub change-requires-clause-ranged : goal.change-requires-clause-ranged
change-requires-clause-ranged c = is_ranged (profile_of c.args.self.now.region) c.args.step c.args.self.now.region.valid c.requires.can.of_region

pub returns-clause-makes : goal.returns-clause-makes
returns-clause-makes c = plain_makes c.args.self.now c.change.new.self c.args.step c.change.result c.requires.can.of_region c.change.ensures
