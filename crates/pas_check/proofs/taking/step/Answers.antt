use Rattle.pas_check.proofs.OneNext.{stepped}
use Rattle.pas_check.proofs.taking.step.Goals as goal

pub returns-clause-stepped : goal.returns-clause-stepped
returns-clause-stepped c = rw c.is_ok.ensures.value (stepped c.args.machine.now c.step.new.self c.args.event.now c.step.result c.step.ensures.steps)
