use Rattle.pas_machine.proofs.machine.Machine.step.Goals as goal

pub returns-in-Deed-clause-steps : goal.returns-in-Deed-clause-steps
returns-in-Deed-clause-steps c = rw c.in-Deed.is (c.deed.ensures.steps c.in-Deed.actor)

pub returns-in-Back-clause-steps : goal.returns-in-Back-clause-steps
returns-in-Back-clause-steps c = rw c.in-Back.is (c.back.ensures.steps c.in-Back.actor)

pub returns-in-Unback-clause-steps : goal.returns-in-Unback-clause-steps
returns-in-Unback-clause-steps c = rw c.in-Unback.is (c.unback.ensures.steps c.in-Unback.actor)

pub returns-in-Give-clause-steps : goal.returns-in-Give-clause-steps
returns-in-Give-clause-steps c = rw c.in-Give.is (c.give.ensures.steps c.in-Give.actor)

pub returns-in-End-clause-steps : goal.returns-in-End-clause-steps
returns-in-End-clause-steps c = rw c.in-End.is (c.end.ensures.steps c.in-End.actor)

pub returns-in-Reject-clause-steps : goal.returns-in-Reject-clause-steps
returns-in-Reject-clause-steps c = rw c.in-Reject.is (c.reject.ensures c.in-Reject.actor)
