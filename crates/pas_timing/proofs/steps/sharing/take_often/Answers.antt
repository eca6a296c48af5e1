use Rattle.std.proofs.Common.{◌∙◌, arith}
use Rattle.pas_steps.proofs.Called.{call_step, next_step}
use Rattle.pas_rights.specs.Leaves.{MayLeave}
use Rattle.pas_timing.proofs.steps.sharing.take_often.Goals as goal

pub take-requires-clause-can : goal.take-requires-clause-can
take-requires-clause-can g c = let i = c.loop-round.invariant in
    next_step i.brings.calls c.requires.can (c.requires.page, omega arith, omega arith) (λ v m b. b.right)

pub loop-round-preserved : goal.loop-round-preserved
loop-round-preserved g c = let i = c.loop-round.invariant in record {
  brings = record { steps = _; calls = call_step (λ v w. MayLeave c.args.page c.args.directory w) i.brings.calls c.take.ensures.makes (λ v m b. b.right) (λ v m b agrees. record { right = b.right; deed = b.deed }) };
  home = c.take.ensures.home ∙ i.home;
}
