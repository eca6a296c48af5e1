use Rattle.std.proofs.Common.{◌∙◌, arith}
use Rattle.pas_steps.proofs.Called.{call_step, next_step}
use Rattle.pas_rights.specs.Leaves.{MayLeave}
use Rattle.pas_trials.proofs.holding.take_words.Goals as goal

pub take-requires-clause-can : goal.take-requires-clause-can
take-requires-clause-can g c = search (arith, next_step)

pub loop-word-preserved : goal.loop-word-preserved
loop-word-preserved g c = let i = c.loop-word.invariant in record {
  brings = record { steps = _; calls = call_step (λ v w. MayLeave c.args.page c.args.directory w) i.brings.calls c.take.ensures.makes (λ v m b. b.right) (λ v m b agrees. record { right = b.right; deed = b.deed }) };
  home = c.take.ensures.home ∙ i.home;
}
