use Rattle.std.proofs.Common.{◌≡◌, ◌++◌, false, subst}
use Rattle.pas_steps.{specs.Views.has_right, proofs.Called.call_then}
use Rattle.pas_rights.{specs.Leaves.MayLeave, proofs.Orders.leave_lacks}
use Rattle.pas_trials.specs.Trials.{MayLeaveIf}
use Rattle.pas_trials.proofs.holding.visit.Goals as goal

pub returns-clause-brings : goal.returns-clause-brings
returns-clause-brings g c = let page = c.args.page in let d = c.args.directory in let leaves = c.leave.ensures.leaves in record {
  steps = _;
  calls = call_then {C = λ v. MayLeave page d v} {S = λ v w. has_right w page ≡ false} _ c.occupy.ensures.brings.calls
      record { adds = leaves.calls.adds; leads = record { from = λ v m agreed. leave_lacks page d leaves.steps v leaves.order } } (λ v m b. subst (λ t. MayLeaveIf t page d (c.occupy.ensures.brings.steps ++ v)) c.if-not-occupy.false b) (λ v m b left counted. left);
}
