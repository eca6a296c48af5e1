use Rattle.std.proofs.Common.{◌∙◌, arith}
use Rattle.pas_cache.proofs.{Budget.may_allocate, Routes.is_small}
use Rattle.pas_steps.proofs.Called.{call_none}
use Rattle.pas_trials.proofs.{Borrowed.{budget_call, one_more}, Going.fewer}
use Rattle.pas_trials.proofs.storming.borrow_many.Goals as goal

pub loop-done-init : goal.loop-done-init
loop-done-init g c = search (arith, call_none, budget_call, fewer)

pub alloc-requires-clause-route : goal.alloc-requires-clause-route
alloc-requires-clause-route g c = is_small _ 512 16 (omega arith)

pub alloc-requires-clause-can : goal.alloc-requires-clause-can
alloc-requires-clause-can g c = may_allocate _ (omega arith) c.loop-done.invariant.0.room

pub loop-done-preserved : goal.loop-done-preserved
loop-done-preserved g c = (
  one_more (omega arith) c.loop-done.invariant.0 c.alloc.ensures.allocates (g.met.D.Desk.spares c.loop-done.desk) (g.met.D.Desk.spares c.alloc.new.desk),
  c.alloc.ensures.home ∙ c.loop-done.invariant.1,
)
