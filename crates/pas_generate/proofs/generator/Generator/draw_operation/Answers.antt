use Rattle.std.proofs.Common.{true, false}
use Rattle.pas_generate.{specs.Operations.state_of, proofs.Operations.{began, allocated, was_freed}}
use Rattle.pas_generate.proofs.generator.Generator.draw_operation.Goals as goal

pub returns-then-is_allocation-clause-operation : goal.returns-then-is_allocation-clause-operation
returns-then-is_allocation-clause-operation c =
    let b = began _ _ _ _ _ (state_of c.args.self.now) _ true c.draw-choice.ensures.number c.draw-choice.ensures.state c.draw.ensures.number c.draw.ensures.state c.is_allocation.ensures c.if-is_allocation.true in
    (allocated _ _ _ _ _ _ (state_of c.allocate.new.self) _ b c.allocate.ensures.operation c.allocate.ensures.state).0

pub returns-then-is_allocation-clause-state : goal.returns-then-is_allocation-clause-state
returns-then-is_allocation-clause-state c =
    let b = began _ _ _ _ _ (state_of c.args.self.now) _ true c.draw-choice.ensures.number c.draw-choice.ensures.state c.draw.ensures.number c.draw.ensures.state c.is_allocation.ensures c.if-is_allocation.true in
    (allocated _ _ _ _ _ _ (state_of c.allocate.new.self) _ b c.allocate.ensures.operation c.allocate.ensures.state).1

pub returns-else-is_allocation-clause-operation : goal.returns-else-is_allocation-clause-operation
returns-else-is_allocation-clause-operation c =
    let b = began _ _ _ _ _ (state_of c.args.self.now) _ false c.draw-choice.ensures.number c.draw-choice.ensures.state c.draw.ensures.number c.draw.ensures.state c.is_allocation.ensures c.if-is_allocation.false in
    (was_freed _ _ _ _ _ _ (state_of c.free.new.self) _ b c.free.ensures.operation c.free.ensures.state).0

pub returns-else-is_allocation-clause-state : goal.returns-else-is_allocation-clause-state
returns-else-is_allocation-clause-state c =
    let b = began _ _ _ _ _ (state_of c.args.self.now) _ false c.draw-choice.ensures.number c.draw-choice.ensures.state c.draw.ensures.number c.draw.ensures.state c.is_allocation.ensures c.if-is_allocation.false in
    (was_freed _ _ _ _ _ _ (state_of c.free.new.self) _ b c.free.ensures.operation c.free.ensures.state).1
