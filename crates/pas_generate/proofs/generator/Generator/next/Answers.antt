use Rattle.std.proofs.Common.{sym, ◌∙◌}
use Rattle.pas_generate.{specs.Operations.state_of, proofs.Operations.{tick_at, pass_at, drawn_at}}
use Rattle.pas_generate.proofs.generator.Generator.next.Goals as goal

pub returns-in-999-clause-state : goal.returns-in-999-clause-state
returns-in-999-clause-state c = sym (tick_at c.args.self.now.threads c.args.number (state_of c.args.self.now) c.in-999.is).1

pub returns-in-0-clause-state : goal.returns-in-0-clause-state
returns-in-0-clause-state c = sym (pass_at c.args.self.now.threads c.args.number (state_of c.args.self.now) c.in-0.is).1

pub returns-in_default-clause-state : goal.returns-in_default-clause-state
returns-in_default-clause-state c = c.draw_operation.ensures.state ∙ sym (drawn_at c.args.self.now.threads c.args.number (state_of c.args.self.now) (search) (search)).1
