use Rattle.pas_steps.proofs.Adding.{adds_none, can_step}
use Rattle.pas_tests.proofs.BetweenCalls.{looked_none, looked_one}
use Rattle.pas_tests.proofs.keeping.look_where.Goals as goal

pub returns-then-not-asked-clause-looks : goal.returns-then-not-asked-clause-looks
returns-then-not-asked-clause-looks g c = looked_none

pub look-requires-clause-can : goal.look-requires-clause-can
look-requires-clause-can g c = can_step adds_none c.requires.can c.requires.page (λ v l stood met. tt)

pub returns-clause-looks : goal.returns-clause-looks
returns-clause-looks g c = looked_one c.args.page c.look.result c.look.ensures.makes
