use Rattle.std.proofs.Common.{◌∷◌, [], ap, ◌++◌, ◌∙◌}
use Rattle.pas_profile.specs.{Guards.raised_by, declared.guard.Guard.Guard}
use Rattle.pas_check.proofs.Stretches.{not_raised, raised}
use Rattle.pas_check.proofs.guarding.raise.Goals as goal

pub returns-in_default-clause-taken : goal.returns-in_default-clause-taken
returns-in_default-clause-taken c = λ f. not_raised c.args.keeper c.args.name c.args.block c.in_default.ensures c.next_line.ensures.count

pub returns-clause-taken : goal.returns-clause-taken
returns-clause-taken c = λ f.
    let is = c.in-Some.ensures.1 in
    raised c.args.keeper c.args.name c.args.block c.set.new.self c.push.new.self c.set.ensures.names
    (c.in-Ok.ensures.items ∙ ap (λ (g : Guard). c.args.judge.now.guards.items ++ raised_by c.args.keeper g ∷ []) is) c.in-Some.ensures.0 (rw is at c.take_record.ensures.led)
