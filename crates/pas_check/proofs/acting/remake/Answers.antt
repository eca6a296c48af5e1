use Rattle.std.proofs.Common.{None, Some}
use Rattle.pas_check.proofs.Actings.{nothing_begun, remade_as}
use Rattle.pas_check.proofs.acting.remake.Goals as goal

pub returns-in-None-clause-taken : goal.returns-in-None-clause-taken
returns-in-None-clause-taken c = λ f act remakes.
    nothing_begun c.requires.within (remade_as act c.args.k c.args.name c.args.size c.args.align c.args.old remakes None c.in-None.ensures.meant)

pub returns-in-Some-None-clause-taken : goal.returns-in-Some-None-clause-taken
returns-in-Some-None-clause-taken c = λ f act remakes.
    c.say_named.ensures.taken f act
    (remade_as act c.args.k c.args.name c.args.size c.args.align c.args.old remakes (Some None) (rw c.in-Some-None.field-0-is at c.in-Some-None.ensures.meant))

pub returns-in-Some-Some-clause-taken : goal.returns-in-Some-Some-clause-taken
returns-in-Some-Some-clause-taken c = λ f act remakes.
    c.resize.ensures.taken f act
    (remade_as act c.args.k c.args.name c.args.size c.args.align c.args.old remakes (Some (Some c.in-Some-Some.block))
    (rw c.in-Some-Some.field-0-is at c.in-Some-Some.ensures.meant))
