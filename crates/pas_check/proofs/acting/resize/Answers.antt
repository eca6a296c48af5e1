use Rattle.std.proofs.Common.{Some}
use Rattle.pas_check.proofs.Actings.{asks_taken, resized_asks, resized_kept}
use Rattle.pas_check.proofs.acting.resize.Goals as goal

pub returns-then-suits-clause-taken : goal.returns-then-suits-clause-taken
returns-then-suits-clause-taken c = λ f act resizes.
    c.say_named.ensures.taken f act (resized_kept act c.args.k c.args.name c.args.size c.args.align c.args.block resizes c.if-suits.ensures)

pub returns-clause-taken : goal.returns-clause-taken
returns-clause-taken c = λ f act resizes.
    asks_taken c.args.k (Some c.args.block.name) c.requires.within
    (resized_asks act c.args.k c.args.name c.args.size c.args.align c.args.block resizes c.if-suits.ensures)
    (rw c.profile.ensures at c.wanted_for-wanted.ensures.wanted) (c.serve.ensures.taken f)
