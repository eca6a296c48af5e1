use Rattle.pas_cache.proofs.Obtained.{rests_call, none_shortened, makes_place}
use Rattle.pas_cache.proofs.obtaining.make_place.Goals as goal

pub shorten-requires : goal.shorten-requires
shorten-requires g c = record { can = rests_call _ _ c.leave_spent.ensures.leaves c.requires.can }

pub returns-clause-makes : goal.returns-clause-makes
returns-clause-makes g c = makes_place c.args.heap c.args.class _ _ _ c.leave_spent.ensures.leaves c.shorten.ensures.shortens

pub returns-clause-none : goal.returns-clause-none
returns-clause-none g c = none_shortened c.leave_spent.ensures.leaves.change c.shorten.ensures.shortens.change
