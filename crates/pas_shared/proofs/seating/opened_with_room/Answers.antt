use Rattle.pas_shared.proofs.FreshPasses.{fresh_passes}
use Rattle.pas_shared.proofs.seating.opened_with_room.Goals as goal

pub returns-clause-passes : goal.returns-clause-passes
returns-clause-passes c = fresh_passes c.in_ok-region.region c.args.events 0 _ _ c.in_ok-region.ensures.passes c.in_ok-rooms.ensures.size
