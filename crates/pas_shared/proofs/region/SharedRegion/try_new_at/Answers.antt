use Rattle.pas_shared.proofs.Opened.{fresh_are_of}
use Rattle.pas_shared.proofs.region.SharedRegion.try_new_at.Goals as goal

pub returns-clause-of : goal.returns-clause-of
returns-clause-of c =
    fresh_are_of _ _ 0 c.args.rooms.items c.in_ok-passes.passes.items c.in_ok-passes.ensures
