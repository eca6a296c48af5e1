use Rattle.pas_large.proofs.{Allocates.{can_give_named, region_named, room_named, can_scan, serves_named, scans_after}, Finds.may_find}
use Rattle.pas_large.proofs.allocating.alloc.Goals as goal

pub give_run-requires-clause-can : goal.give_run-requires-clause-can
give_run-requires-clause-can g c = let names = c.in-Some.ensures.names in can_give_named names.2 (may_find c.requires.can)

pub give_run-requires-clause-region : goal.give_run-requires-clause-region
give_run-requires-clause-region g c = let names = c.in-Some.ensures.names in region_named names.2

pub give_run-requires-clause-room : goal.give_run-requires-clause-room
give_run-requires-clause-room g c = let names = c.in-Some.ensures.names in room_named _ c.args.pages _ names.2 _ _ c.requires.can (g.met.D.Desk.spares _) (g.met.D.Desk.spares _)

pub returns-in-Some-clause-allocates : goal.returns-in-Some-clause-allocates
returns-in-Some-clause-allocates g c = let names = c.in-Some.ensures.names in (names.0, names.1, serves_named c.args.heap c.args.pages _ names.0 g.D.Desk.tells names.2 _ (g.met.D.Desk.valid _) c.requires.heap (λ t v l stood. g.met.D.Desk.told _ v l t stood) (λ t v l stood. g.met.D.Desk.told_part _ v l t stood) c.give_run.ensures.gives)

pub alloc_by_scan-requires-clause-can : goal.alloc_by_scan-requires-clause-can
alloc_by_scan-requires-clause-can g c = let names = c.in-None.ensures.names in can_scan _ c.args.pages _ names.2 _ _ c.requires.can (g.met.D.Desk.spares _) (g.met.D.Desk.spares _)

pub returns-in-None-clause-allocates : goal.returns-in-None-clause-allocates
returns-in-None-clause-allocates g c = let names = c.in-None.ensures.names in (names.0, names.1, scans_after c.args.heap c.args.pages names.0 g.D.Desk.tells names.2 (may_find c.requires.can) (g.met.D.Desk.valid _) c.requires.heap (λ t v l stood. g.met.D.Desk.told _ v l t stood) (λ t v l stood. g.met.D.Desk.told_part _ v l t stood) _ c.alloc_by_scan.ensures.allocates)
