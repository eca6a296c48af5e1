use Rattle.pas_large.proofs.{Allocates.{can_give_run, room_to_give_run, allocates, refuses_large}, Finds.may_find}
use Rattle.pas_large.proofs.allocating.alloc_by_scan.Goals as goal

pub give_run-requires-clause-can : goal.give_run-requires-clause-can
give_run-requires-clause-can g c = can_give_run c.in-Some.ensures.finds (may_find c.requires.can)

pub give_run-requires-clause-room : goal.give_run-requires-clause-room
give_run-requires-clause-room g c = room_to_give_run c.in-Some.ensures.finds _ _ c.requires.can (g.met.D.Desk.spares c.args.desk.now) (g.met.D.Desk.spares _)

pub returns-in-Some-clause-allocates : goal.returns-in-Some-clause-allocates
returns-in-Some-clause-allocates g c = allocates c.args.heap c.args.pages c.in-Some.first g.D.Desk.tells c.in-Some.ensures.finds _ c.give_run.ensures.gives

pub returns-in-None-clause-allocates : goal.returns-in-None-clause-allocates
returns-in-None-clause-allocates g c = refuses_large c.args.heap _ _ c.in-None.ensures.finds _ (g.met.D.Desk.valid _) c.requires.heap (λ t v l stood. g.met.D.Desk.told _ v l t stood)
    (λ t v l stood. g.met.D.Desk.told_part _ v l t stood) c.refuse.ensures.refuses
