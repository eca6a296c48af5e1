use Rattle.std.proofs.Common.{◌+◌, sym, subst, arith, Some}
use Rattle.pas_guard.{specs.{Books.guards_in, Raises.Raises}, proofs.Raises.{can_seek, can_guard, room_to_guard, raised, not_raised}}
use Rattle.pas_guard.proofs.book.GuardBook.raise.Goals as goal

pub seek_run-requires-clause-can : goal.seek_run-requires-clause-can
seek_run-requires-clause-can g c = can_seek c.args.heap (c.args.pages + 1) (g.D.Desk.spare_of c.args.desk.now) _ (omega arith) c.requires.can

pub guard_run-block-requires-clause-can : goal.guard_run-block-requires-clause-can
guard_run-block-requires-clause-can g c = can_guard c.args.heap c.args.pages c.in-Some.first _ c.in-Some.ensures.seeks (c.args.pages + 1) _ c.requires.can

pub guard_run-block-requires-clause-room : goal.guard_run-block-requires-clause-room
guard_run-block-requires-clause-room g c = room_to_guard c.args.heap c.args.pages _ _ c.in-Some.ensures.seeks _ _ _ c.requires.can (g.met.D.Desk.spares _) (g.met.D.Desk.spares _)

pub returns-in-Some-clause-raises : goal.returns-in-Some-clause-raises
returns-in-Some-clause-raises g c =
    let before = (g.D.Desk.standing c.args.desk.now) in let after = (g.D.Desk.standing c.guard_run-block.new.desk) in
    subst (λ gs. Raises c.args.heap c.args.pages (guards_in c.args.self.now) gs before after (Some c.guard_run-block.result)) (sym c.push.ensures.added)
    (raised c.args.heap c.args.pages c.in-Some.first _ c.in-Some.ensures.seeks _ c.requires.some c.requires.heap c.guard_run-block.ensures.guards)

pub returns-in-None-clause-raises : goal.returns-in-None-clause-raises
returns-in-None-clause-raises g c = not_raised c.args.heap c.args.pages (guards_in c.args.self.now) c.in-None.ensures.seeks
