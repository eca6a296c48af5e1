use Rattle.std.proofs.Common.{refl, arith}
use Rattle.pas_steps.proofs.Adding.{adds_none, can_step}
use Rattle.pas_trials.proofs.ByRooms.{reads, ends, of_region, may_end, has_room}
use Rattle.pas_trials.proofs.sizing.end_by_rooms.Goals as goal

pub look-requires-clause-can : goal.look-requires-clause-can
look-requires-clause-can g c = can_step adds_none c.requires.can tt (λ v l stood met. tt)

pub end_sized-requires-clause-can : goal.end_sized-requires-clause-can
end_sized-requires-clause-can g c = may_end (reads c.look.ensures.makes) c.requires.can (of_region _ 48 (g.met.D.Desk.valid c.args.desk.now) (omega arith) (omega arith) refl)

pub end_sized-requires-clause-room : goal.end_sized-requires-clause-room
end_sized-requires-clause-room g c = search (arith, has_room, reads)

pub end_sized-requires-2-clause-can : goal.end_sized-requires-2-clause-can
end_sized-requires-2-clause-can g c = may_end (ends (reads c.look.ensures.makes) c.end_sized.ensures.makes) c.requires.can (of_region _ 32 (g.met.D.Desk.valid c.args.desk.now) (omega arith) (omega arith) refl)

pub end_sized-requires-2-clause-room : goal.end_sized-requires-2-clause-room
end_sized-requires-2-clause-room g c = search (arith, has_room, ends, reads)

pub end_sized-requires-3-clause-can : goal.end_sized-requires-3-clause-can
end_sized-requires-3-clause-can g c = search (arith, may_end, ends, reads)

pub end_sized-requires-3-clause-room : goal.end_sized-requires-3-clause-room
end_sized-requires-3-clause-room g c =
    search (arith, has_room, ends, reads)
