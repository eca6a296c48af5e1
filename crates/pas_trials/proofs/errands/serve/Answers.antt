use Rattle.std.proofs.Common.{◌+◌, ◌-◌, arith, ◌/◌}
use Rattle.pas_cache.proofs.Routes.{is_small, is_large}
use Rattle.pas_trials.proofs.Going.{room_for_slot, room_for_pages, slot_asked, pages_asked}
use Rattle.pas_trials.proofs.errands.serve.Goals as goal

pub alloc_large-requires-clause-can : goal.alloc_large-requires-clause-can
alloc_large-requires-clause-can g c =
    room_for_pages ((c.args.size + 4096 - 1) / 4096) c.requires.room c.requires.pages (omega (arith, c.requires.admitted.within)) c.requires.can

pub alloc-requires-clause-route : goal.alloc-requires-clause-route
alloc-requires-clause-route g c = is_small _ c.args.size c.args.align c.if-size-gt-MOST_BITFIT.false

pub alloc-requires-clause-can : goal.alloc-requires-clause-can
alloc-requires-clause-can g c = room_for_slot c.requires.room c.requires.pages c.requires.can

pub returns-then-size-gt-MOST_BITFIT-clause-goes : goal.returns-then-size-gt-MOST_BITFIT-clause-goes
returns-then-size-gt-MOST_BITFIT-clause-goes g c =
    pages_asked (c.alloc_large.ensures.allocates.2 c.args.align c.requires.admitted.aligned (is_large _ c.args.size c.args.align c.if-size-gt-MOST_BITFIT.true))

pub returns-else-size-gt-MOST_BITFIT-clause-goes : goal.returns-else-size-gt-MOST_BITFIT-clause-goes
returns-else-size-gt-MOST_BITFIT-clause-goes g c = slot_asked c.alloc.ensures.allocates
