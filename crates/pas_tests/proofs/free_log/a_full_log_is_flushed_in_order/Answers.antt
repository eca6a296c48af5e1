use Rattle.std.proofs.Common.{All, [], sym, subst, arith}
use Rattle.pas_profile.specs.declared.profile.Profile.{Profile}
use Rattle.pas_steps.proofs.Nothing.{nothing_yet}
use Rattle.pas_free_log.specs.{Conditions.IsEntryOf, Logs.entries_in}
use Rattle.pas_plain.proofs.Desks.{start, spare}
use Rattle.pas_tests.proofs.free_log.a_full_log_is_flushed_in_order.Goals as goal

pub flush-requires-clause-entries : goal.flush-requires-clause-entries
flush-requires-clause-entries g c = subst (λ (f : Profile). All (IsEntryOf f) (entries_in c.full_log-log.result))
    (sym c.in_ok-desk.ensures.profile) c.full_log-log.ensures

pub flush-requires-clause-can : goal.flush-requires-clause-can
flush-requires-clause-can g c = record { view = []; whole = []; stood = c.in_ok-desk.ensures.fresh; met = nothing_yet.clear }

pub flush-requires-clause-room : goal.flush-requires-clause-room
flush-requires-clause-room g c =
    let free = spare 64 (start c.in_ok-desk.ensures.fresh c.in_ok-desk.ensures.profile c.in_ok-desk.ensures.room) (omega arith) in
    omega (arith, free, c.len.ensures)
