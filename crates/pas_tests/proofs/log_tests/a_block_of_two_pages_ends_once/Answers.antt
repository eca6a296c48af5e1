use Rattle.std.proofs.Common.{All, sym, subst}
use Rattle.pas_profile.specs.declared.profile.Profile.{Profile}
use Rattle.pas_free_log.specs.{Conditions.IsEntryOf, Logs.entries_in}
use Rattle.pas_tests.proofs.log_tests.a_block_of_two_pages_ends_once.Goals as goal

pub flush-requires-clause-entries : goal.flush-requires-clause-entries
flush-requires-clause-entries g c = subst (λ (f : Profile). All (IsEntryOf f) (entries_in c.logged-log.result))
    (sym c.give.ensures.profile) c.logged-log.ensures.entries

-- the desk stands for its view with the steps of the flush added
pub closed-requires-clause-stands : goal.closed-requires-clause-stands
closed-requires-clause-stands g c = let can = c.give.ensures.clear in (_, _, c.flush.ensures.flushes.calls.adds.added can.view can.whole can.stood can.met)
