use Rattle.std.proofs.Common.{List, length, ap, sym, subst}
use Rattle.pas_profile.specs.{declared.event.Event.Event, Blocks.grain_of}
use Rattle.pas_steps.proofs.{Called.next_call, SpareRoom.spare_falls}
use Rattle.pas_free_log.{specs.Conditions.{MayEnd, IsRun}, proofs.OneEntry.{came_to, ended_call, entry_ended, entry_refused}}
use Rattle.pas_free_log.proofs.flushing.end_entry.Goals as goal

pub end_logged-outcome-requires-clause-can : goal.end_logged-outcome-requires-clause-can
end_logged-outcome-requires-clause-can g c = let can = c.requires.can in record { view = can.view; whole = can.whole; stood = can.stood; met = can.met.epoch }

pub return_run-requires-clause-can : goal.return_run-requires-clause-can
return_run-requires-clause-can g c = next_call (ended_call (came_to _ c.in-Ended.is c.end_logged-outcome.ensures.ends)) c.requires.can (λ v met q. q.1)

pub return_run-requires-clause-run : goal.return_run-requires-clause-run
return_run-requires-clause-run g c =
    let e = came_to _ c.in-Ended.is c.end_logged-outcome.ensures.ends in
    subst (λ s. IsRun s.profile (grain_of c.args.entry.name) c.in-Ended.grains) (sym e.adds.seat_is) e.of_region

pub returns-in-Ended-clause-ends : goal.returns-in-Ended-clause-ends
returns-in-Ended-clause-ends g c = entry_ended (came_to _ c.in-Ended.is c.end_logged-outcome.ensures.ends) _ (g.met.D.Desk.valid c.args.desk.now) c.return_run.ensures.returns c.large_run.ensures

pub returns-in-Refused-clause-ends : goal.returns-in-Refused-clause-ends
returns-in-Refused-clause-ends g c = entry_refused _ c.in-Refused.read c.end_logged-outcome.result.1 c.requires.entry (came_to _ c.in-Refused.is c.end_logged-outcome.ensures.ends)

-- one event was made
pub returns-in-Ended-clause-spare : goal.returns-in-Ended-clause-spare
returns-in-Ended-clause-spare g c =
    let D = g.D.Desk in let can = c.requires.can in
    let s = entry_ended (came_to _ c.in-Ended.is c.end_logged-outcome.ensures.ends) _ (g.met.D.Desk.valid c.args.desk.now) c.return_run.ensures.returns c.large_run.ensures in
    spare_falls {C = MayEnd} _ _ 1 s.calls.adds can (λ v l stood. g.met.D.Desk.spares c.args.desk.now v l stood) (λ v l stood. g.met.D.Desk.spares c.return_run.new.desk v l stood)
    (ap (λ (es : List Event). length es) (s.event can.view))

pub returns-in-Refused-clause-spare : goal.returns-in-Refused-clause-spare
returns-in-Refused-clause-spare g c =
    let D = g.D.Desk in let can = c.requires.can in
    let s = entry_refused _ c.in-Refused.read c.end_logged-outcome.result.1 c.requires.entry (came_to _ c.in-Refused.is c.end_logged-outcome.ensures.ends) in
    spare_falls {C = MayEnd} _ _ 1 s.calls.adds can (λ v l stood. g.met.D.Desk.spares c.args.desk.now v l stood) (λ v l stood. g.met.D.Desk.spares c.end_logged-outcome.new.desk v l stood)
    (ap (λ (es : List Event). length es) (s.event can.view))
