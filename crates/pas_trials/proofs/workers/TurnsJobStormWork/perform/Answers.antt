use Rattle.std.proofs.Common.{[], refl, sym, subst}
use Rattle.pas_steps.{specs.Views.View, proofs.Nothing.nothing_yet}
use Rattle.pas_cache.specs.Caches.{cached, AtRest}
use Rattle.pas_shared.specs.Passes.{view_of, seat_of}
use Rattle.pas_trials.proofs.workers.TurnsJobStormWork.perform.Goals as goal

pub run-work-requires : goal.run-work-requires
run-work-requires c =
    let may = c.requires.may in
    let pass = c.args.desk.now.pass in
    let f = (seat_of pass).profile in
    let rest = subst (λ (v : View). AtRest f (cached c.args.work.now.cache) v) (sym may.fresh.no_steps) (may.rest f [] nothing_yet) in
    record { working = record { room_is = may.fresh.room; rest = record { view = view_of pass; whole = []; stood = refl; met = rest }; whole = refl } }
