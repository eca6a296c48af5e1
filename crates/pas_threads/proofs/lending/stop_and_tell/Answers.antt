use Rattle.std.proofs.Common.{◌∙◌, ◌++◌, ◌∷◌, [], true, false, refl, ap}
use Rattle.pas_steps.specs.Desks.{Seat}
use Rattle.pas_threads.proofs.{Common.{records_in, Record}, TakingTurns.pushed_none}
use Rattle.pas_records.specs.declared.record.Said.{Said}
use Rattle.pas_threads.proofs.lending.stop_and_tell.Goals as goal

pub stop_if_idle-requires : goal.stop_if_idle-requires
stop_if_idle-requires g c = record { stands = c.requires.rests }

pub returns-then-stop_if_idle-clause-stops : goal.returns-then-stop_if_idle-clause-stops
returns-then-stop_if_idle-clause-stops g c = λ f k later p at read.
    let did = c.if-stop_if_idle.ensures.stops f k later p at read in
    let mine = c.actor.ensures ∙ ap (λ (s : Seat). s.actor) did.moves.calls.adds.seat_is ∙ at.sits.actor in
    (true, did, record { added = c.push.ensures.added ∙ ap (λ j. records_in c.args.out.now ++ Record.Said 0 (Said.Stopped j) ∷ []) mine; room = c.push.ensures.size })

pub returns-else-stop_if_idle-clause-stops : goal.returns-else-stop_if_idle-clause-stops
returns-else-stop_if_idle-clause-stops g c = λ f k later p at read. (false, c.if-stop_if_idle.ensures.stops f k later p at read, pushed_none refl)
