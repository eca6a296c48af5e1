use Rattle.std.proofs.Common.{refl, sym, ◌∙◌}
use Rattle.pas_replay.proofs.{Turning.seat_taken, seats.take_seat.Goals.{then-actor, else-actor}}
use Rattle.pas_replay.proofs.seats.take_seat.Goals as goal

pub returns : goal.returns
returns c =
    let forgot = c.forget.ensures in
    let mid = c.if-actor.desk in
    let passes' = c.if-actor.passes.items in
    elim c.if-actor.branch [
      | then-actor w ↦ seat_taken {mid = mid} {passes' = passes'} c.args.actor (rw (w.desk-is, w.passes-is) w.change_seats.ensures) c.requires.place forgot.region forgot.pass
      | else-actor w ↦
          let here = sym c.actor.ensures ∙ w.if-actor.false in
          seat_taken {mid = mid} {passes' = passes'} c.args.actor (rw (w.desk-is, w.passes-is) (record { region_is = refl; actor_is = here; passes_are = refl })) c.requires.place forgot.region forgot.pass
    ]
