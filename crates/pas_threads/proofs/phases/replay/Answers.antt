use Rattle.std.proofs.Common.{◌≡◌, ◌+◌, ◌++◌, ◌∙◌, List, [], ◌∷◌, length, drop, ap, arith, map}
use Rattle.pas_threads.proofs.{Common.{length-map, ops_of, Op, at_start, so_far, Session, TeamAt, HasRoom, records_in, Record}, BetweenPhases.AfterPhases}
use Rattle.pas_threads.proofs.BetweenPhases.{BeforePhase, BeforeClose, no_phase, as_next, as_last, spare_for_mark, first_begins, other_begins, phase_ends}
use Rattle.pas_threads.proofs.{BetweenPhases.{close_begins, close_ends}, phases.replay.{Given.Over, Goals.{then-number-gt-UNMARKED, else-number-gt-UNMARKED}}}
use Rattle.pas_threads.proofs.phases.replay.Goals.{After-as_slice, After-push-2}
use Rattle.pas_threads.proofs.phases.replay.Goals as goal

pub loop-phase-init : goal.loop-phase-init
loop-phase-init g c = search (arith, no_phase, length-map)

pub push-requires : goal.push-requires
push-requires g c =
    search (arith, spare_for_mark, as_next)

-- before the operations of a phase: its mark was written from the second one on
module _ (g : Over) (c : After-as_slice g) (s : Session) (at : TeamAt c.args.region.now s (map ops_of c.args.phases.now) c.args.team at_start)
    (room : HasRoom s (map ops_of c.args.phases.now) (length c.args.phases.now + 1) c.args.team.threads.items c.args.out.now at_start) where
  abbrev rest : List (List Op)
  rest = map ops_of (drop (c.loop-phase.phase-index + 1) c.args.phases.now)

  -- What stands after the phase.
  next : AfterPhases c.args.region.now s (map ops_of c.args.phases.now) c.loop-phase.phase-index (c.as_slice.result.now ∷ rest) c.loop-phase.team
      (so_far c.loop-phase.ledger) c.loop-phase.out
  next = as_next c.args.phases.now c.loop-phase.phase-index c.phase-item.result c.as_slice.result.now c.loop-phase-test.true c.phase-item.is c.as_slice.ensures (c.loop-phase.invariant.far s at room)

  -- What stands before the phase.
  begun : BeforePhase c.args.region.now s (map ops_of c.args.phases.now) c.loop-phase.phase-index c.as_slice.result.now rest c.loop-phase.team
      (so_far c.loop-phase.ledger) c.if-number-gt-UNMARKED.out
  begun =
      elim c.if-number-gt-UNMARKED.branch [
        | then-number-gt-UNMARKED w ↦
            let number : c.loop-phase.number + 1 ≡ c.loop-phase.phase-index + 1 = omega (arith, c.loop-phase.invariant.count) in
            let pushed = w.push.ensures.added ∙ ap (λ n. records_in c.loop-phase.out ++ Record.Phase n ∷ []) number in
            rw (w.out-is) (other_begins next (omega (arith, c.loop-phase.invariant.count, w.if-number-gt-UNMARKED.true)) pushed w.push.ensures.size)
        | else-number-gt-UNMARKED w ↦ rw (w.out-is) (first_begins next (omega (arith, c.loop-phase.invariant.count, w.if-number-gt-UNMARKED.false)))
      ]

pub perform_phase-team-requires-clause-may : goal.perform_phase-team-requires-clause-may
perform_phase-team-requires-clause-may g c κs within =
    let st = c.requires.stands in
    let d = (goal.at.perform_phase-team-requires-clause-may g c).After-as_slice in
    let before = begun g d st.0 st.1 st.2 in
    let left = rest g d st.0 st.1 st.2 in
    (st.0, left, length left + 1, before.p, record { team_at = before.team_at; marked = before.marked; room = before.room })

pub loop-phase-preserved : goal.loop-phase-preserved
loop-phase-preserved g c =
    let d = (goal.at.loop-phase-preserved g c).After-as_slice in
    record {
      far = λ s at room.
          let before = begun g d s at room in
          phase_ends c.loop-phase.phase-index before (c.perform_phase-team.ensures.done s (rest g d s at room) (length (rest g d s at room) + 1) before.p
          (record { team_at = before.team_at; marked = before.marked; room = before.room }) before.stand);
      ledger = c.perform_phase-team.ensures.ledger;
      count = ap (λ n. n + 1) c.loop-phase.invariant.count;
    }

pub push-requires-2 : goal.push-requires-2
push-requires-2 g c =
    search (arith, spare_for_mark, as_last)

-- before the stops: the mark of the close was written
closing : (g : Over) (c : After-push-2 g) (s : Session) → TeamAt c.args.region.now s (map ops_of c.args.phases.now) c.args.team at_start
    → HasRoom s (map ops_of c.args.phases.now) (length c.args.phases.now + 1) c.args.team.threads.items c.args.out.now at_start
    → BeforeClose c.args.region.now s (map ops_of c.args.phases.now) c.loop-phase.team (so_far c.loop-phase.ledger) c.push-2.new.self
closing g c s at room = close_begins (as_last c.args.phases.now c.loop-phase.phase-index c.loop-phase-test.false (c.loop-phase.invariant.far s at room)) c.push-2.ensures.added c.push-2.ensures.size

pub finish-requires : goal.finish-requires
finish-requires g c =
    let st = c.requires.stands in
    let before = closing g (goal.at.finish-requires g c).After-push-2 st.0 st.1 st.2 in
    record { ledger = c.loop-phase.invariant.ledger; may = (st.0, before.p, before.team_at, before.marked, before.room, before.stand) }

pub returns : goal.returns
returns g c = record {
  replayed = λ s at room.
      let before = closing g (goal.at.returns g c).After-push-2 s at room in
      close_ends before (c.finish.ensures.done s before.p before.team_at before.marked before.room before.stand);
  ledger = c.finish.ensures.ledger;
}
