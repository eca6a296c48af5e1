use Rattle.std.proofs.Common.{arith, ◌+◌, ◌≤◌, ◌∙◌, ◌∷◌, ◌≡◌, ℕ, List, length, ap, sym, refl, subst}
use Rattle.pas_threads.proofs.Common.{with_items_is, all_ops, own_records, Op, records_in, room_of, so_far, looks_of, Progress, planned, Session, TeamAt}
use Rattle.pas_threads.proofs.{Common.{ActorsStand, said_by_all, said_by_keepers, WereGathered, Team, sound_front, below_front}, TakingTurns.WereTaken}
use Rattle.pas_threads.proofs.{Staging.team_stands, phases.perform_phase.{Given.Over, Goals.{After-note, After-gather, After-take_all}}, ReadyPhases.HasBegun}
use Rattle.pas_threads.proofs.{ReadyPhases.{settled_team, begun_as, begun_stands, woke_stands}, PhaseTeams.{may_append, gather_fits, may_take, reached}}
use Rattle.pas_threads.proofs.PhaseTeams.{phase_team, phase_went, phase_done}
use Rattle.pas_shared.proofs.Ruling.{first_earlier}
use Rattle.pas_threads.proofs.phases.perform_phase.Goals as goal

pub wake_all-requires-clause-rest : goal.wake_all-requires-clause-rest
wake_all-requires-clause-rest g c =
    let m = c.requires.may in
    let later : ℕ → ℕ = λ k. own_records (planned m.0) k (all_ops (c.args.ops.now ∷ m.1)) in
    (m.0.profile, later, m.3, rw c.as_mut_slice-threads.ensures.value m.4.team_at.workers.threads)

pub settle-requires-clause-stand : goal.settle-requires-clause-stand
settle-requires-clause-stand g c =
    let m = c.requires.may in
    let stands = woke_stands c.active-awake.result c.args.ops.now m.1 m.4.team_at c.as_mut_slice-threads.ensures.value c.wake_all.ensures.woke
    c.wake_all.ensures.many in
    (m.0, stands.0, stands.1)

pub note-requires-clause-below : goal.note-requires-clause-below
note-requires-clause-below g c = let m = c.requires.may in below_front _ c.args.ops.now (all_ops m.1) m.4.team_at.names.below

pub note-requires-clause-sound : goal.note-requires-clause-sound
note-requires-clause-sound g c =
    search (arith, sound_front)

-- ---- the hands
module _ (g : Over) (c : After-note g) where
  -- the team before the operations
  abbrev team1 : Team
  team1 = settled_team c.args.team c.settle.new.threads c.settle.new.scavenger c.note.new.self

  -- the threads read the epoch and the names are noted: all hands are ready
  begun : {s : Session} {rest : List (List Op)} {p : Progress} → TeamAt c.args.region.now s (c.args.ops.now ∷ rest) c.args.team p
      → HasBegun c.args.region.now s c.active-awake.result c.args.ops.now rest c.args.team team1 p
  begun {rest = rest} at =
      begun_as c.args.ops.now rest at c.as_mut_slice-threads.ensures.value c.as_mut_slice-threads.ensures.len c.wake_all.ensures.woke c.wake_all.ensures.many
      c.settle.ensures.same c.settle.ensures.scavenger c.note.ensures.names c.note.ensures.placed

pub perform_and_hear-team-requires-clause-ready : goal.perform_and_hear-team-requires-clause-ready
perform_and_hear-team-requires-clause-ready g c κs within =
    let m = c.requires.may in
    let begun = begun g (goal.at.perform_and_hear-team-requires-clause-ready g c).After-note m.4.team_at in
    (m.0, _, _, begun.woke.turns.came.reached, begun.ready)

-- ---- what is gathered
pub append-requires : goal.append-requires
append-requires g c =
    let m = c.requires.may in
    let begun = begun g (goal.at.append-requires g c).After-note m.4.team_at in
    let heard = c.perform_and_hear-team.ensures.done m.0 _ _ begun.woke.turns.came.reached begun.ready in
    may_append c.args.ops.now m.1 m.4.team_at begun heard.done m.2 c.args.out.now m.4.room

pub gather-requires : goal.gather-requires
gather-requires g c =
    let m = c.requires.may in
    let out = c.append.new.self in
    let begun = begun g (goal.at.gather-requires g c).After-note m.4.team_at in
    let heard = c.perform_and_hear-team.ensures.done m.0 _ _ begun.woke.turns.came.reached begun.ready in
    subst (λ ws. length (records_in out) + (length (said_by_all ws) + length (said_by_keepers ws)) ≤ room_of out) (sym c.as_mut_slice-workers.ensures.value)
    (gather_fits c.args.ops.now m.1 m.4.team_at begun heard.done m.2 c.args.out.now m.4.room out c.append.ensures.added c.append.ensures.size)

module _ (g : Over) (c : After-gather g) where
  -- The records of the threads and the keepers were gathered.
  own : WereGathered c.perform_and_hear-team.result.threads.items c.gather.new.threads c.append.new.self c.gather.new.out
  own = subst (λ ws. WereGathered ws c.gather.new.threads c.append.new.self c.gather.new.out) c.as_mut_slice-workers.ensures.value c.gather.ensures

pub take_all-requires : goal.take_all-requires
take_all-requires g c =
    let m = c.requires.may in
    let at = goal.at.take_all-requires g c in
    let begun = begun g at.After-note m.4.team_at in
    let heard = c.perform_and_hear-team.ensures.done m.0 _ _ begun.woke.turns.came.reached begun.ready in
    may_take c.args.ops.now m.1 m.4.team_at begun heard.done (own g at.After-gather)

-- ---- the team behind it
module _ (g : Over) (c : After-take_all g) where
  abbrev team2 : Team
  team2 = c.perform_and_hear-team.result

  abbrev team3 : Team
  team3 = settled_team team2 c.take_all.new.workers (record team2.scavenger { out = c.append.new.other }) c.take_all.new.book

  -- The workers once their blocks were taken over.
  items : team3.threads.items ≡ c.take_all.new.workers
  items = with_items_is team2.threads c.take_all.new.workers (c.take_all.ensures.many ∙ c.gather.ensures.many ∙ c.as_mut_slice-workers.ensures.len)

  -- The blocks of all workers were taken over into the book.
  taken : WereTaken c.gather.new.threads team3.threads.items team2.book team3.book
  taken = rw items (record { taken = c.take_all.ensures.taken; held = c.take_all.ensures.held; each = c.take_all.ensures.each; many = c.take_all.ensures.many })

pub settle-requires-2-clause-stand : goal.settle-requires-2-clause-stand
settle-requires-2-clause-stand g c =
    let m = c.requires.may in
    let at = goal.at.settle-requires-2-clause-stand g c in
    let begun = begun g at.After-note m.4.team_at in
    let done = (c.perform_and_hear-team.ensures.done m.0 _ _ begun.woke.turns.came.reached begun.ready).done in
    let d = at.After-take_all in
    let then = phase_team c.args.ops.now m.1 m.4.team_at begun done (own g at.After-gather) (team3 g d) (taken g d) c.append.new.other c.append.ensures.none
    c.append.ensures.other_size refl done.places in
    let end = reached c.args.ops.now m.1 m.4.team_at begun done in
    (m.0, end.list, subst (λ ws. ActorsStand c.args.region.now m.0 (team3 g d).scavenger.pass ws end.list) (items g d) (team_stands then))

pub returns : goal.returns
returns g c =
    let a = goal.at.returns g c in
    let d = a.After-take_all in
    let own = own g a.After-gather in
    let taken = taken g d in
    let team3 = team3 g d in
    record {
      ledger = c.settle-2.ensures.of;
      done = λ s rest marks p whole stood.
          let at = whole.team_at in
          let ops = c.args.ops.now in
          let region = c.args.region.now in
          let begun = begun g a.After-note at in
          let q = begun.woke.turns.came.reached in
          let heard = c.perform_and_hear-team.ensures.done s _ _ q begun.ready in
          let done = heard.done in
          let end = reached ops rest at begun done in
          let then = phase_team ops rest at begun done own team3 taken c.append.new.other c.append.ensures.none c.append.ensures.other_size refl done.places in
          let many = ap length c.settle.ensures.same ∙ c.wake_all.ensures.many ∙ c.as_mut_slice-threads.ensures.len in
          let woken = with_items_is c.args.team.threads c.settle.new.threads many ∙ c.settle.ensures.same in
          let midway = c.settle.ensures.stand s q.list
          (subst (λ ws. ActorsStand region s c.args.team.scavenger.pass ws q.list) woken (begun_stands ops rest at begun)) in
          let stand = c.settle-2.ensures.stand s end.list
          (subst (λ ws. ActorsStand region s team3.scavenger.pass ws end.list) (items g d) (team_stands then)) in
          let each = c.settle-2.ensures.settled.each in
          let second = first_earlier (looks_of c.settle.new.ledger) (so_far c.settle-2.new.ledger)
          (c.perform_and_hear-team.ensures.saw (so_far c.settle-2.new.ledger) each) in
          let went = phase_went ops rest at begun heard c.active-awake.ensures c.settle.ensures.settled.earlier second stood midway stand each in
          rw (c.settle-2.ensures.same, c.settle-2.ensures.scavenger) (phase_done ops rest at begun done marks c.args.out.now whole.room
          c.append.new.self c.append.ensures.added c.append.ensures.size own c.active-awake.ensures whole.marked team3 taken then went);
    }
