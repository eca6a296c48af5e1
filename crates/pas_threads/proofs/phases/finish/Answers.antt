use Rattle.std.proofs.Common.{◌≡◌, ◌+◌, ◌∙◌, length, refl, subst, arith, ap, List, []}
use Rattle.pas_threads.proofs.{Common.{with_items_is, so_far, Progress, ClosedSo, MayClose, Session, StandSo, TeamAt, Worker, Team, Whole}, Staging.team_stands}
use Rattle.pas_threads.proofs.{BetweenPhases.{room_at_close, has_closed}, phases.finish.Goals.After-close_all}
use Rattle.pas_threads.proofs.phases.finish.Goals as goal

-- all rest and stand, as they are lent to be closed
may_close : {region s : _} {team : Team} {p : _} (ws : List Worker) (first : Whole) → ws ≡ team.threads.items → TeamAt region s [] team p
    → StandSo s first p.list
    → MayClose region s team.scavenger.pass ws first p
may_close ws first value at stood = rw value (record { rest = at.workers; stand = team_stands at; stood = stood })

module _ (c : After-close_all) where
  -- There are as many workers as before.
  many : length c.close_all.new.threads ≡ length c.args.team.threads.items
  many = c.close_all.ensures.many ∙ ap length c.as_mut_slice-threads.ensures.value

  -- All actors made their acts of the close.
  closed : (s : Session) (p : Progress) → TeamAt c.args.region.now s [] c.args.team p → StandSo s (so_far c.args.ledger.now) p.list
      → ClosedSo c.args.region.now s (s.threads + s.keepers) c.args.team.threads.items c.close_all.new.threads
      (so_far c.args.ledger.now) (so_far c.close_all.new.ledger) p
  closed s p at stood =
      let first = so_far c.args.ledger.now in
      subst (λ ws. ClosedSo c.args.region.now s (s.threads + s.keepers) ws c.close_all.new.threads first (so_far c.close_all.new.ledger) p)
      c.as_mut_slice-threads.ensures.value
      (c.close_all.ensures.closed s p (may_close c.as_mut_slice-threads.result.now first c.as_mut_slice-threads.ensures.value at stood))

pub close_all-requires-clause-few : goal.close_all-requires-clause-few
close_all-requires-clause-few c =
    let at = c.requires.may.2 in
    omega (arith, ap length c.as_mut_slice-threads.ensures.value, at.fit.few_threads, at.workers.many)

pub close_all-requires-clause-may : goal.close_all-requires-clause-may
close_all-requires-clause-may c =
    let m = c.requires.may in
    (m.0, m.1, may_close c.as_mut_slice-threads.result.now (so_far c.args.ledger.now) c.as_mut_slice-threads.ensures.value m.2 m.5)

pub gather-requires : goal.gather-requires
gather-requires c =
    let d = (goal.at.gather-requires c).After-close_all in
    let m = c.requires.may in
    room_at_close m.2 (closed d m.0 m.1 m.2 m.5).closing (many d) c.args.out.now m.4

pub returns : goal.returns
returns c =
    let d = (goal.at.returns c).After-close_all in
    let many_then = c.gather.ensures.many ∙ c.close_all.ensures.many ∙ c.as_mut_slice-threads.ensures.len in
    let last = with_items_is c.args.team.threads c.gather.new.threads many_then in
    record {
      ledger = c.close_all.ensures.of;
      done = λ s p at marked room stood.
          let so = closed d s p at stood in
          rw c.close_all.ensures.scavenger (has_closed at so.closing (many d) c.gather.ensures last refl refl at.places marked so.went);
    }
