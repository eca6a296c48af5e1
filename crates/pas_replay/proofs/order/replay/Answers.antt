use Rattle.std.proofs.Common.{append-nil, append_assoc, ◌≡◌, ◌+◌, ◌≤◌, ◌++◌, ◌∙◌, ℕ, List, [], ◌∷◌, length, Option, MatchOption, refl, sym, subst, ap, arith}
use Rattle.std.proofs.Common.{drop, map, ◌<◌, get_or}
use Rattle.pas_replay.proofs.Common.{Op, Act, MarksPhase, Wakes, Ends, Lowers, acts_of_ops, numbers_from, phase_acts, is_active, unlined, without_lines, Replay}
use Rattle.pas_replay.proofs.Common.{Left, Session, SoFarAt, hand_of, session, telling, upon, Begins, Between, left_between, awake_in, idle_in, acts_left}
use Rattle.pas_replay.proofs.{Common.{is_set, records_in, room_of, Records, Record}, Turning.may_sit, order.replay.{Given.Over, Goals.then-number-gt-UNMARKED}}
use Rattle.pas_replay.proofs.{order.replay.Goals.{else-number-gt-UNMARKED, After-push-2, After-active_in-awake}, InOrder.{as_hand, after_mark, wakes_first}}
use Rattle.pas_replay.proofs.InOrder.{as_between, can_show, close_next, mark_next, marked, as_told, taken_on, wakes_next, list_at, list_in, same_active}
use Rattle.pas_acts.proofs.ActsLeft.{first_phase, other_phase, next_list, no_list}
use Rattle.pas_replay.proofs.order.replay.Goals as goal

pub sit-desk-requires-clause-may : goal.sit-desk-requires-clause-may
sit-desk-requires-clause-may g c = let at = c.requires.so_far.3.1.1 in may_sit at.profile_is at.stands (at.each 0 (omega arith))

pub loop-phase-init : goal.loop-phase-init
loop-phase-init g c =
    let s = session c.sit-desk.result c.sit-desk.new.actors c.args.names.now c.args.out.now in
    record {
      told = [];
      took = g.met.T.Takes.nothing c.args.taker.now;
      far = λ lists same r begins. as_told g.T.Takes.waits r _ s (sym (append-nil r.told)) (as_between g.T.Takes.waits r s begins.0
          ((c.sit-desk.ensures.taken, as_hand (c.sit-desk.ensures.hand c.args.names.now c.args.out.now) begins.1), begins.2));
      count = refl;
      threads = ap (λ v. length v.items) c.sit-desk.ensures.caches;
    }

pub push-requires : goal.push-requires
push-requires g c =
    let so0 = c.requires.so_far in
    let at = c.loop-phase.invariant in
    let i = c.loop-phase.phase-index in
    let r = telling so0.2 at.told in
    let s = session c.loop-phase.desk c.loop-phase.actors c.loop-phase.names c.loop-phase.out in
    let lt : i < length so0.0 = omega (arith, c.loop-phase-test.true, list_in g.P.Operations.ops c.args.phases.now so0.0 so0.1) in
    let far = as_between g.T.Takes.waits r s (next_list r.threads r.keepers so0.0 i lt ∙ other_phase r.threads r.keepers i (get_or so0.0 i [])
    (drop (i + 1) so0.0) (omega (arith, at.count, c.if-number-gt-UNMARKED.true))) (at.far so0.0 so0.1 so0.2 so0.3) in
    let spare = (mark_next g.T.Takes.waits r s _ (MarksPhase (i + 1)) refl far).1.1.spare in
    omega (arith, spare)

-- ---- a phase begins
-- what is there before a phase: from the second one on its mark was said
module _ (g : Over) (c : After-active_in-awake g) (lists : List (List Op)) (same : map g.P.Operations.ops c.args.phases.now ≡ without_lines lists) (r : Replay)
    (begins : Begins g.T.Takes.waits lists r (hand_of c.args.region c.args.actors.now c.args.names.now c.args.out.now))
  where
    abbrev waits : Option ℕ
    waits = g.T.Takes.waits

    -- what was handed on before it
    abbrev so_far : List Record
    so_far = c.loop-phase.invariant.told

    abbrev before : Session
    before = session c.loop-phase.desk c.loop-phase.actors c.loop-phase.names c.loop-phase.out

    abbrev now : Session
    now = session c.loop-phase.desk c.loop-phase.actors c.loop-phase.names c.if-number-gt-UNMARKED.out

    -- its operations, the acts of the phases after it, and all but that its threads wake
    abbrev ops : List Op
    ops = get_or lists c.loop-phase.phase-index []

    abbrev later : List Act
    later = acts_left r.threads r.keepers (c.loop-phase.phase-index + 1) (drop (c.loop-phase.phase-index + 1) lists)

    abbrev awoken : List Act
    awoken = acts_of_ops (idle_in c.active_in-awake.result r.threads) ops ++ later

    -- The replay is between two phases.
    far : Between waits (telling r so_far) (acts_left r.threads r.keepers c.loop-phase.phase-index (ops ∷ drop (c.loop-phase.phase-index + 1) lists)) before
    far = search (arith, length, list_in, as_between, next_list)

    -- its operations are those of the list but for their lines, and so its threads are those that have one there
    as_listed : g.P.Operations.ops c.phase-item.result ≡ map unlined ops
    as_listed = list_at g.P.Operations.ops c.args.phases.now lists c.loop-phase.phase-index c.phase-item.result same c.loop-phase-test.true c.phase-item.is

    active : (k : ℕ) → is_set c.active_in-awake.result k ≡ is_active ops k
    active k = c.active_in-awake.ensures k ∙ ap (λ (os : List Op). is_active os k) as_listed ∙ same_active ops k

    -- The acts of the phase are begun.
    begun : SoFarAt (telling r so_far) (left_between waits r (phase_acts r.threads ops ++ later)) now
    begun =
        let i = c.loop-phase.phase-index in
        let count = c.loop-phase.invariant.count in
        let rest = drop (i + 1) lists in
        let Begun : Records → Type 0 = λ out. SoFarAt (telling r so_far) (left_between waits r (phase_acts r.threads ops ++ later)) (session c.loop-phase.desk c.loop-phase.actors c.loop-phase.names out) in
        elim c.if-number-gt-UNMARKED.branch [
          | then-number-gt-UNMARKED w ↦
              let number : c.loop-phase.number + 1 ≡ i + 1 = omega (arith, count) in
              let pushed = w.push.ensures.added ∙ ap (λ (n : ℕ). records_in c.loop-phase.out ++ Record.Phase n ∷ []) number in
              subst Begun (sym w.out-is) (marked waits (telling r so_far) before (phase_acts r.threads ops ++ later) (i + 1) w.push.new.self (as_between waits (telling r so_far) before (other_phase r.threads r.keepers i ops rest (omega (arith, count, w.if-number-gt-UNMARKED.true))) far) pushed w.push.ensures.size)
          | else-number-gt-UNMARKED w ↦ subst Begun (sym w.out-is) (as_between waits (telling r so_far) before
              (first_phase r.threads r.keepers i ops rest (omega (arith, count, w.if-number-gt-UNMARKED.false))) far).0
        ]

    module _ (first : List Record) (out : Records) (parts : records_in c.if-number-gt-UNMARKED.out ≡ first ++ records_in out)
        (size : room_of out ≡ room_of c.if-number-gt-UNMARKED.out) (few : MatchOption waits (Unit {0}) (λ most. length (records_in out) ≤ most)) where
      abbrev taken : Session
      taken = session c.loop-phase.desk c.loop-phase.actors c.loop-phase.names out

      -- the taker took the first ones, and its threads wake next
      woken : Between waits (telling r (so_far ++ first)) (map Wakes (awake_in c.active_in-awake.result r.threads) ++ awoken) taken
      woken = as_between waits (telling r (so_far ++ first)) taken (wakes_first r.threads c.active_in-awake.result ops later active)
          (taken_on waits r _ now c.loop-phase.out so_far first out parts size few (c.loop-phase.invariant.far lists same r begins).1 begun)

      -- The record of the phase was written before its acts.
      waking : SoFarAt (telling r (so_far ++ first)) (upon r (map Wakes (awake_in c.active_in-awake.result r.threads)) (left_between waits r awoken)) taken
      waking = wakes_next waits (telling r (so_far ++ first)) taken (awake_in c.active_in-awake.result r.threads) awoken woken

pub take-requires : goal.take-requires
take-requires g c = let so0 = c.requires.so_far in record { shown = can_show (begun g (goal.at.take-requires g c).After-active_in-awake so0.0 so0.1 so0.2 so0.3).1 }

pub wake_all-requires-clause-so_far : goal.wake_all-requires-clause-so_far
wake_all-requires-clause-so_far g c =
    let d = (goal.at.wake_all-requires-clause-so_far g c).After-active_in-awake in
    let so0 = c.requires.so_far in
    let first = c.take.ensures.taken in
    let more = left_between g.T.Takes.waits so0.2 (awoken g d so0.0 so0.1 so0.2 so0.3) in
    let may = waking g d so0.0 so0.1 so0.2 so0.3 first.0 c.take.new.out first.1 c.take.ensures.size c.take.ensures.few in
    (c.loop-phase.names, c.take.new.out, (telling so0.2 (c.loop-phase.invariant.told ++ first.0), more, may))

pub perform_all-requires-clause-so_far : goal.perform_all-requires-clause-so_far
perform_all-requires-clause-so_far g c =
    let d = (goal.at.perform_all-requires-clause-so_far g c).After-active_in-awake in
    let so0 = c.requires.so_far in
    let first = c.take.ensures.taken in
    let r = telling so0.2 (c.loop-phase.invariant.told ++ first.0) in
    let woke = c.wake_all.ensures.so_far c.loop-phase.names _ r _ (waking g d so0.0 so0.1 so0.2 so0.3 first.0 _ first.1 c.take.ensures.size c.take.ensures.few) in
    let few = (woken g d so0.0 so0.1 so0.2 so0.3 first.0 c.take.new.out first.1 c.take.ensures.size c.take.ensures.few).1 in
    (ops g d so0.0 so0.1 so0.2 so0.3, as_listed g d so0.0 so0.1 so0.2 so0.3, (r, later g d so0.0 so0.1 so0.2 so0.3, (woke, few)))

pub loop-phase-preserved : goal.loop-phase-preserved
loop-phase-preserved g c =
    let d = (goal.at.loop-phase-preserved g c).After-active_in-awake in
    let at = c.loop-phase.invariant in
    let first = c.take.ensures.taken in
    let done = c.perform_all.ensures.so_far in
    let after = session c.perform_all.new.desk c.perform_all.new.actors c.perform_all.new.names c.perform_all.new.out in
    record {
      told = (at.told ++ first.0) ++ done.0;
      took = g.met.T.Takes.both _ _ _ (at.told ++ first.0) done.0 (g.met.T.Takes.both _ _ _ at.told first.0 at.took first.2) done.1;
      far = λ lists same r begins.
          let q = telling r (at.told ++ first.0) in
          let more = later g d lists same r begins in
          let woke = c.wake_all.ensures.so_far c.loop-phase.names _ q _ (waking g d lists same r begins first.0 _ first.1 c.take.ensures.size c.take.ensures.few) in
          let few = (woken g d lists same r begins first.0 c.take.new.out first.1 c.take.ensures.size c.take.ensures.few).1 in
          as_told g.T.Takes.waits r more after (append_assoc r.told (at.told ++ first.0) done.0)
          (done.2 (ops g d lists same r begins) (as_listed g d lists same r begins) q more (woke, few));
      count = ap (λ n. n + 1) at.count;
      threads = c.perform_all.ensures.threads ∙ c.wake_all.ensures.threads ∙ at.threads;
    }

-- ---- the close
pub push-requires-2 : goal.push-requires-2
push-requires-2 g c = search (arith, length, list_in, far, as_between, no_list, mark_next)

module _ (g : Over) (c : After-push-2 g) (lists : List (List Op)) (same : map g.P.Operations.ops c.args.phases.now ≡ without_lines lists) (r : Replay)
    (begins : Begins g.T.Takes.waits lists r (hand_of c.args.region c.args.actors.now c.args.names.now c.args.out.now)) where
  -- the last sweeps are left then
  abbrev sweeping : Left
  sweeping = upon r (map Lowers (numbers_from (r.threads + 1) r.keepers)) (left_between g.T.Takes.waits r [])

  -- The acts of the end are begun.
  closes : SoFarAt (telling r c.loop-phase.invariant.told) (upon r (map Ends (numbers_from 1 r.threads)) sweeping)
      (session c.loop-phase.desk c.loop-phase.actors c.loop-phase.names c.push-2.new.self)
  closes =
      let waits = g.T.Takes.waits in
      let at = c.loop-phase.invariant in
      let s = session c.loop-phase.desk c.loop-phase.actors c.loop-phase.names c.loop-phase.out in
      let past_all : length lists ≤ c.loop-phase.phase-index = omega (arith, c.loop-phase-test.false, list_in g.P.Operations.ops c.args.phases.now lists same) in
      let far = as_between waits _ s (no_list r.threads r.keepers lists c.loop-phase.phase-index past_all) (at.far lists same r begins) in
      after_mark c.push-2.new.self Record.Close (close_next waits (telling r at.told) s far) (λ p. refl) refl (λ limit asked fit. fit) (λ indexes p q is. (refl, tt)) c.push-2.ensures.added c.push-2.ensures.size

pub stop_all-requires-clause-so_far : goal.stop_all-requires-clause-so_far
stop_all-requires-clause-so_far g c =
    let so0 = c.requires.so_far in
    let d = (goal.at.stop_all-requires-clause-so_far g c).After-push-2 in
    (c.loop-phase.names, (telling so0.2 c.loop-phase.invariant.told, sweeping g d so0.0 so0.1 so0.2 so0.3, closes g d so0.0 so0.1 so0.2 so0.3))

pub lower_all-requires-clause-books : goal.lower_all-requires-clause-books
lower_all-requires-clause-books g c =
    let so0 = c.requires.so_far in
    let d = (goal.at.lower_all-requires-clause-books g c).After-push-2 in
    let stopped = c.stop_all.ensures.so_far c.loop-phase.names (telling so0.2 c.loop-phase.invariant.told) _ (closes g d so0.0 so0.1 so0.2 so0.3) in
    omega (arith, so0.3.1.1.kept, so0.3.1.1.many, stopped.1.1.kept, stopped.1.1.many, c.requires.books)

pub lower_all-requires-clause-so_far : goal.lower_all-requires-clause-so_far
lower_all-requires-clause-so_far g c =
    let so0 = c.requires.so_far in
    let d = (goal.at.lower_all-requires-clause-so_far g c).After-push-2 in
    let stopped = c.stop_all.ensures.so_far c.loop-phase.names (telling so0.2 c.loop-phase.invariant.told) _ (closes g d so0.0 so0.1 so0.2 so0.3) in
    (c.loop-phase.names, telling so0.2 c.loop-phase.invariant.told, left_between g.T.Takes.waits so0.2 [], stopped)

pub rise-requires : goal.rise-requires
rise-requires g c =
    let so0 = c.requires.so_far in
    let d = (goal.at.rise-requires g c).After-push-2 in
    let stopped = c.stop_all.ensures.so_far c.loop-phase.names (telling so0.2 c.loop-phase.invariant.told) _ (closes g d so0.0 so0.1 so0.2 so0.3) in
    (c.lower_all.ensures.so_far c.loop-phase.names (telling so0.2 c.loop-phase.invariant.told) (left_between g.T.Takes.waits so0.2 []) stopped).0

pub returns-clause-so_far : goal.returns-clause-so_far
returns-clause-so_far g c =
    let at = c.loop-phase.invariant in (
      at.told,
      at.took,
      λ lists same r begins.
          let d = (goal.at.returns-clause-so_far g c).After-push-2 in
          let stopped = c.stop_all.ensures.so_far c.loop-phase.names (telling r at.told) (sweeping g d lists same r begins) (closes g d lists same r begins) in
          as_hand (c.rise.ensures.hand c.loop-phase.names c.lower_all.new.out) (c.lower_all.ensures.so_far c.loop-phase.names (telling r at.told) _ stopped).1,
    )

pub returns-clause-empty : goal.returns-clause-empty
returns-clause-empty g c = rw (c.rise.ensures.caches, c.lower_all.ensures.caches) c.stop_all.ensures.empty

pub returns-clause-lowered : goal.returns-clause-lowered
returns-clause-lowered g c = rw c.rise.ensures.books c.lower_all.ensures.lowered
