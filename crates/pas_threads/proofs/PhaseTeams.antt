-- A phase of the team: what each worker's share of it is, what all workers did and said is put together, gathered and taken over, and then the team stands
-- before the phases that are left.
use Rattle.std.proofs.Common.{◌≡◌, ℕ, zero, ◌+◌, ◌-◌, ◌<◌, ◌≤◌, true, inl, inr, List, [], ◌++◌, length, refl, ap, sym, ◌∙◌, subst, arith, append-nil, suc, Bool}
use Rattle.std.proofs.Common.{false, ◌∷◌, get_or, Option, All, map, length-append, MatchOption, eqb-true, eq-eqb, ◌⊎◌, true≢false}
use Rattle.std.proofs.lemmas.{List.append_cancel_left, Bool.false_from_ne_true}
use Rattle.pas_threads.proofs.Common.{cases_Bool, cases_lt, Profile, part, Whole, SharedRegion, Ledger, steps_of, IsEarlier, AreEarlier, looks_of, own_records}
use Rattle.pas_threads.proofs.Common.{records_of_ops, all_ops, Op, Act, own_acts, idle_threads, acts_of_ops, is_active, Wakes, phase_acts, keeper_in, own_both}
use Rattle.pas_threads.proofs.Common.{Cached, cached, Progress, owed_events, OnlyAsked, own_costs_of, names_held, Reaches, records_by, by_actors, in_hands}
use Rattle.pas_threads.proofs.Common.{phase_stages, records_both as said_both, reach_both, all_back, for_guards, KeeperWaits, KeptPushed, acts_by, owner_in}
use Rattle.pas_threads.proofs.Common.{IsWoven, NameBook, idle_few, rests_still, sits_still, sound_front, below_front, acts_are_shared, own_thread, owner_of}
use Rattle.pas_threads.proofs.Common.{kept_thread, no_more, owed_kept, keeper_at, AreGuarded, kept_by_worker, Round, ThreadDone, ScavengerDone, HeardOrder}
use Rattle.pas_threads.proofs.Common.{IsHeard, ScavengerRests, WorkerHas, Session, planned, owed_by, HasPlaces, TeamAt, AreMarked, HasRoom, PhaseDone}
use Rattle.pas_threads.proofs.Common.{IsOfActors, StandSo, WentBy, evenly, HandsOver, HasTaken, IsWithin, pair_in, crew_in, owed_at, Came, TookNoPart}
use Rattle.pas_threads.proofs.Common.{said_by_all, said_by_keepers, Pushed, WereGathered, Worker, Keeper, Team, is_set, Mask4, steps_by, records_in, room_of}
use Rattle.pas_threads.proofs.{Common.{Records, Record}, TakingTurns.{IsCleared, WereTaken, cleared, pass_still, same_owed}, Performed.{pair_has, names_then}}
use Rattle.pas_threads.proofs.{Performed.{names_within, in_pair, pair_within, pair_keeps, owned_by, idle_among, among_idle}, Dealt.some_item}
use Rattle.pas_threads.proofs.{Benched.{among_here, among_later, among_cases}, ReadyPhases.{own_costs, scavenger_costs, own_all, all_paid, owed_less, HasBegun}}
use Rattle.pas_threads.proofs.{ReadyPhases.{round_of, room_is, active_front, active_back, owed_pair}, Keepers.{owed_still, will_wait_then, waits_next}}
use Rattle.pas_threads.proofs.{Keepers.{waits_still, owed_gathered, keeper_is, kept_nobody, kept_will, kept_hands, pushed_alike, none_there}, Staging.stand_all}
use Rattle.pas_threads.proofs.{Staging.{of_first, went_both, went_alone, went_sorted, sorted_still, sorted_seen}, BetweenPhases.{AllTold, may_gather}}
use Rattle.pas_threads.{proofs.BetweenPhases.{room_left, written, rest_again}, specs.Performing.IsDone}
use Rattle.pas_trace.{specs.{Acts.active_threads, EveryPhase.FreeTheirOwn}, proofs.EveryPlan.records_both}
use Rattle.pas_answers.specs.Fit.{AreFit}
use Rattle.pas_acts.{specs.Shares.IsShareOf, proofs.{ActsOfPlan.ops_fit, ActsLeft.threads_alike, PhaseActs.zero_own, Weaving.weave}}

-- ---- the team, once all hands did their operations
module _ {region s awake team team1 team2 p : _} (ops : List Op) (rest : List (List Op)) (at : TeamAt region s (ops ∷ rest) team p)
    (begun : HasBegun region s awake ops rest team team1 p) (done : IsDone region (round_of s ops rest team1 begun.woke.turns.came.reached) team1 team2) where
  abbrev f : Profile
  f = s.profile

  abbrev left : List Op
  left = all_ops rest

  abbrev start : Progress
  start = begun.woke.turns.came.reached

  abbrev round_is : Round
  round_is = round_of s ops rest team1 start

  -- What the workers of a phase did, each for itself, is woven into the acts of the phase in the text's order.
  pub woven : IsWoven f (owner_in s.threads ops) (acts_of_ops (idle_threads s.threads ops) ops) at.names.asked start (λ w. (done.pieces w).own.reached)
  woven =
      let names = at.names in
      let limit = names_held team.book.names in
      let acts = acts_of_ops (idle_threads s.threads ops) ops in
      let fit = ops_fit f limit (idle_threads s.threads ops) ops left [] names.below (λ asked sound above. tt) names.asked names.sound names.above in
      let hands = (acts_are_shared f s.threads names.asked ops (sound_front f names.asked ops left names.sound) begun.ready.behind begun.ready.within).0 in
      weave f (owner_in s.threads ops) limit names.asked acts start (λ w. start) (λ w. (done.pieces w).own.reached)
      (subst (AreFit f limit names.asked) (append-nil acts) fit) hands (subst (OnlyAsked names.asked) (sym begun.woke.turns.leaves.names) names.only)
      (λ w. search arith)
      (λ w. (done.pieces w).own.reaches)

  abbrev pub reached : Progress
  reached = woven.reached

  abbrev said : List Record
  said = woven.said

  abbrev acts_in : ℕ → List Act
  acts_in w = acts_by (owner_in s.threads ops) w (acts_of_ops (idle_threads s.threads ops) ops)

  -- what the worker with these hands did, by itself
  abbrev own : (w : ℕ) → Came f (acts_in w) start
  own w = (done.pieces w).own

  -- What an actor in its hands said for itself is what it said in all.
  said_alike : {w : ℕ} (k : ℕ) → owner_in s.threads ops k ≡ w → records_by k (own w).said ≡ records_by k said
  said_alike {w} k is =
      let ours = said_both k start.records (own w).said in
      let all = said_both k start.records said in
      append_cancel_left (records_by k start.records) (records_by k (own w).said) (records_by k said)
      (cc (ours, all, (own w).records_are, woven.records_are, (woven.shares w).records k is))

  -- Nor did one take part in all that took none in what its worker did.
  took_none : {w : ℕ} (k : ℕ) → owner_in s.threads ops k ≡ w → TookNoPart k (own w).said start (own w).reached → TookNoPart k said start reached
  took_none {w} k is none = record { part_is = sym ((woven.shares w).parts k is) ∙ none.part_is; silent = sym (said_alike k is) ∙ none.silent }

  -- ---- a thread and its keeper
  -- Both rested before the phase, and did their operations of it, as the share of their worker has them.
  module _ (i : ℕ) (d : Worker) (lt : i < length team1.threads.items) where
    abbrev k : ℕ
    k = suc i

    abbrev keeper : ℕ
    keeper = s.threads + suc i

    abbrev old : Worker
    old = get_or team1.threads.items i d

    abbrev new : Worker
    new = get_or team2.threads.items i d

    abbrev its_own : Came f (acts_in (owner_in s.threads ops (suc i))) start
    its_own = own (owner_in s.threads ops (suc i))

    abbrev share : IsShareOf (owner_in s.threads ops) (owner_in s.threads ops (suc i)) its_own.reached reached
    share = woven.shares (owner_in s.threads ops (suc i))

    abbrev thread : ThreadDone region round_is k old new its_own.said its_own.reached
    thread = (done.pieces (owner_in s.threads ops (suc i))).threads i d lt refl

    in_hand : owner_in s.threads ops keeper ≡ owner_in s.threads ops k
    in_hand = kept_hands s.threads ops i (omega (arith, begun.workers.many, lt))

    -- What the worker said for its thread in the phase are its own records of what was said.
    has_said : records_in new.out ≡ records_by k said
    has_said = thread.told.added ∙ ap (λ (rs : List Record). rs ++ records_by k its_own.said) (begun.workers.threads i d lt).said ∙ said_alike k refl

    owed_before : owed_at f k start ≡ owed_events f (cached old.cache) (part k start.list)
    owed_before = ap (λ (c : Cached). owed_events f c (part k start.list)) (begun.workers.threads i d lt).here.rests.cache

    -- it rests where the whole phase came to
    has_then : WorkerHas region f k new (round_is.later k) reached
    has_then = record {
      has = thread.stands.has;
      rests = rests_still (pass_still thread.stands.has.pass) (sym (share.parts k refl)) (sym (share.caches k refl)) thread.stands.rests;
    }

    owed_then : owed_at f k reached ≡ owed_events f (cached new.cache) (part k reached.list)
    owed_then = ap (λ (c : Cached). owed_events f c (part k reached.list)) has_then.rests.cache

    -- what it owed before and its operations pay for what it said, and for what it owes afterwards
    has_paid : length (records_by k said) + owed_at f k reached ≤ owed_at f k start + own_records (planned s) k ops
    has_paid =
        let rests = begun.workers.threads i d lt in
        let spare : (round_is.later k).records ≡ room_of old.out - (owed_at f k start + own_costs_of k (own_acts k ops)) =
        ap (λ (n : ℕ). n - (owed_at f k start + own_costs_of k (own_acts k ops))) (room_is team1.threads.items i d lt) in
        let costs = own_costs (planned s) k ops in
        let both = own_both (planned s) k ops left in
        let mine = ap length has_said in
        omega (arith, spare, mine, has_then.rests.spare, owed_then, costs, both, owed_before, rests.here.rests.spare, thread.told.room, ap length rests.said)

    -- So it is of the thread and its keeper together, whichever of the two took part.
    pair_paid : length (records_by k said) + length (records_by keeper said) + (owed_at f k reached + owed_kept f keeper new.keeper reached)
        ≤ owed_at f k start + owed_kept f keeper old.keeper start + own_records (planned s) k ops
    pair_paid =
        let its = ap length (said_alike keeper in_hand) in
        let owes = same_owed f its_own.reached reached k (sym (share.parts k refl)) (sym (share.caches k refl)) in
        let owed = owed_still f keeper new.keeper its_own.reached reached (sym (share.parts keeper in_hand)) in
        elim thread.paid [
          | inl both ↦ omega (arith, ap length (said_alike k refl), its, owes, owed, own_costs (planned s) k ops, both)
          | inr idle ↦ omega (arith, its, owed, ap length idle.0, idle.1, has_paid)
        ]

    -- What it said for both came to the records of each. Both rest with room for the operations that are left.
    own_out : Pushed k said old.out new.out
    own_out = record { added = thread.told.added ∙ ap (λ (rs : List Record). records_in old.out ++ rs) (said_alike k refl); room = thread.told.room }

    kept_out : KeptPushed keeper said (kept_by_worker old.keeper) (kept_by_worker new.keeper)
    kept_out = pushed_alike keeper its_own.said said (kept_by_worker old.keeper) (kept_by_worker new.keeper) (said_alike keeper in_hand) thread.kept_told

    has_left : WorkerHas region f k new (evenly (own_records (planned s) k left)) reached
    has_left =
        let both = own_both (planned s) k ops left in
        let spare = (begun.workers.threads i d lt).here.rests.spare in
        record {
          has = has_then.has;
          rests = record {
            sits = has_then.rests.sits;
            cache = has_then.rests.cache;
            spare = omega (arith, thread.told.room, both, spare, owed_then, ap length has_said, has_paid, owed_before);
          };
        }

    kept_left : KeeperWaits f keeper (own_acts k left) (kept_by_worker new.keeper) no_more reached
    kept_left =
        let will = kept_will k ops left old.keeper (begun.workers.kept i d lt) in
        waits_next f keeper (own_acts k left) (kept_by_worker new.keeper) no_more reached
        (will_wait_then keeper its_own.said (own_acts k left) (kept_by_worker old.keeper) (kept_by_worker new.keeper) thread.kept_told will)
        (waits_still f keeper [] new.keeper (for_guards (own_acts k left) no_more) its_own.reached reached
        (sym (share.parts keeper in_hand)) (sym (share.books keeper in_hand)) thread.waits)

  -- ---- the scavenger
  -- It rested before the phase, and did its operations of it, as the share of its worker has them.
  abbrev crew : ScavengerDone region round_is team1.scavenger team2.scavenger (own 0).said (own 0).reached
  crew = (done.pieces 0).scavenger refl

  -- It is in its own hands.
  scavenger_own : owner_in s.threads ops 0 ≡ 0
  scavenger_own = owner_of s.threads ops 0 0 (own_thread s.threads 0 (omega arith)) ∙ zero_own (is_active ops 0)

  crew_rests : ScavengerRests region f team1.scavenger (own_records (planned s) 0 (ops ++ left)) p
  crew_rests = rw begun.scavenger at.scavenger

  -- What the scavenger said in the phase are its own records of what was said.
  scavenger_said : records_in team2.scavenger.out ≡ records_by 0 said
  scavenger_said = crew.2.added ∙ ap (λ (rs : List Record). rs ++ records_by 0 (own 0).said) crew_rests.said ∙ said_alike 0 scavenger_own

  -- Its operations pay for that.
  scavenger_paid : length (records_by 0 said) ≤ own_records (planned s) 0 ops
  scavenger_paid =
      let costs = scavenger_costs f s.threads (idle_threads s.threads ops) ops (idle_few s.threads ops) in
      let both = own_both (planned s) 0 ops left in
      let mine = ap length scavenger_said in
      omega (arith, mine, crew.1.stands.spare, costs, both, crew_rests.at.stands.spare, crew.2.room, ap length crew_rests.said)

  -- Once what it said is gathered it rests.
  scavenger_after : (out : Records) → records_in out ≡ [] → room_of out ≡ room_of team2.scavenger.out
      → ScavengerRests region f (record team2.scavenger { out = out }) (own_records (planned s) 0 left) reached
  scavenger_after out empty size = record {
    has = crew.0;
    at = record {
      stands = record {
        sits = sits_still (λ v. 0 + own_records (planned s) 0 left) (pass_still crew.0.pass) (sym ((woven.shares 0).parts 0 scavenger_own)) crew.1.stands.sits;
        spare = omega (arith, ap length empty, size, crew.2.room, own_both (planned s) 0 ops left, crew_rests.at.stands.spare);
      };
      has_places = crew.1.has_places;
    };
    said = empty;
    none = done.none;
  }

  -- ---- nobody past the threads and the keepers has an operation, nor a part in the phase
  nobody_kept : (i : ℕ) (d : Worker) → i < length team1.threads.items → s.threads + s.keepers < s.threads + suc i → AreGuarded s.keepers team1.threads.items
      → TookNoPart (s.threads + suc i) said start reached
  nobody_kept i d lt far (true, many, all) = absurd (omega (arith, many, far, lt))
  nobody_kept i d lt far (false, none, all) =
      let away = kept_nobody {r = round_is} (thread i d lt) (none_there (get_or team1.threads.items i d).keeper (all i d lt)) in
      took_none (s.threads + suc i) (in_hand i d lt) record { part_is = away.0; silent = away.1 }

  -- Nobody else is left at the bench once the actor and its keeper rose.
  nobody : (k : ℕ) → s.threads + s.keepers < k → TookNoPart k said start reached
  nobody k far = elim (cases_lt (s.threads + s.threads) k) [
    | inl past ↦
        let its : owner_in s.threads ops k ≡ 0 = search (arith, false_from_ne_true, kept_thread, owner_of) in
        took_none k its (crew.3 k (omega (arith, far)))
    | inr within ↦
        let i = k - s.threads - 1 in
        let back : s.threads + suc i ≡ k = omega (arith, far) in
        let lt : i < length team1.threads.items = omega (arith, begun.workers.many, back, within) in
        rw back at (nobody_kept i (some_item team1.threads.items i lt) lt (omega (arith, far, back)) begun.workers.guarded)
  ]

  -- ---- what is gathered
  -- what a thread and its keeper owed before the phase
  began_with : (i : ℕ) → i < s.threads → owed_pair s team1.threads.items start i ≤ owed_pair s team.threads.items p i
  began_with i lt =
      let less : i < length team.threads.items = omega (arith, lt, at.workers.many) in
      let here : i < length team1.threads.items = omega (arith, lt, begun.workers.many) in
      let d = some_item team.threads.items i less in
      let keeper = s.threads + suc i in
      let due = (begun.woke.turns.stand i d less).paid in
      let same = keeper_is team1.threads.items i d here ∙ (begun.woke.turns.told i d less).keeper ∙ sym (keeper_is team.threads.items i d less) in
      let parts = begun.woke.turns.leaves.parts keeper (λ j before same. omega (arith, before, same, at.workers.many)) in
      omega (arith, due, ap (λ (o : Option Keeper). owed_kept f keeper o start) same ∙ owed_still f keeper (keeper_at team.threads.items i) p start parts)

  -- The records that were said and those still owed fit the room.
  paid : length (records_by 0 said) + length (by_actors 1 s.threads said) + length (by_actors (s.threads + 1) s.threads said)
      + owed_by s team2.threads.items reached s.threads
      ≤ owed_by s team1.threads.items start s.threads + records_of_ops (planned s) ops
  paid =
      let threads = all_paid s ops said team1.threads.items team2.threads.items start reached s.threads (λ i lt.
      let less : i < length team1.threads.items = omega (arith, lt, begun.workers.many) in
      let d = some_item team1.threads.items i less in
      let before = ap (λ (o : Option Keeper). owed_kept f (s.threads + suc i) o start) (keeper_is team1.threads.items i d less) in
      let after = ap (λ (o : Option Keeper). owed_kept f (s.threads + suc i) o reached) (keeper_is team2.threads.items i d (omega (arith, less, done.many))) in
      omega (arith, before, after, pair_paid i d less)) in
      omega (arith, threads, own_all (planned s) ops s.threads, scavenger_paid)

  told : AllTold region s ops left said team1.threads.items team2.threads.items team2.threads.items start reached
  told = record {
    rest = begun.workers;
    many = done.many;
    threads = λ i d lt. record { here = has_left i d lt; out = own_out i d lt };
    keepers = λ i d lt. record { of = (thread i d lt).of; waits = kept_left i d lt; out = kept_out i d lt };
    places = λ i d lt. (thread i d lt).room_noted;
    silent = λ k far. (nobody k far).silent;
    spoken = woven.spoken;
    records_are = woven.records_are;
    paid = paid;
  }

  -- ---- the workers, once all that they said is gathered
  module _ {gathered : List Worker} {out1 out2 : Records} (g : WereGathered team2.threads.items gathered out1 out2) where
    -- There are as many workers as before.
    sized : length gathered ≡ length team1.threads.items
    sized = g.many ∙ done.many

    hands : (i : ℕ) (d : Worker) → i < length gathered → HandsOver f ops team1.book (suc i) (get_or gathered i d).requests reached.names
    hands i d lt =
        let here : i < length team1.threads.items = omega (arith, lt, sized) in
        subst (λ requests. HandsOver f ops team1.book (suc i) requests reached.names) (sym (g.each i d (omega (arith, lt, g.many))).requests)
        ((thread i d here).hands_over (begun.workers.threads i d here).asked reached.names (share i d here).names)

    -- The names that each worker asked for are ones that the book holds, so it may take them.
    pub may_take : All (IsWithin (names_held team2.book.names)) gathered
    may_take i d lt =
        let held = names_held team.book.names in
        let limit : held ≡ names_held team2.book.names = ap names_held (sym (ap (λ (b : NameBook). b.names) done.book ∙ begun.names)) in
        record {
          within = rw (sym limit, (hands i d lt).noted) (names_within held (suc i) ops (below_front held ops left at.names.below));
        }

    module _ (team3 : Team) (t : WereTaken gathered team3.threads.items team2.book team3.book) where
      clear : (i : ℕ) (d : Worker) → i < length team2.threads.items → IsCleared (get_or team2.threads.items i d) (get_or team3.threads.items i d)
      clear i d lt = cleared (g.each i d lt) (t.each i d (omega (arith, lt, g.many)))

      -- each keeper owes what it did before it was gathered
      kept_owed : owed_by s team3.threads.items reached s.threads ≤ owed_by s team2.threads.items reached s.threads
      kept_owed = owed_less s team2.threads.items team3.threads.items reached reached s.threads (λ i lt.
          let less : i < length team2.threads.items = omega (arith, lt, begun.workers.many, done.many) in
          let d = some_item team2.threads.items i less in
          let owed = λ (o : Option Keeper). owed_kept f (s.threads + suc i) o reached in
          let after = ap owed (keeper_is team3.threads.items i d (omega (arith, less, g.many, t.many))) in
          let same = owed_gathered f (s.threads + suc i) (get_or team2.threads.items i d).keeper (get_or team3.threads.items i d).keeper reached (clear i d less).keeper in
          omega (arith, after, ap owed (keeper_is team2.threads.items i d less), same))

      -- The team stands where the whole phase came to.
      pub phase_team : (out : Records) → records_in out ≡ [] → room_of out ≡ room_of team2.scavenger.out
          → team3.scavenger ≡ record team2.scavenger { out = out } → HasPlaces s.threads team3 → TeamAt region s rest team3 reached
      phase_team out empty size same places =
          let names = names_then s.threads ops left team1.book team3.book gathered at.names begun.woke.turns.leaves.names woven begun.names hands
          (λ k on. (let le = at.fit.within k (active_front k ops left on) in omega (arith, le, sized, begun.workers.many)))
          (subst (λ (b : NameBook). HasTaken b team3.book gathered) done.book t.taken) (t.held ∙ ap (λ (b : NameBook). names_held b.names) done.book)
          in
          record {
            fit = record {
              fits = at.fit.fits;
              few_threads = at.fit.few_threads;
              few = omega (arith, at.fit.few, length-append ops left);
              within = λ k on. at.fit.within k (active_back k ops left on);
              behind = all_back (λ op. MatchOption (keeper_in op.what) (Unit {0}) (λ keeper. keeper ≡ s.threads + op.actor)) ops left at.fit.behind;
            };
            workers = rest_again told team3.threads.items (t.many ∙ g.many) clear;
            scavenger = rw same (scavenger_after out empty size);
            nobody = λ k far.
                (nobody k far).part_is ∙ begun.woke.turns.leaves.parts k (λ i lt same. omega (arith, far, at.workers.many, lt, same)) ∙ at.nobody k far;
            names = names.0;
            frees = subst (λ (ns : List ℕ). FreeTheirOwn ns rest) (sym names.1) at.frees.1;
            places = places;
          }

  -- ---- the acts
  woke : ((k : ℕ) → is_set awake k ≡ is_active ops k) → Reaches f (map Wakes (active_threads s.threads ops)) p start
  woke alike =
      search (arith, threads_alike)

  reaches : ((k : ℕ) → is_set awake k ≡ is_active ops k) → Reaches f (phase_acts s.threads ops) p reached
  reaches alike =
      reach_both f (map Wakes (active_threads s.threads ops)) (acts_of_ops (idle_threads s.threads ops) ops) p start reached (woke alike) woven.reaches

  -- ---- the records
  module _ (marks : ℕ) (out : Records) (room : HasRoom s (ops ∷ rest) marks team.threads.items out p) where
    -- there is still as much room after the reads of the epoch
    room_begun : HasRoom s (ops ∷ rest) marks team1.threads.items out start
    room_begun =
        omega (arith, owed_less s team.threads.items team1.threads.items p start s.threads began_with, room)

    -- There is room for what the scavenger said in the phase behind the records.
    pub may_append : length (records_in out) + length (records_in team2.scavenger.out) ≤ room_of out
    may_append =
        omega (arith, ap length scavenger_said, paid, records_both (planned s) ops left, room_begun)

    module _ (out1 : Records) (added : records_in out1 ≡ records_in out ++ records_in team2.scavenger.out) (same : room_of out1 ≡ room_of out) where
      added_own : records_in out1 ≡ records_in out ++ records_by 0 said
      added_own = added ∙ ap (λ (rs : List Record). records_in out ++ rs) scavenger_said

      -- There is room for what all threads and keepers said in the phase behind that.
      pub gather_fits : length (records_in out1) + (length (said_by_all team2.threads.items) + length (said_by_keepers team2.threads.items)) ≤ room_of out1
      gather_fits = may_gather told marks out out1 added_own same room_begun

      module _ {gathered : List Worker} {out2 : Records} (g : WereGathered team2.threads.items gathered out1 out2) where
        -- The phase is done, with the team before the phases left.
        pub phase_done : ((k : ℕ) → is_set awake k ≡ is_active ops k) → AreMarked s p.records (records_in out) → (team3 : Team)
            → WereTaken gathered team3.threads.items team2.book team3.book → TeamAt region s rest team3 reached
            → {before after : Whole} → WentBy s (phase_stages s.threads ops) p reached before after
            → PhaseDone region s ops rest marks team3 out out2 before after p
        phase_done alike marked team3 t then went =
            let records : start.records ≡ p.records =
            begun.woke.turns.came.records_are ∙ ap (λ (rs : List Record). p.records ++ rs) begun.woke.silent ∙ append-nil p.records in
            record {
              reached = reached;
              reaches = reaches alike;
              team_at = then;
              written = written told (records_in out) out1 out2 at.fit.fits (rw records marked) added_own g.added;
              room = omega (arith, kept_owed g team3 t, room_left told marks out out1 added_own same room_begun out2 g.added g.size);
              size = g.size ∙ same;
              went = went;
            }

-- ---- the stages of the phase
module _ {region : SharedRegion} {s : Session} {awake : Mask4} {team team1 team2 : Team} {p : Progress} (ops : List Op) (rest : List (List Op))
    (at : TeamAt region s (ops ∷ rest) team p) (begun : HasBegun region s awake ops rest team team1 p)
    {ledger : Ledger} (heard : IsHeard region ledger (round_of s ops rest team1 begun.woke.turns.came.reached) team1 team2) where
  abbrev begin_at : Progress
  begin_at = begun.woke.turns.came.reached

  abbrev end_at : Progress
  end_at = reached ops rest at begun heard.done

  abbrev own_list : ℕ → Whole
  own_list w = (heard.done.pieces w).own.reached.list

  abbrev owner : ℕ → ℕ
  owner = owner_in s.threads ops

  nobody_before : IsOfActors s begin_at.list
  nobody_before k past = begun.woke.turns.leaves.parts k (λ i lt same. omega (arith, past, at.workers.many, lt, same)) ∙ at.nobody k past

  nobody_after_all : IsOfActors s end_at.list
  nobody_after_all k past = (nobody ops rest at begun heard.done k past).part_is ∙ nobody_before k past

  -- a worker's own part of its actors, and the order in which it did what it did, are those of the whole phase
  own_part : (w k : ℕ) → owner k ≡ w → part k (own_list w) ≡ part k end_at.list
  own_part w k is = ((woven ops rest at begun heard.done).shares w).parts k is

  in_its_hands : (w k : ℕ) → in_hands owner w k ≡ true → owner k ≡ w
  in_its_hands w k its = eqb-true (owner k) w its

  -- what each worker's actors did is sorted
  module _ (since before made : Whole) (told : end_at.list ≡ made ++ begin_at.list) (behind : (k : ℕ) → part k before ≡ part k begin_at.list)
      (all : (k : ℕ) → part k (since ++ before) ≡ part k end_at.list) (each : AreEarlier (looks_of ledger) (since ++ before)) where
    all_told : (k : ℕ) → part k (since ++ before) ≡ part k (made ++ begin_at.list)
    all_told k = all k ∙ ap (part k) told

    idle_sorted : (w : ℕ) → is_active ops w ≡ false → steps_by (in_hands owner w) since ≡ steps_by (in_hands owner w) made
    idle_sorted w off = sorted_still (in_hands owner w) since before made begin_at.list behind all_told
        (λ k its. ap (part k) (sym told) ∙ sym (own_part w k (in_its_hands w k its)) ∙ ap (part k) ((heard.done.pieces w).still off))

    busy_sorted : (w : ℕ) (sat : ℕ → Bool) → HeardOrder ledger sat begin_at.list (own_list w) → ((k : ℕ) → sat k ≡ true → owner k ≡ w)
        → ((k : ℕ) → owner k ≡ w → (sat k ≡ true) ⊎ (part k (own_list w) ≡ part k begin_at.list))
        → steps_by (in_hands owner w) since ≡ steps_by (in_hands owner w) made
    busy_sorted w sat order within others = sorted_seen (in_hands owner w) since before made begin_at.list behind all_told sat (own_list w) (steps_of order.base) order.order (order.first (since ++ before) each)
        (λ k its. eq-eqb (owner k) w (within k its)) (((woven ops rest at begun heard.done).shares w).steps ∙ ap (steps_by (in_hands owner w)) told)
        (λ k its. own_part w k (in_its_hands w k its) ∙ ap (part k) told)
        (λ k its. others k (in_its_hands w k its))

    -- a thread, and its keeper, which did nothing where there is none
    thread_sorted : (i : ℕ) → i < length team1.threads.items → is_active ops (suc i) ≡ true
        → steps_by (in_hands owner (suc i)) since ≡ steps_by (in_hands owner (suc i)) made
    thread_sorted i lt on =
        let d = some_item team1.threads.items i lt in
        let o = (get_or team1.threads.items i d).keeper in
        busy_sorted (suc i) (pair_in s.threads (suc i) o) (heard.threads i d lt on) (pair_within s.threads ops i o (omega (arith, lt, begun.workers.many)) on)
        (λ k is. search (arith, (heard.done.pieces (suc i)).threads, pair_within, pair_has, in_pair, pair_keeps, kept_nobody))

    -- the scavenger, and the threads that are idle
    hand_sorted : (w : ℕ) → is_active ops w ≡ true → steps_by (in_hands owner w) since ≡ steps_by (in_hands owner w) made
    hand_sorted zero on = busy_sorted 0 (crew_in (idle_threads s.threads ops)) (heard.scavenger on)
        (λ k its. search (arith, among_cases, among_idle, cases_Bool, true≢false, owner_of, own_thread, scavenger_own ops rest at begun heard.done))
        (λ k is. search (arith, cases_lt, among_here, owned_by, among_later, idle_among))
    hand_sorted (suc i) on = thread_sorted i (let le = begun.ready.within (suc i) on in omega (arith, le, begun.workers.many)) on

    -- Each pair's steps are the same in both lists.
    sorted : (w : ℕ) → steps_by (in_hands owner w) since ≡ steps_by (in_hands owner w) made
    sorted w = search (arith, cases_Bool, hand_sorted, idle_sorted)

  -- its threads read the epoch, and then its operations were performed: where the ledger was settled between both and after them
  pub phase_went : ((k : ℕ) → is_set awake k ≡ is_active ops k) → {before mid after : Whole} → IsEarlier before mid → IsEarlier mid after
      → StandSo s before p.list → StandSo s mid begin_at.list → StandSo s after end_at.list → AreEarlier (looks_of ledger) after
      → WentBy s (phase_stages s.threads ops) p end_at before after
  phase_went alike {before} {mid} {after} first second stood midway stand each =
      let two = went_sorted s (acts_of_ops (idle_threads s.threads ops) ops) owner (woven ops rest at begun heard.done).reaches second nobody_after_all stand
      (λ made told of. sorted second.0 mid made told (stand_all s mid begin_at.list midway nobody_before (of_first s second of))
      (λ k. ap (part k) (sym second.1) ∙ stand_all s after end_at.list stand nobody_after_all of k) (subst (AreEarlier (looks_of ledger)) second.1 each))
      in
      let woke = woke ops rest at begun heard.done alike in
      went_both (went_alone s (map Wakes (active_threads s.threads ops)) woke first at.nobody nobody_before stood midway) two
