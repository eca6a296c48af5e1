-- The close: thread by thread and keeper by keeper; and behind each of these acts the ledger takes in a pass, is settled, and gives the pass back.
use Rattle.std.proofs.Common.{◌≡◌, ◌≢◌, ℕ, suc, ◌+◌, ◌-◌, ◌<◌, inl, inr, List, [], ◌∷◌, ◌++◌, length, set, get_or, map, Option, Some, refl, ap, sym, ◌∙◌, subst}
use Rattle.std.proofs.{Common.{arith, length-append, take, take_all, get_or-append-add, append-nil, is_some, false, true}, lemmas.List.{take_more, map-append}}
use Rattle.pas_threads.proofs.Common.{get_or_default, length-map, get_or-map, get_or-append, Profile, Whole, part, part_of_others, Act, numbers_from, Op}
use Rattle.pas_threads.proofs.Common.{numbers_count, cached, ThreadCache, IsEarlier, AreEarlier, view_of, IsPassOf, SharedRegion, SharedPass, Ledger, Entry}
use Rattle.pas_threads.proofs.Common.{so_far, looks_of, actors_in, part_of, Progress, Stage, one_by_one, stage, itself, EachOf, records_by, Reaches}
use Rattle.pas_threads.proofs.Common.{records_both, all_by, none_by, ThreadActs, KeeperLowers, KeptPushed, leaves_rest, no_more, kept_by_worker, owed_kept}
use Rattle.pas_threads.proofs.Common.{AreGuarded, IsKeeperOf, IsLow, KeeperLowered, KeeperStands, Session, evenly, closing_acts, StandSo, WentBy, WorkersRest}
use Rattle.pas_threads.proofs.Common.{ActorsStand, StandsIn, ThreadTold, KeeperTold, ClosedFirst, ClosesNext, ClosedSo, Came, Pushed, Turn, TookTurns, IsDue}
use Rattle.pas_threads.proofs.{Common.{Keeper, Worker, records_in, room_of, Record, WorkerHas}, Dealt.number_at, Staging.{still_at, thread_stands}}
use Rattle.pas_threads.proofs.{Staging.{keeper_stands, went_both, went_alone}, Keepers.{alike_pushed, guarded_alike, waits_still, kept_none, kept_there}}
use Rattle.pas_threads.proofs.{Keepers.stands_for, TakingTurns.{set_each, came_none, came_both, pushed_none, pushed_both, no_part_both, same_owed, has_still}}
use Rattle.pas_threads.{proofs.TakingTurns.owed_now, specs.{Pairs.IsButKeeper, Settling.Settled, Closing.IsClosing}}
use Rattle.pas_trace.specs.Acts.{Ends, Lowers}
use Rattle.pas_shared.specs.{Ruled.HasPart, declared.rule.Part.Part, Ledgers.{IsSameLedger, IsRestOf}}
use Rattle.pas_answers.{specs.Answers.{Caches, Books}, proofs.OwnRecords.{spoken_piece, spoken_both}}
use Rattle.pas_acts.proofs.Working.{kept_both}

-- ---- all actors stand after turns of the threads
pub turns_stand : {region : SharedRegion} {s : Session} {slot : Option SharedPass} {acts : List Act} {old now : List Worker} {later : ℕ → ℕ} {o p : Progress}
    → ActorsStand region s slot old p.list → (turns : TookTurns s.profile suc (IsDue region s.profile later o) acts old now p) → length now ≡ length old
    → ActorsStand region s slot now turns.came.reached.list
turns_stand {region} {s} {slot} {acts} {old} {now} {later} {o} {p} at turns many =
    let threads = at.many in
    record {
      many = many ∙ at.many;
      guarded = guarded_alike old now many (λ i d lt. ap is_some (turns.told i d lt).keeper) at.guarded;
      scavenger = still_at (turns.leaves.parts 0 (λ i lt is. omega (arith, is))) at.scavenger;
      threads = λ i d lt. thread_stands (turns.stand i d (omega (arith, lt, many))).here;
      keepers = λ i d keeper lt is.
          let less : i < length old = omega (arith, lt, many) in
          still_at (turns.leaves.parts (s.threads + suc i) (λ j below same. omega (arith, below, same, threads))) (at.keepers i d keeper less (sym (turns.told i d less).keeper ∙ is));
      nobody = λ k past. turns.leaves.parts k (λ i lt same. omega (arith, past, lt, same, threads)) ∙ at.nobody k past;
    }

-- ---- one actor's act
-- actor k did this act, and nothing of another actor changed
record ActorDid (f : Profile) (k : ℕ) (act : Act) (p : Progress) : Type 0 where
  came : Came f (act ∷ []) p
  each : EachOf k came.said
  parts : (j : ℕ) → j ≢ k → part j came.reached.list ≡ part j p.list
  caches : (j : ℕ) → j ≢ k → came.reached.caches j ≡ p.caches j
  books : (j : ℕ) → j ≢ k → came.reached.books j ≡ p.books j
  names : came.reached.names ≡ p.names

abbrev thread_did : {f k act old new later p : _} → ThreadActs f k (act ∷ []) [] [] old new later p → ActorDid f k act p
thread_did {p = p} x =
    let leaves = leaves_rest x in
    record {
      came = record { reached = x.reached; reaches = x.reaches; said = x.own; records_are = x.records_are ∙ ap (λ rs. p.records ++ rs) (append-nil x.own) };
      each = x.each;
      parts = leaves.parts;
      caches = leaves.caches;
      books = λ j ne. ap (λ (books : Books). books j) x.books;
      names = leaves.names;
    }

abbrev keeper_did : {f k old new later p : _} → KeeperLowers f k old new later p → ActorDid f k (Lowers k) p
keeper_did {k = k} {p = p} y = record {
  came = record { reached = y.reached; reaches = y.reaches; said = y.said; records_are = y.records_are };
  each = y.each;
  parts = λ j ne. ap (part j) y.moves.list_is ∙ part_of_others j k y.moves.steps p.list (λ (is : k ≡ j). ne (sym is));
  caches = λ j ne. ap (λ (caches : Caches). caches j) y.caches;
  books = y.books;
  names = y.names;
}

-- Another actor said nothing, and stands as it did.
module _ {f : Profile} {k : ℕ} {act : Act} {q : Progress} (x : ActorDid f k act q) where
  silent : (j : ℕ) → j ≢ k → records_by j x.came.said ≡ []
  silent j ne = none_by j k x.came.said x.each (λ (is : k ≡ j). ne (sym is))

  said_other : (said : List Record) (j : ℕ) → j ≢ k → records_by j (said ++ x.came.said) ≡ records_by j said
  said_other said j ne = records_both j said x.came.said ∙ ap (λ rs. records_by j said ++ rs) (silent j ne) ∙ append-nil (records_by j said)

module _ {region : SharedRegion} {s : Session} {k : ℕ} {act : Act} {q : Progress} (x : ActorDid s.profile k act q) where
  thread_stays : {left : List Op} {said : List Record} {old new : Worker} (j : ℕ) → j ≢ k → ThreadTold region s left j said old new q
      → ThreadTold region s left j (said ++ x.came.said) old new x.came.reached
  thread_stays j ne t = record { here = has_still (x.parts j ne) (x.caches j ne) t.here; out = pushed_both t.out (pushed_none (silent x j ne)) }

  keeper_stays : {left : List Op} {said : List Record} {old new : Option Keeper} (j : ℕ) → s.threads + j ≢ k → KeeperTold region s left j said old new q
      → KeeperTold region s left j (said ++ x.came.said) old new x.came.reached
  keeper_stays {left} {said} {old} {new} j ne t =
      search (arith, waits_still, kept_both, kept_none, silent x, x.parts (s.threads + j) ne, x.books (s.threads + j) ne)

-- ---- the acts of the close
closing_many : (threads keepers : ℕ) → length (closing_acts threads keepers) ≡ threads + keepers
closing_many threads keepers =
    search (arith, length-map, numbers_count, length-append)

-- Once each actor had its turn all acts are done.
pub all_acts : (threads keepers : ℕ) → take (threads + keepers) (closing_acts threads keepers) ≡ closing_acts threads keepers
all_acts threads keepers = let many = closing_many threads keepers in take_all (threads + keepers) (closing_acts threads keepers) (omega (arith, many))

thread_act : (threads keepers i : ℕ) → i < threads → take (i + 1) (closing_acts threads keepers) ≡ take i (closing_acts threads keepers) ++ Ends (suc i) ∷ []
thread_act threads keepers i lt =
    let ks = numbers_from 1 threads in
    let many = closing_many threads keepers in
    let count = numbers_count 1 threads in
    let is = get_or-append (map Ends ks) (map Lowers (numbers_from (threads + 1) keepers)) (Ends 0) i (omega (arith, lt, count, length-map ks Ends))
    ∙ get_or-map Ends ks i 0 (Ends 0) (omega (arith, lt, count)) ∙ ap Ends (number_at 1 threads i lt ∙ (let one : 1 + i ≡ suc i = omega arith in one)) in
    take_more (closing_acts threads keepers) i (Ends 0) (omega (arith, lt, many)) ∙ ap (λ act. take i (closing_acts threads keepers) ++ act ∷ []) is

keeper_act : (threads keepers j : ℕ) → j < keepers
    → take (threads + j + 1) (closing_acts threads keepers) ≡ take (threads + j) (closing_acts threads keepers) ++ Lowers (threads + suc j) ∷ []
keeper_act threads keepers j lt =
    let ks = numbers_from (threads + 1) keepers in
    let ends = map Ends (numbers_from 1 threads) in
    let many = closing_many threads keepers in
    let size : length ends ≡ threads = length-map (numbers_from 1 threads) Ends ∙ numbers_count 1 threads in
    let is = ap (λ n. get_or (closing_acts threads keepers) (n + j) (Ends 0)) (sym size) ∙ get_or-append-add ends (map Lowers ks) j (Ends 0)
    ∙ get_or-map Lowers ks j 0 (Ends 0) (omega (arith, lt, numbers_count (threads + 1) keepers))
    ∙ ap Lowers (number_at (threads + 1) keepers j lt ∙ (let at : threads + 1 + j ≡ threads + suc j = omega arith in at)) in
    take_more (closing_acts threads keepers) (threads + j) (Ends 0) (omega (arith, lt, many)) ∙ ap (λ act. take (threads + j) (closing_acts threads keepers) ++ act ∷ []) is

-- ---- the first actors close
unfoldable pub closes_begin : {region s old p : _} → WorkersRest region s [] old p → ClosedFirst region s 0 old old p
closes_begin {s = s} {old} {p} at = record {
  came = came_none s.profile p;
  spoken = tt;
  each = λ j d lt. search (arith, at.threads j d lt, at.kept j d lt, pushed_none, kept_none);
  others = λ k other. record { part_is = refl; silent = refl };
  names = refl;
}

module _ {region : SharedRegion} {s : Session} {i : ℕ} {old now : List Worker} {p : Progress} (so : ClosedFirst region s i old now p) where
  abbrev q : Progress
  q = so.came.reached

  -- All actors stand then, each with the steps that the list has of it.
  pub closed_stand : {slot : Option SharedPass} → length now ≡ length old → ActorsStand region s slot old p.list → ActorsStand region s slot now q.list
  closed_stand many at = record {
    many = many ∙ at.many;
    guarded = search (arith, guarded_alike, alike_pushed);
    scavenger = still_at (so.others 0 (λ m less there is. omega (arith, is))).part_is at.scavenger;
    threads = λ j d lt. thread_stands (so.each j d (omega (arith, lt, many))).thread.here;
    keepers = λ j d keeper lt is. let told = (so.each j d (omega (arith, lt, many))).keeper in keeper_stands s.profile [] no_more q (get_or now j d).keeper keeper is told.of told.waits;
    nobody = λ k past. (so.others k (λ m less there is. omega (arith, past, there, is))).part_is ∙ at.nobody k past;
  }

  -- The actor at place i, which is of the worker at place j, made its act; the worker is w then.
  module _ {k : ℕ} {act : Act} (x : ActorDid s.profile k act q) (at : k ≡ suc i) (many : length now ≡ length old)
      (acts : take (i + 1) (closing_acts s.threads s.keepers) ≡ take i (closing_acts s.threads s.keepers) ++ act ∷ []) (there : i < s.threads + s.keepers) where
    abbrev said : List Record
    said = so.came.said ++ x.came.said

    other_stays : (j : ℕ) (e : Worker) → j < length old → j ≢ i → s.threads + j ≢ i
        → IsClosing region s (i + 1) j said (get_or old j e) (get_or now j e) p x.came.reached
    other_stays j e lt thread keeper =
        let one = so.each j e lt in
        let apart : suc j ≢ k = λ is. thread (omega (arith, is, at)) in
        let away : s.threads + suc j ≢ k = λ is. keeper (omega (arith, is, at)) in
        let same = same_owed s.profile q x.came.reached (suc j) (x.parts (suc j) apart) (x.caches (suc j) apart) in
        let kept = ap length (said_other x so.came.said (s.threads + suc j) away) in
        search (arith, thread_stays, keeper_stays, ap length (said_other x so.came.said (suc j) apart), same, kept, one.empty, one.low, one.left) fits 400

    abbrev closes : (j : ℕ) (w : Worker) → j < length old
        → ((e : Worker) → IsClosing region s (i + 1) j said (get_or old j e) w p x.came.reached)
        → ((m : ℕ) → m ≢ j → m < length old → (m ≢ i) × (s.threads + m ≢ i)) → ClosedFirst region s (i + 1) old (set now j w) p
    closes j w lt this apart =
        let both = came_both so.came x.came in
        record {
          came = record { reached = x.came.reached; reaches = subst (λ xs. Reaches s.profile xs p x.came.reached) (sym acts) both.reaches; said = said; records_are = both.records_are };
          spoken = spoken_both so.came.said x.came.said so.spoken (spoken_piece k x.came.said x.each);
          each = λ m e less. set_each (λ (n : ℕ) (v : Worker). IsClosing region s (i + 1) n said (get_or old n e) v p x.came.reached) now j w e m (omega (arith, lt, many)) (this e)
              (λ ne. let away = apart m ne less in other_stays m e less away.0 away.1);
          others = λ j other.
              let ne : j ≢ k = λ is. other i (omega arith) there (sym (is ∙ at)) in
              no_part_both (so.others j (λ m less. other m (omega (arith, less)))) (record { part_is = x.parts j ne; silent = silent x j ne });
          names = x.names ∙ so.names;
        }

  -- The thread at this place was stopped.
  pub thread_closes : (d w : Worker) → s.threads ≡ length old → i < length old → length now ≡ length old
      → Turn region s.profile (suc i) (Ends (suc i)) [] (get_or now i d) w (evenly 0) q → (cached w.cache).locals ≡ []
      → ClosesNext region s i old now (set now i w) p so
  thread_closes d w threads lt many t none =
      let x = t.did.does in
      let did = thread_did x in
      let acts = thread_act s.threads s.keepers i (omega (arith, lt, threads)) in
      let all = so.came.said ++ x.own in
      let this : (e : Worker) → IsClosing region s (i + 1) i all (get_or old i e) w p x.reached = λ e.
      let one = so.each i e lt in
      let same = get_or_default now i d e (omega (arith, lt, many)) in
      let keeper : w.keeper ≡ (get_or now i e).keeper = t.keeper ∙ ap (λ (v : Worker). v.keeper) same in
      let away : s.threads + suc i ≢ suc i = λ is. omega (arith, is, lt, threads) in
      let pushed : Pushed (suc i) x.own (get_or now i d).out w.out =
      record { added = x.pushed ∙ ap (λ rs. records_in (get_or now i d).out ++ rs) (sym (all_by (suc i) x.own x.each)); room = x.room } in
      let longer = ap length (records_both (suc i) so.came.said x.own) ∙ length-append (records_by (suc i) so.came.said) (records_by (suc i) x.own) in
      let here : WorkerHas region s.profile (suc i) w (evenly 0) x.reached = record { has = t.did.after; rests = x.stands } in
      let told : ThreadTold region s [] (suc i) all (get_or old i e) w x.reached = record {
        here = here;
        out = pushed_both one.thread.out (subst (λ (v : Worker). Pushed (suc i) x.own v.out w.out) same pushed);
      } in
      let stays = keeper_stays did (suc i) away one.keeper in
      let kept = subst (λ (o : Option Keeper). KeeperTold region s [] (suc i) all (get_or old i e).keeper o x.reached) (sym keeper) stays in
      let requests = t.requests ∙ ap (λ (v : Worker). v.requests) same in
      let own = ap length (all_by (suc i) x.own x.each) in
      let other = ap length (said_other did so.came.said (s.threads + suc i) away) in
      let owed = owed_now (so.each i d lt).thread.here in
      search (arith, told, kept, requests, longer, own, owed_now here, owed, x.paid, one.paid, other, one.kept_paid, keeper, one.left, lt, threads) fits 400 in
      record {
        next = closes did refl many acts (omega (arith, lt, threads)) i w lt this (λ m ne less. (ne, λ is. omega (arith, is, lt, less, threads)));
        act = Ends (suc i);
        reaches = x.reaches;
        acts_are = acts;
      }

  -- The keeper of the worker at place j stands, before its act.
  pub keeper_there : (j : ℕ) (d : Worker) → i ≡ s.threads + j → j < s.keepers → AreGuarded s.keepers old
      → (keeper : Keeper) × ((get_or now j d).keeper ≡ Some keeper) × KeeperStands region s.profile (s.threads + suc j) keeper no_more q
  keeper_there j d at less (false, none, all) = absurd (omega (arith, none, less))
  keeper_there j d at less (true, size, all) =
      let lt : j < length old = omega (arith, size, less) in
      let here = so.each j d lt in
      let has = kept_there (get_or now j d).keeper (ap is_some (here.left (omega (arith, at))) ∙ all j d lt) in
      (has.0, has.1, stands_for (get_or now j d).keeper has.0 has.1 here.keeper.of here.keeper.waits)

  -- The keeper of the worker at place j lowered its guards.
  module _ (j : ℕ) (d w : Worker) (keeper after : Keeper) (threads : s.threads ≡ length old) (at : i ≡ s.threads + j) (lt : j < length old)
      (many : length now ≡ length old)
      (less : j < s.keepers)
      (had : (get_or now j d).keeper ≡ Some keeper) (but : IsButKeeper (get_or now j d) w) (lowered : w.keeper ≡ Some after)
      (did : KeeperLowered region s.profile (s.threads + suc j) keeper after no_more q) where
    abbrev k : ℕ
    k = s.threads + suc j

    abbrev said_then : List Record
    said_then = so.came.said ++ did.did.said

    place : j < length now
    place = omega (arith, lt, many)

    its_said : records_by k said_then ≡ did.did.said
    its_said = records_both k so.came.said did.did.said
        ∙ ap (λ rs. rs ++ records_by k did.did.said) (so.others k (λ m less there is. omega (arith, less, is, at))).silent ∙ all_by k did.did.said did.did.each

    -- the keeper was there from the start
    was : (e : Worker) → (get_or now j e).keeper ≡ Some keeper
    was e = ap (λ (v : Worker). v.keeper) (get_or_default now j e d place) ∙ had

    thread_then : (e : Worker) → ThreadTold region s [] (suc j) said_then (get_or old j e) w did.did.reached
    thread_then e =
        let changed : IsButKeeper (get_or now j e) w = subst (λ (v : Worker). IsButKeeper v w) (get_or_default now j d e place) but in
        let t = thread_stays (keeper_did did.did) (suc j) (λ is. omega (arith, is, lt, threads)) (so.each j e lt).thread in
        record {
          here = record { has = record { pass = t.here.has.pass; present = changed.pass ∙ t.here.has.present; of = t.here.has.of }; rests = rw (changed.out, changed.cache) t.here.rests };
          out = record { added = ap records_in changed.out ∙ t.out.added; room = ap room_of changed.out ∙ t.out.room };
        }

    keeper_then : (e : Worker) → KeeperTold region s [] (suc j) said_then (get_or old j e).keeper w.keeper did.did.reached
    keeper_then e =
        let pushed : KeptPushed k did.did.said (kept_by_worker (Some keeper)) (kept_by_worker (Some after)) =
        (did.did.pushed ∙ ap (λ rs. records_in keeper.out ++ rs) (sym (all_by k did.did.said did.did.each)), did.did.room, did.did.size) in
        record {
          of = subst (IsKeeperOf region) (sym lowered) did.of;
          waits = rw lowered (tt, did.did.stands);
          out = kept_both k so.came.said did.did.said (kept_by_worker (get_or old j e).keeper) (kept_by_worker (get_or now j e).keeper) (kept_by_worker w.keeper)
              (so.each j e lt).keeper.out (rw (was, lowered) pushed);
        }

    this_keeper : (e : Worker) → IsClosing region s (i + 1) j said_then (get_or old j e) w p did.did.reached
    this_keeper e =
        let one = so.each j e lt in
        let x = keeper_did did.did in
        let apart : suc j ≢ k = λ is. omega (arith, is, lt, threads) in
        let changed : IsButKeeper (get_or now j e) w = subst (λ (v : Worker). IsButKeeper v w) (get_or_default now j d e place) but in
        let own = ap length (said_other x so.came.said (suc j) apart) in
        let same = same_owed s.profile q did.did.reached (suc j) (x.parts (suc j) apart) (x.caches (suc j) apart) in
        let kept = ap (λ (o : Option Keeper). owed_kept s.profile k o p) (sym (one.left (omega (arith, at))) ∙ was e) in
        let empty = ap (λ (c : ThreadCache). (cached c).locals) changed.cache ∙ one.empty (omega (arith, lt, threads, at)) in
        let low = subst IsLow (sym lowered) did.did.none in
        search (arith, thread_then e, keeper_then e, own, same, one.paid, ap length its_said, kept, did.did.few, empty, low, at, lt, threads) fits 400

    pub keeper_closes : ClosesNext region s i old now (set now j w) p so
    keeper_closes =
        let acts = ap (λ n. take (n + 1) (closing_acts s.threads s.keepers)) at ∙ keeper_act s.threads s.keepers j less
        ∙ ap (λ n. take n (closing_acts s.threads s.keepers) ++ Lowers k ∷ []) (sym at) in
        record {
          next = closes (keeper_did did.did) (omega (arith, at)) many acts (omega (arith, at, less)) j w lt this_keeper
              (λ m ne less. (λ is. omega (arith, is, less, at, threads), λ is. ne (omega (arith, is, at))));
          act = Lowers k;
          reaches = did.did.reaches;
          acts_are = acts;
        }

-- ---- .. and the ledger is settled behind each
-- Once it is settled behind one more act, one more stage is behind it.
pub settles_next : {region s slot i old now new before after settled p : _} (so : ClosedSo region s i old now before after p)
    (n : ClosesNext region s i old now new p so.closing) → length now ≡ length old → length new ≡ length old → ActorsStand region s slot old p.list
    → IsEarlier after settled → StandSo s settled n.next.came.reached.list → ClosedSo region s (i + 1) old new before settled p
settles_next {s = s} {i = i} {before = before} {settled = settled} {p} so n many many2 at earlier stood = record {
  closing = n.next;
  went = subst (λ (ss : List Stage). WentBy s ss p n.next.came.reached before settled)
      (sym (ap one_by_one n.acts_are ∙ map-append (λ (act : Act). stage (act ∷ []) itself) (take i (closing_acts s.threads s.keepers)) (n.act ∷ [])))
      (went_both so.went (went_alone s (n.act ∷ []) n.reaches earlier (closed_stand so.closing many at).nobody (closed_stand n.next many2 at).nobody so.went.stand stood));
}

-- A ledger took in an actor, was settled with it and gave it back: its pass is the same and stands there, and what the ledger had before is settled.
pub given_back : (region : SharedRegion) {pass rest old taken settled : _} (given : SharedPass) (back : Ledger) → IsPassOf region pass → IsRestOf pass rest
    → IsSameLedger old taken → actors_in taken ≡ part_of pass ∷ actors_in old → Settled taken settled → IsSameLedger settled back
    → ((x : SharedPass) (more : List Part) → IsPassOf region x → IsRestOf x rest → actors_in settled ≡ part_of x ∷ more → (given ≡ x) × (actors_in back ≡ more))
    → (given ≡ pass) × Settled old back × StandsIn (so_far back) pass
given_back region {pass = pass} {old = old} {settled = settled} given back of is same took so after gives =
    let gave = gives pass (actors_in old) of is (so.actors ∙ took) in (
      gave.0,
      record {
        table = after.table ∙ so.table ∙ same.table;
        actors = gave.1;
        earlier = subst (IsEarlier (so_far old)) (sym after.steps) (subst (λ (l : Whole). IsEarlier l (so_far settled)) same.steps so.earlier);
        each = subst (AreEarlier (looks_of old)) (sym after.steps) (subst (λ (ls : List (List Entry)). AreEarlier ls (so_far settled)) same.looks so.each);
        all = λ k v has. ap (part k) after.steps ∙ so.all k v (subst (λ (ps : List Part). HasPart ps k v) (sym took) (inr has));
      },
      cc (so.all pass.place.actor (view_of pass) (subst (λ (ps : List Part). HasPart ps pass.place.actor (view_of pass)) (sym took) (inl (refl, refl)))),
    )
