-- What hands did in a phase, and what the names are after it.
use Rattle.std.proofs.Common.{⊎_elim, ◌≡◌, ℕ, ◌+◌, ◌<◌, ◌==◌, ◌⊎◌, inl, inr, Bool, true, false, if◌then◌else◌, List, [], ◌∷◌, length, get_or, Option, Some}
use Rattle.std.proofs.Common.{None, refl, ap, sym, ◌∙◌, subst, arith, ◌≤◌, ◌++◌, eq-eqb, ◌≢◌, zero, suc, ◌-◌, All, append-nil, true≢false, ne_eqb, not}
use Rattle.std.proofs.lemmas.Bool.{or_cases, not-true, lt-leb}
use Rattle.pas_threads.proofs.Common.{get_or_default, false≢true, or_right, cases_Bool, cases_lt, Profile, asked_after, AreSound, work_of, Chore, Work, Op, Act}
use Rattle.pas_threads.proofs.Common.{act_kept, is_active, idle_threads, idle_stops, acts_of_chore, acts_of_ops, own_acts, scavenger_acts, numbers_count}
use Rattle.pas_threads.proofs.Common.{Progress, names_held, OnlyAsked, all_back, requests_in, room_for, names_asked, NamesAt, NameBook, owner_in, IsWoven}
use Rattle.pas_threads.proofs.Common.{acts_by, PairWorks, KeeperWaits, sound_front, sits_for, acts_are_shared, own_thread, owner_of, Worker, Scavenger, Keeper}
use Rattle.pas_threads.proofs.Common.{HasTaken, HandsOver, kept_by, standing_of_pass, WorkerAt, Did, WorkerHas, Came, Told, TookNoPart, Crew, CrewAt, crew_of}
use Rattle.pas_threads.proofs.Common.{Shift, IsLent, AreLent, pair_in, crew_in, HasLeft, keeper_actors, count_of, is_in, is_out, AreDealt, Round, IsReady}
use Rattle.pas_threads.proofs.{Common.{ThreadDone, kept_by_worker, owed_kept, MayDoPhase, SharedRegion, among}, TakingTurns.came_none, Benched.among_cases}
use Rattle.pas_threads.proofs.{Benched.{among_here, among_later}, CrewSits.{among_at, among_place}, Dealt.{some_item, picked_many, dealt_at, dealt_from}}
use Rattle.pas_threads.proofs.{Dealt.{idle_at, idle_from, idle_are, idle_distinct}, Keepers.{two_counted, owed_same, owed_still, kept_none, still_same}}
use Rattle.pas_threads.{proofs.{Keepers.{waits_still, kept_hands}, ByCrew.{came_as, did_none}}, specs.{Performing.{idle_in, PieceLeft}, Taken.HasRequest}}
use Rattle.pas_threads.specs.{Crews.CrewDid, Scavengers.{DidScavenge, ScavengerStands}, Pairs.{DidPhase, DidPhases, PairStands}}
use Rattle.pas_trace.specs.{Acts.{acts_of_work, operation_in, asked_after_operation, acts_of_op}, EveryPlan.{is_asked, asked_with, asked_by, IsActorOf}}
use Rattle.pas_trace.{specs.{Asked.{of_task, request_of}, declared.plan.What.What}, proofs.EveryPlan.kept_with}
use Rattle.pas_profile.specs.declared.name.Block.{Block}
use Rattle.pas_answers.specs.{Answers.{Named, standing_for}, Names.block_named, Calls.{block_behind, MayStand}, Fit.{AreBelow, KeepsAbove}}
use Rattle.pas_answers.specs.declared.names.Names.{Names}
use Rattle.pas_acts.specs.{NameBooks.{names_of, known_in, AreWithin, came_to, name_asked}, Shares.{AreAmong, IsRequestOf, NoneAsks, asked_after_act}}
use Rattle.pas_acts.{specs.Shares.{asked_after_acts, AreInHand, thread_in}, proofs.{Naming.{are_known, sound_back}, PhaseActs.none_own, ActsOfPlan.back_below}}
use Rattle.pas_acts.proofs.Noting.{asks, asks_more}

-- ---- all workers, one after the other
-- what a request of these came to that has the name is the same whatever else is said
same_to_all : (rs : List Named) (n : ℕ) → is_asked (names_of rs) n ≡ true → (x y : Option Block) → came_to (standing_for rs n) x ≡ came_to (standing_for rs n) y
same_to_all [] n has x y = absurd (false≢true has)
same_to_all (r ∷ rs) n has x y = search (arith, r.name == n, same_to_all rs n)

-- .. and where none has it, the name stands for nothing here
none_stands : (rs : List Named) (n : ℕ) → is_asked (names_of rs) n ≡ false → standing_for rs n ≡ None
none_stands [] n none = refl
none_stands (r ∷ rs) n none = search (arith, r.name == n, none_stands rs n)

none_has : (n : ℕ) (w : Worker) (ws : List Worker) → is_asked (names_of (requests_in w.requests)) n ≡ false
    → ((i : ℕ) (d : Worker) → i < length ws → HasRequest (get_or ws i d) n → ⊥)
    → (i : ℕ) (d : Worker) → i < length (w ∷ ws) → HasRequest (get_or (w ∷ ws) i d) n → ⊥
none_has n w ws none others zero d lt has = false≢true (sym none ∙ has)
none_has n w ws none others (suc i) d lt has = others i d (omega (arith, lt)) has

-- The book took the requests of the first of these workers, and then those of the others.
pub taken_first : (before mid after : NameBook) (w : Worker) (ws : List Worker) → ((n : ℕ) → block_named mid.names n ≡ known_in before w.requests n)
    → HasTaken mid after ws → HasTaken before after (w ∷ ws)
taken_first before mid after w ws takes later n = elim (later n) [
  | inl one ↦ inl (
    suc one.0,
    omega (arith, one.1),
    λ d. (
      (one.2 d).0,
      (one.2 d).1 ∙ same_to_all (requests_in (get_or ws one.0 d).requests) n (one.2 d).0 (block_named mid.names n) (block_named before.names n),
    ),
  )
  | inr none ↦ elim (cases_Bool (is_asked (names_of (requests_in w.requests)) n)) [
    | inl has ↦ inl (0, omega arith, λ d. (has, none.1 ∙ takes n))
    | inr hasnt ↦ inr (
      none_has n w ws hasnt none.0,
      none.1 ∙ takes n ∙ ap (λ o. came_to o (block_named before.names n)) (none_stands (requests_in w.requests) n hasnt),
    )
  ]
]

-- ---- what acts ask for

-- a name that was asked for stays so
kept_after : (o : Option Op) (asked : List ℕ) (n : ℕ) → is_asked asked n ≡ true → is_asked (asked_after_operation o asked) n ≡ true
kept_after a asked n is = search (arith, kept_with)

kept_acts : (acts : List Act) (asked : List ℕ) (n : ℕ) → is_asked asked n ≡ true → is_asked (asked_after_acts acts asked) n ≡ true
kept_acts [] asked n is = is
kept_acts (act ∷ acts) asked n is = kept_acts acts (asked_after_act act asked) n (kept_after (operation_in act) asked n is)

new_after : (o : Option Op) (asked ns : List ℕ) (n : ℕ) → is_asked (asked_after_operation o [] ++ ns) n ≡ true
    → (is_asked (asked_after_operation o asked) n ≡ true) ⊎ (is_asked ns n ≡ true)
new_after a asked ns n is = search (arith, or_cases)

asked_then : (acts : List Act) (asked : List ℕ) (n : ℕ) → is_asked (names_asked acts) n ≡ true → is_asked (asked_after_acts acts asked) n ≡ true
asked_then [] asked n is = absurd (false≢true is)
asked_then (act ∷ acts) asked n is =
    ⊎_elim (kept_acts acts (asked_after_act act asked) n) (asked_then acts (asked_after_act act asked) n)
    (new_after (operation_in act) asked (names_asked acts) n is)

-- ---- the acts of a phase
after_both : (xs ys : List Act) (asked : List ℕ) → asked_after_acts (xs ++ ys) asked ≡ asked_after_acts ys (asked_after_acts xs asked)
after_both [] ys asked = refl
after_both (x ∷ xs) ys asked = after_both xs ys (asked_after_act x asked)

after_stops : (m : ℕ) (idle asked : List ℕ) → asked_after_acts (idle_stops m idle) asked ≡ asked
after_stops m [] asked = refl
after_stops m (k ∷ idle) asked = after_stops m idle asked

-- an operation that is tried first is asked for as any other
operation_kept : (o : Option ℕ) (op : Op) → operation_in (act_kept o op) ≡ Some op
operation_kept a op = search arith

after_work : (idle : List ℕ) (op : Op) (work : Work) (asked : List ℕ) → work_of op.what ≡ work
    → asked_after_acts (acts_of_work idle op work) asked ≡ asked_with (of_task request_of work) asked
after_work idle op a asked is = search (arith, operation_kept, after_stops)

after_ops : (idle : List ℕ) (ops : List Op) (asked : List ℕ) → asked_after_acts (acts_of_ops idle ops) asked ≡ asked_by asked ops
after_ops idle [] asked = refl
after_ops idle (op ∷ ops) asked = let rest = after_ops idle ops (asked_after op.what asked) in grind (arith, rest, after_both, after_work)

-- ---- none of them asks for a name that no thread asks for
none_both : (n : ℕ) (xs ys : List Act) → NoneAsks n xs → NoneAsks n ys → NoneAsks n (xs ++ ys)
none_both n [] ys one two = two
none_both n (x ∷ xs) ys one two = (one.0, none_both n xs ys one.1 two)

none_stops : (n m : ℕ) (idle : List ℕ) → NoneAsks n (idle_stops m idle)
none_stops n m [] = tt
none_stops n m (k ∷ idle) = (λ bad. bad, none_stops n m idle)

none_chore : (n : ℕ) (idle : List ℕ) (chore : Chore) → NoneAsks n (acts_of_chore idle chore)
none_chore n idle (Chore.Idle m) = (λ bad. bad, none_stops n m idle)
none_chore n idle _ = (λ bad. bad, tt)

none_work : (n : ℕ) (idle : List ℕ) (op : Op) (work : Work) → (IsRequestOf n op.what → ⊥) → NoneAsks n (acts_of_work idle op work)
none_work n idle op (Work.Own task) none = search (arith, operation_kept)
none_work n idle op (Work.Chore chore) none = none_chore n idle chore

-- who asks for a name is a thread, and has it among its own
asks_own : (f : Profile) (n k : ℕ) (what : What) → IsActorOf f what k → IsRequestOf n what → (1 ≤ k) × (is_asked (name_asked what) n ≡ true)
asks_own f n k what actor is = search (arith, eq-eqb)

front_asked : (ms ns : List ℕ) (n : ℕ) → is_asked ms n ≡ true → is_asked (ms ++ ns) n ≡ true
front_asked [] ns n is = absurd (false≢true is)
front_asked (m ∷ ms) ns n is = search (arith, m == n, front_asked ms ns n)

back_asked : (ms ns : List ℕ) (n : ℕ) → is_asked ns n ≡ true → is_asked (ms ++ ns) n ≡ true
back_asked [] ns n is = is
back_asked (m ∷ ms) ns n is = or_right (m == n) (is_asked (ms ++ ns) n) (back_asked ms ns n is)

none_ask : (f : Profile) (n : ℕ) (idle asked : List ℕ) (ops : List Op) → AreSound f asked ops → ((k : ℕ) → 1 ≤ k → is_asked (asks k ops) n ≡ true → ⊥)
    → NoneAsks n (acts_of_ops idle ops)
none_ask f n idle asked [] sound none = tt
none_ask f n idle asked (op ∷ ops) sound none =
    let first = λ (k : ℕ). if op.actor == k then name_asked op.what else [] in
    none_both n (acts_of_op idle op) (acts_of_ops idle ops)
    (none_work n idle op (work_of op.what) (λ is.
    let k = op.actor in
    let own = asks_own f n k op.what sound.0 is in
    let mine = ap (λ (t : Bool). if t then name_asked op.what else []) (eq-eqb k k refl) in
    none k own.0 (ap (λ ns. is_asked ns n) (asks_more k op ops ∙ ap (λ ns. ns ++ asks k ops) mine) ∙ front_asked (name_asked op.what) (asks k ops) n own.1)))
    (none_ask f n idle (asked_after op.what asked) ops sound.2 (λ k some is. none k some (ap (λ ns. is_asked ns n) (asks_more k op ops) ∙ back_asked (first k) (asks k ops) n is)))

active_asks : (k : ℕ) (ops : List Op) (n : ℕ) → is_asked (asks k ops) n ≡ true → is_active ops k ≡ true
active_asks k [] n is = absurd (false≢true is)
active_asks k (op ∷ ops) n is = search (arith, op.actor == k, active_asks k ops n, ap (λ ns. is_asked ns n) (sym (asks_more k op ops)) ∙ is)

-- ---- what a worker hands over
hands_over : {f phase book k keeper σ σ' kept kept' later more p : _} (old new : Worker) (names : List Named)
    → (did : PairWorks f k keeper (own_acts k phase) [] σ σ' (kept_by book old) (kept_by book new) kept kept' later more p) → requests_in old.requests ≡ []
    → AreAmong did.reached.names names → HandsOver f phase book k new.requests names
hands_over {f} {phase} {book} {k} {p = p} old new names did none among =
    let noted = did.noted ∙ ap (λ (rs : List Named). names_of rs ++ names_asked (own_acts k phase)) none in
    let knows = did.stands.thread.names in
    record {
      noted = noted;
      says = λ n has.
          let known = are_known f (own_acts k phase) [] p did.reached did.reaches (λ m is. absurd (false≢true is)) n
          (asked_then (own_acts k phase) [] n (ap (λ (ns : List ℕ). is_asked ns n) (sym noted) ∙ has)) in
          let block = knows.tells n ∙ ap block_behind known.1 in
          (known.0, among n known.0 known.1, block, subst (MayStand f) block (knows.stand n));
    }

-- a worker with no operation in the phase hands over nothing
hands_nothing : {f : Profile} {phase : List Op} {book : NameBook} {k : ℕ} (worker : Worker) (names : List Named) → requests_in worker.requests ≡ []
    → own_acts k phase ≡ [] → HandsOver f phase book k worker.requests names
hands_nothing {f} {phase} {book} {k} worker names none idle = search (arith, false≢true)

-- The names for which a thread asks in a phase are below the bound of all names of the phase.
pub names_within : (limit k : ℕ) (phase : List Op) → AreBelow limit phase → AreWithin limit (names_asked (own_acts k phase))
names_within limit k [] below = tt
names_within limit k (op ∷ ops) below =
    subst (AreWithin limit) (sym (asks_more k op ops)) (search (arith, op.actor == k, below.0, names_within limit k ops below.1))

-- ---- after a phase

-- Each worker handed over, and each thread with an operation in the phase has one.
module _ {f : Profile} {book : NameBook} {p q : Progress} {own : ℕ → Progress} (threads : ℕ) (phase rest : List Op) (book1 book2 : NameBook)
    (workers : List Worker) (at : NamesAt f (phase ++ rest) book p) (are : q.names ≡ p.names)
    (woven : IsWoven f (owner_in threads phase) (acts_of_ops (idle_threads threads phase) phase) at.asked q own) (noted : book1.names ≡ book.names)
    (each : (i : ℕ) (d : Worker) → i < length workers → HandsOver f phase book1 (suc i) (get_or workers i d).requests woven.reached.names)
    (all : (k : ℕ) → is_active phase k ≡ true → k ≤ length workers) (taken : HasTaken book1 book2 workers) where
  abbrev after : List Named
  after = woven.reached.names

  -- what no request was for stands for what it did
  stays : (n : ℕ) → ((i : ℕ) (d : Worker) → i < length workers → HasRequest (get_or workers i d) n → ⊥) → standing_for after n ≡ standing_for p.names n
  stays n none = woven.same_names n (none_ask f n (idle_threads threads phase) at.asked phase (sound_front f at.asked phase rest at.sound) (λ k some is.
      let within = all k (active_asks k phase n is) in
      let i = k - 1 in
      let its : suc i ≡ k = omega (arith, some) in
      let lt : i < length workers = omega (arith, within, its) in
      let d = some_item workers i lt in
      none i d lt (ap (λ (ns : List ℕ). is_asked ns n) ((each i d lt).noted ∙ ap (λ (j : ℕ). names_asked (own_acts j phase)) its) ∙ is)))
      ∙ ap (λ (ns : List Named). standing_for ns n) are

  -- the book tells what it stands for, and that is a block of the region
  book_says : (n : ℕ) → (block_named book2.names n ≡ block_behind (standing_for after n)) × MayStand f (block_named book2.names n)
  book_says n = elim (taken n) [
    | inl one ↦
        let d = some_item workers one.0 one.1 in
        let has = one.2 d in
        let says = (each one.0 d one.1).says n has.0 in
        (has.1 ∙ says.2 ∙ sym (ap block_behind says.1), subst (MayStand f) (sym (has.1 ∙ says.2)) says.3)
    | inr none ↦
        let same = none.1 ∙ ap (λ (t : Names). block_named t n) noted in
        (same ∙ at.tells n ∙ ap block_behind (sym (stays n none.0)), subst (MayStand f) (sym same) (at.stand n))
  ]

  asked_is : asked_after_acts (acts_of_ops (idle_threads threads phase) phase) at.asked ≡ asked_by at.asked phase
  asked_is = after_ops (idle_threads threads phase) phase at.asked

  -- After a phase the book says of each name what it stands for in the woven replay, and these were asked for then.
  pub names_then : names_held book2.names ≡ names_held book1.names → (names : NamesAt f rest book2 woven.reached) × (names.asked ≡ asked_by at.asked phase)
  names_then held = (
    record {
      asked = asked_by at.asked phase;
      sound = sound_back f at.asked phase rest at.sound;
      above = all_back (KeepsAbove f) phase rest at.above;
      below = subst (λ (limit : ℕ). AreBelow limit rest) (sym (held ∙ ap names_held noted)) (back_below (names_held book.names) phase rest at.below);
      tells = λ n. (book_says n).0;
      stand = λ n. (book_says n).1;
      known = search (arith, asked_is, are_known);
      only = subst (λ (ns : List ℕ). OnlyAsked ns after) asked_is woven.only_asked;
    },
    refl,
  )

-- a thread none of whose acts is left has its pass, and rests with it
has_left : {region book f k worker later p : _} → WorkerAt region book f k [] worker later p → WorkerHas region f k worker later p
has_left at = let spare = at.stands.spare in record { has = at.has; rests = record { sits = sits_for at.stands.sits (omega arith); cache = at.stands.cache; spare = omega (arith, spare) } }

-- ---- a thread with an operation
active_done : {region : _} {r : Round} (k : ℕ) (old new : Worker)
    → PairStands region r.book r.profile r.threads k (own_acts k r.ops) old (r.later k) (r.more k) r.start → 1 ≤ r.threads
    → DidPhase region r.book r.ops old new → (own : Came r.profile (own_acts k r.ops) r.start) × ThreadDone region r k old new own.said own.reached
    × HasLeft region new.bench (pair_in r.threads k old.keeper) r.start.list own.reached.list
active_done {r = r} k old new at some phase =
    let both = phase.did r.profile r.threads k (r.later k) (r.more k) r.start some at in
    let did = both.did in
    let w = did.does in (
      record { reached = w.reached; reaches = w.reaches; said = w.said; records_are = w.records_are },
      record {
        stands = has_left (record { has = did.after; stands = w.stands.thread });
        of = both.of;
        waits = w.stands.waits;
        told = record { added = w.pushed; room = w.room };
        kept_told = w.kept_pushed;
        still = w.still;
        paid = search (arith, two_counted, owed_same);
        noted = w.noted;
        room_noted = w.room_noted;
        hands_over = λ none names among. hands_over old new names w none among;
      },
      both.left,
    )

-- ---- a thread without one
-- what the scavenger's worker goes by in the phase
abbrev pub shift_of : Round → Shift
shift_of r = record {
  profile = r.profile;
  idle = idle_in r;
  distinct = idle_distinct r.threads r.ops;
  own = r.later 0;
  lends = λ i. r.later (get_or (idle_in r) i 0);
}

-- It is lent to the scavenger, with which it stands at this rank. Its keeper does nothing.
lent_done : {region : SharedRegion} {r : Round} {acts : List Act} {has has' : Crew} (k n : ℕ) (old new : Worker) → 1 ≤ k → is_active r.ops k ≡ false
    → PairStands region r.book r.profile r.threads k (own_acts k r.ops) old (r.later k) (r.more k) r.start
    → (did : CrewDid region (shift_of r) acts [] has has' r.start)
    → n < length has.lent → n < length has'.lent → get_or (idle_in r) n 0 ≡ k → ((d : Worker) → get_or has.lent n d ≡ old)
    → ((d : Worker) → get_or has'.lent n d ≡ new) → ThreadDone region r k old new did.came.said did.came.reached
lent_done {region} {r} {acts} {has} {has'} k n old new some off stood did lt lt' number was is =
    let q = did.came.reached in
    let said = did.came.said in
    let keeper = r.threads + k in
    let kept = kept_by_worker old.keeper in
    let told : Told k said old new = rw (is old, was old, number) at (did.lent n old lt) in
    let apart : TookNoPart keeper said r.start q = did.others keeper (λ same. omega (arith, same, some))
    (λ i within same. (let at = idle_from r.threads r.ops i within in omega (arith, at.1, at.4, same, some))) in
    let acts_none = none_own k r.ops off in
    let waits : KeeperWaits r.profile keeper [] kept (r.more k) q = search (arith, waits_still) in
    record {
      stands = rw (is new, number) at (did.stands.lent.each n new lt');
      of = rw told.keeper stood.of;
      waits = rw told.keeper waits;
      told = told.out;
      kept_told = rw told.keeper (kept_none keeper said kept apart.silent);
      still = still_same keeper kept r.start q apart.part_is;
      paid = inr (apart.silent, ap (λ o. owed_kept r.profile keeper o q) told.keeper ∙ owed_still r.profile keeper old.keeper r.start q apart.part_is);
      noted = cc (acts_none, told.requests, append-nil (names_of (requests_in old.requests)));
      room_noted = ap room_for told.requests;
      hands_over = λ empty names among. hands_nothing new names (ap requests_in told.requests ∙ empty) acts_none;
    }

-- ---- the scavenger
-- Its operations were done, and it has its pass again. Where none is its own, it did nothing.
pub record CrewDone (region : SharedRegion) (r : Round) (old new : Scavenger) : Type 0 where
  did : Did region old.pass new.pass (λ σ σ'. CrewDid region (shift_of r) (scavenger_acts (idle_in r) r.ops) [] (crew_of σ old) (crew_of σ' new) r.start)
  left : is_active r.ops 0 ≡ true → HasLeft region new.bench (crew_in (idle_in r)) r.start.list did.does.came.reached.list
  still : is_active r.ops 0 ≡ false → did.does.came.reached.list ≡ r.start.list

none_scavenged : (idle : List ℕ) (ops : List Op) → is_active ops 0 ≡ false → scavenger_acts idle ops ≡ []
none_scavenged idle [] off = refl
none_scavenged idle (op ∷ ops) off = search (arith, op.actor == 0, none_scavenged idle ops)

-- The scavenger's operations are done if it did them, and if there are none.
pub crew_done : {region r team : _} (ready : IsReady region r team) (old new : Scavenger)
    → ScavengerStands region (shift_of r) (scavenger_acts (idle_in r) r.ops) old r.start
    → (is_active r.ops 0 ≡ true → DidScavenge region r.ops old new) → (is_active r.ops 0 ≡ false → new ≡ old) → CrewDone region r old new
crew_done {region} {r} ready old new stands did stayed = elim (cases_Bool (is_active r.ops 0)) [
  | inl on ↦
      let both = (did on).did (shift_of r) ready.asked r.start ready.sound stands in
      record { did = both.did; left = λ awake. both.left; still = λ off. absurd (true≢false (sym on ∙ off)) }
  | inr off ↦
      let none = none_scavenged (idle_in r) r.ops off in
      let at = subst (λ acts. CrewAt region (shift_of r) acts (crew_of (standing_of_pass stands.has.pass) old) r.start) none stands.at in
      subst (CrewDone region r old) (sym (stayed off)) record {
        did = record { before = stands.has; after = stands.has; does = did_none none at };
        left = λ on. absurd (true≢false (sym on ∙ off));
        still = λ away. refl;
      }
]

-- ---- all hands together
-- A thread in the scavenger's hands has no operation, and one in a worker's hands is that worker's own, with one.
pub owned_by : (threads : ℕ) (ops : List Op) (k : ℕ) (t : Bool) → is_active ops k ≡ t → 1 ≤ k → k ≤ threads
    → (owner_in threads ops k ≡ 0 → is_active ops k ≡ false) × ((w : ℕ) → owner_in threads ops k ≡ w → 1 ≤ w → (k ≡ w) × (is_active ops k ≡ true))
owned_by threads ops k a is b most = search (arith, owner_of threads ops k k (own_thread threads k most))

none_in_hand : (owner : ℕ → ℕ) (w : ℕ) (acts : List Act) → ((k : ℕ) → owner k ≢ w) → acts_by owner w acts ≡ []
none_in_hand owner w [] none = refl
none_in_hand owner w (act ∷ acts) none = search (arith, ne_eqb, none_in_hand owner w acts none)

module _ {region r team : _} (ready : IsReady region r team) where
  -- a worker is of one of the threads
  within_threads : (i : ℕ) → i < length team.threads.items → suc i ≤ r.threads
  within_threads i lt = omega (arith, ready.many, lt)

  some_thread : (i : ℕ) → i < length team.threads.items → 1 ≤ r.threads
  some_thread i lt = let le = within_threads i lt in omega (arith, le)

  -- whose acts are whose
  shared : AreInHand (owner_in r.threads r.ops) (acts_of_ops (idle_in r) r.ops)
      × ((k : ℕ) → 1 ≤ k → k ≤ r.threads → is_active r.ops k ≡ true → acts_by (owner_in r.threads r.ops) k (acts_of_ops (idle_in r) r.ops) ≡ own_acts k r.ops)
      × ((k : ℕ) → 1 ≤ k → k ≤ r.threads → is_active r.ops k ≡ false → acts_by (owner_in r.threads r.ops) k (acts_of_ops (idle_in r) r.ops) ≡ [])
      × (acts_by (owner_in r.threads r.ops) 0 (acts_of_ops (idle_in r) r.ops) ≡ scavenger_acts (idle_in r) r.ops)
  shared = acts_are_shared r.profile r.threads ready.asked r.ops ready.sound ready.behind ready.within

  module _ {hands lent : List Worker} (dealt : AreDealt (is_active r.ops) team.threads.items hands lent) where
    -- ---- before
    abbrev threads : List Worker
    threads = team.threads.items

    -- The hands may do their operations.
    pub own_may : All (MayDoPhase region r.book r.ops) hands
    own_may n d lt =
        let at = dealt_from (is_in (is_active r.ops)) threads dealt.0 n lt in
        let its = (dealt_at (is_in (is_active r.ops)) threads dealt.0 at.0 at.1 at.2).1 d d in
        let k = suc at.0 in
        subst (MayDoPhase region r.book r.ops) (sym (subst (λ m. get_or hands m d ≡ get_or threads at.0 d) at.3 its)) record {
          profile = r.profile;
          threads = r.threads;
          thread = k;
          later = r.later k;
          more = r.more k;
          progress = r.start;
          some = some_thread at.0 at.1;
          stands = ready.workers at.0 d at.1;
        }

    lent_many : length lent ≡ length (idle_in r)
    lent_many = search (arith, picked_many, numbers_count, idle_are, ready.many)

    -- a worker that was lent is that of an idle thread
    lent_stands : (n : ℕ) (d : Worker) → n < length lent → IsLent region (shift_of r) n (get_or lent n d) r.start
    lent_stands n d lt =
        let at = idle_from r.threads r.ops n (omega (arith, lt, lent_many)) in
        let less : at.0 < length threads = omega (arith, at.1, ready.many) in
        let its = (dealt_at (is_out (is_active r.ops)) threads dealt.1 at.0 less at.2).1 d d in
        let none = none_own (suc at.0) r.ops (not-true (is_active r.ops (suc at.0)) at.2) in
        let rests = rw none at (ready.workers at.0 d less).thread in
        rw (subst (λ m. get_or lent m d ≡ get_or threads at.0 d) at.3 its, at.4) (has_left rests)

    -- The scavenger with the idle threads lent to it stands before its operations of the phase.
    pub may_scavenge : (scavenger : Scavenger) → scavenger.pass ≡ team.scavenger.pass → scavenger.outcomes ≡ team.scavenger.outcomes
        → scavenger.out ≡ team.scavenger.out → scavenger.lent.items ≡ lent
        → ScavengerStands region (shift_of r) (scavenger_acts (idle_in r) r.ops) scavenger r.start
    may_scavenge scavenger pass outcomes out lent_is =
        let has = ready.scavenger.has in
        record {
          has = record { pass = has.pass; present = pass ∙ has.present; of = has.of };
          at = record {
            stands = rw (outcomes, out) ready.scavenger.at;
            lent = subst (λ (ws : List Worker). AreLent region (shift_of r) ws r.start) (sym lent_is) record { many = lent_many; each = lent_stands };
          };
        }

  -- ---- after
  module _ (hands hands' new : List Worker) (scav0 scav1 : Scavenger) (dealt : AreDealt (is_active r.ops) team.threads.items hands scav0.lent.items)
      (each : DidPhases region r.book r.ops hands hands') (back : AreDealt (is_active r.ops) new hands' scav1.lent.items)
      (size : length new ≡ length team.threads.items) (crew : CrewDone region r scav0 scav1) where
    abbrev PieceOf : ℕ → Type 0
    PieceOf w = PieceLeft region r team.threads.items new scav0 scav1 w

    -- a thread with an operation did it
    thread_did : (i : ℕ) (d : Worker) → i < length team.threads.items → is_active r.ops (suc i) ≡ true
        → DidPhase region r.book r.ops (get_or team.threads.items i d) (get_or new i d)
    thread_did i d lt on =
        let was = dealt_at (is_in (is_active r.ops)) team.threads.items dealt.0 i lt on in
        let is = dealt_at (is_in (is_active r.ops)) new back.0 i (omega (arith, lt, size)) on in
        rw (sym (was.1 d d), sym (is.1 d d)) (each (count_of (is_in (is_active r.ops)) i) d was.0)

    -- nobody's
    nobody_piece : (i : ℕ) → is_active r.ops (suc i) ≡ false → acts_by (owner_in r.threads r.ops) (suc i) (acts_of_ops (idle_in r) r.ops) ≡ []
        → PieceOf (suc i)
    nobody_piece i off none = record {
      piece = record {
        own = came_as none (came_none r.profile r.start);
        threads = λ j d lt whose.
            let mine = (owned_by r.threads r.ops (suc j) (is_active r.ops (suc j)) refl (omega arith) (within_threads j lt)).1 (suc i) whose
            (omega arith) in
            absurd (true≢false (sym mine.1 ∙ ap (is_active r.ops) mine.0 ∙ off));
        scavenger = λ bad. absurd (omega (arith, bad));
        still = λ away. refl;
      };
      left = λ j d is lt on. absurd (true≢false (sym on ∙ off));
      crew_left = λ bad. absurd (omega (arith, bad));
    }

    -- (nobody past the threads has anything in hand)
    nobody_acts : (i : ℕ) → is_active r.ops (suc i) ≡ false → acts_by (owner_in r.threads r.ops) (suc i) (acts_of_ops (idle_in r) r.ops) ≡ []
    nobody_acts i off = search (arith, cases_lt, none_in_hand, cases_Bool)

    -- a thread's
    thread_piece : (i : ℕ) → i < length team.threads.items → is_active r.ops (suc i) ≡ true → PieceOf (suc i)
    thread_piece i lt on =
        let d = some_item team.threads.items i lt in
        let did = thread_did i d lt on in
        let done = active_done {r = r} (suc i) (get_or team.threads.items i d) (get_or new i d) (ready.workers i d lt) (some_thread i lt) did in
        record {
          piece = record {
            own = came_as (shared.1 (suc i) (omega arith) (within_threads i lt) on) done.0;
            threads = λ j e lt' whose.
                let mine = (owned_by r.threads r.ops (suc j) (is_active r.ops (suc j)) refl (omega arith) (within_threads j lt')).1 (suc i) whose
                (omega arith) in
                let at : j ≡ i = omega (arith, mine.0) in
                rw (at, get_or_default team.threads.items i e d lt, get_or_default new i e d (omega (arith, size, lt))) done.1;
            scavenger = λ bad. absurd (omega (arith, bad));
            still = λ away. absurd (true≢false (sym on ∙ away));
          };
          left = λ j e is lt' awake_too.
              let at : j ≡ i = omega (arith, is) in
              rw (at, get_or_default team.threads.items i e d lt, get_or_default new i e d (omega (arith, size, lt))) done.2;
          crew_left = λ bad. absurd (omega (arith, bad));
        }

    -- the scavenger's
    scavenger_piece : PieceOf 0
    scavenger_piece = record {
      piece = record {
        own = came_as shared.3 crew.did.does.came;
        threads = λ j d lt whose.
            let off = (owned_by r.threads r.ops (suc j) (is_active r.ops (suc j)) refl (omega arith) (within_threads j lt)).0 whose in
            let was = dealt_at (is_out (is_active r.ops)) team.threads.items dealt.1 j lt (ap not off) in
            let is = dealt_at (is_out (is_active r.ops)) new back.1 j (omega (arith, size, lt)) (ap not off) in
            let number = (idle_at r.threads r.ops j (within_threads j lt) (ap not off)).1 in
            lent_done (suc j) (count_of (is_out (is_active r.ops)) j) (get_or team.threads.items j d) (get_or new j d) (omega arith) off
            (ready.workers j d lt) crew.did.does was.0 is.0 number (λ e. was.1 e d) (λ e. is.1 e d);
        scavenger = λ is. (
          crew.did.after,
          crew.did.does.stands.stands,
          crew.did.does.told,
          λ k far. crew.did.does.others k (λ same. omega (arith, same, far))
              (λ n lt same. (let at = idle_from r.threads r.ops n lt in omega (arith, at.1, at.4, same, far))),
        );
        still = crew.still;
      };
      left = λ j d bad. absurd (omega (arith, bad));
      crew_left = λ is on. crew.left on;
    }

    -- Each worker's piece is done: what it did for all actors in its hands.
    pub piece : (w : ℕ) → PieceOf w
    piece zero = scavenger_piece
    piece (suc i) = search (arith, cases_Bool, thread_piece, nobody_piece, nobody_acts)

-- Which actors a worker has in hand in a phase.

-- ---- a thread that is idle
-- One among the idle threads of a phase is a thread without an operation.
pub among_idle : (threads : ℕ) (ops : List Op) (k : ℕ) → among (idle_threads threads ops) k ≡ true → (is_active ops k ≡ false) × (1 ≤ k) × (k ≤ threads)
among_idle threads ops k its =
    let place = among_place (idle_threads threads ops) k its in
    let at = idle_from threads ops place.0 place.1 in
    let is : suc at.0 ≡ k = sym at.4 ∙ place.2 in
    (subst (λ j. is_active ops j ≡ false) is (not-true (is_active ops (suc at.0)) at.2), omega (arith, is), omega (arith, is, at.1))

-- A thread without an operation is one of them.
pub idle_among : (threads : ℕ) (ops : List Op) (k : ℕ) → is_active ops k ≡ false → 1 ≤ k → k ≤ threads → among (idle_threads threads ops) k ≡ true
idle_among threads ops k off some most =
    let is : suc (k - 1) ≡ k = omega (arith, some) in
    let at = idle_at threads ops (k - 1) (omega (arith, some, most)) (ap not (ap (is_active ops) is ∙ off)) in
    subst (λ j. among (idle_threads threads ops) j ≡ true) (at.1 ∙ is) (among_at (idle_threads threads ops) _ at.0)

-- ---- a thread with an operation, and its keeper
past_threads : (threads k : ℕ) → threads < k → thread_in threads k ≡ k - threads
past_threads threads k past = ap (λ (b : Bool). if b then k else k - threads) (lt-leb k threads past)

-- An actor in the hands of a thread's worker is that thread or its keeper.
pub in_pair : (threads : ℕ) (ops : List Op) (k w : ℕ) → owner_in threads ops k ≡ suc w → (k ≡ suc w) ⊎ (k ≡ threads + suc w)
in_pair threads ops k w is = search (arith, cases_lt, past_threads, cases_Bool, own_thread)

-- both are in its hands
its_keeper : (actor k : ℕ) (o : Option Keeper) → among (keeper_actors actor o) k ≡ true → k ≡ actor
its_keeper actor k a its = search (arith, true≢false, among_cases)

-- The actors of a worker with an operation in the phase are all in its hands.
pub pair_within : (threads : ℕ) (ops : List Op) (i : ℕ) (o : Option Keeper) → suc i ≤ threads → is_active ops (suc i) ≡ true → (k : ℕ)
    → pair_in threads (suc i) o k ≡ true → owner_in threads ops k ≡ suc i
pair_within threads ops i o most on k its =
    search (arith, owner_of, own_thread, among_cases, its_keeper, kept_hands)

-- the thread is of the pair, and its keeper, if it has one
pub pair_has : (threads i : ℕ) (o : Option Keeper) → pair_in threads (suc i) o (suc i) ≡ true
pair_has threads i o = among_here (suc i) (suc i) (keeper_actors (threads + suc i) o) refl

-- A worker's pair has the keeper behind its thread, or there is no keeper.
pub pair_keeps : (threads i : ℕ) (o : Option Keeper) → (pair_in threads (suc i) o (threads + suc i) ≡ true) ⊎ (o ≡ None)
pair_keeps threads i a = search (arith, among_later, among_here)

-- ---- the scavenger, and the threads that are idle
