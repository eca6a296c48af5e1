-- The acts of a thread at its desk, and what one actor's acts come to for it: an operation, its stop, and its reading of the epoch.
use Rattle.std.proofs.Common.{if◌then◌else◌, [], ◌≡◌, ℕ, ◌+◌, ◌≤◌, List, ◌++◌, length, ap, sym, ◌∙◌, subst, arith, length-append, ◌==◌, ◌∷◌, Option, None, refl}
use Rattle.std.proofs.{Common.{append-nil, eq-eqb, ◌≢◌, Bool, true, ne_eqb, max, reverse}, lemmas.List.length-reverse}
use Rattle.pas_acts.proofs.Common.{length-map, Profile, Block, Guard, events_by, Whole, part, View, Standing, triples, made, Made, part_of_own, part_of_others}
use Rattle.pas_acts.proofs.Common.{records_in, room_of, Records, Record, Said, Cached, Progress, having, Answer, answer_of, begun, settled, stopped, epoch_look}
use Rattle.pas_acts.proofs.Common.{after_answer, after_settling, after_wake, after_stop, IsAnswered, IsStopped, records_of, said_by, Books, with_book}
use Rattle.pas_acts.proofs.Common.{after_tick, after_pass, after_reading, owed_events, named_by, MayStand, Reaches, records_of_pass, IsFitWhat, cost_of_what}
use Rattle.pas_acts.proofs.Common.{cost_of_act, unbacks_of_act, Tried, IsTried, after_trying, IsLowered, after_lowering, owed_by_keeper, cost_of_try, its_cache}
use Rattle.pas_acts.proofs.Common.{piece_of, events_of_piece, swept_each, try_each, pass_of, Later, RestsAt, StandsAt, StandsStill, KeeperHas, HasStill}
use Rattle.pas_acts.proofs.Common.{LaterKept, KeeperTries, and_for, here, MayOperate, ThreadActs, Op, What, Request, Act, Operates, Settles, StopsIdle, Wakes}
use Rattle.pas_acts.{proofs.Common.{Ends, Ticks, MakesPass, ReadsEpoch, cost_of_size, guards_in, GuardBook}, specs.{Works.Sits, Turns.{Moves, LeavesRest}}}
use Rattle.pas_acts.specs.{Turns.Says, Keepers.{keeper_has, and_try, KeeperAt, KeeperLowers}, AtDesks.{GoesThrough, HasRoomAt, for_act, ScavengerActs}}
use Rattle.pas_trace.specs.declared.plan.What.TheVariants.{Stop}
use Rattle.pas_profile.specs.declared.{event.{Range.Range, Event.Event, Outcome.Outcome}, word.Word.Word}
use Rattle.pas_steps.specs.{Desks.{CanCall, Makes}, declared.step.Step.TheVariants.{Look, Tick}, Calls.Calls, Agreement.Agreed, Unknown.unknown_pages}
use Rattle.pas_steps.{specs.Clear.HasNothing, proofs.{Frames.events_split, Called.{call_none, call_as}, SpareRoom.Spares, Unknown.unknown_no_more}}
use Rattle.pas_steps.proofs.Apart.{no_events}
use Rattle.pas_cache.specs.{Caches.AtRest, Calls.{Begins, SettlesEach}}
use Rattle.pas_answers.specs.{Calls.{MayAnswer, AnswersMeant}, PassRecords.record_of, Guarding.try_steps, Keeping.{MayTry, TriesRequest, MayLowerAll}}
use Rattle.pas_answers.{specs.{Keeping.LowersAll, Indexes.{IsNamedFor, request_made}, TicksAndPasses.{AnswersTick, AnswersPass}}, proofs.SingleActs.none_stands}
use Rattle.pas_answers.proofs.{SingleActs.{request_meant, other_cache, if_same, records_count, few_unbacks, reads}, Tries.swept_count}
use Rattle.pas_guard.specs.{Books.FitsBook, Raises.RaiseSteps, Sweeps.sweeping}
use Rattle.pas_scavenger.specs.Passes.{PassSteps}

-- ---- at the desk
-- what is said of the desk's seat is said of its actor
of_seat : {f k : _} {Rest : View → Type 0} {σ l need : _} → Sits f k Rest σ l need → (P : ℕ → Profile → Type 0) → P σ.seat.actor σ.seat.profile → P k f
of_seat {f} {k} {σ = σ} s P is = subst (λ (g : Profile). P k g) s.profile (subst (λ (j : ℕ). P j σ.seat.profile) s.actor is)

-- ---- after its steps
-- the actor sits there still, where the events of the steps are paid for
sits_after : {f : Profile} {k : ℕ} {Rest Rest' : View → Type 0} {σ σ' : Standing} {l : Whole} {need need' : ℕ} {steps : List Made} → Sits f k Rest σ l need
    → Calls σ σ' Rest (λ v w. Rest' w) steps
    → length (events_by k (part k l) steps) + need' ≤ need → Sits f k Rest' σ' (triples k steps ++ l) need'
sits_after {f} {k} {Rest} {Rest'} {σ} {σ'} {l} {need} {need'} {steps} s calls few =
    search (arith, part_of_own, events_split, length-append)

-- ---- while another actor makes steps
pub stands_at : {f : Profile} {k : ℕ} {Rest : View → Type 0} {σ : Standing} {l : Whole} {need : ℕ} → Sits f k Rest σ l need → StandsAt σ l
stands_at {σ = σ} {l = l} s = subst (λ (j : ℕ). σ.stands (part j l) l) (sym s.actor) s.stood

-- it sits there still, where its desk stands still
pub sits_still : {f : Profile} {k : ℕ} {Rest : View → Type 0} {σ σ' : Standing} {l m : Whole} (need : View → ℕ) → StandsStill σ σ' l m → part k m ≡ part k l
    → Sits f k Rest σ l (need (part k l)) → Sits f k Rest σ' m (need (part k m))
sits_still {f} {k} {Rest} {σ} {σ'} {l} {m} need still same s =
    search arith

-- it rests again, where the records that came to its own have the events of the steps, and are paid for
rests_after : {f : Profile} {k : ℕ} {σ σ' : Standing} {c c' : Cached} {out out' : Records} {later : Later} {p q : Progress} (cost : ℕ) (own : List Record)
    → RestsAt f k σ c out (and_for cost later) p → (moves : Moves k (AtRest f c) (AtRest f c') σ σ' p q) → q.caches k ≡ c'
    → records_in out' ≡ records_in out ++ own → room_of out' ≡ room_of out → length (events_by k (part k p.list) moves.steps) ≤ length own
    → length own + owed_events f c' (part k q.list) ≤ cost + owed_events f c (part k p.list) → RestsAt f k σ' c' out' later q
rests_after {f} {k} {σ} {σ'} {c} {c'} {out} {out'} {later} {p} {q} cost own at moves cache pushed room few paid =
    record {
      sits = subst (λ (l : Whole). Sits f k (AtRest f c') σ' l (owed_events f c' (part k q.list) + later.events)) (sym moves.list_is) (sits_after at.sits moves.calls (omega (arith, few, paid)));
      cache = cache;
      spare = omega (arith, ap (λ (rs : List Record). length rs) pushed ∙ length-append (records_in out) own, paid, at.spare, room);
    }

-- it rests at each progress at which it has the same in hand
pub rests_still : {f : Profile} {k : ℕ} {σ σ' : Standing} {c : Cached} {out : Records} {later : Later} {p q : Progress} → StandsStill σ σ' p.list q.list
    → part k q.list ≡ part k p.list → q.caches k ≡ p.caches k → RestsAt f k σ c out later p → RestsAt f k σ' c out later q
rests_still {f} {k} {σ} {σ'} {c} {out} {later} still parts caches at = search (arith, sits_still)

-- ---- with less room
pub sits_for : {Rest : View → Type 0} {f k σ l need need' : _} → Sits f k Rest σ l need → need' ≤ need → Sits f k Rest σ l need'
sits_for s less = let room = s.room in record { actor = s.actor; profile = s.profile; stood = s.stood; rest = s.rest; room = omega (arith, room, less) }

-- A thread that rests with some room rests with less.
pub rests_for : {f : Profile} {k : ℕ} {σ : Standing} {c : Cached} {out : Records} {later later' : Later} {p : Progress} → RestsAt f k σ c out later p
    → later'.events ≤ later.events → later'.records ≤ later.records → RestsAt f k σ c out later' p
rests_for at events records = search (arith, sits_for)

-- ---- before an operation
-- it is what is asked for
pub may_do : {f k w what meant old later p : _} → w ≡ what → MayOperate f k w meant old later p → MayOperate f k what meant old later p
may_do {f} {k} {meant = meant} {old = old} {later = later} {p = p} is may = subst (λ (x : What). MayOperate f k x meant old later p) is may

-- An operation that may be done asks for what fits the region.
pub fit_at : {f : Profile} {k : ℕ} {what : What} {meant : Option Block} {σ : Standing} {c : Cached} {out : Records} {later : Later} {p : Progress}
    → MayOperate f k what meant (here σ c out) later p → (limit : ℕ) × (asked : List ℕ) × IsFitWhat σ.seat.profile limit asked what
fit_at {what = what} may = (may.limit, may.asked, subst (λ (g : Profile). IsFitWhat g may.limit may.asked what) (sym may.rests.sits.profile) may.fit)

-- An operation that may be done may be answered by its thread's cache.
pub may_answer : {f k what meant σ c out later p : _} (spare : ℕ)
    → Spares σ spare → MayOperate f k what meant (here σ c out) later p
    → CanCall σ (MayAnswer σ.seat.profile c what spare out)
may_answer {f} {k} {what} {meant} {σ} {c} {out} {later} {p} spare fits may =
    search arith

-- ---- after it
module _ {f k what meant came σ σ' c c1 out out' later p : _} (may : MayOperate f k what meant (here σ c out) later p)
    (did : AnswersMeant what meant came c c1 out out' σ σ') where
  abbrev v : View
  v = part k p.list

  abbrev steps : List Made
  steps = did.performs.steps

  was_at_rest : AtRest σ.seat.profile c v
  was_at_rest = subst (λ (g : Profile). AtRest g c v) (sym may.rests.sits.profile) may.rests.sits.rest

  abbrev pub the_answer : Answer
  the_answer = answer_of steps did.said did.performs.found (named_by what came ++ p.names) c1

  -- The request was answered so.
  answered : IsAnswered f k what (having p.names v (p.caches k)) the_answer
  answered = subst (λ (d : Cached). IsAnswered f k what (having p.names v d) the_answer) (sym may.rests.cache) (search (arith, of_seat, was_at_rest))

  calls_so : Calls σ σ' (AtRest f c) (λ x w. AtRest f c1 w) steps
  calls_so = subst (λ (g : Profile). Calls σ σ' (AtRest g c) (λ x w. AtRest g c1 w) steps) may.rests.sits.profile did.performs.calls

  abbrev pub piece : List Record
  piece = records_of (events_by k v steps) ++ said_by k did.said

  pushed_so : records_in out' ≡ records_in out ++ piece
  pushed_so = search (arith, of_seat, was_at_rest)

  -- so is what came to its records, where it has a cache whose log is the same
  paid_so : (c' : Cached) → length c'.log ≡ length c1.log
      → length piece + owed_events f c' (part k (triples k steps ++ p.list)) ≤ cost_of_what what + owed_events f c v
  paid_so c' log = search (arith, part_of_own, length-append, records_count, of_seat, was_at_rest)

  -- the thread rests again with that
  rests_again : {c' : Cached} {q : Progress} → (moves : Moves k (AtRest f c) (AtRest f c') σ σ' p q) → moves.steps ≡ steps → length c'.log ≡ length c1.log
      → q.caches k ≡ c' → RestsAt f k σ' c' out' later q
  rests_again {c'} moves same log cache =
      let owed = ap (λ (l : Whole). owed_events f c' (part k l)) (moves.list_is ∙ ap (λ (ms : List Made). triples k ms ++ p.list) same) in
      let events = ap (λ (ms : List Made). length (events_by k v ms)) same in
      let both = length-append (records_of (events_by k v steps)) (said_by k did.said) in
      let count = records_count (events_by k v steps) in
      rests_after (cost_of_what what) piece may.rests moves cache pushed_so did.room (omega (arith, events, both, count)) (omega (arith, paid_so c' log, owed))

-- what its cache noted is handed on
pub settled_rest : {f : Profile} {c c' : Cached} (w : View) → c' ≡ settled c → AtRest f c w → AtRest f c' w
settled_rest {f} {c} {c'} w is rest = search arith

-- what an operation costs its thread
pub own_cost : (op : Op) → (if op.actor == op.actor then cost_of_what op.what else 0) ≡ cost_of_what op.what
own_cost op = if_same (op.actor == op.actor) (cost_of_what op.what) (eq-eqb op.actor op.actor refl)

-- a door was asked by it, and handed what the cache noted
module _ {Door : Type 0} (Answers : Door → Door → ℕ → ℕ → Option ℕ → Type 0) (HandsOn : Door → Door → ℕ → Range → Type 0) (door next door' : Door) where
  -- the operation was answered, with the run that the door named
  abbrev pub AnswersAsking : What → Option Block → Option Block → Cached → Cached → Records → Records → Standing → Standing → Type 0
  AnswersAsking what meant came c c1 out out' σ σ' = (did : AnswersMeant what meant came c c1 out out' σ σ') × IsNamedFor σ.seat.profile (Answers door next)
      (next ≡ door) (request_made what meant) did.performs.found

  -- An operation that was answered, and whose noted runs were handed on, is done, and goes through its door.
  pub has_operated : {f : _} {op : Op} {what meant came σ σ' c c1 c' out out' later p : _}
      → op.what ≡ what → MayOperate f op.actor op.what meant (here σ c out) later p
      → AnswersAsking what meant came c c1 out out' σ σ' → c' ≡ settled c1 → SettlesEach HandsOn c1.noted next door'
      → (did : ThreadActs f op.actor (Operates op ∷ (Settles op.actor ∷ [])) (named_by op.what came) [] (here σ c out) (here σ' c' out') later p)
      × GoesThrough Answers HandsOn f op p did.reached did.reaches door door'
  has_operated {f} {op} {what} {meant} {came} {σ} {σ'} {c} {c1} {c'} {out} {out'} {later} {p} asks may answers is handed =
      let k = op.actor in
      let both : AnswersAsking op.what meant came c c1 out out' σ σ' = subst (λ (w : What). AnswersAsking w meant came c c1 out out' σ σ') (sym asks) answers in
      let did : AnswersMeant op.what meant came c c1 out out' σ σ' = both.0 in
      let made = subst (λ (g : Profile). IsNamedFor g (Answers door next) (next ≡ door) (request_made op.what meant) did.performs.found) may.rests.sits.profile both.1 in
      let named = subst (λ (o : Option Request). IsNamedFor f (Answers door next) (next ≡ door) o did.performs.found) (request_meant op.what p.names meant may.means) made in
      let a = the_answer may did in
      let midway = after_answer p k a in
      let q = after_settling midway k in
      let calls : Calls σ σ' (AtRest f c) (λ x w. AtRest f c' w) a.steps =
      call_as (λ x w. AtRest f c' w) (calls_so may did) (λ x met. met) (λ x w met rest. settled_rest w is rest) in
      let moves : Moves k (AtRest f c) (AtRest f c') σ σ' p q = record { steps = a.steps; list_is = refl; calls = calls } in
      let log = ap (λ (d : Cached). length d.log) is in
      let paid = paid_so may did c' log in (
        record {
          reached = q;
          reaches = (midway, (a, answered may did, refl), (q, refl, refl));
          stands = rests_again may did moves refl log (its_cache midway.caches k (settled (midway.caches k)) ∙ ap settled (its_cache p.caches k c1) ∙ sym is);
          moves = moves;
          own = piece may did;
          records_are = ap (λ (rs : List Record). p.records ++ rs) (sym (append-nil (piece may did)));
          pushed = pushed_so may did;
          room = did.room;
          each = piece_of k (part k p.list) a.steps did.said;
          caches = λ j ne. other_cache midway.caches k j (settled (midway.caches k)) ne ∙ other_cache p.caches k j c1 ne;
          books = refl;
          names = refl;
          epoch = refl;
          paid = omega (arith, own_cost op, paid);
        },
        (next, named, subst (λ (d : Cached). SettlesEach HandsOn d.noted next door') (sym (its_cache p.caches k c1)) handed),
      )

-- ---- a thread is stopped
may_stop : {f k σ c out later p : _} → RestsAt f k σ c out later p → MayOperate f k Stop None (here σ c out) later p
may_stop {f} at =
    record { rests = rests_for at (omega arith) (omega arith); limit = 0; asked = []; fit = (tt, tt); known = tt; means = tt; stands = none_stands f }

module _ {f k σ σ' c c1 out out' later p : _} (at : RestsAt f k σ c out later p) (did : AnswersMeant Stop None None c c1 out out' σ σ') where
  abbrev flush : List Made
  flush = did.performs.steps

  abbrev flushed : List Record
  flushed = records_of (events_by k (part k p.list) flush)

  is_stopped : IsStopped k (p.caches k) c1 flush
  is_stopped = (answered (may_stop at) did).0

  -- nothing is said but the events of its flush
  quiet : piece (may_stop at) did ≡ flushed
  quiet = ap (λ (o : Option Said). flushed ++ said_by k o) (answered (may_stop at) did).1 ∙ append-nil flushed

  -- by an act that stops it, and of which `told` is said besides
  stops : (act : Act) (told : List Record) → Reaches f (act ∷ []) p (after_stop p k flush c1 told)
      → ThreadActs f k (act ∷ []) [] told (here σ c out) (here σ' c1 out') later p
  stops act told reaches =
      let q = after_stop p k flush c1 told in
      let moves : Moves k (AtRest f c) (AtRest f c1) σ σ' p q = record { steps = flush; list_is = refl; calls = calls_so (may_stop at) did } in
      record {
        reached = q;
        reaches = reaches;
        stands = rests_again (may_stop at) did moves refl refl (its_cache p.caches k c1);
        moves = moves;
        own = flushed;
        records_are = refl;
        pushed = pushed_so (may_stop at) did ∙ ap (λ (rs : List Record). records_in out ++ rs) quiet;
        room = did.room;
        each = events_of_piece k (part k p.list) flush;
        caches = λ j ne. other_cache p.caches k j c1 ne;
        books = refl;
        names = refl;
        epoch = refl;
        paid = omega (arith, ap (λ (rs : List Record). length rs) quiet, paid_so (may_stop at) did c1 refl);
      }

  -- as the replay closes
  pub has_ended : ThreadActs f k (Ends k ∷ []) [] [] (here σ c out) (here σ' c1 out') later p × (c1.locals ≡ [])
  has_ended = (stops (Ends k) [] (after_stop p k flush c1 [], (flush, c1, is_stopped, refl), refl), ap (λ (d : Cached). d.locals) is_stopped.cache)

  -- where it was idle for n epochs
  pub was_stopped : {n epoch : ℕ} → p.epoch ≡ epoch → c.idle_since + n ≤ epoch
      → ThreadActs f k (StopsIdle k n ∷ []) [] (stopped k) (here σ c out) (here σ' c1 out') later p
  was_stopped {n} read idle = search (arith, stops, is_stopped)

-- A thread that wasn't idle for long enough stays as it is, by the act of its stop.
pub has_stayed : {f : Profile} {k n epoch : ℕ} {σ : Standing} {c : Cached} {out : Records} {later : Later} {p : Progress} → RestsAt f k σ c out later p
    → p.epoch ≡ epoch → (c.idle_since + n ≤ epoch → ⊥)
    → ThreadActs f k (StopsIdle k n ∷ []) [] [] (here σ c out) (here σ c out) later p
has_stayed {f} {k} {n} {epoch} {σ} {c} {out} {later} {p} at read short = search (arith, call_none, append-nil)

-- ---- the epoch is read
pub has_begun : {f : Profile} {k : ℕ} {σ σ' : Standing} {c c' : Cached} {out : Records} {later : Later} {p : Progress} → RestsAt f k σ c out later p
    → Begins c c' σ σ' → (did : ThreadActs f k (Wakes k ∷ []) [] [] (here σ c out) (here σ' c' out) later p) × (did.own ≡ [])
has_begun {f} {k} {σ} {σ'} {c} {c'} {out} {later} {p} at did =
    let v = part k p.list in
    let steps = epoch_look did.epoch in
    let q = after_wake p k did.epoch in
    let calls : Calls σ σ' (AtRest f c) (λ v w. AtRest f c' w) steps =
    subst (λ (g : Profile). Calls σ σ' (AtRest g c) (λ v w. AtRest g c' w) steps) at.sits.profile did.calls in
    let agreed : Agreed f v steps = subst (λ (g : Profile). Agreed g v steps) at.sits.profile (calls.adds.agreed v p.list at.sits.stood at.sits.rest) in
    let moves : Moves k (AtRest f c) (AtRest f c') σ σ' p q = record { steps = steps; list_is = refl; calls = calls } in
    let unknown = unknown_no_more f steps v agreed in
    let mine = ap (λ (w : View). owed_events f c' w) (part_of_own k steps p.list) in
    let paid : 0 + owed_events f c' (part k q.list) ≤ 0 + owed_events f c v = omega (arith, unknown, ap (λ (d : Cached). length d.log) did.cache, mine) in
    let cache = its_cache p.caches k (begun (p.caches k) did.epoch) ∙ ap (λ (d : Cached). begun d did.epoch) at.cache ∙ sym did.cache in
    let pushed : records_in out ≡ records_in out ++ [] = sym (append-nil (records_in out)) in (
      record {
        reached = q;
        reaches = (q, (did.epoch, refl), refl);
        stands = rests_after 0 [] (rests_for at (omega arith) (omega arith)) moves cache pushed refl (omega arith) paid;
        moves = moves;
        own = [];
        records_are = sym (append-nil p.records);
        pushed = pushed;
        room = refl;
        each = tt;
        caches = λ j ne. other_cache p.caches k j (begun (p.caches k) did.epoch) ne;
        books = refl;
        names = refl;
        epoch = refl;
        paid = omega (arith, paid);
      },
      refl,
    )

-- ---- what a thread's acts leave as it was
pub leaves_rest : {f k acts told old new later p : _} → (did : ThreadActs f k acts [] told old new later p) → LeavesRest k p did.reached
leaves_rest {k = k} {p = p} did = search (arith, part_of_others)

-- A keeper and the scavenger at their desks: a guarded request that is tried, the close, and what the scavenger's acts come to.

-- ---- books of which that of one keeper became another
its_book : (books : Books) (k : ℕ) (guards : List Guard) → with_book books k guards k ≡ guards
its_book books k guards = ap (λ (b : Bool). if b then guards else books k) (eq-eqb k k refl)

-- A keeper's new book leaves that of every other actor as it was.
pub other_book : (books : Books) (k j : ℕ) (guards : List Guard) → j ≢ k → with_book books k guards j ≡ books j
other_book books k j guards ne = ap (λ (b : Bool). if b then guards else books j) (ne_eqb j k ne)

-- ---- a guarded request is answered
-- ---- at the desk
abbrev At : Profile → ℕ → Standing → GuardBook → Records → LaterKept → Progress → Type 0
At f k σ book out later p = KeeperAt f k (keeper_has σ book out) later p

-- what the keeper has in hand is said of its desk's seat
fits_seat : {f k σ book out later p : _} → At f k σ book out later p → FitsBook σ.seat.profile (guards_in book) (part k p.list)
fits_seat {k = k} {book = book} {p = p} at = subst (λ (g : Profile). FitsBook g (guards_in book) (part k p.list)) (sym at.sits.profile) at.sits.rest

-- what it owes then
sits_owing : {f : Profile} {k : ℕ} {Rest : View → Type 0} {σ : Standing} {l : Whole} {v : View} (n : ℕ) → part k l ≡ v
    → Sits f k Rest σ l (unknown_pages f v + n) → Sits f k Rest σ l (unknown_pages f (part k l) + n)
sits_owing {f} {k} {Rest} {σ} {l} {v} n mine s = subst (λ (w : View). Sits f k Rest σ l (unknown_pages f w + n)) (sym mine) s

-- the keeper is there still, while another actor makes steps
pub keeper_still : {f : Profile} {k : ℕ} {has has' : KeeperHas} {later : LaterKept} {p q : Progress} → HasStill has has' p.list q.list
    → part k q.list ≡ part k p.list → q.books k ≡ p.books k → KeeperAt f k has later p → KeeperAt f k has' later q
keeper_still {f} {k} {has} {has'} {later} {p} {q} still parts books at = search (arith, sits_still)

-- ---- a request is tried
pub may_try : {f : Profile} {k : ℕ} {σ : Standing} {book : GuardBook} {out : Records} {p : Progress} (later : LaterKept) (size spare : ℕ) → Spares σ spare
    → At f k σ book out (and_try size later) p → CanCall σ (MayTry σ.seat.profile book size spare out)
may_try {f} {k} {σ} {book} {out} {p} later size spare fits at =
    search arith

-- by whether a block was given
few_cost : (size : ℕ) (block : Option Block) → cost_of_try size block ≤ cost_of_size size + 2
few_cost size a = search arith

-- the book has one guard more at most
one_more : (f : Profile) (heap k : ℕ) (guards guards' : List Guard) (answer : Option Block) (steps : List Made)
    → RaiseSteps f heap k guards guards' answer steps → length guards' ≤ length guards + 1
one_more f heap k guards guards' answer steps h = grind (arith, length-append)

few_guards : (f : Profile) (keeper : ℕ) (r : Request) (v : View) (guards : List Guard) (t : Tried) → IsTried f keeper r v guards t
    → length t.guards ≤ length guards + 1
few_guards f keeper r v guards t is = omega (arith, swept_count, one_more)

-- A request that a keeper tried at its desk is one that it tried in the replay.
pub has_tried : {f k σ σ' book book' out out' p block : _} (later : LaterKept) (r : Request)
    → At f k σ book out (and_try r.size later) p → TriesRequest r book book' out out' σ σ' block → MayStand σ.seat.profile block
    → KeeperTries f k r block (keeper_has σ book out) (keeper_has σ' book' out') later p
has_tried {f} {k} {σ} {σ'} {book} {book'} {out} {out'} {p} {block} later r at did given =
    let v = part k p.list in
    let s = at.sits in
    let fits = fits_seat at in
    let steps = did.steps in
    let got = of_seat s (λ (j : ℕ) (g : Profile). (said : List Record)
    × IsTried g j r v (guards_in book) (record { steps = steps; records = said; block = block; guards = guards_in book' })
    × (records_in out' ≡ records_in out ++ said)
    × (length said + owed_by_keeper g (guards_in book') (steps ++ v) ≤ cost_of_try r.size block + owed_by_keeper g (guards_in book) v)) (did.tried v p.list s.stood fits) in
    let few = of_seat s (λ (j : ℕ) (g : Profile). length (events_by j v steps) + unknown_pages g (steps ++ v) ≤ cost_of_size r.size + unknown_pages g v)
    (did.few v fits (did.calls.adds.agreed v p.list s.stood fits)) in
    let calls : Calls σ σ' (FitsBook f (guards_in book)) (λ u w. FitsBook f (guards_in book') w) steps =
    subst (λ (g : Profile). Calls σ σ' (FitsBook g (guards_in book)) (λ u w. FitsBook g (guards_in book') w) steps) s.profile did.calls in
    let tried : Tried = record { steps = steps; records = got.0; block = block; guards = guards_in book' } in
    let mine : part k (after_trying p k tried).list ≡ steps ++ v = part_of_own k steps p.list in
    let owed = ap (λ (w : View). owed_by_keeper f (guards_in book') w) mine in
    let longer = ap (λ (rs : List Record). length rs) got.2 ∙ length-append (records_in out) got.0 in
    record {
      tried = tried;
      is = subst (λ (gs : List Guard). IsTried f k r v gs tried) (sym at.book) got.1;
      short = of_seat s (λ (j : ℕ) (g : Profile). length steps ≤ try_steps g r (guards_in book)) did.short;
      block_is = refl;
      given = subst (λ (g : Profile). MayStand g block) s.profile given;
      stands = record {
        sits = sits_owing later.events mine (sits_after s calls (omega (arith, few)));
        book = its_book p.books k (guards_in book');
        spare = omega (arith, longer, at.spare, did.room, owed, got.3, few_cost r.size block);
        places = omega (arith, at.places, did.size, few_guards f k r v (guards_in book) tried got.1);
      };
      moves = record { steps = steps; list_is = refl; calls = calls };
      pushed = got.2;
      room = did.room;
      size = did.size;
      each = try_each f k r v (guards_in book) tried got.1;
      paid = omega (arith, got.3, owed);
    }

-- ---- the close
pub may_lower : {σ : Standing} {f k book out later p : _} → At f k σ book out later p → CanCall σ (MayLowerAll σ.seat.profile book out)
may_lower {σ = σ} {f = f} {k = k} {book = book} {out = out} {later = later} {p = p} at =
    search (arith, fits_seat)

-- Guards that a keeper lowered at its desk are lowered in the replay.
pub has_lowered : {f : Profile} {k : ℕ} {σ σ' : Standing} {book book' : GuardBook} {out out' : Records} {later : LaterKept} {p : Progress}
    → At f k σ book out later p → LowersAll book book' out out' σ σ'
    → KeeperLowers f k (keeper_has σ book out) (keeper_has σ' book' out') later p
has_lowered {f} {k} {σ} {σ'} {book} {book'} {out} {out'} {later} {p} at did =
    let v = part k p.list in
    let s = at.sits in
    let fits = fits_seat at in
    let steps = did.steps in
    let lowered = of_seat s (λ (j : ℕ) (g : Profile). IsLowered g j v (guards_in book) steps did.said) (did.lowered v fits) in
    let calls : Calls σ σ' (FitsBook f (guards_in book)) (λ u w. FitsBook f (guards_in book') w) steps =
    subst (λ (g : Profile). Calls σ σ' (FitsBook g (guards_in book)) (λ u w. FitsBook g (guards_in book') w) steps) s.profile did.calls in
    let silent = ap (λ (es : List Event). length es) (no_events sweeping refl k v steps lowered.sweep.kinds) in
    let unknown = unknown_no_more f steps v (subst (λ (g : Profile). Agreed g v steps) s.profile (did.calls.adds.agreed v p.list s.stood fits)) in
    let q = after_lowering p k steps did.said in
    let mine : part k q.list ≡ steps ++ v = part_of_own k steps p.list in
    let none = ap (λ (gs : List Guard). length gs) did.none in
    let longer = ap (λ (rs : List Record). length rs) did.added ∙ length-append (records_in out) did.said in
    record {
      reached = q;
      reaches = (q, (steps, did.said, subst (λ (gs : List Guard). IsLowered f k v gs steps did.said) (sym at.book) lowered, refl), refl);
      stands = record {
        sits = sits_owing later.events mine (sits_after s calls (omega (arith, silent, unknown)));
        book = its_book p.books k [] ∙ sym did.none;
        spare = omega (arith, longer, at.spare, did.room, ap (λ (w : View). unknown_pages f w) mine, unknown, none, did.few);
        places = omega (arith, none, at.places, did.size);
      };
      none = did.none;
      moves = record { steps = steps; list_is = refl; calls = subst (λ (gs : List Guard). Calls σ σ' (FitsBook f (guards_in book)) (λ u w. FitsBook f gs w) steps) did.none calls };
      said = did.said;
      records_are = refl;
      pushed = did.added;
      room = did.room;
      size = did.size;
      each = swept_each true k (guards_in book) [] did.said steps lowered.sweep.swept;
      few = did.few;
      caches = refl;
      names = refl;
      books = λ j ne. other_book p.books k j [] ne;
    }

-- ---- before
pub can_scavenge : {f : Profile} {σ : Standing} {out : Records} {later : Later} {p : Progress} → HasRoomAt f σ out later p → CanCall σ HasNothing
can_scavenge {p = p} at = record { view = part 0 p.list; whole = p.list; stood = at.sits.stood; met = at.sits.rest }

-- ---- after
-- The scavenger did an act that pays for the events of its steps and for what is said: there is room again.
has_done : {f : Profile} {σ σ' : Standing} {out out' : Records} {p q : Progress} (act : Act) (later : Later) → HasRoomAt f σ out (for_act f act later) p
    → Reaches f (act ∷ []) p q → (moves : Moves 0 HasNothing HasNothing σ σ' p q) → (says : Says 0 out out' p q)
    → length (events_by 0 (part 0 p.list) moves.steps) ≤ unbacks_of_act f.pages act → length says.said ≤ cost_of_act f.pages act
    → q.caches ≡ p.caches → q.books ≡ p.books → q.names ≡ p.names → ScavengerActs f act σ σ' out out' later p
has_done {f} {σ} {σ'} {out} {out'} {p} {q} act later at reaches moves says few paid caches books names =
    let stands : HasRoomAt f σ' out' later q = record {
      sits = subst (λ (l : Whole). Sits f 0 HasNothing σ' l later.events) (sym moves.list_is) (sits_after at.sits moves.calls (omega (arith, few)));
      spare = omega (arith, ap (λ (rs : List Record). length rs) says.pushed ∙ length-append (records_in out) says.said, at.spare, says.room, paid);
    } in
    record { reached = q; reaches = reaches; stands = stands; moves = moves; says = says; caches = caches; books = books; names = names }

-- A tick that was answered is an act of the scavenger.
pub has_ticked : {f σ σ' out out' later p : _} (epoch : ℕ) → HasRoomAt f σ out (for_act f (Ticks epoch) later) p
    → AnswersTick epoch σ σ' (records_in out) (records_in out') → room_of out' ≡ room_of out → ScavengerActs f (Ticks epoch) σ σ' out out' later p
has_ticked {f} {σ} {σ'} {out} {out'} {later} {p} epoch at ticks room =
    let steps : List Made = made (Tick epoch) ticks.answer ∷ [] in
    let said : List Record = Record.Said 0 (Said.Tick (max ticks.answer epoch)) ∷ [] in
    let q = after_tick p epoch ticks.answer in
    let moves : Moves 0 HasNothing HasNothing σ σ' p q = record { steps = steps; list_is = refl; calls = subst (λ (ms : List Made). Calls σ σ' HasNothing (λ v w. HasNothing w) ms) ticks.steps_are ticks.calls } in
    let says : Says 0 out out' p q = record { said = said; records_are = refl; pushed = cc (ticks.raised 0); room = room; each = (λ k. refl, tt) } in
    has_done (Ticks epoch) later at (q, (ticks.answer, refl), refl) moves says (omega arith) (omega arith) refl refl refl

-- A pass that was answered is an act of the scavenger.
pub has_passed : {f : Profile} {σ σ' : Standing} {spare spare' : ℕ} {found : List (ℕ × Outcome)} {out out' : Records} {later : Later} {p : Progress}
    → HasRoomAt f σ out (for_act f MakesPass later) p
    → AnswersPass σ σ' spare spare' found (records_in out) (records_in out') → length (records_in out') ≤ length (records_in out) + (1 + f.pages)
    → room_of out' ≡ room_of out → ScavengerActs f MakesPass σ σ' out out' later p
has_passed {f} {σ} {σ'} {spare} {spare'} {found} {out} {out'} {later} {p} at pass short room =
    let epoch = pass.epoch in
    let steps = pass.passes.steps in
    let said = records_of_pass 0 epoch found in
    let q = after_pass p epoch found steps in
    let order : PassSteps f 0 epoch found steps = rw (at.sits.actor, at.sits.profile) at pass.passes.order in
    let added : records_in out' ≡ records_in out ++ said = pass.added ∙ ap (λ (k : ℕ). records_in out ++ records_of_pass k epoch found) at.sits.actor in
    let moves : Moves 0 HasNothing HasNothing σ σ' p q = record { steps = steps; list_is = refl; calls = pass.passes.calls } in
    let says : Says 0 out out' p q = record { said = said; records_are = refl; pushed = added; room = room; each = pass_of 0 epoch found } in
    let longer = ap (λ (rs : List Record). length rs) added ∙ length-append (records_in out) said in
    let size = length-map found (λ (x : ℕ × Outcome). record_of 0 epoch x.0 x.1) in
    let events = ap (λ (es : List Event). length es) (order.events (part 0 p.list)) in
    let few = few_unbacks 0 epoch (reverse found) in
    has_done MakesPass later at (q, (epoch, found, steps, order, refl), refl) moves says
    (omega (arith, events, few, length-reverse found, longer, size, short)) (omega (arith, longer, short)) refl refl refl

-- A look at the epoch is an act of the scavenger, which knows that epoch then.
pub has_read : {f : Profile} {σ σ' : Standing} {out : Records} {later : Later} {p : Progress} (epoch : ℕ) → HasRoomAt f σ out (for_act f ReadsEpoch later) p
    → Makes σ σ' (Look Word.Epoch) epoch
    → (did : ScavengerActs f ReadsEpoch σ σ' out out later p) × (did.reached.epoch ≡ epoch)
unfolding has_done
has_read {f} {σ} {σ'} {out} {later} {p} epoch at makes =
    let q = after_reading p epoch in
    let moves : Moves 0 HasNothing HasNothing σ σ' p q = record { steps = epoch_look epoch; list_is = refl; calls = reads epoch makes } in
    let says : Says 0 out out p q =
    record { said = []; records_are = sym (append-nil p.records); pushed = sym (append-nil (records_in out)); room = refl; each = tt } in
    (has_done ReadsEpoch later at (q, (epoch, refl), refl) moves says (omega arith) (omega arith) refl refl refl, refl)
