-- Workers in a row that take turns: threads read the epoch before a phase and are stopped at the close, one after the other; what they said is gathered, and
-- what a ledger heard of each, and of the benches that the hands of a phase left.
use Rattle.std.proofs.Common.{arith, ◌≡◌, ℕ, ◌<◌, List, [], ◌++◌, length, get_or, sym, ◌∙◌, subst, ◌≢◌, ◌∷◌, set, refl, ap, append_assoc, suc, ◌+◌, ◌-◌, ◌≤◌}
use Rattle.std.proofs.{Common.{true, false, map, length-append, append-nil, get_or-set_other, Option}, lemmas.Grind.get_or-set_at}
use Rattle.pas_threads.proofs.Common.{get_or_default, get_or_push, cases_eq, cases_lt, get_or-append, names_held, Progress, EachOf, records_by, owed_events}
use Rattle.pas_threads.proofs.Common.{records_both, none_by, all_by, reach_both, NameBook, StandsStill, Later, requests_in, room_for, here, ThreadActs}
use Rattle.pas_threads.proofs.Common.{leaves_rest, rests_still, HasTaken, standing_of_pass, HasLeft, HasSaid, AreDistinct, Came, Pushed, Told, TookNoPart, Turn}
use Rattle.pas_threads.proofs.Common.{TookTurns, owed_at, IsDue, WokeAll, Scavenger, Worker, Team, evenly, WorkerHas, WorkerRests, AreResting, HasPlaces}
use Rattle.pas_threads.proofs.Common.{HasHeard, HasBench, Round, ThreadDone, ScavengerDone, HeardOrder, IsHeard, Profile, Whole, part, Standing, Act, Wakes}
use Rattle.pas_threads.proofs.Common.{is_active, SharedRegion, SharedPass, Bench, Ledger, Entry, Row, AreEarlier, bases_in, is_set, Mask4, Cached, cached}
use Rattle.pas_threads.{proofs.Common.{records_in, room_of, Records, Record}, specs.{Settling.{IsButBench, SawMore, with_bench}, Taken.IsEmptied}}
use Rattle.pas_threads.specs.{Turns.{IsOwnGathered, IsKeptGathered, IsGathered, Woke}, Performing.HaveActed}
use Rattle.pas_acts.{specs.Awake.awake_in, proofs.ActsLeft.{acts_there, next_chosen, next_passed, none_left}}

-- the book took over what these workers asked for
pub record WereTaken (old new : List Worker) (book book' : NameBook) : Type 0 where
  pub taken : HasTaken book book' old
  pub held : names_held book'.names ≡ names_held book.names
  pub each : (i : ℕ) (d : Worker) → i < length old → IsEmptied (get_or old i d) (get_or new i d)
  pub many : length new ≡ length old

-- all that the worker said was gathered, and it asks for nothing; nothing else of it changed
pub record IsCleared (old new : Worker) : Type 0 where
  pub pass : new.pass ≡ old.pass
  pub cache : new.cache ≡ old.cache
  pub none : records_in new.out ≡ []
  pub room : room_of new.out ≡ room_of old.out
  pub keeper : HasSaid old.keeper new.keeper
  pub asked : requests_in new.requests ≡ []
  pub places : room_for new.requests ≡ room_for old.requests

-- A worker that was gathered, and whose requests were taken over, is cleared.
pub cleared : {old mid new : Worker} → IsGathered old mid → IsEmptied mid new → IsCleared old new
-- All of these are as the first left them, or as the second did.
cleared {new = new} g e = search arith

-- So is one that was gathered and asked for nothing.
pub cleared_silent : {old new : Worker} → IsGathered old new → requests_in old.requests ≡ [] → IsCleared old new
cleared_silent g none = assumption (ap requests_in g.requests ∙ none, ap room_for g.requests)

-- ---- acts one after the other
abbrev pub came_none : (f : Profile) (p : Progress) → Came f [] p
came_none f p = record { reached = p; reaches = refl; said = []; records_are = sym (append-nil p.records) }

abbrev pub came_both : {f : Profile} {xs ys : List Act} {p : Progress} (one : Came f xs p) → Came f ys one.reached → Came f (xs ++ ys) p
came_both {f} {xs} {ys} {p} one two = record {
  reached = two.reached;
  reaches = reach_both f xs ys p one.reached two.reached one.reaches two.reaches;
  said = one.said ++ two.said;
  records_are = two.records_are ∙ ap (λ (rs : List Record). rs ++ two.said) one.records_are ∙ append_assoc p.records one.said two.said;
}

-- An actor that said nothing of it leaves its records as they were.
pub pushed_none : {k : ℕ} {said : List Record} {out : Records} → records_by k said ≡ [] → Pushed k said out out
pushed_none {k} {said} {out} none = record { added = sym (append-nil (records_in out)) ∙ ap (λ rs. records_in out ++ rs) (sym none); room = refl }

-- What an actor said of two parts, one after the other, came to the end of its records.
pub pushed_both : {k : ℕ} {xs ys : List Record} {a b c : Records} → Pushed k xs a b → Pushed k ys b c → Pushed k (xs ++ ys) a c
pushed_both {k} {xs} {ys} {a} {b} {c} one two =
    let both = append_assoc (records_in a) (records_by k xs) (records_by k ys) in
    record { added = cc (two.added, one.added, both, records_both k xs ys); room = two.room ∙ one.room }

-- A worker of whose thread nothing is said is as it was.
pub told_none : {k : ℕ} {said : List Record} {w : Worker} → records_by k said ≡ [] → Told k said w w
told_none none = record { out = pushed_none none; requests = refl; keeper = refl }

-- What a worker's thread said of two parts came to the end of its records.
pub told_both : {k : ℕ} {xs ys : List Record} {a b c : Worker} → Told k xs a b → Told k ys b c → Told k (xs ++ ys) a c
told_both one two = record { out = pushed_both one.out two.out; requests = two.requests ∙ one.requests; keeper = two.keeper ∙ one.keeper }

-- An actor that took part in neither of two parts took no part in both.
pub no_part_both : {k : ℕ} {xs ys : List Record} {p q r : Progress} → TookNoPart k xs p q → TookNoPart k ys q r → TookNoPart k (xs ++ ys) p r
no_part_both {k} {xs} {ys} one two =
    record { part_is = two.part_is ∙ one.part_is; silent = records_both k xs ys ∙ ap (λ rs. rs ++ records_by k ys) one.silent ∙ two.silent }

-- ---- which acts are left of all
-- the first ones were done so, and these are left
pub record SoFar (all left : List Act) (Done : List Act → Type 0) : Type 0 where
  pub acts : List Act
  pub whole : acts ++ left ≡ all
  pub done : Done acts

-- Before the first act all acts are left.
pub at_first : {all : List Act} {Done : List Act → Type 0} → Done [] → SoFar all all Done
at_first did = record { acts = []; whole = refl; done = did }

-- After some acts of those left, what was done is one part more.
pub goes_on : {all left rest : List Act} {Done Done' : List Act → Type 0} (head : List Act) → left ≡ head ++ rest → (so : SoFar all left Done)
    → Done' (so.acts ++ head) → SoFar all rest Done'
goes_on {all} {left} {rest} head is so did = record {
  acts = so.acts ++ head;
  whole = append_assoc so.acts head rest ∙ ap (λ (acts : List Act). so.acts ++ acts) (sym is) ∙ so.whole;
  done = did;
}

passes_on : {all left rest : List Act} {Done : List Act → Type 0} → left ≡ rest → SoFar all left Done → SoFar all rest Done
passes_on is so = record { acts = so.acts; whole = ap (λ (acts : List Act). so.acts ++ acts) (sym is) ∙ so.whole; done = so.done }

-- Once no act is left, all are done.
pub at_last : {all left : List Act} {Done : List Act → Type 0} → left ≡ [] → SoFar all left Done → Done all
at_last {Done = Done} none so = subst Done (sym (append-nil so.acts) ∙ ap (λ (acts : List Act). so.acts ++ acts) (sym none) ∙ so.whole) so.done

-- ---- one of the row becomes another
pub set_each : {A : Type 0} (Is : ℕ → A → Type 0) (now : List A) (i : ℕ) (w e : A) (j : ℕ) → i < length now → Is i w → (j ≢ i → Is j (get_or now j e))
    → Is j (get_or (set now i w) j e)
set_each {A} Is now i w e j lt this others = search (arith, cases_eq, get_or-set_at, get_or-set_other)

-- .. or one more comes behind it
pub each_pushed : {A : Type 0} (Is : ℕ → A → Type 0) (old : List A) {new : List A} (w : A) → new ≡ old ++ w ∷ [] → Is (length old) w
    → ((i : ℕ) (d : A) → i < length old → Is i (get_or old i d)) → (i : ℕ) (d : A) → i < length new → Is i (get_or new i d)
each_pushed {A} Is old w is this all i d lt = search (arith, cases_lt, get_or-append, get_or_push, length-append)

-- ---- a turn
-- who stands does so at each progress at which it has the same in hand
abbrev pub Stays : (ℕ → ℕ) → (ℕ → Worker → Progress → Type 0) → Type 0
Stays number Stands = (i : ℕ) (w : Worker) (q r : Progress) → part (number i) r.list ≡ part (number i) q.list → r.caches (number i) ≡ q.caches (number i) → r.names ≡ q.names → Stands i w q → Stands i w r

abbrev pub no_turn : {f : Profile} {number : ℕ → ℕ} {Stands : ℕ → Worker → Progress → Type 0} {old : List Worker} {p : Progress}
    → ((i : ℕ) (d : Worker) → i < length old → Stands i (get_or old i d) p) → TookTurns f number Stands [] old old p
no_turn {f} {number} {Stands} {old} {p} at = record { came = came_none f p; stand = at; told = λ i d lt. told_none refl; leaves = record { parts = λ k other. refl; silent = λ k some other. refl; names = refl; books = refl; epoch = refl } }

-- the worker at this place acted, and the others stand as they did
abbrev pub acts_in_turn : {f : Profile} {number : ℕ → ℕ} {Stands : ℕ → Worker → Progress → Type 0} {acts : List Act} {act : Act} {told : List Record}
    {old now : List Worker} {later : Later} {p : Progress} {σ τ : Standing}
    → Stays number Stands → AreDistinct number (length old) → EachOf 0 told
    → (i : ℕ) (d w : Worker) → i < length old → length now ≡ length old → (so : TookTurns f number Stands acts old now p)
    → (x : ThreadActs f (number i) (act ∷ []) [] told (here σ (cached (get_or now i d).cache) (get_or now i d).out)
    (here τ (cached w.cache) w.out) later so.came.reached)
    → w.requests ≡ (get_or now i d).requests → w.keeper ≡ (get_or now i d).keeper → Stands i w x.reached
    → TookTurns f number Stands (acts ++ (act ∷ [])) old (set now i w) p
acts_in_turn {f} {number} {Stands} {act = act} {told} {old} {now} stays apart theirs i d w lt many so x requests keeper stands =
    let k = number i in
    let one : Came f (act ∷ []) so.came.reached = record { reached = x.reached; reaches = x.reaches; said = x.own ++ told; records_are = x.records_are } in
    let leaves = leaves_rest x in
    let place : i < length now = omega (arith, lt, many) in
    let both = λ (j : ℕ). records_both j x.own told in
    let others : (j : ℕ) → 0 ≢ j → k ≢ j → records_by j (x.own ++ told) ≡ [] =
    λ j some ne. cc (both j, none_by j k x.own x.each ne, none_by j 0 told theirs some) in
    let own : records_by k (x.own ++ told) ≡ x.own = cc (both k, all_by k x.own x.each, none_by k 0 told theirs (apart.threads i lt), append-nil x.own) in
    let mine : Told k (x.own ++ told) (get_or now i d) w = record {
      out = record { added = x.pushed ∙ ap (λ rs. records_in (get_or now i d).out ++ rs) (sym own); room = x.room };
      requests = requests;
      keeper = keeper;
    } in
    record {
      came = came_both so.came one;
      stand = λ j e less. set_each (λ (m : ℕ) (y : Worker). Stands m y x.reached) now i w e j place stands
          (λ ne. stays j (get_or now j e) so.came.reached x.reached (leaves.parts (number j) (apart.apart j i less lt ne)) (leaves.caches (number j) (apart.apart j i less lt ne)) leaves.names (so.stand j e less));
      told = λ j e less. set_each (λ (m : ℕ) (y : Worker). Told (number m) (so.came.said ++ (x.own ++ told)) (get_or old m e) y) now i w e j place
          (told_both (so.told i e lt) (subst (λ (y : Worker). Told k (x.own ++ told) y w) (get_or_default now i d e place) mine))
          (λ ne. told_both (so.told j e less) (told_none (others (number j) (apart.threads j less) (apart.apart i j lt less (λ is. ne (sym is))))));
      leaves = record {
        parts = λ j other. leaves.parts j (λ (same : j ≡ k). other i lt (sym same)) ∙ so.leaves.parts j other;
        silent = λ j some other. records_both j so.came.said (x.own ++ told) ∙ ap (λ rs. rs ++ records_by j (x.own ++ told)) (so.leaves.silent j some other) ∙ others j some (other i lt);
        names = leaves.names ∙ so.leaves.names;
        books = x.books ∙ so.leaves.books;
        epoch = leaves.epoch ∙ so.leaves.epoch;
      };
    }

-- ---- a worker at rest
-- with its pass an actor stands where it has the same part, whatever others did
pub pass_still : (pass : SharedPass) {l m : Whole} → StandsStill (standing_of_pass pass) (standing_of_pass pass) l m
pass_still pass = record { seat_is = refl; stands = λ stood same. stood ∙ sym same }

-- so does its worker
pub has_still : {region f k worker later : _} {p q : Progress} → part k q.list ≡ part k p.list → q.caches k ≡ p.caches k → WorkerHas region f k worker later p
    → WorkerHas region f k worker later q
has_still parts caches at = record { has = at.has; rests = rests_still (pass_still at.has.pass) parts caches at.rests }

-- What it owes is what its cache and its part of the list say.
pub owed_now : {region f k worker later : _} {q : Progress} → WorkerHas region f k worker later q
    → owed_at f k q ≡ owed_events f (cached worker.cache) (part k q.list)
owed_now {f = f} {k} {q = q} at = ap (λ (c : Cached). owed_events f c (part k q.list)) at.rests.cache

-- it rests at each progress at which it has the same in hand, and owes the same
pub same_rests : {region : SharedRegion} {f : Profile} {k later : ℕ} {worker : Worker} {p q : Progress} → part k q.list ≡ part k p.list
    → q.caches k ≡ p.caches k → WorkerRests region f k worker later p → WorkerRests region f k worker later q
same_rests parts caches at = record { here = has_still parts caches at.here; said = at.said; asked = at.asked; requests = at.requests }

-- what it said is gathered, and its requests were taken over: it rests with room for less, where that and what it owes fit
pub rests_clear : {region : SharedRegion} {f : Profile} {k n : ℕ} {later : Later} {w new : Worker} {p : Progress} → WorkerHas region f k w later p
    → new.pass ≡ w.pass → new.cache ≡ w.cache → records_in new.out ≡ [] → n ≤ later.events
    → owed_at f k p + n ≤ room_of new.out → requests_in new.requests ≡ [] → n ≤ room_for new.requests → WorkerRests region f k new n p
rests_clear {region} {f} {k} {n} {later} {w} {new} {p} at pass cache none events spare asked requests =
    let same : cached w.cache ≡ cached new.cache = ap cached (sym cache) in
    let owed = ap (λ (c : Cached). owed_events f c (part k p.list)) (at.rests.cache ∙ same) in
    record {
      here = record {
        has = record { pass = at.has.pass; present = pass ∙ at.has.present; of = at.has.of };
        rests = search arith fits 400;
      };
      said = none;
      asked = asked;
      requests = requests;
    }

-- A thread with the same part of the list and the same cache owes the same.
pub same_owed : (f : Profile) (p q : Progress) (k : ℕ) → part k q.list ≡ part k p.list → q.caches k ≡ p.caches k → owed_at f k q ≡ owed_at f k p
same_owed f p q k parts caches = ap (owed_events f (q.caches k)) parts ∙ ap (λ (c : Cached). owed_events f c (part k p.list)) caches

-- A thread's worker that takes no part in what others do is due as it was.
due_stays : {region : SharedRegion} {f : Profile} {later : ℕ → ℕ} {p : Progress} → Stays suc (IsDue region f later p)
due_stays {region} {f} {later} {p} i w q r parts caches names at =
    record { here = has_still parts caches at.here; paid = omega (arith, same_owed f q r (suc i) parts caches, at.paid) }

-- ---- before a phase
-- those of the mask before this place read the epoch
abbrev pub WokeSoFar : SharedRegion → Profile → Mask4 → ℕ → List Worker → List Worker → (ℕ → ℕ) → Progress → Type 0
WokeSoFar region f awake i old now later p =
    SoFar (acts_there Wakes (is_set awake) 0 (length old) []) (acts_there Wakes (is_set awake) i (length old) []) (λ acts. Woke region f acts old now later p)

-- Before any thread reads the epoch, none has.
pub wakes_begin : (awake : Mask4) {region f old later p : _} → AreResting region f old later p → WokeSoFar region f awake 0 old old later p
wakes_begin awake at =
    at_first (record { turns = no_turn (λ i d lt. record { here = (at i d lt).here; paid = omega (arith, ap length (at i d lt).said) }); silent = refl })

-- After one more thread of the mask read the epoch, one more did.
pub wakes_go_on : (awake : Mask4) {region : SharedRegion} {f : Profile} {old now : List Worker} {later : ℕ → ℕ} {p : Progress} (i : ℕ) (d w : Worker)
    → is_set awake (i + 1) ≡ true → (so : WokeSoFar region f awake i old now later p) → i < length old → length now ≡ length old
    → (t : Turn region f (suc i) (Wakes (suc i)) [] (get_or now i d) w (evenly (later (suc i))) so.done.turns.came.reached) → t.did.does.own ≡ []
    → WokeSoFar region f awake (i + 1) old (set now i w) later p
wakes_go_on awake {region} {f} {old} {now} {later} {p} i d w on so lt many t none =
    let k = suc i in
    let turns = so.done.turns in
    let x = t.did.does in
    let was = turns.stand i d lt in
    let longer = ap length x.pushed ∙ length-append (records_in (get_or now i d).out) x.own in
    let here : WorkerHas region f k w (evenly (later k)) x.reached = record { has = t.did.after; rests = x.stands } in
    let woke : Woke region f (so.acts ++ (Wakes k ∷ [])) old (set now i w) later p = record {
      turns = acts_in_turn due_stays (search arith) tt i d w lt many turns x t.requests t.keeper
          (record { here = here; paid = omega (arith, longer, owed_now here, owed_now was.here, x.paid, was.paid) });
      silent = ap (λ rs. turns.came.said ++ (rs ++ [])) none ∙ append-nil turns.came.said ∙ so.done.silent;
    } in
    goes_on (Wakes (i + 1) ∷ []) (next_chosen Wakes (is_set awake) i (length old) [] lt on) so
    (subst (λ m. Woke region f (so.acts ++ (Wakes m ∷ [])) old (set now i w) later p) (let is : k ≡ i + 1 = omega arith in is) woke)

-- A thread that isn't in the mask is passed over.
pub wakes_pass : (awake : Mask4) {region : SharedRegion} {f : Profile} {old now : List Worker} {later : ℕ → ℕ} {p : Progress} (i : ℕ)
    → is_set awake (i + 1) ≡ false → i < length old → WokeSoFar region f awake i old now later p → WokeSoFar region f awake (i + 1) old now later p
wakes_pass awake {old = old} i off lt so = passes_on (next_passed Wakes (is_set awake) i (length old) [] lt off) so

-- Once each place was passed, all threads of the mask have read the epoch.
pub wakes_end : (awake : Mask4) {region : SharedRegion} {f : Profile} {old now : List Worker} {later : ℕ → ℕ} {p : Progress} (i : ℕ) → length old ≤ i
    → WokeSoFar region f awake i old now later p → WokeAll region f awake old now later p
wakes_end awake {region} {f} {old} {now} {later} {p} i le so =
    let n = length old in
    let whole : n - 0 ≡ n = omega arith in
    let all : acts_there Wakes (is_set awake) 0 n [] ≡ map Wakes (awake_in awake n) = rw (whole, append-nil) in
    subst (λ (acts : List Act). Woke region f acts old now later p) all (at_last (none_left Wakes (is_set awake) i n [] le) so)

-- they rest again
pub woke_rest : {region : SharedRegion} {f : Profile} {acts : List Act} {old now : List Worker} {later : ℕ → ℕ} {p : Progress} → length now ≡ length old
    → AreResting region f old later p → (woke : Woke region f acts old now later p) → AreResting region f now later woke.turns.came.reached
woke_rest {region} {f} {acts} {old} {now} {later} {p} many at woke i d lt =
    let less : i < length old = omega (arith, lt, many) in
    search (arith, at i d less, woke.turns.told i d less, woke.turns.stand i d less, woke.silent)

-- ---- what is gathered
-- a worker that was gathered for its thread and then for its keeper
pub gathered : {old mid new : Worker} → IsOwnGathered old mid → IsKeptGathered mid new → IsGathered old new
-- All of these are as the first left them, or as the second did.
gathered {new = new} g h = search arith

-- what was seen before, and what came to it
pub looks_apart : (es ds : List (List Entry)) (l : Whole) → AreEarlier (es ++ ds) l → AreEarlier es l × AreEarlier ds l
looks_apart [] ds l all = (tt, all)
looks_apart (e ∷ es) ds l all = let rest = looks_apart es ds l all.1 in ((all.0, rest.0), rest.1)

-- ---- the ledger heard of the benches that the hands of a phase left
-- A bench was left in its slot, of the same region.
pub bench_left : {region slot chosen told told' : _} → HasLeft region slot chosen told told' → HasBench region slot
bench_left left = record { bench = left.bench; present = left.present; of = left.of }

-- .. so it heard the order in which its actors made their steps
heard_order : {region ledger slot chosen told told' : _} → HasLeft region slot chosen told told' → HasHeard ledger slot → HeardOrder ledger chosen told told'
heard_order left heard = record {
  base = left.base;
  order = left.order;
  first = λ l begins. (subst (λ (rs : List Row). AreEarlier (bases_in rs) l) left.rows (heard left.bench left.present l begins)).0;
}

-- A ledger that saw more has heard of each bench of which it heard before.
pub heard_still : (old new : Ledger) {slot : Option Bench} → SawMore old new → HasHeard old slot → HasHeard new slot
heard_still old new saw heard bench is l begins = heard bench is l (saw l begins)

-- nothing that a thread did is about its bench
thread_but : {region r k old new new' said q : _} → IsButBench new new' → ThreadDone region r k old new said q → ThreadDone region r k old new' said q
thread_but {region} {r} {k} {old} {new} {new'} {said} {q} same done =
    let stands : WorkerHas region r.profile k (with_bench new new'.bench) (r.later k) q = record { has = done.stands.has; rests = done.stands.rests } in
    subst (λ (w : Worker). ThreadDone region r k old w said q) (sym same) assumption

-- the scavenger with this in place of its bench
abbrev pub scavenger_with : Scavenger → Option Bench → Scavenger
scavenger_with v bench = record { pass = v.pass; outcomes = v.outcomes; out = v.out; lent = v.lent; bench = bench }

-- Once the ledger heard of each bench that was left, all operations of the phase are done in an order that it knows.
pub is_heard : {region : SharedRegion} {ledger : Ledger} {r : Round} {old new : Team} (new' : Team) (freed : Option Bench) (acted : HaveActed region r old new)
    → ((i : ℕ) (d : Worker) → i < length new.threads.items → IsButBench (get_or new.threads.items i d) (get_or new'.threads.items i d))
    → length new'.threads.items ≡ length new.threads.items → new'.scavenger ≡ scavenger_with new.scavenger freed → new'.book ≡ new.book
    → HasPlaces r.threads new'
    → ((i : ℕ) (d : Worker) → i < length new.threads.items → is_active r.ops (suc i) ≡ true → HasHeard ledger (get_or new.threads.items i d).bench)
    → (is_active r.ops 0 ≡ true → HasHeard ledger new.scavenger.bench) → IsHeard region ledger r old new'
is_heard {region} {ledger} {r} {old} {new} new' freed acted same many scavenger book places threads own = record {
  done = record {
    pieces = λ w.
        let p = (acted.pieces w).piece in
        record {
          own = p.own;
          threads = λ i d lt whose. thread_but (same i d (omega (arith, lt, acted.many))) (p.threads i d lt whose);
          scavenger = λ is. subst (λ (v : Scavenger). ScavengerDone region r old.scavenger v p.own.said p.own.reached) (sym scavenger) (p.scavenger is);
          still = p.still;
        };
    many = many ∙ acted.many;
    none = ap (λ (v : Scavenger). v.lent.items) scavenger ∙ acted.none;
    book = book ∙ acted.book;
    places = places;
  };
  threads = λ i d lt on. heard_order ((acted.pieces (suc i)).left i d refl lt on) (threads i d (omega (arith, lt, acted.many)) on);
  scavenger = λ on. heard_order ((acted.pieces 0).crew_left refl on) (own on);
}
