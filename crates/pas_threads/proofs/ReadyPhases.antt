-- What a phase of the team begins with: what its acts cost, owe and say in all; its threads read the epoch, its names are noted, and all hands are ready.
use Rattle.std.proofs.Common.{◌≡◌, ◌≢◌, ℕ, zero, suc, ◌+◌, ◌<◌, ◌≤◌, ◌==◌, true, if◌then◌else◌, List, [], ◌∷◌, ◌++◌, length, get_or, Option, refl, ap, sym, ◌∙◌}
use Rattle.std.proofs.{Common.{arith, append_assoc, length-append, ◌-◌, subst, MatchOption, is_some, false, map, nat_lt}, lemmas.Bool.Decides.nat_tests}
use Rattle.std.specs.Vec.{with_items}
use Rattle.pas_threads.proofs.Common.{false≢true, or_right, with_items_is, get_or-map, Profile, keeper_in, records_of_ops, own_records, all_ops, Work, Op}
use Rattle.pas_threads.proofs.Common.{act_kept, own_acts, scavenger_acts, idle_threads, is_active, own_both, Progress, records_by, by_actors, costs_of}
use Rattle.pas_threads.proofs.Common.{own_costs_of, all_front, idle_few, sits_still, sits_for, sound_front, LaterKept, for_guards, Later, NamesAt, names_asked}
use Rattle.pas_threads.proofs.Common.{NameBook, owed_kept, keeper_at, AreGuarded, no_more, owed_by, Session, planned, WorkerRests, AreResting, ScavengerRests}
use Rattle.pas_threads.proofs.Common.{HasPlaces, TeamAt, WorkersRest, owed_at, said_kept, said_by_keepers, WokeAll, Worker, Team, Scavenger, WorkerAt}
use Rattle.pas_threads.proofs.{Common.{ActorsStand, Round, round, IsReady, Mask4, Whole, part, SharedRegion, Record, room_of}, Closing.turns_stand}
use Rattle.pas_threads.proofs.{Staging.team_stands, TakingTurns.{woke_rest, owed_now}, Keepers.{guarded_alike, kept_waits, kept_still, none_there}}
use Rattle.pas_threads.specs.{Turns.said_by, Performing.ScavengerHas}
use Rattle.pas_answers.{specs.Fit.{own_cost_of_act, cost_of_work, cost_of_what}, proofs.SingleActs.sum_both}
use Rattle.pas_trace.specs.{EveryPlan.{records_of_what, records_of_work}, EveryPhase.FreesItsOwn}
use Rattle.pas_acts.{proofs.{ActsOfPlan.work_costs, Naming.names_before}, specs.NameBooks.ArePlaced}

-- ---- a thread
cost_le : (f : Profile) (work : Work) → cost_of_work work ≤ records_of_work f work
-- Case by case.
cost_le f a = search arith

own_kept : (o : Option ℕ) (k : ℕ) (op : Op) → own_cost_of_act k (act_kept o op) ≡ (if op.actor == k then cost_of_what op.what else 0)
-- With one and without one.
own_kept a k op = search arith

-- its acts cost no more than its operations
pub own_costs : (f : Profile) (k : ℕ) (ops : List Op) → own_costs_of k (own_acts k ops) ≤ own_records f k ops
own_costs f k [] = omega arith
own_costs f k (op ∷ ops) = search (arith, own_kept, cost_le, op.actor == k, own_costs f k ops)

-- ---- the scavenger
-- What the scavenger's acts of a phase cost is at most the records that its operations are counted for.
pub scavenger_costs : (f : Profile) (threads : ℕ) (idle : List ℕ) (ops : List Op) → length idle ≤ threads
    → costs_of f.pages (scavenger_acts idle ops) ≤ own_records (record f { threads = threads }) 0 ops
scavenger_costs f threads idle [] few = omega arith
scavenger_costs f threads idle (op ∷ ops) few =
    search (arith, sum_both, work_costs (record f { threads = threads }), op.actor == 0, scavenger_costs f threads idle ops few)

-- ---- all actors
-- what the operations of the first n threads make
abbrev pub own_by : Profile → List Op → ℕ → ℕ
own_by f ops zero = 0
own_by f ops (suc n) = own_records f (suc n) ops + own_by f ops n

-- so many of one actor's, counted for the first n threads
abbrev those_of : ℕ → ℕ → ℕ → ℕ
those_of actor count zero = 0
those_of actor count (suc n) = (if actor == suc n then count else 0) + those_of actor count n

one_more : (f : Profile) (op : Op) (ops : List Op) (n : ℕ) → own_by f (op ∷ ops) n ≡ those_of op.actor (records_of_what f op.what) n + own_by f ops n
one_more f op ops zero = omega arith
one_more f op ops (suc n) = let rest = one_more f op ops n in omega (arith, rest)

-- .. of one of them all, and of none past them
once : (actor count n : ℕ) → (if actor == 0 then count else 0) + those_of actor count n ≡ (if nat_lt n actor then 0 else count)
once actor count zero = grind (arith, nat_tests)
once actor count (suc n) = let rest = once actor count n in grind (arith, rest, nat_tests)

own_none : (f : Profile) (n : ℕ) → own_by f [] n ≡ 0
own_none f zero = refl
own_none f (suc n) = let rest = own_none f n in omega (arith, rest)

-- all actors' operations are among all
pub own_all : (f : Profile) (ops : List Op) (n : ℕ) → own_records f 0 ops + own_by f ops n ≤ records_of_ops f ops
own_all f [] n = let none = own_none f n in omega (arith, none)
own_all f (op ∷ ops) n =
    grind (arith, own_all f ops n, one_more, once)

-- ---- what they said
by_last : (k n : ℕ) (rs : List Record) → length (by_actors k (suc n) rs) ≡ length (by_actors k n rs) + length (records_by (k + n) rs)
by_last k zero rs =
    search (arith, length-append)
by_last k (suc n) rs =
    let rest = by_last (k + 1) n rs in grind (arith, rest, length-append)

-- what a thread and its keeper owe, which is the worker's at this place
abbrev pub owed_pair : Session → List Worker → Progress → ℕ → ℕ
owed_pair s workers p i = owed_at s.profile (suc i) p + owed_kept s.profile (s.threads + suc i) (keeper_at workers i) p

-- Each thread and its keeper said no more than what they owed before, and the thread's operations, pay for, with what they owe afterwards: so all did.
pub all_paid : (s : Session) (ops : List Op) (said : List Record) (old new : List Worker) (p q : Progress) (n : ℕ)
    → ((i : ℕ) → i < n → length (records_by (suc i) said) + length (records_by (s.threads + suc i) said) + owed_pair s new q i
    ≤ owed_pair s old p i + own_records (planned s) (suc i) ops)
    → length (by_actors 1 n said) + length (by_actors (s.threads + 1) n said) + owed_by s new q n ≤ owed_by s old p n + own_by (planned s) ops n
all_paid s ops said old new p q zero few = omega arith
all_paid s ops said old new p q (suc n) few =
    grind (arith, all_paid s ops said old new p q n, by_last)

-- Where each thread and its keeper owe at most what they owed, all together do.
pub owed_less : (s : Session) (old new : List Worker) (p q : Progress) (n : ℕ) → ((i : ℕ) → i < n → owed_pair s new q i ≤ owed_pair s old p i)
    → owed_by s new q n ≤ owed_by s old p n
owed_less s old new p q zero less = omega arith
owed_less s old new p q (suc n) less =
    grind (arith, owed_less s old new p q n)

-- ---- workers that said what is theirs
pub said_in_order : (says : Worker → List Record) (k : ℕ) (workers : List Worker) (said : List Record)
    → ((i : ℕ) (d : Worker) → i < length workers → says (get_or workers i d) ≡ records_by (k + i) said)
    → said_by says workers ≡ by_actors k (length workers) said
said_in_order says k [] said each = refl
said_in_order says k (w ∷ ws) said each =
    let same : k + 0 ≡ k = omega arith in
    let later = λ (i : ℕ) (d : Worker) (lt : i < length ws). each (suc i) d (omega (arith, lt))
    ∙ ap (λ j. records_by j said) (let is : k + suc i ≡ k + 1 + i = omega arith in is) in
    cc (each 0 w (omega arith), same, said_in_order says (k + 1) ws said later)

none_said : (workers : List Worker) → ((i : ℕ) (d : Worker) → i < length workers → is_some (get_or workers i d).keeper ≡ false) → said_by_keepers workers ≡ []
none_said [] none = refl
none_said (w ∷ ws) none = cc (none_there w.keeper (none 0 w (omega arith)), none_said ws (λ i d lt. none (suc i) d (omega (arith, lt))))

-- .. for their keepers, of which there may be none
pub kept_in_order : (threads : ℕ) {keepers : ℕ} (workers : List Worker) (said : List Record) → AreGuarded keepers workers
    → ((i : ℕ) (d : Worker) → i < length workers → said_kept (get_or workers i d) ≡ records_by (threads + suc i) said)
    → said_by_keepers workers ≡ by_actors (threads + 1) keepers said
kept_in_order threads {keepers} workers said guarded each = search (arith, said_in_order, none_said)

-- what the keepers said is not more than what so many actors behind the threads said
pub kept_few : (threads : ℕ) {keepers : ℕ} (workers : List Worker) (said : List Record) → AreGuarded keepers workers
    → length (by_actors (threads + 1) keepers said) ≤ length (by_actors (threads + 1) (length workers) said)
-- With a keeper each and without any.
kept_few threads {keepers} workers said guarded = search arith

-- those of so many actors are those of more, where none of the others said anything
by_fewer : (k n m : ℕ) (said : List Record) → n ≤ m → ((j : ℕ) → k + n ≤ j → records_by j said ≡ []) → by_actors k m said ≡ by_actors k n said
by_fewer k zero zero said le none = refl
by_fewer k zero (suc m) said le none = cc (none k (omega arith), by_fewer (k + 1) zero m said (omega arith) (λ j far. none j (omega (arith, far))))
by_fewer k (suc n) zero said bad none = absurd (omega (arith, bad))
by_fewer k (suc n) (suc m) said le none = cc (by_fewer (k + 1) n m said (omega (arith, le)) (λ j far. none j (omega (arith, far))))

-- those of some and then of others
by_both : (k n m : ℕ) (said : List Record) → by_actors k (n + m) said ≡ by_actors k n said ++ by_actors (k + n) m said
by_both k zero m said =
    ap (λ l. by_actors k l said) (let is : 0 + m ≡ m = omega arith in is) ∙ ap (λ j. by_actors j m said) (let is : k ≡ k + 0 = omega arith in is)
by_both k (suc n) m said =
    let at : k + 1 + n ≡ k + suc n = omega arith in
    ap (λ (l : ℕ). by_actors k l said) (let is : suc n + m ≡ suc (n + m) = omega arith in is)
    ∙ cc (by_both (k + 1) n m said, at, append_assoc (records_by k said) (by_actors (k + 1) n said) (by_actors (k + suc n) m said))

-- all that was said: by the scavenger, by the threads, and by the keepers behind them
pub by_all : (threads keepers most : ℕ) (said : List Record) → threads + keepers ≤ most → ((k : ℕ) → threads + keepers < k → records_by k said ≡ [])
    → by_actors 0 (most + 1) said ≡ records_by 0 said ++ (by_actors 1 threads said ++ by_actors (threads + 1) keepers said)
by_all threads keepers most said le none =
    ap (λ (l : ℕ). by_actors 0 l said) (let is : most + 1 ≡ suc most = omega arith in is)
    ∙ ap (λ rs. records_by 0 said ++ rs) (by_fewer 1 (threads + keepers) most said le (λ j far. none j (omega (arith, far))) ∙ by_both 1 threads keepers said
    ∙ ap (λ (k : ℕ). by_actors 1 threads said ++ by_actors k keepers said) (let is : 1 + threads ≡ threads + 1 = omega arith in is))

-- ---- rooms
-- what the worker at this place has room for
abbrev pub room_at : List Worker → ℕ → ℕ
room_at ws i = get_or (map (λ (w : Worker). room_of w.out) ws) i 0

pub room_is : (ws : List Worker) (i : ℕ) (d : Worker) → i < length ws → room_at ws i ≡ room_of (get_or ws i d).out
room_is ws i d lt = get_or-map (λ (w : Worker). room_of w.out) ws i d 0 lt

-- for how many records each actor has room, beside those that its acts make in the phase and those that it owes
abbrev pub spare_beside : Session → List Op → Team → Progress → ℕ → ℕ
spare_beside s ops team q zero = room_of team.scavenger.out - costs_of s.profile.pages (scavenger_acts (idle_threads s.threads ops) ops)
spare_beside s ops team q (suc i) = room_at team.threads.items i - (owed_at s.profile (suc i) q + own_costs_of (suc i) (own_acts (suc i) ops))

abbrev pub later_beside : Session → List Op → List Op → Team → Progress → ℕ → Later
later_beside s ops left team q k = record { events = own_records (planned s) k left; records = spare_beside s ops team q k }

-- .. and each keeper for the guarded requests of the phases after it
abbrev pub more_beside : List Op → ℕ → LaterKept
more_beside left k = for_guards (own_acts k left) no_more

-- what the team's hands go by from there on, with the phases after it left
abbrev pub round_of : Session → List Op → List (List Op) → Team → Progress → Round
round_of s ops rest team q = round s team.book ops (later_beside s ops (all_ops rest) team q) (more_beside (all_ops rest)) q

-- ---- whose the operations are
pub active_front : (k : ℕ) (ops left : List Op) → is_active ops k ≡ true → is_active (ops ++ left) k ≡ true
active_front k [] left on = absurd (false≢true on)
active_front k (op ∷ ops) left on = search (arith, op.actor == k, active_front k ops left)

pub active_back : (k : ℕ) (ops left : List Op) → is_active left k ≡ true → is_active (ops ++ left) k ≡ true
active_back k [] left on = on
active_back k (op ∷ ops) left on = or_right (op.actor == k) (is_active (ops ++ left) k) (active_back k ops left on)

-- ---- a thread
module _ {region f k worker q : _} (g : Profile) (ops left : List Op) (rests : WorkerRests region f k worker (own_records g k (ops ++ left)) q) where
  -- its acts cost no more than was set apart for them
  worker_ready : {book : NameBook} {p : Progress} (book1 : NameBook) (later : Later) (at : NamesAt f (ops ++ left) book p) → 1 ≤ k → FreesItsOwn k at.asked ops
      → book1.names ≡ book.names → ArePlaced book1 0 (names_asked (own_acts k ops)) → q.names ≡ p.names
      → later.events ≡ own_records g k left → later.records ≡ room_of worker.out - (owed_at f k q + own_costs_of k (own_acts k ops))
      → WorkerAt region book1 f k (own_acts k ops) worker later q
  worker_ready {book} {p} book1 later at some frees same placed are events records =
      let few = own_costs g k ops in
      let both = own_both g k ops left in
      record {
        has = rests.here.has;
        stands = record {
          sits = sits_for rests.here.rests.sits (omega (arith, few, both, events));
          cache = rests.here.rests.cache;
          spare = omega (arith, few, both, owed_now rests.here, rests.here.rests.spare, ap length rests.said, records);
          names = names_before k ops left book1 worker.requests at some frees same placed rests.asked (omega (arith, few, both, rests.requests)) are;
        };
      }

-- ---- the scavenger
scavenger_ready : {region : SharedRegion} (s : Session) (book : NameBook) {scavenger : Scavenger} {p q : Progress} (ops left : List Op) (later : ℕ → Later)
    → ScavengerRests region s.profile scavenger (own_records (planned s) 0 (ops ++ left)) p → part 0 q.list ≡ part 0 p.list
    → (later 0).events ≡ own_records (planned s) 0 left
    → (later 0).records ≡ room_of scavenger.out - costs_of s.profile.pages (scavenger_acts (idle_threads s.threads ops) ops)
    → ScavengerHas region (round s book ops later (more_beside left) q) scavenger
scavenger_ready s book ops left later rests parts events records =
    let few = scavenger_costs s.profile s.threads (idle_threads s.threads ops) ops (idle_few s.threads ops) in
    let both = own_both (planned s) 0 ops left in
    record {
      has = rests.has;
      at = search (arith, sits_still) fits 400;
      none = rests.none;
    }

-- ---- the team
-- the workers rest still once the threads read the epoch
woke_workers : {region s : _} (awake : Mask4) {workers now p : _} (ops : List Op) → WorkersRest region s ops workers p → length now ≡ length workers
    → (woke : WokeAll region s.profile awake workers now (λ k. own_records (planned s) k ops) p) → WorkersRest region s ops now woke.turns.came.reached
woke_workers {s = s} awake {workers} {now} ops at many woke = record {
  many = many ∙ at.many;
  threads = woke_rest many at.threads woke;
  guarded = search (arith, guarded_alike);
  kept = search (arith, kept_still) fits 400;
}

team_ready : {region s : _} (awake : Mask4) {team p : _} (ops : List Op) (rest : List (List Op)) (team1 : Team) (at : TeamAt region s (ops ∷ rest) team p)
    (woke : WokeAll region s.profile awake team.threads.items team1.threads.items (λ k. own_records (planned s) k (all_ops (ops ∷ rest))) p)
    → WorkersRest region s (all_ops (ops ∷ rest)) team1.threads.items woke.turns.came.reached → team1.scavenger ≡ team.scavenger
    → team1.book.names ≡ team.book.names → ((k : ℕ) → ArePlaced team1.book 0 (names_asked (own_acts k ops))) → HasPlaces s.threads team1
    → IsReady region (round_of s ops rest team1 woke.turns.came.reached) team1
team_ready {region} {s} awake {team} {p} ops rest team1 at woke workers scavenger names placed places =
    let f = s.profile in
    let left = all_ops rest in
    let q = woke.turns.came.reached in
    record {
      asked = at.names.asked;
      sound = sound_front f at.names.asked ops left at.names.sound;
      within = λ k on. at.fit.within k (active_front k ops left on);
      behind = all_front (λ op. MatchOption (keeper_in op.what) (Unit {0}) (λ keeper. keeper ≡ s.threads + op.actor)) ops left at.fit.behind;
      many = workers.many;
      few = omega (arith, at.fit.few_threads);
      workers = λ i d lt.
          let spare = ap (λ (n : ℕ). n - (owed_at f (suc i) q + own_costs_of (suc i) (own_acts (suc i) ops))) (room_is team1.threads.items i d lt) in
          let later = later_beside s ops left team1 q (suc i) in
          record {
            thread = worker_ready (planned s) ops left (workers.threads i d lt) team1.book later at.names (omega arith) (at.frees.0 (suc i))
                names (placed (suc i)) woke.turns.leaves.names refl spare;
            of = (workers.kept i d lt).of;
            waits = kept_waits (suc i) ops left (get_or team1.threads.items i d).keeper (workers.kept i d lt);
          };
      scavenger = scavenger_ready s team1.book ops left (later_beside s ops left team1 q)
          (subst (λ (x : Scavenger). ScavengerRests region f x (own_records (planned s) 0 (ops ++ left)) p) (sym scavenger) at.scavenger)
          (woke.turns.leaves.parts 0 (λ i lt is. omega (arith, is))) refl refl;
      places = places;
    }

-- ---- what a phase begins with
-- its threads read the epoch and its names are noted: all hands are ready
pub record HasBegun (region : SharedRegion) (s : Session) (awake : Mask4) (ops : List Op) (rest : List (List Op)) (team team1 : Team)
    (p : Progress) : Type 0 where
  pub woke : WokeAll region s.profile awake team.threads.items team1.threads.items (λ k. own_records (planned s) k (all_ops (ops ∷ rest))) p
  pub workers : WorkersRest region s (all_ops (ops ∷ rest)) team1.threads.items woke.turns.came.reached
  pub scavenger : team1.scavenger ≡ team.scavenger
  pub names : team1.book.names ≡ team.book.names
  pub ready : IsReady region (round_of s ops rest team1 woke.turns.came.reached) team1

-- the team with these workers, this scavenger and this book
abbrev pub settled_team : Team → List Worker → Scavenger → NameBook → Team
settled_team team now scavenger book = record team { threads = with_items team.threads now; scavenger = scavenger; book = book }

-- the threads woke, as they were handed to what woke them
abbrev WakesThem : SharedRegion → Mask4 → List Worker → List Worker → Type 0
WakesThem region awake given now = (g : Profile) (later : ℕ → ℕ) (o : Progress) → AreResting region g given later o → WokeAll region g awake given now later o

woke_then : {region : _} (s : Session) (awake : Mask4) (ops : List Op) {workers given now p : _} → WorkersRest region s ops workers p → given ≡ workers
    → WakesThem region awake given now → WokeAll region s.profile awake workers now (λ k. own_records (planned s) k ops) p
woke_then {region} s awake ops {now = now} {p} at value wakes =
    let later : ℕ → ℕ = λ k. own_records (planned s) k ops in
    subst (λ (ws : List Worker). WokeAll region s.profile awake ws now later p) value
    (wakes s.profile later p (subst (λ (ws : List Worker). AreResting region s.profile ws later p) (sym value) at.threads))

-- (`given` are the team's workers, as they are lent, `now` what they are once they woke, and `again` once the ledger was settled)
pub begun_as : {region s awake team p given now again scavenger : _} {book : NameBook} (ops : List Op) (rest : List (List Op))
    → TeamAt region s (ops ∷ rest) team p → given ≡ team.threads.items → length given ≡ team.threads.len
    → ((g : Profile) (later : ℕ → ℕ) (o : Progress) → AreResting region g given later o → WokeAll region g awake given now later o) → length now ≡ length given
    → again ≡ now → scavenger ≡ team.scavenger → book.names ≡ team.book.names → ((k : ℕ) → ArePlaced book 0 (names_asked (own_acts k ops)))
    → HasBegun region s awake ops rest team (settled_team team again scavenger book) p
begun_as {region} {s} {awake} {team} {p} {given} {now} {again} {scavenger} {book} ops rest at value len wakes many same same_scavenger names placed =
    let left = all_ops (ops ∷ rest) in
    let team1 = settled_team team again scavenger book in
    let items : team1.threads.items ≡ now = with_items_is team.threads again (ap length same ∙ many ∙ len) ∙ same in
    let woke : WokeAll region s.profile awake team.threads.items team1.threads.items (λ k. own_records (planned s) k left) p =
    rw items (woke_then s awake left at.workers value wakes) in
    let workers = woke_workers awake left at.workers (ap length items ∙ many ∙ ap length value) woke in
    record {
      woke = woke;
      workers = workers;
      scavenger = same_scavenger;
      names = names;
      ready = team_ready awake ops rest team1 at woke workers same_scavenger names placed (rw same_scavenger at.places);
    }

-- all actors stand then
pub begun_stands : {region s awake team team1 p : _} (ops : List Op) (rest : List (List Op)) → TeamAt region s (ops ∷ rest) team p
    → (begun : HasBegun region s awake ops rest team team1 p) → ActorsStand region s team.scavenger.pass team1.threads.items begun.woke.turns.came.reached.list
begun_stands ops rest at begun = turns_stand (team_stands at) begun.woke.turns (begun.workers.many ∙ sym at.workers.many)

-- .. as they are handed to what settles the ledger
pub woke_stands : {region s : _} (awake : Mask4) {team p given now : _} (ops : List Op) (rest : List (List Op)) → TeamAt region s (ops ∷ rest) team p
    → given ≡ team.threads.items → ((g : Profile) (later : ℕ → ℕ) (o : Progress) → AreResting region g given later o → WokeAll region g awake given now later o)
    → length now ≡ length given → (l : Whole) × ActorsStand region s team.scavenger.pass now l
woke_stands {s = s} awake ops rest at value wakes many =
    let woke = woke_then s awake (all_ops (ops ∷ rest)) at.workers value wakes in
    (woke.turns.came.reached.list, turns_stand (team_stands at) woke.turns (many ∙ ap length value))
