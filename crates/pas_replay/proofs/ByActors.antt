-- What each actor's turn needs and leaves: instances of the turn. What a door to plain indexes tells is said as the definition of a replay says it.
use Rattle.std.proofs.Common.{arith, ◌≡◌, ℕ, List, [], ◌∷◌, ◌++◌, length, drop, take, Option, ap, sym, ◌∙◌, subst, refl, length-set, take_at, ◌-◌, ◌≤◌, ◌==◌}
use Rattle.std.proofs.Common.{Bool, true, false, if◌then◌else◌, set, get_or, eq-eqb, append-nil, ◌≢◌, zero, suc, ◌+◌, ◌<◌, Some, None, length-append}
use Rattle.pas_replay.proofs.Common.{cases_eq, lt-leb, Indexes, no_ranges, Profile, Guard, Op, What, Task, Work, Operates, Settles, acts_of_op, acts_of_work}
use Rattle.pas_replay.proofs.Common.{Act, Lowers, work_of, cost_of_size, unlined, cached, Cached, ThreadCache, RestsAt, Moves, tries_of, AreKeptFor, Sits, here}
use Rattle.pas_replay.proofs.Common.{and_for, ThreadActs, sits_for, Progress, Caches, after_settling, Reaches, block_named, names_held, at_start}
use Rattle.pas_replay.proofs.Common.{owed_by_keeper, AreAtRest, AllAreNamedBy, with_noted, indexes_after_all, MayStand, what_of, AreFit, cost_of_act}
use Rattle.pas_replay.proofs.Common.{AreOfThreads, Names, EachShown, acts_shown, Hand, IsTaken, TakesSeat, Replay, Left, HasNames, IsAt, SoFar, upon, pass_in}
use Rattle.pas_replay.proofs.Common.{rests_as, rests, owes, own_events, ActorStands, owed_of, owed_by, AreCaches, GoesBy, standing_of, PlainDesk, PlainPass}
use Rattle.pas_replay.proofs.Common.{Legal, part, unknown_pages, View, FitsBook, guards_in, GuardBook, records_in, room_of, Record, HaveBooks, HavePlaces}
use Rattle.pas_replay.proofs.Turning.{somewhere, at_place, rest_one, rest_two, hand, still_named, AsksNoIndex, thread_now, later_for, thread_turn, all_rest}
use Rattle.pas_replay.proofs.Turning.{rest_first, goes_both, OthersKept, set_at_place, still_places, owed_moves, owed_at, keeper_owes, sits_now, turn}
use Rattle.pas_replay.{proofs.Turning.{kept_by_moves, either_less, less_events, less_tries, said_more}, specs.{Operating.ActsByIndexes, Sessions.HasNamed}}
use Rattle.pas_replay.specs.Sessions.{own_acts_of}
use Rattle.pas_trace.specs.{Acts.Guards, declared.item.Request.Request, Asked.{request_in, request_of}, EveryPlan.asked_after}
use Rattle.pas_answers.specs.{Answers.{Named, settled}, Fit.{kept_costs_of, own_cost_of_act, cost_of_what, kept_cost_of}, Reaching.AnswersTried}
use Rattle.pas_answers.specs.{Reaching.AnswersGuarded, Keeping.cost_of_try, Indexes.{IsNamedFor, IsNamedBy, after_operation, after_tried, after_guarded}}
use Rattle.pas_answers.specs.{Indexes.{TriedIsNamedBy, GuardedIsNamedBy}, Calls.{Tells, AllMayStand, IsMeant, named_by, freed_by, AreKnown, named_with}}
use Rattle.pas_answers.{specs.Guarding.{Tried, IsTried, after_trying, after_giving}, proofs.SingleActs.{meant_by, meant_stands, known_more, if_same, known_if}}
use Rattle.pas_answers.proofs.{SingleActs.{its_cache, other_cache, named_task}, Consequences.tried_shown}
use Rattle.pas_large.specs.{declared.plain_door.PlainDoor.PlainDoor, Spans.added, Doors.{found_in, cut_in, added_in}}
use Rattle.pas_guard.specs.Books.{size_of_book}
use Rattle.pas_profile.specs.declared.{event.Range.Range, name.Block.Block}
use Rattle.pas_free_log.specs.declared.noting.EndedRun.{EndedRun}
use Rattle.pas_cache.specs.Calls.{SettlesEach}
use Rattle.pas_acts.specs.{AtDesks.{GoesThrough, MayOperate}, Keepers.{keeper_has, LaterKept, and_try, KeeperAt, KeeperTries, KeeperLowers}}
use Rattle.pas_acts.proofs.AtDesk.{rests_for, settled_rest, other_book}

-- ---- doors to one vector of indexes, and what that holds
abbrev pub Kept : PlainDoor → PlainDoor → Type 0
Kept before after = after.indexes.ghost_name ≡ before.indexes.ghost_name

abbrev pub held : PlainDoor → Indexes
held door = door.indexes.now

abbrev pub Answers : PlainDoor → PlainDoor → ℕ → ℕ → Option ℕ → Type 0
Answers before after heap n found = Kept before after × (found ≡ found_in (held before) heap n) × (held after ≡ cut_in (held before) heap n)

abbrev pub HandsOn : PlainDoor → PlainDoor → ℕ → Range → Type 0
HandsOn before after heap range = Kept before after × (held after ≡ added_in (held before) heap range)

-- what it came to
record Asked (f : Profile) (request : Option Request) (found : Option ℕ) (before after : PlainDoor) : Type 0 where
  pub kept : Kept before after
  pub named : IsNamedBy f (held before) request found
  pub left : held after ≡ after_operation f request (held before)

asked_for : (f : Profile) (request : Option Request) (found : Option ℕ) (before after : PlainDoor)
    → IsNamedFor f (Answers before after) (after ≡ before) request found → Asked f request found before after
asked_for f request found before after h = grind arith

-- Runs that a door was handed one by one are added to its indexes, in order.
pub handed : (runs : List EndedRun) (before after : PlainDoor) → SettlesEach HandsOn runs before after
    → Kept before after × (held after ≡ with_noted (held before) runs)
handed [] before after same = (ap (λ (door : PlainDoor). door.indexes.ghost_name) same, ap held same)
handed (run ∷ runs) before after (next, one, rest) =
    let rest = handed runs next after rest in grind (arith, rest)

-- the acts of an operation by such a door are acts by what it holds
pub went_through : (f : Profile) (op : Op) (p q : Progress) (is : Reaches f (Operates op ∷ (Settles op.actor ∷ [])) p q) (before after : PlainDoor)
    → GoesThrough Answers HandsOn f op p q is before after
    → AllAreNamedBy f (held before) (Operates op ∷ (Settles op.actor ∷ [])) p q is × Kept before after
    × (held after ≡ indexes_after_all f (Operates op ∷ (Settles op.actor ∷ [])) p q is (held before))
went_through f op p q is before after so = search (arith, asked_for, handed)

-- ---- how many indexes there are
noted_many : (runs : List EndedRun) (indexes : Indexes) → length (with_noted indexes runs) ≡ length indexes
noted_many [] indexes = refl
noted_many (run ∷ runs) indexes = let rest = noted_many runs (added_in indexes run.heap run.range) in grind (arith, rest, length-set)

-- a vector whose elements were all written back has what the indexes hold then
pub noted_back : {indexes indexes' : Indexes} (items : Indexes) (many : ℕ) (runs : List EndedRun) → indexes ≡ items → length indexes ≡ many
    → indexes' ≡ with_noted indexes runs → take many (indexes' ++ drop (length indexes') items) ≡ with_noted items runs
noted_back {indexes} {indexes'} items many runs is same noted =
    search (arith, take_at, noted_many)

-- .. so of an operation
pub written_back : {f k op indexes indexes' came old new later p : _} (items : Indexes) (many : ℕ)
    → indexes ≡ items → length indexes ≡ many → ActsByIndexes f k op indexes indexes' came old new later p
    → ActsByIndexes f k op items (take many (indexes' ++ drop (length indexes') items)) came old new later p
written_back {f} {k} {op} {indexes} {indexes'} {p = p} items many is same acts =
    let did = acts.did in
    record {
      did = did;
      named = subst (λ (ix : Indexes). AllAreNamedBy f ix (Operates op ∷ (Settles op.actor ∷ [])) p did.reached did.reaches) is acts.named;
      left = take_at indexes' _ many (ap (λ (ix : Indexes). length ix) acts.left ∙ (search (arith, noted_many, length-set)) ∙ same) ∙ acts.left
          ∙ ap (λ (ix : Indexes). indexes_after_all f (Operates op ∷ (Settles op.actor ∷ [])) p did.reached did.reaches ix) is;
    }

-- ---- an act of a thread for which no name stands: it wakes, it is stopped where it is idle, it ends
pub rests_now : {r : Replay} {act desk desk1 passes passes1 caches books places indexes table out p k extra there : _} (more : Left)
    → 1 ≤ k → k ≤ length caches → own_cost_of_act k act ≡ 0
    → cost_of_act r.profile.pages act ≡ extra → TakesSeat desk desk1 passes passes1 k → there ≡ get_or caches (k - 1) there
    → IsAt r (upon r (act ∷ []) more) (hand desk passes caches books places indexes table out) p
    → RestsAt r.profile k (standing_of desk1) (cached there) out (later_for r k p more extra) p
rests_now {caches = caches} {p = p} {k} {extra} {there} more some within own cost seat is at = rests_for (thread_now k 0 extra more some within seat
    (at_place (λ j c. p.caches j ≡ cached c) caches k there some within is at.caches_are) (omega (arith, own)) (omega (arith, cost)) at) (omega arith) (omega arith)

-- An act that a thread did at its seat takes the replay on, with all others standing as before.
pub act_turn : {r : Replay} {more : Left} {act desk desk1 desk2 passes passes1 caches books places indexes table out out1 out2 p told extra k there : _}
    (cache : ThreadCache)
    → 1 ≤ k → k ≤ length caches → ((limit : ℕ) (asked : List ℕ) → AreFit r.profile limit asked (act ∷ more.acts) → AreFit r.profile limit asked more.acts)
    → AsksNoIndex r.profile act → TakesSeat desk desk1 passes passes1 k → there ≡ get_or caches (k - 1) there
    → IsAt r (upon r (act ∷ []) more) (hand desk passes caches books places indexes table out) p
    → (did : ThreadActs r.profile k (act ∷ []) [] told (here (standing_of desk1) (cached there) out) (here (standing_of desk2) (cached cache) out1)
    (later_for r k p more extra) p)
    → length told ≤ extra
    → records_in out2 ≡ records_in out1 ++ told → room_of out2 ≡ room_of out1
    → IsTaken desk2 passes1 × IsAt r more (hand desk2 passes1 (set caches (k - 1) cache) books places indexes table out2) did.reached
act_turn {r} {more} {act} {caches = caches} {indexes = indexes} {table} {p = p} {k = k} {there} cache some within fit asks seat is at did few added room =
    let asked = asks indexes p did.reaches.0 did.reaches.1 in
    thread_turn k cache some within seat (at_place (λ j c. p.caches j ≡ cached c) caches k there some within is at.caches_are) at did (asked.1, tt) (sym asked.0) (rest_one r.threads r.profile act p did.reached did.reaches)
    (still_named fit did.names at.names) at.operate.1 at.keep.1 few added room

-- what a name stands for once another or itself was set
pub set_stands : (f : Profile) (t : Bool) (came old new : Option Block) → new ≡ (if t then came else old) → MayStand f came → MayStand f old → MayStand f new
set_stands f true came old new is now before = subst (MayStand f) (sym is) now
set_stands f false came old new is now before = subst (MayStand f) (sym is) before

-- ---- an operation of thread k, which asks for `what`
pub may_operate : {r : _} {op : Op} {what desk desk1 passes passes1 caches books places indexes table out p meant : _} (k : ℕ) (there : ThreadCache)
    (more : Left)
    → op.actor ≡ k → op.what ≡ what → 1 ≤ k → k ≤ length caches
    → TakesSeat desk desk1 passes passes1 k → there ≡ get_or caches (k - 1) there → meant ≡ freed_by (block_named table) what
    → IsAt r (upon r (Operates op ∷ (Settles op.actor ∷ [])) more) (hand desk passes caches books places indexes table out) p
    → MayOperate r.profile op.actor op.what meant (here (standing_of desk1) (cached there) out) (later_for r op.actor p more 0) p
may_operate {r} {op} {desk1 = desk1} {caches = caches} {table = table} {out} {p} k there more mine asks some within seat is means at =
    let cost = if_same (op.actor == k) (cost_of_what op.what) (eq-eqb op.actor k mine) in
    let meaning = means ∙ ap (λ (w : What). freed_by (block_named table) w) (sym asks) in
    record {
      rests = subst (λ (j : ℕ). RestsAt r.profile j (standing_of desk1) (cached there) out (and_for (cost_of_what op.what) (later_for r j p more 0)) p) (sym mine)
          (thread_now k (cost_of_what op.what) 0 more some within seat (at_place (λ j c. p.caches j ≡ cached c) caches k there some within is at.caches_are) (omega (arith, cost)) (omega arith) at);
      limit = names_held table;
      asked = at.names.asked;
      fit = at.names.fit.1;
      known = known_if r.profile (names_held table) at.names.asked p.names op.what at.names.fit.1 at.names.known;
      means = subst (λ (o : Option Block). IsMeant p.names op.what o) (sym meaning) (meant_by (block_named table) p.names op.what at.names.tells);
      stands = subst (MayStand r.profile) (sym meaning) (meant_stands r.profile (block_named table) op.what at.names.stand);
    }

-- what the table keeps is what the name that the operation asked for came to
pub has_named : {op : Op} {before after : Names} (task : Task) (came : Option Block) → op.what ≡ what_of task → names_held after ≡ names_held before
    → ((known : List Named) → Tells before known → Tells after (named_with (request_of task) came ++ known))
    → ((f : Profile) → AllMayStand f before → MayStand f came → AllMayStand f after) → HasNamed op came before after
has_named {op} {after = after} task came asks held tells stand = search (arith, named_task)

-- An operation that a thread did at its seat takes the replay on, by what the indexes name.
pub operate_turn : {r more : _} {op : Op} {desk desk1 desk2 passes passes1 caches books places indexes indexes' table table' out out' p : _} (k : ℕ)
    (came : Option Block) (there cache : ThreadCache)
    → op.actor ≡ k → 1 ≤ k → k ≤ length caches → TakesSeat desk desk1 passes passes1 k → there ≡ get_or caches (k - 1) there
    → IsAt r (upon r (Operates op ∷ (Settles op.actor ∷ [])) more) (hand desk passes caches books places indexes table out) p
    → ActsByIndexes r.profile op.actor op indexes indexes' (named_by op.what came) (here (standing_of desk1) (cached there) out)
    (here (standing_of desk2) (cached cache) out') (later_for r op.actor p more 0) p
    → HasNamed op came table table' → MayStand r.profile came
    → IsTaken desk2 passes1 × SoFar r more (hand desk2 passes1 (set caches (k - 1) cache) books places indexes' table' out')
operate_turn {r} {more} {op} {desk1 = desk1} {desk2} {caches = caches} {indexes = indexes} {indexes'} {table = table} {table'} {out} {out'} {p} k came there cache mine some within seat is at acted named stands =
    let names = at.names in
    let all = subst (λ (j : ℕ). ActsByIndexes r.profile j op indexes indexes' (named_by op.what came) (here (standing_of desk1) (cached there) out)
    (here (standing_of desk2) (cached cache) out') (later_for r j p more 0) p) mine acted in
    let did = all.did in
    somewhere (thread_turn k cache some within seat (at_place (λ j c. p.caches j ≡ cached c) caches k there some within is at.caches_are) at did all.named all.left (rest_two r.threads r.profile op p did.reached did.reaches)
    (subst (λ (ns : List Named). HasNames r.profile more.acts table' ns) (sym did.names) record {
      asked = asked_after op.what names.asked;
      fit = subst (λ (limit : ℕ). AreFit r.profile limit (asked_after op.what names.asked) more.acts) (sym named.held) names.fit.2;
      tells = named.tells p.names names.tells;
      stand = named.stand r.profile names.stand stands;
      known = known_more (request_in op.what) came names.asked p.names names.known;
    })
    at.operate.1.1 at.keep.1.1 (omega arith) (sym (append-nil (records_in out'))) refl)

-- ---- the acts of an operation, by what it asks for
-- Those of an operation that is another one but for its line are by what that asks for.
pub acts_by_work : (idle : List ℕ) (op said : Op) {work work' : Work} → unlined op ≡ unlined said → work ≡ work_of said.what → work ≡ work'
    → acts_of_op idle op ≡ acts_of_work idle op work'
acts_by_work idle op said same asks is = ap (λ (w : Work). acts_of_work idle op w) (ap (λ (o : Op). work_of o.what) same ∙ sym asks ∙ is)

-- The turn of a keeper, and what is left of a guarded request after it.

-- for how much there is room besides, when keeper k has its turn: for what the acts that are left ask of it, what the others owe, and what all of them cost
abbrev pub later_kept : Replay → ℕ → Progress → Left → LaterKept
later_kept r k p more = record {
  events = kept_costs_of k more.acts;
  records = (owed_by r.threads r.profile p (r.threads + r.keepers) - owed_of r.threads r.profile p k) + more.room;
  guards = tries_of k more.acts;
}

-- .. and for so much more
abbrev and_kept : ℕ → ℕ → ℕ → LaterKept → LaterKept
and_kept events records guards later = record { events = events + later.events; records = records + later.records; guards = guards + later.guards }

-- ---- the keeper of the thread at place i sits at the desk
-- where the acts cost it so much, and all records so many, and it tries so many requests among them
keeper_now : {r : Replay} {left : Left} {desk0 desk passes0 passes caches books places indexes table out p : _} (k i : ℕ) (there : GuardBook)
    (events records guards : ℕ) (more : Left)
    → k ≡ r.threads + i → 1 ≤ i → i ≤ length books → TakesSeat desk0 desk passes0 passes k → there ≡ get_or books (i - 1) there
    → kept_costs_of k left.acts ≡ events + kept_costs_of k more.acts → left.room ≡ records + more.room
    → tries_of k left.acts ≡ guards + tries_of k more.acts
    → IsAt r left (hand desk0 passes0 caches books places indexes table out) p
    → KeeperAt r.profile k (keeper_has (standing_of desk) there out) (and_kept events records guards (later_kept r k p more)) p
keeper_now zero i there events records guards more place some most seat is own all tried at = absurd (omega (arith, place, some))
keeper_now {r} {left} {desk0} {desk} {passes0} {passes} {caches} {books} {places} {indexes} {table} {out} {p} (suc j) i there events records guards more place some most seat is own all tried at =
    let f = r.profile in
    let k = suc j in
    let v = part k p.list in
    let within : k ≤ r.threads + r.keepers = omega (arith, place, most, at.kept) in
    let past : r.threads < k = omega (arith, place, some) in
    let sits = rw (lt-leb k r.threads past) at (sits_now k within seat at) in
    let book : p.books k ≡ guards_in there = ap p.books place ∙ at_place (λ j b. p.books (r.threads + j) ≡ guards_in b) books i there some most is at.books_are in
    let least = owed_at r.threads f p k (r.threads + r.keepers) (omega (arith, past)) within in
    let mine = keeper_owes r.threads f p k past ∙ ap (λ (gs : List Guard). owed_by_keeper f gs v) book in
    let room = at_place (λ j b. length (guards_in b) + tries_of (r.threads + j) left.acts ≤ size_of_book b) books i there some most is at.books_have in
    let tries = ap (λ (m : ℕ). tries_of m left.acts) place in
    -- its seat and its book are those; there is room for what it owes, within what all owe, and for what the acts ask
    search arith

-- .. where its last sweep comes next, which costs nothing
pub keeper_closes : {r : Replay} {desk0 desk passes0 passes caches books places indexes table out p : _} (k i : ℕ) (there : GuardBook) (more : Left)
    → k ≡ r.threads + i → 1 ≤ i → i ≤ length books → TakesSeat desk0 desk passes0 passes k
    → there ≡ get_or books (i - 1) there → IsAt r (upon r (Lowers k ∷ []) more) (hand desk0 passes0 caches books places indexes table out) p
    → KeeperAt r.profile k (keeper_has (standing_of desk) there out) (later_kept r k p more) p
keeper_closes {r} {p = p} k i there more place some most seat is at =
    let now = keeper_now k i there 0 0 0 more place some most seat is (omega arith) (omega arith) (omega arith) at in
    record { sits = sits_for now.sits (omega arith); book = now.book; spare = omega (arith, now.spare); places = omega (arith, now.places) }

-- ---- its turn
-- what it came to: where it sits, its book, and its room
pub record KeeperTurned (r : Replay) (k : ℕ) (acts more : List Act) (there book : GuardBook) (desk desk' : PlainDesk) (p q : Progress) : Type 0 where
  pub moves : Moves k (FitsBook r.profile (guards_in there)) (FitsBook r.profile (guards_in book)) (standing_of desk) (standing_of desk') p q
  pub sits : Sits r.profile k (FitsBook r.profile (guards_in book)) (standing_of desk') q.list (unknown_pages r.profile (part k q.list) + kept_costs_of k more)
  pub book_is : q.books k ≡ guards_in book
  pub place : length (guards_in book) + tries_of k more ≤ size_of_book book
  pub caches : q.caches ≡ p.caches
  pub books : (j : ℕ) → j ≢ k → q.books j ≡ p.books j
  pub free : (j : ℕ) → own_events r.threads r.profile j more ≤ own_events r.threads r.profile j acts
  pub tries : (j : ℕ) → tries_of j more ≤ tries_of j acts

module _ {r : Replay} {left more desk0 desk desk' passes0 passes caches books places indexes table out p q : _} (k i : ℕ) (there book : GuardBook)
    (place : k ≡ r.threads + i) (some : 1 ≤ i) (most : i ≤ length books) (seat : TakesSeat desk0 desk passes0 passes k)
    (is : there ≡ get_or books (i - 1) there) (at : IsAt r left (hand desk0 passes0 caches books places indexes table out) p)
    (x : KeeperTurned r k left.acts more there book desk desk' p q) where
  -- The actor is no thread.
  past : r.threads < k
  past = omega (arith, place, some)

  -- It is a keeper.
  within : k ≤ r.threads + r.keepers
  within = omega (arith, place, most, at.kept)

  -- Its book is the one that it had.
  was : p.books k ≡ guards_in there
  was = ap p.books place ∙ at_place (λ j b. p.books (r.threads + j) ≡ guards_in b) books i there some most is at.books_are

  kept_so : OthersKept k p q
  kept_so = kept_by_moves x.moves (λ j ne. ap (λ (cs : Caches). cs j) x.caches) x.books

  keeper_was : owed_of r.threads r.profile p k ≡ owed_by_keeper r.profile (guards_in there) (part k p.list)
  keeper_was = keeper_owes r.threads r.profile p k past ∙ ap (λ (gs : List Guard). owed_by_keeper r.profile gs (part k p.list)) was

  -- what is owed then, and what it owed itself
  owed_then : owed_by r.threads r.profile q (r.threads + r.keepers) + owed_by_keeper r.profile (guards_in there) (part k p.list)
      ≡ owed_by r.threads r.profile p (r.threads + r.keepers) + owed_by_keeper r.profile (guards_in book) (part k q.list)
  owed_then = search (arith, owed_moves, kept_so, keeper_owes, keeper_was)

  -- .. and no more than all owed before
  owed_least : owed_by_keeper r.profile (guards_in there) (part k p.list) ≤ owed_by r.threads r.profile p (r.threads + r.keepers)
  owed_least = search (arith, owed_at, past, within, keeper_was)

-- the keeper had its turn, after which `more` acts are left
keeper_turn : {r : Replay} {left more : Left} {desk0 desk desk' passes0 passes caches books places indexes indexes' table table' out out' p q : _}
    (k i : ℕ) (there book : GuardBook)
    → k ≡ r.threads + i → 1 ≤ i → i ≤ length books
    → TakesSeat desk0 desk passes0 passes k → there ≡ get_or books (i - 1) there → IsAt r left (hand desk0 passes0 caches books places indexes table out) p
    → KeeperTurned r k left.acts more.acts there book desk desk' p q
    → (Legal r.profile q.list → EachShown p.records → EachShown q.records)
    → ((s : Progress) → GoesBy r.threads r.profile indexes' more.acts q s → GoesBy r.threads r.profile indexes left.acts p s)
    → HasNames r.profile more.acts table' q.names
    → AreOfThreads r.threads more.acts → AreKeptFor r.threads r.keepers more.acts → r.told ++ records_in out' ≡ q.records → room_of out' ≡ room_of out
    → length (records_in out') + (owed_by r.threads r.profile q (r.threads + r.keepers) + more.room) ≤ room_of out'
    → IsTaken desk' passes × IsAt r more (hand desk' passes caches (set books (i - 1) book) places indexes' table' out') q
keeper_turn zero i there book place some most seat is at x shows reaches names operate keep written sized spare = absurd (omega (arith, place, some))
keeper_turn {r} {left} {more} {caches = caches} {books} {p = p} {q} (suc j) i there book place some most seat is at x shows reaches names operate keep written sized spare =
    let f = r.profile in
    let k = suc j in
    let kind = lt-leb k r.threads (past k i there book place some most seat is at x) in
    let as_many = length-set books (i - 1) book ∙ at.kept in
    let their_caches = subst (λ (cs : Caches). AreCaches cs caches) (sym x.caches) at.caches_are in
    let its_book = ap q.books (sym place) ∙ x.book_is in
    let their_books : HaveBooks r.threads q.books (set books (i - 1) book)
    = set_at_place (λ m b. p.books (r.threads + m) ≡ guards_in b) (λ m b. q.books (r.threads + m) ≡ guards_in b) books i book some most its_book
    (λ m b ne held. x.books (r.threads + m) (λ e. omega (arith, e, place, ne)) ∙ held) at.books_are in
    let its_place = subst (λ (m : ℕ). length (guards_in book) + tries_of m more.acts ≤ size_of_book book) place x.place in
    let their_places : HavePlaces r.threads (set books (i - 1) book) more.acts
    = set_at_place (λ m b. length (guards_in b) + tries_of (r.threads + m) left.acts ≤ size_of_book b)
    (λ m b. length (guards_in b) + tries_of (r.threads + m) more.acts ≤ size_of_book b) books i book some most its_place
    (λ m b ne fit. omega (arith, fit, x.tries (r.threads + m))) at.books_have in
    turn k (within k i there book place some most seat is at x) seat at record {
      shows = shows;
      reaches = reaches;
      moves = rw (kind, was k i there book place some most seat is at x, x.book_is) x.moves;
      sits = rw (kind, x.book_is) x.sits;
      kept = kept_so k i there book place some most seat is at x;
      free = λ m ne. x.free m;
    } (assumption (as_many, their_caches, their_books, their_places, sized ∙ at.size))

-- ---- it lowers all its guards, as the replay closes
pub lower_turn : {r : Replay} {more desk0 desk desk' passes0 passes caches books places indexes table out out' p : _} (k i : ℕ) (there book : GuardBook)
    → k ≡ r.threads + i → 1 ≤ i → i ≤ length books → TakesSeat desk0 desk passes0 passes k
    → there ≡ get_or books (i - 1) there → IsAt r (upon r (Lowers k ∷ []) more) (hand desk0 passes0 caches books places indexes table out) p
    → (did : KeeperLowers r.profile k (keeper_has (standing_of desk) there out) (keeper_has (standing_of desk') book out') (later_kept r k p more) p)
    → IsTaken desk' passes × IsAt r more (hand desk' passes caches (set books (i - 1) book) places indexes table out') did.reached
lower_turn {r} {more} {desk0} {desk} {desk'} {indexes = indexes} {table} {out} {out'} {p} k i there book place some most seat is at did =
    let f = r.profile in
    let q = did.reached in
    let turned : KeeperTurned r k (Lowers k ∷ more.acts) more.acts there book desk desk' p q = search (arith, less_events, less_tries) in
    let then_owed = owed_then k i there book place some most seat is at turned in
    let least = owed_least k i there book place some most seat is at turned in
    keeper_turn k i there book place some most seat is at turned (acts_shown f (Lowers k ∷ []) p q did.reaches)
    (λ s rest. goes_both r.threads f indexes (Lowers k ∷ []) more.acts p q s did.reaches (tt, tt)
    (rest_one r.threads f (Lowers k) p q did.reaches (all_rest at) (rest_first r.threads f more.acts q s rest.0.0 rest.1)) rest)
    (still_named (λ limit asked fit. fit) did.names at.names) at.operate.1 at.keep.1
    (said_more r.told (records_in out) (records_in out') p.records did.said at.records_are did.pushed ∙ sym did.records_are) did.room
    (omega (arith, then_owed, least, keeper_was k i there book place some most seat is at turned, did.stands.spare))

-- ---- it tries a guarded request
-- it is answered by what a try gave, or by what its keeper did, and leaves these indexes
abbrev TriedThen : Profile → Op → Request → (midway next : Progress) (before after : Indexes) → Option Block → Type 0
TriedThen f op asked midway next before after block = (a : AnswersTried f op asked block midway next) × TriedIsNamedBy f before op asked block midway next a
    × (after_tried f op asked block midway next a before ≡ after)

abbrev GuardedThen : Profile → ℕ → Op → (p next : Progress) (before after : Indexes) → Option Request → Type 0
GuardedThen f keeper op p next before after asked = (a : AnswersGuarded f keeper op asked p next) × GuardedIsNamedBy f before keeper op asked p next a
    × (after_guarded f keeper op asked p next a before ≡ after)

-- what its keeper tried stands before the acts behind it
tried_first : (threads : ℕ) (f : Profile) (keeper : ℕ) (op : Op) (request : Request) (p next : Progress) (indexes indexes' : Indexes) (more : List Act)
    (t : Tried) (block : Option Block)
    → AreAtRest threads f p.caches p.books p.list → IsTried f keeper request (part keeper p.list) (p.books keeper) t → request_in op.what ≡ Some request
    → t.block ≡ block → TriedThen f op request (after_trying p keeper t) next indexes indexes' block
    → (s : Progress) → GoesBy threads f indexes' more next s → GoesBy threads f indexes (Guards keeper op ∷ more) p s
tried_first threads f keeper op request p next indexes indexes' more t block before tried asks came so s ((is, named), rested) =
    let one = subst (TriedThen f op request (after_trying p keeper t) next indexes indexes') (sym came) so in
    let all = subst (GuardedThen f keeper op p next indexes indexes') (sym asks) ((t, tried, one.0), one.1, one.2) in
    (((next, all.0, is), (all.1, subst (λ (ix : Indexes). AllAreNamedBy f ix more next s is) (sym all.2) named)), (before, rested))

-- the acts of a guarded request are the try of its keeper, and what is left then
pub guards_first : {r : Replay} {T : Type 0} {h : Hand} {task : Task} {k name heap size align : ℕ} (op : Op) (more : Left)
    → task ≡ Task.Guarded k name heap size align → T × SoFar r (upon r (own_acts_of task op) more) h
    → T × SoFar r (upon r (Guards k op ∷ []) (upon r (Settles op.actor ∷ []) more)) h
guards_first {r} {T} {h} op more is so = subst (λ (t : Task). T × SoFar r (upon r (own_acts_of t op) more) h) is so

-- The acts of another operation are its thread's: of each kind of task that is left it computes.
pub not_guarded : (op : Op) (task : Task) → ((k name heap size align : ℕ) → task ≡ Task.Guarded k name heap size align → ⊥)
    → own_acts_of task op ≡ Operates op ∷ (Settles op.actor ∷ [])
not_guarded op task other = search arith

-- Its keeper is the one of the keepers that has the thread's place.
pub its_place : {r : Replay} {op : Op} {h : Hand} {p : Progress} (k i : ℕ) (more : Left) → op.actor ≡ i → IsAt r (upon r (Guards k op ∷ []) more) h p
    → (k ≡ r.threads + i) × (1 ≤ i) × (i ≤ length h.books)
its_place k i more mine at = search arith

-- the keeper of the thread at place i sits at the desk, and the thread's guarded request comes next
module _ {r : Replay} {desk0 desk passes0 passes caches books places indexes table out p i there : _} {k name heap size align : ℕ} (op : Op) (more : Left)
    (mine : op.actor ≡ i) (asks : op.what ≡ what_of (Task.Guarded k name heap size align))
    (seat : TakesSeat desk0 desk passes0 passes k) (is : there ≡ get_or books (i - 1) there)
    (at : IsAt r (upon r (Guards k op ∷ []) more) (hand desk0 passes0 caches books places indexes table out) p) where
  abbrev asked : Request
  asked = record { name = name; heap = heap; size = size; align = align }

  asked_is : request_in op.what ≡ Some asked
  asked_is = ap request_in asks

  there_so : (k ≡ r.threads + i) × (1 ≤ i) × (i ≤ length books)
  there_so = its_place k i more mine at

  -- The keeper may try it.
  pub keeper_may : KeeperAt r.profile k (keeper_has (standing_of desk) there out) (and_try size (later_kept r k p more)) p
  keeper_may =
      let own = if_same (k == k) (kept_cost_of (request_in op.what)) (eq-eqb k k refl) ∙ ap kept_cost_of asked_is in
      let cost : cost_of_what op.what ≡ cost_of_size size + 2 = ap cost_of_what asks in
      let one = if_same (k == k) 1 (eq-eqb k k refl) in
      keeper_now k i there (cost_of_size size) (cost_of_size size + 2) 1 more there_so.0 there_so.1 there_so.2 seat is (omega (arith, own)) (omega (arith, cost)) (omega (arith, one)) at

  -- it did
  module _ {desk' out' got : _} {book : GuardBook}
      (did : KeeperTries r.profile k asked got (keeper_has (standing_of desk) there out) (keeper_has (standing_of desk') book out') (later_kept r k p more) p) where
    -- It gave no block: the request is left to its thread.
    pub left_turn : got ≡ None
        → IsTaken desk' passes
        × IsAt r (upon r (Operates op ∷ []) more) (hand desk' passes caches (set books (i - 1) book) places indexes table out') (after_trying p k did.tried)
    left_turn none =
        let f = r.profile in
        let q = after_trying p k did.tried in
        let kept : (j : ℕ) → j ≢ k → q.books j ≡ p.books j = λ j ne. other_book p.books k j did.tried.guards ne in
        let fewer : (j : ℕ) → tries_of j (Operates op ∷ more.acts) ≤ tries_of j (Guards k op ∷ more.acts) = λ j. grind arith in
        let free : (j : ℕ) → own_events r.threads f j (Operates op ∷ more.acts) ≤ own_events r.threads f j (Guards k op ∷ more.acts)
        = λ j. grind (arith, either_less) in
        let turned : KeeperTurned r k (Guards k op ∷ more.acts) (Operates op ∷ more.acts) there book desk desk' p q = search (arith, free, kept, fewer) in
        let change = owed_then k i there book there_so.0 there_so.1 there_so.2 seat is at turned in
        let cost = ap (λ (b : Option Block). cost_of_try size b) none in
        let longer = ap (λ (rs : List Record). length rs) did.pushed ∙ length-append (records_in out) did.tried.records in
        keeper_turn k i there book there_so.0 there_so.1 there_so.2 seat is at turned (tried_shown f k asked p did.tried did.is)
        (λ s rest. tried_first r.threads f k op asked p _ indexes _ more.acts did.tried None (all_rest at) did.is asked_is (did.block_is ∙ none)
        (rest.0.0.1, rest.0.1.0, refl) s ((rest.0.0.2, rest.0.1.1), rest.1.1))
        (still_named (λ limit asked fit. (fit.2, fit.3, fit.4)) refl at.names) at.operate (tt, at.keep.1)
        (said_more r.told _ _ p.records did.tried.records at.records_are did.pushed) did.room (omega (arith, change, did.paid, cost, longer, did.room, at.spare))

    -- It gave this block, and the table has it.
    pub gave_turn : {block : Block} {table' : Names} → got ≡ Some block → HasNamed op (Some block) table table'
        → IsTaken desk' passes
        × IsAt r more (hand desk' passes caches (set books (i - 1) book) places indexes table' out') (after_giving (after_trying p k did.tried) name block)
    gave_turn {block} {table'} gave named =
        let f = r.profile in
        let q = after_giving (after_trying p k did.tried) name block in
        let names = at.names in
        let moves : Moves k (FitsBook f (guards_in there)) (FitsBook f (guards_in book)) (standing_of desk) (standing_of desk') p q
        = record { steps = did.moves.steps; list_is = did.moves.list_is; calls = did.moves.calls } in
        let caches : q.caches ≡ p.caches = refl in
        let books : (j : ℕ) → j ≢ k → q.books j ≡ p.books j = λ j ne. other_book p.books k j did.tried.guards ne in
        let fewer = less_events r.threads f (Guards k op ∷ []) more.acts in
        let turned : KeeperTurned r k (Guards k op ∷ more.acts) more.acts there book desk desk' p q
        = assumption (moves, did.stands.sits, did.stands.book, did.stands.places, caches, books, fewer, less_tries (Guards k op ∷ []) more.acts) in
        let change = owed_then k i there book there_so.0 there_so.1 there_so.2 seat is at turned in
        let least = owed_least k i there book there_so.0 there_so.1 there_so.2 seat is at turned in
        let mine_was = keeper_was k i there book there_so.0 there_so.1 there_so.2 seat is at turned in
        keeper_turn k i there book there_so.0 there_so.1 there_so.2 seat is at turned (tried_shown f k asked p did.tried did.is)
        (tried_first r.threads f k op asked p q indexes indexes more.acts did.tried _ (all_rest at) did.is asked_is (did.block_is ∙ gave) (refl, tt, refl))
        (record {
          asked = asked_after op.what names.asked;
          fit = subst (λ (limit : ℕ). AreFit f limit (asked_after op.what names.asked) more.acts) (sym named.held) names.fit.4;
          tells = subst (λ (o : Option Request). Tells table' (named_with o (Some block) ++ p.names)) asked_is (named.tells p.names names.tells);
          stand = named.stand f names.stand (subst (λ (b : Option Block). MayStand f b) gave did.given);
          known = subst (λ (o : Option Request). AreKnown (asked_after op.what names.asked) (named_with o (Some block) ++ p.names)) asked_is
              (known_more (request_in op.what) (Some block) names.asked p.names names.known);
        }) at.operate.1 at.keep.1
        (said_more r.told (records_in out) _ p.records did.tried.records at.records_are did.pushed) did.room (omega (arith, change, least, mine_was, did.stands.spare))

-- ---- what is left then: the runs that its thread's cache noted are handed on, whoever sits at the desk
settled_as : (f : Profile) (kind : Bool) (c : Cached) (guards : List Guard) (v : View) → rests_as kind f c guards v → rests_as kind f (settled c) guards v
settled_as f true c guards v rest = settled_rest v refl rest
settled_as f false c guards v rest = rest

module _ (threads : ℕ) (f : Profile) (p : Progress) (k : ℕ) where
  abbrev settling : Progress
  settling = after_settling p k

  -- what is the same of a settled cache is the same of each
  same_of : {A : Type 0} (of : ℕ → Cached → A) → ((c : Cached) (j : ℕ) → of j (settled c) ≡ of j c) → (j : ℕ) → of j (settling.caches j) ≡ of j (p.caches j)
  same_of of same j = search (arith, cases_eq, its_cache, other_cache)

  owed_then_by : (n : ℕ) → owed_by threads f settling n ≡ owed_by threads f p n
  owed_then_by zero = refl
  owed_then_by (suc n) =
      let rest = owed_then_by n in grind (arith, rest, same_of)

  stands_then : {j : ℕ} {slot : Option PlainPass} (more : List Act) → ActorStands threads f j p slot (Settles k ∷ more)
      → ActorStands threads f j settling slot more
  stands_then {j} more st =
      let v = part j p.list in
      let was = st.rest in
      let rest : rests threads f settling j v = grind (arith, cases_eq, its_cache, settled_as, other_cache) in
      let owed : owes threads f settling j v ≡ owes threads f p j v = grind (arith, same_of) in
      let free = less_events threads f (Settles k ∷ []) more j in
      record { pass = st.pass; present = st.present; actor = st.actor; stands = st.stands; rest = rest; room = omega (arith, st.room, owed, free) }

-- What a thread's cache noted and hands on takes the replay on, with the runs added to the indexes.
pub settle_turn : {r : Replay} {more : Left} {h : Hand} {p : Progress} (k : ℕ) (there cache : ThreadCache) → 1 ≤ k → k ≤ length h.caches
    → there ≡ get_or h.caches (k - 1) there → cached cache ≡ settled (cached there) → IsAt r (upon r (Settles k ∷ []) more) h p
    → IsAt r more (record h { caches = set h.caches (k - 1) cache; indexes = with_noted h.indexes (cached there).noted }) (after_settling p k)
settle_turn {r} {more} {h} {p} k there cache some most is now at =
    let f = r.profile in
    let q = after_settling p k in
    let was = at_place (λ j c. p.caches j ≡ cached c) h.caches k there some most is at.caches_are in
    let each : (j : ℕ) → j ≤ f.threads → ActorStands r.threads f j q (pass_in h.passes j) more.acts = λ j le. stands_then r.threads f p k _ (at.each j le) in
    let known : HasNames f more.acts h.table q.names = still_named (λ limit asked fit. fit) refl at.names in
    let its = its_cache p.caches k (settled (p.caches k)) ∙ ap settled was ∙ sym now in
    let their : AreCaches q.caches (set h.caches (k - 1) cache) = set_at_place (λ j c. p.caches j ≡ cached c) _ h.caches k cache some most its
    (λ j c ne held. other_cache p.caches k j (settled (p.caches k)) ne ∙ held) at.caches_are in
    let books = still_places r.threads h.books (Settles k ∷ more.acts) more.acts (less_tries (Settles k ∷ []) more.acts) at.books_have in
    let spare : length (records_in h.out) + (owed_by r.threads f q (r.threads + r.keepers) + more.room) ≤ room_of h.out = omega (arith, at.spare, owed_then_by r.threads f p k (r.threads + r.keepers)) in
    let answers : (s : Progress) → GoesBy r.threads f (with_noted h.indexes (cached there).noted) more.acts q s → GoesBy r.threads f (no_ranges f.heaps) r.acts at_start s
    = λ s rest.
    let left = subst (λ (runs : List EndedRun). GoesBy r.threads f (with_noted h.indexes runs) more.acts q s) (ap (λ (c : Cached). c.noted) (sym was)) rest in
    at.answers s (((q, refl, left.0.0), (tt, left.0.1)), (all_rest at, left.1)) in
    assumption (length-set h.caches (k - 1) cache ∙ at.many, at.operate.1, at.keep.1, their, books)
