-- The operations of one thread in a phase, one after the other.
use Rattle.std.proofs.Common.{[], ◌≡◌, ◌≢◌, ℕ, ◌+◌, ◌==◌, inl, inr, List, ◌∷◌, ◌++◌, length, Option, None, Some, refl, ap, sym, ◌∙◌, subst, arith}
use Rattle.std.proofs.Common.{length-append, append_assoc, append-nil, ◌<◌, ◌≤◌, drop, get_or, drop_of_length-le, eq-eqb, ne_eqb}
use Rattle.pas_acts.proofs.Common.{drop_more, IsAdmitted, Block, Profile, all_both, Standing, Whole, part, View, part_of_others, Act, Operates, Guards, Settles}
use Rattle.pas_acts.proofs.Common.{act_kept, own_acts, of_task, request_in, keeper_of, keeper_in, cost_of_size, asked_after, Request, Op, What, Work, Chore}
use Rattle.pas_acts.proofs.Common.{Cached, guards_in, size_of_book, GuardBook, Named, Books, Progress, settled, after_settling, what_of, MayStand, named_by}
use Rattle.pas_acts.proofs.Common.{owed_events, named_with, IsFitWhat, cost_of_what, own_cost_of_act, own_costs_of, AreFit, after_trying, after_giving}
use Rattle.pas_acts.proofs.Common.{owed_by_keeper, cost_of_try, EachOf, records_by, block_named, names_held, its_cache, sum_both, none_by, records_both}
use Rattle.pas_acts.proofs.Common.{reach_both, here, and_for, MayOperate, ThreadActs, KeeperHas, LaterKept, KeeperTries, StandsAt, StandsStill, HasStill}
use Rattle.pas_acts.proofs.Common.{for_guards, PairAt, PairWorks, RestsAt, Later, keeps, KnowsNames, requests_in, room_for, names_of, name_asked, names_asked}
use Rattle.pas_acts.proofs.{Common.{ArePlaced, known_in, NameBook, records_in, room_of, Records, Record}, AtDesk.{rests_still, stands_at, own_cost, rests_for}}
use Rattle.pas_acts.proofs.{AtDesk.{settled_rest, sits_for, keeper_still}, Noting.{names_both, names_count, asked_both, kept_asks, placed_both, tells_more}}
use Rattle.pas_acts.{proofs.Noting.stand_more, specs.{AtDesks.Here, Keepers.{Keeping, NoKeeper, OneKeeper, MayTryAt, TriesAt, KeptStands}, Pairs.head_acts}}
use Rattle.pas_acts.specs.{Pairs.{KeeperWaits, IsOfTwo, EachOfTwo, KeptPushed, KeptStill, PairActs, MayServe}, Works.{Keeps, ThreadAt}, NameBooks.Table}
use Rattle.pas_trace.specs.declared.plan.Task.{Task}
use Rattle.pas_answers.{specs.{Fit.{IsFitWork, own_cost_of}, Calls.{IsMeant, freed_by}, Ways.is_of}, proofs.SingleActs.{task_of, known_more, meant_by}}
use Rattle.pas_answers.proofs.{SingleActs.{meant_stands, known_if}, OwnRecords.all_by}
use Rattle.pas_profile.proofs.Lists.{all_map}

-- A thread and its keeper: what an operation of the thread comes to for both.

-- ---- records of two actors
of_one : (j k : ℕ) (rs : List Record) → EachOf j rs → EachOfTwo j k rs
of_one j k rs each = all_map (λ r. (n : ℕ) → is_of n r ≡ (j == n)) (IsOfTwo j k) rs (λ r is. inl is) each

of_other : (j k : ℕ) (rs : List Record) → EachOf k rs → EachOfTwo j k rs
of_other j k rs each = all_map (λ r. (n : ℕ) → is_of n r ≡ (k == n)) (IsOfTwo j k) rs (λ r is. inr is) each

-- Records that are each of one of two actors are so together.
two_both : (j k : ℕ) (xs ys : List Record) → EachOfTwo j k xs → EachOfTwo j k ys → EachOfTwo j k (xs ++ ys)
two_both j k xs ys a b = all_both (IsOfTwo j k) xs ys a b

-- ---- what an operation's first act asks and costs, whether it is guarded or not
pub kept_cost : (k : ℕ) (o : Option ℕ) (op : Op) → own_cost_of_act k (act_kept o op) ≡ own_cost_of k (Some op)
kept_cost k a op = search arith

-- ---- the keeper, where the thread alone acts
-- where nobody acts
kept_same : (kept : Keeping) (l : Whole) → KeptStands kept kept l l
kept_same a l = search arith

-- A keeper that stood still and said nothing has its records as they were.
nothing_kept : (keeper : ℕ) (kept kept' : Keeping) (l m : Whole) (said : List Record) → KeptStands kept kept' l m → records_by keeper said ≡ []
    → KeptPushed keeper said kept kept'
nothing_kept keeper kept kept' l m said stands none = search (arith, append-nil)

-- Where there is no keeper and its part of the list is the same, nobody made its steps.
still_without_keeper : (keeper : ℕ) (kept : Keeping) (p q : Progress) → part keeper q.list ≡ part keeper p.list → KeptStill keeper kept p q
still_without_keeper keeper a p q parts = search arith

-- ---- the keeper first
module _ {f keeper r block h h' more p : _} (op : Op) (apart : op.actor ≢ keeper) (asks : request_in op.what ≡ Some r) (kept : keeper_in op.what ≡ Some keeper)
    (tries : KeeperTries f keeper r block h h' more p) where
  abbrev k : ℕ
  k = op.actor

  -- how far the replay is then, and what the keeper said
  abbrev after : Progress
  after = after_trying p keeper tries.tried

  abbrev told : List Record
  told = tries.tried.records

  -- the thread has what it had
  thread_same : part k after.list ≡ part k p.list
  thread_same = part_of_others k keeper tries.tried.steps p.list (λ e. apart (sym e))

  no_own : records_by k told ≡ []
  no_own = none_by k keeper told tries.each (λ e. apart (sym e))

  -- the acts are those of the guarded request, as the keeper is its own
  of_guard : {came old new h'' later : _} → PairActs f k keeper (Guards keeper op ∷ (Settles k ∷ [])) came old new (OneKeeper h) (OneKeeper h'') later more p
      → PairActs f k keeper (head_acts op) came old new (OneKeeper h) (OneKeeper h'') later more p
  of_guard {came} {old} {new} {h''} {later} acts = search arith

  -- The keeper gave a block. Of the thread only the runs that its cache noted are handed on.
  given_acts : {σ σ' : Standing} {c c' : Cached} {out : Records} {later : Later} (b : Block) → block ≡ Some b → cost_of_what op.what ≡ cost_of_size r.size + 2
      → StandsStill σ σ' p.list after.list → RestsAt f k σ c out (and_for (cost_of_what op.what) later) p → c' ≡ settled c
      → PairActs f k keeper (head_acts op) (named_by op.what (Some b)) (here σ c out) (here σ' c' out) (OneKeeper h) (OneKeeper h') later more p
  given_acts {σ} {σ'} {c} {c'} {out} {later} b given cost stays at done =
      let midway = after_giving after r.name b in
      let q = after_settling midway k in
      let rests : RestsAt f k σ' c out later after = rests_for (rests_still stays thread_same refl at) (omega arith) (omega arith) in
      let room = rests.sits.room in
      let log = ap (λ (d : Cached). length d.log) done in
      let pays = ap (λ (o : Option Block). cost_of_try r.size o) given in
      of_guard record {
        reached = q;
        reaches = (midway, search arith, (q, refl, refl));
        stands = record {
          sits = record { actor = rests.sits.actor; profile = rests.sits.profile; stood = rests.sits.stood; rest = settled_rest (part k q.list) done rests.sits.rest; room = omega (arith, room, log) };
          cache = its_cache midway.caches k (settled (midway.caches k)) ∙ ap settled at.cache ∙ sym done;
          spare = omega (arith, rests.spare, log);
        };
        waits = (tt, record { sits = tries.stands.sits; book = tries.stands.book; spare = tries.stands.spare; places = tries.stands.places });
        said = told;
        records_are = refl;
        pushed = sym (ap (λ (rs : List Record). records_in out ++ rs) no_own ∙ append-nil (records_in out));
        room = refl;
        kept_pushed = (tries.pushed ∙ ap (λ (rs : List Record). records_in h.out ++ rs) (sym (all_by keeper told tries.each)), tries.room, tries.size);
        still = tt;
        each = of_other k keeper told tries.each;
        names = ap (λ (o : Option Request). named_with o (Some b) ++ p.names) (sym asks);
        paid = omega (arith, tries.paid, pays, log, ap (λ (w : View). owed_events f c w) thread_same, own_cost op, cost);
      }

  -- It gave none. The thread makes the request from there on.
  left_acts : {σ σ' : Standing} {c : Cached} {out : Records} {new : Here} {h'' : KeeperHas} {later : Later} (came : Option Block) → block ≡ None
      → (did : ThreadActs f k (Operates op ∷ (Settles k ∷ [])) (named_by op.what came) [] (here σ' c out) new later after)
      → HasStill h' h'' after.list did.reached.list
      → PairActs f k keeper (head_acts op) (named_by op.what came) (here σ c out) new (OneKeeper h) (OneKeeper h'') later more p
  left_acts {σ} {σ'} {c} {out} {new} {h''} {later} came none did still =
      let parts : part keeper did.reached.list ≡ part keeper after.list =
      ap (λ (l : Whole). part keeper l) did.moves.list_is ∙ part_of_others keeper k did.moves.steps after.list apart in
      let owed = ap (λ (b : GuardBook). owed_by_keeper f (guards_in b) (part keeper did.reached.list)) still.book ∙ ap (λ (w : View). owed_by_keeper f (guards_in h'.book) w) parts in
      let mine = ap (λ (w : View). owed_events f c w) thread_same in
      of_guard record {
        reached = did.reached;
        reaches =
            (did.reaches.0, search arith, did.reaches.2);
        stands = did.stands;
        waits = (tt, keeper_still still parts (ap (λ (books : Books). books keeper) did.books) tries.stands);
        said = told ++ did.own;
        records_are = did.records_are ∙ ap (λ (rs : List Record). after.records ++ rs) (append-nil did.own) ∙ append_assoc p.records told did.own;
        pushed = did.pushed ∙ ap (λ (rs : List Record). records_in out ++ rs) (sym (records_both k told did.own ∙ ap (λ (rs : List Record). rs ++ records_by k did.own) no_own ∙ all_by k did.own did.each));
        room = did.room;
        kept_pushed = (
          ap records_in still.out
              ∙ (tries.pushed ∙ ap (λ (rs : List Record). records_in h.out ++ rs)
              (sym (records_both keeper told did.own ∙ ap (λ (rs : List Record). records_by keeper told ++ rs) (none_by keeper k did.own did.each apart)
              ∙ append-nil (records_by keeper told) ∙ all_by keeper told tries.each))),
          ap room_of still.out ∙ tries.room,
          ap size_of_book still.book ∙ tries.size,
        );
        still = tt;
        each = two_both k keeper told did.own (of_other k keeper told tries.each) (of_one k keeper did.own did.each);
        names = did.names;
        paid = omega (arith, tries.paid, did.paid, ap (λ (o : Option Block). cost_of_try r.size o) none, owed, mine, length-append told did.own);
      }

-- ---- a guarded request
-- the thread may do what it might, where its keeper tried the request
may_still : {f k keeper r got h h' more what meant σ σ' c out later p : _} (tries : KeeperTries f keeper r got h h' more p) → k ≢ keeper
    → StandsStill σ σ' p.list (after_trying p keeper tries.tried).list → MayOperate f k what meant (here σ c out) later p
    → MayOperate f k what meant (here σ' c out) later (after_trying p keeper tries.tried)
may_still {k = j} {keeper = by} {p = p} tries apart stays may = search (arith, part_of_others, rests_still)

pub may_next : {f k keeper what meant σ σ' c out later : _} (r : Request) (got : Option Block) (more : LaterKept) (p : Progress) (kept kept' : Keeping)
    → k ≢ keeper → TriesAt f keeper r got σ σ' kept kept' more p → MayOperate f k what meant (here σ c out) later p
    → (q : Progress) × MayOperate f k what meant (here σ' c out) later q
may_next r got more p (OneKeeper h) (OneKeeper h') apart tries may = (_, may_still tries.0 apart tries.1 may)
may_next r got more p _ _ apart tries may = absurd tries

-- its task, where it is one
module _ {k name heap size align : ℕ} (op : Op) (asks : op.what ≡ what_of (Task.Guarded k name heap size align)) where
  -- the request that it makes
  abbrev asked : Request
  asked = record { name = name; heap = heap; size = size; align = align }

  -- The keeper that waits keeps its guard.
  its_keeper : {f keeper p has : _} (more : LaterKept) (rest : List Act)
      → KeeperWaits f keeper (act_kept (keeper_in op.what) op ∷ rest) (OneKeeper has) more p → keeper_in op.what ≡ Some keeper
  its_keeper more rest waits = let is = ap (λ (w : What). keeper_in w) asks in search arith

  -- It may try it.
  pub may_try : {f keeper next meant σ c out later : _} (kept : Keeping) (more : LaterKept) (p : Progress)
      → MayServe f keeper op next meant (here σ c out) kept later more p
      → IsAdmitted f size align heap × (2048 < size) × MayTryAt f keeper size kept (for_guards next more) p × StandsAt σ p.list × (σ.seat.actor ≢ keeper)
  may_try {f} {keeper} {next} kept more p at = search (arith, stands_at)

  -- It gave a block.
  pub pair_given : {f keeper next p got σ σ' c c' out meant later : _} (b : Block) (more : LaterKept) (kept kept' : Keeping)
      → got ≡ Some b → MayServe f keeper op next meant (here σ c out) kept later more p → TriesAt f keeper asked got σ σ' kept kept' (for_guards next more) p
      → c' ≡ settled c
      → PairActs f op.actor keeper (head_acts op) (named_by op.what (Some b)) (here σ c out) (here σ' c' out) kept kept' later (for_guards next more) p
  pair_given {next = next} b more (OneKeeper h) (OneKeeper h') gave at tries done =
      given_acts op at.apart (ap (λ (w : What). request_in w) asks) (its_keeper more (Settles op.actor ∷ next) at.waits) tries.0 b gave (ap (λ (w : What). cost_of_what w) asks) tries.1 at.may.rests done
  pair_given b more _ _ gave at tries done = absurd tries

  -- It gave none, and the thread made the request.
  pub pair_left : {f keeper next p got σ σ' c out new later meant : _} (came : Option Block) (more : LaterKept) (kept kept' kept'' : Keeping)
      → got ≡ None → (at : MayServe f keeper op next meant (here σ c out) kept later more p)
      (tries : TriesAt f keeper asked got σ σ' kept kept' (for_guards next more) p)
      → (did : ThreadActs f op.actor (Operates op ∷ (Settles op.actor ∷ [])) (named_by op.what came) [] (here σ' c out) new later
      (may_next asked got (for_guards next more) p kept kept' at.apart tries at.may).0)
      → KeptStands kept' kept'' (may_next asked got (for_guards next more) p kept kept' at.apart tries at.may).0.list did.reached.list
      → PairActs f op.actor keeper (head_acts op) (named_by op.what came) (here σ c out) new kept kept'' later (for_guards next more) p
  unfolding may_next
  pair_left {next = next} came more (OneKeeper h) (OneKeeper h') (OneKeeper h'') none at tries did stands =
      left_acts op at.apart (ap (λ (w : What). request_in w) asks) (its_keeper more (Settles op.actor ∷ next) at.waits) tries.0 came none did stands
  pair_left came more (OneKeeper h) (OneKeeper h') NoKeeper none at tries did stands = absurd stands
  pair_left came more _ _ kept'' none at tries did stands = absurd tries

-- ---- an operation that is none
-- nobody keeps a guard of it
pub not_kept : (op : Op) (task : Task) → op.what ≡ what_of task → ((k name heap size align : ℕ) → task ≡ Task.Guarded k name heap size align → ⊥)
    → keeper_in op.what ≡ None
not_kept op task asks other = ap (λ (w : What). keeper_in w) asks ∙ ap (λ (w : Work). of_task keeper_of w) (task_of task) ∙ (search arith)

-- With a keeper, and without one.
waits_past : (f : Profile) (keeper : ℕ) (more : LaterKept) (p : Progress) (op : Op) (rest : List Act) (kept : Keeping)
    → KeeperWaits f keeper (act_kept None op ∷ rest) kept more p → KeeperWaits f keeper [] kept (for_guards rest more) p
waits_past f keeper more p op rest a waits = search arith

-- The thread alone did it.
pub pair_alone : {f keeper next p meant old new later : _} (came : Option Block) (more : LaterKept) (op : Op) (kept kept' : Keeping)
    → keeper_in op.what ≡ None → MayServe f keeper op next meant old kept later more p
    → (did : ThreadActs f op.actor (Operates op ∷ (Settles op.actor ∷ [])) (named_by op.what came) [] old new later p)
    → KeptStands kept kept' p.list did.reached.list
    → PairActs f op.actor keeper (head_acts op) (named_by op.what came) old new kept kept' later (for_guards next more) p
pair_alone {f} {keeper} {next} {p} {old = old} {new} {later} came more op kept kept' none at did stands =
    let rest = Settles op.actor ∷ next in
    let waits = waits_past f keeper more p op rest kept (subst (λ (o : Option ℕ). KeeperWaits f keeper (act_kept o op ∷ rest) kept more p) none at.waits) in
    rw none (search (arith, part_of_others, keeper_still, append-nil, all_by, nothing_kept, none_by, still_without_keeper, of_one))

-- ---- an operation's acts
-- the first of them may be guarded: the thread's part of it goes by the operation alone
fit_now : (f : Profile) (limit : ℕ) (asked : List ℕ) (o : Option ℕ) (op : Op) (next : List Act)
    → AreFit f limit asked (act_kept o op ∷ (Settles op.actor ∷ next)) → IsFitWhat f limit asked op.what × AreFit f limit (asked_after op.what asked) next
fit_now f limit asked a op next fit = search arith

-- ---- a thread at its desk
-- the acts that are left need room besides
abbrev pub with_acts : ℕ → List Act → Later → Later
with_acts k next later = record { events = own_costs_of k next + later.events; records = own_costs_of k next + later.records }

thread_stands : {f : Profile} {k : ℕ} {next : List Act} {σ : Standing} {c : Cached} {known : Table} {out : Records} {later : Later} {p : Progress}
    → RestsAt f k σ c out (with_acts k next later) p → KnowsNames f next known p.names → ThreadAt f k next σ (keeps c known out) later p
thread_stands at names = let spare = at.spare in record { sits = sits_for at.sits (omega arith); cache = at.cache; spare = omega (arith, spare); names = names }

-- ---- before an operation
-- it fits
its_fit : {f : Profile} {next : List Act} {known : Table} {names : List Named} (op : Op) → (knows : KnowsNames f (head_acts op ++ next) known names)
    → IsFitWhat f (names_held known.book.names) knows.asked op.what
its_fit {f} {next} {known} op knows = (fit_now f (names_held known.book.names) knows.asked (keeper_in op.what) op next knows.fit).0

-- it is no chore
pub no_chore : (f : Profile) (limit : ℕ) (asked : List ℕ) {work : Work} {chore : Chore} → IsFitWork f limit asked work → work ≡ Work.Chore chore → ⊥
no_chore f limit asked fit is = subst (λ (w : Work). IsFitWork f limit asked w) is fit

-- A thread before an operation may do it, for what its name stands for.
may_operate : {f next σ c known out later p what meant : _} (op : Op)
    → op.what ≡ what → ThreadAt f op.actor (head_acts op ++ next) σ (keeps c known out) later p → meant ≡ freed_by (known_in known.book known.requests) what
    → MayOperate f op.actor op.what meant (here σ c out) (with_acts op.actor next later) p
may_operate {f} {next} {σ} {c} {known} {out} {later} {p} op asks at freed = let is = freed ∙ ap (freed_by (known_in known.book known.requests)) (sym asks) in record {
  rests = search (arith, sum_both, kept_cost, own_cost, sits_for);
  limit = names_held known.book.names;
  asked = at.names.asked;
  fit = its_fit op at.names;
  known = known_if f (names_held known.book.names) at.names.asked p.names op.what (its_fit op at.names) at.names.known;
  means = subst (λ (o : Option Block). IsMeant p.names op.what o) (sym is) (meant_by (known_in known.book known.requests) p.names op.what at.names.tells);
  stands = subst (MayStand f) (sym is) (meant_stands f (known_in known.book known.requests) op.what at.names.stand);
}

-- .. and its keeper may try it first
pub may_serve : {f keeper next σ c known out kept later more p what meant : _} (op : Op) → op.what ≡ what
    → PairAt f op.actor keeper (head_acts op ++ next) σ (keeps c known out) kept later more p → meant ≡ freed_by (known_in known.book known.requests) what
    → MayServe f keeper op next meant (here σ c out) kept (with_acts op.actor next later) more p
may_serve op asks at freed = record { may = may_operate op asks at.thread freed; apart = at.apart; waits = at.waits }

-- what the freed name stands for, and the room for the asked one
pub its_own : {known : Table} {f acts names : _} → KnowsNames f acts known names → ArePlaced known.book 0 (names_of (requests_in known.requests))
its_own {known = known} {f = f} {acts = acts} {names = names} knows = (placed_both known.book 0 _ (names_asked acts) knows.placed).0

-- the names that its acts ask for
asks_now : (op : Op) (next : List Act) → names_asked (head_acts op ++ next) ≡ name_asked op.what ++ names_asked next
asks_now op next = ap (λ (ns : List ℕ). ns ++ names_asked next) (kept_asks (keeper_in op.what) op)

-- There is room for the request of the next operation.
pub room_now : {f : Profile} {next : List Act} {known : Table} {names : List Named} {what : What} (op : Op) → op.what ≡ what
    → KnowsNames f (head_acts op ++ next) known names
    → length (requests_in known.requests) + length (name_asked what) ≤ room_for known.requests
room_now {f} {next} op asks knows = search (arith, asks_now, length-append)

-- ---- after an operation
-- what the thread knows after it: the name that the operation asked for is its last request
pub record IsKept (known known' : Table) (what : What) (came : Option Block) : Type 0 where
  pub book : known'.book ≡ known.book
  pub requests : requests_in known'.requests ≡ requests_in known.requests ++ named_by what came
  pub room : room_for known'.requests ≡ room_for known.requests

names_kept : {known known' : Table} (what : What) {came : Option Block} → IsKept known known' what came
    → names_of (requests_in known'.requests) ≡ names_of (requests_in known.requests) ++ name_asked what
names_kept {known} {known'} what {came} kept =
    search (arith, names_both)

knows_more : {f next known known' came names : _} (op : Op) → KnowsNames f (head_acts op ++ next) known names → IsKept known known' op.what came
    → MayStand f came → KnowsNames f next known' (named_by op.what came ++ names)
knows_more {f} {next} {known} {known'} {came} {names} op knows kept stands =
    let what = op.what in
    let rs = requests_in known.requests in
    let rs' = requests_in known'.requests in
    let asks = asks_now op next in
    let placed = subst (λ (ns : List ℕ). ArePlaced known.book 0 (names_of rs ++ ns)) asks knows.placed in
    let same = names_kept what kept in
    let now = ap (λ (ns : List ℕ). length ns) asks in
    let grown = ap (λ (ns : List ℕ). length ns) same ∙ length-append (names_of rs) (name_asked what) in
    subst (λ (b : NameBook). KnowsNames f next (record { book = b; requests = known'.requests }) (named_by what came ++ names)) (sym kept.book) record {
      asked = asked_after what knows.asked;
      fit = (fit_now f (names_held known.book.names) knows.asked (keeper_in what) op next knows.fit).1;
      tells = λ n. tells_more known.book rs rs' (request_in what) came names (names_asked next) n (block_named known.book.names n) kept.requests placed
          (knows.tells n);
      stand = λ n. stand_more f rs rs' (request_in what) came n (block_named known.book.names n) kept.requests stands (knows.stand n);
      known = known_more (request_in what) came knows.asked names knows.known;
      placed = subst (λ (ns : List ℕ). ArePlaced known.book 0 ns) (sym (ap (λ (ns : List ℕ). ns ++ names_asked next) same ∙ append_assoc (names_of rs) (name_asked what) (names_asked next))) placed;
      room = omega (arith, knows.room, kept.room, now, names_count rs, names_count rs', grown, length-append (name_asked what) (names_asked next));
    }

-- An operation that thread and keeper did, and whose request was noted, is work of the pair.
pub operated : {f keeper next σ σ' c c' known known' what came out out' kept kept' later more p : _} (op : Op)
    → op.what ≡ what
    → PairAt f op.actor keeper (head_acts op ++ next) σ (keeps c known out) kept later more p
    → PairActs f op.actor keeper (head_acts op) (named_by op.what came) (here σ c out) (here σ' c' out') kept kept' (with_acts op.actor next later)
    (for_guards next more) p
    → IsKept known known' what came → MayStand f came
    → PairWorks f op.actor keeper (head_acts op) next σ σ' (keeps c known out) (keeps c' known' out') kept kept' later more p
operated {f} {keeper} {next} {σ} {σ'} {c} {c'} {known} {known'} {what} {came} {out} {out'} {kept} {kept'} {later} {more} {p} op asks at did keeping stands =
    let noted : IsKept known known' op.what came = subst (λ (w : What). IsKept known known' w came) (sym asks) keeping in
    let thread : ThreadAt f op.actor next σ' (keeps c' known' out') later did.reached = thread_stands did.stands
    (subst (λ (ns : List Named). KnowsNames f next known' ns) (sym did.names) (knows_more op at.thread.names noted stands)) in
    let there : PairAt f op.actor keeper next σ' (keeps c' known' out') kept' later more did.reached
    = record { thread = thread; apart = at.apart; waits = grind arith } in
    let names = names_kept op.what noted ∙ ap (λ (ns : List ℕ). names_of (requests_in known.requests) ++ ns)
    (sym (asks_now op [] ∙ append-nil (name_asked op.what))) in
    search arith

-- ---- one after the other
-- What a keeper said in two parts, one after the other, it said together.
pub kept_both : (keeper : ℕ) (xs ys : List Record) (k0 k1 k2 : Keeping) → KeptPushed keeper xs k0 k1 → KeptPushed keeper ys k1 k2
    → KeptPushed keeper (xs ++ ys) k0 k2
kept_both keeper xs ys k0 k1 k2 one two = search (arith, records_both, append_assoc)

-- ---- which operation comes next
own_next : (k : ℕ) (ops : List Op) (i : ℕ) (d : Op) → i < length ops → (get_or ops i d).actor ≡ k
    → own_acts k (drop i ops) ≡ head_acts (get_or ops i d) ++ own_acts k (drop (i + 1) ops)
own_next k ops i d lt is = cc (drop_more ops i d lt, eq-eqb (get_or ops i d).actor k is)

own_skip : (k : ℕ) (ops : List Op) (i : ℕ) (d : Op) → i < length ops → ((get_or ops i d).actor ≡ k → ⊥)
    → own_acts k (drop i ops) ≡ own_acts k (drop (i + 1) ops)
own_skip k ops i d lt other = cc (drop_more ops i d lt, ne_eqb (get_or ops i d).actor k other)

-- so far, the acts of thread k before the operation at this place were done
abbrev SoFar : Profile → ℕ → ℕ → List Op → ℕ → Standing → Standing → Keeps → Keeps → Keeping → Keeping → Later → LaterKept → Progress → Type 0
SoFar f k keeper ops i σ0 σ h0 h k0 k1 later more p =
    (did : List Act) × (did ++ own_acts k (drop i ops) ≡ own_acts k ops) × PairWorks f k keeper did (own_acts k (drop i ops)) σ0 σ h0 h k0 k1 later more p

-- Before the first operation of a phase a pair did none.
pub begins : {f : Profile} {k keeper : ℕ} (ops : List Op) {σ : Standing} {has : Keeps} (kept : Keeping) {later : Later} {more : LaterKept} {p : Progress}
    → PairAt f k keeper (own_acts k ops) σ has kept later more p → SoFar f k keeper ops 0 σ σ has has kept kept later more p
begins ops kept at = ([], refl, search (arith, append-nil, nothing_kept, kept_same, still_without_keeper))

-- the operation is the thread's: it stands before it
pub stands_before : {f k keeper : _} (ops : List Op) {i σ0 σ h0 h k0 k1 later more p : _} (d : Op)
    → i < length ops → (get_or ops i d).actor ≡ k → (so : SoFar f k keeper ops i σ0 σ h0 h k0 k1 later more p)
    → PairAt f (get_or ops i d).actor keeper (head_acts (get_or ops i d) ++ own_acts k (drop (i + 1) ops)) σ h k1 later more so.2.reached
stands_before {f} {k} {keeper} ops {i} {σ0} {σ} {h0} {h} {k0} {k1} {later} {more} {p} d lt is so = search (arith, own_next)

-- After its own operation a pair did one more.
pub goes_on : {f k keeper : _} (ops : List Op) {i σ0 σ σ' h0 h h' k0 k1 k2 later more p : _} (d : Op)
    → i < length ops → (get_or ops i d).actor ≡ k → (so : SoFar f k keeper ops i σ0 σ h0 h k0 k1 later more p)
    → PairWorks f (get_or ops i d).actor keeper (head_acts (get_or ops i d)) (own_acts k (drop (i + 1) ops)) σ σ' h h' k1 k2 later more so.2.reached
    → SoFar f k keeper ops (i + 1) σ0 σ' h0 h' k0 k2 later more p
goes_on {f} {k} {keeper} ops {i} {σ0} {σ} {σ'} {h0} {h} {h'} {k0} {k1} {k2} {later} {more} {p} d lt is so did =
    let op = get_or ops i d in
    let rest = own_acts k (drop (i + 1) ops) in
    let mine : PairWorks f k keeper (head_acts op) rest σ σ' h h' k1 k2 later more so.2.reached = subst (λ (j : ℕ). PairWorks f j keeper (head_acts op) rest σ σ' h h' k1 k2 later more so.2.reached) is did in
    let all = append_assoc so.0 (head_acts op) rest ∙ ap (λ (acts : List Act). so.0 ++ acts) (sym (own_next k ops i d lt is)) ∙ so.1 in
    (so.0 ++ head_acts op, all, search (arith, reach_both, append_assoc, records_both, kept_both, two_both, asked_both, length-append, sum_both))

-- An operation of another actor is skipped.
pub skips : {f k keeper : _} (ops : List Op) {i σ0 σ h0 h k0 k1 later more p : _} (d : Op)
    → i < length ops → ((get_or ops i d).actor ≡ k → ⊥) → SoFar f k keeper ops i σ0 σ h0 h k0 k1 later more p
    → SoFar f k keeper ops (i + 1) σ0 σ h0 h k0 k1 later more p
skips {f} {k} {keeper} ops {i} {σ0} {σ} {h0} {h} {k0} {k1} {later} {more} {p} d lt other so =
    search (arith, own_skip)

-- Once all operations of a phase were passed, a pair did all of its own.
pub ends : {f k keeper : _} (ops : List Op) {i σ0 σ h0 h k0 k1 later more p : _}
    → length ops ≤ i → SoFar f k keeper ops i σ0 σ h0 h k0 k1 later more p
    → PairWorks f k keeper (own_acts k ops) [] σ0 σ h0 h k0 k1 later more p
ends {f} {k} {keeper} ops {i} {σ0} {σ} {h0} {h} {k0} {k1} {later} {more} {p} le so = search (arith, drop, drop_of_length-le, append-nil)
