-- The keepers of workers: how those of a plan are made, how they stand on while others act and over a phase, what is gathered of them, and their last sweeps.
use Rattle.std.proofs.Common.{◌≡◌, ℕ, suc, ◌+◌, ◌*◌, ◌<◌, ◌≤◌, ◌==◌, min, Bool, true, false, if◌then◌else◌, List, [], ◌∷◌, ◌++◌, length, get_or, slice_index}
use Rattle.std.proofs.Common.{inl, inr, Option, Some, refl, ap, sym, ◌∙◌, subst, arith, ◌-◌, ◌^◌, eq-eqb, ne_eqb, ◌≢◌, None, append-nil, drop}
use Rattle.std.proofs.{Common.{drop_of_length-le, length-drop, is_some, true≢false}, Math.Nat.{le-min, mul-le-mul}}
use Rattle.pas_threads.proofs.Common.{cases_lt, false≢true, get_or-map, drop_more, Profile, IsPlanOf, bounds_of, kept_records, records_of_ops, Op, Plan, Act}
use Rattle.pas_threads.proofs.Common.{own_acts, every_plan, SharedPass, SharedRegion, threads_of, keepers_of, Progress, records_by, all_front, all_back}
use Rattle.pas_threads.proofs.Common.{guarded_of, owner_in, LaterKept, Keeping, for_guards, AreTriedBy, AreUnguarded, KeeperWaits, KeptPushed, is_guarded}
use Rattle.pas_threads.proofs.Common.{own_thread, kept_thread, owner_of, AreKeptBy, most_records, AreGuarded, kept_by_worker, IsKeeperOf, no_more, owed_kept}
use Rattle.pas_threads.proofs.Common.{keeper_at, IsLow, KeeperStands, KeeperRests, Keeper, Worker, HasSaid, Round, ThreadDone, part, Record}
use Rattle.pas_threads.{proofs.{TakingTurns.each_pushed, Dealt.some_item}, specs.{Kits.{IsKeptBy, HaveKeepers, TakesKeeper}, Pairs.{said_by_keeper, IsSilent}}}
use Rattle.pas_guard.specs.{Books.{guards_in, size_of_book}, declared.book.GuardBook.GuardBook}
use Rattle.pas_trace.{specs.{EveryPlan.operations_of, Reasons.{cost_of_size, actors_by}}, proofs.{EveryPlan.threads_among, Costs.{small_cost, large_cost}}}
use Rattle.pas_trace.proofs.Keepers.{keepers_few}
use Rattle.pas_answers.specs.Ways.{is_of}
use Rattle.pas_acts.{specs.{PlanKeepers.AreBooks, Keepers.{OneKeeper, NoKeeper}, Pairs.{for_guard, EachOfTwo, KeptStill, owed_of}}, proofs.AtDesk.keeper_still}

-- ---- what they may say
two_least : (size : ℕ) → 2 ≤ cost_of_size size
two_least size = search (arith, cases_lt, large_cost, small_cost)

-- a keeper's events for guarded requests pay for two records of each
guards_paid : (k : ℕ) (ops : List Op) → 2 * guarded_of k ops ≤ kept_records k ops
guards_paid k [] = omega arith
guards_paid k (op ∷ ops) = search (arith, two_least, op.actor == k, guards_paid k ops)

-- .. and all that it may say is counted among the plan's records
guards_said : (f : Profile) (k : ℕ) (ops : List Op) → kept_records k ops + 2 * guarded_of k ops ≤ records_of_ops f ops
guards_said f k [] = omega arith
guards_said f k (op ∷ ops) = search (arith, op.actor == k, op.what, guards_said f k ops)

-- so twice its bound suffices for it, and where that can't be counted in 32 bits, what can be counted does
keeper_room : {text : List ℕ} {plan : Plan} (i room : ℕ) → IsPlanOf text plan → i < keepers_of plan → plan.total < 2 ^ 32
    → room ≡ min (slice_index (bounds_of plan.bounds) (threads_of plan + suc i) * 2) (2 ^ 32 - 1)
    → slice_index (bounds_of plan.bounds) (threads_of plan + suc i) + 2 * guarded_of (suc i) (operations_of plan) ≤ room
keeper_room {text} {plan} i room read lt few is =
    let sound = every_plan read in
    let most = keepers_few plan in
    let bound = sound.kept (suc i) (is_guarded plan (omega (arith, lt))) (omega arith) (omega (arith, lt, most)) in
    let paid = guards_paid (suc i) (operations_of plan) in
    let said = guards_said plan.profile (suc i) (operations_of plan) in
    let some : 1 ≤ actors_by plan.guard plan.profile.threads = omega (arith, lt, most, threads_among plan.guard plan.profile.threads) in
    let pages : 1 * plan.profile.pages ≤ actors_by plan.guard plan.profile.threads * plan.profile.pages = mul-le-mul some (omega arith) in
    let needs = slice_index (bounds_of plan.bounds) (threads_of plan + suc i) + 2 * guarded_of (suc i) (operations_of plan) in
    subst (λ (n : ℕ). needs ≤ n) (sym is) (le-min (omega (arith, bound, paid)) (omega (arith, bound, said, sound.total, pages, few)))

-- ---- their passes and books
-- behind the first of those from a place on are those from the next place on
rest_next : {A : Type 0} (xs rest : List A) (i : ℕ) (x : A) → drop i xs ≡ x ∷ rest → rest ≡ drop (i + 1) xs
rest_next {A} xs rest i x is = let lt : i < length xs = omega (arith, ap length is, length-drop i xs) in cc (drop_more xs i x lt)

none_next : {A : Type 0} (xs : List A) (i : ℕ) → drop i xs ≡ [] → drop (i + 1) xs ≡ []
none_next xs i none = drop_of_length-le xs (let none_left = ap length none in omega (arith, none_left, length-drop i xs))

-- A keeper that took the first of those that are left has those at its place.
pub keeper_next : {left left' : List SharedPass} {more more' : List GuardBook} (passes : List SharedPass) (books : List GuardBook) (bound i : ℕ)
    (o : Option Keeper) → left ≡ drop i passes → more ≡ drop i books → TakesKeeper left left' more more' bound o
    → IsKeptBy passes books bound i o × (left' ≡ drop (i + 1) passes) × (more' ≡ drop (i + 1) books)
keeper_next passes books bound i o one two takes = search (arith, none_next, rest_next)

-- So it is of one worker more.
pub kept_more : {bounds threads passes books workers after : _} (w : Worker) → after ≡ workers ++ w ∷ [] → AreKeptBy bounds threads passes books workers
    → IsKeptBy passes books (most_records (slice_index bounds (threads + suc (length workers)))) (length workers) w.keeper
    → AreKeptBy bounds threads passes books after
kept_more {bounds} {threads} {passes} {books} {workers} w is are one = record {
  each = each_pushed (λ (i : ℕ) (v : Worker). IsKeptBy passes books (most_records (slice_index bounds (threads + suc i))) i v.keeper) workers w is one are.each;
}

-- the keeper, where one is there
pub kept_there : (o : Option Keeper) → is_some o ≡ true → (keeper : Keeper) × (o ≡ Some keeper)
kept_there None is = absurd (false≢true is)
kept_there (Some keeper) is = (keeper, refl)

-- .. and where none is
pub none_there : (o : Option Keeper) → is_some o ≡ false → o ≡ None
-- With one and without one.
none_there a is = search (arith, true≢false)

-- There is a keeper where there is a pass for it, and none past them.
kept_some : (passes : List SharedPass) (books : List GuardBook) (bound i : ℕ) (o : Option Keeper) → IsKeptBy passes books bound i o → i < length passes
    → is_some o ≡ true
kept_some passes books bound i None kept lt = absurd (let none = ap length kept.0 in omega (arith, none, length-drop i passes, lt))
kept_some passes books bound i (Some keeper) kept lt = refl

kept_past : (passes : List SharedPass) (books : List GuardBook) (bound i : ℕ) (o : Option Keeper) → IsKeptBy passes books bound i o → length passes ≤ i
    → is_some o ≡ false
kept_past passes books bound i None kept le = refl
kept_past passes books bound i (Some keeper) kept le = absurd (let some = ap length kept.0 in omega (arith, some, length-drop i passes, le))

-- all workers of a guarded plan have a keeper, and none of another one
guarded_so : (plain : Bool) {keepers : ℕ} {bounds threads passes books workers : _} → AreKeptBy bounds threads passes books workers
    → keepers ≡ (if plain then 0 else length workers) → length passes ≡ keepers → AreGuarded keepers workers
guarded_so true {passes = passes} {books} {workers} are is size =
    (false, is, λ i d lt. kept_past passes books _ i (get_or workers i d).keeper (are.each i d lt) (omega (arith, is, size)))
guarded_so false {passes = passes} {books} {workers} are is size =
    (true, is, λ i d lt. kept_some passes books _ i (get_or workers i d).keeper (are.each i d lt) (omega (arith, is, size, lt)))

-- The workers of a guarded plan have the keepers of the plan, each with its pass, its empty book and room.
pub have_keepers : {text : List ℕ} {plan : Plan} (passes : List SharedPass) (books : List GuardBook) {workers : List Worker} → IsPlanOf text plan
    → plan.total < 2 ^ 32 → AreKeptBy (bounds_of plan.bounds) (threads_of plan) passes books workers → AreBooks plan books
    → length passes ≡ keepers_of plan → length workers ≡ threads_of plan → HaveKeepers plan passes workers
have_keepers {plan = plan} passes books {workers} read few are made size many = (
  size,
  guarded_so (plan.guard == 0) are (ap (λ n. if plan.guard == 0 then 0 else n) (sym many)) size,
  λ i d e lt.
      let kept = are.each i e (omega (arith, lt, many, keepers_few plan)) in
      let some = kept_there (get_or workers i e).keeper (kept_some passes books _ i (get_or workers i e).keeper kept (omega (arith, lt, size))) in
      let by = subst (IsKeptBy passes books (most_records (slice_index (bounds_of plan.bounds) (threads_of plan + suc i))) i) some.1 kept in
      let b = some_item books i (omega (arith, lt, made.many)) in
      let book_is = ap (λ bs. get_or bs 0 b) (sym by.1 ∙ drop_more books i b (omega (arith, lt, made.many))) in
      record {
        there = some.0;
        present = some.1;
        pass_is = ap (λ ps. get_or ps 0 d) (sym by.0 ∙ drop_more passes i d (omega (arith, lt, size)));
        empty = ap guards_in book_is ∙ made.empty i b lt;
        places = ap size_of_book book_is ∙ made.places i b lt ∙ ap (λ n. guarded_of n (operations_of plan)) (let is : i + 1 ≡ suc i = omega arith in is);
        said = by.2;
        records = omega (arith, by.3, keeper_room i _ read lt few refl);
      },
)

-- ---- the acts of a thread
-- A thread's own acts of operations and later ones are those of both, one after the other.
own_acts_both : (k : ℕ) (ops left : List Op) → own_acts k (ops ++ left) ≡ own_acts k ops ++ own_acts k left
own_acts_both k [] left = refl
own_acts_both k (op ∷ ops) left = search (arith, op.actor == k, own_acts_both k ops left)

guards_both : (xs ys : List Act) (later : LaterKept) → for_guards (xs ++ ys) later ≡ for_guards xs (for_guards ys later)
guards_both [] ys later = refl
guards_both (x ∷ xs) ys later = ap (for_guard x) (guards_both xs ys later)

-- ---- a keeper that waits
-- for which acts it waits then
abbrev pub WillWait : ℕ → List Act → Keeping → Type 0
WillWait k ys NoKeeper = AreUnguarded ys
WillWait k ys (OneKeeper has) = AreTriedBy k ys

-- A keeper that will wait for some acts still will once what it said is among its records.
pub will_wait_then : (k : ℕ) (said : List Record) (ys : List Act) (kept kept' : Keeping) → KeptPushed k said kept kept' → WillWait k ys kept
    → WillWait k ys kept'
will_wait_then k said ys a b pushed will = search arith

-- A keeper that waits for no acts with room for later guarded requests waits for those, if it tries them.
pub waits_next : (f : Profile) (k : ℕ) (ys : List Act) (kept : Keeping) (later : LaterKept) (q : Progress) → WillWait k ys kept
    → KeeperWaits f k [] kept (for_guards ys later) q → KeeperWaits f k ys kept later q
waits_next f k ys a later q will waits = search arith

-- it waits at each progress at which it has the same in hand
pub waits_still : (f : Profile) (k : ℕ) (acts : List Act) (o : Option Keeper) (later : LaterKept) (p q : Progress) → part k q.list ≡ part k p.list
    → q.books k ≡ p.books k → KeeperWaits f k acts (kept_by_worker o) later p → KeeperWaits f k acts (kept_by_worker o) later q
waits_still f k acts a later p q parts books waits = search (arith, keeper_still)

-- Where a worker has no keeper, that actor made no step, as its part of the list is the same.
pub still_same : (k : ℕ) (kept : Keeping) (p q : Progress) → part k q.list ≡ part k p.list → KeptStill k kept p q
still_same k a p q parts = search arith

-- ---- what it owes
pub owed_same : (f : Profile) (k : ℕ) (keeper : Option Keeper) (p : Progress) → owed_of f (kept_by_worker keeper) (part k p.list) ≡ owed_kept f k keeper p
-- With one and without one.
owed_same f k a p = search arith

-- A keeper whose part of the list is the same owes the same.
pub owed_still : (f : Profile) (k : ℕ) (keeper : Option Keeper) (p q : Progress) → part k q.list ≡ part k p.list
    → owed_kept f k keeper q ≡ owed_kept f k keeper p
owed_still f k a p q parts = search arith

-- The keeper at a place is the one of the worker there.
pub keeper_is : (workers : List Worker) (i : ℕ) (d : Worker) → i < length workers → keeper_at workers i ≡ (get_or workers i d).keeper
keeper_is workers i d lt = get_or-map (λ (w : Worker). w.keeper) workers i d None lt

-- ---- what it said
pub kept_none : (k : ℕ) (said : List Record) (kept : Keeping) → records_by k said ≡ [] → KeptPushed k said kept kept
kept_none k said a none = search (arith, append-nil)

-- What two actors alone said is as many records as each of them said, taken together.
pub two_counted : (k keeper : ℕ) (said : List Record) → k ≢ keeper → EachOfTwo k keeper said
    → length (records_by k said) + length (records_by keeper said) ≡ length said
two_counted k keeper [] apart each = omega arith
two_counted k keeper (r ∷ rs) apart each =
    let rest = two_counted k keeper rs apart each.1 in
    elim each.0 [
      | inl of ↦ search (arith, rest, of k ∙ eq-eqb k k refl, of keeper ∙ ne_eqb k keeper apart, is_of k r, is_of keeper r, true≢false)
      | inr of ↦
          search (arith, ne_eqb, eq-eqb)
    ]

-- ---- what is gathered of it
-- A keeper waits for the same acts after what it said was gathered.
pub waits_gathered : (f : Profile) (k : ℕ) (acts : List Act) (later : LaterKept) (p : Progress) (old new : Option Keeper) → HasSaid old new
    → KeeperWaits f k acts (kept_by_worker old) later p → KeeperWaits f k acts (kept_by_worker new) later p
waits_gathered f k acts later p a b said waits = search arith

-- A keeper is of the region still after what it said was gathered.
pub of_gathered : (region : SharedRegion) (old new : Option Keeper) → HasSaid old new → IsKeeperOf region old → IsKeeperOf region new
of_gathered region a b said of = search arith

-- After what it said was gathered, a keeper is silent.
pub silent_gathered : (old new : Option Keeper) → HasSaid old new → IsSilent new
silent_gathered a b said = search arith

-- A keeper owes the same after what it said was gathered.
pub owed_gathered : (f : Profile) (k : ℕ) (old new : Option Keeper) (p : Progress) → HasSaid old new → owed_kept f k new p ≡ owed_kept f k old p
owed_gathered f k a b p said = search arith

-- A keeper has no guard up still after what it said was gathered.
pub low_gathered : (old new : Option Keeper) → HasSaid old new → IsLow old → IsLow new
low_gathered a b said low = search arith

-- A worker's keeper that waits for nothing more stands with its pass of the region.
pub stands_for : {region : SharedRegion} {f : Profile} {k : ℕ} {later : LaterKept} {p : Progress} (o : Option Keeper) (keeper : Keeper) → o ≡ Some keeper
    → IsKeeperOf region o → KeeperWaits f k [] (kept_by_worker o) later p → KeeperStands region f k keeper later p
stands_for {region} {f} {k} {later} {p} o keeper is of waits = search arith

-- There are no more keepers than workers.
pub most_keepers : {keepers : ℕ} (old : List Worker) → AreGuarded keepers old → keepers ≤ length old
-- With a keeper each and without any.
most_keepers {keepers} old guarded = search arith

-- ---- whose hands a keeper is in
pub kept_hands : (threads : ℕ) (ops : List Op) (i : ℕ) → suc i ≤ threads → owner_in threads ops (threads + suc i) ≡ owner_in threads ops (suc i)
kept_hands threads ops i most = owner_of threads ops (threads + suc i) (suc i) (kept_thread threads (suc i) (omega arith)) ∙ sym (owner_of threads ops (suc i) (suc i) (own_thread threads (suc i) most))

-- ---- there is a keeper still, or there is none
-- Keepers of which one is the other with more said are alike: both or neither is there.
pub alike_pushed : (k : ℕ) (said : List Record) (old new : Option Keeper) → KeptPushed k said (kept_by_worker old) (kept_by_worker new)
    → is_some new ≡ is_some old
alike_pushed k said a b pushed = search arith

-- Keepers of which one is the other after it was gathered are alike.
pub alike_said : (old new : Option Keeper) → HasSaid old new → is_some new ≡ is_some old
alike_said a b said = search arith

-- Workers whose keepers are alike are guarded where the others were.
pub guarded_alike : {keepers : ℕ} (old new : List Worker) → length new ≡ length old
    → ((i : ℕ) (d : Worker) → i < length old → is_some (get_or new i d).keeper ≡ is_some (get_or old i d).keeper) → AreGuarded keepers old
    → AreGuarded keepers new
-- With a keeper each and without any.
guarded_alike {keepers} old new many alike guarded = search arith

-- ---- what it said in all
-- What a keeper said is the same where its records are.
pub pushed_alike : (k : ℕ) (said told : List Record) (old new : Keeping) → records_by k said ≡ records_by k told → KeptPushed k said old new
    → KeptPushed k told old new
pushed_alike k said told a b same pushed = search arith

pub said_then : (k : ℕ) (said : List Record) (old new : Option Keeper) → KeptPushed k said (kept_by_worker old) (kept_by_worker new) → IsSilent old
    → said_by_keeper new ≡ records_by k said
-- With one and without one.
said_then k said a b pushed silent = search arith

-- ---- before the phase: it waits for the requests of the phase, with room for the others
pub kept_waits : {region f keeper : _} (k : ℕ) (ops left : List Op) (o : Option Keeper) {p : _} → KeeperRests region f keeper (own_acts k (ops ++ left)) o p
    → KeeperWaits f keeper (own_acts k ops) (kept_by_worker o) (for_guards (own_acts k left) no_more) p
kept_waits {f = f} {keeper} k ops left o {p} rests =
    let waits = subst (λ acts. KeeperWaits f keeper acts (kept_by_worker o) no_more p) (own_acts_both k ops left) rests.waits in
    search (arith, all_front, guards_both, kept_by_worker o, waits)

-- A keeper that rests will wait for the requests of the phases that are left.
pub kept_will : {region : SharedRegion} {f : Profile} {keeper : ℕ} (k : ℕ) (ops left : List Op) (o : Option Keeper) {p : Progress}
    → KeeperRests region f keeper (own_acts k (ops ++ left)) o p → WillWait keeper (own_acts k left) (kept_by_worker o)
kept_will {f = f} {keeper} k ops left o {p} rests =
    search (arith, all_back, kept_by_worker o, subst (λ acts. KeeperWaits f keeper acts (kept_by_worker o) no_more p) (own_acts_both k ops left) rests.waits)

-- .. at another progress at which it has the same in hand
pub kept_still : {region f keeper acts old new : _} {p q : Progress} → new ≡ old → part keeper q.list ≡ part keeper p.list → q.books keeper ≡ p.books keeper
    → KeeperRests region f keeper acts old p → KeeperRests region f keeper acts new q
kept_still {region} {f} {keeper} {acts} {old} {new} {p} {q} same parts books rests = search (arith, waits_still)

-- ---- after the phase
pushed_nothing : (k : ℕ) (said : List Record) (new : Keeping) → KeptPushed k said NoKeeper new → records_by k said ≡ []
-- Case by case.
pushed_nothing k said a pushed = search arith

-- where there is no keeper, that actor took no part
pub kept_nobody : {region : SharedRegion} {r : Round} {k : ℕ} {old new : Worker} {said : List Record} {own : Progress} → ThreadDone region r k old new said own
    → old.keeper ≡ None → (part (r.threads + k) own.list ≡ part (r.threads + k) r.start.list) × (records_by (r.threads + k) said ≡ [])
kept_nobody {r = r} {k} {old} {new} {said} {own} done none = search (arith, pushed_nothing)
