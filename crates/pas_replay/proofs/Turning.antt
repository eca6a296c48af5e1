-- THE TURN: an actor sits down, does acts of its own as at any desk, and all others still stand.
use Rattle.std.proofs.Common.{arith, ◌≡◌, ◌≢◌, ℕ, ◌<◌, length, set, Option, Some, None, inl, inr, refl, ap, sym, ◌∙◌, subst, get_or-set_same, get_or-set_other}
use Rattle.std.proofs.Common.{length-set, zero, suc, ◌≤◌, Bool, if◌then◌else◌, List, [], ◌∷◌, ◌++◌, eqb-true, le-leb, ◌+◌, ◌-◌, get_or, ◌*◌, nat_le, false, not}
use Rattle.std.proofs.{Common.{length-append, append_assoc}, lemmas.{Grind.get_or-set_at, Bool.eqb-false}}
use Rattle.pas_replay.proofs.Common.{same_Some, cases_eq, lt-leb, cases_lt, suc-mul, actor_of, profile_of, RegionStands, PassStands, standing_of, PlainPass}
use Rattle.pas_replay.proofs.Common.{PlainDesk, pass_in, IsTaken, TakesSeat, rests_as, rests, Replay, Left, Hand, IsAt, SoFar, GoesBy, AreCaches, owed_of}
use Rattle.pas_replay.proofs.Common.{owed_by, SeatStands, owes, own_events, ActorStands, HasNames, SoFarAt, session, upon, dearest, Actors, Profile, Guard}
use Rattle.pas_replay.proofs.Common.{View, part, Whole, Legal, unknown_pages, FitsBook, is_outer, GuardBook, Indexes, no_ranges, Cached, cached, ThreadCache}
use Rattle.pas_replay.proofs.Common.{Act, Operates, Settles, acts_of_work, acts_of_op, Op, Work, work_of, cost_of_size, Progress, after_settling, Caches}
use Rattle.pas_replay.proofs.Common.{indexes_after_all, AllAreNamedBy, Reaches, Advances, AreAtRest, owed_by_keeper, at_start, AreFit, costs_of, AreOfThreads}
use Rattle.pas_replay.proofs.Common.{Names, sum_both, EachShown, acts_shown, tries_of, AreKeptFor, idle_in, Sits, RestsAt, Moves, here, and_for, ThreadActs}
use Rattle.pas_replay.{proofs.Common.{sits_for, Mask4, records_in, room_of, Records, Record, HaveBooks, HavePlaces, pass_of}, specs.Sessions.records_owed_as}
use Rattle.pas_replay.specs.Sessions.{Slots, ChangesSeats, risen, StandsIn, IsInPlace, MayTakeSeat, MaySit}
use Rattle.pas_answers.specs.{Fit.{own_costs_of, sum_over, unbacks_of}, Answers.Books, Indexes.{indexes_after, ActIsNamedBy}, Rests.AllAtRest}
use Rattle.pas_answers.specs.Calls.{owed_events}
use Rattle.pas_plain.{specs.{Plain.Forgets, Seats.{region_of, DeskStands}, declared.region.PlainRegion.PlainRegion}, proofs.Desks.pass_rests}
use Rattle.pas_profile.{specs.declared.directory.Kind.Kind, proofs.Codecs.deed_word_of-positive}
use Rattle.pas_steps.{specs.{Views.known_deed, Unknown.{unknown_below, unknown_here}, Desks.triples, declared.step.Made.Made}, proofs.Parts.part_of_others}
use Rattle.pas_guard.specs.Books.{AreApart, Each, IsGuardOf, KnowsGuard}
use Rattle.pas_trace.{specs.EveryPlan.records_of_work, proofs.{ThreadsInOrder.numbers_count, Costs.{large_cost, small_cost}}}
use Rattle.pas_acts.{specs.{Tries.tries_of_act, Works.Later, AtDesks.{for_act, HasRoomAt, ScavengerActs}}, proofs.ActsOfPlan.{chosen_few, work_costs}}

-- The one desk of a replay, at which the actors take turns; and how a replay goes on: what all actors have, and what they owe, when one did something.

-- ---- the places of the passes
risen_length : (desk : PlainDesk) (passes : Slots) → length (risen desk passes) ≡ length passes
risen_length desk passes = length-set passes (actor_of (pass_of desk)) (Some (pass_of desk))

-- ---- the one that sits down forgets what it had shown
-- At its own desk a pass stands in for the one that forgot.
in_place : (desk desk' : PlainDesk) (passes : Slots) → IsTaken desk passes → Forgets (pass_of desk) (pass_of desk') → (j : ℕ)
    → IsInPlace (pass_in (risen desk passes) j) (pass_in (risen desk' passes) j)
in_place desk desk' passes taken forgot j =
    let i = actor_of (pass_of desk) in
    let moved = ap (λ (n : ℕ). pass_in (set passes n (Some (pass_of desk'))) j) forgot.actor in
    elim (cases_eq j i) [
      | inl same ↦
          let here = λ (p : PlainPass). ap (λ (n : ℕ). pass_in (set passes i (Some p)) n) same ∙ get_or-set_same passes i (Some p) None taken in
          let stays : StandsIn (pass_of desk) (pass_of desk') = record { actor = forgot.actor; room = forgot.room; stands = forgot.stands } in
          rw (here (pass_of desk), moved ∙ here (pass_of desk'))
          (λ pass is. (pass_of desk', refl, subst (λ (old : PlainPass). StandsIn old (pass_of desk')) (same_Some _ _ is) stays))
      | inr other ↦
          let there = λ (p : PlainPass). get_or-set_other passes i j (Some p) None other in
          rw (there (pass_of desk), moved ∙ there (pass_of desk')) (λ pass is. (pass, is, record { actor = refl; room = refl; stands = λ f l stands. stands }))
    ]

-- An actor that changed seats, or sat there, and forgot what it had shown, has taken its seat.
pub seat_taken : {desk mid desk' : PlainDesk} {passes passes' : Slots} (k : ℕ) → ChangesSeats desk mid passes passes' k → k < length passes
    → region_of desk' ≡ region_of mid → Forgets (pass_of mid) (pass_of desk') → TakesSeat desk desk' passes passes' k
seat_taken {desk} {mid} {desk'} {passes} {passes'} k changes place region forgot =
    let many = sym (risen_length mid passes') ∙ ap (λ (xs : Slots). length xs) changes.passes_are ∙ risen_length desk passes in
    let taken = subst (λ (n : ℕ). n < length passes') (sym changes.actor_is) (omega (arith, many, place)) in
    record {
      region_is = region ∙ changes.region_is;
      actor_is = forgot.actor ∙ changes.actor_is;
      as_many = risen_length desk' passes' ∙ many ∙ sym (risen_length desk passes);
      in_place = λ j.
          subst (λ (xs : Slots). IsInPlace (pass_in xs j) (pass_in (risen desk' passes') j)) changes.passes_are (in_place mid desk' passes' taken forgot j);
    }

-- ---- at rest
rests_behind : (threads : ℕ) (f : Profile) (p : Progress) (k : ℕ) (v : View) → 1 ≤ k → rests threads f p k v
    → rests_as (nat_le k threads) f (p.caches k) (p.books k) v
rests_behind threads f p zero v some rest = absurd (omega (arith, some))
rests_behind threads f p (suc i) v some rest = rest

-- all are, wherever a replay has come
pub all_rest : {r : Replay} {left : Left} {h : Hand} {p : Progress} → IsAt r left h p → AreAtRest r.threads r.profile p.caches p.books p.list
all_rest {r} {p = p} at = record {
  scavenger = (at.each 0 (omega arith)).rest;
  working = λ k is. rw (le-leb k r.threads is.1) at (rests_behind r.threads r.profile p k _ is.0 (at.each k (omega (arith, is.1, at.threads))).rest);
  keeping = λ k is. rw (lt-leb k r.threads is.0) at (rests_behind r.threads r.profile p k _ (omega (arith, is.0)) (at.each k is.1).rest);
}

-- .. before the first of the acts
pub rest_first : (threads : ℕ) (f : Profile) (acts : List Act) (p q : Progress) (is : Reaches f acts p q) → AllAtRest threads f acts p q is
    → AreAtRest threads f p.caches p.books p.list
rest_first threads f [] p q is all = all
rest_first threads f (act ∷ acts) p q is all = all.0

-- .. before one act, and after it
pub rest_one : (threads : ℕ) (f : Profile) (act : Act) (p q : Progress) (is : Reaches f (act ∷ []) p q) → AreAtRest threads f p.caches p.books p.list
    → AreAtRest threads f q.caches q.books q.list → AllAtRest threads f (act ∷ []) p q is
rest_one threads f act p q is before after = (before, subst (λ (s : Progress). AreAtRest threads f s.caches s.books s.list) is.2 after)

-- What rests once an actor's records were settled rested before.
unsettled : (threads : ℕ) (f : Profile) (p : Progress) (k : ℕ)
    → AreAtRest threads f (after_settling p k).caches (after_settling p k).books (after_settling p k).list → AreAtRest threads f p.caches p.books p.list
unsettled threads f p k rest = search (arith, eqb-true)

-- .. before an operation, once it is done, and after what its cache noted was handed on
pub rest_two : (threads : ℕ) (f : Profile) (op : Op) (p q : Progress) (is : Reaches f (Operates op ∷ (Settles op.actor ∷ [])) p q)
    → AreAtRest threads f p.caches p.books p.list → AreAtRest threads f q.caches q.books q.list
    → AllAtRest threads f (Operates op ∷ (Settles op.actor ∷ [])) p q is
rest_two threads f op p q is before after =
    let then_settled = subst (λ (s : Progress). AreAtRest threads f s.caches s.books s.list) is.2.2 after in
    (before, (unsettled threads f is.0 op.actor (subst (λ (s : Progress). AreAtRest threads f s.caches s.books s.list) is.2.1 then_settled), then_settled))

-- ---- acts that were answered are followed by others
pub goes_both : (threads : ℕ) (f : Profile) (indexes : Indexes) (xs ys : List Act) (p q r : Progress) → (one : Reaches f xs p q)
    → AllAreNamedBy f indexes xs p q one → AllAtRest threads f xs p q one → GoesBy threads f (indexes_after_all f xs p q one indexes) ys q r
    → GoesBy threads f indexes (xs ++ ys) p r
goes_both threads f indexes [] ys p q r one named rested two = subst (λ (s : Progress). GoesBy threads f indexes ys s r) one two
goes_both threads f indexes (x ∷ xs) ys p q r one named rested two =
    let rest = goes_both threads f (indexes_after f x p one.0 one.1 indexes) xs ys one.0 q r one.2 named.1 rested.1 two in
    (((one.0, one.1, rest.0.0), (named.0, rest.0.1)), (rested.0, rest.1))

-- .. wherever that led
pub somewhere : {T : Type 0} {r : Replay} {left : Left} {h : Hand} {p : Progress} → T × IsAt r left h p → T × SoFar r left h
somewhere {p = p} so = (so.0, (p, so.1))

-- ---- what is so by place
-- What is so of each item of a list, by its number from 1 on, is so of the one that stands at a number.
pub at_place : {A : Type 0} (P : ℕ → A → Type 0) (list : List A) (k : ℕ) (there : A) → 1 ≤ k → k ≤ length list → there ≡ get_or list (k - 1) there
    → ((i : ℕ) (d : A) → i < length list → P (suc i) (get_or list i d)) → P k there
at_place P list k there some most is all =
    let place : k ≡ suc (k - 1) = omega (arith, some) in
    rw (place, is) (all (k - 1) there (omega (arith, some, most)))

-- .. and of each where one was set, if it is of that one and still is of the others
pub set_at_place : {A : Type 0} (P P' : ℕ → A → Type 0) (list : List A) (k : ℕ) (item : A) → 1 ≤ k → k ≤ length list → P' k item
    → ((j : ℕ) (x : A) → j ≢ k → P j x → P' j x) → ((i : ℕ) (d : A) → i < length list → P (suc i) (get_or list i d))
    → (i : ℕ) (d : A) → i < length (set list (k - 1) item) → P' (suc i) (get_or (set list (k - 1) item) i d)
set_at_place P P' list k item some most now others all i d less =
    let within : i < length list = omega (arith, less, length-set list (k - 1) item) in
    elim (cases_eq (suc i) k) [
      | inl same ↦ search (arith, get_or-set_at)
      | inr other ↦ search (arith, get_or-set_other)
    ]

-- what is so of those below a place, and of the one that was put there, is so of those below the next place
pub so_below_next : {A : Type 0} (P : A → Type 0) (xs xs' : List A) (i : ℕ) (x : A) → xs' ≡ set xs i x → i < length xs
    → ((j : ℕ) (d : A) → j < i → P (get_or xs j d)) → P x → (j : ℕ) (d : A) → j < i + 1 → P (get_or xs' j d)
so_below_next P xs xs' i x is lt before this j d less = search (arith, cases_eq, get_or-set_at, get_or-set_other)

-- fewer acts ask for fewer places
pub still_places : (threads : ℕ) (list : List GuardBook) (acts more : List Act) → ((j : ℕ) → tries_of j more ≤ tries_of j acts) → HavePlaces threads list acts
    → HavePlaces threads list more
still_places threads list acts more fewer all i d lt = let one = all i d lt in let few = fewer (threads + suc i) in omega (arith, one, few)

-- ---- what actors owe
-- nothing of any actor but k changed
pub record OthersKept (k : ℕ) (p q : Progress) : Type 0 where
  pub parts : (j : ℕ) → j ≢ k → part j q.list ≡ part j p.list
  pub caches : (j : ℕ) → j ≢ k → q.caches j ≡ p.caches j
  pub books : (j : ℕ) → j ≢ k → q.books j ≡ p.books j

module _ (threads : ℕ) (f : Profile) (p q : Progress) (k : ℕ) (kept : OthersKept k p q) where
  -- it has the same cache, book and part
  owed_same : (j : ℕ) → j ≢ k → owed_of threads f q j ≡ owed_of threads f p j
  owed_same j ne =
      search arith

  -- the scavenger, or an actor past these, did something
  pub owed_kept : (n : ℕ) → ((j : ℕ) → 1 ≤ j → j ≤ n → j ≢ k) → owed_by threads f q n ≡ owed_by threads f p n
  owed_kept zero apart = refl
  owed_kept (suc n) apart =
      omega (arith, owed_same (suc n) (apart (suc n) (omega arith) (omega arith)), owed_kept n (λ j low high. apart j low (omega (arith, high))))

  -- What all actors owe changes by what one actor owes, where nothing of the others changed.
  pub owed_moves : (n : ℕ) → 1 ≤ k → k ≤ n → owed_by threads f q n + owed_of threads f p k ≡ owed_by threads f p n + owed_of threads f q k
  owed_moves zero some most = absurd (omega (arith, some, most))
  owed_moves (suc n) some most = let rest = owed_moves n some in search (arith, cases_eq, rest, owed_same, owed_kept)

-- one actor owes no more than all
pub owed_at : (threads : ℕ) (f : Profile) (p : Progress) (k n : ℕ) → 1 ≤ k → k ≤ n → owed_of threads f p k ≤ owed_by threads f p n
owed_at threads f p k zero some most = absurd (omega (arith, some, most))
owed_at threads f p k (suc n) some most = let rest = owed_at threads f p k n some in search (arith, cases_eq, rest)

-- a thread, and a keeper
thread_owes : (threads : ℕ) (f : Profile) (p : Progress) (k : ℕ) → k ≤ threads → owed_of threads f p k ≡ owed_events f (p.caches k) (part k p.list)
thread_owes threads f p k within = ap (λ (b : Bool). records_owed_as b f (p.caches k) (p.books k) (part k p.list)) (le-leb k threads within)

-- What an actor behind the threads owes is what a keeper does by its book.
pub keeper_owes : (threads : ℕ) (f : Profile) (p : Progress) (k : ℕ) → threads < k → owed_of threads f p k ≡ owed_by_keeper f (p.books k) (part k p.list)
keeper_owes threads f p k past = ap (λ (b : Bool). records_owed_as b f (p.caches k) (p.books k) (part k p.list)) (lt-leb k threads past)

-- How much actors at rest owe at most, and what an operation costs at most.

-- ---- guards, and pages whose deed isn't known
abbrev one_if : Bool → ℕ
one_if t = if t then 1 else 0

-- how many guards have their low page at most there
abbrev low_within : ℕ → List Guard → ℕ
low_within n [] = 0
low_within n (guard ∷ guards) = one_if (nat_le guard.low n) + low_within n guards

within_same : (low n : ℕ) → low ≢ suc n → nat_le low (suc n) ≡ nat_le low n
within_same low n other = search (arith, cases_lt, lt-leb, le-leb)

-- no guard has its low page there
none_there : (n : ℕ) (guards : List Guard) → is_outer guards (suc n) ≡ false → low_within (suc n) guards ≡ low_within n guards
none_there n [] none = refl
none_there n (guard ∷ guards) none =
    let rest = none_there n guards in search (arith, rest, eqb-false, within_same)

-- a page counts once, as one whose deed isn't known or as the low page of a guard
one_page : (f : Profile) (n : ℕ) (guards : List Guard) (v : View) → AreApart guards → Each (KnowsGuard v) guards
    → low_within (suc n) guards + unknown_here (known_deed v (suc n)) ≤ low_within n guards + 1
one_page f n [] v apart knows = grind arith
one_page f n (guard ∷ guards) v apart knows = elim (cases_eq guard.low (suc n)) [
  | inl here ↦
      let none = none_there n guards (subst (λ (page : ℕ). is_outer guards page ≡ false) here apart.0) in
      let known : known_deed v (suc n) ≢ 0 = subst (λ (page : ℕ). known_deed v page ≢ 0) here (λ is. deed_word_of-positive (record { heap = guard.block.heap; kind = Kind.Large }) (sym knows.0.low ∙ is)) in
      let first = le-leb guard.low (suc n) (omega (arith, here)) in
      let before = lt-leb guard.low n (omega (arith, here)) in
      let page : unknown_here (known_deed v (suc n)) ≡ 0 = grind (arith, eqb-false) in
      omega (arith, none, page, ap one_if first, ap one_if before)
  | inr other ↦
      omega (arith, ap one_if (within_same guard.low n other), one_page f n guards v apart.2 knows.1)
]

within_pages : (f : Profile) (n : ℕ) (guards : List Guard) (v : View) → AreApart guards → Each (IsGuardOf f) guards → Each (KnowsGuard v) guards
    → unknown_below n v + low_within n guards ≤ n
within_pages f zero [] v apart of knows = omega arith
within_pages f zero (guard ∷ guards) v apart of knows =
    omega (arith, ap one_if (lt-leb guard.low 0 (omega (arith, of.0.low.0))), within_pages f zero guards v apart.2 of.1 knows.1)
within_pages f (suc n) guards v apart of knows =
    omega (arith, one_page f n guards v apart knows, within_pages f n guards v apart of knows)

all_within : (f : Profile) (guards : List Guard) → Each (IsGuardOf f) guards → low_within f.pages guards ≡ length guards
all_within f [] of = refl
all_within f (guard ∷ guards) of = let rest = all_within f guards of.1 in search (arith, rest, le-leb)

-- A keeper owes at most a record for each page: it knows the deeds of the pages at its guards.
keeper_owes_few : (f : Profile) (guards : List Guard) (v : View) → FitsBook f guards v → unknown_pages f v + length guards ≤ f.pages
keeper_owes_few f guards v fits = search (arith, within_pages, all_within)

unknown_few : (n : ℕ) (v : View) → unknown_below n v ≤ n
unknown_few zero v = omega arith
unknown_few (suc n) v =
    let one : unknown_here (known_deed v (suc n)) ≤ 1 = grind arith in
    omega (arith, unknown_few n v, one)

-- Between two acts each actor owes at most a record for each page, and one for each entry of a log.
pub owed_most : {r : Replay} {left : Left} {h : Hand} {p : Progress} → IsAt r left h p → (n : ℕ) → n ≤ r.threads + r.keepers
    → owed_by r.threads r.profile p n ≤ n * (r.profile.pages + 64)
owed_most at zero most = omega arith
owed_most {r} {p = p} at (suc n) most =
    let f = r.profile in
    let k = suc n in
    let rest = owed_most at n (omega (arith, most)) in
    let more = suc-mul n (f.pages + 64) in
    let all = all_rest at in
    elim (cases_lt r.threads k) [
      | inl past ↦
          let this = keeper_owes r.threads f p k past in
          omega (arith, rest, more, this, keeper_owes_few f (p.books k) (part k p.list) (all.keeping k (past, omega (arith, most, at.threads))))
      | inr within ↦
          let few = (all.working k (omega arith, omega (arith, within))).few_entries in
          omega (arith, rest, more, thread_owes r.threads f p k (omega (arith, within)), few, unknown_few f.pages (part k p.list))
    ]

-- ---- what an operation costs
large_costs : (pages size : ℕ) → size ≤ pages * 4096 → 2048 < size → cost_of_size size ≤ pages + 1
large_costs pages size within large = omega (arith, within, large_cost size large)

cheap_work : (f : Profile) (limit : ℕ) (asked idle : List ℕ) (op : Op) (work : Work) (more : List Act) → work_of op.what ≡ work
    → AreFit f limit asked (acts_of_work idle op work ++ more) → records_of_work f work ≤ dearest f
cheap_work f limit asked idle op a more is fit = search (arith, cases_lt, large_cost, small_cost, large_costs)

-- No operation that comes next costs more than the dearest.
pub op_costs : {r : Replay} {h : Hand} {p : Progress} {room : ℕ} (awake : Mask4) (op : Op) (more : List Act)
    → IsAt r (record { acts = acts_of_op (idle_in awake r.threads) op ++ more; room = room }) h p
    → costs_of r.profile.pages (acts_of_op (idle_in awake r.threads) op) ≤ dearest r.profile
op_costs {r} {h} awake op more at =
    search (arith, chosen_few, not, work_costs, numbers_count, cheap_work)

-- ---- an actor sits down
pub may_sit : {f : Profile} {k : ℕ} {Rest : View → Type 0} {region : PlainRegion} {slot : Option PlainPass} {l : Whole} {need : ℕ} → profile_of region ≡ f
    → RegionStands region l → SeatStands f k Rest slot l need → MaySit region slot k
may_sit {l = l} of stands st = record {
  pass = st.pass;
  present = st.present;
  of_region = record { whole = l; stands = stands; its_part = subst (λ (g : Profile). PassStands g st.pass l) (sym of) st.stands };
  actor_is = st.actor;
}

-- Between two acts each actor of the replay may take the seat at the desk.
pub may_take_seat : {r : Replay} {left : Left} {table : Names} {out : Records} (desk : PlainDesk) (actors : Actors) (k : ℕ)
    → k ≤ length actors.caches.items + length actors.books.items → SoFarAt r left (session desk actors table out) → MayTakeSeat desk actors.passes.items k
may_take_seat desk actors k within (taken, (p, at)) =
    let sized = risen_length desk actors.passes.items in
    record { taken = taken; place = omega (arith, sized, at.actors, at.many, at.kept, within, at.threads); own = may_sit at.profile_is at.stands (at.each k (omega (arith, within, at.many, at.kept, at.threads))) }

-- what is in hand while an actor sits there
abbrev pub hand : PlainDesk → Slots → List ThreadCache → List GuardBook → ℕ → Indexes → Names → Records → Hand
hand desk passes caches books places indexes table out = record { region = region_of desk; passes = risen desk passes; caches = caches; books = books; places = places; indexes = indexes; table = table; out = out }

-- .. is what was in hand before it sat down
pub sat_down : {r left desk desk' passes passes' k caches books places indexes table out p : _}
    → TakesSeat desk desk' passes passes' k
    → IsAt r left (hand desk passes caches books places indexes table out) p → IsAt r left (hand desk' passes' caches books places indexes table out) p
sat_down {r} {left} {desk' = desk'} {passes' = passes'} {p = p} seat at =
    let stands : RegionStands (region_of desk') p.list = subst (λ (g : PlainRegion). RegionStands g p.list) (sym seat.region_is) at.stands in
    let each : (j : ℕ) → j ≤ r.profile.threads → ActorStands r.threads r.profile j p (pass_in (risen desk' passes') j) left.acts
    = λ j most.
    let st = at.each j most in
    let there = seat.in_place j st.pass st.present in
    record {
      pass = there.0;
      present = there.1;
      actor = there.2.actor ∙ st.actor;
      stands = there.2.stands r.profile p.list st.stands;
      rest = st.rest;
      room = rw there.2.room st.room;
    } in
    assumption (ap profile_of seat.region_is ∙ at.profile_is, seat.as_many ∙ at.actors)

-- ---- the others
-- Another actor than the one that made steps still stands, with its acts that are left.
pub other_stands : (threads : ℕ) (f : Profile) (p q : Progress) {j k : ℕ} {slot slot' : Option PlainPass} (acts more : List Act) (steps : List Made) → k ≢ j
    → q.list ≡ triples k steps ++ p.list → q.caches j ≡ p.caches j → q.books j ≡ p.books j → slot' ≡ slot
    → own_events threads f j more ≤ own_events threads f j acts → ActorStands threads f j p slot acts → ActorStands threads f j q slot' more
other_stands threads f p q {j} {k} {slot} {slot'} acts more steps ne list cache book there free st =
    let kept : part j q.list ≡ part j p.list = ap (λ (w : Whole). part j w) list ∙ part_of_others j k steps p.list ne in
    let owed : owes threads f q j (part j p.list) ≡ owes threads f p j (part j p.list) = grind arith in
    record {
      pass = st.pass;
      present = there ∙ st.present;
      actor = st.actor;
      stands = subst (λ (w : Whole). PassStands f st.pass w) (sym list) (pass_rests f st.pass k steps p.list (λ e. ne (e ∙ st.actor)) st.stands);
      rest = grind arith;
      room = rw kept (omega (arith, owed, st.room, free));
    }

-- ---- what acts cost, and those behind them
behind : (cost : Act → ℕ) (first more : List Act) → sum_over cost more ≤ sum_over cost (first ++ more)
behind cost first more = let both = sum_both cost first more in omega (arith, both)

-- A choice is at most another one where both its parts are.
pub either_less : (t : Bool) (a b a' b' : ℕ) → a ≤ a' → b ≤ b' → (if t then a else b) ≤ (if t then a' else b')
either_less t a b a' b' h i = grind arith

-- The acts that are left of some make no more events of an actor than all of them.
pub less_events : (threads : ℕ) (f : Profile) (first more : List Act) (j : ℕ) → own_events threads f j more ≤ own_events threads f j (first ++ more)
less_events threads f first more j = search (arith, behind, either_less, nat_le)

-- The acts that are left of some have no more guarded requests of a keeper than all of them.
pub less_tries : (first more : List Act) (j : ℕ) → tries_of j more ≤ tries_of j (first ++ more)
less_tries first more j = behind (tries_of_act j) first more

-- What is said comes behind what was said before, handed on or not.
pub said_more : (told waiting waiting' before said : List Record) → told ++ waiting ≡ before → waiting' ≡ waiting ++ said → told ++ waiting' ≡ before ++ said
said_more told waiting waiting' before said is pushed = search (arith, append_assoc)

-- ---- acts that ask no index for a run and change none
abbrev pub AsksNoIndex : Profile → Act → Type 0
AsksNoIndex f act = (indexes : Indexes) (p : Progress) → ((q : Progress) (is : Advances f act p q) → (indexes_after f act p q is indexes ≡ indexes) × ActIsNamedBy f indexes act p q is)

-- What is known of the names is known yet, where no name came and the acts that are left fit.
pub still_named : {f acts more table names names' : _} → ((limit : ℕ) (asked : List ℕ) → AreFit f limit asked acts → AreFit f limit asked more)
    → names' ≡ names → HasNames f acts table names → HasNames f more table names'
still_named {f} {acts} {more} {table} fit same has = search arith

-- ---- the turn
-- Actor k did acts at the desk, after which `more` are left: it came from p to q. It sits there again, and the acts cost others nothing.
pub record Turned (r : Replay) (k : ℕ) (acts more : List Act) (indexes indexes' : Indexes) (desk desk' : PlainDesk) (p q : Progress) : Type 0 where
  pub shows : Legal r.profile q.list → EachShown p.records → EachShown q.records
  pub reaches : (s : Progress) → GoesBy r.threads r.profile indexes' more q s → GoesBy r.threads r.profile indexes acts p s
  pub moves : Moves k (rests r.threads r.profile p k) (rests r.threads r.profile q k) (standing_of desk) (standing_of desk') p q
  pub sits : Sits r.profile k (rests r.threads r.profile q k) (standing_of desk') q.list
      (owes r.threads r.profile q k (part k q.list) + own_events r.threads r.profile k more)
  pub kept : OthersKept k p q
  pub free : (j : ℕ) → j ≢ k → own_events r.threads r.profile j more ≤ own_events r.threads r.profile j acts

-- what the actors of the replay have in hand beside desk and passes
pub record HaveInHand (r : Replay) (more : Left) (caches : List ThreadCache) (books : List GuardBook) (places : ℕ) (table : Names) (out : Records)
    (q : Progress) : Type 0 where
  pub many : length caches ≡ r.threads
  pub kept : length books ≡ r.keepers
  pub operate : AreOfThreads r.threads more.acts
  pub keep : AreKeptFor r.threads r.keepers more.acts
  pub room : places ≡ r.profile.pages
  pub names : HasNames r.profile more.acts table q.names
  pub caches_are : AreCaches q.caches caches
  pub books_are : HaveBooks r.threads q.books books
  pub books_have : HavePlaces r.threads books more.acts
  pub records_are : r.told ++ records_in out ≡ q.records
  pub size : room_of out ≡ r.room
  pub spare : length (records_in out) + (owed_by r.threads r.profile q (r.threads + r.keepers) + more.room) ≤ room_of out

-- ---- at the desk
module _ {r : Replay} {left desk0 desk passes0 passes caches books places indexes table out p : _} (k : ℕ) (within : k ≤ r.threads + r.keepers)
    (seat : TakesSeat desk0 desk passes0 passes k) (before : IsAt r left (hand desk0 passes0 caches books places indexes table out) p) where
  -- The replay is at these acts.
  at : IsAt r left (hand desk passes caches books places indexes table out) p
  at = sat_down seat before

  -- The actor is one of the region.
  le : k ≤ r.profile.threads
  le = omega (arith, within, before.threads)

  has_place : k < length passes
  has_place = let sized = risen_length desk passes in omega (arith, sized, at.actors, le)

  its_pass : (at.each k le).pass ≡ pass_of desk
  its_pass = search (arith, same_Some, get_or-set_same, has_place)

  stood_now : DeskStands desk (part k p.list) p.list
  stood_now = search (arith, its_pass)

  -- An actor that took its seat sits at the desk as it rested, with room for its acts.
  pub sits_now : Sits r.profile k (rests r.threads r.profile p k) (standing_of desk) p.list
      (owes r.threads r.profile p k (part k p.list) + own_events r.threads r.profile k left.acts)
  sits_now = search (arith, stood_now, its_pass)

  module _ {more : Left} {desk' caches' books' places' indexes' table' out' q : _} (x : Turned r k left.acts more.acts indexes indexes' desk desk' p q)
      (have : HaveInHand r more caches' books' places' table' out' q) where
    stood_then : DeskStands desk' (x.moves.steps ++ part k p.list) q.list
    stood_then = subst (λ (l : Whole). DeskStands desk' (x.moves.steps ++ part k p.list) l) (ap (λ (m : ℕ). triples m x.moves.steps ++ p.list) seat.actor_is
        ∙ sym x.moves.list_is) (x.moves.calls.adds.added (part k p.list) p.list stood_now (before.each k le).rest)

    this_stands : ActorStands r.threads r.profile k q (pass_in (risen desk' passes) k) more.acts
    this_stands = record {
      pass = pass_of desk';
      present = ap (λ (m : ℕ). pass_in (set passes m (Some (pass_of desk'))) k) x.sits.actor ∙ get_or-set_same passes k _ None has_place;
      actor = x.sits.actor;
      stands = subst (λ (g : Profile). PassStands g (pass_of desk') q.list) x.sits.profile stood_then.pass;
      rest = x.sits.rest;
      room = x.sits.room;
    }

    -- An actor that took its seat and did its acts leaves the replay where the acts after them come next.
    pub turn : IsTaken desk' passes × IsAt r more (hand desk' passes caches' books' places' indexes' table' out') q
    turn =
        let each : (j : ℕ) → j ≤ r.profile.threads → ActorStands r.threads r.profile j q (pass_in (risen desk' passes) j) more.acts
        = λ j most. elim (cases_eq j k) [
          | inl same ↦ subst (λ (m : ℕ). ActorStands r.threads r.profile m q (pass_in (risen desk' passes) m) more.acts) (sym same) this_stands
          | inr other ↦ other_stands r.threads r.profile p q left.acts more.acts x.moves.steps (λ (e : k ≡ j). other (sym e)) x.moves.list_is
              (x.kept.caches j other) (x.kept.books j other) (search (arith, get_or-set_other)) (x.free j other) (at.each j most)
        ] in
        let nobody : (j : ℕ) → r.threads + r.keepers < j → part j q.list ≡ []
        = λ j past. ap (λ l. part j l) x.moves.list_is ∙ part_of_others j k x.moves.steps p.list (λ e. omega (arith, e, within, past)) ∙ before.nobody j past in
        let shown : EachShown q.records = x.shows (subst (λ (f : Profile). Legal f q.list) x.sits.profile stood_then.region.legal) before.shown in
        let actors = risen_length desk' passes ∙ sym (risen_length desk passes) ∙ at.actors in
        let answer : (s : Progress) → GoesBy r.threads r.profile indexes' more.acts q s → GoesBy r.threads r.profile (no_ranges r.profile.heaps) r.acts at_start s
        = λ s rest. before.answers s (x.reaches s rest) in
        (omega (arith, x.sits.actor, has_place), assumption (x.sits.profile, actors, before.threads, stood_then.region))

-- the actor alone made the steps between, and its cache and its book alone changed
pub kept_by_moves : {k : ℕ} {Rest Rest' : View → Type 0} {desk desk' : PlainDesk} {p q : Progress}
    → Moves k Rest Rest' (standing_of desk) (standing_of desk') p q → ((j : ℕ) → j ≢ k → q.caches j ≡ p.caches j) → ((j : ℕ) → j ≢ k → q.books j ≡ p.books j)
    → OthersKept k p q
kept_by_moves {k} {p = p} moves caches books = search (arith, part_of_others)

-- ---- the turn of a thread
-- for how much there is room besides: for the acts that are left, what the others owe, and what is said besides
abbrev pub later_for : Replay → ℕ → Progress → Left → ℕ → Later
later_for r k p more extra =
    record { events = own_costs_of k more.acts; records = (owed_by r.threads r.profile p (r.threads + r.keepers) - owed_events r.profile (p.caches k) (part k p.list)) + (more.room + extra) }

-- it rests at the desk, with room for acts of this cost
pub thread_now : {r : Replay} {left : Left} {p : Progress} {desk0 desk passes0 passes caches books places indexes table out c : _} (k cost extra : ℕ)
    (more : Left)
    → 1 ≤ k → k ≤ length caches → TakesSeat desk0 desk passes0 passes k
    → p.caches k ≡ c → own_costs_of k left.acts ≡ cost + own_costs_of k more.acts → left.room ≡ cost + (extra + more.room)
    → IsAt r left (hand desk0 passes0 caches books places indexes table out) p
    → RestsAt r.profile k (standing_of desk) c out (and_for cost (later_for r k p more extra)) p
thread_now zero cost extra more some most seat cache own costs at = absurd (omega (arith, some))
thread_now {r} {left} {p} {desk0} {desk} {passes0} {passes} {c = c} (suc i) cost extra more some most seat cache own costs at =
    let f = r.profile in
    let k = suc i in
    let within : k ≤ r.threads = omega (arith, most, at.many) in
    let least = owed_at r.threads f p k (r.threads + r.keepers) some (omega (arith, within)) in
    let mine = thread_owes r.threads f p k within in
    let owed = ap (λ (d : Cached). owed_events f d (part k p.list)) cache in
    let sits = rw (le-leb k r.threads within) at (sits_now k (omega (arith, within)) seat at) in
    -- its seat and its cache are those; there is room for what it owes, within what all owe, and for what the acts ask
    search arith

-- A thread that took its seat and did its acts leaves the replay where the acts after them come next.
pub thread_turn : {r : Replay} {more : Left} {p : Progress} {first desk0 desk desk' passes0 passes caches books places indexes indexes' table table' : _}
    {out out1 out2 c came told extra : _}
    (k : ℕ) (cache : ThreadCache) → 1 ≤ k → k ≤ length caches → TakesSeat desk0 desk passes0 passes k → p.caches k ≡ c
    → IsAt r (upon r first more) (hand desk0 passes0 caches books places indexes table out) p
    → (did : ThreadActs r.profile k first came told (here (standing_of desk) c out) (here (standing_of desk') (cached cache) out1)
    (later_for r k p more extra) p)
    → AllAreNamedBy r.profile indexes first p did.reached did.reaches → indexes' ≡ indexes_after_all r.profile first p did.reached did.reaches indexes
    → (AreAtRest r.threads r.profile p.caches p.books p.list → AreAtRest r.threads r.profile did.reached.caches did.reached.books did.reached.list
    → AllAtRest r.threads r.profile first p did.reached did.reaches)
    → HasNames r.profile more.acts table' did.reached.names → AreOfThreads r.threads more.acts → AreKeptFor r.threads r.keepers more.acts
    → length told ≤ extra → records_in out2 ≡ records_in out1 ++ told → room_of out2 ≡ room_of out1
    → IsTaken desk' passes × IsAt r more (hand desk' passes (set caches (k - 1) cache) books places indexes' table' out2) did.reached
thread_turn zero cache some most seat was at did named after rested names operate keep few added room = absurd (omega (arith, some))
thread_turn {r} {more} {p} {first} {desk0} {desk} {desk'} {passes0} {passes} {caches} {books} {places} {indexes} {indexes'} {table} {table'} {out} {out1} {out2} {c} {came} {told} {extra} (suc i) cache some most seat was at did named after rested names operate keep few added room =
    let f = r.profile in
    let k = suc i in
    let q = did.reached in
    let now = did.stands.cache in
    let within : k ≤ r.threads = omega (arith, most, at.many) in
    let all : k ≤ r.threads + r.keepers = omega (arith, within) in
    let kind = le-leb k r.threads within in
    let kept : OthersKept k p q = kept_by_moves did.moves did.caches (λ j ne. ap (λ (bs : ℕ → List Guard). bs j) did.books) in
    let change = owed_moves r.threads f p q k kept (r.threads + r.keepers) some all in
    let least = owed_at r.threads f p k (r.threads + r.keepers) some all in
    let mine = thread_owes r.threads f p k within in
    let then_mine = thread_owes r.threads f q k within in
    let longer = ap (λ (rs : List Record). length rs) added ∙ length-append (records_in out1) told in
    let many = length-set caches (k - 1) cache ∙ at.many in
    let their_caches : AreCaches q.caches (set caches (k - 1) cache)
    = set_at_place (λ j c. p.caches j ≡ cached c) _ caches k cache some most now (λ j c ne held. did.caches j ne ∙ held) at.caches_are in
    let their_books = subst (λ (bs : ℕ → List Guard). HaveBooks r.threads bs books) (sym did.books) at.books_are in
    let their_places = still_places r.threads books (first ++ more.acts) more.acts (less_tries first more.acts) at.books_have in
    let own = added ∙ ap (λ (rs : List Record). rs ++ told) did.pushed ∙ append_assoc (records_in out) did.own told in
    let said = said_more r.told (records_in out) (records_in out2) p.records (did.own ++ told) at.records_are own ∙ sym did.records_are in
    let spare : length (records_in out2) + (owed_by r.threads f q (r.threads + r.keepers) + more.room) ≤ room_of out2
    = omega (arith, change, least, mine, then_mine, ap (λ (d : Cached). owed_events f d (part k q.list)) now, longer, did.stands.spare, few, room) in
    turn k all seat at record {
      shows = acts_shown f first p q did.reaches;
      reaches = λ s rest. goes_both r.threads f indexes first more.acts p q s did.reaches named (rested (all_rest at)
          (rest_first r.threads f more.acts q s rest.0.0 rest.1)) (subst (λ (ix : Indexes). GoesBy r.threads f ix more.acts q s) after rest);
      moves = rw (kind, was, now) did.moves;
      sits = rw (kind, now) did.stands.sits;
      kept = kept;
      free = λ j ne. less_events r.threads f first more.acts j;
    } (assumption (many, their_caches, their_books, their_places, said, room ∙ did.room ∙ at.size))

-- ---- the turn of the scavenger
abbrev pub later_of : Replay → Progress → Left → Later
later_of r p more = record { events = unbacks_of r.profile.pages more.acts; records = owed_by r.threads r.profile p (r.threads + r.keepers) + more.room }

-- The scavenger that took its seat has room for its act that comes next.
pub scavenger_now : {r act desk0 desk passes0 passes caches books places indexes table out p : _} (more : Left) → TakesSeat desk0 desk passes0 passes 0
    → IsAt r (upon r (act ∷ []) more) (hand desk0 passes0 caches books places indexes table out) p
    → HasRoomAt r.profile (standing_of desk) out (for_act r.profile act (later_of r p more)) p
scavenger_now more seat at = let spare = at.spare in record { sits = sits_for (sits_now 0 (omega arith) seat at) (omega arith); spare = omega (arith, spare) }

-- The scavenger that took its seat and did an act leaves the replay where the acts after it come next.
pub scavenger_turn : {r : Replay} {more : Left} {act desk0 desk desk' passes0 passes caches books places places' indexes table out out' p : _}
    → TakesSeat desk0 desk passes0 passes 0
    → ((limit : ℕ) (asked : List ℕ) → AreFit r.profile limit asked (act ∷ more.acts) → AreFit r.profile limit asked more.acts) → AsksNoIndex r.profile act
    → IsAt r (upon r (act ∷ []) more) (hand desk0 passes0 caches books places indexes table out) p
    → (did : ScavengerActs r.profile act (standing_of desk) (standing_of desk') out out' (later_of r p more) p) → places' ≡ places
    → IsTaken desk' passes × IsAt r more (hand desk' passes caches books places' indexes table out') did.reached
scavenger_turn {r} {more} {act} {desk0} {desk} {desk'} {passes0} {passes} {caches} {books} {places} {places'} {indexes} {table} {out} {out'} {p} seat fit asks at did same =
    let f = r.profile in
    let q = did.reached in
    let kept : OthersKept 0 p q = kept_by_moves did.moves (λ j ne. ap (λ (cs : Caches). cs j) did.caches) (λ j ne. ap (λ (bs : Books). bs j) did.books) in
    let owed = owed_kept r.threads f p q 0 kept (r.threads + r.keepers) (λ j low high e. omega (arith, low, e)) in
    let asked = asks indexes p did.reaches.0 did.reaches.1 in
    let known : HasNames f more.acts table q.names = still_named fit did.names at.names in
    let their_caches = subst (λ (cs : Caches). AreCaches cs caches) (sym did.caches) at.caches_are in
    let their_books = subst (λ (bs : ℕ → List Guard). HaveBooks r.threads bs books) (sym did.books) at.books_are in
    let their_places = still_places r.threads books (act ∷ more.acts) more.acts (less_tries (act ∷ []) more.acts) at.books_have in
    let said = said_more r.told (records_in out) (records_in out') p.records did.says.said at.records_are did.says.pushed ∙ sym did.says.records_are in
    let spare : length (records_in out') + (owed_by r.threads f q (r.threads + r.keepers) + more.room) ≤ room_of out' = omega (arith, owed, did.stands.spare) in
    turn 0 (omega arith) seat at record {
      shows = acts_shown f (act ∷ []) p q did.reaches;
      reaches = λ s rest. goes_both r.threads f indexes (act ∷ []) more.acts p q s did.reaches (asked.1, tt)
          (rest_one r.threads f act p q did.reaches (all_rest at) (rest_first r.threads f more.acts q s rest.0.0 rest.1))
          (subst (λ (ix : Indexes). GoesBy r.threads f ix more.acts q s) (sym asked.0) rest);
      moves = did.moves;
      sits = sits_for did.stands.sits (omega arith);
      kept = kept;
      free = λ j ne. less_events r.threads f (act ∷ []) more.acts j;
    } (assumption (at.operate.1, at.keep.1, same ∙ at.places, their_caches, their_books, their_places, said, did.says.room ∙ at.size))
