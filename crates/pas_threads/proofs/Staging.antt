-- The phases of a replay: acts without a mark, acts after one another, how stages follow each other, and what a settled ledger has of a team.
use Rattle.std.proofs.Common.{◌≡◌, ℕ, zero, suc, ◌+◌, ◌-◌, ◌<◌, ◌≤◌, ◌==◌, Bool, true, inl, inr, List, [], ◌∷◌, ◌++◌, length, map, get_or, Option, Some, refl}
use Rattle.std.proofs.Common.{ap, sym, ◌∙◌, subst, arith, append_assoc, ◌⊎◌, take, length-append, eq-eqb, true≢false, take_at, All, false}
use Rattle.std.specs.List.{AllByRecursion}
use Rattle.pas_threads.proofs.Common.{cases_lt, cases_Bool, same_Some, Profile, Whole, part, triples, Act, own_acts, act_kept, acts_of_ops, phase_acts, work_of}
use Rattle.pas_threads.proofs.Common.{all_ops, Op, IsEarlier, seat_of, view_of, IsPassOf, SharedRegion, SharedPass, LaterKept, KeeperWaits, Progress, Reaches}
use Rattle.pas_threads.proofs.Common.{AreInPhases, StandFirst, AtMark, itself, in_hands, Stage, stage, reach_both, goes_on, StandsIn, KeeperStandsIn}
use Rattle.pas_threads.proofs.Common.{WorkerStandsIn, IsUp, PassStands, ActorsStand, KeepsOrder, no_more, kept_by_worker, AreGuarded, IsKeeperOf, Session}
use Rattle.pas_threads.proofs.Common.{closing_acts, WorkerHas, TeamAt, IsOfActors, StandSo, WentBy, Keeper, Team, Worker, steps_by, part_of_chosen}
use Rattle.pas_threads.{proofs.{Dealt.some_item, Keepers.kept_there}, specs.Pairs.HasKeeper}
use Rattle.pas_profile.proofs.Lists.{all_both}
use Rattle.pas_steps.specs.Lists.{Triple}
use Rattle.pas_answers.{specs.Stages.{Owners, AreSorted}, proofs.{Reached.both_by_stages, EachAct.{all_of, all_any}}}
use Rattle.pas_core.proofs.Choosing.{steps_by_both, Within, steps_by_one, no_steps_by, as_many_steps, steps_by_all, steps_by_nobody}
use Rattle.pas_guard.proofs.Keepers.{part_both}

-- ---- acts without a mark
abbrev HasNoMark : Act → Type 0
HasNoMark act = AtMark act ⊥

abbrev pub AreUnmarked : List Act → Type 0
AreUnmarked = AllByRecursion HasNoMark

at_no_mark : (act : Act) (So : Type 0) → HasNoMark act → AtMark act So
-- Case by case.
at_no_mark act a b = search arith

-- Acts without a mark stand at no mark of a phase, whatever the list.
pub unmarked : (f : Profile) (acts : List Act) (p q : Progress) (is : Reaches f acts p q) (whole : Whole) → AreUnmarked acts → AreInPhases f acts p q is whole
unmarked f [] p q is whole none = tt
unmarked f (act ∷ acts) p q is whole none = (at_no_mark act (StandFirst p.list whole) none.0, unmarked f acts is.0 q is.2 whole none.1)

unmarked_each : (of : ℕ → Act) → ((k : ℕ) → HasNoMark (of k)) → (ks : List ℕ) → AreUnmarked (map of ks)
unmarked_each of none ks = all_of HasNoMark (λ k. Unit {0}) of ks (λ k any. none k) (all_any ks)

unmarked_kept : (o : Option ℕ) (op : Op) → HasNoMark (act_kept o op)
-- With one and without one.
unmarked_kept a op = search arith

unmarked_ops : (idle : List ℕ) (ops : List Op) → AreUnmarked (acts_of_ops idle ops)
unmarked_ops idle [] = tt
unmarked_ops idle (op ∷ ops) =
    search (arith, all_both, unmarked_kept, unmarked_each, work_of op.what, unmarked_ops idle ops)

-- The acts of one phase have no mark among them.
pub phase_unmarked : (threads : ℕ) (ops : List Op) → AreUnmarked (phase_acts threads ops)
phase_unmarked threads ops = search (arith, all_both, unmarked_each, unmarked_ops)

-- The acts of the close behind its mark have no mark among them.
pub close_unmarked : (threads keepers : ℕ) → AreUnmarked (closing_acts threads keepers)
close_unmarked threads keepers = search (arith, all_both, unmarked_each)

-- ---- acts after one another
pub in_both : (f : Profile) (xs ys : List Act) (p q r : Progress) (one : Reaches f xs p q) (two : Reaches f ys q r) (whole : Whole)
    → AreInPhases f xs p q one whole → AreInPhases f ys q r two whole → AreInPhases f (xs ++ ys) p r (reach_both f xs ys p q r one two) whole
in_both f [] ys p q r one two whole first second = (subst (λ (s : Progress). (is : Reaches f ys s r) × AreInPhases f ys s r is whole) one (two, second)).1
in_both f (x ∷ xs) ys p q r one two whole first second = (first.0, in_both f xs ys one.0 q r one.2 two whole first.1 second)

-- ---- the first steps of a list
pub earlier_both : {a b c : Whole} → IsEarlier a b → IsEarlier b c → IsEarlier a c
earlier_both {a} {b} {c} one two = (two.0 ++ one.0, two.1 ∙ ap (λ (l : Whole). two.0 ++ l) one.1 ∙ sym (append_assoc two.0 one.0 a))

-- who has no part in a list has none in its first steps
none_first : (k : ℕ) (since l : Whole) → part k (since ++ l) ≡ [] → part k l ≡ []
none_first k [] l is = is
none_first k (t ∷ since) l is = search (arith, t.actor == k, none_first k since l)

-- ---- each actor
-- What is so of the scavenger, of each thread and of each keeper is so of all actors.
of_each_actor : {threads keepers : ℕ} (Is : ℕ → Type 0) → Is 0 → ((i : ℕ) → i < threads → Is (suc i)) → ((j : ℕ) → j < keepers → Is (threads + suc j))
    → (k : ℕ) → k ≤ threads + keepers → Is k
of_each_actor Is scavenger thread keeper zero le = scavenger
of_each_actor {threads} Is scavenger thread keeper (suc i) le = elim (cases_lt i threads) [
  | inl within ↦ thread i within
  | inr past ↦ let place : threads + suc (i - threads) ≡ suc i = omega (arith, past) in subst Is place (keeper (i - threads) (omega (arith, past, le)))
]

-- There are as many workers with a keeper as keepers.
some_keeper : {keepers : ℕ} (workers : List Worker) (j : ℕ) → j < keepers → AreGuarded keepers workers
    → (w : Worker) × (j < length workers) × HasKeeper (get_or workers j w)
some_keeper workers j lt (false, none, all) = absurd (omega (arith, none, lt))
some_keeper workers j lt (true, many, all) =
    let below : j < length workers = omega (arith, lt, many) in
    let w = some_item workers j below in (w, below, kept_there (get_or workers j w).keeper (all j w below))

-- ---- all actors at rest
-- where an actor has the same part it stands
pub still_at : {region k l l' slot : _} → part k l' ≡ part k l → PassStands region k l slot → PassStands region k l' slot
still_at same at = record { pass = at.pass; present = at.present; of = at.of; actor = at.actor; made = at.made ∙ sym same }

-- with this pass
pub stands_with : {region : SharedRegion} {k : ℕ} {l : Whole} {slot : Option SharedPass} (pass : SharedPass) → slot ≡ Some pass → PassStands region k l slot
    → IsPassOf region pass × ((seat_of pass).actor ≡ k) × (view_of pass ≡ part k l)
stands_with {region} {k} {l} pass is at =
    subst (λ x. IsPassOf region x × ((seat_of x).actor ≡ k) × (view_of x ≡ part k l)) (same_Some at.pass pass (sym at.present ∙ is)) (at.of, at.actor, at.made)

-- a list that has the steps of an actor's pass has its part
stands_so : {region : SharedRegion} {k : ℕ} {told : Whole} {slot : Option SharedPass} (l : Whole) (pass : SharedPass) → slot ≡ Some pass
    → PassStands region k told slot → StandsIn l pass → part k l ≡ part k told
stands_so l pass is at stands = let its = stands_with pass is at in ap (λ (n : ℕ). part n l) (sym its.1) ∙ stands ∙ its.2

module _ {region s slot workers told : _} (at : ActorsStand region s slot workers told) where
  up_one : (o : Option Keeper) → ((keeper : Keeper) → o ≡ Some keeper → IsPassOf region keeper.pass) → IsKeeperOf region o
  -- With one and without one.
  up_one a each = search arith

  -- Both actors of each worker have passes of the region.
  pub all_up : All (IsUp region) workers
  all_up i d lt =
      let here = at.threads i d lt in (
        record { pass = here.pass; present = here.present; of = here.of },
        up_one (get_or workers i d).keeper (λ keeper is. (stands_with keeper.pass refl (at.keepers i d keeper lt is)).0),
      )

  -- What is so of the scavenger, of the thread of each worker and of each keeper is so of all actors.
  pub of_all : (Is : ℕ → Type 0) → Is 0 → ((i : ℕ) (d : Worker) → i < length workers → Is (suc i))
      → ((i : ℕ) (d : Worker) (keeper : Keeper) → i < length workers → (get_or workers i d).keeper ≡ Some keeper → Is (s.threads + suc i))
      → (k : ℕ) → k ≤ s.threads + s.keepers → Is k
  of_all Is first thread keeper = of_each_actor Is first
      (λ i lt. let below : i < length workers = omega (arith, lt, at.many) in thread i (some_item workers i below) below)
      (λ j lt. let has = some_keeper workers j lt at.guarded in keeper j has.0 has.2.0 has.1 has.2.1)

  -- A list in which each pass stands has of all actors what is told of them.
  pub all_stand : (l : Whole) → ((pass : SharedPass) → slot ≡ Some pass → StandsIn l pass) → All (WorkerStandsIn l) workers → StandSo s l told
  all_stand l scavenger each = of_all (λ (k : ℕ). part k l ≡ part k told)
      (stands_so l at.scavenger.pass at.scavenger.present at.scavenger (scavenger at.scavenger.pass at.scavenger.present))
      (λ i d lt. let here = at.threads i d lt in stands_so l here.pass here.present here ((each i d lt).0 here.pass here.present))
      (λ i d keeper lt is. stands_so l keeper.pass refl (at.keepers i d keeper lt is) (subst (KeeperStandsIn l) is (each i d lt).1))

-- a thread that rests with its pass stands
pub thread_stands : {region f k worker later p : _} → WorkerHas region f k worker later p → PassStands region k p.list worker.pass
thread_stands here = record { pass = here.has.pass; present = here.has.present; of = here.has.of; actor = here.rests.sits.actor; made = here.rests.sits.stood }

-- .. and so does a keeper that waits with its own
pub keeper_stands : {region : SharedRegion} (f : Profile) {k : ℕ} (acts : List Act) (more : LaterKept) (p : Progress) (o : Option Keeper) (keeper : Keeper)
    → o ≡ Some keeper → IsKeeperOf region o → KeeperWaits f k acts (kept_by_worker o) more p → PassStands region k p.list (Some keeper.pass)
keeper_stands {region} f {k} acts more p o keeper is of waits =
    let sits = (subst (λ x. KeeperWaits f k acts (kept_by_worker x) more p) is waits).1.sits in
    record { pass = keeper.pass; present = refl; of = subst (IsKeeperOf region) is of; actor = sits.actor; made = sits.stood }

-- a team at rest stands so
pub team_stands : {region s phases team p : _} → TeamAt region s phases team p → ActorsStand region s team.scavenger.pass team.threads.items p.list
team_stands {region} {s} {phases} {team} {p} at = record {
  many = at.workers.many;
  guarded = at.workers.guarded;
  scavenger = let has = at.scavenger.has in let sits = at.scavenger.at.stands.sits in record { pass = has.pass; present = has.present; of = has.of; actor = sits.actor; made = sits.stood };
  threads = λ i d lt. thread_stands (at.workers.threads i d lt).here;
  keepers = λ i d keeper lt is. let rests = at.workers.kept i d lt in keeper_stands s.profile (own_acts (suc i) (all_ops phases)) no_more p (get_or team.threads.items i d).keeper keeper is rests.of rests.waits;
  nobody = at.nobody;
}

-- they are the first steps of each list of these actors that begins with it
pub stand_first : {region : SharedRegion} {s : Session} {phases : List (List Op)} {team : Team} {p : Progress} → TeamAt region s phases team p
    → (l whole : Whole) → StandSo s l p.list
    → IsEarlier l whole → IsOfActors s whole → StandFirst p.list whole
stand_first {region} {s} {phases} {team} {p} at l whole stands first of = record {
  since = first.0;
  so_far = l;
  whole_is = first.1;
  parts_are = λ k. elim (cases_lt (s.threads + s.keepers) k) [
    | inl past ↦ none_first k first.0 l (ap (part k) (sym first.1) ∙ of k past) ∙ sym (at.nobody k past)
    | inr within ↦ stands k within
  ];
}

-- ---- parts of lists one behind the other
-- fronts are the same where lists are, and what is behind them is as long
cut_fronts : {A : Type 0} (a b c d : List A) → a ++ b ≡ c ++ d → length b ≡ length d → a ≡ c
cut_fronts {A} a b c d e many =
    sym (take_at a b (length a) refl) ∙ ap (take (length a)) e ∙ take_at c d (length a) (omega (arith, ap length e, length-append a b, length-append c d, many))

-- so the parts of fronts are, where those of the lists and of what is behind are
front_same : (k : ℕ) (a b c d : Whole) → part k (a ++ b) ≡ part k (c ++ d) → part k b ≡ part k d → part k a ≡ part k c
front_same k a b c d all behind = cut_fronts (part k a) (part k b) (part k c) (part k d) (sym (part_both k a b) ∙ all ∙ part_both k c d) (ap length behind)

front_none : (k : ℕ) (a b : Whole) → part k (a ++ b) ≡ part k b → part k a ≡ []
front_none k a b all = front_same k a b [] b all refl

-- who made a step has a part
has_step : (t : Triple) (l : Whole) → part t.actor (t ∷ l) ≡ [] → ⊥
has_step t l none =
    search (arith, eq-eqb)

-- ---- all actors
-- what stands of the actors stands of everybody, where nobody else has a part
pub stand_all : (s : Session) (l told : Whole) → StandSo s l told → IsOfActors s told → IsOfActors s l → (k : ℕ) → part k l ≡ part k told
stand_all s l told stand nobody of k = search (arith, cases_lt)

-- who has no part in a list has none in its first steps
pub of_first : (s : Session) {before after : Whole} → IsEarlier before after → IsOfActors s after → IsOfActors s before
of_first s {before} {after} earlier of k past = none_first k earlier.0 before (ap (part k) (sym earlier.1) ∙ of k past)

-- a list that goes on from another one, and has the same part of everybody, is that one
pub nothing_since : {before after : Whole} → IsEarlier before after → ((k : ℕ) → part k after ≡ part k before) → after ≡ before
nothing_since {before} {after} earlier same =
    let none = λ (k : ℕ). front_none k earlier.0 before (ap (part k) (sym earlier.1) ∙ same k) in
    let all = sym (steps_by_all (λ k. false) earlier.0 (λ k off. none k)) ∙ steps_by_nobody (λ k. false) earlier.0 (λ k. refl) in
    earlier.1 ∙ ap (λ (l : Whole). l ++ before) all

-- ---- stages one after the other
pub went_none : (s : Session) {p : Progress} {l : Whole} → StandSo s l p.list → IsOfActors s p.list → WentBy s [] p p l l
went_none s stand nobody = record { earlier = ([], refl); stand = stand; nobody = nobody; by_stages = λ of. (refl, refl) }

-- Acts that went by stages, and then others that did, went by the stages of both.
pub went_both : {s : Session} {xs ys : List Stage} {p q r : Progress} {a b c : Whole} → WentBy s xs p q a b → WentBy s ys q r b c → WentBy s (xs ++ ys) p r a c
went_both {s} {xs} {ys} {p} {q} {r} {a} {b} {c} one two = record {
  earlier = earlier_both one.earlier two.earlier;
  stand = two.stand;
  nobody = two.nobody;
  by_stages = λ of. both_by_stages s.profile xs ys p q r a b c (one.by_stages (of_first s two.earlier of)) (two.by_stages of);
}

-- ---- one stage
-- each actor is its own worker: its part is all that there is to sort
sorted_alone : (since made : Whole) → ((k : ℕ) → part k since ≡ part k made) → AreSorted itself since made
sorted_alone since made same w =
    steps_by_one (in_hands itself w) w since (λ j. refl) ∙ ap (triples w) (same w) ∙ sym (steps_by_one (in_hands itself w) w made (λ j. refl))

-- a stage in which a worker has several actors in hand, where each worker's steps are sorted
pub went_sorted : (s : Session) (acts : List Act) (owner : Owners) {p q : Progress} {before after : Whole} → Reaches s.profile acts p q
    → (earlier : IsEarlier before after) → IsOfActors s q.list → StandSo s after q.list
    → ((made : Whole) → q.list ≡ made ++ p.list → IsOfActors s after → AreSorted owner earlier.0 made) → WentBy s (stage acts owner ∷ []) p q before after
went_sorted s acts owner {p} {q} {before} {after} reaches earlier nobody stand sorted = record {
  earlier = earlier;
  stand = stand;
  nobody = nobody;
  by_stages = λ of.
      let on = goes_on s.profile acts p q reaches in
      (record { next = q; reaches = reaches; made = on.0; told = on.1; since = earlier.0; sorted = sorted on.0 on.1 of }, (refl, earlier.1));
}

-- Acts in order, behind which the ledger is settled, went by one stage of their own.
pub went_alone : (s : Session) (acts : List Act) {p q : Progress} {before after : Whole} → Reaches s.profile acts p q → IsEarlier before after
    → IsOfActors s p.list → IsOfActors s q.list → StandSo s before p.list → StandSo s after q.list
    → WentBy s (stage acts itself ∷ []) p q before after
went_alone s acts {p} {q} {before} {after} reaches earlier none nobody stood stand =
    went_sorted s acts itself reaches earlier nobody stand (λ made told of. sorted_alone earlier.0 made (λ k.
    let all = ap (part k) (sym earlier.1) ∙ stand_all s after q.list stand nobody of k ∙ ap (part k) told in
    front_same k earlier.0 before made p.list all (stand_all s before p.list stood none (of_first s earlier of) k)))

-- .. a mark, at which nothing is done
pub went_mark : (s : Session) (acts : List Act) {p q : Progress} {l : Whole} → Reaches s.profile acts p q → q.list ≡ p.list → IsOfActors s p.list
    → StandSo s l p.list → WentBy s (stage acts itself ∷ []) p q l l
went_mark s acts {p} {q} {l} reaches same none stood =
    went_alone s acts reaches ([], refl) none (subst (IsOfActors s) (sym same) none) stood (subst (StandSo s l) (sym same) stood)

-- ---- the steps of several actors in one worker's hands
-- two tests choose the same steps where they differ in actors without a part alone
steps_by_but : (one other : ℕ → Bool) (l : Whole) → ((k : ℕ) → (one k ≡ other k) ⊎ (part k l ≡ [])) → steps_by one l ≡ steps_by other l
steps_by_but one other [] alike = refl
steps_by_but one other (t ∷ l) alike =
    let rest = steps_by_but one other l in grind (arith, rest, none_first, has_step)

-- what these actors did is sorted: in the list of all it stands in front of `before`, and it is told of in front of `told`
module _ (chosen : ℕ → Bool) (since before made told : Whole) (behind : (k : ℕ) → part k before ≡ part k told)
    (all : (k : ℕ) → part k (since ++ before) ≡ part k (made ++ told)) where
  -- they did nothing
  pub sorted_still : ((k : ℕ) → chosen k ≡ true → part k (made ++ told) ≡ part k told) → steps_by chosen since ≡ steps_by chosen made
  sorted_still still =
      search (arith, no_steps_by, front_none)

  -- a bench, at which some of them sat and the others did nothing, saw in which order they did it
  module _ (sat : ℕ → Bool) (own seen : Whole) (keeps : KeepsOrder sat told own seen) (first : IsEarlier seen (since ++ before)) (within : Within sat chosen)
      (shared : steps_by chosen own ≡ steps_by chosen (made ++ told))
      (parts : (k : ℕ) → chosen k ≡ true → part k own ≡ part k (made ++ told))
      (others : (k : ℕ) → chosen k ≡ true → (sat k ≡ true) ⊎ (part k own ≡ part k told)) where
    -- each one's new steps are those that the bench saw
    new_parts : (k : ℕ) → sat k ≡ true → part k keeps.since ≡ part k keeps.made
    new_parts k its = sym (part_of_chosen sat k keeps.since its) ∙ ap (part k) keeps.order ∙ part_of_chosen sat k keeps.made its

    seen_parts : (k : ℕ) → sat k ≡ true → part k seen ≡ part k own
    seen_parts k its =
        search (arith, part_both, new_parts)

    -- nothing of them came later
    none_later : steps_by sat first.0 ≡ []
    none_later =
        no_steps_by sat first.0 (λ k its. front_none k first.0 seen (ap (part k) (sym first.1) ∙ all k ∙ sym (parts k (within k its)) ∙ sym (seen_parts k its)))

    -- The steps of those that sat are the same however the list is cut.
    lists : steps_by sat since ++ steps_by sat before ≡ steps_by sat keeps.since ++ steps_by sat keeps.before
    lists =
        cc (steps_by_both sat since before, steps_by_both sat first.0 seen, none_later, steps_by_both sat keeps.since keeps.before)

    sat_sorted : steps_by sat since ≡ steps_by sat keeps.made
    sat_sorted = cut_fronts _ _ _ _ lists (as_many_steps sat before keeps.before (λ k its. behind k ∙ sym (keeps.parts k its))) ∙ keeps.order

    made_same : steps_by chosen keeps.made ≡ steps_by chosen made
    made_same = cut_fronts _ _ _ _ (sym (steps_by_both chosen keeps.made told) ∙ ap (steps_by chosen) (sym keeps.told_is) ∙ shared ∙ steps_by_both chosen made told) refl

    -- chosen and sat differ in those alone that did nothing
    differ : (l : Whole) → ((k : ℕ) → part k own ≡ part k told → chosen k ≡ true → part k l ≡ []) → (k : ℕ) → (chosen k ≡ sat k) ⊎ (part k l ≡ [])
    differ l none k = search (arith, cases_Bool, true≢false)

    -- The steps of a worker's actors stand in the list of all in the order in which they are told.
    pub sorted_seen : steps_by chosen since ≡ steps_by chosen made
    sorted_seen =
        cc (steps_by_but chosen sat since (differ since (λ k still on. front_none k since before (all k ∙ sym (parts k on) ∙ still ∙ sym (behind k)))), sat_sorted, steps_by_but chosen sat keeps.made (differ keeps.made (λ k still on. front_none k keeps.made told (ap (part k) (sym keeps.told_is) ∙ still))), made_same)
