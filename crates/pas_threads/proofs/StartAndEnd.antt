-- How a kit is made, where its team stands when a replay starts, and what its end gives.
use Rattle.pas_threads.proofs.Common.{pass_in, get_or-append, cases_eq, cases_lt, length-map, get_or_push, All-set, same_Some, shown, EventRoom, Profile}
use Rattle.pas_threads.proofs.Common.{own_acts, keeper_in, all_ops, own_records, kept_records, IsPlanOf, bounds_of, ops_of, Op, Phase, Plan, every_plan}
use Rattle.pas_threads.proofs.Common.{plan_actors, Cached, cached, IsPassOf, seat_of, view_of, SharedPass, SharedRegion, owed_events, names_held, Progress}
use Rattle.pas_threads.proofs.Common.{OnThreads, stages_of, at_start, phases_of, region_of, threads_of, keepers_of, guarded_of, AreRooms, LaterKept, for_guards}
use Rattle.pas_threads.proofs.Common.{AreTriedBy, AreUnguarded, is_guarded, plan_threads, PassStands, ActorsStand, IsEquipped, AreEquipped, AreNew, IsSupplied}
use Rattle.pas_threads.proofs.Common.{kept_pass, own_passes, passes_in, no_more, KeeperRests, owed_kept, keeper_at, AreGuarded, IsLow, Session, WorkerRests}
use Rattle.pas_threads.proofs.Common.{ScavengerRests, TeamAt, HasRoom, owed_by, IsOfActors, HasReplayed, Keeper, Scavenger, Worker, Team, Whole, part}
use Rattle.pas_threads.proofs.{Common.{records_in, room_of, Records, Record}, Dealt.some_item, Keepers.{keeper_is, stands_for, none_there}}
use Rattle.pas_threads.proofs.{TakingTurns.{set_each, each_pushed}, Staging.{nothing_since, of_first, stand_all, stands_with, team_stands, of_all}}
use Rattle.pas_threads.specs.Kits.{passes_with, IsNew, IsKeeperFor, IsKitOf}
use Rattle.std.proofs.Common.{◌≡◌, ℕ, zero, suc, ◌+◌, ◌*◌, ◌<◌, ◌≤◌, ◌==◌, List, [], ◌∷◌, ◌++◌, length, map, get_or, slice_index, slice_index_or, Bool}
use Rattle.std.proofs.Common.{if◌then◌else◌, inl, inr, Option, Some, None, refl, ap, sym, ◌∙◌, subst, arith, ne_eqb, length-set, ◌-◌, All, length-append}
use Rattle.std.proofs.{Common.{is_some, true, false, eqb-true, true≢false}, lemmas.List.Elements.{All-contains, Contains-append_left, Contains-append_right}}
use Rattle.std.proofs.{lemmas.List.Elements.{All-nil, All-cons, All-append}, Math.{ListN.set, Nat.{suc-mul, add-mul}, Seq.get_or-append-add}}
use Rattle.std.specs.List.{remove, Contains}
use Rattle.pas_profile.specs.{Rooms.size_of_room, Profiles.IsValid}
use Rattle.pas_trace.{specs.{EveryPlan.AreKept, Plans.phases_of as the_phases}, proofs.EveryPlan.{every_phase, few_operations}}
use Rattle.pas_cache.proofs.FlushesAndFrees.{rests_empty}
use Rattle.pas_shared.specs.{Passes.AreFresh, Ledgers.EndsAfter}
use Rattle.pas_answers.{specs.{Stages.GoByStages, Replays.{acts_of_plan, Shows}, Fit.AreOfThreads}, proofs.Consequences.replays}
use Rattle.pas_acts.{specs.Shares.AreKeptBehind, proofs.{PlanFacts.{pages_owed_at_first, plan_above, wider_sound, no_slots}, Naming.below_all}}
use Rattle.pas_acts.proofs.{Naming.names_at_start, PhaseActs.active_within}
use Rattle.pas_steps.{specs.{Lists.Legal, Clear.HasNothing, declared.state.State.State}, proofs.Nothing.nothing_yet}

-- ---- equipping
pub equipped_more : {bounds passes after workers now : _} (pass : SharedPass) (worker : Worker) → after ≡ passes ++ pass ∷ [] → now ≡ workers ++ worker ∷ []
    → AreEquipped bounds passes workers → IsEquipped pass (slice_index bounds (suc (length workers))) worker → AreEquipped bounds after now
equipped_more {bounds} {passes} {after} {workers} {now} pass worker first second are new = search (arith, length-append, each_pushed, get_or_push, get_or-append)

-- ---- rooms that move
-- a room of the same size without an event, in the place of one of these
pub one_moved : (sizes : ℕ → Option ℕ) (count : ℕ) (rooms : List EventRoom) (i : ℕ) (old new : EventRoom) → i < length rooms → old ≡ get_or rooms i old
    → size_of_room new ≡ size_of_room old → shown new ≡ []
    → AreRooms sizes count rooms → AreRooms sizes count (set rooms i new)
one_moved sizes count rooms i old new lt is size none are = record {
  many = length-set rooms i new ∙ are.many;
  each = λ k d within. let many = are.many in set_each (λ (m : ℕ) (room : EventRoom). sizes m ≡ Some (size_of_room room)) rooms i new d k lt
      (are.each i old (omega (arith, many, lt)) ∙ ap (λ room. Some (size_of_room room)) (sym is) ∙ ap Some (sym size)) (λ ne. are.each k d within);
  empty = All-set (λ (room : EventRoom). shown room ≡ []) rooms i new none are.empty;
}

-- ---- the kit
fresh_new : (region : SharedRegion) (bounds : List ℕ) (k : ℕ) (rooms : List EventRoom) (passes : List SharedPass)
    → AreFresh region.table.shared.table_id region.profile k rooms passes
    → ((i n : ℕ) (d : EventRoom) → i < length rooms → n ≡ k + i → size_of_room (slice_index_or rooms i d) ≡ slice_index bounds n)
    → (i n : ℕ) (d : SharedPass) → i < length passes → n ≡ k + i → IsNew region n (slice_index bounds n) (slice_index_or passes i d)
fresh_new region bounds k [] [] fresh sizes i n d lt at = absurd (omega (arith, lt))
fresh_new region bounds k (room ∷ rooms) (pass ∷ passes) fresh sizes zero n d lt at =
    let one = fresh.0 in
    record { of_region = one.of_table; actor = one.actor_is ∙ omega (arith, at); room = one.room_is ∙ sizes 0 n room (omega arith) at; no_step = one.view_is }
fresh_new region bounds k (room ∷ rooms) (pass ∷ passes) fresh sizes (suc i) n d lt at =
    fresh_new region bounds (k + 1) rooms passes fresh.1 (λ j m e less is. sizes (suc j) m e (omega (arith, less)) (omega (arith, is))) i n d
    (omega (arith, lt)) (omega (arith, at))
fresh_new region bounds k rooms passes fresh sizes i n d lt at = absurd fresh

-- the passes of a region that was just opened are new
pub all_new : (region : SharedRegion) (bounds : List ℕ) (rooms : List EventRoom) (passes : List SharedPass)
    → AreFresh region.table.shared.table_id region.profile 0 rooms passes
    → ((i : ℕ) (d : EventRoom) → i < length rooms → size_of_room (slice_index_or rooms i d) ≡ slice_index bounds i) → AreNew region bounds passes
all_new region bounds rooms passes fresh sizes i d lt = fresh_new region bounds 0 rooms passes fresh
    (λ j n e less at. sizes j e less ∙ ap (slice_index bounds) (omega (arith, at))) i i d lt (omega arith)

-- the first, once it is taken out, and the others
pub first_taken : {A : Type 0} (all rest : List A) (first : A) → 0 < length all → first ≡ slice_index_or all 0 first → rest ≡ remove all 0 → all ≡ first ∷ rest
first_taken all rest first given is left = search arith

-- ---- the guarded requests of a thread
-- each is its keeper's
tried_own : (f : Profile) (guard k : ℕ) (ops : List Op) → AreKept f guard ops → AreTriedBy (f.threads + k) (own_acts k ops)
tried_own f guard k [] kept = tt
tried_own f guard k (op ∷ ops) kept =
    search (arith, eqb-true, keeper_in op.what, op.actor == k, tried_own f guard k ops kept.1)

-- .. and without a guard line there is none
unguarded_own : (f : Profile) (guard k : ℕ) (ops : List Op) → guard ≡ 0 → AreKept f guard ops → AreUnguarded (own_acts k ops)
unguarded_own f guard k [] none kept = tt
unguarded_own f guard k (op ∷ ops) none kept =
    search (arith, keeper_in op.what, op.actor == k, unguarded_own f guard k ops none kept.1)

behind_own : (f : Profile) (guard : ℕ) (ops : List Op) → AreKept f guard ops → AreKeptBehind f.threads ops
behind_own f guard [] kept = tt
behind_own f guard (op ∷ ops) kept = search (arith, keeper_in op.what, behind_own f guard ops kept.1)

-- what they ask of the keeper
abbrev AreCounted : LaterKept → ℕ → ℕ → Type 0
AreCounted later events guards = (later.events ≡ events) × (later.guards ≡ guards) × (later.records ≡ events + 2 * guards)

guards_own : (k : ℕ) (ops : List Op) → AreCounted (for_guards (own_acts k ops) no_more) (kept_records k ops) (guarded_of k ops)
guards_own k [] = (refl, refl, refl)
guards_own k (op ∷ ops) = search (arith, op.actor == k, op.what, guards_own k ops)

-- without keepers a plan isn't guarded
guarded_none : (plan : Plan) → 1 ≤ threads_of plan → keepers_of plan ≡ 0 → plan.guard ≡ 0
guarded_none plan some none = search (arith, cases_eq, ne_eqb)

-- ---- the start
-- a thread that made no step is at rest
starts_at : (region : SharedRegion) (f : Profile) (k bound later : ℕ) (pass : SharedPass) (worker : Worker) → region.profile ≡ f → f.pages + later ≤ bound
    → IsNew region k bound pass → IsEquipped pass bound worker
    → WorkerRests region f k worker later at_start
starts_at region f k bound later pass worker of_profile within unused has =
    let owed : owed_events f (cached worker.cache) [] ≡ f.pages = ap (λ (c : Cached). owed_events f c []) has.cache ∙ pages_owed_at_first f in
    record {
      here = record {
        has = record { pass = pass; present = has.present; of = unused.of_region };
        rests = search (arith, rests_empty, nothing_yet, owed, unused.room, within) fits 400;
      };
      said = has.said;
      asked = has.asked;
      requests = omega (arith, has.requests, within);
    }

scavenger_starts : (region : SharedRegion) (f : Profile) (bound later : ℕ) (pass : SharedPass) (scavenger : Scavenger) → region.profile ≡ f → later ≤ bound
    → IsNew region 0 bound pass → IsSupplied f pass bound scavenger
    → ScavengerRests region f scavenger later at_start
scavenger_starts region f bound later pass scavenger of_profile within unused ready =
    let room = unused.room in
    record {
      has = record { pass = pass; present = ready.present; of = unused.of_region };
      at = search (arith, nothing_yet, room) fits 400;
      said = ready.said;
      none = ready.none;
    }

-- the region of the plan, its threads and its keepers
abbrev pub session_of : Plan → Session
session_of plan = record { profile = region_of plan; threads = threads_of plan; keepers = keepers_of plan }

-- a keeper that made no step waits for all guarded requests of its thread
keeper_starts : (region : SharedRegion) (plan : Plan) (k : ℕ) (pass : SharedPass) (o : Option Keeper) → region.profile ≡ region_of plan
    → AreTriedBy (threads_of plan + k) (own_acts k (all_ops (phases_of plan)))
    → (region_of plan).pages + kept_records k (all_ops (phases_of plan)) ≤ slice_index (bounds_of plan.bounds) (threads_of plan + k)
    → IsNew region (threads_of plan + k) (slice_index (bounds_of plan.bounds) (threads_of plan + k)) pass → IsKeeperFor plan k pass o
    → KeeperRests region (region_of plan) (threads_of plan + k) (own_acts k (all_ops (phases_of plan))) o at_start
keeper_starts region plan k pass o of_profile tried within unused has =
    search (arith, guards_own, pages_owed_at_first, nothing_yet)

-- each keeper of the plan rests, if it has some
kept_start : {text plan kit : _} → IsPlanOf text plan → IsKitOf plan kit → AreGuarded (keepers_of plan) kit.team.threads.items
    → length kit.team.threads.items ≡ threads_of plan → (i : ℕ) (d : Worker) → i < length kit.team.threads.items → KeeperRests kit.region (region_of plan)
    (threads_of plan + suc i) (own_acts (suc i) (all_ops (phases_of plan))) (get_or kit.team.threads.items i d).keeper at_start
kept_start {text} {plan} {kit} read made (true, size, all) many i d lt =
    let plans = every_plan read in
    let had = made.team.keepers in
    let e = some_item made.kept 0 (omega (arith, had.0, size, lt)) in
    let unused = subst (IsNew kit.region (suc (length made.others + i)) (slice_index (bounds_of plan.bounds) (suc (length made.others + i)))) (get_or-append-add made.others made.kept i e)
    (made.unused (suc (length made.others + i)) e (omega (arith, had.0, size, lt, length-append made.others made.kept))) in
    let place : suc (length made.others + i) ≡ threads_of plan + suc i = omega (arith, made.many) in
    let bound = plans.kept (suc i) (is_guarded plan (omega (arith, size, lt))) (omega arith) (omega (arith, lt, many)) in
    keeper_starts kit.region plan (suc i) (slice_index_or made.kept i e) (get_or kit.team.threads.items i d).keeper made.profile
    (tried_own plan.profile plan.guard (suc i) (all_ops (phases_of plan)) plans.keepers)
    (omega (arith, bound)) (subst (λ n. IsNew kit.region n (slice_index (bounds_of plan.bounds) n) (slice_index_or made.kept i e)) place unused)
    (had.2 i e d (omega (arith, size, lt)))
kept_start {text} {plan} {kit} read made (false, none, all) many i d lt =
    let plans = every_plan read in
    let zero_of = guarded_none plan (omega (arith, lt, many)) none in
    rw (none_there (get_or kit.team.threads.items i d).keeper (all i d lt))
    (record { of = tt; waits = unguarded_own plan.profile plan.guard (suc i) (all_ops (phases_of plan)) zero_of plans.keepers; silent = tt })

start : {text plan kit : _} → IsPlanOf text plan → IsKitOf plan kit → TeamAt kit.region (session_of plan) (phases_of plan) kit.team at_start
unfolding names_at_start
start {text} {plan} {kit} read made =
    let f = region_of plan in
    let bounds = bounds_of plan.bounds in
    let ops = all_ops (phases_of plan) in
    let plans = every_plan read in
    let many = made.team.workers.many ∙ made.many in
    let threads = plan_threads plan in
    record {
      fit = record {
        fits = omega (arith, plan_actors plan);
        few_threads = omega (arith, plans.actors, threads);
        few = omega (arith, few_operations read);
        within = λ k on. active_within plan.profile [] ops k plans.operations on;
        behind = behind_own plan.profile plan.guard ops plans.keepers;
      };
      workers = record {
        many = many;
        threads = λ i d lt.
            let e = some_item made.others 0 (omega (arith, lt, made.team.workers.many)) in
            let unused = subst (IsNew kit.region (suc i) (slice_index bounds (suc i))) (get_or-append made.others made.kept e i (omega (arith, lt, made.team.workers.many)))
            (made.unused (suc i) e (omega (arith, lt, made.team.workers.many, length-append made.others made.kept))) in
            starts_at kit.region f (suc i) (slice_index bounds (suc i)) (own_records plan.profile (suc i) ops) (get_or made.others i e) (get_or kit.team.threads.items i d) made.profile
            (omega (arith, plans.own (suc i) (omega arith) (omega (arith, lt, many)))) unused (made.team.workers.each i e d lt);
        guarded = made.team.keepers.1;
        kept = kept_start read made made.team.keepers.1 many;
      };
      scavenger = scavenger_starts kit.region f (slice_index bounds 0) (own_records plan.profile 0 ops) made.first kit.team.scavenger made.profile
          (omega (arith, plans.scavenger)) (made.unused 0 made.first (omega arith)) made.team.scavenger;
      nobody = λ k past. refl;
      names = names_at_start f ops kit.team.book (wider_sound plan.profile f.threads threads [] ops plans.operations) (plan_above read)
          (below_all (names_held kit.team.book.names) (phases_of plan) made.team.book.names) made.team.book.no_name;
      frees = every_phase read;
      places = made.team.places;
    }

-- each thread owes a deed of each page, and each keeper so much
owed_start : (s : Session) (workers : List Worker) (kept n : ℕ)
    → ((i : ℕ) → i < n → owed_kept s.profile (s.threads + suc i) (keeper_at workers i) at_start ≤ kept)
    → owed_by s workers at_start n ≤ n * s.profile.pages + n * kept
owed_start s workers kept zero few = omega arith
owed_start s workers kept (suc n) few =
    let rest = owed_start s workers kept n (λ i lt. few i (omega (arith, lt))) in
    omega (arith, pages_owed_at_first s.profile, few n (omega arith), rest, suc-mul n s.profile.pages, suc-mul n kept)

all_owed : {plan kit : _} → IsKitOf plan kit → AreGuarded (keepers_of plan) kit.team.threads.items → length kit.team.threads.items ≡ threads_of plan
    → owed_by (session_of plan) kit.team.threads.items at_start (threads_of plan) ≤ (threads_of plan + keepers_of plan) * (region_of plan).pages
all_owed {plan} {kit} made (true, size, all) many =
    let f = region_of plan in
    let workers = kit.team.threads.items in
    let had = made.team.keepers in
    let each = owed_start (session_of plan) workers f.pages (threads_of plan) (λ i lt.
    let less : i < length workers = omega (arith, lt, many) in
    let d = some_item workers i less in
    let has = had.2 i (some_item made.kept 0 (omega (arith, had.0, size, less))) d (omega (arith, size, less)) in
    let owed = ap (λ (o : Option Keeper). owed_kept f (threads_of plan + suc i) o at_start) (keeper_is workers i d less ∙ has.present) in
    omega (arith, owed, pages_owed_at_first f, ap length has.empty)) in
    omega (arith, each, add-mul (threads_of plan) (keepers_of plan) f.pages, ap (λ (n : ℕ). n * f.pages) (size ∙ many))
all_owed {plan} {kit} made (false, none, all) many =
    let f = region_of plan in
    let workers = kit.team.threads.items in
    let each = owed_start (session_of plan) workers 0 (threads_of plan) (λ i lt.
    let less : i < length workers = omega (arith, lt, many) in
    let d = some_item workers i less in
    let none = keeper_is workers i d less ∙ none_there (get_or workers i d).keeper (all i d less) in
    let owed = ap (λ (o : Option Keeper). owed_kept f (threads_of plan + suc i) o at_start) none in
    omega (arith, owed)) in
    omega (arith, each, add-mul (threads_of plan) (keepers_of plan) f.pages, ap (λ (n : ℕ). n * f.pages) none)

-- the plan as the replay is handed it
pub handed : {text plan kit : _} (out : Records) (slice : List Phase) → IsPlanOf text plan → IsKitOf plan kit → slice ≡ the_phases plan.phases
    → records_in out ≡ [] → plan.total + length (phases_of plan) + 1 ≤ room_of out → TeamAt kit.region (session_of plan) (map ops_of slice) kit.team at_start
    × HasRoom (session_of plan) (map ops_of slice) (length slice + 1) kit.team.threads.items out at_start
handed {text} {plan} {kit} out slice read made is empty room =
    let owed = all_owed made made.team.keepers.1 (made.team.workers.many ∙ made.many) in
    let actors = ap (λ (n : ℕ). n * (region_of plan).pages) (plan_actors plan) in
    rw is (start read made, omega (arith, owed, (every_plan read).total, actors, ap length empty, room, length-map (the_phases plan.phases) ops_of))

-- ---- handing back
-- in a legal list no actor but those of the profile has a part
nobody_past : (f : Profile) (l : Whole) (k : ℕ) → f.threads < k → Legal f l → part k l ≡ []
nobody_past f [] k past legal = refl
nobody_past f (t ∷ l) k past legal =
    let most = legal.0.actor in search (arith, eqb-true, t.actor == k, most, past, nobody_past f l k past legal.1)

-- ---- the passes of all actors
-- the pass of a slot is among those that it gives, and that of a keeper
in_slot : (o : Option SharedPass) (pass : SharedPass) → o ≡ Some pass → Contains (pass_in o) pass
in_slot o pass is = rw is (0, omega arith, refl)

in_kept : (o : Option Keeper) (keeper : Keeper) (pass : SharedPass) → o ≡ Some keeper → keeper.pass ≡ pass → Contains (kept_pass o) pass
in_kept o keeper pass is same = rw is (0, omega arith, same)

-- those of a worker are among all
worker_among : (workers : List Worker) (i : ℕ) (d : Worker) (pass : SharedPass) → i < length workers → Contains (own_passes (get_or workers i d)) pass
    → Contains (passes_in workers) pass
worker_among [] i d pass lt has = absurd (omega (arith, lt))
worker_among (w ∷ ws) zero d pass lt has = Contains-append_left (own_passes w) (passes_in ws) pass has
worker_among (w ∷ ws) (suc i) d pass lt has = Contains-append_right (own_passes w) (passes_in ws) pass (worker_among ws i d pass (omega (arith, lt)) has)

-- what is so of each pass of a worker is so of all of them
module _ (Is : SharedPass → Type 0) where
  of_slot : (o : Option SharedPass) → ((pass : SharedPass) → o ≡ Some pass → Is pass) → All Is (pass_in o)
  of_slot None each = All-nil Is
  of_slot (Some pass) each = All-cons Is pass [] (each pass refl) (All-nil Is)

  of_kept : (o : Option Keeper) → ((keeper : Keeper) → o ≡ Some keeper → Is keeper.pass) → All Is (kept_pass o)
  of_kept None each = All-nil Is
  of_kept (Some keeper) each = All-cons Is keeper.pass [] (each keeper refl) (All-nil Is)

  of_each : (workers : List Worker) → ((i : ℕ) (d : Worker) → i < length workers → All Is (own_passes (get_or workers i d))) → All Is (passes_in workers)
  of_each [] each = All-nil Is
  of_each (w ∷ ws) each = All-append Is (own_passes w) (passes_in ws) (each 0 w (omega arith)) (of_each ws (λ i d lt. each (suc i) d (omega (arith, lt))))

-- how many they are
count_passes : (guarded : Bool) (workers : List Worker) → ((i : ℕ) (d : Worker) → i < length workers → length (pass_in (get_or workers i d).pass) ≡ 1)
    → ((i : ℕ) (d : Worker) → i < length workers → is_some (get_or workers i d).keeper ≡ guarded)
    → length (passes_in workers) ≡ length workers + (if guarded then length workers else 0)
count_passes guarded [] back all = search (arith, guarded)
count_passes guarded (w ∷ ws) back all =
    let rest = count_passes guarded ws (λ i d lt. back (suc i) d (omega (arith, lt))) (λ i d lt. all (suc i) d (omega (arith, lt))) in
    let both = length-append (own_passes w) (passes_in ws) in
    let own = length-append (pass_in w.pass) (kept_pass w.keeper) in
    search (arith, rest, both, own, back 0 w (omega arith), all 0 w (omega arith), w.keeper, guarded, true≢false)

module _ {region : SharedRegion} {s : Session} {team : Team} {end : Progress} (stands : TeamAt region s [] team end) where
  -- A team has a pass for each thread, each keeper and the scavenger.
  pub all_passes : length (pass_in team.scavenger.pass) + length (passes_in team.threads.items) ≡ s.threads + s.keepers + 1
  all_passes =
      let guarded = stands.workers.guarded in
      let first = ap (λ o. length (pass_in o)) stands.scavenger.has.present in
      let own : (i : ℕ) (d : Worker) → i < length team.threads.items → length (pass_in (get_or team.threads.items i d).pass) ≡ 1 =
      λ i d lt. ap (λ o. length (pass_in o)) (stands.workers.threads i d lt).here.has.present in
      let others = count_passes guarded.0 team.threads.items own guarded.2 in
      omega (arith, first, others, guarded.1, stands.workers.many)

  abbrev at : ActorsStand region s team.scavenger.pass team.threads.items end.list
  at = team_stands stands

  behind : (i : ℕ) (d : Worker) (pass : SharedPass) → i < length team.threads.items → Contains (own_passes (get_or team.threads.items i d)) pass
      → Contains (passes_with team) pass
  behind i d pass lt has =
      Contains-append_right (pass_in team.scavenger.pass) (passes_in team.threads.items) pass (worker_among team.threads.items i d pass lt has)

  module _ (passes : List SharedPass) (back : passes ≡ passes_with team) where
    -- The passes of a team at the end are all of its region.
    pub all_of_region : All (IsPassOf region) passes
    all_of_region =
        let Of = IsPassOf region in
        let others = of_each Of team.threads.items (λ i d lt.
        let w = get_or team.threads.items i d in
        All-append Of (pass_in w.pass) (kept_pass w.keeper) (of_slot Of w.pass (λ pass is. (stands_with pass is (at.threads i d lt)).0))
        (of_kept Of w.keeper (λ keeper is. (stands_with keeper.pass refl (at.keepers i d keeper lt is)).0))) in
        let first = of_slot Of team.scavenger.pass (λ pass is. (stands_with pass is at.scavenger).0) in
        subst (All Of) (sym back) (All-append Of (pass_in team.scavenger.pass) (passes_in team.threads.items) first others)

    module _ (whole : Whole) (parts : All (λ pass. part (seat_of pass).actor whole ≡ view_of pass) passes) where
      -- an actor whose pass is among them has the same part in the list of the closed region as in that of the pieces
      same_part : {k slot : _} (t : PassStands region k end.list slot) → Contains (passes_with team) t.pass → part k whole ≡ part k end.list
      same_part t has =
          let its = All-contains (λ pass. part (seat_of pass).actor whole ≡ view_of pass) passes t.pass parts (rw back has) in
          ap (λ (n : ℕ). part n whole) (sym t.actor) ∙ its ∙ t.made

      -- .. so has each actor
      same_parts : s.profile.threads ≤ s.threads + s.keepers → Legal s.profile whole → (k : ℕ) → part k whole ≡ part k end.list
      same_parts every legal k = elim (cases_lt (s.threads + s.keepers) k) [
        | inl past ↦ nobody_past s.profile whole k (omega (arith, past, every)) legal ∙ sym (stands.nobody k past)
        | inr within ↦ of_all at (λ n. part n whole ≡ part n end.list)
            (let t = at.scavenger in same_part t
            (Contains-append_left (pass_in team.scavenger.pass) (passes_in team.threads.items) t.pass (in_slot team.scavenger.pass t.pass t.present)))
            (λ i d lt.
            let t = at.threads i d lt in
            let w = get_or team.threads.items i d in
            same_part t (behind i d t.pass lt (Contains-append_left (pass_in w.pass) (kept_pass w.keeper) t.pass (in_slot w.pass t.pass t.present))))
            (λ i d keeper lt is.
            let t = at.keepers i d keeper lt is in
            let w = get_or team.threads.items i d in
            let has = in_kept w.keeper keeper t.pass is (same_Some keeper.pass t.pass t.present) in
            same_part t (behind i d t.pass lt (Contains-append_right (pass_in w.pass) (kept_pass w.keeper) t.pass has))) k within
      ]

  -- at the end all actors have nothing, where no cache has a local allocator and no guard is up
  module _ (empty : (i : ℕ) (d : Worker) → i < length team.threads.items → (cached (get_or team.threads.items i d).cache).locals ≡ [])
      (low : (i : ℕ) (d : Worker) → i < length team.threads.items → IsLow (get_or team.threads.items i d).keeper) where
    thread_bare : (i : ℕ) (d : Worker) → i < length team.threads.items → HasNothing (part (suc i) end.list)
    thread_bare i d lt = search (arith, no_slots, empty i d lt, (stands.workers.threads i d lt).here.rests.sits.rest)

    keeper_bare : (i : ℕ) (d : Worker) (keeper : Keeper) → i < length team.threads.items → (get_or team.threads.items i d).keeper ≡ Some keeper
        → HasNothing (part (s.threads + suc i) end.list)
    keeper_bare i d keeper lt is =
        search (arith, stands_for)

    bare_at : (k : ℕ) → HasNothing (part k end.list)
    bare_at k = elim (cases_lt (s.threads + s.keepers) k) [
      | inl past ↦ subst HasNothing (sym (stands.nobody k past)) nothing_yet
      | inr within ↦ of_all at (λ n. HasNothing (part n end.list)) stands.scavenger.at.stands.sits.rest thread_bare keeper_bare k within
    ]

-- A whole replay on threads, whose region was closed by all its passes, is what the plan's replay shows.
pub shows : {plan : Plan} {region : SharedRegion} {so_far : Whole} {team : Team} (passes : List SharedPass) {written : List Record} {state : State}
    → IsValid (region_of plan) → AreOfThreads (threads_of plan) (acts_of_plan plan) → region.profile ≡ region_of plan
    → HasReplayed region (session_of plan) (phases_of plan) so_far team written → passes ≡ passes_with team
    → EndsAfter region.profile so_far passes state → Shows OnThreads plan written state
shows {plan} {region} {so_far} {team} passes {written} {state} valid threads of_profile replayed back ends =
    let closed = subst (λ (f : Profile). EndsAfter f so_far passes state) of_profile ends in
    let after = closed.ends.after in
    let same = same_parts replayed.stands passes back after.whole after.parts (omega (arith, plan_actors plan)) after.legal in
    let s = session_of plan in
    let of : IsOfActors s after.whole = λ k past. same k ∙ replayed.stands.nobody k past in
    let all : after.whole ≡ so_far = nothing_since closed.begins
    (λ k. same k ∙ sym (stand_all s so_far replayed.end.list replayed.went.stand replayed.went.nobody (of_first s closed.begins of) k)) in
    let staged = subst (GoByStages s.profile (stages_of s.threads s.keepers (phases_of plan)) at_start replayed.end []) (sym all)
    (replayed.went.by_stages (subst (IsOfActors s) all of)) in
    record {
      whole = after.whole;
      replay = replays OnThreads plan replayed.end after.whole written valid replayed.answers same (replayed.in_phases after.whole closed.begins of) staged replayed.written_are after.legal
          (λ k. subst HasNothing (sym (same k)) (bare_at replayed.stands replayed.empty replayed.low k)) tt tt threads;
      profile = closed.ends.profile;
      words = after.words;
    }
