-- Each plan can be replayed: its operations follow one another, its bounds suffice for their records, and its keepers are asked for no more than they have room for.
use Rattle.std.proofs.Common.{if◌then◌else◌, [], ◌≡◌, ◌≢◌, ◌∷◌, Option, Some, refl, ap, ◌∙◌, ℕ, ◌+◌, ◌*◌, ◌<◌, ◌≤◌, List, length, slice_index, arith, ◌^◌}
use Rattle.std.proofs.Common.{MatchOption, ◌-◌, ◌==◌, Bool, eq-eqb, ne_eqb, zero, suc, false, ◌++◌, sym, append_assoc, append-nil}
use Rattle.pas_acts.proofs.Common.{length-map, cases_eq, false≢true, AllByRecursion, IsValid, IsAdmitted, Profile, actors_by, IsPlanOf, ops_of, Act, Guards}
use Rattle.pas_acts.proofs.Common.{acts_of_work, work_of, of_task, keeper_of, keeper_in, request_in, all_ops, asked_after, IsThread, IsActorBy, IsActorOf}
use Rattle.pas_acts.proofs.Common.{AreSound, AreKept, operations_of, Op, Work, Plan, Chore, every_plan, plan_actors, keepers_few, KeepsAbove, AreFit}
use Rattle.pas_acts.proofs.Common.{AreOfThreads, costs_of, own_costs_of, AllBelow, sum_over, phases_of, region_of, keepers_of, empty_cache, owed_events}
use Rattle.pas_acts.proofs.Common.{AreSpoken, all_any, all_of_chore, all_of_close, all_acts, one_guarded, guarded_of, Record, own_cost_of_act, unbacks_of_act}
use Rattle.pas_acts.proofs.{Common.{cost_of_act, records_of_ops}, ActsOfPlan.{ArePlanned, are_planned, acts_fit, of_threads, plan_sums_at_most, own_cost}}
use Rattle.pas_acts.{proofs.{ActsOfPlan.{its_own, work_costs, free_map}, Naming.{below_all, below_each}}, specs.{Shares.ArePhasesArranged, Tries.tries_of_act}}
use Rattle.pas_acts.specs.Tries.{tries_of, IsKeptFor, AreKeptFor}
use Rattle.pas_answers.specs.{Fit.{unbacks_of, kept_cost_of, kept_cost_of_act, kept_costs_of}, Replays.{threads_of, actors_of, acts_of_plan}, Ways.by_phases}
use Rattle.pas_trace.{specs.{EveryPlan.{own_records, records_of_what, IsKept, kept_of_work, kept_records}, Plans.bounds_of}, proofs.EveryPlan.threads_among}
use Rattle.pas_trace.proofs.EveryPlan.{keepers_among}
use Rattle.pas_steps.specs.Unknown.{unknown_below}
use Rattle.pas_cache.specs.Locals.{any_covers, any_keeps}
use Rattle.pas_segregated.specs.declared.slots.Slots.{Slots}

-- ---- the region, which has a place for each keeper
-- what is said of a plan's operations in its own profile holds in a region of as many actors or more
module _ (f : Profile) (actors : ℕ) (more : f.threads ≤ actors) where
  abbrev pub region : Profile
  region = record f { threads = actors }

  wider_admits : (size align heap : ℕ) → IsAdmitted f size align heap → IsAdmitted region size align heap
  wider_admits size align heap admits = record { within = admits.within; aligned = admits.aligned; of_profile = admits.of_profile }

  -- Operations that are sound for the threads of a trace are sound for the actors of a region that has as many or more.
  pub wider_sound : (asked : List ℕ) (ops : List Op) → AreSound f asked ops → AreSound region asked ops
  wider_sound asked [] sound = tt
  wider_sound asked (op ∷ ops) sound = let rest = wider_sound (asked_after op.what asked) ops sound.2 in grind (arith, rest, wider_admits)

-- A keeper that is asked for is one of the profile: work by work.
of_thread : (f : Profile) (work : Work) (k : ℕ) (o : Option ℕ) → IsActorBy f work k → of_task keeper_of work ≡ o → (keeper : ℕ) → o ≡ Some keeper → IsThread f k
of_thread f work k o h i keeper j = grind arith

all_above : (f : Profile) (guard : ℕ) (asked : List ℕ) (ops : List Op) → AreSound f asked ops → AreKept f guard ops
    → AllByRecursion (KeepsAbove (record f { threads = actors_by guard f.threads })) ops
all_above f guard asked [] sound kept = tt
all_above f guard asked (op ∷ ops) sound kept = let rest = all_above f guard (asked_after op.what asked) ops sound.2 kept.1 in
    grind (arith, rest, of_thread, keepers_among)

-- ---- the plan
pub plan_valid : {text : List ℕ} {plan : Plan} → IsPlanOf text plan → IsValid (region_of plan)
plan_valid {text} {plan} is =
    let sound = every_plan is in
    let valid = sound.valid in
    search (arith, threads_among)

-- its threads are actors of its region
pub plan_threads : (plan : Plan) → threads_of plan ≤ actors_of plan
plan_threads plan = threads_among plan.guard plan.profile.threads

-- a bound for each actor
pub plan_bounds : {text : List ℕ} {plan : Plan} → IsPlanOf text plan → length (bounds_of plan.bounds) ≡ actors_of plan + 1
plan_bounds {text} {plan} is = (every_plan is).count

-- A plan of a text of at most 16 MB has fewer than 2^32 phases.
pub plan_phases : {text : List ℕ} {plan : Plan} → IsPlanOf text plan → length text ≤ 16777216 → length (phases_of plan) < 2 ^ 32
plan_phases {text} {plan} is short =
    let few = (every_plan is).phases in let same = length-map plan.phases.phases.items ops_of in omega (arith, few, same, short)

-- The operations of a plan of a text are planned.
pub plan_planned : {text : List ℕ} {plan : Plan} → IsPlanOf text plan → ArePlanned plan.profile (all_ops (phases_of plan))
plan_planned {text} {plan} is = are_planned plan.profile [] (all_ops (phases_of plan)) (every_plan is).operations

-- its limit is above all its names
pub plan_below : {text : List ℕ} {plan : Plan} → IsPlanOf text plan → AllBelow plan.names_limit (phases_of plan)
plan_below {text} {plan} is = below_each plan.names_limit (phases_of plan) (every_plan is).names

-- its guards are kept by actors of the region behind their threads
pub plan_above : {text : List ℕ} {plan : Plan} → IsPlanOf text plan → AllByRecursion (KeepsAbove (region_of plan)) (all_ops (phases_of plan))
plan_above {text} {plan} is = let sound = every_plan is in all_above plan.profile plan.guard [] (all_ops (phases_of plan)) sound.operations sound.keepers

-- The acts of a plan of a text fit its region, for each limit on its names.
pub plan_fit : {text plan : _} → IsPlanOf text plan → (limit : ℕ) → AllBelow limit (phases_of plan) → AreFit (region_of plan) limit [] (acts_of_plan plan)
plan_fit {text} {plan} is limit below =
    acts_fit (region_of plan) limit (threads_of plan) (keepers_of plan) (phases_of plan) (below_all limit (phases_of plan) below)
    (wider_sound plan.profile (actors_of plan) (plan_threads plan) [] (all_ops (phases_of plan)) (every_plan is).operations)
    (plan_above is)

-- its operations are those of its threads
pub plan_operate : {text : List ℕ} {plan : Plan} → IsPlanOf text plan → AreOfThreads (threads_of plan) (acts_of_plan plan)
plan_operate {text} {plan} is = of_threads plan.profile (keepers_of plan) (phases_of plan) (plan_planned is)

-- the bound of a thread suffices for its operations, and for a deed of each page
pub plan_own : {text : List ℕ} {plan : Plan} → IsPlanOf text plan → (k : ℕ) → 1 ≤ k → k ≤ threads_of plan
    → (region_of plan).pages + own_costs_of k (acts_of_plan plan) ≤ slice_index (bounds_of plan.bounds) k
plan_own {text} {plan} is k some le =
    let f = plan.profile in
    let most = plan_sums_at_most f (own_cost_of_act k) (λ op. if op.actor == k then records_of_what f op.what else 0) (own_records f k) 0 refl
    (λ op ops. refl) (λ idle op few of. search (arith, own_cost, free_map)) (λ j. refl) (λ j. refl) (λ j. refl) (λ n. refl) refl (keepers_of plan)
    (phases_of plan) (plan_planned is) in
    omega (arith, most, (every_plan is).own k some le)

-- .. that of the scavenger for its passes
pub plan_scavenger : {text plan : _} → IsPlanOf text plan → unbacks_of (region_of plan).pages (acts_of_plan plan) ≤ slice_index (bounds_of plan.bounds) 0
plan_scavenger {text} {plan} is =
    let f = plan.profile in
    let most = plan_sums_at_most f (unbacks_of_act f.pages) (λ op. if op.actor == 0 then records_of_what f op.what else 0) (own_records f 0) 0 refl
    (λ op ops. refl) (λ idle op few of. grind (arith, its_own, eq-eqb, free_map)) (λ j. refl) (λ j. refl) (λ j. refl) (λ n. refl) refl (keepers_of plan)
    (phases_of plan) (plan_planned is) in
    omega (arith, most, (every_plan is).scavenger)

-- .. and the total for those of all actors, with a record for each phase and one for the close
pub plan_total : {text : List ℕ} {plan : Plan} → IsPlanOf text plan
    → (region_of plan).threads * (region_of plan).pages + costs_of (region_of plan).pages (acts_of_plan plan) ≤ plan.total + length (phases_of plan) + 1
plan_total {text} {plan} is =
    let f = plan.profile in
    let most = plan_sums_at_most f (cost_of_act f.pages) (λ op. records_of_what f op.what) (records_of_ops f) 1 refl (λ op ops. refl)
    (λ idle op few of. work_costs f idle op (work_of op.what) refl few) (λ k. refl) (λ k. refl) (λ k. refl) (λ n. refl) refl (keepers_of plan)
    (phases_of plan) (plan_planned is) in
    omega (arith, most, (every_plan is).total)

-- ---- how many keepers there are
-- there are as many as threads in a guarded plan, and none in another
guarded_keepers : (guard threads : ℕ) → guard ≢ 0 → (if guard == 0 then 0 else threads) ≡ threads
guarded_keepers guard threads some = ap (λ (b : Bool). if b then 0 else threads) (ne_eqb guard 0 some)

-- A plan with a keeper is guarded.
pub is_guarded : (plan : Plan) → 1 ≤ keepers_of plan → plan.guard ≢ 0
is_guarded plan some none = let no = ap (λ (guard : ℕ). if guard == 0 then 0 else plan.profile.threads) none in omega (arith, some, no)

-- ---- each guarded request is tried by its thread's keeper
-- an operation of a plan, whose thread may make it
abbrev IsPlanned : Profile → ℕ → Op → Type 0
IsPlanned f guard op = IsActorOf f op.what op.actor × IsKept f guard op

are_both : (f : Profile) (guard : ℕ) (ops : List Op) → ArePlanned f ops → AreKept f guard ops → AllByRecursion (IsPlanned f guard) ops
are_both f guard [] planned kept = tt
are_both f guard (op ∷ ops) planned kept = ((planned.0, kept.0), are_both f guard ops planned.1 kept.1)

keeps_work : (f : Profile) (guard : ℕ) (idle : List ℕ) (op : Op) (work : Work) → IsActorBy f work op.actor
    → MatchOption (of_task keeper_of work) (Unit {0}) (λ k. (k ≡ f.threads + op.actor) × (guard ≢ 0))
    → AreKeptFor f.threads (if guard == 0 then 0 else f.threads) (acts_of_work idle op work)
keeps_work f guard idle op (Work.Own task) of kept = search (arith, guarded_keepers)
keeps_work f guard idle op (Work.Chore chore) of kept =
    all_of_chore (IsKeptFor f.threads (if guard == 0 then 0 else f.threads)) (λ k. Unit {0}) idle chore (λ epoch. tt) tt tt (λ k n is. tt) (all_any idle)

-- Each guarded act of a plan is tried by its thread's keeper.
pub plan_keeps : {text : List ℕ} {plan : Plan} → IsPlanOf text plan → AreKeptFor (threads_of plan) (keepers_of plan) (acts_of_plan plan)
plan_keeps {text} {plan} is =
    let f = plan.profile in
    let So = IsKeptFor f.threads (keepers_of plan) in
    let close = all_of_close So f.threads (keepers_of plan) tt (λ k le. tt) (λ k. tt) in
    let planned = are_both f plan.guard (all_ops (phases_of plan)) (plan_planned is) (every_plan is).keepers in
    let kept = λ (idle : List ℕ) (op : Op) (within : AllByRecursion (λ k. k ≤ f.threads) idle) (so : IsPlanned f plan.guard op). keeps_work f plan.guard idle op (work_of op.what) so.0 so.1 in
    all_acts So (IsPlanned f plan.guard) f.threads (keepers_of plan) kept (λ k le. tt) (λ n. tt) close (phases_of plan) planned

-- ---- what a keeper makes and tries is what its thread asks for
-- so much for each guarded request of thread k
abbrev asked_of_act : (Op → ℕ) → ℕ → Act → ℕ
asked_of_act much k (Guards keeper op) = if op.actor == k then much op else 0
asked_of_act much k act = 0

its_keeper : (threads actor k keeper : ℕ) → keeper ≡ threads + actor → (keeper == threads + k) ≡ (actor == k)
its_keeper threads actor k keeper is = search (arith, cases_eq, eq-eqb, ne_eqb)

kept_same : (threads keepers k : ℕ) (act : Act) → IsKeptFor threads keepers act
    → kept_cost_of_act (threads + k) act ≡ asked_of_act (λ op. kept_cost_of (request_in op.what)) k act
kept_same threads keepers k act kept = search (arith, its_keeper)

tries_same : (threads keepers k : ℕ) (act : Act) → IsKeptFor threads keepers act → tries_of_act (threads + k) act ≡ asked_of_act (λ op. 1) k act
tries_same threads keepers k act kept = search (arith, its_keeper)

-- what the guarded requests of a plan cost its keeper by `cost`, which is `much` of each of thread k's, and at most `most`, which `sum` adds up
module _ {text : List ℕ} {plan : Plan} (is : IsPlanOf text plan) (much most : Op → ℕ) (cost : Act → ℕ) (sum : List Op → ℕ) (k : ℕ)
    (same : (act : Act) → IsKeptFor (threads_of plan) (keepers_of plan) act → cost act ≡ asked_of_act much k act)
    (enough : (op : Op) (keeper : ℕ) → keeper_in op.what ≡ Some keeper → much op ≤ most op) (none : sum [] ≡ 0)
    (next : (op : Op) (ops : List Op) → sum (op ∷ ops) ≡ (if op.actor == k then most op else 0) + sum ops) where
  asked_sum : (acts : List Act) → AreKeptFor (threads_of plan) (keepers_of plan) acts → sum_over cost acts ≡ sum_over (asked_of_act much k) acts
  asked_sum [] kept = refl
  asked_sum (act ∷ acts) kept = let one = same act kept.0 in let rest = asked_sum acts kept.1 in omega (arith, one, rest)

  asked_work : (idle : List ℕ) (op : Op) (work : Work) → work_of op.what ≡ work
      → sum_over (asked_of_act much k) (acts_of_work idle op work) ≤ (if op.actor == k then most op else 0)
  asked_work idle op work is = search (arith, free_map)

  -- it is at most the sum of the plan's operations
  asked_all : sum_over cost (acts_of_plan plan) ≤ sum (all_ops (phases_of plan))
  asked_all =
      let all = plan_sums_at_most plan.profile (asked_of_act much k) (λ op. if op.actor == k then most op else 0) sum 0 none next
      (λ idle op few of. asked_work idle op (work_of op.what) refl) (λ j. refl) (λ j. refl) (λ j. refl) (λ n. refl) refl (keepers_of plan) (phases_of plan)
      (plan_planned is) in
      omega (arith, all, asked_sum (acts_of_plan plan) (plan_keeps is))

-- ---- events
-- the bound of a keeper suffices for the requests that it tries, and for a deed of each page
kept_own : {text : List ℕ} {plan : Plan} → IsPlanOf text plan → (k : ℕ) → 1 ≤ k → k ≤ keepers_of plan
    → (region_of plan).pages + kept_costs_of (threads_of plan + k) (acts_of_plan plan) ≤ slice_index (bounds_of plan.bounds) (threads_of plan + k)
kept_own {text} {plan} is k some within =
    let bound = (every_plan is).kept k (is_guarded plan (omega (arith, some, within))) some (omega (arith, within, keepers_few plan)) in
    let all = asked_all is (λ op. kept_cost_of (request_in op.what)) (λ op. kept_of_work (work_of op.what)) (kept_cost_of_act (threads_of plan + k))
    (kept_records k) k (kept_same (threads_of plan) (keepers_of plan) k) (λ op keeper asks. grind arith) refl (λ op ops. refl) in
    omega (arith, bound, all)

-- What a keeper may cost, with the region's pages, is within its bound.
pub plan_kept_own : {text : List ℕ} {plan : Plan} → IsPlanOf text plan → (k : ℕ) → threads_of plan < k → k ≤ (region_of plan).threads
    → (region_of plan).pages + kept_costs_of k (acts_of_plan plan) ≤ slice_index (bounds_of plan.bounds) k
plan_kept_own {text} {plan} is k past within =
    let place : threads_of plan + (k - threads_of plan) ≡ k = omega (arith, past) in
    rw place at (kept_own is (k - threads_of plan) (omega (arith, past)) (omega (arith, past, within, plan_actors plan)))

-- ---- guards
-- a keeper tries no more requests than its book has places for
pub plan_tries : {text plan : _} → IsPlanOf text plan → (k : ℕ) → tries_of (threads_of plan + k) (acts_of_plan plan) ≤ guarded_of k (operations_of plan)
plan_tries {text} {plan} is k = asked_all is (λ op. 1) (λ op. one_guarded (keeper_in op.what)) (tries_of_act (threads_of plan + k)) (guarded_of k) k
    (tries_same (threads_of plan) (keepers_of plan) k) (λ op keeper asks. grind arith) refl (λ op ops. refl)

unknown_all : (n : ℕ) → unknown_below n [] ≡ n
unknown_all zero = refl
unknown_all (suc n) = let rest = unknown_all n in omega (arith, rest)

-- An actor that did nothing owes as many events as the region has pages.
pub pages_owed_at_first : (f : Profile) → owed_events f empty_cache [] ≡ f.pages
pages_owed_at_first f = let all = unknown_all f.pages in omega (arith, all)

-- A cache without local allocators covers no grain and keeps no page.
pub no_slots : (locals : List Slots) → locals ≡ [] → (g : ℕ) → (any_covers locals g ≡ false) × (any_keeps locals g ≡ false)
no_slots locals is g = (ap (λ (xs : List Slots). any_covers xs g) is, ap (λ (xs : List Slots). any_keeps xs g) is)

-- The records of phases, as they are written.

-- records without a mark are added to those since the last one
gathers : (threads : ℕ) (since said rest : List Record) → AreSpoken said → by_phases threads since (said ++ rest) ≡ by_phases threads (since ++ said) rest
gathers threads since [] rest spoken = ap (λ (rs : List Record). by_phases threads rs rest) (sym (append-nil since))
gathers threads since (Record.Event e ∷ said) rest spoken = gathers threads (since ++ Record.Event e ∷ []) said rest spoken.1
    ∙ ap (λ (rs : List Record). by_phases threads rs rest) (append_assoc since (Record.Event e ∷ []) said)
gathers threads since (Record.Said k s ∷ said) rest spoken = gathers threads (since ++ Record.Said k s ∷ []) said rest spoken.1
    ∙ ap (λ (rs : List Record). by_phases threads rs rest) (append_assoc since (Record.Said k s ∷ []) said)
gathers threads since _ rest spoken = absurd (false≢true spoken.0.1)

-- The records of phases are arranged as those of each phase, one after the other.
pub are_arranged : ArePhasesArranged
are_arranged threads said spoken = (
  λ n more. gathers threads [] said (Record.Phase n ∷ more) spoken,
  λ more. gathers threads [] said (Record.Close ∷ more) spoken,
  ap (λ (rs : List Record). by_phases threads [] rs) (sym (append-nil said)) ∙ gathers threads [] said [] spoken,
)
