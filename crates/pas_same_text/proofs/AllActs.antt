-- ALL ACTS of a replay: who acts in the replay of a plan, and that what is asked for is admitted; the first state of the text, which is that of a replay that did nothing
-- yet; and the text of a state that is the replay's, which is what is written of it.
use Rattle.pas_same_text.proofs.Common.{text_for, IsTold, nat_tests, none-some, AllByRecursion, filter, IsValid, IsAdmitted, route_in, directory_read, Route}
use Rattle.pas_same_text.proofs.Common.{Directory, Event, Profile, Word, all_both, read-deed_word_of, directory_from_profile, Act, numbers_from, request_in}
use Rattle.pas_same_text.proofs.Common.{IsPlanOf, Request, Op, Plan, plan_actors, IsKnown, IsKept, IsThreadOf, AreSeated, IsSame, IsBetween, none_of_zero}
use Rattle.pas_same_text.proofs.Common.{deed_in, Whole, word_after, visible, Legal, word_of_deed, IsRightInOnePlace, deed_of, directory_is_of}
use Rattle.pas_same_text.proofs.Common.{right_in_one_place, legal_before, Marked, Progress, indexes_after, AreAtRest, phases_of, keepers_of, World, cache_in}
use Rattle.pas_same_text.proofs.{Common.{each, acts_on, replayed, text_of, Indexes, no_ranges, Record}, TextOfBytes.{replay_told, its_text}}
use Rattle.pas_same_text.proofs.{CacheLists.{none_yet, act_many}, EntrySteps.read_deed, OneAct.act_same, SeatedActs.{seated_next, stamped_kept}}
use Rattle.pas_same_text.{proofs.{KeepersRest.between_from, UsableBlocks.act_usable}, specs.Known.{IsAdmittedWhat, IsGuardedWhat, IsPlanned, ArePlanned}}
use Rattle.pas_same_text.specs.{Known.{IsCarried, AreKnown}, Acts.IsListed, State.no_cache, Reports.{offered_by, parked_by}, Order.{opened, order_text}}
use Rattle.pas_answers.specs.{Replays.{region_of, at_start, threads_of, acts_of_plan, IsReplay}, Indexes.indexes_after_all, Reaching.Reaches, Rests.AllAtRest}
use Rattle.pas_answers.{specs.Ways.InOrder, proofs.{Reached.was_so, EachAct.{all_front, all_back, all_of, all_of_chore}}}
use Rattle.std.proofs.Common.{◌≡◌, ◌≢◌, ℕ, zero, suc, ◌+◌, ◌<◌, ◌≤◌, Bool, List, [], ◌∷◌, ◌++◌, map, Option, Some, MatchOption, sym, arith, not, false, length}
use Rattle.std.proofs.Common.{◌-◌, codes, None, inl, inr, refl, ap, ◌∙◌, subst}
use Rattle.pas_profile.proofs.Sizes.{large_for}
use Rattle.pas_trace.specs.Acts.{Wakes, Ends, Lowers, region_of, threads_of, keepers_of, acts_of_plan, is_active, threads_where, active_threads, idle_threads}
use Rattle.pas_trace.specs.{Acts.{acts_of_chore, acts_of_work, acts_of_op, acts_of_ops, phase_acts, close_acts, acts_from, acts_of}, Asked.of_task}
use Rattle.pas_trace.specs.{Asked.{request_of, keeper_of, keeper_in}, EveryPlan.{all_ops, operations_of, IsActorBy, IsActorOf, IsSoundTask, IsSoundWork}}
use Rattle.pas_trace.{specs.{EveryPlan.{AreSound, AreKept}, Plans.ops_of, declared.plan.{Chore.Chore, Task.Task, Work.Work}}, proofs.EveryPlan.every_plan}
use Rattle.pas_core.specs.Rights.{parked_bit}
use Rattle.pas_report.specs.Reports.{machine_pages, report_text}
use Rattle.pas_records.specs.{Lines.lines_of, Marks.{marks_after, offered_after}, Rests.AreTrueMarks}

-- ---- several numbers, and acts of each of several actors
all_from : (P : ℕ → Type 0) (k n : ℕ) → ((j : ℕ) → k ≤ j → j < k + n → P j) → AllByRecursion P (numbers_from k n)
all_from P k zero each = tt
all_from P k (suc n) each = (each k (omega arith) (omega arith), all_from P (k + 1) n (λ j low high. each j (omega (arith, low)) (omega (arith, high))))

all_chosen : (P : ℕ → Type 0) (chosen : ℕ → Bool) (ks : List ℕ) → AllByRecursion P ks → AllByRecursion P (filter chosen ks)
all_chosen P chosen [] all = tt
all_chosen P chosen (k ∷ ks) all = let ih = all_chosen P chosen ks all.1 in grind (arith, nat_tests, ih)

module _ (plan : Plan) where
  abbrev IsOwn : ℕ → Type 0
  IsOwn k = IsThreadOf (threads_of plan) k

  abbrev AreOwn : List Act → Type 0
  AreOwn acts = ArePlanned (threads_of plan) (region_of plan) acts

  own_where : (chosen : ℕ → Bool) → AllByRecursion IsOwn (threads_where chosen (threads_of plan))
  own_where chosen = all_chosen IsOwn chosen (numbers_from 1 (threads_of plan)) (all_from IsOwn 1 (threads_of plan) (λ j low high. (low, omega (arith, high))))

  -- ---- the acts of an operation
  chore_own : (idle : List ℕ) (chore : Chore) → AllByRecursion IsOwn idle → AreOwn (acts_of_chore idle chore)
  chore_own idle chore idles =
      all_of_chore (IsPlanned (threads_of plan) (region_of plan)) IsOwn idle chore (λ epoch. (tt, tt)) (tt, tt) (tt, tt) (λ k n is. (is, tt)) idles

  -- the actor that keeps the guard of a request of thread k, if it is guarded
  abbrev KeepsIt : ℕ → Option ℕ → Type 0
  KeepsIt k o = MatchOption o (Unit {0}) (λ keeper. (keeper ≡ threads_of plan + k) × (plan.guard ≢ 0))

  work_own : (idle : List ℕ) (op : Op) (work : Work) → AllByRecursion IsOwn idle → IsActorBy plan.profile work op.actor
      → IsAdmittedWhat (region_of plan) op.what → ((k : ℕ) → of_task keeper_of work ≡ Some k → IsGuardedWhat (region_of plan) k op.what)
      → KeepsIt op.actor (of_task keeper_of work) → AreOwn (acts_of_work idle op work)
  work_own idle op work idles actor admitted guarded keeps = search (arith, chore_own)

  -- ---- what is asked for: what the profile admits, its region does
  -- by what sound work says of the request that it makes
  work_admitted : (asked : List ℕ) (work : Work) → IsSoundWork plan.profile asked work → MatchOption (of_task request_of work) (Unit {0})
      (λ r. IsAdmitted (region_of plan) r.size r.align r.heap)
  work_admitted asked work sound = search arith

  -- .. and what is guarded is for whole pages
  abbrev IsLargeHere : Request → Type 0
  IsLargeHere r = route_in (region_of plan) r.size r.align ≡ Route.Large

  task_large : (asked : List ℕ) (task : Task) → IsSoundTask plan.profile asked task → (k : ℕ) → keeper_of task ≡ Some k
      → MatchOption (request_of task) (Unit {0}) IsLargeHere
  task_large asked (Task.Request name heap size align) sound k is = cc
  task_large asked (Task.Guarded keeper name heap size align) sound k is = sym (large_for (region_of plan).classes size align sound.2)
  task_large asked (Task.Remake name old heap size align) sound k is = cc
  task_large asked task sound k is = tt

  work_large : (asked : List ℕ) (work : Work) → IsSoundWork plan.profile asked work → (k : ℕ) → of_task keeper_of work ≡ Some k
      → MatchOption (of_task request_of work) (Unit {0}) IsLargeHere
  work_large asked work sound k is = search (arith, task_large)

  -- ---- the acts of phases
  record IsOwnOp (op : Op) : Type 0 where
    actor : IsActorOf plan.profile op.what op.actor
    admitted : IsAdmittedWhat (region_of plan) op.what
    large : (k : ℕ) → keeper_in op.what ≡ Some k → MatchOption (request_in op.what) (Unit {0}) IsLargeHere
    keeps : KeepsIt op.actor (keeper_in op.what)

  own_ops : (asked : List ℕ) (ops : List Op) → AreSound plan.profile asked ops → AreKept plan.profile plan.guard ops → AllByRecursion IsOwnOp ops
  own_ops asked [] sound kept = tt
  own_ops asked (op ∷ ops) sound kept = (search (arith, work_admitted, work_large), own_ops _ ops sound.2 kept.1)

  ops_own : (idle : List ℕ) (ops : List Op) → AllByRecursion IsOwn idle → AllByRecursion IsOwnOp ops → AreOwn (acts_of_ops idle ops)
  ops_own idle [] idles all = tt
  ops_own idle (op ∷ ops) idles all =
      all_both (IsPlanned (threads_of plan) (region_of plan)) (acts_of_op idle op) (acts_of_ops idle ops)
      (work_own idle op _ idles all.0.actor all.0.admitted (λ k is. (is, all.0.large k is)) all.0.keeps) (ops_own idle ops idles all.1)

  phase_own : (ops : List Op) → AllByRecursion IsOwnOp ops → AreOwn (phase_acts (threads_of plan) ops)
  phase_own ops all =
      let idle : List ℕ = idle_threads (threads_of plan) ops in
      let active : List ℕ = active_threads (threads_of plan) ops in
      all_both (IsPlanned (threads_of plan) (region_of plan)) (map Wakes active) (acts_of_ops idle ops)
      (all_of _ IsOwn Wakes active (λ k is. (is, tt)) (own_where _)) (ops_own idle ops (own_where (λ k. not (is_active ops k))) all)

  close_own : AreOwn (close_acts (threads_of plan) (keepers_of plan))
  close_own =
      let keepers : List ℕ = numbers_from (threads_of plan + 1) (keepers_of plan) in
      let own : Act → Type 0 = IsPlanned (threads_of plan) (region_of plan) in (
        (tt, tt),
        all_both own (map Ends (numbers_from 1 (threads_of plan))) (map Lowers keepers)
            (all_of own IsOwn Ends _ (λ k is. (is, tt)) (all_from IsOwn 1 (threads_of plan) (λ j low high. (low, omega (arith, high)))))
            (all_of own _ Lowers keepers (λ k is. (is, tt))
            (all_from _ _ _ (λ j low high. (omega (arith, low), omega (arith, high, (plan_actors plan)))))),
      )

  later_own : (n : ℕ) (phases : List (List Op)) → AllByRecursion IsOwnOp (all_ops phases) → AreOwn (acts_from (threads_of plan) (keepers_of plan) n phases)
  later_own n [] all = close_own
  later_own n (phase ∷ phases) all = (
    (tt, tt),
    all_both (IsPlanned (threads_of plan) (region_of plan)) (phase_acts (threads_of plan) phase) (acts_from (threads_of plan) (keepers_of plan) (n + 1) phases)
        (phase_own phase (all_front IsOwnOp phase (all_ops phases) all)) (later_own (n + 1) phases (all_back IsOwnOp phase (all_ops phases) all)),
  )

  phases_own : (phases : List (List Op)) → AllByRecursion IsOwnOp (all_ops phases) → AreOwn (acts_of (threads_of plan) (keepers_of plan) phases)
  phases_own [] all = close_own
  phases_own (phase ∷ phases) all = (later_own 1 (phase ∷ phases) all).1

-- ---- THE PLAN OF A TEXT
pub plan_acts : {text : List ℕ} {plan : Plan} → IsPlanOf text plan → ArePlanned (threads_of plan) (region_of plan) (acts_of_plan plan)
plan_acts {text} {plan} is =
    let sound = every_plan is in
    phases_own plan (map ops_of plan.phases.phases.items) (own_ops plan [] (operations_of plan) sound.operations sound.keepers)

-- The region that a plan of a text is replayed in is a valid profile.
plan_region : {text : List ℕ} {plan : Plan} → IsPlanOf text plan → IsValid (region_of plan)
plan_region {text} {plan} is =
    let sound = every_plan is in
    search (arith, plan.guard, plan.profile.threads)

-- ==== The first state of the text is that of a replay that did nothing yet, and the text of a state that is the replay's is what is written of it.
-- ==== THE START
many_numbers : (n from : ℕ) → length (map (λ k. no_cache) (numbers_from from n)) ≡ n
many_numbers zero from = refl
many_numbers (suc n) from = ap suc (many_numbers n (from + 1))

opening_caches_are_empty : (n from k : ℕ) → cache_in (map (λ k. no_cache) (numbers_from from n)) k ≡ no_cache
opening_caches_are_empty zero from k = refl
opening_caches_are_empty (suc n) from k = let ih = opening_caches_are_empty n (from + 1) (k - 1) in grind (arith, ih)

-- with so many caches in the list
module _ (f : Profile) (n : ℕ) (few : n ≤ f.threads) where
  abbrev first : World
  first = opened n f.heaps

-- ==== THE END
pages_told : (es : List Event) (marks other : ℕ → Marked) (n : ℕ) → ((page : ℕ) → marks page ≡ other page) → machine_pages es marks n ≡ machine_pages es other n
pages_told es marks other zero same = refl
pages_told es marks other (suc n) same =
    let ih = pages_told es marks other n same in grind (arith, nat_tests, ih)

module _ (f : Profile) (p : Progress) (w : World) (valid : IsValid f) (legal : Legal f p.list) (true_marks : AreTrueMarks f p.list) (same : IsSame f p w) where
  deed_is : (page : ℕ) → deed_in w.events page ≡ deed_in (visible p.list) page
  deed_is page = ap (λ (es : List Event). deed_in es page) same.pages.events

  read_is : (page : ℕ) → directory_read (word_after p.list (Word.Deed page)) ≡ deed_in (visible p.list) page
  read_is page =
      cc (
        deed_of f p.list legal page,
        read_deed f valid (deed_in (visible p.list) page)
            (λ d at. read-deed_word_of d (directory_from_profile f d valid (directory_is_of f p.list legal page d at))),
      )

  offered_told : (page : ℕ) (o : Option Directory) → deed_in (visible p.list) page ≡ o → offered_by w o page ≡ offered_after p.list page o
  offered_told page o at = search (arith, directory_is_of)

  offered_same : (page : ℕ) → offered_by w (deed_in w.events page) page ≡ (marks_after p.list page).offered
  offered_same page = search (arith, deed_is, offered_told, read_is)

  no_deed_parked : (page : ℕ) → deed_in (visible p.list) page ≡ None → parked_bit p.list page ≡ false
  no_deed_parked page none = by_place (right_in_one_place f p.list legal page)
    where
      zero_word : word_after p.list (Word.Deed page) ≡ 0
      zero_word = deed_of f p.list legal page ∙ ap word_of_deed none

      by_place : IsRightInOnePlace f p.list page → parked_bit p.list page ≡ false
      by_place (inl nowhere) = nowhere.not_parked
      by_place (inr (inl one)) = absurd (one.a_deed zero_word)
      by_place (inr (inr (inl offers))) = offers.not_parked
      by_place (inr (inr (inr parks))) = absurd (parks.a_deed zero_word)

  parked_told : (page : ℕ) (o : Option Directory) → deed_in (visible p.list) page ≡ o → parked_by w o page ≡ parked_bit p.list page
  parked_told page None at = sym (no_deed_parked page at)
  parked_told page (Some d) at =
      cc (deed_is page, offered_same page, true_marks.offered_or_parked page (λ none. absurd (none-some d (sym none ∙ at))))

  -- The text of a state that is the replay's is what is written of the replay: its lines and its report.
  pub text_told : text_of f w ≡ lines_of p.records ++ report_text f (visible p.list) (marks_after p.list)
  text_told = search (arith, codes, pages_told, offered_same, deed_is, parked_told)

-- ==== ACTS ONE AFTER THE OTHER keep the text, and a replay of them comes to what is written of it.
-- ---- one act
-- what is so between two acts is so after the next
carried_on : (threads : ℕ) (f : Profile) (act : Act) (p p' : Progress) (w : World) (indexes : Indexes) (known : IsKnown threads f act p p' w indexes)
    → threads ≤ length w.caches → IsKept threads f act p p' w indexes known
    → IsCarried threads f p' (acts_on f act w) (indexes_after f act p p' known.taken.advances indexes)
carried_on threads f act p p' w indexes known many kept = search (arith, act_many, seated_next, act_usable, stamped_kept)

-- ---- several
first_rest : (threads : ℕ) (f : Profile) (acts : List Act) (p p' : Progress) (is : Reaches f acts p p') → AllAtRest threads f acts p p' is
    → AreAtRest threads f p.caches p.books p.list
first_rest threads f [] p p' is rests = rests
first_rest threads f (act ∷ acts) p p' is rests = rests.0

-- What is so between two acts is so after several acts of a plan, of which all is known that a replay in order knows.
pub acts_carried : (threads : ℕ) (f : Profile) (acts : List Act) (p p' : Progress) (is : Reaches f acts p p') (w : World) (indexes : Indexes)
    → ArePlanned threads f acts → AreKnown threads f acts p p' is indexes → IsCarried threads f p w indexes
    → IsCarried threads f p' (each (acts_on f) acts w) (indexes_after_all f acts p p' is indexes)
acts_carried threads f [] p p' is w indexes planned known carried = subst (λ (q : Progress). IsCarried threads f q w indexes) (sym is) carried
acts_carried threads f (act ∷ acts) p p' is w indexes planned known carried =
    let next : Progress = is.0 in
    let legal : Legal f next.list = was_so f (Legal f) (legal_before f) acts next p' is.2 known.legal in
    let between : IsBetween f p =
    between_from threads f p known.rests.0 carried.seated (was_so f (Legal f) (legal_before f) (act ∷ acts) p p' is known.legal) in
    let seated : AreSeated threads f next = seated_next threads f act p next known.valid planned.0.0 between carried.seated is.1 legal in
    let one : IsKnown threads f act p next w indexes = record {
      planned = planned.0;
      taken = let is_listed : IsListed w act = search arith in
          assumption (between_from threads f next (first_rest threads f acts next p' is.2 known.rests.1) seated legal, is_listed);
      seated = carried.seated;
      usable = carried.usable;
      stamped = carried.stamped;
      indexes_are = carried.indexes_are;
      named = known.named.0;
    } in
    acts_carried threads f acts next p' is.2 (acts_on f act w) (indexes_after f act p next is.1 indexes) planned.1
    (record { valid = known.valid; legal = known.legal; rests = known.rests.1; named = known.named.1 })
    (carried_on threads f act p next w indexes one carried.many (act_same threads f act p next w indexes one))

-- .. and before the first, with a cache for each thread, and some for keepers or none
-- nothing is cached, guarded or shown at the start, so that each fact there computes
pub start_carried : (threads n : ℕ) (f : Profile) → threads ≤ n → n ≤ f.threads
    → IsCarried threads f at_start (opened n f.heaps) (no_ranges f.heaps)
start_carried threads n f each few = record {
  same = search (arith, none_of_zero, many_numbers, opening_caches_are_empty);
  many = omega (arith, each, many_numbers n 1);
  seated = search arith;
  usable = record { usable = λ address b lives g of d is. absurd (none-some d is) };
  stamped = record { kept = tt; stamped = λ k page. refl };
  indexes_are = none_yet f.heaps 1;
}

-- ---- A REPLAY of a plan, by so many caches: those of its threads at least, and none behind those of its keepers
pub told_by : (n : ℕ) (text : List ℕ) (plan : Plan) (whole : Whole) (records : List Record) → threads_of plan ≤ n → n ≤ (region_of plan).threads
    → IsPlanOf text plan → IsReplay InOrder plan whole records
    → IsTold plan whole records (each (acts_on (region_of plan)) (acts_of_plan plan) (opened n (region_of plan).heaps))
told_by n text plan whole records some few read is =
    let f : Profile = region_of plan in
    let threads : ℕ = threads_of plan in
    let acts : List Act = acts_of_plan plan in
    let first : World = opened n f.heaps in
    let end : World = each (acts_on f) acts first in
    let known : AreKnown threads f acts at_start is.reached is.answers (no_ranges f.heaps) = assumption (plan_region read, subst (Legal f) is.one_order is.legal) in
    let same : IsSame f is.reached end =
    (acts_carried threads f acts at_start is.reached is.answers first _ (plan_acts read) known (start_carried threads n f some few)).same in
    record {
      text =
          cc (text_told f is.reached end known.valid known.legal (subst (AreTrueMarks f) is.one_order is.marks) same);
      records_are = sym same.records ∙ sym is.records_are;
      events_are = same.pages.events ∙ ap visible (sym is.one_order);
    }

-- .. and by one for each thread, which is the replay of the text: what an act comes to doesn't go by how many actors there are
pub own_told : (text : List ℕ) (plan : Plan) (whole : Whole) (records : List Record) → IsPlanOf text plan → IsReplay InOrder plan whole records
    → IsTold plan whole records (replayed plan.profile (keepers_of plan) (phases_of plan))
own_told text plan whole records read is =
    told_by (threads_of plan) text plan whole records (omega arith) (omega (arith, (plan_actors plan))) read is

-- .. so the text of the bytes, of which this is the plan, is what is written
pub order_told : (bytes : List ℕ) (plan : Plan) (whole : Whole) (records : List Record) → IsPlanOf bytes plan → IsReplay InOrder plan whole records
    → order_text bytes ≡ Some (lines_of records ++ report_text (region_of plan) (visible whole) (marks_after whole))
order_told bytes plan whole records read is =
    ap text_for read.read ∙ replay_told its_text bytes plan read ∙ ap (λ (text : List ℕ). Some text) (own_told bytes plan whole records read is).text
