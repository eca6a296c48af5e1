-- The bounds of a plan say whether it is of one thread: the acts of such a plan are that thread's, and its records are written in the same order in both ways.
use Rattle.std.proofs.Common.{◌≡◌, ◌≢◌, ℕ, ◌+◌, ◌≤◌, ◌==◌, if◌then◌else◌, List, [], ◌∷◌, Option, None, refl, ap, sym, ◌∙◌, subst, arith, MatchOption, eq-eqb}
use Rattle.std.{proofs.Common.{◌++◌, append_assoc, append-nil}, specs.List.AllByRecursion}
use Rattle.pas_replay.proofs.Common.{Profile, work_of, IsPlanOf, Work, Op, Plan, Act, Operates, Ends, acts_of_work, acts_of, Settles, MarksPhase, Wakes}
use Rattle.pas_replay.proofs.Common.{MarksClose, phases_of, keepers_of, acts_of_plan, at_start, Shows, region_of, Progress, Advances, Reaches, InOrder, Whole}
use Rattle.pas_replay.{proofs.Common.{part, Record, all_ops, every_plan, replays, plan_planned, plan_valid, plan_operate}, specs.OneThread.IsOfOneThread}
use Rattle.pas_trace.specs.{Asked.{keeper_of, of_task, keeper_in}, EveryPlan.{IsActorBy, IsActorOf, AreKept, own_records}}
use Rattle.pas_profile.proofs.Lists.{all_both}
use Rattle.pas_answers.{specs.{Answers.records_of, Ways.{OnThreads, is_of, EachOf, records_by, by_actors, by_phases, arranged}}, proofs.EachAct.all_acts}
use Rattle.pas_answers.proofs.OwnRecords.{each_both, piece_of, all_by, none_by}
use Rattle.pas_acts.proofs.ActsOfPlan.{ArePlanned}
use Rattle.pas_steps.specs.{Events.events_by, declared.state.State.State}

-- ---- operations of thread 1
abbrev pub IsOfOne : Op → Type 0
IsOfOne op = op.actor ≡ 1

abbrev pub AreOfOne : List Op → Type 0
AreOfOne ops = AllByRecursion IsOfOne ops

pub no_records : (f : Profile) (ops : List Op) → f.threads ≡ 1 → ArePlanned f ops → own_records f 0 ops ≡ 0 → AreOfOne ops
no_records f [] one all none = tt
no_records f (op ∷ ops) one all none = let rest = no_records f ops one all.1 (omega (arith, none)) in search (arith, rest, eq-eqb)

pub one_records : (f : Profile) (ops : List Op) → AreOfOne ops → own_records f 0 ops ≡ 0
one_records f [] all = refl
one_records f (op ∷ ops) all =
    let rest = one_records f ops all.1 in grind (arith, rest)

-- ---- acts
-- the act is thread 1's, or a mark
abbrev pub IsActOfOne : Act → Type 0
IsActOfOne (MarksPhase n) = Unit {0}
IsActOfOne (Wakes k) = Unit {0}
IsActOfOne (Operates op) = op.actor ≡ 1
IsActOfOne (Settles k) = Unit {0}
IsActOfOne MarksClose = Unit {0}
IsActOfOne (Ends k) = k ≡ 1
IsActOfOne act = ⊥

abbrev pub AreActsOfOne : List Act → Type 0
AreActsOfOne acts = AllByRecursion IsActOfOne acts

-- an operation of a plan without guards that is thread 1's
record IsPlannedOfOne (f : Profile) (op : Op) : Type 0 where
  pub planned : IsActorOf f op.what op.actor
  pub one : IsOfOne op
  pub unguarded : keeper_in op.what ≡ None

-- No keeper is asked for where no guard is up.
no_keeper : (f : Profile) (actor : ℕ) (keeper : Option ℕ) → MatchOption keeper (Unit {0}) (λ k. (k ≡ f.threads + actor) × (◌≢◌ {A = ℕ} 0 0)) → keeper ≡ None
no_keeper f actor keeper h = grind arith

are_all : (f : Profile) (ops : List Op) → ArePlanned f ops → AreOfOne ops → AreKept f 0 ops → AllByRecursion (IsPlannedOfOne f) ops
are_all f [] all own kept = tt
are_all f (op ∷ ops) all own kept = let rest = are_all f ops all.1 own.1 kept.1 in grind (arith, rest, no_keeper)

work_of_one : (f : Profile) (idle : List ℕ) (op : Op) (work : Work) → IsActorBy f work op.actor → IsOfOne op → of_task keeper_of work ≡ None
    → AreActsOfOne (acts_of_work idle op work)
work_of_one f idle op work h i j = grind arith

-- The acts of a plan of one thread are all that thread's.
plan_of_one : {text : List ℕ} {plan : Plan} → IsPlanOf text plan → IsOfOneThread plan → AreActsOfOne (acts_of_plan plan)
plan_of_one {text} {plan} is alone =
    let f = plan.profile in
    let ops = all_ops (phases_of plan) in
    let kept = subst (λ (guard : ℕ). AreKept f guard ops) alone.unguarded (every_plan is).keepers in
    let own = λ (idle : List ℕ) (op : Op) (within : AllByRecursion (λ k. k ≤ 1) idle) (so : IsPlannedOfOne f op). work_of_one f idle op (work_of op.what) so.planned so.one so.unguarded in
    let acts = all_acts IsActOfOne _ 1 0 own (λ k le. tt) (λ n. tt) (tt, (refl, tt)) (phases_of plan) (are_all f ops (plan_planned is) alone.own kept) in
    let keepers : 0 ≡ keepers_of plan = sym (ap (λ (guard : ℕ). if guard == 0 then 0 else f.threads) alone.unguarded) in
    subst (λ (n : ℕ). AreActsOfOne (acts_of n (keepers_of plan) (phases_of plan))) (sym alone.threads) (subst (λ (n : ℕ). AreActsOfOne (acts_of 1 n (phases_of plan))) keepers acts)

-- ---- thread 1's own
-- the record is its own, or a mark
abbrev IsOwnOrMark : Record → Type 0
IsOwnOrMark (Record.Phase n) = Unit {0}
IsOwnOrMark Record.Close = Unit {0}
IsOwnOrMark r = (k : ℕ) → is_of k r ≡ (1 == k)

abbrev AreOwnOrMarks : List Record → Type 0
AreOwnOrMarks rs = AllByRecursion IsOwnOrMark rs

own_or_marks : (rs : List Record) → EachOf 1 rs → AreOwnOrMarks rs
own_or_marks [] all = tt
own_or_marks (Record.Phase n ∷ rs) all = (tt, own_or_marks rs all.1)
own_or_marks (Record.Close ∷ rs) all = (tt, own_or_marks rs all.1)
own_or_marks (r ∷ rs) all = (all.0, own_or_marks rs all.1)

-- ---- the records of all acts
-- after a piece
more_own : (k : ℕ) (rs new : List Record) → k ≡ 1 → AreOwnOrMarks rs → EachOf k new → AreOwnOrMarks (rs ++ new)
more_own k rs new one all more = all_both IsOwnOrMark rs new all (own_or_marks new (subst (λ (j : ℕ). EachOf j new) one more))

own_after : {p q : Progress} → q ≡ p → AreOwnOrMarks p.records → AreOwnOrMarks q.records
own_after is all = subst (λ (r : Progress). AreOwnOrMarks r.records) (sym is) all

own_one : (f : Profile) (act : Act) (p q : Progress) → IsActOfOne act → AreOwnOrMarks p.records → Advances f act p q → AreOwnOrMarks q.records
own_one f (MarksPhase n) p q own all did = own_after did (all_both IsOwnOrMark p.records (Record.Phase n ∷ []) all (tt, tt))
own_one f MarksClose p q own all did = own_after did (all_both IsOwnOrMark p.records (Record.Close ∷ []) all (tt, tt))
own_one f (Wakes k) p q own all did = own_after did.1 all
own_one f (Operates op) p q own all did = search (arith, own_after, more_own, piece_of)
own_one f (Settles k) p q own all did = own_after did all
own_one f (Ends k) p q own all did =
    let v = part k p.list in
    own_after did.3 (more_own k p.records (records_of (events_by k v did.0) ++ []) own all (piece_of k v did.0 None))
own_one f act p q own all did = absurd own

keep_own : (f : Profile) (acts : List Act) (p q : Progress) → AreActsOfOne acts → AreOwnOrMarks p.records → Reaches f acts p q → AreOwnOrMarks q.records
keep_own f [] p q own all is = own_after is all
keep_own f (act ∷ acts) p q own all is = keep_own f acts is.0 q own.1 (own_one f act p is.0 own.0 all is.1) is.2

-- ---- actor by actor they stand in the same order
by_one : (rs : List Record) → EachOf 1 rs → by_actors 0 2 rs ≡ rs
by_one rs all = ap (λ (ss : List Record). ss ++ (records_by 1 rs ++ [])) (none_by 0 1 rs all (λ is. (cc))) ∙ append-nil (records_by 1 rs) ∙ all_by 1 rs all

same_order : (since rs : List Record) → EachOf 1 since → AreOwnOrMarks rs → by_phases 1 since rs ≡ since ++ rs
same_order since [] own all = by_one since own ∙ sym (append-nil since)
same_order since (Record.Phase n ∷ rs) own all =
    let rest = same_order [] rs tt all.1 in grind (arith, rest, by_one)
same_order since (Record.Close ∷ rs) own all =
    let rest = same_order [] rs tt all.1 in grind (arith, rest, by_one)
same_order since (r ∷ rs) own all = same_order (since ++ r ∷ []) rs (each_both 1 since (r ∷ []) own (all.0, tt)) all.1 ∙ append_assoc since (r ∷ []) rs

-- ---- the replay
-- What a replay of a plan of one thread shows in the order of the text, it shows as one on threads, too.
pub shows_of_one : {text : List ℕ} {plan : Plan} {records : List Record} {state : State} → IsPlanOf text plan → IsOfOneThread plan
    → Shows InOrder plan records state → Shows OnThreads plan records state
shows_of_one {text} {plan} {records} is alone shows =
    let done = shows.replay in
    let own = keep_own (region_of plan) (acts_of_plan plan) at_start done.reached (plan_of_one is alone) tt done.answers in
    let same : arranged OnThreads (region_of plan).threads done.reached.records ≡ done.reached.records = cc (same_order [] done.reached.records tt own) in
    let replay = replays OnThreads plan done.reached shows.whole records (plan_valid is) done.answers
    (λ k. ap (λ (l : Whole). part k l) done.one_order) done.phases done.stages (done.records_are ∙ sym same) done.legal done.nothing tt tt (plan_operate is) in
    record { whole = shows.whole; replay = replay; profile = shows.profile; words = shows.words }
