-- The acts of a plan fit where its operations do, and cost no more than they, and one record for each phase and one for the close.
use Rattle.std.proofs.Common.{if◌then◌else◌, [], ◌≡◌, ℕ, ◌+◌, ◌*◌, ◌<◌, ◌≤◌, Bool, true, cond, List, ◌∷◌, ◌++◌, length, Option, refl, arith, append_assoc}
use Rattle.std.proofs.{Common.{append-nil, map, MatchOption}, Math.Nat.suc-mul}
use Rattle.pas_acts.proofs.Common.{AllByRecursion, filter, Profile, all_ops, asked_with, asked_after, IsActorBy, IsActorOf, AreSound, work_of, of_task, Chore}
use Rattle.pas_acts.proofs.Common.{Work, Op, Act, Settles, MarksPhase, Wakes, Ends, Lowers, act_kept, numbers_from, idle_threads, acts_of_work, acts_of_op}
use Rattle.pas_acts.proofs.Common.{acts_of_ops, phase_acts, close_acts, acts_from, acts_of, sum_both, all_front, all_back, all_any, all_of_chore, all_of_close}
use Rattle.pas_acts.proofs.Common.{all_acts, KeepsAbove, AreFit, AreOfThreads, cost_of_what, costs_of, sum_over, AreBelow}
use Rattle.pas_trace.specs.{EveryPlan.{IsSoundWork, records_of_work}, Asked.request_of, Acts.{MarksClose, operation_in, active_threads}}
use Rattle.pas_trace.proofs.ThreadsInOrder.{numbers_count}

-- ---- so many threads
one_chosen : (b : Bool) (k : ℕ) (chosen ks : List ℕ) → length chosen ≤ length ks → length (cond b (k ∷ chosen) chosen) ≤ length (k ∷ ks)
one_chosen b k chosen ks h = grind arith

-- Of a list no more are chosen than there are.
pub chosen_few : (chosen : ℕ → Bool) (ks : List ℕ) → length (filter chosen ks) ≤ length ks
chosen_few chosen [] = omega arith
chosen_few chosen (k ∷ ks) = one_chosen (chosen k) k (filter chosen ks) ks (chosen_few chosen ks)

-- There are no more idle threads than threads.
pub idle_few : (threads : ℕ) (ops : List Op) → length (idle_threads threads ops) ≤ threads
idle_few threads ops = search (arith, chosen_few, numbers_count)

-- ---- operations of a plan
-- each is of an actor that may make it
abbrev pub ArePlanned : Profile → List Op → Type 0
ArePlanned f ops = AllByRecursion (λ (op : Op). IsActorOf f op.what op.actor) ops

-- Sound operations are planned.
pub are_planned : (f : Profile) (asked : List ℕ) (ops : List Op) → AreSound f asked ops → ArePlanned f ops
are_planned f asked [] sound = tt
are_planned f asked (op ∷ ops) sound = (sound.0, are_planned f (asked_after op.what asked) ops sound.2)

-- ---- what acts cost
-- those that cost nothing
pub free_map : {A : Type 0} (cost : Act → ℕ) (to : A → Act) → ((x : A) → cost (to x) ≡ 0) → (xs : List A) → sum_over cost (map to xs) ≡ 0
free_map cost to free [] = refl
free_map cost to free (x ∷ xs) = let one = free x in let rest = free_map cost to free xs in omega (arith, one, rest)

-- .. and acts that cost one each
one_each : {A : Type 0} (cost : Act → ℕ) (to : A → Act) → ((x : A) → cost (to x) ≡ 1) → (xs : List A) → sum_over cost (map to xs) ≡ length xs
one_each cost to one [] = refl
one_each cost to one (x ∷ xs) = let this = one x in let rest = one_each cost to one xs in omega (arith, this, rest)

-- each operation's acts cost at most `most` of it, which `sum` adds up, and a mark `mark`
module _ (f : Profile) (cost : Act → ℕ) (most : Op → ℕ) (sum : List Op → ℕ) (mark : ℕ) (none : sum [] ≡ 0)
    (next : (op : Op) (ops : List Op) → sum (op ∷ ops) ≡ most op + sum ops)
    (each : (idle : List ℕ) (op : Op) → length idle ≤ f.threads → IsActorOf f op.what op.actor → sum_over cost (acts_of_op idle op) ≤ most op)
    (wakes : (k : ℕ) → cost (Wakes k) ≡ 0) (ends : (k : ℕ) → cost (Ends k) ≡ 0) (lowers : (k : ℕ) → cost (Lowers k) ≡ 0)
    (phase : (n : ℕ) → cost (MarksPhase n) ≡ mark) (close : cost MarksClose ≡ mark) where
  of_ops : (idle : List ℕ) (ops : List Op) → length idle ≤ f.threads → ArePlanned f ops → sum_over cost (acts_of_ops idle ops) ≤ sum ops
  of_ops idle [] few all = omega arith
  of_ops idle (op ∷ ops) few all = let rest = of_ops idle ops few all.1 in let more = next op ops in search (arith, rest, more, sum_both)

  of_phase : (ops : List Op) → ArePlanned f ops → sum_over cost (phase_acts f.threads ops) ≤ sum ops
  of_phase ops all =
      let both = sum_both cost (map Wakes (active_threads f.threads ops)) (acts_of_ops (idle_threads f.threads ops) ops) in
      omega (arith, free_map cost Wakes wakes (active_threads f.threads ops), of_ops (idle_threads f.threads ops) ops (idle_few f.threads ops) all, both)

  of_close : (keepers : ℕ) → sum_over cost (close_acts f.threads keepers) ≡ mark
  of_close keepers = search (arith, free_map, sum_both)

  ops_both : (xs ys : List Op) → sum (xs ++ ys) ≡ sum xs + sum ys
  ops_both [] ys = omega (arith, none)
  ops_both (x ∷ xs) ys = omega (arith, ops_both xs ys, next x xs, next x (xs ++ ys))

  of_later : (keepers n : ℕ) (phases : List (List Op)) → ArePlanned f (all_ops phases)
      → sum_over cost (acts_from f.threads keepers n phases) ≤ sum (all_ops phases) + (length phases + 1) * mark
  of_later keepers n [] all = let last = of_close keepers in omega (arith, last)
  of_later keepers n (p ∷ ps) all =
      let rest = of_later keepers (n + 1) ps in grind (arith, rest, of_phase, all_front, all_back, sum_both, ops_both, suc-mul)

  -- The acts of a plan cost at most what its operations may, and a mark for each phase and one for the close.
  pub plan_sums_at_most : (keepers : ℕ) (phases : List (List Op)) → ArePlanned f (all_ops phases)
      → sum_over cost (acts_of f.threads keepers phases) ≤ sum (all_ops phases) + (length phases + 1) * mark
  plan_sums_at_most keepers [] all = let last = of_close keepers in omega (arith, last)
  plan_sums_at_most keepers (p ∷ ps) all = let marked = of_later keepers 1 (p ∷ ps) all in omega (arith, marked)

-- ---- each operation
-- a thread's operation costs the same whether it is guarded or not
kept_cost : (f : Profile) (keeper : Option ℕ) (op : Op) → costs_of f.pages (act_kept keeper op ∷ (Settles op.actor ∷ [])) ≡ cost_of_what op.what
kept_cost f keeper op = grind arith

-- The acts of an operation's work cost at most the records that the work may make.
pub work_costs : (f : Profile) (idle : List ℕ) (op : Op) (work : Work) → work_of op.what ≡ work → length idle ≤ f.threads
    → costs_of f.pages (acts_of_work idle op work) ≤ records_of_work f work
work_costs f idle op work is few = search (arith, kept_cost, one_each)

-- events of thread k
pub own_cost : (t : Bool) (a b : ℕ) → a ≡ b → (if t then a else 0) + 0 ≤ (if t then b else 0)
own_cost t a b same = grind arith

-- pages that the scavenger unbacks, which is actor 0
pub its_own : (t : Bool) (n : ℕ) → t ≡ true → n ≤ (if t then 1 + n else 0)
its_own t n is = grind arith

-- ---- what acts fit to
-- what is said after operations and before the acts of those that follow
abbrev pub Continues : Profile → ℕ → List Op → List Act → Type 0
Continues f limit ops acts = (asked : List ℕ) → AreSound f asked ops → AllByRecursion (KeepsAbove f) ops → AreFit f limit asked acts

-- acts that fit anywhere stand in front of others that fit
fit_past : (f : Profile) (limit : ℕ) (asked : List ℕ) (to : ℕ → Act) (ks : List ℕ) (more : List Act)
    → ((k : ℕ) (acts : List Act) → AreFit f limit asked acts → AreFit f limit asked (to k ∷ acts)) → AreFit f limit asked more
    → AreFit f limit asked (map to ks ++ more)
fit_past f limit asked to [] more past fit = fit
fit_past f limit asked to (k ∷ ks) more past fit = past k (map to ks ++ more) (fit_past f limit asked to ks more past fit)

-- Each work of an operation fits.
fits : (f : Profile) (limit : ℕ) (asked : List ℕ) (op : Op) (work : Work) (idle : List ℕ) (more : List Act) → KeepsAbove f op → work_of op.what ≡ work
    → MatchOption (of_task request_of work) (Unit {0}) (λ r. r.name < limit) → IsActorBy f work op.actor → IsSoundWork f asked work
    → AreFit f limit (asked_with (of_task request_of work) asked) more → AreFit f limit asked (acts_of_work idle op work ++ more)
fits f limit asked op work idle more above is below of sound fit = search (arith, fit_past)

-- The acts of operations, and what follows them, fit where the names of all are below a limit.
pub ops_fit : (f : Profile) (limit : ℕ) (idle : List ℕ) (ops rest : List Op) (more : List Act) → AreBelow limit (ops ++ rest) → Continues f limit rest more
    → Continues f limit (ops ++ rest) (acts_of_ops idle ops ++ more)
ops_fit f limit idle [] rest more below go asked sound above = go asked sound above
ops_fit f limit idle (op ∷ ops) rest more below go asked sound above =
    let rest = ops_fit f limit idle ops rest more below.1 go _ sound.2 above.1 in search (arith, rest, append_assoc, fits)

phase_fit : (f : Profile) (limit threads : ℕ) (ops rest : List Op) (more : List Act) → AreBelow limit (ops ++ rest) → Continues f limit rest more
    → Continues f limit (ops ++ rest) (phase_acts threads ops ++ more)
phase_fit f limit threads ops rest more below go asked sound above = search (arith, append_assoc, fit_past, ops_fit)

-- Later operations of those below a limit are below it.
pub back_below : (limit : ℕ) (xs ys : List Op) → AreBelow limit (xs ++ ys) → AreBelow limit ys
back_below limit [] ys all = all
back_below limit (x ∷ xs) ys all = back_below limit xs ys all.1

later_fit : (f : Profile) (limit threads keepers n : ℕ) (phases : List (List Op)) → AreBelow limit (all_ops phases)
    → Continues f limit (all_ops phases) (acts_from threads keepers n phases)
later_fit f limit threads keepers n [] below asked sound above =
    let lowers = map Lowers (numbers_from (threads + 1) keepers) in
    fit_past f limit asked Ends (numbers_from 1 threads) lowers (λ k acts fit. fit)
    (rw append-nil at (fit_past f limit asked Lowers (numbers_from (threads + 1) keepers) [] (λ k acts fit. fit) tt))
later_fit f limit threads keepers n (p ∷ ps) below asked sound above =
    phase_fit f limit threads p (all_ops ps) _ below (later_fit f limit threads keepers (n + 1) ps (back_below limit p (all_ops ps) below)) asked sound above

-- The acts of a plan fit where its operations are sound and below a limit.
pub acts_fit : (f : Profile) (limit threads keepers : ℕ) (phases : List (List Op)) → AreBelow limit (all_ops phases) → AreSound f [] (all_ops phases)
    → AllByRecursion (KeepsAbove f) (all_ops phases) → AreFit f limit [] (acts_of threads keepers phases)
acts_fit f limit threads keepers [] below sound above = later_fit f limit threads keepers 1 [] below [] sound above
acts_fit f limit threads keepers (p ∷ ps) below sound above = later_fit f limit threads keepers 1 (p ∷ ps) below [] sound above

-- ---- the operations of a plan's acts are its threads'
abbrev IsOfThread : ℕ → Act → Type 0
IsOfThread threads act = MatchOption (operation_in act) (Unit {0}) (λ op. op.actor ≤ threads)

of_each : (threads : ℕ) (acts : List Act) → AllByRecursion (IsOfThread threads) acts → AreOfThreads threads acts
of_each threads [] all = tt
of_each threads (act ∷ acts) all = (all.0, of_each threads acts all.1)

-- a thread's own acts, guarded or not, and those of a chore
of_work : (f : Profile) (idle : List ℕ) (op : Op) (work : Work) → IsActorBy f work op.actor
    → AllByRecursion (IsOfThread f.threads) (acts_of_work idle op work)
of_work f idle op (Work.Own task) of = grind arith
of_work f idle op (Work.Chore chore) of = all_of_chore (IsOfThread f.threads) (λ k. Unit {0}) idle chore (λ epoch. tt) tt tt (λ k n is. tt) (all_any idle)

-- The acts of a plan are of its threads.
pub of_threads : (f : Profile) (keepers : ℕ) (phases : List (List Op)) → ArePlanned f (all_ops phases)
    → AreOfThreads f.threads (acts_of f.threads keepers phases)
of_threads f keepers phases all =
    search (arith, all_of_close, of_each, all_acts, of_work)
