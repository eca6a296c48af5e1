-- What is so of each act of a plan, by what is so of its operations.
use Rattle.std.{proofs.Common.{[], ℕ, zero, suc, ◌+◌, ◌≤◌, not, Bool, List, ◌∷◌, ◌++◌, map, arith}, specs.List.filter}
use Rattle.pas_answers.proofs.Common.{AllByRecursion, all_both, Act, Ticks, MakesPass, ReadsEpoch, StopsIdle, MarksPhase, Wakes, MarksClose, Ends, Lowers}
use Rattle.pas_answers.proofs.Common.{active_threads, idle_threads, acts_of_ops, phase_acts, close_acts, acts_from, acts_of, all_ops, Chore, Op}
use Rattle.pas_trace.specs.Acts.{is_active, numbers_from, threads_where, acts_of_chore, acts_of_op}

-- ---- lists
-- what is so of all is so of the first, and of those that follow
pub all_front : {A : Type 0} (P : A → Type 0) (xs ys : List A) → AllByRecursion P (xs ++ ys) → AllByRecursion P xs
all_front P [] ys all = tt
all_front P (x ∷ xs) ys all = (all.0, all_front P xs ys all.1)

-- What is so of each of two lists together is so of each of the second.
pub all_back : {A : Type 0} (P : A → Type 0) (xs ys : List A) → AllByRecursion P (xs ++ ys) → AllByRecursion P ys
all_back P [] ys all = all
all_back P (x ∷ xs) ys all = all_back P xs ys all.1

-- What is so of these makes those that are made of them so.
pub all_of : {A B : Type 0} (P : B → Type 0) (Q : A → Type 0) (to : A → B) (xs : List A) → ((x : A) → Q x → P (to x)) → AllByRecursion Q xs
    → AllByRecursion P (map to xs)
all_of P Q to [] one all = tt
all_of P Q to (x ∷ xs) one all = (one x all.0, all_of P Q to xs one all.1)

pub all_any : {A : Type 0} (xs : List A) → AllByRecursion (λ x. Unit {0}) xs
all_any [] = tt
all_any (x ∷ xs) = (tt, all_any xs)

abbrev AreWithin : ℕ → List ℕ → Type 0
AreWithin n ks = AllByRecursion (λ k. k ≤ n) ks

numbers_within : (n k m : ℕ) → k + m ≤ n + 1 → AreWithin n (numbers_from k m)
numbers_within n k zero le = tt
numbers_within n k (suc m) le = (omega (arith, le), numbers_within n (k + 1) m (omega (arith, le)))

chosen_within : (n : ℕ) (chosen : ℕ → Bool) (ks : List ℕ) → AreWithin n ks → AreWithin n (filter chosen ks)
chosen_within n chosen [] all = tt
chosen_within n chosen (k ∷ ks) all = let rest = chosen_within n chosen ks all.1 in grind (arith, rest)

where_within : (n : ℕ) (chosen : ℕ → Bool) → AreWithin n (threads_where chosen n)
where_within n chosen = chosen_within n chosen (numbers_from 1 n) (numbers_within n 1 n (omega arith))

-- ---- acts
-- It is so of the acts of a chore, where it is of those of the scavenger, and of the stops of the idle threads.
pub all_of_chore : (P : Act → Type 0) (Q : ℕ → Type 0) (idle : List ℕ) (chore : Chore) → ((epoch : ℕ) → P (Ticks epoch)) → P MakesPass → P ReadsEpoch
    → ((k n : ℕ) → Q k → P (StopsIdle k n)) → AllByRecursion Q idle → AllByRecursion P (acts_of_chore idle chore)
all_of_chore P Q idle (Chore.Tick epoch) ticks pass reads stops all = (ticks epoch, tt)
all_of_chore P Q idle Chore.Pass ticks pass reads stops all = (pass, tt)
all_of_chore P Q idle (Chore.Idle n) ticks pass reads stops all = (reads, all_of P Q (λ k. StopsIdle k n) idle (λ k is. stops k n is) all)

-- It is so of the close, where it is of a mark, of the end of each thread and of each last sweep.
pub all_of_close : (P : Act → Type 0) (threads keepers : ℕ) → P MarksClose → ((k : ℕ) → k ≤ threads → P (Ends k)) → ((k : ℕ) → P (Lowers k))
    → AllByRecursion P (close_acts threads keepers)
all_of_close P threads keepers close ends lowers =
    let ks = numbers_from 1 threads in
    let js = numbers_from (threads + 1) keepers in
    let all_end = all_of P (λ k. k ≤ threads) Ends ks ends (numbers_within threads 1 threads (omega arith)) in
    (close, all_both P (map Ends ks) (map Lowers js) all_end (all_of P (λ k. Unit {0}) Lowers js (λ k any. lowers k) (all_any js)))

module _ (P : Act → Type 0) (Q : Op → Type 0) (threads keepers : ℕ)
    (each : (idle : List ℕ) (op : Op) → AreWithin threads idle → Q op → AllByRecursion P (acts_of_op idle op)) (wakes : (k : ℕ) → k ≤ threads → P (Wakes k))
    (marks : (n : ℕ) → P (MarksPhase n)) (last : AllByRecursion P (close_acts threads keepers)) where
  all_of_ops : (idle : List ℕ) (ops : List Op) → AreWithin threads idle → AllByRecursion Q ops → AllByRecursion P (acts_of_ops idle ops)
  all_of_ops idle [] within all = tt
  all_of_ops idle (op ∷ ops) within all = all_both P (acts_of_op idle op) (acts_of_ops idle ops) (each idle op within all.0) (all_of_ops idle ops within all.1)

  all_of_phase : (ops : List Op) → AllByRecursion Q ops → AllByRecursion P (phase_acts threads ops)
  all_of_phase ops all =
      let idle = idle_threads threads ops in
      let active = active_threads threads ops in
      let all_wake = all_of P (λ k. k ≤ threads) Wakes active wakes (where_within threads (is_active ops)) in
      all_both P (map Wakes active) (acts_of_ops idle ops) all_wake (all_of_ops idle ops (where_within threads (λ k. not (is_active ops k))) all)

  -- each phase takes the first operations, and its acts come before those that follow
  all_later : (n : ℕ) (phases : List (List Op)) → AllByRecursion Q (all_ops phases) → AllByRecursion P (acts_from threads keepers n phases)
  all_later n [] all = last
  all_later n (p ∷ ps) all =
      let rest = all_later (n + 1) ps (all_back Q p (all_ops ps) all) in search (arith, rest, all_back, all_both, all_of_phase, all_front)

  -- What the acts of each operation are, and each mark, wake and end besides, each act of a plan is.
  pub all_acts : (phases : List (List Op)) → AllByRecursion Q (all_ops phases) → AllByRecursion P (acts_of threads keepers phases)
  all_acts [] all = last
  all_acts (p ∷ ps) all = (all_later 1 (p ∷ ps) all).1
