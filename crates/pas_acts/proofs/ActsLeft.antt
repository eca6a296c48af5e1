-- Which acts of a plan are left: for threads in order, which the reader's crate has, and after so many phases.
use Rattle.std.proofs.Common.{[], ◌≡◌, ℕ, zero, suc, ◌+◌, ◌<◌, ◌≤◌, List, ◌∷◌, ◌++◌, length, drop, get_or, ap, arith, drop_of_length-le}
use Rattle.pas_acts.proofs.Common.{drop_more, Op, Act, MarksPhase, phase_acts, close_acts, acts_from, acts_of}
pub use Rattle.pas_trace.proofs.ThreadsInOrder.{number_next, number_last, acts_there, next_chosen, next_passed, none_left, threads_alike}

-- after so many phases
abbrev pub acts_left : ℕ → ℕ → ℕ → List (List Op) → List Act
acts_left threads keepers zero phases = acts_of threads keepers phases
acts_left threads keepers (suc n) phases = acts_from threads keepers (suc n + 1) phases

-- Where no phase is left, the acts left are those of the close.
pub close_left : (threads keepers n : ℕ) → acts_left threads keepers n [] ≡ close_acts threads keepers
close_left threads keepers a = search arith

-- the first phase, which has no mark, and another one
pub first_phase : (threads keepers n : ℕ) (phase : List Op) (phases : List (List Op)) → n ≡ 0
    → acts_left threads keepers n (phase ∷ phases) ≡ phase_acts threads phase ++ acts_left threads keepers (n + 1) phases
first_phase threads keepers n phase phases is = grind arith

-- A phase that isn't the first is its mark, its acts and those of the phases after it.
pub other_phase : (threads keepers n : ℕ) (phase : List Op) (phases : List (List Op)) → 1 ≤ n
    → acts_left threads keepers n (phase ∷ phases) ≡ MarksPhase (n + 1) ∷ (phase_acts threads phase ++ acts_left threads keepers (n + 1) phases)
other_phase threads keepers n phase phases some = search arith

-- The acts left from a phase on are those of its operations and of the phases after it.
pub next_list : (threads keepers : ℕ) (lists : List (List Op)) (i : ℕ) → i < length lists
    → acts_left threads keepers i (drop i lists) ≡ acts_left threads keepers i (get_or lists i [] ∷ drop (i + 1) lists)
next_list threads keepers lists i lt = ap (λ (ps : List (List Op)). acts_left threads keepers i ps) (drop_more lists i [] lt)

-- Past the last phase the acts left are those of the close.
pub no_list : (threads keepers : ℕ) (lists : List (List Op)) (i : ℕ) → length lists ≤ i
    → acts_left threads keepers i (drop i lists) ≡ close_acts threads keepers
no_list threads keepers lists i le = search (arith, drop_of_length-le, close_left)
