-- Threads in order: which acts of theirs are left.
use Rattle.std.proofs.Common.{arith, ◌≡◌, ℕ, zero, suc, ◌+◌, ◌-◌, ◌<◌, ◌≤◌, Bool, true, false, if◌then◌else◌, List, [], ◌∷◌, ◌++◌, map, length, refl, ap, sym}
use Rattle.std.{proofs.Common.◌∙◌, specs.List.filter}
use Rattle.pas_trace.specs.Acts.{Act, numbers_from, threads_where}

-- the numbers that are left
pub number_next : (k n m : ℕ) → n ≡ m + 1 → numbers_from k n ≡ k ∷ numbers_from (k + 1) m
number_next k n m is = search arith

-- A list of no numbers, from whichever on, is empty.
pub number_last : (k n : ℕ) → n ≡ 0 → numbers_from k n ≡ []
number_last k n is = search arith

-- there are so many
pub numbers_count : (k n : ℕ) → length (numbers_from k n) ≡ n
numbers_count k zero = refl
numbers_count k (suc n) = ap suc (numbers_count (k + 1) n)

-- the thread at place i of n is one of them, or isn't, or there is none
module _ (to : ℕ → Act) (chosen : ℕ → Bool) (i n : ℕ) (more : List Act) where
  -- the acts for the threads from there on
  abbrev pub acts_there : List Act
  acts_there = map to (filter chosen (numbers_from (i + 1) (n - i))) ++ more

  -- .. and after it
  abbrev pub acts_past : List Act
  acts_past = map to (filter chosen (numbers_from (i + 1 + 1) (n - (i + 1)))) ++ more

  -- The acts from a thread on that is chosen are its own and those of the threads past it.
  pub next_chosen : i < n → chosen (i + 1) ≡ true → acts_there ≡ to (i + 1) ∷ acts_past
  next_chosen lt on = ap (λ (ks : List ℕ). map to ks ++ more) (let it : filter chosen (numbers_from (i + 1) (n - i)) ≡ (if true then (i + 1) ∷ filter chosen
      (numbers_from ((i + 1) + 1) (n - (i + 1))) else filter chosen (numbers_from ((i + 1) + 1) (n - (i + 1)))) = search (arith, number_next) in it)

  -- The acts from a thread on that isn't chosen are those of the threads past it.
  pub next_passed : i < n → chosen (i + 1) ≡ false → acts_there ≡ acts_past
  next_passed lt off = ap (λ (ks : List ℕ). map to ks ++ more) (let it : filter chosen (numbers_from (i + 1) (n - i)) ≡ (if false then (i + 1) ∷ filter chosen
      (numbers_from ((i + 1) + 1) (n - (i + 1))) else filter chosen (numbers_from ((i + 1) + 1) (n - (i + 1)))) = search (arith, number_next) in it)

  -- Past the last thread no act of theirs is left.
  pub none_left : n ≤ i → acts_there ≡ more
  none_left le = ap (λ (ks : List ℕ). map to (filter chosen ks) ++ more) (number_last (i + 1) (n - i) (omega (arith, le)))

  -- whichever it is
  pub next_there : i < n → acts_there ≡ map to (filter chosen ((i + 1) ∷ [])) ++ acts_past
  next_there lt = ap (λ (ks : List ℕ). map to (filter chosen ks) ++ more) (number_next _ _ _ (omega (arith, lt))) ∙ apart (chosen (i + 1)) refl
    where
      rest : List ℕ
      rest = filter chosen (numbers_from (i + 1 + 1) (n - (i + 1)))

      -- Whether the first number is chosen or not, it may be told apart from the others.
      apart : (on : Bool) → chosen (i + 1) ≡ on
          → map to (filter chosen ((i + 1) ∷ numbers_from (i + 1 + 1) (n - (i + 1)))) ++ more ≡ map to (filter chosen ((i + 1) ∷ [])) ++ acts_past
      apart true on =
          (λ t. map to (if on t then (i + 1) ∷ rest else rest) ++ more) ∙ (λ t. map to (if sym on t then (i + 1) ∷ [] else []) ++ (map to rest ++ more))
      apart false off =
          (λ t. map to (if off t then (i + 1) ∷ rest else rest) ++ more) ∙ (λ t. map to (if sym off t then (i + 1) ∷ [] else []) ++ (map to rest ++ more))
      -- The acts of actors from one on are its own and those of the actors past it.

-- the same ones, where it is said otherwise
chosen_alike : (p q : ℕ → Bool) → ((k : ℕ) → p k ≡ q k) → (ks : List ℕ) → filter p ks ≡ filter q ks
chosen_alike p q same [] = refl
chosen_alike p q same (k ∷ ks) =
    ap (λ (b : Bool). if b then k ∷ filter p ks else filter p ks) (same k) ∙ ap (λ (xs : List ℕ). if q k then k ∷ xs else xs) (chosen_alike p q same ks)

-- Two tests that agree choose the same threads.
pub threads_alike : (p q : ℕ → Bool) (threads : ℕ) → ((k : ℕ) → p k ≡ q k) → threads_where p threads ≡ threads_where q threads
threads_alike p q threads same = chosen_alike p q same (numbers_from 1 threads)
