-- How the workers of the threads are dealt into those that are chosen and the others.
use Rattle.std.specs.Prelude.{ℕ, zero, suc, ◌≡◌, Bool, not, if◌then◌else◌, List, [], ◌∷◌, ◌++◌, length}
use Rattle.pas_threads.specs.declared.workers.Worker.{Worker}

-- of a list, what stands at the places that are chosen, in order
abbrev pub picked : {A : Type 0} → (ℕ → Bool) → List A → List A
picked chosen [] = []
picked chosen (x ∷ xs) = if chosen 0 then x ∷ picked (λ i. chosen (suc i)) xs else picked (λ i. chosen (suc i)) xs

-- how many of the first n places are chosen
abbrev pub count_of : (ℕ → Bool) → ℕ → ℕ
count_of chosen zero = 0
count_of chosen (suc n) = if chosen 0 then suc (count_of (λ i. chosen (suc i)) n) else count_of (λ i. chosen (suc i)) n

-- the thread at a place is chosen, or it isn't
abbrev pub is_in : (ℕ → Bool) → ℕ → Bool
is_in chosen i = chosen (suc i)

abbrev pub is_out : (ℕ → Bool) → ℕ → Bool
is_out chosen i = not (chosen (suc i))

-- Of the workers of the threads, the hands are those of the threads that are chosen, and the others are lent, both in order.
abbrev pub AreDealt : (ℕ → Bool) → List Worker → List Worker → List Worker → Type 0
AreDealt chosen workers hands lent = (hands ≡ picked (is_in chosen) workers) × (lent ≡ picked (is_out chosen) workers)

-- the worker was put behind the hands, or behind those that are lent
abbrev pub IsPut : Bool → Worker → (hands lent hands' lent' : List Worker) → Type 0
IsPut awake w hands lent hands' lent' = (hands' ≡ (if awake then hands ++ w ∷ [] else hands)) × (lent' ≡ (if not awake then lent ++ w ∷ [] else lent))

-- there are just as many of both as of so many threads
abbrev pub AreSized : (ℕ → Bool) → ℕ → List Worker → List Worker → Type 0
AreSized chosen threads hands lent = (length hands ≡ count_of (is_in chosen) threads) × (length lent ≡ count_of (is_out chosen) threads)
