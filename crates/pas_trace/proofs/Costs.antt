-- The cost of an allocation on either side of 2,048 bytes.
use Rattle.std.proofs.{Common.{◌≡◌, ◌≢◌, ℕ, ◌+◌, ◌<◌, ◌≤◌, ◌==◌, Bool, false, if◌then◌else◌, ap, sym, arith, le-leb, ne_eqb}, lemmas.Bool.{cases_lt, lt-leb}}
use Rattle.pas_trace.specs.Reasons.{cost_of_size, cost_of_request, pages_for}

-- An allocation of at most 2,048 bytes may make two records.
pub small_cost : (size : ℕ) → size ≤ 2048 → 2 ≡ cost_of_size size
small_cost size within = sym (ap (λ t. if t then 2 else 1 + pages_for size) (le-leb size 2048 within))

-- An allocation of more than 2,048 bytes may make a record for each page and one more.
pub large_cost : (size : ℕ) → 2048 < size → 1 + pages_for size ≡ cost_of_size size
large_cost size beyond = sym (ap (λ t. if t then 2 else 1 + pages_for size) (lt-leb size 2048 beyond))

-- Each allocation may make at least one record.
pub some_cost : (size : ℕ) → 1 ≤ cost_of_size size
some_cost size = search (arith, cases_lt, large_cost, small_cost)

-- ---- in a trace whose `guard` line has this number
pub small_request : (guard size : ℕ) → size ≤ 2048 → 2 ≡ cost_of_request guard size
small_request guard size within = sym (ap (λ t. if t then 2 else (if guard == 0 then 1 + pages_for size else 3 + pages_for size)) (le-leb size 2048 within))

large_request : (guard size : ℕ) (none : Bool) → 2048 < size → (guard == 0) ≡ none
    → (if none then 1 + pages_for size else 3 + pages_for size) ≡ cost_of_request guard size
large_request guard size none beyond is = cc (lt-leb size 2048 beyond)

-- In an unguarded trace a request costs what an allocation does.
pub unguarded_cost : (guard size : ℕ) → guard ≡ 0 → cost_of_size size ≡ cost_of_request guard size
unguarded_cost guard size none = ap (λ g. cost_of_request g size) (sym none)

-- A guarded request costs two records more than its allocation.
pub guarded_cost : (guard size : ℕ) → 2048 < size → guard ≢ 0 → cost_of_size size + 2 ≡ cost_of_request guard size
guarded_cost guard size beyond some =
    omega (arith, large_cost size beyond, large_request guard size false beyond (ne_eqb guard 0 some))

two_least : (none : Bool) (n : ℕ) → 1 + n ≤ (if none then 1 + n else 3 + n)
two_least none n = search arith

-- no request costs less there than elsewhere
pub least_cost : (guard size : ℕ) → cost_of_size size ≤ cost_of_request guard size
least_cost guard size = search (arith, cases_lt, two_least, large_cost, large_request, small_cost, small_request)
