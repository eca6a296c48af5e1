-- Membership in a run, and the pages of a run of grains.
use Rattle.std.proofs.{Common.{◌≡◌, ℕ, ◌+◌, ◌*◌, ◌/◌, ◌<◌, ◌≤◌, true, false, arith, inl, inr}, lemmas.Bool.{cases_lt, Decides.nat_tests}}
use Rattle.pas_bits.specs.Runs.{in_run, meets_page}

-- A grain of a run is at least its first and below its end.
pub run_of : (g n x : ℕ) → in_run g n x ≡ true → (g ≤ x) × (x < g + n)
run_of g n x h = (grind (arith, nat_tests, h), grind (arith, nat_tests, h))

-- A grain from a run's first to below its end is in it.
pub to_run : (g n x : ℕ) → g ≤ x → x < g + n → in_run g n x ≡ true
to_run g n x a b = grind (arith, nat_tests, a, b)

-- A grain below a run's first isn't in it.
pub run_below : (g n x : ℕ) → x < g → in_run g n x ≡ false
run_below g n x a = grind (arith, nat_tests, a)

-- A grain from a run's end on isn't in it.
pub run_above : (g n x : ℕ) → g + n ≤ x → in_run g n x ≡ false
run_above g n x a = grind (arith, nat_tests, a)

-- a run with a grain has its first one
pub first_of_run : (g n : ℕ) → 0 < n → in_run g n g ≡ true
first_of_run g n some = to_run g n g (omega arith) (omega (arith, some))

-- a run and a page that it meets
pub to_meet : (g n page : ℕ) → g < 256 * page + 256 → 256 * page < g + n → meets_page g n page ≡ true
to_meet g n page low high = grind (arith, nat_tests, low, high)

-- A run that meets a page begins before the page's end and ends behind its beginning.
pub met_by : (g n page : ℕ) → meets_page g n page ≡ true → (g < 256 * page + 256) × (256 * page < g + n)
met_by g n page h = (grind (arith, nat_tests, h), grind (arith, nat_tests, h))

-- a run meets the page of each of its grains
pub run_meets : (g n x : ℕ) → in_run g n x ≡ true → meets_page g n (x / 256) ≡ true
run_meets g n x h = let at = run_of g n x h in to_meet g n (x / 256) (omega (arith, at.0)) (omega (arith, at.1))

-- a grain that the run has on the page that it meets
pub record IsMet (g n page : ℕ) : Type 0 where
  pub grain : ℕ
  pub of_run : in_run g n grain ≡ true
  pub of_page : grain / 256 ≡ page

-- A run of some grains that meets a page has a grain on it.
pub met : (g n page : ℕ) → 0 < n → meets_page g n page ≡ true → IsMet g n page
met g n page some h = let at = met_by g n page h in let low = at.0 in let high = at.1 in elim (cases_lt (256 * page) g) [
  | inl gt ↦ record { grain = g; of_run = first_of_run g n some; of_page = omega (arith, gt, low) }
  | inr le ↦ record { grain = 256 * page; of_run = to_run g n (256 * page) le high; of_page = omega arith }
]
