-- Runs of numbers: of the bits of a mask, or of the grains of a region, of which a page has 256.
use Rattle.std.specs.Prelude.{ℕ, ◌+◌, ◌*◌, ◌<◌, ◌≤◌, ◌≡◌, nat_le, nat_lt, Bool, true, false, ◌&&◌}
use Rattle.pas_bits.specs.declared.free_runs.FreeRun.{FreeRun}

-- the run of n grains from g has the grain x
abbrev pub in_run : ℕ → ℕ → ℕ → Bool
in_run g n x = nat_le g x && nat_lt x (g + n)

-- the run of n grains from g has a grain of the page
abbrev pub meets_page : ℕ → ℕ → ℕ → Bool
meets_page g n page = nat_lt g (256 * page + 256) && nat_lt (256 * page) (g + n)

-- all n grains from g on pass the test: their bits are set, or they were read as free
abbrev pub AreFree : (ℕ → Bool) → ℕ → ℕ → Type 0
AreFree is_free g n = (x : ℕ) → g ≤ x → x < g + n → is_free x ≡ true

-- the n grains from g on are a free run of a page, and part of no longer one
pub record IsFreeRun (is_free : ℕ → Bool) (g n : ℕ) : Type 0 where
  pub some : 1 ≤ n
  pub within : g + n ≤ 256
  pub free : AreFree is_free g n
  pub before : (x : ℕ) → x + 1 ≡ g → is_free x ≡ false
  pub after : g + n < 256 → is_free (g + n) ≡ false

-- of the free runs that begin from there on, this is the lowest
pub record IsNextRun (is_free : ℕ → Bool) (from : ℕ) (run : FreeRun) : Type 0 where
  pub above : from ≤ run.first
  pub is_run : IsFreeRun is_free run.first run.length
  pub lowest : (g n : ℕ) → from ≤ g → g < run.first → IsFreeRun is_free g n → ⊥

-- no free run begins from there on
abbrev pub HasNoRunFrom : (ℕ → Bool) → ℕ → Type 0
HasNoRunFrom is_free from = (g n : ℕ) → from ≤ g → IsFreeRun is_free g n → ⊥
