-- The shortest free run of a page that is long enough.
use Rattle.std.{specs.Prelude.{ℕ, ◌+◌, ◌<◌, ◌≤◌, ◌≡◌, ◌⊎◌, Option, MatchOption, refl}, proofs.Common.arith}
use Rattle.pas_bits.specs.{Runs.{AreFree, IsFreeRun}, declared.free_runs.FreeRun.FreeRun}
use Rattle.pas_search.specs.Placements.{Placement, IsPlacement, run_of}
use Rattle.pas_profile.specs.declared.directory.Kind.{Kind}
use Rattle.pas_steps.specs.Evidence.{Readings}
use Rattle.pas_bestfit.specs.declared.best.Best.{Best}

-- nowhere on the page are so many grains in a row free
abbrev pub HasNoRun : ℕ → Readings → Type 0
HasNoRun grains r = (g : ℕ) → g + grains ≤ 256 → AreFree r g grains → ⊥

-- the policy: a run of n grains serves better than one of m
abbrev pub IsBetter : ℕ → ℕ → Type 0
IsBetter n m = n < m

-- a run of m grains from h serves no better than one of n from g: not as well, or as well and it doesn't begin below it
abbrev pub IsNoBetter : ℕ → ℕ → ℕ → ℕ → Type 0
IsNoBetter g n h m = IsBetter n m ⊎ ((n ≡ m) × (g ≤ h))

-- a free run begins there that is long enough, and no other one that is long enough is better
pub record IsBestFit (grains : ℕ) (r : Readings) (g : ℕ) : Type 0 where
  pub length : ℕ
  pub run : IsFreeRun r g length
  pub enough : grains ≤ length
  pub best : (h m : ℕ) → IsFreeRun r h m → grains ≤ m → IsNoBetter g length h m

-- the run is long enough, and better than the best one before it, if there is one
abbrev pub IsPreferred : FreeRun → ℕ → Option FreeRun → Type 0
IsPreferred run grains best = (grains ≤ run.length) × MatchOption best (Unit {0}) (λ b. IsBetter run.length b.length)

-- of a bit-fit page the first n grains of the best run are chosen, which is told by where it begins
abbrev pub best_fit : Best → Placement
best_fit best = let n = best.grains in
    record { asked = (1 ≤ n) × (n ≤ 256); kind = Kind.Bitfit; no_fit = HasNoRun n; Found = ℕ; chosen = IsBestFit n; run = run_of n }

pub is_best_fit : (best : Best) → IsPlacement (best_fit best)
is_best_fit best = record {
  empty = λ asked none. none 0 (omega (arith, asked.1)) (λ x low high. refl);
  fewer = λ r fewer less none g within free. none g within (λ x low high. less x (omega (arith, within, high)) (free x low high));
  is_fit = λ r g asked fit. let most = fit.run.within in let enough = fit.enough in
      let within : g + best.grains ≤ 256 = omega (arith, most, enough) in
      let free : AreFree r g best.grains = λ x low high. fit.run.free x low (omega (arith, high, enough)) in
      record { some = asked.0; within = within; free = free; fits = λ none. none g within free };
}
