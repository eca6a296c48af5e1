-- Runs of free grains of a page.
use Rattle.std.{specs.Prelude.{ℕ, ◌+◌, ◌%◌, ◌<◌, ◌≤◌, ◌≡◌, refl}, proofs.Common.arith}
use Rattle.pas_bits.specs.Runs.{AreFree}
use Rattle.pas_profile.specs.declared.directory.Kind.{Kind}
use Rattle.pas_steps.specs.Evidence.{Readings, IsAntitone}
use Rattle.pas_search.specs.{Choices.Choice, Placements.{Placement, IsPlacement, placed, run_of}, declared.placing.Run.Run}
use Rattle.pas_bitfit.specs.declared.wanted.Wanted.{Wanted}

pub record IsWanted (wanted : Wanted) : Type 0 where
  pub grains : (1 ≤ wanted.grains) × (wanted.grains ≤ 256)
  pub align : (1 ≤ wanted.align) × (wanted.align ≤ 256)

-- a run that is wanted begins at this grain: it is aligned, and its grains exist and were read as free
pub record Fits (wanted : Wanted) (r : Readings) (g : ℕ) : Type 0 where
  pub aligned : g % wanted.align ≡ 0
  pub within : g + wanted.grains ≤ 256
  pub free : AreFree r g wanted.grains

abbrev pub NoneFits : Wanted → Readings → Type 0
NoneFits wanted r = (g : ℕ) → Fits wanted r g → ⊥

-- none begins at a lower grain
pub record IsLowestFit (wanted : Wanted) (r : Readings) (g : ℕ) : Type 0 where
  pub this : Fits wanted r g
  pub lowest : (h : ℕ) → h < g → Fits wanted r h → ⊥

-- fewer free grains show no run where more of them show none
pub fewer_runs : (wanted : Wanted) → IsAntitone (NoneFits wanted)
fewer_runs wanted r fewer less none g fits = none g record {
  aligned = fits.aligned;
  within = fits.within;
  free = λ x low high. less x (omega (arith, high, fits.within)) (fits.free x low high);
}

-- of a bit-fit page just the lowest run that fits is chosen, by its first grain
abbrev pub lowest_run : Wanted → Placement
lowest_run wanted =
    record { asked = IsWanted wanted; kind = Kind.Bitfit; no_fit = NoneFits wanted; Found = ℕ; chosen = IsLowestFit wanted; run = run_of wanted.grains }

pub is_lowest_run : (wanted : Wanted) → IsPlacement (lowest_run wanted)
is_lowest_run wanted = record {
  empty = λ is none. none 0 (record { aligned = grind arith; within = omega (arith, is.grains.1); free = λ x low high. refl });
  fewer = fewer_runs wanted;
  is_fit = λ r first is fit. record { some = is.grains.0; within = fit.this.within; free = fit.this.free; fits = λ none. none first fit.this };
}

abbrev pub runs : Wanted → Choice ℕ
runs wanted = placed (lowest_run wanted)

-- the run from this grain on
abbrev pub run_at : Wanted → ℕ → Run
run_at wanted = (lowest_run wanted).run
