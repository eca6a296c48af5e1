-- The lowest place of a mask as the lowest run that fits.
use Rattle.std.proofs.Common.{ℕ, refl, arith, sym, ◌∙◌, true≢false}
use Rattle.pas_bits.specs.{Rows.IsEmpty, Masks.{is_set, IsPlace, IsLowestPlace}, declared.mask.Mask4.Mask4}
use Rattle.pas_search.specs.Placements.{IsPlaced}
use Rattle.pas_bitfit.specs.{Runs.{IsWanted, Fits, NoneFits, lowest_run, run_at}, declared.wanted.Wanted.Wanted}

module _ (wanted : Wanted) (free : Mask4) where
  -- a run that fits is a place of the mask
  pub place_of : (g : ℕ) → Fits wanted (is_set free) g → IsPlace free wanted.grains wanted.align 256 g
  place_of g fits = record { aligned = fits.aligned; within = fits.within; set = fits.free }

  -- The lowest place of a mask is the lowest run that fits.
  pub lowest_fits : (first : ℕ) → IsLowestPlace free wanted.grains wanted.align 256 first → IsPlaced (lowest_run wanted) (is_set free) (run_at wanted first)
  lowest_fits first lowest = record {
    found = first;
    chosen = record {
      this = record { aligned = lowest.place.aligned; within = lowest.place.within; free = lowest.place.set };
      lowest = λ h lt fits. lowest.lowest h lt (place_of h fits);
    };
    run_is = refl;
  }

  -- no grain is free
  pub empty_fits : IsWanted wanted → IsEmpty free.0 → NoneFits wanted (is_set free)
  empty_fits is empty g fits = true≢false (sym (fits.free g (omega arith) (omega (arith, is.grains.0))) ∙ empty g)
