-- Kinds of steps of this crate, and what becomes of a run of grains.
use Rattle.std.specs.Prelude.{ℕ, ◌/◌, ◌≡◌, List, ◌∷◌}
use Rattle.pas_bits.specs.Runs.{in_run}
use Rattle.pas_steps.specs.{Calls.{Effect, freed}, Views.{View, epoch_of}, Kinds.{Kinds, LookDeed, Putting, Ending, Stamping, Offering, Parking, Unparking}}
use Rattle.pas_steps.specs.{Kinds.{Hinting, looking, returning, Only}, declared.step.Made.Made}
use Rattle.pas_free_log.specs.Stamps.{stamps_by, page_count, pages_met, stamps_with}

-- ---- kinds
abbrev pub putting_back : Kinds
putting_back = LookDeed ∷ Stamping ∷ Putting ∷ returning

abbrev pub ending : Kinds
ending = Ending ∷ putting_back

-- nothing is taken or given: no deed is made, no page backed, no grain taken, no block given and no page claimed
abbrev pub freeing : Kinds
freeing = Putting ∷ Ending ∷ Offering ∷ Parking ∷ Unparking ∷ Stamping ∷ Hinting ∷ looking

-- ---- a run that was put back
-- its grains are held no longer, and its pages are clear
abbrev pub run_freed : ℕ → ℕ → Effect
run_freed g n = freed (in_run g n) (in_run (g / 256) (page_count g n))

-- each of its pages is stamped once, with the epoch that the actor knows
pub record PutsBack (g n : ℕ) (steps : List Made) : Type 0 where
  pub kinds : Only putting_back steps
  pub stamps : (v : View) → stamps_by v steps ≡ stamps_with (epoch_of v) (pages_met g n)
