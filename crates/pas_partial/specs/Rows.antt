-- Slots of a shared page that follow each other.
use Rattle.std.{specs.Prelude.{ℕ, ◌+◌, ◌*◌, ◌<◌, ◌≤◌, ◌≡◌, ◌↔◌, IsTrue, refl}, proofs.{Common.arith, Math.Nat.mul-le-mul_right}}
use Rattle.pas_profile.{specs.{Classes.{IsClass, class_grains, usable_grains, IsSlotStart}, declared.directory.Kind.Kind}, proofs.Sizes.class_grains_positive}
use Rattle.pas_profile.proofs.Sizes.{usable_grains_le, first_slot}
use Rattle.pas_bits.specs.{declared.mask.Mask4.Mask4, Masks.is_set, Runs.AreFree}
use Rattle.pas_steps.specs.Evidence.{Readings}
use Rattle.pas_search.specs.{Choices.Choice, Placements.{Placement, IsPlacement}, declared.placing.Run.Run}
use Rattle.pas_segregated.specs.Takes.{NoSlot, in_starts, fewer_slots}

-- s is one of the first n places from the first on, each so much after the one before it, and Good holds of all of them up to s
abbrev pub IsInRow : (ℕ → Type 0) → ℕ → ℕ → ℕ → ℕ → Type 0
IsInRow Good first step n s = (i : ℕ) × (i < n) × (s ≡ first + i * step) × ((j : ℕ) → j ≤ i → Good (first + j * step))

-- a slot of the class begins at this grain, and all its grains were read as free
abbrev pub IsFreeSlot : ℕ → Readings → ℕ → Type 0
IsFreeSlot class r s = IsSlotStart class s × AreFree r s (class_grains class)

-- the starts are those of the lowest slot that was read as free, and of the three after it that were read as free without a break
pub record IsLowestRow (class : ℕ) (r : Readings) (starts : Mask4) : Type 0 where
  pub first : ℕ
  pub free : IsFreeSlot class r first
  pub lowest : (s : ℕ) → s < first → IsFreeSlot class r s → ⊥
  pub are : (s : ℕ) → IsTrue (is_set starts s) ↔ IsInRow (IsFreeSlot class r) first (class_grains class) 4 s

-- of a shared page these slots are chosen, by their first grains
abbrev pub rows : ℕ → Choice Mask4
rows class = record {
  asked = IsClass class;
  kind = Kind.Shared;
  no_fit = NoSlot class;
  chosen = IsLowestRow class;
  kept = in_starts class;
}

-- The run is that of the lowest slot that was read as free, and of those after it that were read as free without a break, four slots at most.
pub record IsLowestRun (class : ℕ) (r : Readings) (run : Run) : Type 0 where
  pub slots : ℕ
  pub few : (1 ≤ slots) × (slots ≤ 4)
  pub grains : run.grains ≡ slots * class_grains class
  pub start : IsSlotStart class run.first
  pub within : run.first + run.grains ≤ usable_grains class
  pub free : AreFree r run.first run.grains
  pub lowest : (s : ℕ) → s < run.first → IsFreeSlot class r s → ⊥
  pub last : slots < 4 → IsFreeSlot class r (run.first + run.grains) → ⊥

abbrev pub lowest_rows : ℕ → Placement
lowest_rows class = record { asked = IsClass class; kind = Kind.Shared; no_fit = NoSlot class; Found = Run; chosen = IsLowestRun class; run = λ run. run }

pub are_lowest_rows : (class : ℕ) → IsPlacement (lowest_rows class)
are_lowest_rows class = record {
  empty = λ is none. none 0 (first_slot class is) (λ x low high. refl);
  fewer = fewer_slots class;
  is_fit = λ r run is row.
      let one : 1 * class_grains class ≤ row.slots * class_grains class = mul-le-mul_right (class_grains class) row.few.0 in record {
        some = omega (arith, one, class_grains_positive class is, row.grains);
        within = omega (arith, row.within, usable_grains_le class is);
        free = row.free;
        fits = λ none. none run.first row.start (λ x low high. row.free x low (omega (arith, high, one, row.grains)));
      };
}
