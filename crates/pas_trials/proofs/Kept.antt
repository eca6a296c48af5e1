-- Free grains, usable grains, and what is offered.
use Rattle.std.proofs.{Common.{arith, ◌≡◌, ℕ, ◌<◌, ◌≤◌, ◌⊎◌, Bool, true, false, true≢false, length, sym, ◌∙◌, inl, inr}, lemmas.Bool.cases_lt}
use Rattle.pas_bits.{specs.{Masks.{is_set, AreApart}, declared.mask.Mask4.Mask4}, proofs.Words.none_past}

module _ (free usable : Mask4) (is_free is_usable : ℕ → Bool) (Offered : Type 0) (frees : (g : ℕ) → g < 256 → is_set free g ≡ is_free g)
    (usables : (g : ℕ) → g < 256 → is_set usable g ≡ is_usable g) (four : length usable.0 ≡ 4) where
  -- where no usable grain is free nothing is asked
  pub kept_full : AreApart free usable → (g : ℕ) → g < 256 → is_usable g ≡ true → is_free g ≡ true → Offered
  kept_full apart g lt may there = absurd (true≢false (sym there ∙ sym (frees g lt) ∙ apart g (usables g lt ∙ may)))

  -- A grain that isn't free is read so.
  apart_at : (t : Bool) (g : ℕ) → is_set free g ≡ t → (is_set free g ≡ true → ⊥) → t ≡ false
  apart_at t g is isnt = grind arith

  -- A usable grain is below 256.
  within : (g : ℕ) → is_set usable g ≡ true → (g < 256) ⊎ (256 ≤ g) → g < 256
  within g set (inl lt) = lt
  within g set (inr past) = absurd (true≢false (sym set ∙ none_past usable g four past))

  -- where a page that isn't offered is kept, no usable grain is free
  pub full_kept : ((g : ℕ) → g < 256 → is_usable g ≡ true → is_free g ≡ true → Offered) → (Offered → ⊥) → AreApart free usable
  full_kept kept none g set =
      search (arith, within, cases_lt, apart_at)
