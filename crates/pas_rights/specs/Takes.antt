-- Grains of one page that are taken.
use Rattle.std.specs.Prelude.{ℕ, ◌≡◌, ◌==◌, Bool, true, false, ◌&&◌, if◌then◌else◌, List, [], ◌∷◌}
use Rattle.pas_bits.specs.{declared.mask.Mask4.Mask4, Masks.is_set}
use Rattle.pas_steps.specs.{Calls.{Calls, Effect, Kept, Gained, Does}, Desks.{Standing, Adds, made}, Views.{View, holds, has_right}, declared.step.Made.Made}
use Rattle.pas_steps.specs.declared.step.Step.TheVariants.{Take}
use Rattle.pas_rights.specs.{Puts.masked, Words.{each_word, words}}

abbrev pub HasRight : ℕ → View → Type 0
HasRight page v = has_right v page ≡ true

-- one take of a free word's grains, or none where there are none
abbrev pub word_take : ℕ → ℕ → ℕ → ℕ → List Made
word_take page word mask answer = if mask == 0 then [] else made (Take page word mask) answer ∷ []

-- those of each free word below n of the page, with these masks and these answers
abbrev pub takes : ℕ → (ℕ → ℕ) → (ℕ → ℕ) → ℕ → List Made
takes page masks answers n = each_word (λ word. word_take page word (masks word) (answers word)) n

-- these grains are got
abbrev pub taken : (ℕ → Bool) → Effect
taken grains = record { grains = λ g. if grains g then Gained else Kept; rights = λ page. Kept; clears = λ page. Kept }

-- none of which was held
pub record GetsGrains (grains : ℕ → Bool) (v w : View) : Type 0 where
  pub does : Does (taken grains) v w
  pub apart : (g : ℕ) → grains g ≡ true → holds v g ≡ false

-- A take of each free word that has any grains of the mask. What is got are those of the mask that were read as free; none of it was held.
pub record TakesMask (page : ℕ) (mask : Mask4) (desk desk' : Standing) (got : Mask4) : Type 0 where
  pub answers : Mask4
  pub got_is : (g : ℕ) → is_set got g ≡ (is_set answers g && is_set mask g)
  pub calls : Calls desk desk' (HasRight page) (GetsGrains (masked page got)) (takes page (words mask) (words answers) 4)

-- ---- of private functions: the grains of one free word
abbrev pub TakesWord : ℕ → ℕ → ℕ → Standing → Standing → ℕ → Type 0
TakesWord page word mask desk desk' answer = Adds desk desk' (HasRight page) (word_take page word mask answer)
