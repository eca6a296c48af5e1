-- Empty pages that are backed, and who thinks of them.
use Rattle.std.specs.Prelude.{ℕ, ◌/◌, ◌%◌, ◌≡◌, ◌⊎◌, true}
use Rattle.pas_bits.specs.Bits.{has_bit}
use Rattle.pas_profile.specs.declared.word.Word.{Word}
use Rattle.pas_steps.specs.{Effects.free_word_at, Views.{owes_hint, examines}, Lists.{Whole, part, word_after}}
use Rattle.pas_core.specs.Rights.{empty_bit}

-- the page is backed, and each of its 256 grains is free
pub record IsEmptyBacked (l : Whole) (page : ℕ) : Type 0 where
  pub backed : word_after l (Word.Backed page) ≡ 1
  pub free : (g : ℕ) → g / 256 ≡ page → has_bit (word_after l (free_word_at g)) (g % 64) ≡ true

-- some actor owes the page's hint
pub record IsHintOwed (l : Whole) (page : ℕ) : Type 0 where
  pub actor : ℕ
  pub owes : owes_hint (part actor l) page ≡ true

-- some actor examines the page
pub record IsExamined (l : Whole) (page : ℕ) : Type 0 where
  pub actor : ℕ
  pub examines_it : examines (part actor l) page ≡ true

-- the page isn't forgotten: its empty bit is set, or some actor owes its hint, or some actor examines it
abbrev pub IsMinded : Whole → ℕ → Type 0
IsMinded l page = (empty_bit l page ≡ true) ⊎ IsHintOwed l page ⊎ IsExamined l page
