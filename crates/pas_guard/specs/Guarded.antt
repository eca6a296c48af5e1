-- Pages that one actor holds whole, from one place of a legal list to a later one.
use Rattle.std.specs.Prelude.{ℕ, ◌/◌, ◌≡◌, ◌==◌, true, [], ◌∷◌}
use Rattle.pas_profile.specs.{Directories.deed_word_of, Blocks.{grain_of, length_of}, declared.{directory.Directory.Directory, name.Block.Block}}
use Rattle.pas_profile.specs.declared.word.Word.{Word}
use Rattle.pas_bits.specs.Runs.{in_run}
use Rattle.pas_steps.specs.{Lists.{Whole, part, word_after}, Views.{Stays, grain_move, holds}, declared.step.{Made.Made, Step.{Step, TheVariants.{Back, Give}}}}

-- after the list the actor holds all grains of the page, which is of the directory and isn't backed
pub record StandsGuard (l : Whole) (keeper page : ℕ) (d : Directory) : Type 0 where
  pub held : (g : ℕ) → g / 256 ≡ page → holds (part keeper l) g ≡ true
  pub deed : word_after l (Word.Deed page) ≡ deed_word_of d
  pub bare : word_after l (Word.Backed page) ≡ 0

-- ---- what the keeper doesn't do to it
-- the step moves no grain of the page, and doesn't back it
pub record LeavesGuard (page : ℕ) (m : Made) : Type 0 where
  pub stays : (g : ℕ) → g / 256 ≡ page → grain_move m.step m.answer g ≡ Stays
  pub unbacked : m.step ≡ Back page → ⊥

-- each step of the keeper in this list is such a step
abbrev pub KeepsGuard : ℕ → ℕ → Whole → Type 0
KeepsGuard keeper page [] = Unit {0}
KeepsGuard keeper page (t ∷ l) = ((t.actor == keeper) ≡ true → LeavesGuard page t.made) × KeepsGuard keeper page l

-- ---- what nobody does to it
-- the step gives a block with a grain of the page
abbrev pub GivesOn : ℕ → Step → Type 0
GivesOn page s = (b : Block) × (s ≡ Give b) × ((g : ℕ) × (g / 256 ≡ page) × (in_run (grain_of b.name) (length_of b) g ≡ true))

pub record IsUntouched (page : ℕ) (s : Step) : Type 0 where
  pub unbacked : s ≡ Back page → ⊥
  pub ungiven : GivesOn page s → ⊥

abbrev pub AreUntouched : ℕ → Whole → Type 0
AreUntouched page [] = Unit {0}
AreUntouched page (t ∷ l) = IsUntouched page t.made.step × AreUntouched page l
