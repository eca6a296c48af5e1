-- Pages that are passed by: looks at their words are told to a desk that tells the whole state, and not made.
use Rattle.std.specs.Prelude.{ℕ, zero, suc, ◌+◌, ◌-◌, ◌/◌, ◌%◌, ◌<◌, ◌≤◌, ◌≡◌, ◌≢◌, Bool, false, List, [], ◌∷◌, length}
use Rattle.pas_bits.specs.Bits.{has_bit}
use Rattle.pas_profile.specs.{Directories.{deed_word_of, number_of}, declared.{directory.Directory.Directory, word.Word.Word}}
use Rattle.pas_steps.specs.{Told.TellsWord, Desks.{Standing, AnyView, Adds, made}, declared.step.{Made.Made, Step.TheVariants.Look}}
use Rattle.pas_scan.specs.Scan.{deed_looks}

-- ---- by their deed words alone
-- the desk tells the deed word of the page, and it isn't this one
abbrev pub KnowsOther : Bool → Standing → ℕ → ℕ → Type 0
KnowsOther tells desk deed page = (a : ℕ) × TellsWord tells desk (Word.Deed page) a × (a ≢ deed)

-- so it does of each page from this one on to below another, which lies at `end` at most
pub record KnowsOthers (tells : Bool) (desk : Standing) (deed from end page : ℕ) : Type 0 where
  pub from_there : from ≤ page
  pub within : page ≤ end
  pub others : (p : ℕ) → from ≤ p → p < page → KnowsOther tells desk deed p

-- none of these answers is this deed word
abbrev pub NoneIs : ℕ → List ℕ → Type 0
NoneIs deed [] = Unit {0}
NoneIs deed (a ∷ more) = (a ≢ deed) × NoneIs deed more

-- The deed words of the pages from this one on to below another were read, each once and the lowest first, and none is this one.
pub record PassesDeeds (deed from end : ℕ) (desk desk' : Standing) (page : ℕ) : Type 0 where
  pub steps : List Made
  pub adds : Adds desk desk' AnyView steps
  pub answers : List ℕ
  pub order : steps ≡ deed_looks from answers
  pub at : from + length answers ≡ page
  pub few : length answers ≤ end - from
  pub others : NoneIs deed answers

-- ---- as pages of a directory that aren't offered
-- the desk tells that each page from this one on to below another, which lies at `end` at most, has this deed word
pub record KnowsDeeds (tells : Bool) (desk : Standing) (deed from end page : ℕ) : Type 0 where
  pub from_there : from ≤ page
  pub within : page ≤ end
  pub of : (p : ℕ) → from ≤ p → p < page → TellsWord tells desk (Word.Deed p) deed

-- the desk tells that the page is of the directory, and isn't offered
pub record KnowsHeld (tells : Bool) (desk : Standing) (d : Directory) (page : ℕ) : Type 0 where
  pub offered : ℕ
  pub deed_told : TellsWord tells desk (Word.Deed page) (deed_word_of d)
  pub offered_told : TellsWord tells desk (Word.Eligible (number_of d) (page / 64)) offered
  pub not_offered : has_bit offered (page % 64) ≡ false

-- so it does of each page from this one on to below another, which lies at `end` at most
pub record KnowsHeldOnes (tells : Bool) (desk : Standing) (d : Directory) (from end page : ℕ) : Type 0 where
  pub from_there : from ≤ page
  pub within : page ≤ end
  pub held : (p : ℕ) → from ≤ p → p < page → KnowsHeld tells desk d p

-- Looks at the deed word and the eligible word of so many pages from this one on, the lowest first, with these answers. The newest look is the first one.
abbrev pub held_looks : Directory → (ℕ → ℕ) → (ℕ → ℕ) → ℕ → ℕ → List Made
held_looks d deeds offered from zero = []
held_looks d deeds offered from (suc n) =
    made (Look (Word.Eligible (number_of d) ((from + n) / 64))) (offered (from + n)) ∷ made (Look (Word.Deed (from + n))) (deeds (from + n))
    ∷ held_looks d deeds offered from n

-- The pages from this one on to below another were read as of the directory and not offered, each by two looks, the lowest first.
pub record PassesHeld (d : Directory) (from end : ℕ) (desk desk' : Standing) (page : ℕ) : Type 0 where
  pub deeds : ℕ → ℕ
  pub offered : ℕ → ℕ
  pub many : ℕ
  pub adds : Adds desk desk' AnyView (held_looks d deeds offered from many)
  pub at : from + many ≡ page
  pub few : many ≤ end - from
  pub of : (p : ℕ) → from ≤ p → p < page → deeds p ≡ deed_word_of d
  pub held : (p : ℕ) → from ≤ p → p < page → has_bit (offered p) (p % 64) ≡ false
