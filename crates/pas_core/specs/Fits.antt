-- Pages that can serve a small request, in a state. What fits is the back end's matter: it says when nothing fits among a page's free grains.
use Rattle.std.specs.Prelude.{ℕ, ◌≡◌, true}
use Rattle.pas_profile.specs.{Directories.number_of, Profiles.IsPage, declared.{directory.Directory.Directory, profile.Profile.Profile, word.Word.Word}}
use Rattle.pas_steps.specs.{Evidence.Readings, Lists.{Whole, word_after}}
use Rattle.pas_core.specs.Rights.{eligible_bit, free_of_page}

-- the page is offered to the directory, and fits
pub record IsOfferedFit (no_fit : Readings → Type 0) (f : Profile) (d : Directory) (l : Whole) (page : ℕ) : Type 0 where
  pub of_region : IsPage f page
  pub offered : eligible_bit l (number_of d) page ≡ true
  pub fits : no_fit (free_of_page l page) → ⊥

-- the page has no deed
pub record IsBarePage (f : Profile) (l : Whole) (page : ℕ) : Type 0 where
  pub of_region : IsPage f page
  pub no_deed : word_after l (Word.Deed page) ≡ 0

-- no page can serve
pub record HasNoFit (no_fit : Readings → Type 0) (f : Profile) (d : Directory) (l : Whole) : Type 0 where
  pub offered : (page : ℕ) → IsOfferedFit no_fit f d l page → ⊥
  pub bare : (page : ℕ) → IsBarePage f l page → ⊥
