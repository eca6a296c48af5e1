-- What a search says of the states at its entry and its exit, on a desk that tells the whole state.
use Rattle.std.specs.Prelude.{ℕ, ◌<◌, ◌≤◌, ◌≡◌, ◌⊎◌, false, Result, MatchResult}
use Rattle.pas_profile.specs.{Profiles.IsPage, Directories.{deed_word_of, number_of}, declared.{directory.Directory.Directory, profile.Profile.Profile}}
use Rattle.pas_profile.specs.declared.{event.NoRoom.{NoRoom, TheVariants.{NoSpace, Held}}, word.Word.Word}
use Rattle.pas_steps.specs.{Lists.{Whole, word_after}, Evidence.Readings}
use Rattle.pas_core.specs.{Fits.{IsOfferedFit, IsBarePage, HasNoFit}, Rights.{eligible_bit, parked_bit}}

-- the lowest page that is offered and fits
pub record IsLowestOffered (no_fit : Readings → Type 0) (f : Profile) (d : Directory) (l : Whole) (page : ℕ) : Type 0 where
  pub this : IsOfferedFit no_fit f d l page
  pub lowest : (other : ℕ) → IsOfferedFit no_fit f d l other → page ≤ other

-- the lowest page without a deed, where no offered page fits
pub record IsLowestBare (no_fit : Readings → Type 0) (f : Profile) (d : Directory) (l : Whole) (page : ℕ) : Type 0 where
  pub this : IsBarePage f l page
  pub none_offered : (other : ℕ) → IsOfferedFit no_fit f d l other → ⊥
  pub lowest : (other : ℕ) → IsBarePage f l other → page ≤ other

-- the page is of the directory, and is neither offered nor parked
pub record IsInHands (f : Profile) (d : Directory) (l : Whole) (page : ℕ) : Type 0 where
  pub of_region : IsPage f page
  pub of_directory : word_after l (Word.Deed page) ≡ deed_word_of d
  pub not_offered : eligible_bit l (number_of d) page ≡ false
  pub not_parked : parked_bit l page ≡ false

-- `Held` has the lowest page that is in some actor's hands, and where there is none it is `NoSpace`
abbrev pub IsTrueReason : Profile → Directory → Whole → NoRoom → Type 0
IsTrueReason f d l NoSpace = (page : ℕ) → IsInHands f d l page → ⊥
IsTrueReason f d l (Held page) = IsInHands f d l page × ((other : ℕ) → other < page → IsInHands f d l other → ⊥)

-- The page of what was found is the lowest that was offered at entry and fits, or, where there was none, the lowest without a deed. Where the
-- request is refused, no page could serve at entry, nor can one at exit, and the reason is true at exit.
abbrev pub IsTold : {A : Type 0} → (A → ℕ) → (Readings → Type 0) → Profile → Directory → Whole → Whole → Result A NoRoom → Type 0
IsTold page_of no_fit f d entry exit answer = MatchResult answer
    (λ found. IsLowestOffered no_fit f d entry (page_of found) ⊎ IsLowestBare no_fit f d entry (page_of found))
    (λ room. HasNoFit no_fit f d entry × HasNoFit no_fit f d exit × IsTrueReason f d exit room)
