-- Where the right of each page is.
use Rattle.std.specs.Prelude.{ℕ, ◌+◌, ◌*◌, ◌/◌, ◌%◌, ◌<◌, ◌≤◌, ◌≡◌, ◌≢◌, ◌==◌, ◌⊎◌, Bool, true, false}
use Rattle.pas_bits.specs.Bits.{has_bit}
use Rattle.pas_profile.specs.{Directories.{number_of, deed_word_of, directory_read}, Profiles.IsDirectoryOf, declared.profile.Profile.Profile}
use Rattle.pas_profile.specs.declared.{directory.Directory.Directory, word.Word.Word}
use Rattle.pas_steps.specs.{Views.{has_right, usable_by, owes_check}, Lists.{Whole, part, word_after}, Clear.IsClear, Effects.free_word_at, Evidence.Readings}

-- the bit of the page in the parked vector, in the empty vector, and in the eligible vector of the directory of this number
abbrev pub parked_bit : Whole → ℕ → Bool
parked_bit l page = has_bit (word_after l (Word.Parked (page / 64))) (page % 64)

abbrev pub empty_bit : Whole → ℕ → Bool
empty_bit l page = has_bit (word_after l (Word.Empty (page / 64))) (page % 64)

abbrev pub eligible_bit : Whole → ℕ → ℕ → Bool
eligible_bit l number page = has_bit (word_after l (Word.Eligible number (page / 64))) (page % 64)

-- which grains of the page are free
abbrev pub free_of_page : Whole → ℕ → Readings
free_of_page l page b = has_bit (word_after l (free_word_at (page * 256 + b))) (b % 64)

-- a page without a deed has no right: nobody has it, and none of its bits is set
pub record HasNoRight (l : Whole) (page : ℕ) : Type 0 where
  pub no_deed : word_after l (Word.Deed page) ≡ 0
  pub nobody : (k : ℕ) → has_right (part k l) page ≡ false
  pub not_offered : (number : ℕ) → eligible_bit l number page ≡ false
  pub not_parked : parked_bit l page ≡ false

-- one actor has the right and no other does, and none of the page's bits is set
pub record IsRightOfOne (l : Whole) (page : ℕ) : Type 0 where
  pub a_deed : word_after l (Word.Deed page) ≢ 0
  pub actor : ℕ
  pub holder : (k : ℕ) → has_right (part k l) page ≡ (actor == k)
  pub not_offered : (number : ℕ) → eligible_bit l number page ≡ false
  pub not_parked : parked_bit l page ≡ false

-- the right is offered: the page's bit is set in the eligible vector of its directory and in no other, and nobody has the right
pub record IsRightOffered (f : Profile) (l : Whole) (page : ℕ) : Type 0 where
  pub directory : Directory
  pub of_profile : IsDirectoryOf f directory
  pub deed : word_after l (Word.Deed page) ≡ deed_word_of directory
  pub nobody : (k : ℕ) → has_right (part k l) page ≡ false
  pub offered : (number : ℕ) → eligible_bit l number page ≡ (number_of directory == number)
  pub not_parked : parked_bit l page ≡ false

-- the right is parked: of the page's bits only the parked one is set, and nobody has the right
pub record IsRightParked (l : Whole) (page : ℕ) : Type 0 where
  pub a_deed : word_after l (Word.Deed page) ≢ 0
  pub nobody : (k : ℕ) → has_right (part k l) page ≡ false
  pub not_offered : (number : ℕ) → eligible_bit l number page ≡ false
  pub parked : parked_bit l page ≡ true

-- the right of the page is in exactly one place, if the page has a deed
abbrev pub IsRightInOnePlace : Profile → Whole → ℕ → Type 0
IsRightInOnePlace f l page = HasNoRight l page ⊎ IsRightOfOne l page ⊎ IsRightOffered f l page ⊎ IsRightParked l page

-- ---- parked pages with free grains
-- this bit of the free word of the page is set, and is that of a grain which blocks of the page's directory may cover
pub record IsUsableFree (l : Whole) (page word bit : ℕ) : Type 0 where
  pub small : bit < 64
  pub free : has_bit (word_after l (Word.Free page word)) bit ≡ true
  pub usable : usable_by (directory_read (word_after l (Word.Deed page))) (64 * word + bit) ≡ true

-- some actor owes a look at the free word of the page
pub record IsOwed (l : Whole) (page word : ℕ) : Type 0 where
  pub actor : ℕ
  pub owes : owes_check (part actor l) page word ≡ true

-- no actor has the right of the page
abbrev pub NobodyHasRight : Whole → ℕ → Type 0
NobodyHasRight l page = (k : ℕ) → has_right (part k l) page ≡ false

-- no actor owes a look at the free word of the page
abbrev pub NobodyOwes : Whole → ℕ → ℕ → Type 0
NobodyOwes l page word = (k : ℕ) → owes_check (part k l) page word ≡ false

-- each actor of the profile is clear: nothing is unstamped for it, and it owes nothing
abbrev pub AllClear : Profile → Whole → Type 0
AllClear f l = (k : ℕ) → k ≤ f.threads → IsClear (part k l)

-- all actors are at rest, and none has a right: nothing is owed, and the right of each page with a deed is offered or parked
pub record AllRest (f : Profile) (l : Whole) : Type 0 where
  pub clear : AllClear f l
  pub rights : (page : ℕ) → NobodyHasRight l page
