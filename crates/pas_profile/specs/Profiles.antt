-- The profile's limits, and which requests, pages, directories and words are of a profile.
use Rattle.std.specs.Prelude.{ℕ, ◌+◌, ◌*◌, ◌/◌, ◌<◌, ◌≤◌, ◌==◌, nat_le, ◌&&◌, ◌||◌, IsTrue}
use Rattle.pas_profile.specs.{declared.{profile.Profile.Profile, directory.Directory.Directory, word.Word.Word}, Classes.IsAlignment, Directories.IsKind}
use Rattle.pas_profile.specs.Directories.{IsKindAmong}

-- a region of so many pages may have so many classes: twenty, or sixteen where it has at most 4,096 pages
abbrev pub AreClassesFor : ℕ → ℕ → Type 0
AreClassesFor pages classes = IsTrue ((classes == 20) || ((classes == 16) && nat_le pages 4096))

pub record IsValid (f : Profile) : Type 0 where
  pub some_page : 1 ≤ f.pages
  pub pages : f.pages ≤ 16384
  pub classes : AreClassesFor f.pages f.classes
  pub some_thread : 1 ≤ f.threads
  pub threads : f.threads ≤ 16
  pub some_age : 1 ≤ f.age
  pub age : f.age ≤ 1000000
  pub some_heap : 1 ≤ f.heaps
  pub heaps : f.heaps ≤ 32

-- a request that the region may serve
pub record IsAdmitted (f : Profile) (size align heap : ℕ) : Type 0 where
  pub within : size ≤ f.pages * 4096
  pub aligned : IsAlignment align
  pub of_profile : heap < f.heaps

abbrev pub IsPage : Profile → ℕ → Type 0
IsPage f page = (1 ≤ page) × (page ≤ f.pages)

-- the directory is of the profile: of one of its heaps, and where it is of a class, of one of its classes
pub record IsDirectoryOf (f : Profile) (d : Directory) : Type 0 where
  pub heap : d.heap < f.heaps
  pub kind : IsKind d.kind
  pub class : IsKindAmong f.classes d.kind

-- words of a page vector: one bit a page, from bit 0, which is of no page, on
abbrev pub vector_words : ℕ → ℕ
vector_words pages = pages / 64 + 1

-- the word is of a region of so many pages and heaps
abbrev pub IsWordIn : ℕ → ℕ → Word → Type 0
IsWordIn pages heaps Word.Epoch = Unit {0}
IsWordIn pages heaps (Word.Free page word) = (1 ≤ page) × (page ≤ pages) × (word < 4)
IsWordIn pages heaps (Word.Life page grain) = (1 ≤ page) × (page ≤ pages) × (grain < 256)
IsWordIn pages heaps (Word.Deed page) = (1 ≤ page) × (page ≤ pages)
IsWordIn pages heaps (Word.Backed page) = (1 ≤ page) × (page ≤ pages)
IsWordIn pages heaps (Word.Stamp page) = (1 ≤ page) × (page ≤ pages)
IsWordIn pages heaps (Word.Parked j) = j < vector_words pages
IsWordIn pages heaps (Word.Empty j) = j < vector_words pages
IsWordIn pages heaps (Word.Eligible d j) = (d < 23 * heaps) × (j < vector_words pages)

-- the word is of the profile
abbrev pub IsWordOf : Profile → Word → Type 0
IsWordOf f word = IsWordIn f.pages f.heaps word
