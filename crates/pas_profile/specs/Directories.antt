-- Directories, their numbers, and the deed words that record them.
use Rattle.std.specs.Prelude.{ℕ, ◌+◌, ◌-◌, ◌*◌, ◌/◌, ◌%◌, ◌<◌, ◌==◌, nat_lt, if◌then◌else◌, Option, None, Some}
use Rattle.pas_profile.specs.{Classes.IsClass, declared.directory.{Directory.Directory, Kind.{Kind, TheVariants.{Class, Bitfit, Shared, Large}}}}

-- a class number names a class
abbrev pub IsKind : Kind → Type 0
IsKind (Class class) = IsClass class
IsKind Bitfit = Unit {0}
IsKind Shared = Unit {0}
IsKind Large = Unit {0}

-- a class number names one of the first so many classes
abbrev pub IsKindAmong : ℕ → Kind → Type 0
IsKindAmong classes (Class class) = class < classes
IsKindAmong classes Bitfit = Unit {0}
IsKindAmong classes Shared = Unit {0}
IsKindAmong classes Large = Unit {0}

abbrev pub kind_number : Kind → ℕ
kind_number (Class class) = class
kind_number Bitfit = 20
kind_number Shared = 21
kind_number Large = 22

-- the directory is one that some region has
pub record IsDirectory (d : Directory) : Type 0 where
  pub heap : d.heap < 32
  pub kind : IsKind d.kind

abbrev pub number_of : Directory → ℕ
number_of d = d.heap * 23 + kind_number d.kind

-- the word that records the directory as a page's deed
abbrev pub deed_word_of : Directory → ℕ
deed_word_of d = 65536 + d.heap * 256 + kind_number d.kind

-- the deed word of the directory of this number
abbrev pub deed_word_numbered : ℕ → ℕ
deed_word_numbered n = 65536 + n / 23 * 256 + n % 23

-- the kind of this number: 0 to 19 are the classes, and those from 23 on are none
abbrev pub kind_of : ℕ → Option Kind
kind_of n = if nat_lt n 20 then Some (Class n) else (if n == 20 then Some Bitfit else (if n == 21 then Some Shared else (if n == 22 then Some Large else None)))

abbrev pub with_kind : ℕ → Option Kind → Option Directory
with_kind heap None = None
with_kind heap (Some kind) = Some record { heap = heap; kind = kind }

-- the directory that a word records; None for 0 and for each word that is no deed word
abbrev pub directory_read : ℕ → Option Directory
directory_read word = if nat_lt word 65536 then None else (if nat_lt word 73728 then with_kind ((word - 65536) / 256) (kind_of (word % 256)) else None)
