-- The runs of large blocks that ended.
use Rattle.std.specs.Prelude.{ℕ, ◌+◌, ◌/◌, ◌%◌, ◌≤◌, ◌==◌, Bool, ◌&&◌, if◌then◌else◌, List, [], Option, Some, None, All, option_to_list}
use Rattle.pas_profile.specs.{declared.{directory.{Directory.Directory, Kind.Kind}, event.Range.Range, name.Name.Name}, Blocks.address_of}
use Rattle.pas_free_log.specs.declared.{noting.EndedRun.EndedRun, ending.Outcome.{Outcome, TheVariants.{Ended, Refused}}}

-- some pages, which an index of pages takes
pub record IsRange (range : Range) : Type 0 where
  pub first : 1 ≤ range.first
  pub some : 1 ≤ range.pages
  pub last : range.first + range.pages ≤ 65536

-- the runs
abbrev pub AreRanges : List EndedRun → Type 0
AreRanges runs = All (λ run. IsRange run.range) runs

-- a block of so many grains begins with its page and ends with a page
abbrev pub is_whole : Name → ℕ → Bool
is_whole name grains = (address_of name % 4096 == 0) && (grains % 256 == 0)

-- its pages
abbrev pub range_of : Name → ℕ → Range
range_of name grains = record { first = address_of name / 4096; pages = grains / 256 }

-- with the heap, where they are of a kind for whole pages
abbrev pub run_of_kind : Kind → ℕ → Range → Option EndedRun
run_of_kind (Kind.Class class) heap range = None
run_of_kind Kind.Bitfit heap range = None
run_of_kind Kind.Shared heap range = None
run_of_kind Kind.Large heap range = Some (record { heap = heap; range = range })

abbrev pub run_in : Option Directory → Range → Option EndedRun
run_in None range = None
run_in (Some d) range = run_of_kind d.kind d.heap range

-- the heap and the pages of a block of so many grains, where it is large: its page is one of large blocks, and it takes whole pages
abbrev pub large_run : Name → ℕ → Option Directory → Option EndedRun
large_run name grains directory = if is_whole name grains then run_in directory (range_of name grains) else None

-- what is noted for a name whose end came to this: the run of a large block that ended, and nothing for another one
abbrev pub noted_by : Name → Option Directory → Outcome → List EndedRun
noted_by name directory (Ended grains) = option_to_list (large_run name grains directory)
noted_by name directory (Refused read) = []
