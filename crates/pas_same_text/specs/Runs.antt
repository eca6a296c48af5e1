-- REQUESTS THAT NO CLASS SERVES: a run of grains on a bit-fit page, or a run of whole pages. No cache holds anything of them.
use Rattle.std.specs.{Prelude.{ℕ, ◌+◌, ◌*◌, ◌/◌, nat_le, Bool, ◌&&◌, ◌||◌, if◌then◌else◌, List, [], ◌∷◌, take, Option, None, Some, Result, Ok, Err}, List.find}
use Rattle.std.specs.List.{filter}
use Rattle.pas_profile.specs.declared.{directory.{Directory.Directory, Kind.Kind}, event.NoRoom.NoRoom, profile.Profile.Profile}
use Rattle.pas_trace.specs.Acts.{numbers_from}
use Rattle.pas_same_text.specs.{State.{World, each}, Indexes.{named_first, loses_named}, Classes.spaced, Pages.{page_numbers, each_of, are_free, is_empty}}
use Rattle.pas_same_text.specs.{Pages.{is_unowned, is_offered}, Searches.{refusal, searched, deeds, backs, readies, address_on, gives, refuses}}

-- ---- a run of grains on one page
-- the directory of the pages of a heap that are split bit by bit
abbrev pub bitfit_of : ℕ → Directory
bitfit_of heap = record { heap = heap; kind = Kind.Bitfit }

-- where the lowest run of n free grains begins, at a multiple of an alignment in grains: nothing where there is none on the page
abbrev pub lowest_place : World → ℕ → ℕ → ℕ → List ℕ
lowest_place w n align page = take 1 (filter (λ s. nat_le (s + n) 256 && are_free w page s n) (spaced 0 align (256 / align)))

-- a block of so many bytes is given there
abbrev pub gives_place : ℕ → ℕ → ℕ → ℕ → ℕ → List ℕ → World → World
gives_place k name heap room page [] w = w
gives_place k name heap room page (s ∷ more) w = gives k name heap (address_on page s) room w

-- .. on the page that was found, or the request is refused
abbrev pub places : ℕ → ℕ → ℕ → ℕ → ℕ → Result ℕ NoRoom → World → World
places k name heap room align (Ok page) w = gives_place k name heap room page (lowest_place w (room / 16) (align / 16) page) (readies k (bitfit_of heap) page w)
places k name heap room align (Err why) w = refuses k name why w

-- A BIT-FIT REQUEST: the lowest place of the page that is searched for
abbrev pub serves_bitfit : Profile → ℕ → ℕ → ℕ → ℕ → ℕ → World → World
serves_bitfit f k name heap room align w = places k name heap room align (searched f w (bitfit_of heap) (lowest_place w (room / 16) (align / 16))) w

-- ---- whole pages
-- the directory of the pages of a heap for blocks of whole pages
abbrev pub large_of : ℕ → Directory
large_of heap = record { heap = heap; kind = Kind.Large }

-- the heap offers the page for large blocks, and it is empty
abbrev pub is_whole : World → ℕ → ℕ → Bool
is_whole w heap page = is_offered w (large_of heap) page && is_empty w page

-- the page may be one of a run: nobody has it, or it is whole
abbrev pub is_usable : World → ℕ → ℕ → Bool
is_usable w heap page = is_unowned w page || is_whole w heap page

-- the run that the heap's index names, where its n pages are all whole
abbrev pub if_whole : World → ℕ → ℕ → Option ℕ → Option ℕ
if_whole w heap n None = None
if_whole w heap n (Some first) = if each_of first n (is_whole w heap) then Some first else None

abbrev pub named_run : World → ℕ → ℕ → Option ℕ
named_run w heap n = if_whole w heap n (named_first w heap n)

-- the n pages from this one on are of the region, and usable
abbrev pub is_run : Profile → World → ℕ → ℕ → ℕ → Bool
is_run f w heap n p = nat_le (p + n) (f.pages + 1) && each_of p n (is_usable w heap)

-- the first page of the lowest run of n usable pages
abbrev pub lowest_run : Profile → World → ℕ → ℕ → Option ℕ
lowest_run f w heap n = find (is_run f w heap n) (page_numbers f)

-- these n pages get deeds, where they have none, the lowest first
abbrev pub deeds_run : ℕ → ℕ → ℕ → ℕ → World → World
deeds_run k heap first n w = each (deeds k (large_of heap)) (numbers_from first n) w

-- a block of n pages with deeds: they get memory, where they have none, the lowest first, and it is given
abbrev pub gives_run : ℕ → ℕ → ℕ → ℕ → ℕ → World → World
gives_run k name heap first n w = gives k name heap (address_on first 0) (4096 * n) (each (backs k) (numbers_from first n) w)

-- a block of these n pages. All deeds come before the first back
abbrev pub gives_pages : ℕ → ℕ → ℕ → ℕ → ℕ → World → World
gives_pages k name heap first n w = gives_run k name heap first n (deeds_run k heap first n w)

-- .. or the request is refused, and no page gets a deed
abbrev pub serves_run : Profile → ℕ → ℕ → ℕ → ℕ → Option ℕ → World → World
serves_run f k name heap n (Some first) w = gives_pages k name heap first n w
serves_run f k name heap n None w = refuses k name (refusal f w (large_of heap)) w

-- a run, else another one
abbrev pub run_or : Option ℕ → Option ℕ → Option ℕ
run_or (Some first) other = Some first
run_or None other = other

-- A REQUEST FOR n WHOLE PAGES: the run that the index names, or else the lowest one. The index loses what it named
abbrev pub serves_pages : Profile → ℕ → ℕ → ℕ → ℕ → World → World
serves_pages f k name heap n w = serves_run f k name heap n (run_or (named_run w heap n) (lowest_run f w heap n)) (loses_named heap n w)
