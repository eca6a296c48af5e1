-- What a keeper has in a storm, and the region of one.
use Rattle.std.specs.Prelude.{ℕ, ◌+◌, ◌*◌, ◌≤◌, ◌≡◌, List, [], length}
use Rattle.pas_profile.specs.declared.profile.Profile.{Profile}
use Rattle.pas_steps.specs.{Calls.{Calls, nothing, Does}, Desks.{Standing, AnyView}, Kinds.Only, Unknown.unknown_pages, Views.View, declared.step.Made.Made}
use Rattle.pas_records.specs.Rooms.{records_in, room_of, Records}
use Rattle.pas_guard.specs.{Books.{FitsBook, guards_in, size_of_book}, Seeks.backed_looks, declared.book.GuardBook.GuardBook}
use Rattle.pas_answers.specs.Keeping.{owed_by_keeper}
use Rattle.pas_plain.specs.{Plain.{profile_of, room_of_pass}, Storms.StormStands, declared.{pass.PlainPass.PlainPass, region.PlainRegion.PlainRegion}}

-- a region of so many pages, two actors and one heap
abbrev pub guarded_region : ℕ → Profile
guarded_region pages = record { pages = pages; threads = 2; age = 2; heaps = 1; shared = 0; classes = 16 }

-- nobody made a step there yet
pub record Begins (region : PlainRegion) (own foreign : PlainPass) (pages room : ℕ) : Type 0 where
  pub stands : StormStands region own foreign [] []
  pub profile : profile_of region ≡ guarded_region pages
  pub room_of : room_of_pass own ≡ room

-- the keeper fits its book, and there is place and room for the guarded requests of a page that it tries still: of so many, so many were tried
pub record MayKeep (f : Profile) (book : GuardBook) (out : Records) (tried rounds spare : ℕ) (v : View) : Type 0 where
  pub fits : FitsBook f (guards_in book) v
  pub places : 4 * rounds + owed_by_keeper f (guards_in book) v ≤ size_of_book book + 4 * tried
  pub room : 2 * rounds + unknown_pages f v ≤ spare + 2 * tried
  pub records : length (records_in out) + (4 * rounds + owed_by_keeper f (guards_in book) v) ≤ room_of out + 4 * tried

-- backed words were looked at
pub record Looked (desk desk' : Standing) : Type 0 where
  pub steps : List Made
  pub calls : Calls desk desk' AnyView (Does nothing) steps
  pub kinds : Only backed_looks steps
