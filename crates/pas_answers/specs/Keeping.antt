-- What the calls of a keeper do for a replay.
use Rattle.std.specs.Prelude.{ℕ, ◌+◌, ◌≤◌, ◌<◌, ◌≡◌, List, [], ◌++◌, length, Option, None, Some}
use Rattle.pas_profile.specs.declared.{name.Block.Block, profile.Profile.Profile, guard.Guard.Guard}
use Rattle.pas_steps.specs.{Agreement.Agreed, Calls.Calls, Desks.Standing, Events.events_by, Lists.Whole, Unknown.unknown_pages, Views.View}
use Rattle.pas_steps.specs.declared.step.Made.{Made}
use Rattle.pas_trace.specs.{Reasons.cost_of_size, declared.item.Request.Request}
use Rattle.pas_guard.specs.{Books.{FitsBook, size_of_book, guards_in}, declared.book.GuardBook.GuardBook}
use Rattle.pas_answers.specs.Guarding.{try_steps, IsTried, IsLowered}
use Rattle.pas_records.specs.{Rooms.{records_in, room_of, Records}, declared.record.Record.Record}

-- ---- what is owed in the end: a keeper may still make a deed of each page that it doesn't know, and says of each guard that it is lowered
abbrev pub owed_by_keeper : Profile → List Guard → View → ℕ
owed_by_keeper f guards v = unknown_pages f v + length guards

-- The keeper fits its book, which has room for a guard more. There is room for the events of a request of so many bytes, and for the deeds that aren't known; and for
-- what is said: the same, that the guard goes up, and that it and those that are up are lowered in the end.
pub record MayTry (f : Profile) (book : GuardBook) (size spare : ℕ) (out : Records) (v : View) : Type 0 where
  pub fits : FitsBook f (guards_in book) v
  pub place : length (guards_in book) < size_of_book book
  pub room : cost_of_size size + unknown_pages f v ≤ spare
  pub records : length (records_in out) + (cost_of_size size + 2 + owed_by_keeper f (guards_in book) v) ≤ room_of out

-- what a request of so many bytes pays for, by what its keeper gave: the block, the guard that goes up, and that it is lowered in the end. Where it gave none, the request
-- is the thread's, and pays for nothing here
abbrev pub cost_of_try : ℕ → Option Block → ℕ
cost_of_try size None = 0
cost_of_try size (Some block) = cost_of_size size + 2

-- The keeper tried the request, and fits its book again. What it made and said is paid for by the request, where it gave a block, and by what it owed, which pay for what it
-- owes then, too. At most 25 steps for each guard that was up, 71 for each page of the region, 12 for each page that is asked for, and 26 more.
pub record TriesRequest (r : Request) (book book' : GuardBook) (out out' : Records) (desk desk' : Standing) (block : Option Block) : Type 0 where
  pub steps : List Made
  pub calls : Calls desk desk' (FitsBook desk.seat.profile (guards_in book)) (λ v w. FitsBook desk.seat.profile (guards_in book') w) steps
  pub short : length steps ≤ try_steps desk.seat.profile r (guards_in book)
  pub few : (v : View) → FitsBook desk.seat.profile (guards_in book) v → Agreed desk.seat.profile v steps
      → length (events_by desk.seat.actor v steps) + unknown_pages desk.seat.profile (steps ++ v) ≤ cost_of_size r.size + unknown_pages desk.seat.profile v
  pub tried : (v : View) (l : Whole) → desk.stands v l → FitsBook desk.seat.profile (guards_in book) v → (said : List Record)
      × IsTried desk.seat.profile desk.seat.actor r v (guards_in book) (record { steps = steps; records = said; block = block; guards = guards_in book' })
      × (records_in out' ≡ records_in out ++ said)
      × (length said + owed_by_keeper desk.seat.profile (guards_in book') (steps ++ v)
      ≤ cost_of_try r.size block + owed_by_keeper desk.seat.profile (guards_in book) v)
  pub room : room_of out' ≡ room_of out
  pub size : size_of_book book' ≡ size_of_book book

-- ---- the close
pub record MayLowerAll (f : Profile) (book : GuardBook) (out : Records) (v : View) : Type 0 where
  pub fits : FitsBook f (guards_in book) v
  pub records : length (records_in out) + length (guards_in book) ≤ room_of out

-- all guards were lowered, and nothing is held then
pub record LowersAll (book book' : GuardBook) (out out' : Records) (desk desk' : Standing) : Type 0 where
  pub steps : List Made
  pub said : List Record
  pub calls : Calls desk desk' (FitsBook desk.seat.profile (guards_in book)) (λ v w. FitsBook desk.seat.profile (guards_in book') w) steps
  pub lowered : (v : View) → FitsBook desk.seat.profile (guards_in book) v → IsLowered desk.seat.profile desk.seat.actor v (guards_in book) steps said
  pub none : guards_in book' ≡ []
  pub added : records_in out' ≡ records_in out ++ said
  pub few : length said ≤ length (guards_in book)
  pub room : room_of out' ≡ room_of out
  pub size : size_of_book book' ≡ size_of_book book
