-- What a keeper does at its desk, whatever stands beside it: it tries guarded requests, and lowers all its guards at the close.
use Rattle.std.specs.Prelude.{ℕ, ◌+◌, ◌≤◌, ◌≡◌, ◌≢◌, List, [], ◌∷◌, ◌++◌, length, Option}
use Rattle.pas_profile.specs.declared.{name.Block.Block, profile.Profile.Profile}
use Rattle.pas_steps.specs.{Desks.Standing, Lists.{Whole, part}, Unknown.unknown_pages}
use Rattle.pas_trace.specs.{Acts.Lowers, Reasons.cost_of_size, declared.item.Request.Request}
use Rattle.pas_records.specs.{Rooms.{records_in, room_of, Records}, declared.record.Record.Record}
use Rattle.pas_guard.specs.{Books.{FitsBook, guards_in, size_of_book}, declared.book.GuardBook.GuardBook}
use Rattle.pas_answers.specs.{Answers.Progress, Calls.MayStand, Keeping.{owed_by_keeper, cost_of_try}, Reaching.Reaches, Ways.EachOf, Guarding.Tried}
use Rattle.pas_answers.specs.Guarding.{try_steps, IsTried, after_trying}
use Rattle.pas_acts.specs.{Works.Sits, Turns.Moves}

-- what a keeper has in hand: its desk, its book and its records
pub record KeeperHas : Type 1 where
  pub desk : Standing
  pub book : GuardBook
  pub out : Records

abbrev pub keeper_has : Standing → GuardBook → Records → KeeperHas
keeper_has desk book out = record { desk = desk; book = book; out = out }

-- for how many events, records and guards more there is room
pub record LaterKept : Type 0 where
  pub events : ℕ
  pub records : ℕ
  pub guards : ℕ

-- .. and for a request of so many bytes
abbrev pub and_try : ℕ → LaterKept → LaterKept
and_try size later = record { events = cost_of_size size + later.events; records = cost_of_size size + 2 + later.records; guards = 1 + later.guards }

-- The keeper sits at the desk and fits its book, which has the guards that the replay has of it at p. There is room for the events and records that it owes, and for those
-- of `later` more.
pub record KeeperAt (f : Profile) (keeper : ℕ) (has : KeeperHas) (later : LaterKept) (p : Progress) : Type 0 where
  pub sits : Sits f keeper (FitsBook f (guards_in has.book)) has.desk p.list (unknown_pages f (part keeper p.list) + later.events)
  pub book : p.books keeper ≡ guards_in has.book
  pub spare : length (records_in has.out) + (owed_by_keeper f (guards_in has.book) (part keeper p.list) + later.records) ≤ room_of has.out
  pub places : length (guards_in has.book) + later.guards ≤ size_of_book has.book

-- The keeper tried the request, and gave this block or none. What it said came to its own records. It is what the replay does for a guarded request first. Where it gave a
-- block the request pays for what the keeper said and for what it owes more then; else what it owed pays, and the request is left to its thread. The steps are those of a sweep
-- and a raise at most.
pub record KeeperTries (f : Profile) (keeper : ℕ) (r : Request) (block : Option Block) (old new : KeeperHas) (later : LaterKept) (p : Progress) : Type 0 where
  pub tried : Tried
  pub is : IsTried f keeper r (part keeper p.list) (p.books keeper) tried
  pub short : length tried.steps ≤ try_steps f r (guards_in old.book)
  pub block_is : tried.block ≡ block
  pub given : MayStand f block
  pub stands : KeeperAt f keeper new later (after_trying p keeper tried)
  pub moves : Moves keeper (FitsBook f (guards_in old.book)) (FitsBook f (guards_in new.book)) old.desk new.desk p (after_trying p keeper tried)
  pub pushed : records_in new.out ≡ records_in old.out ++ tried.records
  pub room : room_of new.out ≡ room_of old.out
  pub size : size_of_book new.book ≡ size_of_book old.book
  pub each : EachOf keeper tried.records
  pub paid : length tried.records + owed_by_keeper f (guards_in new.book) (part keeper (after_trying p keeper tried).list)
      ≤ cost_of_try r.size block + owed_by_keeper f (guards_in old.book) (part keeper p.list)

-- the keeper lowered all its guards
pub record KeeperLowers (f : Profile) (keeper : ℕ) (old new : KeeperHas) (later : LaterKept) (p : Progress) : Type 0 where
  pub reached : Progress
  pub reaches : Reaches f (Lowers keeper ∷ []) p reached
  pub stands : KeeperAt f keeper new later reached
  pub none : guards_in new.book ≡ []
  pub moves : Moves keeper (FitsBook f (guards_in old.book)) (FitsBook f []) old.desk new.desk p reached
  pub said : List Record
  pub records_are : reached.records ≡ p.records ++ said
  pub pushed : records_in new.out ≡ records_in old.out ++ said
  pub room : room_of new.out ≡ room_of old.out
  pub size : size_of_book new.book ≡ size_of_book old.book
  pub each : EachOf keeper said
  pub few : length said ≤ length (guards_in old.book)
  pub caches : reached.caches ≡ p.caches
  pub names : reached.names ≡ p.names
  pub books : (j : ℕ) → j ≢ keeper → reached.books j ≡ p.books j

-- ---- a keeper, if there is one
pub data Keeping : Type 1 where
  NoKeeper : Keeping
  OneKeeper : KeeperHas → Keeping

-- what it has before a request is tried
abbrev pub MayTryAt : Profile → ℕ → ℕ → Keeping → LaterKept → Progress → Type 0
MayTryAt f keeper size NoKeeper later p = ⊥
MayTryAt f keeper size (OneKeeper has) later p = KeeperAt f keeper has (and_try size later) p

-- ---- an actor while another one acts, at a seat that both may share
-- its desk stands for its part of the list, beside the list
abbrev pub StandsAt : Standing → Whole → Type 0
StandsAt desk l = desk.stands (part desk.seat.actor l) l

-- it stands for its part of another list now, which is the same part
pub record StandsStill (old new : Standing) (l m : Whole) : Type 0 where
  pub seat_is : new.seat ≡ old.seat
  pub stands : StandsAt old l → part old.seat.actor m ≡ part old.seat.actor l → StandsAt new m

-- so does the desk of the keeper, which has the same in hand
pub record HasStill (old new : KeeperHas) (l m : Whole) : Type 0 where
  pub desk : StandsStill old.desk new.desk l m
  pub book : new.book ≡ old.book
  pub out : new.out ≡ old.out

abbrev pub KeptStands : Keeping → Keeping → Whole → Whole → Type 0
KeptStands NoKeeper NoKeeper l m = Unit {0}
KeptStands NoKeeper (OneKeeper new) l m = ⊥
KeptStands (OneKeeper old) NoKeeper l m = ⊥
KeptStands (OneKeeper old) (OneKeeper new) l m = HasStill old new l m

-- what a keeper did that tried a request, and that its thread, whose desk is this one, stands still
abbrev pub TriesAt : Profile → ℕ → Request → Option Block → Standing → Standing → Keeping → Keeping → LaterKept → Progress → Type 0
TriesAt f keeper r block desk desk' NoKeeper new later p = ⊥
TriesAt f keeper r block desk desk' (OneKeeper old) NoKeeper later p = ⊥
TriesAt f keeper r block desk desk' (OneKeeper old) (OneKeeper new) later p = (tries : KeeperTries f keeper r block old new later p) × StandsStill desk desk' p.list (after_trying p keeper tries.tried).list
