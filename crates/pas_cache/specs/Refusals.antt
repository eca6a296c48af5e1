-- When the refusal of a request is true of the states before and after it, and when what a door named for it serves it.
use Rattle.std.specs.Prelude.{ℕ, ◌≡◌, ◌≢◌, false, List, Option, Result}
use Rattle.pas_profile.specs.declared.{directory.Route.Route, event.NoRoom.NoRoom, name.Block.Block, profile.Profile.Profile}
use Rattle.pas_steps.specs.{Lists.{Whole, part}, Views.has_right, declared.step.Made.Made}
use Rattle.pas_search.specs.Telling.{IsTrueReason}
use Rattle.pas_large.specs.{Alone.GoesByDoor, Telling.HasNoUsableRun}
use Rattle.pas_segregated.specs.declared.slots.Slots.{Slots}
use Rattle.pas_cache.specs.Serves.{Wanted, pages_of, IsTrueRefusal}

abbrev pub IsTrulyRefusedBy : Route → Profile → Wanted → List Slots → Whole → Whole → NoRoom → Type 0
IsTrulyRefusedBy (Route.Class class) f wanted locals entry exit room = IsTrueRefusal f wanted locals entry exit room
IsTrulyRefusedBy Route.Bitfit f wanted locals entry exit room = IsTrueRefusal f wanted locals entry exit room
IsTrulyRefusedBy Route.Large f wanted locals entry exit room = HasNoUsableRun f wanted.directory (pages_of wanted) entry × HasNoUsableRun f wanted.directory (pages_of wanted) exit × IsTrueReason f wanted.directory exit room

-- Nothing could serve the request before, and nothing can after: no slot was cached for it and no page serves it, or where it is for whole pages there is no
-- run of usable ones. The reason is true after.
abbrev pub IsTrulyRefused : Profile → Wanted → List Slots → Whole → Whole → NoRoom → Type 0
IsTrulyRefused f wanted locals entry exit room = IsTrulyRefusedBy wanted.route f wanted locals entry exit room

-- no actor but this one has a right
abbrev pub OthersHaveNone : ℕ → Whole → Type 0
OthersHaveNone k l = (j page : ℕ) → k ≢ j → has_right (part j l) page ≡ false

-- ---- what a door names
abbrev pub GoesByDoorOn : Route → Profile → Wanted → Option ℕ → Whole → List Made → Result Block NoRoom → Type 0
GoesByDoorOn (Route.Class class) f wanted found l steps answer = Unit {0}
GoesByDoorOn Route.Bitfit f wanted found l steps answer = Unit {0}
GoesByDoorOn Route.Large f wanted found l steps answer = GoesByDoor f wanted.directory (pages_of wanted) found l steps answer

-- Where a door named a run for a request for whole pages, the request is served on it exactly where its pages were whole before, the list l.
abbrev pub TakesWhatIsNamed : Profile → Wanted → Option ℕ → Whole → List Made → Result Block NoRoom → Type 0
TakesWhatIsNamed f wanted found l steps answer = GoesByDoorOn wanted.route f wanted found l steps answer
