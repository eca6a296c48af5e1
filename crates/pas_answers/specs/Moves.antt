-- How a block gets another size.
use Rattle.std.specs.Prelude.{ℕ, ◌-◌, ◌≡◌, true, false, nat_le, if◌then◌else◌, List, [], ◌++◌, length, Option, Result, Ok, Err}
use Rattle.pas_profile.specs.{declared.{event.NoRoom.NoRoom, name.Block.Block, profile.Profile.Profile, entry.Entry.Entry}, Entries.entry_of}
use Rattle.pas_steps.specs.{Desks.Standing, Kinds.Only, Views.View, Events.events_by, declared.step.Made.Made}
use Rattle.pas_cache.specs.{Caches.{Cached, AtRest}, Kinds.allocating, Calls.{MayRequest, Rests, TakesEntry, IsNamed}, Serves.{Wanted, ServesRequest}}
use Rattle.pas_cache.specs.{Serves.{IsBlockFor, MakesAtMost}, declared.moving.Moved.{Moved, TheVariants.{Kept, New}}}
use Rattle.pas_trace.specs.Reasons.{cost_of_size}
use Rattle.pas_answers.specs.Answers.{suits, RefusalEnds}

-- how many events the flush of a full log makes
abbrev pub flush_of_full : List Entry → ℕ
flush_of_full log = if nat_le 64 (length log) then 64 else 0

-- the actor may make the request with what the flush of a full log leaves of the room
abbrev pub MayMove : Profile → Wanted → Cached → ℕ → View → Type 0
MayMove f wanted c spare v = MayRequest f wanted c (spare - flush_of_full c.log) v

-- It suits as it is: nothing was done, and no door was asked.
pub record Keeps (Same : Type 0) (old : Block) (size align : ℕ) (c c' : Cached) (steps : List Made) : Type 0 where
  pub suited : suits old size align ≡ true
  pub no_steps : steps ≡ []
  pub cache : c' ≡ c
  pub door : Same

-- It doesn't, and the request for another block in its heap was served, at the cost of a request. Then the old name was logged, and is the last that is.
pub record Replaces (Answers : Option ℕ → Type 0) (Same : Type 0) (f : Profile) (actor : ℕ) (wanted : Wanted) (old : Block) (size align : ℕ) (c c' : Cached) (steps : List Made) (block : Block) : Type 0 where
  pub unsuited : suits old size align ≡ false
  pub placed : List Made
  pub freed : List Made
  pub between : Cached
  pub found : Option ℕ
  pub named : IsNamed wanted.route Answers Same found
  pub serves : ServesRequest f wanted found c between placed (Ok block)
  pub kinds : Only allocating placed
  pub few : MakesAtMost f (AtRest f c) (cost_of_size size) placed
  pub block_for : IsBlockFor f wanted (AtRest f c) placed block
  pub same_log : between.log ≡ c.log
  pub logs : TakesEntry f actor between c' (entry_of old.name) freed
  pub steps_are : steps ≡ freed ++ placed

-- .. or was refused, and nothing was logged
pub record CannotMove (Answers : Option ℕ → Type 0) (Same : Type 0) (f : Profile) (wanted : Wanted) (old : Block) (size align : ℕ) (c c' : Cached) (steps : List Made) (room : NoRoom) : Type 0 where
  pub unsuited : suits old size align ≡ false
  pub found : Option ℕ
  pub named : IsNamed wanted.route Answers Same found
  pub serves : ServesRequest f wanted found c c' steps (Err room)
  pub kinds : Only allocating steps
  pub few : MakesAtMost f (AtRest f c) 0 steps
  pub ends : (k : ℕ) (v : View) → RefusalEnds wanted.route wanted.directory (events_by k v steps)
  pub same_log : c'.log ≡ c.log

abbrev pub IsMoved : (Option ℕ → Type 0) → Type 0 → Profile → ℕ → Wanted → Block → ℕ → ℕ → Cached → Cached → List Made → Result Moved NoRoom → Type 0
IsMoved Answers Same f actor wanted old size align c c' steps (Ok Kept) = Keeps Same old size align c c' steps
IsMoved Answers Same f actor wanted old size align c c' steps (Ok (New block)) = Replaces Answers Same f actor wanted old size align c c' steps block
IsMoved Answers Same f actor wanted old size align c c' steps (Err room) = CannotMove Answers Same f wanted old size align c c' steps room

-- the actor is at rest before and afterwards
pub record Moves (Answers : Option ℕ → Type 0) (Same : Type 0) (wanted : Wanted) (old : Block) (size align : ℕ) (c c' : Cached) (desk desk' : Standing) (answer : Result Moved NoRoom) : Type 0 where
  pub steps : List Made
  pub calls : Rests c c' desk desk' steps
  pub moved : IsMoved Answers Same desk.seat.profile desk.seat.actor wanted old size align c c' steps answer
