-- What the parts of the calls ask and promise.
use Rattle.std.specs.Prelude.{ℕ, ◌^◌, ◌<◌, ◌≤◌, ◌≡◌, Bool, true, false, List, [], ◌∷◌, ◌++◌, length, remove, slice_index_or, Some, Result, Ok, MatchResult}
use Rattle.std.specs.{List.cons_option, Result.result_ok}
use Rattle.pas_profile.specs.declared.{event.NoRoom.NoRoom, name.Block.Block, profile.Profile.Profile}
use Rattle.pas_steps.specs.{Views.{View, holds, is_unstamped}, Lists.Whole, Calls.Calls, Desks.{Standing, triples}, Kinds.Only, Unknown.HasRoom}
use Rattle.pas_steps.specs.declared.step.Made.{Made}
use Rattle.pas_cache.specs.{Kinds.{releasing, allocating}, Changes.{GivesSlot, StopsOne}, Locals.{covers, local_for, others_than, IsLocal, RestsWith}}
use Rattle.pas_cache.specs.Serves.{IsObtained, ServesLocals, class_wanted, IsBlockFor, MakesFew, IsSilent, HasNoneCached}
use Rattle.pas_bits.specs.Masks.{HasMember}
use Rattle.pas_segregated.specs.{Stops.home_of, Refills.Filling, declared.slots.Slots.Slots}
use Rattle.pas_core.specs.Fits.{HasNoFit}
use Rattle.pas_search.specs.Telling.{IsTrueReason}

-- an actor at rest with the one list is at rest with the other after these steps
abbrev pub Rests : List Slots → List Slots → Standing → Standing → List Made → Type 0
Rests locals locals' desk desk' steps = Calls desk desk' (RestsWith desk.seat.profile locals) (λ v w. RestsWith desk.seat.profile locals' w) steps

-- ---- a slot is given
-- the grains of the slots are held, what they say of their page is known, and it isn't unstamped
pub record MayGiveSlot (f : Profile) (slots : Slots) (v : View) : Type 0 where
  pub held : (g : ℕ) → covers slots g ≡ true → holds v g ≡ true
  pub local : IsLocal f v slots
  pub stamped : is_unstamped v slots.page ≡ false

pub record GivesLowest (slots slots' : Slots) (block : Block) (desk desk' : Standing) : Type 0 where
  pub steps : List Made
  pub calls : Calls desk desk' (MayGiveSlot desk.seat.profile slots) (λ v w. block.name.turn < 2 ^ 37) steps
  pub gives : GivesSlot slots slots' block steps

-- ---- local allocators go
-- some go by these steps, and the actor is at rest with those that are left
pub record Releases (Change : List Made → Type 0) (locals locals' : List Slots) (desk desk' : Standing) : Type 0 where
  pub steps : List Made
  pub calls : Rests locals locals' desk desk' steps
  pub change : Change steps
  pub kinds : Only releasing steps

-- the one at this place goes, and is stopped
pub record StopsPlace (place : ℕ) (locals locals' : List Slots) (desk desk' : Standing) : Type 0 where
  pub slots : Slots
  pub at : slots ≡ slice_index_or locals place slots
  pub fewer : locals' ≡ remove locals place
  pub stops : Releases (StopsOne slots) locals locals' desk desk'

-- ---- slots are obtained
-- the local allocator of the heap and the class has a slot, and stands at the end
pub record BringsCached (heap class : ℕ) (locals locals' : List Slots) : Type 0 where
  pub slots : Slots
  pub cached : local_for heap class locals ≡ Some slots
  pub some : HasMember slots.starts
  pub last : locals' ≡ others_than heap class locals ++ slots ∷ []

-- the actor is at rest with the local allocators, and there is room for n events, and for a deed besides where that may be needed
pub record MayObtain (f : Profile) (n spare : ℕ) (locals : List Slots) (v : View) : Type 0 where
  pub rest : RestsWith f locals v
  pub room : HasRoom f n spare v

-- Where the refill is refused, no slot was cached and no page could serve at entry, nor can one at exit, and the reason is true at exit.
pub record IsTrueOf (fill : Filling) (f : Profile) (locals : List Slots) (entry exit : Whole) (room : NoRoom) : Type 0 where
  pub cached : HasNoneCached fill.directory.heap fill.class locals
  pub entry_fit : HasNoFit fill.no_fit f fill.directory entry
  pub exit_fit : HasNoFit fill.no_fit f fill.directory exit
  pub reason : IsTrueReason f fill.directory exit room

abbrev pub IsToldOf : {A : Type 0} → Filling → Profile → List Slots → Whole → Whole → Result A NoRoom → Type 0
IsToldOf fill f locals entry exit answer = MatchResult answer (λ found. Unit {0}) (IsTrueOf fill f locals entry exit)

-- the slots are of the class and at home in the directory, and there are some
pub record IsFoundFor (fill : Filling) (slots : Slots) : Type 0 where
  pub home : home_of slots ≡ fill.directory
  pub class_is : slots.class ≡ fill.class
  pub some : HasMember slots.starts

-- the actor is at rest with the others, and with the slots that were found
pub record Obtains (fill : Filling) (tells : Bool) (locals fewer : List Slots) (desk desk' : Standing) (found : Result Slots NoRoom) : Type 0 where
  pub steps : List Made
  pub calls : Rests locals (cons_option (result_ok found) fewer) desk desk' steps
  pub how : IsObtained fill desk.seat.profile locals fewer steps found
  pub found_for : MatchResult found (IsFoundFor fill) (λ room. Unit {0})
  pub place : length fewer < 32
  pub few : MakesFew desk.seat.profile (RestsWith desk.seat.profile locals) 1 steps
  pub told : tells ≡ true → (v : View) (l : Whole) → desk.stands v l → RestsWith desk.seat.profile locals v
      → IsToldOf fill desk.seat.profile locals l (triples desk.seat.actor steps ++ l) found

-- the slots that were found stand at the end of the list, behind the others
pub record StandsLast (fill : Filling) (tells : Bool) (locals locals' : List Slots) (desk desk' : Standing) : Type 0 where
  pub fewer : List Slots
  pub slots : Slots
  pub obtains : Obtains fill tells locals fewer desk desk' (Ok slots)
  pub last : locals' ≡ fewer ++ slots ∷ []

-- ---- a request is served from the local allocators
pub record ServesFrom (fill : Filling) (tells : Bool) (locals locals' : List Slots) (desk desk' : Standing) (answer : Result Block NoRoom) : Type 0 where
  pub steps : List Made
  pub calls : Rests locals locals' desk desk' steps
  pub change : ServesLocals fill desk.seat.profile locals locals' steps answer
  pub kinds : Only allocating steps
  pub few : MakesFew desk.seat.profile (RestsWith desk.seat.profile locals) 2 steps
  pub outcome : MatchResult answer (IsBlockFor desk.seat.profile (class_wanted fill.directory fill.class 1) (RestsWith desk.seat.profile locals) steps)
      (λ room. IsSilent steps)
  pub place : length locals' ≤ 32
  pub told : tells ≡ true → (v : View) (l : Whole) → desk.stands v l → RestsWith desk.seat.profile locals v
      → IsToldOf fill desk.seat.profile locals l (triples desk.seat.actor steps ++ l) answer
