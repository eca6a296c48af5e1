-- Which events the machine allows, and its runs.
use Rattle.std.specs.Prelude.{ℕ, ◌+◌, ◌/◌, ◌%◌, ◌<◌, ◌≤◌, ◌≡◌, ◌≢◌, true, false, List, [], ◌∷◌, None, Some}
use Rattle.pas_profile.specs.declared.{profile.Profile.Profile, directory.Directory.Directory, name.{Name.Name, Block.Block}, event.{Event.Event, Why.Why}}
use Rattle.pas_profile.specs.{Profiles.IsPage, Blocks.{address_of, grain_of, length_of}}
use Rattle.pas_bits.specs.Runs.{in_run}
use Rattle.pas_machine.specs.State.{Live, deed_in, backed_in, live_in, gives_in, ends_in, epoch_in, touches}

-- an address of a grain of the region
abbrev pub IsPlace : Profile → ℕ → Type 0
IsPlace f address = IsPage f (address / 4096) × (address % 16 ≡ 0)

-- a page may lie under a block of the heap: it exists, has a deed of that heap, and is backed
pub record Bears (f : Profile) (es : List Event) (heap page : ℕ) : Type 0 where
  pub exists : IsPage f page
  pub directory : Directory
  pub deed : deed_in es page ≡ Some directory
  pub of_heap : directory.heap ≡ heap
  pub backed : backed_in es page ≡ true

-- no live block meets the run of n grains from g
abbrev pub IsClear : List Event → ℕ → ℕ → Type 0
IsClear es g n = (address : ℕ) (b : Live) → live_in es address ≡ Some b → (x : ℕ) → in_run (address / 16) (length_of b.block) x ≡ true → in_run g n x ≡ false

-- no live block touches the page
abbrev pub IsUntouched : List Event → ℕ → Type 0
IsUntouched es page = (address : ℕ) → touches (live_in es address) page ≡ false

-- exactly this name is live
abbrev pub IsLive : List Event → Name → Type 0
IsLive es name = (b : Live) × (live_in es (address_of name) ≡ Some b) × (b.block.name.turn ≡ name.turn)

-- a block may be given: whole grains, on pages that may lie under it, where no block lives, with the next turn of its address
pub record MayGive (f : Profile) (es : List Event) (block : Block) : Type 0 where
  pub aligned : address_of block.name % 16 ≡ 0
  pub whole : block.room % 16 ≡ 0
  pub some : 0 < block.room
  pub bears : (x : ℕ) → in_run (grain_of block.name) (length_of block) x ≡ true → Bears f es block.heap (x / 256)
  pub clear : IsClear es (grain_of block.name) (length_of block)
  pub turn : block.name.turn ≡ gives_in es (address_of block.name)

-- a block of the name lives, and has another room than this
pub record HasOtherRoom (es : List Event) (name : Name) (room : ℕ) : Type 0 where
  pub block : Live
  pub lives : live_in es (address_of name) ≡ Some block
  pub turn_is : block.block.name.turn ≡ name.turn
  pub differs : block.block.room ≢ room

-- The true reason why a name can't end: more blocks ended at its address than its turn says, or else no live block has the name, or else its
-- block has another room than the one that was named.
abbrev pub IsReason : List Event → Name → Why → Type 0
IsReason es name Why.Ended = name.turn < ends_in es (address_of name)
IsReason es name Why.NoBlock = (ends_in es (address_of name) ≤ name.turn) × (IsLive es name → ⊥)
IsReason es name (Why.SizeDiffers room) = (ends_in es (address_of name) ≤ name.turn) × HasOtherRoom es name room

-- the event may come after those before it
abbrev pub Admits : Profile → List Event → Event → Type 0
Admits f es (Event.Deed k page d) = IsPage f page × (d.heap < f.heaps) × (deed_in es page ≡ None)
Admits f es (Event.Back k page) = IsPage f page × (deed_in es page ≢ None) × (backed_in es page ≡ false)
Admits f es (Event.Unback k page epoch) = IsPage f page × (backed_in es page ≡ true) × IsUntouched es page × (epoch_in es page + f.age ≤ epoch)
Admits f es (Event.Give k block) = MayGive f es block
Admits f es (Event.End k name epoch) = IsPlace f (address_of name) × IsLive es name
Admits f es (Event.Reject k name why) = IsPlace f (address_of name) × IsReason es name why

-- a run of the machine: each event may come after those before it
abbrev pub Run : Profile → List Event → Type 0
Run f [] = Unit {0}
Run f (e ∷ es) = Admits f es e × Run f es
