-- What a machine keeps of the pages and addresses of its region.
use Rattle.std.specs.Prelude.{ℕ, ◌+◌, ◌-◌, ◌*◌, ◌%◌, ◌<◌, ◌≤◌, ◌≡◌, Bool, true, false, if◌then◌else◌, List, Option, None, Some, is_some, get_or, max}
use Rattle.pas_profile.specs.declared.{profile.Profile.Profile, directory.Directory.Directory, name.{Address.Address, Name.Name, Block.Block}}
use Rattle.pas_profile.specs.{declared.event.Event.Event, Blocks.{address_of, grain_of, length_of}}
use Rattle.pas_machine.specs.{State.{Live, deed_in, backed_in, live_in, gives_in, epoch_in}, Machine.Run, Reasons.Covers, declared.places.Page.Page}
use Rattle.pas_machine.specs.declared.places.Place.{Place}

abbrev pub blank_page : Page
blank_page = record { directory = None; backed = false; epoch = 0 }

-- the place of an address at which so many blocks were given, and none lives
abbrev pub bare_place : ℕ → Place
bare_place gives = record { lives = false; heap = 0; room = 0; gives = gives }

abbrev pub blank_place : Place
blank_place = bare_place 0

-- the deed is there, and of the heap
abbrev pub IsOfHeap : ℕ → Option Directory → Type 0
IsOfHeap heap deed = (d : Directory) × (deed ≡ Some d) × (d.heap ≡ heap)

-- the page after these events
abbrev pub page_in : List Event → ℕ → Page
page_in es page = record { directory = deed_in es page; backed = backed_in es page; epoch = epoch_in es page }

abbrev pub block_of : Option Live → Option Block
block_of None = None
block_of (Some b) = Some b.block

-- the heap and the room of a block that lives, and 0 where none does
abbrev pub heap_of : Option Live → ℕ
heap_of None = 0
heap_of (Some b) = b.block.heap

abbrev pub room_of : Option Live → ℕ
room_of None = 0
room_of (Some b) = b.block.room

-- the place of an address at which this lives, and so many blocks were given
abbrev pub place_with : Option Live → ℕ → Place
place_with live gives = record { lives = is_some live; heap = heap_of live; room = room_of live; gives = gives }

-- the place of a grain after these events, by the grain's number in the region
abbrev pub place_in : List Event → ℕ → Place
place_in es g = place_with (live_in es (16 * g)) (gives_in es (16 * g))

-- the block that lives at this address, by what its place says: it was the last that was given there, so its turn is the number of gives less one
abbrev pub block_at : Place → Address → Option Block
block_at place address = if place.lives then Some (record { name = record { address = address; turn = place.gives - 1 }; room = place.room; heap = place.heap }) else None

-- whether a live block has the grain
abbrev pub IsCovered : List Event → ℕ → Bool → Type 0
IsCovered es x true = Covers es x
IsCovered es x false = Covers es x → ⊥

-- how many grains have a number in the region, with those of page 0, which doesn't exist
abbrev pub grains_of : Profile → ℕ
grains_of f = 256 * f.pages + 256

-- these pages, places and covered grains are those after a run of these events
pub record Shows (f : Profile) (pages : List Page) (places : List Place) (covered : List Bool) (es : List Event) : Type 0 where
  pub run : Run f es
  pub pages_are : (page : ℕ) → page ≤ f.pages → get_or pages page blank_page ≡ page_in es page
  pub places_are : (g : ℕ) → g < grains_of f → get_or places g blank_place ≡ place_in es g
  pub covered_are : (x : ℕ) → x < grains_of f → IsCovered es x (get_or covered x false)

-- some number, and each one, from `from` on and below `until`
abbrev pub IsSome : ℕ → ℕ → (ℕ → Type 0) → Type 0
IsSome from until P = (n : ℕ) × (from ≤ n) × (n < until) × P n

abbrev pub IsEach : ℕ → ℕ → (ℕ → Type 0) → Type 0
IsEach from until P = (n : ℕ) → from ≤ n → n < until → P n

-- the block is of whole grains, and has one
pub record IsWhole (block : Block) : Type 0 where
  pub aligned : address_of block.name % 16 ≡ 0
  pub some : 0 < block.room
  pub whole : block.room % 16 ≡ 0

-- its grains are of the pages of the region
abbrev pub IsWithin : Profile → Block → Type 0
IsWithin f block = (256 ≤ grain_of block.name) × (grain_of block.name + length_of block ≤ grains_of f)

pub record IsInside (f : Profile) (block : Block) : Type 0 where
  pub whole : IsWhole block
  pub within : IsWithin f block

-- the block of exactly this name lives
abbrev pub IsLiveBlock : List Event → Name → Block → Type 0
IsLiveBlock es name block = (b : Live) × (live_in es (address_of name) ≡ Some b) × (b.block ≡ block) × (block.name.turn ≡ name.turn)

-- the page after an end on it
abbrev pub ended_at : ℕ → Page → Page
ended_at epoch page = record page { epoch = max page.epoch epoch }
