-- Which steps a view allows. It depends on that one view alone.
use Rattle.std.specs.Prelude.{ℕ, ◌+◌, ◌-◌, ◌*◌, ◌/◌, ◌%◌, ◌^◌, ◌<◌, ◌≤◌, ◌≡◌, ◌≢◌, true, false, Option, None, Some}
use Rattle.pas_profile.specs.{Lives.turn_of, Profiles.{IsPage, IsDirectoryOf, IsWordOf}, Blocks.{address_of, grain_of, length_of}}
use Rattle.pas_profile.specs.declared.{profile.Profile.Profile, directory.Directory.Directory, name.{Block.Block, Name.Name}}
use Rattle.pas_bits.specs.Runs.{in_run}
use Rattle.pas_steps.specs.{Effects.in_mask, Views.{View, holds, has_right, known_deed, KnowsDeed, knows_backed, known_life, known_epoch, epoch_of}}
use Rattle.pas_steps.specs.{Views.{known_stamp, is_unstamped, given_count}, declared.step.Step.{Step, TheVariants.{Look, Deed, Back, Take, Put, Give, End}}}
use Rattle.pas_steps.specs.declared.step.Step.TheVariants.{EndSized, TakeRight, Offer, Park, Unpark, Stamp, Hint, Tick, Unback, Unhint}

-- the operands are of the profile
pub record IsBlockOf (f : Profile) (block : Block) : Type 0 where
  pub first : 4096 ≤ address_of block.name
  pub last : address_of block.name + block.room ≤ 4096 * (f.pages + 1)
  pub heap : block.heap < f.heaps
  pub turn : block.name.turn < 2 ^ 40

abbrev pub IsEndIn : Profile → Name → ℕ → Type 0
IsEndIn f name grains = IsPage f (address_of name / 4096) × (address_of name % 16 ≡ 0) × (name.turn < 2 ^ 40 - 1) × (1 ≤ grains) × (grains ≤ 256 * f.pages)

abbrev pub IsStepOf : Profile → Step → Type 0
IsStepOf f (Look word) = IsWordOf f word
IsStepOf f (Deed page directory) = IsPage f page × IsDirectoryOf f directory
IsStepOf f (Back page) = IsPage f page
IsStepOf f (Take page word mask) = IsPage f page × (word < 4) × (mask < 2 ^ 64)
IsStepOf f (Put page word mask) = IsPage f page × (word < 4) × (mask < 2 ^ 64)
IsStepOf f (Give block) = IsBlockOf f block
IsStepOf f (End name guess) = IsEndIn f name guess
IsStepOf f (EndSized name room) = IsEndIn f name (room / 16) × (room % 16 ≡ 0)
IsStepOf f (TakeRight page directory) = IsPage f page × IsDirectoryOf f directory
IsStepOf f (Offer page directory) = IsPage f page × IsDirectoryOf f directory
IsStepOf f (Park page) = IsPage f page
IsStepOf f (Unpark page) = IsPage f page
IsStepOf f (Stamp page) = IsPage f page
IsStepOf f (Hint page) = IsPage f page
IsStepOf f (Tick raised) = raised < 2 ^ 40
IsStepOf f (Unback page) = IsPage f page
IsStepOf f (Unhint page) = IsPage f page

-- the actor holds a grain of the page
abbrev pub HoldsOn : View → ℕ → Type 0
HoldsOn v page = (g : ℕ) × (g / 256 ≡ page) × (holds v g ≡ true)

-- a page is known to bear blocks of the heap, and isn't unstamped
pub record KnowsBearing (f : Profile) (v : View) (heap page : ℕ) : Type 0 where
  pub backed : knows_backed v page ≡ true
  pub directory : Directory
  pub of_profile : IsDirectoryOf f directory
  pub deed : KnowsDeed page directory v
  pub of_heap : directory.heap ≡ heap
  pub stamped : is_unstamped v page ≡ false

-- a block may be given now: all its grains are held, on pages that are known to bear it, with the turn of the life word that is known
pub record MayGiveNow (f : Profile) (v : View) (block : Block) : Type 0 where
  pub aligned : address_of block.name % 16 ≡ 0
  pub whole : block.room % 16 ≡ 0
  pub some : 0 < block.room
  pub held : (g : ℕ) → in_run (grain_of block.name) (length_of block) g ≡ true → holds v g ≡ true
  pub bears : (g : ℕ) → in_run (grain_of block.name) (length_of block) g ≡ true → KnowsBearing f v block.heap (g / 256)
  pub word : ℕ
  pub known : known_life v (grain_of block.name) ≡ Some word
  pub turn_is : block.name.turn ≡ turn_of word
  pub few : given_count v < 2 ^ 32

-- grains may be put back now: there are some, each is held, and the page isn't unstamped
pub record MayPutNow (v : View) (page word mask : ℕ) : Type 0 where
  pub some : mask ≢ 0
  pub held : (g : ℕ) → in_mask page word mask g ≡ true → holds v g ≡ true
  pub stamped : is_unstamped v page ≡ false

abbrev pub IsEpochKnown : Option ℕ → Type 0
IsEpochKnown None = ⊥
IsEpochKnown (Some e) = Unit {0}

-- the page may be unbacked now: all its grains are held, it isn't unstamped, it is known as backed, and its stamp is known and old enough for the
-- epoch that the actor read
pub record MayUnback (f : Profile) (v : View) (page : ℕ) : Type 0 where
  pub held : (g : ℕ) → g / 256 ≡ page → holds v g ≡ true
  pub stamped : is_unstamped v page ≡ false
  pub backed : knows_backed v page ≡ true
  pub stamp : ℕ
  pub known : known_stamp v page ≡ Some stamp
  pub read : IsEpochKnown (known_epoch v)
  pub old : stamp + f.age ≤ epoch_of v

-- the view allows the step
abbrev pub Allowed : Profile → View → Step → Type 0
Allowed f v (Look word) = Unit {0}
Allowed f v (Deed page directory) = Unit {0}
Allowed f v (Back page) = HoldsOn v page × (known_deed v page ≢ 0)
Allowed f v (Take page word mask) = has_right v page ≡ true
Allowed f v (Put page word mask) = MayPutNow v page word mask
Allowed f v (Give block) = MayGiveNow f v block
Allowed f v (End name guess) = IsEpochKnown (known_epoch v)
Allowed f v (EndSized name room) = IsEpochKnown (known_epoch v)
Allowed f v (TakeRight page directory) = KnowsDeed page directory v
Allowed f v (Offer page directory) = (has_right v page ≡ true) × KnowsDeed page directory v
Allowed f v (Park page) = has_right v page ≡ true
Allowed f v (Unpark page) = known_deed v page ≢ 0
Allowed f v (Stamp page) = HoldsOn v page × IsEpochKnown (known_epoch v)
Allowed f v (Hint page) = Unit {0}
Allowed f v (Tick raised) = Unit {0}
Allowed f v (Unback page) = MayUnback f v page
Allowed f v (Unhint page) = Unit {0}
