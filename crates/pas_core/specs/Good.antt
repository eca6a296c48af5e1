-- What holds after every legal list of steps.
use Rattle.std.specs.Prelude.{◌≢◌, ◌⊎◌, ℕ, ◌+◌, ◌*◌, ◌/◌, ◌%◌, ◌^◌, ◌<◌, ◌≤◌, ◌≡◌, ◌==◌, Bool, true, false, ◌&&◌, Option, Some, None}
use Rattle.pas_profile.specs.{declared.{directory.Directory.Directory, profile.Profile.Profile, word.Word.Word}, Directories.deed_word_of, Lives.live_word}
use Rattle.pas_profile.specs.{Lives.{is_live, grains_of}, Blocks.{address_of, length_of}}
use Rattle.pas_bits.specs.{Bits.has_bit, Runs.in_run}
use Rattle.pas_machine.specs.State.{Live, deed_in, backed_in, live_in, gives_in, ends_in}
use Rattle.pas_steps.specs.{Effects.{free_word_at, life_word_at}, Views.holds, Lists.{Whole, part, word_after, visible}}

-- ---- where a grain is
pub data Place : Type 0 where
  IsFree : Place
  Held : ℕ → Place  -- by this actor
  Covered : ℕ → Place  -- by the live block whose first grain this is

abbrev pub is_free : Place → Bool
is_free IsFree = true
is_free (Held k) = false
is_free (Covered a) = false

abbrev pub is_held_by : ℕ → Place → Bool
is_held_by k IsFree = false
is_held_by k (Held j) = j == k
is_held_by k (Covered a) = false

abbrev pub is_covered_by : ℕ → Place → Bool
is_covered_by b IsFree = false
is_covered_by b (Held k) = false
is_covered_by b (Covered a) = a == b

-- this life word of grain a is live, and the block that begins there has the grain
abbrev pub covers : ℕ → ℕ → ℕ → Bool
covers word a g = is_live word && in_run a (grains_of word) g

-- What the words say of a grain: its bit, what the actors hold, and the life words all tell the one place where it is.
pub record IsPlacedOnce (l : Whole) (g : ℕ) : Type 0 where
  pub place : Place
  pub free : has_bit (word_after l (free_word_at g)) (g % 64) ≡ is_free place
  pub held : (k : ℕ) → holds (part k l) g ≡ is_held_by k place
  pub covered : (a : ℕ) → covers (word_after l (life_word_at a)) a g ≡ is_covered_by a place

-- the block that lives at this address has the grain
abbrev pub IsPartOf : ℕ → ℕ → Live → Type 0
IsPartOf g address b = in_run (address / 16) (length_of b.block) g ≡ true

-- the grain is free: nobody holds it, and no live block has it
pub record IsFreeGrain (l : Whole) (g : ℕ) : Type 0 where
  pub free : has_bit (word_after l (free_word_at g)) (g % 64) ≡ true
  pub nobody : (k : ℕ) → holds (part k l) g ≡ false
  pub no_block : (address : ℕ) (b : Live) → live_in (visible l) address ≡ Some b → IsPartOf g address b → ⊥

-- one actor holds the grain and no other does, it isn't free, and no live block has it
pub record IsHeldByOne (l : Whole) (g : ℕ) : Type 0 where
  pub actor : ℕ
  pub not_free : has_bit (word_after l (free_word_at g)) (g % 64) ≡ false
  pub holder : (k : ℕ) → holds (part k l) g ≡ (actor == k)
  pub no_block : (address : ℕ) (b : Live) → live_in (visible l) address ≡ Some b → IsPartOf g address b → ⊥

-- one live block has the grain and no other does, it isn't free, and nobody holds it
pub record IsCoveredByOne (l : Whole) (g : ℕ) : Type 0 where
  pub address : ℕ
  pub block : Live
  pub lives : live_in (visible l) address ≡ Some block
  pub covered : IsPartOf g address block
  pub not_free : has_bit (word_after l (free_word_at g)) (g % 64) ≡ false
  pub nobody : (k : ℕ) → holds (part k l) g ≡ false
  pub one : (other : ℕ) (b : Live) → live_in (visible l) other ≡ Some b → IsPartOf g other b → other ≡ address

-- the grain is in exactly one place: free, held by exactly one actor, or part of exactly one live block
abbrev pub IsInOnePlace : Whole → ℕ → Type 0
IsInOnePlace l g = IsFreeGrain l g ⊎ IsHeldByOne l g ⊎ IsCoveredByOne l g

-- ---- the machine and the words
-- the deed word of a page with this directory
abbrev pub word_of_deed : Option Directory → ℕ
word_of_deed None = 0
word_of_deed (Some d) = deed_word_of d

-- the backed word of a page
abbrev pub word_of_backed : Bool → ℕ
word_of_backed false = 0
word_of_backed true = 1

-- the life word of a grain where no block lives: the number of blocks that ended there, which were all that were given there
pub record IsLifeOfNone (word gives ends : ℕ) : Type 0 where
  pub word_is : word ≡ ends
  pub gives_are : gives ≡ ends
  pub few : ends < 2 ^ 40

-- The life word of grain g where this block lives: it has the block's turn, which is the number of blocks that ended there, and the
-- block's grains. The block begins at the grain, has whole grains and lies in the region.
pub record IsLifeOfLive (f : Profile) (g word : ℕ) (b : Live) (gives ends : ℕ) : Type 0 where
  pub word_is : word ≡ live_word ends (length_of b.block)
  pub gives_are : gives ≡ ends + 1
  pub few : ends < 2 ^ 40
  pub turn : b.block.name.turn ≡ ends
  pub address : address_of b.block.name ≡ 16 * g
  pub whole : b.block.room % 16 ≡ 0
  pub some : 0 < length_of b.block
  pub short : length_of b.block < 2 ^ 23
  pub first : 256 ≤ g
  pub last : g + length_of b.block ≤ 256 * (f.pages + 1)
  pub heap : b.block.heap < f.heaps

-- what the life word of grain g is, from the machine's live block, gives and ends there
abbrev pub IsLifeOf : Profile → ℕ → ℕ → Option Live → ℕ → ℕ → Type 0
IsLifeOf f g word None gives ends = IsLifeOfNone word gives ends
IsLifeOf f g word (Some b) gives ends = IsLifeOfLive f g word b gives ends

-- nothing ever began at an address that is no grain's
pub record IsBare (address : ℕ) (live : Option Live) (gives ends : ℕ) : Type 0 where
  pub no_block : live ≡ None
  pub no_give : gives ≡ 0
  pub no_end : ends ≡ 0

-- The machine that the visible events reach agrees with the words, at every page and every grain; the grain g has the address 16 * g.
pub record AgreesWithWords (f : Profile) (l : Whole) : Type 0 where
  pub deed : (page : ℕ) → word_after l (Word.Deed page) ≡ word_of_deed (deed_in (visible l) page)
  pub backed : (page : ℕ) → word_after l (Word.Backed page) ≡ word_of_backed (backed_in (visible l) page)
  pub life : (g : ℕ)
      → IsLifeOf f g (word_after l (life_word_at g)) (live_in (visible l) (16 * g)) (gives_in (visible l) (16 * g)) (ends_in (visible l) (16 * g))
  pub bare : (address : ℕ) → address % 16 ≢ 0 → IsBare address (live_in (visible l) address) (gives_in (visible l) address) (ends_in (visible l) address)
