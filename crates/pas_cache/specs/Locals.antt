-- Local allocators: each is the unused slots of one page that a thread got for a heap and a class. A list of them is in order of last use, the
-- last used at the end.
use Rattle.std.specs.{Prelude.{ℕ, ◌<◌, ◌≤◌, ◌≡◌, ◌==◌, Bool, true, ◌&&◌, not, List, length, Option, All, slice_index_or}, List.{list_any, find, filter}}
use Rattle.std.specs.List.{count_by}
use Rattle.pas_profile.specs.{Classes.IsClass, Profiles.{IsPage, IsDirectoryOf}, Requests.is_shared, declared.profile.Profile.Profile}
use Rattle.pas_steps.specs.{Views.{View, holds, has_right, knows_backed, KnowsDeed}, Clear.IsClear}
use Rattle.pas_segregated.specs.{Masks.AreStarts, Stops.{home_of, in_slots}, declared.slots.Slots.Slots}
use Rattle.pas_bits.specs.Masks.{HasMember}

-- ---- what it has
-- the grain, a number of the region, is of one of its slots
abbrev pub covers : Slots → ℕ → Bool
covers slots g = in_slots slots g

-- it keeps the right of this page
abbrev pub keeps_right : Slots → ℕ → Bool
keeps_right slots page = slots.right && (slots.page == page)

abbrev pub any_covers : List Slots → ℕ → Bool
any_covers locals g = list_any (λ slots. covers slots g) locals

abbrev pub any_keeps : List Slots → ℕ → Bool
any_keeps locals page = list_any (λ slots. keeps_right slots page) locals

-- ---- whom it serves
abbrev pub is_for : ℕ → ℕ → Slots → Bool
is_for heap class slots = (slots.heap == heap) && (slots.class == class)

-- the local allocator of the heap and the class
abbrev pub local_for : ℕ → ℕ → List Slots → Option Slots
local_for heap class locals = find (is_for heap class) locals

-- the one at this place is that
pub record IsPlaceOf (heap class : ℕ) (locals : List Slots) (place : ℕ) : Type 0 where
  pub within : place < length locals
  pub serves : (d : Slots) → is_for heap class (slice_index_or locals place d) ≡ true

-- those of other heaps or classes
abbrev pub others_than : ℕ → ℕ → List Slots → List Slots
others_than heap class locals = filter (λ slots. not (is_for heap class slots)) locals

-- at most one for each pair of a heap and a class
abbrev pub HasOneEach : List Slots → Type 0
HasOneEach locals = (heap class : ℕ) → count_by (is_for heap class) locals ≤ 1

-- its class exists, and each of its starts is that of a slot of the class
pub record IsFormed (slots : Slots) : Type 0 where
  pub class : IsClass slots.class
  pub starts : AreStarts slots.class slots.starts

-- ---- what its actor knows
-- Its page is one of the region and known to be of its home, and where a slot is left it is known as backed. It keeps the right of its page just
-- where the heap isn't shared.
pub record IsLocal (f : Profile) (v : View) (slots : Slots) : Type 0 where
  pub page : IsPage f slots.page
  pub class : IsClass slots.class
  pub directory : IsDirectoryOf f (home_of slots)
  pub kept : slots.right ≡ not (is_shared f slots.heap)
  pub starts : AreStarts slots.class slots.starts
  pub deed : KnowsDeed slots.page (home_of slots) v
  pub backed : HasMember slots.starts → knows_backed v slots.page ≡ true

-- there is at most one for each heap and class, no grain is of two of them, and no page's right is kept by two
pub record AreApart (locals : List Slots) : Type 0 where
  pub one_each : HasOneEach locals
  pub grains : (g : ℕ) → count_by (λ slots. covers slots g) locals ≤ 1
  pub rights : (page : ℕ) → count_by (λ slots. keeps_right slots page) locals ≤ 1

-- The actor holds exactly the grains of the unused slots, has exactly the rights that the local allocators keep, is clear, and knows what they
-- say of their pages. Two of them may be of one page, and then have different slots of it.
pub record RestsWith (f : Profile) (locals : List Slots) (v : View) : Type 0 where
  pub grains : (g : ℕ) → holds v g ≡ any_covers locals g
  pub rights : (page : ℕ) → has_right v page ≡ any_keeps locals page
  pub clear : IsClear v
  pub known : All (IsLocal f v) locals
  pub apart : AreApart locals
