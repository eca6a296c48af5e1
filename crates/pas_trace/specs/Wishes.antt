-- What an operation of a thread asks for, by few tables: one for each value that a check asks for, with a line for each wish.
use Rattle.std.specs.Prelude.{ℕ, not, nat_le, ◌*◌, ◌<◌, ◌≤◌, ◌^◌, ◌==◌, Bool, true, false, Option, None, Some, MatchOption}
use Rattle.pas_profile.specs.{Classes.IsAlignment, declared.profile.Profile.Profile}
use Rattle.pas_trace.specs.declared.item.{Request.Request, Wish.{Wish, TheVariants.{Asks, Frees, FreesSized, FreesRaw, FreesRawSized, Remakes, Flushes, Stops}}}

-- ---- the tables
-- the heap that it names
abbrev pub heap_in : Wish → Option ℕ
heap_in (Asks n h s a) = Some h
heap_in (Frees n) = None
heap_in (FreesSized n s a) = None
heap_in (FreesRaw b n) = None
heap_in (FreesRawSized b n s a) = None
heap_in (Remakes n o s a) = None
heap_in Flushes = None
heap_in Stops = None

-- so many bytes, at a multiple of the alignment
pub record Sizing : Type 0 where
  pub size : ℕ
  pub align : ℕ

abbrev pub sizing_in : Wish → Option Sizing
sizing_in (Asks n h s a) = Some record { size = s; align = a }
sizing_in (Frees n) = None
sizing_in (FreesSized n s a) = Some record { size = s; align = a }
sizing_in (FreesRaw b n) = None
sizing_in (FreesRawSized b n s a) = Some record { size = s; align = a }
sizing_in (Remakes n o s a) = Some record { size = s; align = a }
sizing_in Flushes = None
sizing_in Stops = None

-- the trace name that it makes
abbrev pub name_made : Wish → Option ℕ
name_made (Asks n h s a) = Some n
name_made (Frees n) = None
name_made (FreesSized n s a) = None
name_made (FreesRaw b n) = None
name_made (FreesRawSized b n s a) = None
name_made (Remakes n o s a) = Some n
name_made Flushes = None
name_made Stops = None

-- the trace name that it frees or reallocates
abbrev pub name_freed : Wish → Option ℕ
name_freed (Asks n h s a) = None
name_freed (Frees n) = Some n
name_freed (FreesSized n s a) = Some n
name_freed (FreesRaw b n) = None
name_freed (FreesRawSized b n s a) = None
name_freed (Remakes n o s a) = Some o
name_freed Flushes = None
name_freed Stops = None

-- a block of so many bytes has whole pages: no class and no bit-fit page serves more than 2,048
abbrev pub is_large : ℕ → Bool
is_large size = not (nat_le size 2048)

-- it is a request for whole pages
abbrev pub asks_pages : Wish → Bool
asks_pages (Asks n h s a) = is_large s
asks_pages (Frees n) = false
asks_pages (FreesSized n s a) = false
asks_pages (FreesRaw b n) = false
asks_pages (FreesRawSized b n s a) = false
asks_pages (Remakes n o s a) = false
asks_pages Flushes = false
asks_pages Stops = false

-- ---- what is said by them
-- a test of a value holds where there is none
abbrev pub holds_of : {A : Type 0} → (A → Bool) → Option A → Bool
holds_of test None = true
holds_of test (Some x) = test x

-- the name is this one
abbrev pub is_name : Option ℕ → ℕ → Bool
is_name None name = false
is_name (Some n) name = n == name

-- the heap of the name that it makes, where earlier names have these heaps: the one that it names, or that of the name which it reallocates
abbrev pub heap_by : (ℕ → ℕ) → Option ℕ → Option ℕ → ℕ
heap_by heaps (Some h) freed = h
heap_by heaps None None = 0
heap_by heaps None (Some old) = heaps old

abbrev pub heap_made : (ℕ → ℕ) → Wish → ℕ
heap_made heaps w = heap_by heaps (heap_in w) (name_freed w)

-- the wish of a request
abbrev pub asking : Request → Wish
asking q = Asks q.name q.heap q.size q.align

-- its heap, size and alignment have a place in a plan, and are those of a request of the region
pub record IsFitSizing (f : Profile) (s : Sizing) : Type 0 where
  pub small : s.size < 2 ^ 32
  pub within : s.size ≤ f.pages * 4096
  pub aligned : IsAlignment s.align

abbrev pub IsFit : Profile → Wish → Type 0
IsFit f w = MatchOption (heap_in w) (Unit {0}) (λ h. h < 2 ^ 8) × MatchOption (sizing_in w) (Unit {0}) (IsFitSizing f)
