-- WHAT AN ACT OWES: from a state that is the replay's it leads to one that is.
use Rattle.std.specs.Prelude.{ℕ, ◌/◌, ◌%◌, ◌<◌, ◌≤◌, ◌≡◌, ◌⊎◌, true, false, ◌||◌, List, [], length, Some, All}
use Rattle.pas_bits.specs.Masks.{HasMember}
use Rattle.pas_profile.specs.{Profiles.IsValid, declared.{directory.Directory.Directory, event.Event.Event, profile.Profile.Profile, guard.Guard.Guard}}
use Rattle.pas_machine.specs.State.{Live, live_in, deed_in, backed_in}
use Rattle.pas_core.specs.{Good.IsPartOf, Stamps.{AllStamped, AllKeepToEnds}}
use Rattle.pas_steps.specs.{Clear.{IsClear, HasNothing}, Views.{View, holds, has_right, usable_by_kind}, Lists.{Whole, part, visible, Legal}}
use Rattle.pas_large.specs.Doors.{Indexes}
use Rattle.pas_segregated.specs.declared.slots.Slots.{Slots}
use Rattle.pas_free_log.specs.Conditions.{IsEntryOf}
use Rattle.pas_cache.specs.{Contents.Cached, Locals.{local_for, any_covers, any_keeps, IsLocal, AreApart}}
use Rattle.pas_guard.specs.{Books.{is_outer, Each, IsGuardOf, KnowsGuard, AreApart as AreGuardsApart}, Keepers.IsBeside}
use Rattle.pas_trace.specs.{Acts.Act, EveryPlan.IsThread}
use Rattle.pas_answers.specs.{Answers.{Caches, Books, Progress}, Indexes.indexes_after, Reaching.Advances}
use Rattle.pas_same_text.specs.{State.World, Order.acts_on, Same.{IsSame, HasSame}}

-- ---- actors between two acts
-- The actor holds exactly the grains of the unused slots of these local allocators and of the outer pages of these guards, has exactly the rights that the local
-- allocators keep, is clear, and knows what is said of the pages. It is a thread, which has no guard up, or a keeper, which caches nothing.
pub record HasBoth (f : Profile) (locals : List Slots) (guards : List Guard) (v : View) : Type 0 where
  pub grains : (g : ℕ) → holds v g ≡ (any_covers locals g || is_outer guards (g / 256))
  pub rights : (page : ℕ) → has_right v page ≡ any_keeps locals page
  pub clear : IsClear v
  pub known : All (IsLocal f v) locals
  pub apart : AreApart locals
  pub guards_apart : AreGuardsApart guards
  pub guards_of_region : Each (IsGuardOf f) guards
  pub guards_known : Each (KnowsGuard v) guards
  pub one_kind : (locals ≡ []) ⊎ (guards ≡ [])

-- .. and there is room in its cache for what it logs
pub record IsResting (f : Profile) (c : Cached) (guards : List Guard) (v : View) : Type 0 where
  pub locals : HasBoth f c.locals guards v
  pub few : length c.locals ≤ 32
  pub entries : All (IsEntryOf f) c.log
  pub few_entries : length c.log ≤ 64

-- Each actor of the region rests with its cache and its book, and nobody else has a guard up. The outer pages of a guard stand beside its block, and aren't backed.
-- The scavenger has nothing.
pub record AreResting (f : Profile) (caches : Caches) (books : Books) (l : Whole) : Type 0 where
  pub working : (k : ℕ) → IsThread f k → IsResting f (caches k) (books k) (part k l)
  pub none : (k : ℕ) → (IsThread f k → ⊥) → books k ≡ []
  pub beside : (k : ℕ) → Each IsBeside (books k)
  pub bare : (k page : ℕ) → is_outer (books k) page ≡ true → backed_in (visible l) page ≡ false
  pub scavenger : HasNothing (part 0 l)

-- what is so of a replay between two acts: its list is legal, and all actors rest
pub record IsBetween (f : Profile) (p : Progress) : Type 0 where
  pub legal : Legal f p.list
  pub rest : AreResting f p.caches p.books p.list

-- .. and the events, the live blocks, the caches and the guards of the text are its own
pub record IsAtRest (f : Profile) (p : Progress) (w : World) : Type 0 where
  pub valid : IsValid f
  pub between : IsBetween f p
  pub same : HasSame f p w

-- the thread whose cache the act may change has one in the text's list
abbrev pub IsListed : World → Act → Type 0
IsListed w (Act.Operates op) = op.actor ≤ length w.caches
IsListed w (Act.Settles k) = k ≤ length w.caches
IsListed w (Act.StopsIdle k n) = k ≤ length w.caches
IsListed w (Act.Wakes k) = k ≤ length w.caches
IsListed w (Act.Ends k) = k ≤ length w.caches
IsListed w act = Unit {0}

-- the act takes a replay from p to p', and the text from w on
pub record IsTaken (f : Profile) (act : Act) (p p' : Progress) (w : World) : Type 0 where
  pub valid : IsValid f
  pub before : IsBetween f p
  pub after : IsBetween f p'
  pub same : IsSame f p w
  pub listed : IsListed w act
  pub advances : Advances f act p p'

-- then the state that the function comes to is that of the replay
abbrev pub StaysSame : Profile → Act → Type 0
StaysSame f act = (p p' : Progress) (w : World) → IsTaken f act p p' w → IsSame f p' (acts_on f act w)

-- .. where this is so of the replay before the act
abbrev pub StaysSameWhere : (Progress → Type 0) → Profile → Act → Type 0
StaysSameWhere Q f act = (p p' : Progress) (w : World) → Q p → IsTaken f act p p' w → IsSame f p' (acts_on f act w)

-- each grain of a live block is one that blocks of its page's directory may cover
pub record AreBlocksUsable (es : List Event) : Type 0 where
  pub usable : (address : ℕ) (b : Live) → live_in es address ≡ Some b → (g : ℕ) → IsPartOf g address b → (d : Directory) → deed_in es (g / 256) ≡ Some d
      → usable_by_kind d.kind (g % 256) ≡ true

abbrev pub HasUsableBlocks : Progress → Type 0
HasUsableBlocks p = AreBlocksUsable (visible p.list)

-- THE ACT KEEPS IT SO
abbrev pub KeepsUsable : Profile → Act → Type 0
KeepsUsable f act = (p p' : Progress) → IsValid f → IsBetween f p → IsBetween f p' → Advances f act p p' → HasUsableBlocks p → HasUsableBlocks p'

-- Each page where a block ended is stamped: no actor learns an epoch between an end and its stamps, stamps another page, or has an end without its stamps.
pub record AreEndsStamped (l : Whole) : Type 0 where
  pub kept : AllKeepToEnds l
  pub stamped : (k : ℕ) → AllStamped (part k l)

-- THE ACT KEEPS IT SO
abbrev pub KeepsStamped : Profile → Act → Type 0
KeepsStamped f act = (p p' : Progress) → IsValid f → IsBetween f p → IsBetween f p' → Advances f act p p' → AreEndsStamped p.list → AreEndsStamped p'.list

-- where the act hands on what a cache noted, that is the cache of a thread; and it is no guarded request
abbrev pub HandsOnOwn : Profile → Act → Type 0
HandsOnOwn f (Act.Settles k) = IsThread f k
HandsOnOwn f (Act.Guards keeper op) = ⊥
HandsOnOwn f act = Unit {0}

-- THE INDEXES of the text are those of a replay: where they hold the same before the act, they do after it.
abbrev pub KeepsIndexes : Profile → Act → Type 0
KeepsIndexes f act = (p p' : Progress) (w : World) (indexes : Indexes) → HandsOnOwn f act → (taken : IsTaken f act p p' w) → w.indexes ≡ indexes → (acts_on f act w).indexes ≡ indexes_after f act p p' taken.advances indexes

-- thread k's log has room for one more
abbrev pub HasLogRoom : ℕ → Progress → Type 0
HasLogRoom k p = length (p.caches k).log < 64

-- its local allocator of the heap and class has a slot
abbrev pub HasCachedSlot : ℕ → ℕ → ℕ → Progress → Type 0
HasCachedSlot heap class k p = (s : Slots) × (local_for heap class (p.caches k).locals ≡ Some s) × HasMember s.starts
