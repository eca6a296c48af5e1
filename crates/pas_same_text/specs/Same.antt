-- WHEN A STATE OF THE TEXT, which has no words or views, is that of a replay, which has a list of steps.
use Rattle.std.specs.{Prelude.{ℕ, ◌<◌, ◌≤◌, ◌≡◌, ◌==◌, Bool, List, [], ◌∷◌, length, map, reverse}, List.{AllByRecursion, list_any}}
use Rattle.pas_bits.specs.Masks.{is_set}
use Rattle.pas_profile.specs.{Directories.number_of, Profiles.IsDirectoryOf, Guards.{guards_of, raised_by}, declared.directory.Directory.Directory}
use Rattle.pas_profile.specs.declared.{event.Event.Event, name.Block.Block, profile.Profile.Profile, word.Word.Word, guard.Raised.Raised}
use Rattle.pas_steps.specs.Lists.{Whole, word_after, visible}
use Rattle.pas_core.specs.Rights.{empty_bit, eligible_bit}
use Rattle.pas_segregated.specs.declared.slots.Slots.{Slots}
use Rattle.pas_cache.specs.Contents.{Cached}
use Rattle.pas_trace.specs.EveryPlan.{IsThread}
use Rattle.pas_answers.specs.Answers.{Caches, Books, Progress}
use Rattle.pas_same_text.specs.{State.{Local, Cache, World, live_after, cache_in}, Pages.{is_offered, is_hinted}}

-- ---- caches
-- the number stands in the list; the list rises
abbrev pub has_number : List ℕ → ℕ → Bool
has_number numbers n = list_any (λ m. m == n) numbers

abbrev pub IsRising : List ℕ → Type 0
IsRising [] = Unit {0}
IsRising (n ∷ more) = AllByRecursion (λ m. n < m) more × IsRising more

-- a local allocator: the same page, heap and class, and the same slots, whose first grains are the bits that are set; it keeps its page where it has the right
pub record IsSameLocal (s : Slots) (l : Local) : Type 0 where
  pub page : l.page ≡ s.page
  pub heap : l.heap ≡ s.heap
  pub class : l.class ≡ s.class
  pub keeps : l.keeps ≡ s.right
  pub slots : (g : ℕ) → has_number l.slots g ≡ is_set s.starts g
  pub rising : IsRising l.slots

-- several, in the same order
abbrev pub AreSameLocals : List Slots → List Local → Type 0
AreSameLocals [] [] = Unit {0}
AreSameLocals [] (l ∷ locals) = ⊥
AreSameLocals (s ∷ slots) [] = ⊥
AreSameLocals (s ∷ slots) (l ∷ locals) = IsSameLocal s l × AreSameLocals slots locals

pub record IsSameCache (c : Cached) (own : Cache) : Type 0 where
  pub locals : AreSameLocals c.locals own.locals
  pub log : own.log ≡ c.log
  pub noted : own.noted ≡ c.noted
  pub idle_since : own.idle_since ≡ c.idle_since

-- Each actor of the region has the one that stands at its number. The threads' are in the list; a keeper may be behind its end, and caches nothing then.
pub record AreSameCaches (f : Profile) (caches : Caches) (own : List Cache) : Type 0 where
  pub few : length own ≤ f.threads
  pub each : (k : ℕ) → IsThread f k → IsSameCache (caches k) (cache_in own k)

-- ---- guards
-- those of each keeper are the ones of its book, in the order in which they went up
pub record AreSameGuards (books : Books) (guards : List Raised) : Type 0 where
  pub each : (keeper : ℕ) → guards_of keeper guards ≡ map (raised_by keeper) (books keeper)

-- ---- pages
-- the blocks that live after the events
abbrev pub lives_in : List Event → List Block
lives_in [] = []
lives_in (e ∷ es) = live_after e (lives_in es)

-- the events are those that the list shows, and the caches and the guards that are up are the same: so what is free and what is kept follows
pub record HasSame (f : Profile) (p : Progress) (w : World) : Type 0 where
  pub events : w.events ≡ visible p.list
  pub live : w.live ≡ lives_in w.events
  pub caches : AreSameCaches f p.caches w.caches
  pub guards : AreSameGuards p.books w.guards

-- the events are those that the list shows, and the bits of hints and of offers are those of its words
pub record ArePagesSame (f : Profile) (l : Whole) (w : World) : Type 0 where
  pub events : w.events ≡ visible l
  pub live : w.live ≡ lives_in w.events
  pub hinted : (page : ℕ) → is_hinted w page ≡ empty_bit l page
  pub offered : (page : ℕ) (d : Directory) → IsDirectoryOf f d → is_offered w d page ≡ eligible_bit l (number_of d) page

-- ---- all
pub record IsSame (f : Profile) (p : Progress) (w : World) : Type 0 where
  pub pages : ArePagesSame f p.list w
  pub caches : AreSameCaches f p.caches w.caches
  pub guards : AreSameGuards p.books w.guards
  pub names : w.names ≡ p.names
  pub records : p.records ≡ reverse w.records
  pub epoch : w.epoch ≡ word_after p.list Word.Epoch
  pub read : w.read ≡ p.epoch
