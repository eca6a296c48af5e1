-- What a cache contains.
use Rattle.std.specs.Prelude.{ℕ, List, [], All}
use Rattle.pas_free_log.specs.{Noted.AreRanges, declared.noting.EndedRun.EndedRun}
use Rattle.pas_profile.specs.declared.entry.Entry.{Entry}
use Rattle.pas_segregated.specs.declared.slots.Slots.{Slots}
use Rattle.pas_cache.specs.Locals.{HasOneEach, IsFormed}

-- the local allocators in order of last use, the last used at the end; the logged entries in order; the runs of large blocks that ended and that
-- weren't handed on yet; and the epoch that the last `begin` read
pub record Cached : Type 0 where
  pub locals : List Slots
  pub log : List Entry
  pub noted : List EndedRun
  pub idle_since : ℕ

-- the same with this log and these noted runs, and what is left of it after a stop
abbrev pub with_log : Cached → List Entry → List EndedRun → Cached
with_log c log noted = record c { log = log; noted = noted }

abbrev pub with_noted_alone : Cached → List EndedRun → Cached
with_noted_alone c noted = record c { locals = []; log = []; noted = noted }

-- a cache is that of a thread, and contains this
pub record CacheOf : Type 0 where
  pub thread : ℕ
  pub contents : Cached

-- Of every cache: no two local allocators have the same heap and class, each has slots as they are made, and each noted run is one of pages.
pub record IsKept (locals : List Slots) (noted : List EndedRun) : Type 0 where
  pub one_each : HasOneEach locals
  pub formed : All IsFormed locals
  pub ranges : AreRanges noted
