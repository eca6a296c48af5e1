-- THE INDEXES OF LARGE RUNS: where blocks of whole pages ended, by heaps. An index is a hint where to look first: it may name pages that were given again.
use Rattle.std.specs.Prelude.{ℕ, ◌/◌, nat_lt, if◌then◌else◌, List, [], ◌++◌, length, Option, option_to_list}
use Rattle.pas_profile.specs.{Blocks.{address_of, length_of}, declared.name.Block.Block}
use Rattle.pas_machine.specs.State.{deed_in}
use Rattle.pas_free_log.specs.{declared.noting.EndedRun.EndedRun, Noted.large_run}
use Rattle.pas_large.specs.Doors.{found_in, cut_in, added_in}
use Rattle.pas_same_text.specs.State.{World, each, noted_of, set_noted}

-- ---- from an end to the index
-- the run of a block of whole pages, with its heap; nothing for a block of another kind of page
abbrev pub run_of : World → Block → List EndedRun
run_of w b = option_to_list (large_run b.name (length_of b) (deed_in w.events (address_of b.name / 4096)))

-- NOTED: the pages of a large block that ended, in the cache of the thread that ended it. It has room for 64 runs: others are forgotten
abbrev pub notes : ℕ → Block → World → World
notes k b w = set_noted k (if nat_lt (length (noted_of w k)) 64 then noted_of w k ++ run_of w b else noted_of w k) w

-- a run comes to the index of its heap, and is one with the ranges that it meets or touches. An index has room for 512 ranges: where it would have one more,
-- it stays as it was
abbrev pub indexes_run : EndedRun → World → World
indexes_run run w = record w { indexes = added_in w.indexes run.heap run.range }

-- SETTLED: what a thread's cache noted comes to the indexes, in order
abbrev pub settles : ℕ → World → World
settles k w = each indexes_run (noted_of w k) (set_noted k [] w)

-- ---- a request for n pages asks
-- NAMED: the first page of the heap's lowest range that has so many
abbrev pub named_first : World → ℕ → ℕ → Option ℕ
named_first w heap n = found_in w.indexes heap n

-- the range loses these n pages, whether they will serve or not
abbrev pub loses_named : ℕ → ℕ → World → World
loses_named heap n w = record w { indexes = cut_in w.indexes heap n }
