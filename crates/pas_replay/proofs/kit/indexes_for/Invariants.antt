-- an index for each heap so far
use Rattle.std.proofs.Common.{◌≡◌, ◌≤◌, vec_capacity}
use Rattle.pas_replay.proofs.Common.{no_ranges}
use Rattle.pas_replay.proofs.kit.indexes_for.Given as goal

abbrev pub invariant-loop-heap : goal.invariant-loop-heap
invariant-loop-heap l = record { made : l.indexes.items ≡ no_ranges l.heap; reserved : l.heaps ≤ vec_capacity l.indexes }
