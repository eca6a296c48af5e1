-- an index for each heap so far
use Rattle.std.proofs.Common.{◌≡◌, ◌≤◌, length, vec_capacity}
use Rattle.pas_threads.proofs.making.indexes_for.Given as goal

abbrev pub invariant-loop-heap : goal.invariant-loop-heap
invariant-loop-heap l = record { made : length l.indexes.items ≡ l.heap; reserved : l.heaps ≤ vec_capacity l.indexes }
