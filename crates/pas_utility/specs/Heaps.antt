-- What a table of heaps means.
use Rattle.std.specs.{Prelude.{ℕ, ◌==◌, Bool}, Int.bit_at}
use Rattle.pas_utility.specs.declared.table.HeapTable.{HeapTable}

-- the marks of shared heaps, those of the profile that the table was made from
abbrev pub marks_of : HeapTable → ℕ
marks_of table = table.shared

-- The heap is marked as shared. In a table of a profile that is `is_shared` of the profile, by computing.
abbrev pub is_marked : HeapTable → ℕ → Bool
is_marked table heap = bit_at (marks_of table) heap == 1
