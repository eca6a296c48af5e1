-- What an operation is in eight bytes.
use Rattle.std.specs.Prelude.{ℕ, ◌/◌, ◌%◌, ◌^◌, ◌<◌, ◌≡◌, ◌==◌, Bool, true, if◌then◌else◌, List, slice_index_or}
use Rattle.pas_trace.specs.declared.{code.Code.Code, plan.{Op.Op, What.{What, TheVariants.{Alloc, Free, FreeSized, Pass}}}}

-- an operation but for its line
abbrev pub unlined : Op → Op
unlined op = record { line = 0; actor = op.actor; what = op.what }

-- the head of a code has four numbers, the kind the lowest: 2 bits of it, 5 of the actor, 5 of the heap and 20 of the name
abbrev pub kind_in : Code → ℕ
kind_in code = code.head % 4

abbrev pub actor_in : Code → ℕ
actor_in code = code.head / 4 % 32

abbrev pub heap_in : Code → ℕ
heap_in code = code.head / 128 % 32

abbrev pub name_in : Code → ℕ
name_in code = code.head / 4096

-- the tail of a request has the logarithm of the alignment in 4 bits, and the size above them; that of a free the room, or nothing
abbrev pub what_in : Code → What
what_in code = if kind_in code == 0 then Alloc (name_in code) (heap_in code) (code.tail / 16) (2 ^ (code.tail % 16))
    else (if kind_in code == 1 then Free (name_in code) else FreeSized (name_in code) code.tail)

-- an operation of another kind stands whole in a list, at the place that is the tail
abbrev pub is_rare : Code → Bool
is_rare code = kind_in code == 3

abbrev pub IsPlaced : ℕ → Code → Type 0
IsPlaced count code = is_rare code ≡ true → code.tail < count

-- the operation, without a line, that a code stands for beside the list of whole ones
abbrev pub nothing : Op
nothing = record { line = 0; actor = 0; what = Pass }

abbrev pub said_by : List Op → Code → Op
said_by rare code = if is_rare code then unlined (slice_index_or rare code.tail nothing) else record { line = 0; actor = actor_in code; what = what_in code }

-- a code that is no place, as a list of codes has behind its end
abbrev pub no_code : Code
no_code = record { head = 0; tail = 0 }
