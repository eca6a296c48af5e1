-- The operations of a trace, numbered from 1.
use Rattle.std.specs.Prelude.{ℕ, ◌+◌, ◌/◌, ◌%◌, ◌<◌, ◌≤◌, Bool, ◌||◌, nat_eq, nat_lt, if◌then◌else◌, List, [], ◌∷◌, ◌++◌, length, slice_index_or, vec_len}
use Rattle.std.specs.List.{swap_remove}
use Rattle.pas_generate.specs.{Draws.{draw, moved_by}, Requests.{request_from, after_request}, declared.operation.{Allocated.Allocated, Operation.Operation}}
use Rattle.pas_generate.specs.declared.generator.Generator.{Generator}

-- what is known between two operations: where the draws stand, the allocations that no line has freed, the trace name of
-- the next allocation, and the phase
pub record State : Type 0 where
  pub x : ℕ
  pub unfreed : List Allocated
  pub next_name : ℕ
  pub phase : ℕ

-- before the first operation: the draws stand at the seed, and names and phases count from 1
abbrev pub first_state : ℕ → State
first_state seed = record { x = seed; unfreed = []; next_name = 1; phase = 1 }

-- ---- an allocation by a thread
-- it takes the next trace name, for a request that is drawn
abbrev pub allocation : ℕ → State → Operation
allocation thread s = Operation.Allocate thread s.next_name (request_from s.x)

-- afterwards it stands at the end of the list
abbrev pub after_allocation : ℕ → State → State
after_allocation thread s = record {
  x = after_request s.x;
  unfreed = s.unfreed ++ record { name = s.next_name; thread = thread; phase = s.phase } ∷ [];
  next_name = s.next_name + 1;
  phase = s.phase;
}

-- ---- a free
-- the place in the list, counted from 0, that a draw gives
abbrev pub place : State → ℕ
place s = draw 1 s.x (length s.unfreed)

-- what stands past the end of a list, which is never freed
abbrev pub none : Allocated
none = record { name = 0; thread = 0; phase = 0 }

-- the allocation that is freed
abbrev pub freed : State → Allocated
freed s = slice_index_or s.unfreed (place s) none

-- a block of this phase is freed by its own thread, so that its free comes after its allocation
abbrev pub freeing_thread : ℕ → State → ℕ
freeing_thread thread s = if nat_eq (freed s).phase s.phase then (freed s).thread else thread

-- its line
abbrev pub free_of : ℕ → State → Operation
free_of thread s = Operation.Free (freeing_thread thread s) (freed s).name

-- it is taken out of the list, and the last one moves to its place
abbrev pub after_free : State → State
after_free s = record s { x = moved_by 1 s.x; unfreed = swap_remove s.unfreed (place s) (freed s) }

-- ---- either of the two
-- by the first draw half of them allocate, and all where nothing is left to be freed
abbrev pub allocates : State → Bool
allocates s = nat_lt (draw 1 s.x 8) 4 || nat_eq (length s.unfreed) 0

-- the second draw gives the thread
abbrev pub thread_of : ℕ → State → ℕ
thread_of threads s = 1 + draw 2 s.x threads

-- the state after these two draws
abbrev pub begun : State → State
begun s = record s { x = moved_by 2 s.x }

-- the operation by these draws, and the state after it
unfoldable pub drawn_operation : ℕ → State → Operation
drawn_operation threads s = if allocates s then allocation (thread_of threads s) (begun s) else free_of (thread_of threads s) (begun s)

unfoldable pub after_drawn : ℕ → State → State
after_drawn threads s = if allocates s then after_allocation (thread_of threads s) (begun s) else after_free (begun s)

-- ---- each operation
-- every thousandth is a pass, with which a phase ends, and the one before it a tick; neither draws
unfoldable pub operation_at : ℕ → ℕ → State → Operation
operation_at threads number s = if nat_eq (number % 1000) 999 then Operation.Tick (number / 1000 + 1) else (if nat_eq (number % 1000) 0 then Operation.Pass else drawn_operation threads s)

unfoldable pub after_operation : ℕ → ℕ → State → State
after_operation threads number s = if nat_eq (number % 1000) 999 then s else (if nat_eq (number % 1000) 0 then record s { phase = s.phase + 1 } else after_drawn threads s)

-- ---- the generator that is kept
abbrev pub state_of : Generator → State
state_of g = record { x = g.draws.state; unfreed = g.unfreed.items; next_name = g.next_name; phase = g.phase }

-- before the operation of this number, no more names, phases and allocations than operations have come
pub record Stands (number : ℕ) (g : Generator) : Type 0 where
  pub threads : 1 ≤ g.threads
  pub names : g.next_name ≤ number
  pub phases : g.phase ≤ number
  pub unfreed : vec_len g.unfreed < number
