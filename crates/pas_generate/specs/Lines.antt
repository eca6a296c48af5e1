-- The lines of a trace.
use Rattle.std.specs.{Prelude.{ℕ, ◌+◌, ◌≤◌, List, ◌++◌, codes, vec_len, vec_capacity}, Fmt.decimal, Global.Vec}
use Rattle.pas_generate.specs.declared.operation.{Request.Request, Operation.Operation}

-- the header, and that the last of the six heaps is shared
unfoldable pub header : ℕ → ℕ → List ℕ
header pages threads = codes "pas 1 pages " ++ (decimal pages ++ (codes " threads " ++ (decimal threads ++ codes " heaps 6 age 2\nshared 5\n")))

-- a line for each kind of operation, as in `a 4 1 3 1258 16`, `f 4 1` and `tick 1`
abbrev pub allocation_line : ℕ → ℕ → Request → List ℕ
allocation_line thread name r = codes "a " ++ (decimal thread ++ (codes " " ++ (decimal name ++ (codes " " ++ (decimal r.heap ++ (codes " " ++ (decimal r.size ++ (codes " " ++ (decimal r.align ++ codes "\n")))))))))

abbrev pub free_line : ℕ → ℕ → List ℕ
free_line thread name = codes "f " ++ (decimal thread ++ (codes " " ++ (decimal name ++ codes "\n")))

abbrev pub tick_line : ℕ → List ℕ
tick_line epoch = codes "tick " ++ (decimal epoch ++ codes "\n")

-- the lines of an operation
abbrev pub line_of : Operation → List ℕ
line_of (Operation.Allocate thread name request) = allocation_line thread name request
line_of (Operation.Free thread name) = free_line thread name
line_of (Operation.Tick epoch) = tick_line epoch
line_of Operation.Pass = codes "pass\nphase\n"

-- ---- texts that are written without taking memory
-- there is room for so many bytes more
abbrev pub HasRoom : ℕ → Vec ℕ → Type 0
HasRoom n text = vec_len text + n ≤ vec_capacity text

-- so many bytes at most were added, and the whole room isn't smaller
pub record Keeps (n : ℕ) (old new : Vec ℕ) : Type 0 where
  pub added : vec_len new ≤ vec_len old + n
  pub room : vec_capacity old ≤ vec_capacity new
