-- The text of a generated trace.
use Rattle.std.specs.Prelude.{ℕ, zero, suc, ◌≤◌, List, [], ◌++◌}
use Rattle.pas_generate.specs.{Operations.{State, first_state, operation_at, after_operation}, Lines.{header, line_of}}

-- the jobs that are generated: 1 to 200,000 operations of 1 to 16 threads on 2 to 4,096 pages
pub record IsJob (ops threads pages : ℕ) : Type 0 where
  pub some : 1 ≤ ops
  pub most : ops ≤ 200000
  pub thread : 1 ≤ threads
  pub threads_most : threads ≤ 16
  pub two_pages : 2 ≤ pages
  pub pages_most : pages ≤ 4096

-- the state after so many operations
unfoldable pub state_after : ℕ → ℕ → ℕ → State
state_after threads seed zero = first_state seed
state_after threads seed (suc n) = after_operation threads (suc n) (state_after threads seed n)

-- the lines of so many operations, in order
unfoldable pub lines_of : ℕ → ℕ → ℕ → List ℕ
lines_of threads seed zero = []
lines_of threads seed (suc n) = lines_of threads seed n ++ line_of (operation_at threads (suc n) (state_after threads seed n))

-- the whole text
abbrev pub trace_text : ℕ → ℕ → ℕ → ℕ → List ℕ
trace_text seed ops threads pages = header pages threads ++ lines_of threads seed ops
