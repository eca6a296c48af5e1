-- The books of the keepers of a plan.
use Rattle.std.specs.Prelude.{ℕ, ◌+◌, ◌<◌, ◌≡◌, ◌==◌, if◌then◌else◌, List, [], ◌∷◌, Option, None, Some, length, slice_index_or}
use Rattle.pas_trace.specs.{Asked.keeper_in, EveryPlan.operations_of, declared.plan.{Op.Op, Plan.Plan}}
use Rattle.pas_guard.specs.{Books.{guards_in, size_of_book}, declared.book.GuardBook.GuardBook}
use Rattle.pas_answers.specs.Replays.{keepers_of}

-- how many keepers a plan has by its `guard` and its threads
abbrev pub keepers_by : ℕ → ℕ → ℕ
keepers_by guard threads = if guard == 0 then 0 else threads

-- how many guarded requests of thread k are among these operations
abbrev pub one_guarded : Option ℕ → ℕ
one_guarded None = 0
one_guarded (Some keeper) = 1

abbrev pub guarded_of : ℕ → List Op → ℕ
guarded_of k [] = 0
guarded_of k (op ∷ ops) = (if op.actor == k then one_guarded (keeper_in op.what) else 0) + guarded_of k ops

-- so many books without a guard, each with so many places by its keeper's thread
pub record AreBooksFor (count : ℕ) (sizes : ℕ → ℕ) (books : List GuardBook) : Type 0 where
  pub many : length books ≡ count
  pub empty : (i : ℕ) (d : GuardBook) → i < count → guards_in (slice_index_or books i d) ≡ []
  pub places : (i : ℕ) (d : GuardBook) → i < count → size_of_book (slice_index_or books i d) ≡ sizes (i + 1)

-- a book for each keeper, with a place for each guarded request of its thread
abbrev pub AreBooks : Plan → List GuardBook → Type 0
AreBooks plan books = AreBooksFor (keepers_of plan) (λ k. guarded_of k (operations_of plan)) books
