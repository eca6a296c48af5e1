-- the keepers so far have their books
use Rattle.std.proofs.Common.{◌≤◌, slice_index_or, vec_capacity}
use Rattle.pas_acts.proofs.Common.{AreBooksFor}
use Rattle.pas_acts.proofs.plan_keepers.books_of.Given as goal

abbrev pub invariant-loop-below : goal.invariant-loop-below
invariant-loop-below l = record { made : AreBooksFor l.below (λ k. slice_index_or l.places k 0) l.books.items; reserved : l.keepers ≤ vec_capacity l.books }
