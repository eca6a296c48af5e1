-- the guarded requests of the operations so far are counted
use Rattle.std.proofs.Common.{◌≡◌, ◌+◌, ℕ, drop, slice_index_or}
use Rattle.pas_acts.proofs.Common.{guarded_of}
use Rattle.pas_acts.proofs.plan_keepers.count_guarded.Given as goal

abbrev pub invariant-loop-place : goal.invariant-loop-place
invariant-loop-place g l =
    record { counts : (k : ℕ) → slice_index_or l.counts k 0 + guarded_of k (drop l.place (g.P.Operations.ops l.phase)) ≡ slice_index_or l.fn.counts k 0 + guarded_of k (g.P.Operations.ops l.phase) }
