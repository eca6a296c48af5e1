-- the guarded requests of the phases so far are counted
use Rattle.std.proofs.Common.{◌≡◌, ◌+◌, ℕ, drop, map, slice_index_or}
use Rattle.pas_acts.proofs.Common.{all_ops, guarded_of}
use Rattle.pas_acts.proofs.plan_keepers.guarded_by_thread.Given as goal

abbrev pub invariant-loop-phase : goal.invariant-loop-phase
invariant-loop-phase g l = record { counts : (k : ℕ) → slice_index_or l.counts k 0 + guarded_of k (all_ops (map g.P.Operations.ops (drop l.phase-index l.phases))) ≡ guarded_of k (all_ops (map g.P.Operations.ops l.phases)) }
