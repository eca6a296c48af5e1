-- the threads of the operations so far
use Rattle.std.proofs.Common.{◌≡◌, ◌||◌, ℕ, drop}
use Rattle.pas_acts.proofs.Common.{is_set, is_active}
use Rattle.pas_acts.proofs.awake.active.Given as goal

abbrev pub invariant-loop-op : goal.invariant-loop-op
invariant-loop-op l = record { threads : (k : ℕ) → (is_set l.threads k || is_active (drop l.op-index l.ops) k) ≡ is_active l.ops k }
