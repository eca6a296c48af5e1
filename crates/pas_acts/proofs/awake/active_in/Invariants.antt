-- the threads of the operations so far, of which the last one is one
use Rattle.std.proofs.Common.{◌≡◌, ◌<◌, ◌||◌, ℕ, drop, true}
use Rattle.pas_acts.proofs.Common.{is_set, is_active}
use Rattle.pas_acts.proofs.awake.active_in.Given as goal

abbrev pub invariant-loop-place : goal.invariant-loop-place
invariant-loop-place g l = record {
  threads : (k : ℕ) → (is_set l.threads k || is_active (drop l.place (g.P.Operations.ops l.phase)) k) ≡ is_active (g.P.Operations.ops l.phase) k;
  last : l.last < 256 → is_set l.threads l.last ≡ true;
}
