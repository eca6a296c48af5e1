-- the threads of the mask before this place read the epoch
use Rattle.std.proofs.Common.{ℕ}
use Rattle.pas_threads.proofs.{Common.{Profile, Progress, AreResting}, TakingTurns.WokeSoFar}
use Rattle.pas_threads.proofs.turns.wake_all.Given as goal

abbrev pub invariant-loop-index : goal.invariant-loop-index
invariant-loop-index l = record {
  far : (f : Profile) (later : ℕ → ℕ) (p : Progress) → AreResting l.region f l.fn.threads later p
      → WokeSoFar l.region f l.awake l.index l.fn.threads l.threads later p;
}
