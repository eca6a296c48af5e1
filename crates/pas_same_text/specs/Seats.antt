-- WHO ACTS in a region of so many threads: they are its actors from 1 on, and those behind them are keepers.
use Rattle.std.specs.Prelude.{ℕ, ◌<◌, ◌≤◌, ◌≡◌, true, false, []}
use Rattle.pas_profile.specs.declared.profile.Profile.{Profile}
use Rattle.pas_machine.specs.State.{backed_in}
use Rattle.pas_steps.specs.Lists.{visible}
use Rattle.pas_guard.specs.{Books.{is_outer, Each}, Keepers.IsBeside}
use Rattle.pas_trace.specs.Acts.{Act}
use Rattle.pas_answers.specs.{Answers.Progress, Replays.empty_cache}

-- one of so many threads; a keeper of the region behind them
abbrev pub IsThreadOf : ℕ → ℕ → Type 0
IsThreadOf threads k = (1 ≤ k) × (k ≤ threads)

abbrev pub IsKeeperOf : ℕ → Profile → ℕ → Type 0
IsKeeperOf threads f k = (threads < k) × (k ≤ f.threads)

-- The act is one of a plan for this region: a thread's, the scavenger's, or a keeper's.
abbrev pub IsActOf : ℕ → Profile → Act → Type 0
IsActOf threads f (Act.Operates op) = IsThreadOf threads op.actor
IsActOf threads f (Act.Guards keeper op) = IsKeeperOf threads f keeper × IsThreadOf threads op.actor
IsActOf threads f (Act.Settles k) = IsThreadOf threads k
IsActOf threads f (Act.Ticks epoch) = Unit {0}
IsActOf threads f Act.MakesPass = Unit {0}
IsActOf threads f Act.ReadsEpoch = Unit {0}
IsActOf threads f (Act.StopsIdle k n) = IsThreadOf threads k
IsActOf threads f (Act.MarksPhase n) = Unit {0}
IsActOf threads f (Act.Wakes k) = IsThreadOf threads k
IsActOf threads f Act.MarksClose = Unit {0}
IsActOf threads f (Act.Ends k) = IsThreadOf threads k
IsActOf threads f (Act.Lowers keeper) = IsKeeperOf threads f keeper

-- Between two acts only keepers have guards up, and they cache nothing. The outer pages of a guard stand beside its block, and aren't backed.
pub record AreSeated (threads : ℕ) (f : Profile) (p : Progress) : Type 0 where
  pub few : threads ≤ f.threads
  pub unbooked : (k : ℕ) → (IsKeeperOf threads f k → ⊥) → p.books k ≡ []
  pub uncached : (k : ℕ) → IsKeeperOf threads f k → p.caches k ≡ empty_cache
  pub beside : (k : ℕ) → Each IsBeside (p.books k)
  pub bare : (k page : ℕ) → is_outer (p.books k) page ≡ true → backed_in (visible p.list) page ≡ false
