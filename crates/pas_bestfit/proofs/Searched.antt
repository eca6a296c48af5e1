-- The search of the free runs of a page for the best one.
use Rattle.std.proofs.Common.{◌≡◌, ℕ, ◌+◌, ◌*◌, ◌<◌, ◌≤◌, ◌⊎◌, Option, None, Some, MatchOption, Ok, Err, Result, MatchResult, Bool, inl, inr, subst, arith}
use Rattle.std.proofs.lemmas.Bool.{cases_lt}
use Rattle.pas_bits.{specs.{Runs.{IsFreeRun, IsNextRun, HasNoRunFrom}, declared.free_runs.FreeRun.FreeRun}, proofs.FreeRuns.{same_run, lies_in_run}}
use Rattle.pas_profile.specs.declared.{event.NoRoom.NoRoom, name.Block.Block}
use Rattle.pas_steps.specs.{Desks.Standing, Evidence.Readings}
use Rattle.pas_bestfit.specs.{Allocates.{grains_for, GivesBest, Allocates}, Bests.{HasNoRun, IsBetter, IsNoBetter, IsPreferred}}

-- ---- the policy
-- a run serves better than all that one serves no worse than, which is worse itself
better_still : (g n g' n' h m : ℕ) → IsBetter n' n → IsNoBetter g n h m → IsNoBetter g' n' h m
better_still g n g' n' h m better so = elim so [ inl more ↦ inl (omega (arith, better, more)) | inr same ↦ inl (omega (arith, better, same.0)) ]

-- what isn't better serves no better, where it doesn't begin below
no_better : (g n h m : ℕ) → (IsBetter m n → ⊥) → g ≤ h → IsNoBetter g n h m
no_better g n h m isnt low = search (arith, cases_lt)

-- ---- the runs so far
-- of those that begin below `from`, this one is the best
pub record IsBestBelow (r : Readings) (n from : ℕ) (best : FreeRun) : Type 0 where
  pub run : IsFreeRun r best.first best.length
  pub enough : n ≤ best.length
  pub below : best.first < from
  pub no_better : (h m : ℕ) → h < from → IsFreeRun r h m → n ≤ m → IsNoBetter best.first best.length h m

abbrev pub HasNoneBelow : Readings → ℕ → ℕ → Type 0
HasNoneBelow r n from = (h m : ℕ) → h < from → IsFreeRun r h m → n ≤ m → ⊥

abbrev pub SoFar : Readings → ℕ → ℕ → Option FreeRun → Type 0
SoFar r n from best = MatchOption best (HasNoneBelow r n from) (IsBestBelow r n from)

module _ (r : Readings) (n from : ℕ) (run : FreeRun) (next : IsNextRun r from run) where
  abbrev end : ℕ
  end = run.first + run.length

  -- a run that begins below the end of this one began before, or is this one
  old_or_this : (h m : ℕ) → h < end → IsFreeRun r h m → (h < from) ⊎ ((h ≡ run.first) × (m ≡ run.length))
  old_or_this h m lt other = elim (cases_lt h from) [
    | inl old ↦ inl old
    | inr new ↦ elim (cases_lt h run.first) [
      | inl below ↦ absurd (next.lowest h m new below other)
      | inr above ↦ let some = other.some in inr (same_run r h m run.first run.length h other next.is_run (omega arith) (omega (arith, some)) above lt)
    ]
  ]

  -- this one serves better than those before
  this_best : n ≤ run.length → ((h m : ℕ) → h < from → IsFreeRun r h m → n ≤ m → IsNoBetter run.first run.length h m) → IsBestBelow r n end run
  this_best enough better = record {
    run = next.is_run;
    enough = enough;
    below = let some = next.is_run.some in omega (arith, some);
    no_better = λ h m lt other far. elim (old_or_this h m lt other) [
      | inl old ↦ better h m old other far
      | inr this ↦ let at = this.0 in let long = this.1 in inr (omega (arith, long), omega (arith, at))
    ];
  }

  -- A run that is preferred is the best so far, up to its end.
  pub preferred : (best : Option FreeRun) → IsPreferred run n best → SoFar r n from best → SoFar r n end (Some run)
  preferred None is none = this_best is.0 (λ h m old other far. absurd (none h m old other far))
  preferred (Some b) is so =
      this_best is.0 (λ h m old other far. better_still b.first b.length run.first run.length h m is.1 (so.no_better h m old other far))

  pub not_preferred : (best : Option FreeRun) → (IsPreferred run n best → ⊥) → SoFar r n from best → SoFar r n end best
  not_preferred None isnt none = λ h m lt other far. elim (old_or_this h m lt other) [
    | inl old ↦ none h m old other far
    | inr this ↦ let long = this.1 in isnt (omega (arith, far, long), tt)
  ]
  not_preferred (Some b) isnt so = record {
    run = so.run;
    enough = so.enough;
    below = let below = so.below in let above = next.above in omega (arith, below, above);
    no_better = λ h m lt other far. elim (old_or_this h m lt other) [
      | inl old ↦ so.no_better h m old other far
      | inr this ↦
          let at = this.0 in let long = this.1 in let below = so.below in let above = next.above in
          no_better b.first b.length h m (λ better. isnt (omega (arith, far, long), omega (arith, better, long))) (omega (arith, at, below, above))
    ];
  }

-- ---- all runs
pub none_fits : (r : Readings) (n from : ℕ) → 1 ≤ n → SoFar r n from None → HasNoRunFrom r from → HasNoRun n r
none_fits r n from some none no_more g within free =
    let lies = lies_in_run r g n some within free in
    let low = lies.low in let high = lies.high in
    elim (cases_lt lies.first from) [
      | inl old ↦ none lies.first lies.length old lies.run (omega (arith, low, high))
      | inr new ↦ no_more lies.first lies.length new lies.run
    ]

-- ---- the block
-- it has the room of n grains
pub room_of : {tells : Bool} {σ σ' : Standing} (heap n : ℕ) (answer : Result Block NoRoom) → GivesBest heap n tells σ σ' answer
    → MatchResult answer (λ block. block.room ≡ n * 16) (λ why. Unit {0})
room_of heap n (Ok block) a = a.outcome.room_is
room_of heap n (Err why) a = tt

-- What the run's search promises is what an allocation does.
pub allocated : {tells : Bool} {σ σ' : Standing} (heap bytes n : ℕ) (answer : Result Block NoRoom) → n ≡ grains_for bytes
    → GivesBest heap n tells σ σ' answer → Allocates heap bytes tells σ σ' answer
allocated {tells} {σ} {σ'} heap bytes n answer is run =
    let by_run = subst (λ n. GivesBest heap n tells σ σ' answer) is run in record { by_run = by_run; room_is = room_of heap (grains_for bytes) answer by_run }
