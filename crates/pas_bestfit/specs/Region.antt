-- The shortest free run that is long enough, of all offered pages.
use Rattle.std.{specs.Prelude.{ℕ, ◌+◌, ◌*◌, ◌<◌, ◌≤◌, ◌≡◌, Bool, Option, None, Some, MatchOption, Result, MatchResult}, proofs.Common.{arith, sym, ◌∙◌}}
use Rattle.pas_bits.specs.Runs.{IsFreeRun}
use Rattle.pas_search.specs.{ByRank.AllocatesByRank, Placements.placed, Ranks.{Measure, IsOfGrains}}
use Rattle.pas_profile.specs.declared.{event.NoRoom.NoRoom, name.Block.Block}
use Rattle.pas_steps.specs.{Desks.Standing, Evidence.Readings}
use Rattle.pas_bestfit.specs.{Allocates.{bestfit_directory, grains_for}, Bests.{HasNoRun, best_fit}}

-- some free run of the page has just so many grains, which are enough, and none that is long enough is shorter
pub record IsShortest (grains : ℕ) (r : Readings) (n : ℕ) : Type 0 where
  pub first : ℕ
  pub run : IsFreeRun r first n
  pub enough : grains ≤ n
  pub shortest : (h m : ℕ) → IsFreeRun r h m → grains ≤ m → n ≤ m

-- the rank of a page
abbrev pub by_length : ℕ → Measure
by_length grains r rank = MatchOption rank (HasNoRun grains r) (IsShortest grains r)

-- ---- it depends on the page's grains alone
same_run : (r same : Readings) (g n : ℕ) → ((b : ℕ) → b < 256 → r b ≡ same b) → IsFreeRun r g n → IsFreeRun same g n
same_run r same g n eq is = let some = is.some in let within = is.within in record {
  some = some;
  within = within;
  free = λ x low high. sym (eq x (omega (arith, high, within))) ∙ is.free x low high;
  before = λ x at. sym (eq x (omega (arith, at, some, within))) ∙ is.before x at;
  after = λ lt. sym (eq (g + n) lt) ∙ is.after lt;
}

same_rank : (grains : ℕ) (r same : Readings) (rank : Option ℕ) → ((b : ℕ) → b < 256 → r b ≡ same b) → by_length grains r rank → by_length grains same rank
same_rank grains r same None eq none = λ g within free. none g within (λ x low high. eq x (omega (arith, high, within)) ∙ free x low high)
same_rank grains r same (Some n) eq is = record {
  first = is.first;
  run = same_run r same is.first n eq is.run;
  enough = is.enough;
  shortest = λ h m run. is.shortest h m (same_run same r h m (λ b lt. sym (eq b lt)) run);
}

pub of_grains : (grains : ℕ) → IsOfGrains (by_length grains)
of_grains grains = λ r same rank eq is. same_rank grains r same rank eq is

-- ---- the allocation
-- the first n grains of the best run of the page that is ranked best were given, or the try of it came to nothing and the lowest page was searched
abbrev pub GivesInRegion : ℕ → ℕ → Bool → Standing → Standing → Result Block NoRoom → Type 0
GivesInRegion heap n = AllocatesByRank (placed (best_fit (record { grains = n }))) (best_fit (record { grains = n })).run (by_length n)
    (bestfit_directory heap)

-- as many grains as hold the bytes
pub record AllocatesInRegion (heap bytes : ℕ) (tells : Bool) (desk desk' : Standing) (answer : Result Block NoRoom) : Type 0 where
  pub by_rank : GivesInRegion heap (grains_for bytes) tells desk desk' answer
  pub room_is : MatchResult answer (λ block. block.room ≡ grains_for bytes * 16) (λ why. Unit {0})
