-- How far a source was read after one read more.
use Rattle.std.proofs.Common.{◌≡◌, ℕ, ◌≤◌, List, subst, inl}
use Rattle.pas_io.specs.{Reached.{HasGone, HasRun}, declared.reach.Reach.{Reach, TheVariants.Within}}

gone_within : (before after : Reach) → HasGone before after → before ≡ Within → after ≡ Within
gone_within before after gone is = let Gone : Reach → Type 0 = λ r. HasGone r after in subst Gone is gone

-- .. where a byte came
pub run_on : (before after : Reach) (buffer : List ℕ) (n : ℕ) → HasRun before after buffer n → 1 ≤ n → before ≡ Within → after ≡ Within
run_on before after buffer n run some is = gone_within before after (run.goes (inl some)) is
