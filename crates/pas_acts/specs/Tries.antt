-- The guarded requests among acts: whose keeper tries each, and how many each tries.
use Rattle.std.specs.{Prelude.{ℕ, ◌+◌, ◌≤◌, ◌≡◌, ◌==◌, if◌then◌else◌, List}, List.AllByRecursion}
use Rattle.pas_trace.specs.Acts.{Act, Guards}
use Rattle.pas_answers.specs.Fit.{sum_over}

-- how many requests this keeper tries
abbrev pub tries_of_act : ℕ → Act → ℕ
tries_of_act keeper (Guards k op) = if k == keeper then 1 else 0
tries_of_act keeper act = 0

abbrev pub tries_of : ℕ → List Act → ℕ
tries_of keeper acts = sum_over (tries_of_act keeper) acts

-- Each is tried by its thread's keeper, which stands as far behind all threads as the thread stands among them.
abbrev pub IsKeptFor : ℕ → ℕ → Act → Type 0
IsKeptFor threads keepers (Guards keeper op) = (keeper ≡ threads + op.actor) × (op.actor ≤ keepers)
IsKeptFor threads keepers act = Unit {0}

abbrev pub AreKeptFor : ℕ → ℕ → List Act → Type 0
AreKeptFor threads keepers acts = AllByRecursion (IsKeptFor threads keepers) acts
