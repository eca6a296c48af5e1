-- How many keepers a plan has.
use Rattle.std.proofs.Common.{◌≡◌, ℕ, ◌+◌, ◌*◌, ◌≤◌, ◌==◌, Bool, if◌then◌else◌, arith}
use Rattle.pas_trace.specs.{Acts.{threads_of, keepers_of, actors_of}, declared.plan.Plan.Plan}

both_numbers : (t : Bool) (n : ℕ) → n + (if t then 0 else n) ≡ (if t then n else 2 * n)
both_numbers t n = search arith

-- the actors of its region are its threads, and its keepers behind them
pub plan_actors : (plan : Plan) → threads_of plan + keepers_of plan ≡ actors_of plan
plan_actors plan = both_numbers (plan.guard == 0) plan.profile.threads

few_keepers : (t : Bool) (n : ℕ) → (if t then 0 else n) ≤ n
few_keepers t n = search arith

-- as many as threads at most
pub keepers_few : (plan : Plan) → keepers_of plan ≤ threads_of plan
keepers_few plan = few_keepers (plan.guard == 0) plan.profile.threads
