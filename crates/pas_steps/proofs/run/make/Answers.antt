use Rattle.std.proofs.Common.{arith, ℕ, ◌≡◌, Option, unwrap_or}
use Rattle.pas_steps.specs.Views.{or_zero}
use Rattle.pas_steps.proofs.run.make.Goals as goal

-- an actor that knows no epoch steps as one that knows 0
zero_unknown : (known : Option ℕ) → unwrap_or known 0 ≡ or_zero known
zero_unknown known = search arith

pub returns-clause-stepped : goal.returns-clause-stepped
returns-clause-stepped c =
    search (arith, zero_unknown)
