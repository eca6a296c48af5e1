use Rattle.std.{proofs.{Common.{◌≡◌, ◌+◌, ℕ, false, List, Option, MatchOption, inl, inr, arith}, lemmas.Bool.cases_eq}, specs.Option.is_some}
use Rattle.pas_profile.specs.declared.name.Block.{Block}
use Rattle.pas_steps.specs.declared.state.State.{State}
use Rattle.pas_trials.specs.{Judging.{IsSoundPage, HasFault}, declared.judging.Fault.Fault}
use Rattle.pas_trials.proofs.judging.judge.Goals as goal

-- A page without a fault is sound.
sound : (state : State) (live : List Block) (page : ℕ) (found : Option Fault) → is_some found ≡ false
    → MatchOption found (IsSoundPage state live page) (HasFault state live page) → IsSoundPage state live page
sound state live page found none met = search arith

pub loop-before-preserved : goal.loop-before-preserved
loop-before-preserved c page some within = elim (cases_eq page (c.loop-before.before + 1)) [
  | inl same ↦ search (arith, sound)
  | inr other ↦ c.loop-before.invariant page some (omega (arith, within, other))
]
