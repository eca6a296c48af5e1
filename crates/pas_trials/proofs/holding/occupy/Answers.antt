use Rattle.std.proofs.Common.{◌≡◌, ℕ, true, ◌∷◌, []}
use Rattle.pas_profile.specs.declared.directory.Directory.{Directory}
use Rattle.pas_rights.specs.Leaves.{MayLeave}
use Rattle.pas_steps.{specs.{Calls.Calls, Desks.{Standing, made, Makes, AnyView}, declared.step.Step.TheVariants.Deed}, proofs.Adding.{adds_none, can_step}}
use Rattle.pas_steps.proofs.Called.{call_none, call_step, call_then, next_call}
use Rattle.pas_trials.{specs.Trials.MayLeaveIf, proofs.Bringing.deed_gives}
use Rattle.pas_trials.proofs.holding.occupy.Goals as goal

-- A deed that was made is a call after which the page may be left.
got : {σ σ' : Standing} (p : ℕ) (d : Directory) {a : ℕ} → Makes σ σ' (Deed p d) a → a ≡ 0 → Calls σ σ' AnyView (λ v w. MayLeave p d w) (made (Deed p d) a ∷ [])
got p d {a} makes none = call_step (λ v w. MayLeave p d w) (call_none {R = λ v w. AnyView w} (λ v met. tt)) makes (λ v met b. tt) (λ v met b agrees. deed_gives p d a v none)

pub deed-requires-clause-can : goal.deed-requires-clause-can
deed-requires-clause-can g c = can_step adds_none c.requires.can (c.requires.page, c.requires.directory) (λ v l stood m. tt)

pub take_words-requires-clause-can : goal.take_words-requires-clause-can
take_words-requires-clause-can g c = next_call (got c.args.page c.args.directory c.deed.ensures.makes c.if-deed-ne0.false) c.requires.can (λ v met b. b)

pub returns-then-deed-ne0-clause-brings : goal.returns-then-deed-ne0-clause-brings
returns-then-deed-ne0-clause-brings g c = record { steps = _; calls = call_step (λ v w. AnyView w) (call_none {R = λ v w. AnyView w} (λ v met. tt)) c.deed.ensures.makes (λ v met b. tt) (λ v met b agrees. tt) }

pub returns-clause-brings : goal.returns-clause-brings
returns-clause-brings g c = let page = c.args.page in let d = c.args.directory in record {
  steps = _;
  calls = call_then (λ v w. MayLeaveIf true page d w) (got page d c.deed.ensures.makes c.if-deed-ne0.false) c.take_words.ensures.brings.calls (λ v met b. b) (λ v met b kept. kept);
}
