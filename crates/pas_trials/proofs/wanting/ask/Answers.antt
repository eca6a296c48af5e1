use Rattle.std.proofs.Common.{arith, ◌≡◌, ℕ, Bool, Some, ◌∷◌, [], ap, sym, ◌∙◌, ◌==◌, true, if◌then◌else◌}
use Rattle.pas_profile.specs.{Directories.deed_word_of, declared.{directory.Directory.Directory, word.Word.Word}}
use Rattle.pas_steps.specs.{Calls.{Calls, now, Gained, Kept}, Desks.{Standing, made, Makes, AnyView}, Views.{has_right, KnowsDeed, View}}
use Rattle.pas_steps.{specs.declared.step.Step.TheVariants.{Look, TakeRight}, proofs.{Called.{call_none, call_step, call_then, next_call}, Frames.knows_still}}
use Rattle.pas_rights.{specs.Claims.Claims, proofs.Orders.same_page}
use Rattle.pas_trials.{specs.Trials.Answered, proofs.Bringing.{look_reads, look_tells}}
use Rattle.pas_trials.proofs.wanting.ask.Goals as goal

-- the deed word that was read is the directory's
knows : {σ σ' : Standing} {p a : ℕ} (d : Directory) → Makes σ σ' (Look (Word.Deed p)) a → a ≡ deed_word_of d
    → Calls σ σ' AnyView (λ v w. KnowsDeed p d w) (made (Look (Word.Deed p)) a ∷ [])
knows {p = p} {a = a} d makes same = call_step (λ v w. KnowsDeed p d w) (call_none {R = λ v w. AnyView w} (λ v met. tt)) makes (λ v met b. tt) (λ v met b agrees. look_tells p d a v same)

claim_gets : (p : ℕ) (got : Bool) (v w : View) → got ≡ true → has_right w p ≡ now (if p == p then (if got then Gained else Kept) else Kept) (has_right v p)
    → has_right w p ≡ true
claim_gets p got v w is e = e ∙ ap (λ t. now (if t then (if got then Gained else Kept) else Kept) (has_right v p)) (same_page p) ∙ ap (λ t. now (if t then Gained else Kept) (has_right v p)) is

-- A claim that got the right is a call that answers with it.
claimed : {σ σ' : Standing} {got : Bool} (p : ℕ) (d : Directory) (h : Claims p d σ σ' got)
    → Calls σ σ' (λ v. KnowsDeed p d v) (λ v w. Answered (Some got) p d w) (made (TakeRight p d) h.answer ∷ [])
claimed {σ} {got = got} p d h = search (arith, knows_still, claim_gets)

pub claim-requires-clause-can : goal.claim-requires-clause-can
claim-requires-clause-can g c = next_call (knows c.args.directory c.look.ensures.makes (c.if-look-deed_word.false ∙ c.deed_word.ensures)) c.requires.can (λ v met b. b)

pub returns-then-look-deed_word-clause-brings : goal.returns-then-look-deed_word-clause-brings
returns-then-look-deed_word-clause-brings g c = record {
  steps = _;
  calls = call_step (λ v w. KnowsDeed c.args.page c.args.directory w → ⊥) (call_none {R = λ v w. AnyView w} (λ v met. tt)) c.look.ensures.makes (λ v met b. tt)
      (λ v met b agrees known. c.if-look-deed_word.true (sym (look_reads c.args.page c.look.result v) ∙ known ∙ sym c.deed_word.ensures));
}

pub returns-clause-brings : goal.returns-clause-brings
returns-clause-brings g c = let page = c.args.page in let d = c.args.directory in let claims = c.claim.ensures.claims in
    record {
      steps = _;
      calls = call_then (λ v w. Answered (Some c.claim.result) page d w) (knows d c.look.ensures.makes (c.if-look-deed_word.false ∙ c.deed_word.ensures))
          (claimed page d claims) (λ v met known. known) (λ v met b made. made);
    }
