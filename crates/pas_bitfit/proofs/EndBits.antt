-- The end of one block more.
use Rattle.std.proofs.{Common.{◌≡◌, ℕ, ◌+◌, ◌↔◌, IsTrue, Bool, true, ◌||◌, ap, sym, ◌∙◌, arith, inl, inr, subst}, Math.Bool.or-true, lemmas.Bool.cases_eq}
use Rattle.std.proofs.lemmas.Bool.{cases_Bool}
use Rattle.pas_profile.specs.declared.word.Word.{Word}
use Rattle.pas_steps.specs.{States.word_in, declared.state.State.State}
use Rattle.pas_bitfit.specs.Ends.{ends_with, IsEnd}

-- Whether a block ends at a grain, by the life words of n + 1 grains, is so by the last of them or by those before.
pub one_more : (state : State) (page n x : ℕ) (was now : Bool) → now ≡ (ends_with (word_in state (Word.Life page n)) n x || was)
    → IsTrue was ↔ IsEnd state page n x → IsTrue now ↔ IsEnd state page (n + 1) x
one_more state page n x was now is so_far = (
  λ h. elim (cases_Bool (ends_with (word_in state (Word.Life page n)) n x)) [
    | inl here ↦ (n, omega arith, here)
    | inr another ↦ let before = so_far.0 (sym (ap (λ t. t || was) another) ∙ (sym is ∙ h)) in (before.0, omega (arith, before.1), before.2)
  ],
  λ e. is ∙ elim (cases_eq e.0 n) [
    | inl same ↦ ap (λ t. t || was) (subst (λ k. ends_with (word_in state (Word.Life page k)) k x ≡ true) same e.2)
    | inr ne ↦ ap (λ t. ends_with (word_in state (Word.Life page n)) n x || t) (so_far.1 (e.0, omega (arith, e.1, ne), e.2)) ∙ or-true (ends_with (word_in state (Word.Life page n)) n x)
  ],
)
