use Rattle.std.proofs.{Common.{◌∷◌, [], inl, inr, refl, sym, ◌∙◌, arith}, lemmas.Bool.cases_lt}
use Rattle.pas_bits.{specs.Runs.in_run, proofs.{Words.{four_words, none_past}, Runs.run_above}}
use Rattle.pas_bits.proofs.mask.Mask4.run.Goals as goal

pub returns : goal.returns
returns c g = elim (cases_lt g 256) [
  | inl lt ↦ four_words c.run_word-2.result c.run_word-3.result c.run_word-4.result c.run_word-5.result (in_run c.args.first c.args.grains)
      c.run_word-2.ensures c.run_word-3.ensures c.run_word-4.ensures c.run_word-5.ensures g lt
  | inr ge ↦ none_past (record { 0 = c.run_word-2.result ∷ c.run_word-3.result ∷ c.run_word-4.result ∷ c.run_word-5.result ∷ [] }) g refl ge
      ∙ sym (run_above c.args.first c.args.grains g (omega (arith, ge)))
]
