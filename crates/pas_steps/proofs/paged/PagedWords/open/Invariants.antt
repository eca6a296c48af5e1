-- The pages that were opened since have the words of the opening.
use Rattle.std.proofs.Common.{◌≡◌, ◌-◌, vec_len}
use Rattle.pas_profile.specs.declared.word.Word.{Word}
use Rattle.pas_steps.specs.Paged.{value_in}
use Rattle.pas_steps.proofs.paged.PagedWords.open.Given as goal

abbrev pub invariant-loop-self : goal.invariant-loop-self
invariant-loop-self l = record {
  same : l.self.layout ≡ l.initial.self.layout;
  values : (w : Word) → value_in l.self w ≡ value_in l.initial.self w;
}

abbrev pub decreases-loop-self : goal.decreases-loop-self
decreases-loop-self l = l.page - vec_len l.self.pages
