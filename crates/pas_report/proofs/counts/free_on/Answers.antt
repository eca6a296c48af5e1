use Rattle.std.proofs.Common.{◌∙◌, arith}
use Rattle.pas_profile.specs.declared.word.Word.{Word}
use Rattle.pas_steps.specs.States.{word_in}
use Rattle.pas_report.proofs.Counting.{few_in_four, four_counted}
use Rattle.pas_report.proofs.counts.free_on.Goals as goal

pub overflow_cast-result : goal.overflow_cast-result
overflow_cast-result c = let few = few_in_four c.count_ones.result c.word.result c.word-2.result c.word-3.result c.word-4.result c.count_ones.ensures in omega (arith, few)

pub returns : goal.returns
returns c = c.count_ones.ensures ∙ four_counted (λ word. word_in c.args.state.now (Word.Free c.args.page word)) c.word.result c.word-2.result c.word-3.result c.word-4.result c.word.ensures c.word-2.ensures c.word-3.ensures c.word-4.ensures
