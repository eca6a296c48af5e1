-- Indexes.
use Rattle.pas_same_text.proofs.CacheLists.{none_yet, indexes_kept}
use Rattle.pas_same_text.proofs.laws.indexes_stay_the_same.Goals as goal

pub returns-clause-start : goal.returns-clause-start
returns-clause-start c = λ threads heaps. none_yet heaps 1

pub returns-clause-act : goal.returns-clause-act
returns-clause-act c = λ f act. indexes_kept f act
