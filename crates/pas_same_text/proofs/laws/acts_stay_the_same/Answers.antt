-- Acts one after the other.
use Rattle.pas_same_text.proofs.{AllActs.{acts_carried, start_carried}, CacheLists.act_many, OneAct.act_same}
use Rattle.pas_same_text.proofs.laws.acts_stay_the_same.Goals as goal

pub returns-clause-many : goal.returns-clause-many
returns-clause-many c = act_many

pub returns-clause-start : goal.returns-clause-start
returns-clause-start c = start_carried

pub returns-clause-act : goal.returns-clause-act
returns-clause-act c = λ threads f act. act_same threads f act

pub returns-clause-acts : goal.returns-clause-acts
returns-clause-acts c = λ threads f acts p p' is w indexes planned known carried. acts_carried threads f acts p p' is w indexes planned known carried
