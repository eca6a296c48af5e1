use Rattle.pas_answers.proofs.Consequences.{try_short, whole_short}
use Rattle.pas_answers.proofs.laws.guarded_requests_are_short.Goals as goal

pub returns-clause-tried : goal.returns-clause-tried
returns-clause-tried g c = λ f keeper r v guards t is. try_short f keeper r v guards t is

pub returns-clause-whole : goal.returns-clause-whole
returns-clause-whole g c = λ keeper r v guards t found c1 c2 answer is call. whole_short keeper r v guards t is call
