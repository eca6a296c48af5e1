use Rattle.std.proofs.Common.{◌+◌, ◌*◌, ◌||◌, ap, sym, ◌∙◌, ◌++◌}
use Rattle.pas_steps.specs.{Desks.triples, Views.holds}
use Rattle.pas_core.proofs.OneActor.{of_page}
use Rattle.pas_search.proofs.LoneSteps.{shown_same, free_same, was_offered_before, none_read}
use Rattle.pas_search.proofs.laws.lone_steps_read_what_there_was.Goals as goal

pub returns-clause-shown : goal.returns-clause-shown
returns-clause-shown c = λ f k l steps page b r lone lt once. shown_same f k l page b r lt steps lone once

pub returns-clause-free : goal.returns-clause-free
returns-clause-free c = λ f k l steps page b lone.
    ap (λ t. t || holds steps (page * 256 + b)) (of_page (triples k steps ++ l) page b) ∙ (free_same f k l (page * 256 + b) steps lone ∙ sym (of_page l page b))

pub returns-clause-got : goal.returns-clause-got
returns-clause-got c = λ f k l steps page lone never got. (was_offered_before f k l page steps lone.legal lone.returns never).0 got

pub returns-clause-offered : goal.returns-clause-offered
returns-clause-offered c = λ f k l steps page m lone never bit. (was_offered_before f k l page steps lone.legal lone.returns never).1 m bit

pub returns-clause-bare : goal.returns-clause-bare
returns-clause-bare c = λ f k l steps page lone read. none_read f k l page steps lone read
