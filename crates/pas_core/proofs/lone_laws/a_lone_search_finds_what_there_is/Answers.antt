use Rattle.pas_core.proofs.OneActor.{plain_answer}
use Rattle.pas_core.proofs.lone_laws.a_lone_search_finds_what_there_is.Goals as goal

pub returns : goal.returns
returns g c = plain_answer (g.W.Fitting.no_fit c.args.wanted.now)
