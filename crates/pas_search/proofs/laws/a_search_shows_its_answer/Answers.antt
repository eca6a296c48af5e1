use Rattle.pas_search.proofs.FindingAPage.{shows_answer}
use Rattle.pas_search.proofs.laws.a_search_shows_its_answer.Goals as goal

pub returns : goal.returns
returns g c = λ d answer call v may agreed. shows_answer _ (g.D.Desk.standing c.args.desk.now).seat.profile d v call.steps may agreed answer call.outcome
