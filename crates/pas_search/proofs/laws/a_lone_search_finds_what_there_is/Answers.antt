use Rattle.pas_search.proofs.FindingAPage.{told_alone, plain_alone}
use Rattle.pas_search.proofs.laws.a_lone_search_finds_what_there_is.Goals as goal

pub returns-clause-told : goal.returns-clause-told
returns-clause-told g c = λ d answer call l of legal may.
    told_alone _ (g.D.Desk.standing _).seat.profile d (g.D.Desk.standing _).seat.actor l call.steps (g.met.D.Desk.valid c.args.desk.now) of (g.met.S.Serving.fewer _) legal call.searches may answer call.outcome

pub returns-clause-plain : goal.returns-clause-plain
returns-clause-plain g c = λ d answer call l of legal may rest.
    plain_alone _ (g.D.Desk.standing _).seat.profile d (g.D.Desk.standing _).seat.actor l call.steps (g.met.D.Desk.valid c.args.desk.now) of
    (g.met.S.Serving.fewer _) legal call.searches may rest answer call.outcome
