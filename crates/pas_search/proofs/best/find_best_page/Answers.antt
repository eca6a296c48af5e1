use Rattle.std.proofs.Common.{inl, inr, refl}
use Rattle.pas_search.proofs.TheBestPage.{can_go_on, falls_back, searches_then}
use Rattle.pas_search.proofs.best.find_best_page.Goals as goal

pub find_page-requires-clause-can : goal.find_page-requires-clause-can
find_page-requires-clause-can g c = can_go_on c.in_default.ensures.tries c.requires.can (g.met.D.Desk.spares c.args.desk.now)
    (g.met.D.Desk.spares c.take_best_page.new.desk)

pub returns-in-Some-clause-searches : goal.returns-in-Some-clause-searches
returns-in-Some-clause-searches g c = inl (c.in-Some.served, refl, c.in-Some.ensures.tries)

pub returns-clause-searches : goal.returns-clause-searches
returns-clause-searches g c = inr (falls_back c.in_default.ensures.tries (searches_then c.in_default.ensures.tries c.find_page.ensures.searches))
