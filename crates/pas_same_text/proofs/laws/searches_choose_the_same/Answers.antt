-- Searches.
use Rattle.pas_same_text.proofs.SearchedPages.{offered_chosen, deed_chosen}
use Rattle.pas_same_text.proofs.laws.searches_choose_the_same.Goals as goal

pub returns-clause-offered : goal.returns-clause-offered
returns-clause-offered g c = λ f d k p w fits steps page s of from fit. offered_chosen (g.W.Fitting.no_fit c.args.wanted.now) f d k p w fits page of steps s from fit

pub returns-clause-deed : goal.returns-clause-deed
returns-clause-deed g c = λ f d k p w fits steps page s of by. deed_chosen (g.W.Fitting.no_fit c.args.wanted.now) f d k p w fits page of steps s by
