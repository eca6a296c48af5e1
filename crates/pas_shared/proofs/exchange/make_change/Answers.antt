-- the load is allowed whatever it finds, and so is the exchange at the seat that it left: a word that the change alters isn't left as it is
use Rattle.std.proofs.Common.{ap, ◌∙◌}
use Rattle.pas_shared.{specs.Ruled.changed, proofs.Ruling.{may_look_first, may_change}}
use Rattle.pas_shared.proofs.exchange.make_change.Goals as goal

pub load-found-requires : goal.load-found-requires
load-found-requires g c = may_look_first c.requires.place c.requires.step c.requires.at

pub fetch_max-requires : goal.fetch_max-requires
fetch_max-requires g c = may_change c.args.change (c.load-found.ensures.0 ∙ c.requires.place.0, c.requires.place.1, c.requires.place.2) (c.requires.step.1, c.requires.step.2) c.requires.at c.requires.makes c.load-found.ensures.2 (λ same. c.if-of-found.false (c.of.ensures ∙ same)) (λ n. ap (λ x. changed x n) c.in-Raise.is)

pub fetch_or-requires : goal.fetch_or-requires
fetch_or-requires g c = may_change c.args.change (c.load-found.ensures.0 ∙ c.requires.place.0, c.requires.place.1, c.requires.place.2) (c.requires.step.1, c.requires.step.2) c.requires.at c.requires.makes c.load-found.ensures.2 (λ same. c.if-of-found.false (c.of.ensures ∙ same)) (λ n. ap (λ x. changed x n) c.in-Set.is)

pub fetch_and-requires : goal.fetch_and-requires
fetch_and-requires g c = may_change c.args.change (c.load-found.ensures.0 ∙ c.requires.place.0, c.requires.place.1, c.requires.place.2) (c.requires.step.1, c.requires.step.2) c.requires.at c.requires.makes c.load-found.ensures.2 (λ same. c.if-of-found.false (c.of.ensures ∙ same)) (λ n. ap (λ x. changed x n) c.in-Clear.is)
