use Rattle.pas_shared.proofs.{Ruling.first_earlier, GivingBack.{some_word, looks_as, saw_each}}
use Rattle.pas_shared.proofs.ledger.Ledger.look.Goals as goal

pub load-requires : goal.load-requires
load-requires c = (c.requires.of, some_word c.args.region.now, looks_as _ _ _ _ _ _ _ c.args.self.now.settled)

pub returns-clause-earlier : goal.returns-clause-earlier
returns-clause-earlier c = first_earlier _ _ (saw_each _ _ c.load.ensures.2)

pub returns-clause-each : goal.returns-clause-each
returns-clause-each c = saw_each _ _ c.load.ensures.2
