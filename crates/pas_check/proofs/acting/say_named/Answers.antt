use Rattle.pas_check.proofs.Actings.{said_named}
use Rattle.pas_check.proofs.acting.say_named.Goals as goal

pub returns-clause-taken : goal.returns-clause-taken
returns-clause-taken c = λ f act says.
    said_named c.args.k c.args.name c.args.block c.args.said c.requires.within says c.set.new.self c.set.ensures.names c.take_record.ensures.led
