use Rattle.std.proofs.{Common.arith, lemmas.Fmt.length-decimal-le}
use Rattle.pas_records.proofs.text.U64Number.wide.Goals as goal

pub returns-clause-fits : goal.returns-clause-fits
returns-clause-fits c = length-decimal-le 20 c.args.self (omega arith) (omega arith) (omega arith)
