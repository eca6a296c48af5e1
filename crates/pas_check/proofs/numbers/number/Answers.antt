use Rattle.std.proofs.{Common.arith, lemmas.List.drop_more}
use Rattle.pas_check.proofs.Readings.{too_large}
use Rattle.pas_check.proofs.numbers.number.Goals as goal

pub returns-then-value-digit : goal.returns-then-value-digit
returns-then-value-digit c = search (arith, drop_more, too_large)
