use Rattle.std.proofs.{Common.{le-ltb, arith}, lemmas.List.{drop_more, drop_all}}
use Rattle.pas_trace.proofs.Digits.{value-grows, if-false, value-step}
use Rattle.pas_trace.proofs.numbers.value_of_digits.Goals as goal

pub returns-then-value-digit : goal.returns-then-value-digit
returns-then-value-digit c = search (arith, drop_more, if-false, le-ltb, value-grows)

pub loop-byte-preserved : goal.loop-byte-preserved
loop-byte-preserved c =
    search (arith, value-step, drop_more)

pub returns : goal.returns
returns c = search (arith, drop_all)
