use Rattle.std.proofs.Common.{rules, arith, ◌/◌}
use Rattle.pas_rights.proofs.Puts.{other_words_empty, may_put_one, puts_one}
use Rattle.pas_rights.proofs.putting.put_run.Goals as goal

pub put-requires-clause-can : goal.put-requires-clause-can
put-requires-clause-can g c = c.requires.can c.run-mask.result c.run-mask.ensures

pub put_word-requires-clause-can : goal.put_word-requires-clause-can
put_word-requires-clause-can g c =
    let m = c.run-mask.result in let empty = other_words_empty c.args.first c.args.grains m c.run-mask.ensures c.if-first-grains-gt64.false (λ w. search rules) in
    let can = c.requires.can m c.run-mask.ensures in
    record { view = can.view; whole = can.whole; stood = can.stood; met = may_put_one c.args.page (c.args.first / 64) m empty can.view can.met }

pub returns-then-first-grains-gt64-clause-puts : goal.returns-then-first-grains-gt64-clause-puts
returns-then-first-grains-gt64-clause-puts g c = record { mask = c.run-mask.result; is = c.run-mask.ensures; puts = c.put.ensures.puts }

pub returns-clause-puts : goal.returns-clause-puts
returns-clause-puts g c =
    let m = c.run-mask.result in let empty = other_words_empty c.args.first c.args.grains m c.run-mask.ensures c.if-first-grains-gt64.false (λ w. search rules) in
    record { mask = m; is = c.run-mask.ensures; puts = puts_one c.args.page (c.args.first / 64) m empty (omega (arith, c.requires.within)) c.put_word.ensures.puts }
