use Rattle.std.proofs.{Common.{◌-◌, ◌∙◌, sym, arith, length-drop}, lemmas.List.take_rest}
use Rattle.pas_check.proofs.Pages.{past_mark, past_line, same_rest}
use Rattle.pas_check.proofs.splitting.split.Goals as goal

pub returns-then-is_mark_line-clause-transcript : goal.returns-then-is_mark_line-clause-transcript
returns-then-is_mark_line-clause-transcript c =
    sym (c.loop-count.invariant.transcript
    ∙ past_mark c.args.input.now c.loop-count.place c.in-Some.count c.in-Some.ensures.some.1 (sym c.is_mark_line.ensures ∙ c.if-is_mark_line.true))

pub loop-count-preserved : goal.loop-count-preserved
loop-count-preserved c =
    search (arith, take_rest, length-drop, past_line, same_rest)
