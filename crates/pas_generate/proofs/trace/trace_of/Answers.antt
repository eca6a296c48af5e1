use Rattle.std.proofs.Common.{arith, rules}
use Rattle.pas_generate.proofs.Whole.{no_state, no_lines, more_state, more_lines}
use Rattle.pas_generate.proofs.trace.trace_of.Goals as goal

pub loop-done-init : goal.loop-done-init
loop-done-init c = search (arith, no_state, rules, no_lines)

pub loop-done-preserved : goal.loop-done-preserved
loop-done-preserved c = search (arith, more_state, rules, more_lines)
