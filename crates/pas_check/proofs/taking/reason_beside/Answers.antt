use Rattle.std.proofs.Common.{arith}
use Rattle.pas_check.proofs.OneNext.{ended_before, may_end, not_yet, other_room}
use Rattle.pas_check.proofs.taking.reason_beside.Goals as goal

pub returns-then-entry-block : goal.returns-then-entry-block
returns-then-entry-block c = search (arith, ended_before, c.if-entry-block.true)

pub returns-then-entry-block-2 : goal.returns-then-entry-block-2
returns-then-entry-block-2 c = search (arith, not_yet, c.if-entry-block-2.true)

pub returns-then-entry-block-3 : goal.returns-then-entry-block-3
returns-then-entry-block-3 c = search (arith, other_room, c.if-entry-block.false, c.if-entry-block-2.false, c.if-entry-gt0.true, c.if-entry-block-3.true)

pub returns : goal.returns
returns c = search (arith, may_end, c.if-entry-block.false, c.if-entry-block-2.false, c.else-entry-gt0.branch)
