use Rattle.std.proofs.{Common.{arith, drop_of_length-le}, lemmas.List.drop_more}
use Rattle.pas_profile.specs.{Guards.raised_by, declared.guard.Raised.Raised}
use Rattle.pas_check.proofs.Stretches.{sweep_begins, sweep_lowers, sweep_stays}
use Rattle.pas_check.proofs.guarding.take_lowered.Goals.{else-goes_down-via-then-goes_down+else-not-take_record, else-goes_down-via-else-goes_down}
use Rattle.pas_check.proofs.guarding.take_lowered.Goals as goal

abbrev nobody : Raised
nobody = raised_by 0 record { low = 0; high = 0; block = record { name = record { address = record { 0 = 0 }; turn = 0 }; room = 0; heap = 0 } }

pub loop-guard-init : goal.loop-guard-init
loop-guard-init c = record { within = c.requires.within; goes = sweep_begins c.requires.within }

pub returns-then-not-take_record-clause-taken : goal.returns-then-not-take_record-clause-taken
returns-then-not-take_record-clause-taken c =
    let before = rw (drop_more c.args.guards.now c.loop-guard.guard-index nobody c.loop-guard-test.true) at c.loop-guard.invariant.goes in
    record { swept = (sweep_lowers before c.if-goes_down.ensures (rw c.lowered.ensures at c.if-not-take_record.ensures.led)).swept }

pub loop-guard-preserved : goal.loop-guard-preserved
loop-guard-preserved c =
    let before = rw (drop_more c.args.guards.now c.loop-guard.guard-index nobody c.loop-guard-test.true) at c.loop-guard.invariant.goes in
    elim c.else-goes_down.branch [
      | else-goes_down-via-then-goes_down+else-not-take_record w ↦ rw w.cursor-is record {
        within = w.if-not-take_record.ensures.within;
        goes = sweep_lowers before w.if-goes_down.ensures (rw w.lowered.ensures at w.if-not-take_record.ensures.led);
      }
      | else-goes_down-via-else-goes_down w ↦ search (arith, sweep_stays)
    ]

pub returns-clause-taken : goal.returns-clause-taken
returns-clause-taken c = rw (drop_of_length-le c.args.guards.now c.loop-guard-test.false) at c.loop-guard.invariant.goes
