use Rattle.std.proofs.Common.{refl, sym, ◌∙◌}
use Rattle.pas_check.proofs.Stretches.{trial_begins, trial_gives, trial_goes_on, trial_lacks, trial_passes, trial_stops}
use Rattle.pas_check.proofs.guarding.take_trial.Goals as goal

pub lines-init : goal.lines-init
lines-init c = record { profile = refl; within = c.requires.within; goes = trial_begins c.requires.within }

pub returns-in_default-clause-taken : goal.returns-in_default-clause-taken
returns-in_default-clause-taken c = trial_lacks c.lines.invariant.goes c.next_line.new.cursor c.next_line.ensures.count c.in_default.ensures.none

pub returns-then-backed-clause-taken : goal.returns-then-backed-clause-taken
returns-then-backed-clause-taken c =
    trial_stops c.lines.invariant.goes c.next_line.new.cursor c.next_line.ensures.count c.requires.valid c.lines.invariant.profile c.lines.invariant.within
    c.in-Some.ensures.some c.read.ensures c.in_default-take_event.ensures.taken c.if-backed.true

pub returns-in_default-take_event-clause-taken : goal.returns-in_default-take_event-clause-taken
returns-in_default-take_event-clause-taken c =
    trial_passes c.lines.invariant.goes c.next_line.new.cursor c.next_line.ensures.count c.requires.valid c.lines.invariant.profile c.lines.invariant.within
    c.in-Some.ensures.some c.read.ensures c.in_default-take_event.ensures.taken c.if-backed.false

pub returns-in-Some-block_in-clause-taken : goal.returns-in-Some-block_in-clause-taken
returns-in-Some-block_in-clause-taken c =
    trial_gives c.lines.invariant.goes c.next_line.new.cursor c.next_line.ensures.count c.requires.valid c.lines.invariant.profile c.lines.invariant.within
    c.in-Some.ensures.some c.read.ensures c.take_event.new.machine c.in-Some-take_event.event c.in-Some-take_event.ensures.taken c.in-Some.ensures.within
    c.in-Some-block_in.block (sym c.block_in.ensures ∙ c.in-Some-block_in.is)

pub lines-preserved : goal.lines-preserved
lines-preserved c = record {
  profile = c.take_event.ensures.profile ∙ c.lines.invariant.profile;
  within = c.in-Some.ensures.within;
  goes = trial_goes_on c.lines.invariant.goes c.next_line.new.cursor c.next_line.ensures.count c.requires.valid c.lines.invariant.profile c.lines.invariant.within
      c.in-Some.ensures.some c.read.ensures c.take_event.new.machine c.in-Some-take_event.event c.in-Some-take_event.ensures.taken c.in-Some.ensures.within
      (sym c.block_in.ensures ∙ c.in_default-block_in.is) c.has_backed-backed.result c.has_backed-backed.ensures;
}
