use Rattle.std.proofs.Common.{refl, sym, ◌∙◌}
use Rattle.pas_check.proofs.Stretches.{request_begins, request_fails, request_gives, request_goes_on, request_lacks, request_refused}
use Rattle.pas_check.proofs.requesting.take_request.Goals as goal

pub lines-init : goal.lines-init
lines-init c = record { profile = refl; within = c.requires.within; goes = request_begins c.requires.within }

pub returns-in_default-clause-taken : goal.returns-in_default-clause-taken
returns-in_default-clause-taken c = request_lacks c.lines.invariant.goes c.next_line.new.cursor c.next_line.ensures.count c.in_default.ensures.none

pub returns-then-is_refusal-clause-taken : goal.returns-then-is_refusal-clause-taken
returns-then-is_refusal-clause-taken c =
    request_refused c.lines.invariant.goes c.next_line.new.cursor c.next_line.ensures.count c.requires.valid c.lines.invariant.profile c.lines.invariant.within
    c.in-Some.ensures.some c.read-found.ensures c.in-Some.ensures.within c.in_default-take_event.ensures.taken c.if-is_refusal.ensures

pub returns-in_default-take_event-clause-taken : goal.returns-in_default-take_event-clause-taken
returns-in_default-take_event-clause-taken c =
    request_fails c.lines.invariant.goes c.next_line.new.cursor c.next_line.ensures.count c.requires.valid c.lines.invariant.profile c.lines.invariant.within
    c.in-Some.ensures.some c.read-found.ensures c.in_default-take_event.ensures.taken c.if-is_refusal.ensures

pub returns-in-Some-block_in-clause-taken : goal.returns-in-Some-block_in-clause-taken
returns-in-Some-block_in-clause-taken c =
    request_gives c.lines.invariant.goes c.next_line.new.cursor c.next_line.ensures.count c.requires.valid c.lines.invariant.profile c.lines.invariant.within
    c.in-Some.ensures.some c.read-found.ensures c.take_event.new.machine c.in-Some-take_event.event c.in-Some-take_event.ensures.taken c.in-Some.ensures.within
    c.in-Some-block_in.block (sym c.block_in.ensures ∙ c.in-Some-block_in.is)

pub lines-preserved : goal.lines-preserved
lines-preserved c = record {
  profile = c.take_event.ensures.profile ∙ c.lines.invariant.profile;
  within = c.in-Some.ensures.within;
  goes = request_goes_on c.lines.invariant.goes c.next_line.new.cursor c.next_line.ensures.count c.requires.valid c.lines.invariant.profile c.lines.invariant.within
      c.in-Some.ensures.some c.read-found.ensures c.take_event.new.machine c.in-Some-take_event.event c.in-Some-take_event.ensures.taken c.in-Some.ensures.within
      (sym c.block_in.ensures ∙ c.in_default-block_in.is);
}
