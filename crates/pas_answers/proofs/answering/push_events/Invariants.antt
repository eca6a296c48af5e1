-- the events so far were added
use Rattle.std.proofs.Common.{◌≡◌, ◌++◌, take, drop, map}
use Rattle.pas_answers.proofs.Common.{records_in, room_of, Record}
use Rattle.pas_answers.proofs.answering.push_events.Given as goal

abbrev pub invariant-loop-event : goal.invariant-loop-event
invariant-loop-event l = record {
  added : records_in l.out ≡ records_in l.fn.out ++ map Record.Event (take l.event-index (drop l.before l.shown));
  room : room_of l.out ≡ room_of l.fn.out;
}
