-- the records of the outcomes so far were added
use Rattle.std.proofs.Common.{◌≡◌, ◌++◌, take, map}
use Rattle.pas_answers.proofs.Common.{records_in, room_of, record_of}
use Rattle.pas_answers.proofs.passing.push_outcomes.Given as goal

abbrev pub invariant-loop-page : goal.invariant-loop-page
invariant-loop-page l = record {
  added : records_in l.out ≡ records_in l.fn.out ++ map (λ p. record_of l.actor l.epoch p.0 p.1) (take l.page-index l.found);
  room : room_of l.out ≡ room_of l.fn.out;
}
