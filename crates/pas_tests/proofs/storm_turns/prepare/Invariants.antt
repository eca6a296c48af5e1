use Rattle.std.proofs.Common.{◌≡◌}
use Rattle.pas_plain.specs.{Plain.{profile_of, room_of_pass, forgotten_by}, Seats.{region_of, pass_of}}
use Rattle.pas_tests.specs.Seated.{RestsBeside}
use Rattle.pas_trials.specs.Storms.{cache_of}
use Rattle.pas_tests.proofs.storm_turns.prepare.Given as goal

-- the actor is at rest beside the other one after each errand
abbrev pub invariant-loop-errand : goal.invariant-loop-errand
invariant-loop-errand l = record {
  rest : RestsBeside l.desk l.foreign (cache_of l.hands);
  room : room_of_pass (pass_of l.desk) ≡ 1000;
  all : forgotten_by (pass_of l.desk) ≡ 0;
  profile : profile_of (region_of l.desk) ≡ profile_of (region_of l.initial.desk);
}
