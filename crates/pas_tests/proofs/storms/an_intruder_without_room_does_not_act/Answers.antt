use Rattle.std.proofs.Common.{[]}
use Rattle.pas_tests.proofs.storms.an_intruder_without_room_does_not_act.Goals as goal

-- the desk stands for no steps, beside any list
pub epochs-requires : goal.epochs-requires
epochs-requires g c = record { of_region = tt; view = []; whole = []; stood = c.in_ok-storm.ensures.stands []; allowed = tt }
