use Rattle.std.proofs.Common.{[]}
use Rattle.pas_tests.proofs.plain.a_closed_desk_steps.Goals as goal

-- the closed desk stands for no steps, beside any list
pub epochs-requires : goal.epochs-requires
epochs-requires g c = record { of_region = tt; view = []; whole = []; stood = c.new-closed.ensures.stands [] [] [] c.in_ok-alone.ensures.fresh; allowed = tt }
