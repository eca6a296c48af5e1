use Rattle.pas_calls.proofs.Whole.{replay_accepted}
use Rattle.pas_calls.proofs.acceptance.replays_are_accepted.Goals as goal

pub returns : goal.returns
returns c = replay_accepted
