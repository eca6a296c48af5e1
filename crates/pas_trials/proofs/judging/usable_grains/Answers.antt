use Rattle.pas_rights.proofs.Orders.{full_mask}
use Rattle.pas_trials.proofs.judging.usable_grains.Goals as goal

pub returns-in-Bitfit : goal.returns-in-Bitfit
returns-in-Bitfit c = λ g lt. full_mask c.args.kind g lt c.in-Bitfit.is
