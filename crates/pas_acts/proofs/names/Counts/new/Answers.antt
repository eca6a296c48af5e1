use Rattle.pas_acts.proofs.Noting.{none_yet}
use Rattle.pas_acts.proofs.names.Counts.new.Goals as goal

pub returns : goal.returns
returns c = λ k. none_yet 256 k
