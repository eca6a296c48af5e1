use Rattle.pas_generate.proofs.Checks.{valid}
use Rattle.pas_generate.proofs.laws.requests_are_valid.Goals as goal

pub returns : goal.returns
returns c = valid
