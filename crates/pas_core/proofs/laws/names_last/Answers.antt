use Rattle.pas_core.proofs.Lives.{given_kept}
use Rattle.pas_core.proofs.laws.names_last.Goals as goal

pub returns-clause-kept : goal.returns-clause-kept
returns-clause-kept c = given_kept
