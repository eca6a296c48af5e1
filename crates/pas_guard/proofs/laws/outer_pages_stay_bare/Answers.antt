use Rattle.pas_guard.proofs.Keepers.{stands_through, stands_from_give}
use Rattle.pas_guard.proofs.laws.outer_pages_stay_bare.Goals as goal

pub returns-clause-given : goal.returns-clause-given
returns-clause-given c = stands_from_give

pub returns-clause-up : goal.returns-clause-up
returns-clause-up c = stands_through
