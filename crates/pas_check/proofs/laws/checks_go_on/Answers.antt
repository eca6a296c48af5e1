use Rattle.pas_check.proofs.{Leads.{at_first, by_line, by_none, refused, ended_whole, ended_early}, ActsOfPlans.begun_alike}
use Rattle.pas_check.proofs.laws.checks_go_on.Goals as goal

pub returns-clause-first : goal.returns-clause-first
returns-clause-first c = at_first

pub returns-clause-line : goal.returns-clause-line
returns-clause-line c = by_line

pub returns-clause-none : goal.returns-clause-none
returns-clause-none c = by_none

pub returns-clause-begun : goal.returns-clause-begun
returns-clause-begun c = begun_alike

pub returns-clause-refused : goal.returns-clause-refused
returns-clause-refused c = refused

pub returns-clause-whole : goal.returns-clause-whole
returns-clause-whole c = ended_whole

pub returns-clause-early : goal.returns-clause-early
returns-clause-early c = ended_early
