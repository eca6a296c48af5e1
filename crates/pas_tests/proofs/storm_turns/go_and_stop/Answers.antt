use Rattle.pas_tests.proofs.Stormed.{may_stop_then, gone_and_stopped}
use Rattle.pas_tests.proofs.storm_turns.go_and_stop.Goals as goal

pub stop-requires : goal.stop-requires
stop-requires g c = record { can = may_stop_then c.requires.can c.go.ensures.goes }

pub returns-clause-steps : goal.returns-clause-steps
returns-clause-steps g c = gone_and_stopped c.go.ensures.goes c.stop.ensures.stops
