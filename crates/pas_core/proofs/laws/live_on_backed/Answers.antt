use Rattle.pas_core.proofs.MachineRuns.{lists_borne}
use Rattle.pas_core.proofs.laws.live_on_backed.Goals as goal

pub returns-clause-backed : goal.returns-clause-backed
returns-clause-backed c = lists_borne
