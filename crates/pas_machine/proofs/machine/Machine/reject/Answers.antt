use Rattle.std.proofs.Common.{arith}
use Rattle.pas_machine.proofs.Verdicts.{same_cover, admits_of}
use Rattle.pas_profile.specs.declared.event.Event.{Event}
use Rattle.pas_machine.proofs.machine.Machine.reject.Goals as goal

pub returns-in-None : goal.returns-in-None
returns-in-None c k es shows =
    let may = admits_of c.args.self.now.profile es (Event.Reject k c.args.name c.args.why) (c.in-None.ensures k es shows) in
    (may, search (arith, same_cover))
