use Rattle.std.proofs.Common.{sym}
use Rattle.pas_machine.specs.Machines.{profile_of}
use Rattle.pas_check.proofs.Pages.{none_live}
use Rattle.pas_check.proofs.reporting.live_there.Goals as goal

pub returns-in-None : goal.returns-in-None
returns-in-None c = λ es stands. sym (none_live es (profile_of c.args.machine.now) stands.run c.args.page (sym (c.in-None.ensures es stands)))
