use Rattle.std.proofs.Common.{sym}
use Rattle.pas_machine.specs.Machines.{profile_of}
use Rattle.pas_check.proofs.Pages.{none_given}
use Rattle.pas_check.proofs.reporting.given_there.Goals as goal

pub returns-in-None-clause-given : goal.returns-in-None-clause-given
returns-in-None-clause-given c = λ es stands. sym (none_given es (profile_of c.args.machine.now) stands.run c.args.page (sym (c.in-None.ensures es stands)))
