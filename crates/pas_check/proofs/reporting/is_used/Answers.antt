use Rattle.std.proofs.Common.{◌+◌, ◌*◌}
use Rattle.pas_machine.specs.Machines.{profile_of}
use Rattle.pas_check.proofs.Pages.{covered_is}
use Rattle.pas_check.proofs.reporting.is_used.Goals as goal

pub returns : goal.returns
returns c = λ es stands. covered_is (profile_of c.args.machine.now) es stands.run (256 * c.args.page + c.args.grain) c.is_covered.result (c.is_covered.ensures es stands)
