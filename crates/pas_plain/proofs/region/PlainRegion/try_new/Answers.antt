use Rattle.std.proofs.Common.{◌+◌, ◌≤◌, length, arith}
use Rattle.pas_plain.proofs.Desks.{passes_stand}
use Rattle.pas_plain.proofs.region.PlainRegion.try_new.Goals as goal

pub returns-clause-stand : goal.returns-clause-stand
returns-clause-stand c =
    let few : 0 + length c.args.rooms.items ≤ c.args.profile.threads + 1 = omega (arith, c.requires.actors, c.args.rooms.ok.0) in
    rw c.in_ok-passes.ensures (passes_stand c.args.profile 0 c.args.rooms.items few c.requires.empty)
