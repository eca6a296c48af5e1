use Rattle.std.proofs.Common.{◌≡◌, ◌*◌, ◌/◌, ◌<◌, arith}
use Rattle.pas_machine.{specs.Places.grains_of, proofs.Verdicts.block_is}
use Rattle.pas_machine.proofs.machine.Machine.block_at.Goals as goal

pub returns : goal.returns
returns c es shows =
    let within : c.args.grain < grains_of c.args.self.now.profile = c.requires in
    let same : 16 * c.args.grain / 16 ≡ c.args.grain = omega arith in
    cc (block_is c.args.self.now.profile _ _ _ es shows (record { 0 = 16 * c.args.grain }) (omega arith) (omega (arith, within)) c.args.self.now.places.len c.args.self.now.places.ok.0 c.args.self.now.places_sized c.index.result.now (rw same c.index.ensures))
