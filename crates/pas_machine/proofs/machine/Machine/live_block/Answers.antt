use Rattle.std.proofs.Common.{◌∙◌, sym}
use Rattle.pas_machine.proofs.Verdicts.{found_live, found_other}
use Rattle.pas_machine.proofs.machine.Machine.live_block.Goals as goal

pub returns-in-Some : goal.returns-in-Some
returns-in-Some c es shows =
    found_live shows c.args.name.now c.requires c.args.self.now.places.len c.args.self.now.places.ok.0 c.args.self.now.places_sized c.index.result.now (rw c.grain.ensures at c.index.ensures) c.in-Some.block
    (sym c.block_at.ensures ∙ c.in-Some.is) c.if-block-name.true

pub returns-in_default : goal.returns-in_default
returns-in_default c es shows =
    found_other shows c.args.name.now c.requires c.args.self.now.places.len c.args.self.now.places.ok.0 c.args.self.now.places_sized c.index.result.now (rw c.grain.ensures at c.index.ensures) c.in-Some.block
    (sym c.block_at.ensures ∙ c.in-Some.is) c.if-block-name.false
