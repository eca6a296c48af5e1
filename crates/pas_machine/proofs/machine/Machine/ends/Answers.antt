use Rattle.pas_machine.proofs.Verdicts.{ends_are}
use Rattle.pas_machine.proofs.machine.Machine.ends.Goals as goal

pub returns-then-place : goal.returns-then-place
returns-then-place c es shows = cc ((ends_are c.args.self.now.profile _ _ _ _ c.args.address.0 c.index-place.result.now c.args.self.now.places.ok.0 c.args.self.now.places_sized c.requires (rw c.grain.ensures at c.index-place.ensures) es shows).0 c.if-place.true)

pub returns-else-place : goal.returns-else-place
returns-else-place c es shows =
    (ends_are c.args.self.now.profile _ _ _ _ c.args.address.0 c.index-place.result.now c.args.self.now.places.ok.0 c.args.self.now.places_sized c.requires
    (rw c.grain.ensures at c.index-place.ensures) es shows).1 c.if-place.false
