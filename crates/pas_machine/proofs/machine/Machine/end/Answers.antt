use Rattle.pas_profile.specs.declared.event.Event.{Event}
use Rattle.std.proofs.Common.{refl}
use Rattle.pas_machine.proofs.Verdicts.{end_made, shown_after}
use Rattle.pas_machine.proofs.machine.Machine.end.Goals as goal

pub returns-in-Err-clause-steps : goal.returns-in-Err-clause-steps
returns-in-Err-clause-steps c k = (refl, c.in-Err.ensures.reason k c.args.epoch)

pub invariant_of-self-clause-shown : goal.invariant_of-self-clause-shown
invariant_of-self-clause-shown c = rw c.bare.ensures (shown_after c.args.self.now.profile _ _ _ _ _ _ (Event.End 0 c.args.name c.args.epoch)
    (end_made c.args.self.now.profile _ _ _ _ _ _ _ _ c.args.name c.args.epoch c.in-Ok.block c.index.result.now c.grain-first.ensures c.grains.ensures c.in-Ok.ensures.place
    c.args.self.now.places.ok.0 c.args.self.now.places_sized c.index.ensures c.cover.ensures.set c.cover.ensures.below c.cover.ensures.above c.note_end.ensures.set c.note_end.ensures.below c.note_end.ensures.above
    c.in-Ok.ensures.live 0) c.args.self.now.shown)

pub returns-clause-steps : goal.returns-clause-steps
returns-clause-steps c = rw c.bare.ensures (end_made c.args.self.now.profile _ _ _ _ _ _ _ _ c.args.name c.args.epoch c.in-Ok.block c.index.result.now c.grain-first.ensures c.grains.ensures c.in-Ok.ensures.place
    c.args.self.now.places.ok.0 c.args.self.now.places_sized c.index.ensures c.cover.ensures.set c.cover.ensures.below c.cover.ensures.above c.note_end.ensures.set c.note_end.ensures.below c.note_end.ensures.above
    c.in-Ok.ensures.live)
