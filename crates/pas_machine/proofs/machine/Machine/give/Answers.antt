use Rattle.std.proofs.Common.{refl}
use Rattle.pas_profile.specs.{declared.event.Event.Event, Blocks.address_of}
use Rattle.pas_machine.proofs.Verdicts.{admits_of, place_at, gives_are, give_made, shown_after}
use Rattle.pas_machine.proofs.machine.Machine.give.Goals as goal

pub returns-in-Some-clause-steps : goal.returns-in-Some-clause-steps
returns-in-Some-clause-steps c k = (refl, c.in-Some.ensures.verdict k)

pub returns-then-gives-clause-steps : goal.returns-then-gives-clause-steps
returns-then-gives-clause-steps c k = (
  refl,
  λ es shows.
      let f = c.args.self.now.profile in
      let block = c.args.block in
      let inside = c.in_default.ensures.inside refl in
      let read = rw c.grain-first.ensures at c.index.ensures in
      let p = place_at f _ _ _ es shows block inside c.args.self.now.places.len c.args.self.now.places.ok.0 c.args.self.now.places_sized c.index.result.now read in
      (admits_of f es (Event.Give k block) (c.in_default.ensures.verdict k es shows), cc (gives_are es (address_of block.name) inside.whole.aligned c.index.result.now p)),
)

pub invariant_of-self-clause-shown : goal.invariant_of-self-clause-shown
invariant_of-self-clause-shown c = shown_after c.args.self.now.profile _ _ _ _ _ _ (Event.Give 0 c.args.block)
    (give_made c.args.self.now.profile _ _ _ _ _ _ _ c.args.block c.index.result.now c.grain-first.ensures c.grains.ensures (c.in_default.ensures.inside refl) c.args.self.now.places.ok.0
    c.args.self.now.places_sized c.index.ensures c.cover.ensures.set c.cover.ensures.below c.cover.ensures.above c.in_default.ensures.verdict 0) c.args.self.now.shown

pub returns-clause-steps : goal.returns-clause-steps
returns-clause-steps c = give_made c.args.self.now.profile _ _ _ _ _ _ _ c.args.block c.index.result.now c.grain-first.ensures c.grains.ensures (c.in_default.ensures.inside refl) c.args.self.now.places.ok.0
    c.args.self.now.places_sized c.index.ensures c.cover.ensures.set c.cover.ensures.below c.cover.ensures.above c.in_default.ensures.verdict
