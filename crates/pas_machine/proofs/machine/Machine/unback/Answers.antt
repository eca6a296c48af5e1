use Rattle.std.proofs.Common.{refl}
use Rattle.pas_profile.specs.declared.event.Event.{Event}
use Rattle.pas_machine.proofs.Verdicts.{unback_made, shown_after}
use Rattle.pas_machine.proofs.machine.Machine.unback.Goals as goal

pub returns-in-Some-clause-steps : goal.returns-in-Some-clause-steps
returns-in-Some-clause-steps c k = (refl, c.in-Some.ensures.verdict k)

pub invariant_of-self-clause-shown : goal.invariant_of-self-clause-shown
invariant_of-self-clause-shown c = shown_after c.args.self.now.profile _ _ _ _ _ _ (Event.Unback 0 c.args.page c.args.epoch)
    (unback_made c.args.self.now.profile _ _ _ _ c.args.page c.index_mut.result.now c.args.self.now.pages.ok.0 c.args.self.now.pages_sized (c.in_default.ensures.inside refl)
    c.index_mut.ensures.value c.args.epoch c.in_default.ensures.verdict 0) c.args.self.now.shown

pub returns-clause-steps : goal.returns-clause-steps
returns-clause-steps c = unback_made c.args.self.now.profile _ _ _ _ c.args.page c.index_mut.result.now c.args.self.now.pages.ok.0 c.args.self.now.pages_sized
    (c.in_default.ensures.inside refl) c.index_mut.ensures.value c.args.epoch c.in_default.ensures.verdict
