use Rattle.std.proofs.Common.{arith, [], ◌∷◌, ◌++◌, refl, sym, subst}
use Rattle.pas_steps.{specs.{declared.step.Step.TheVariants.Park, Desks.made}, proofs.Adding.{adds_none, adds_step, adds_call, can_call}}
use Rattle.pas_rights.{specs.{Leaves.ReoffersWhere, Looks.looks, Words.words}, proofs.Orders.knows_parked}
use Rattle.pas_rights.proofs.leaving.park.Goals as goal

pub reoffer-requires-clause-can : goal.reoffer-requires-clause-can
reoffer-requires-clause-can g c =
    search (arith, can_call, adds_call, adds_step, adds_none, knows_parked)

pub returns-then-has_usable-clause-parks : goal.returns-then-has_usable-clause-parks
returns-then-has_usable-clause-parks g c =
    let p = c.args.page in let d = c.args.directory in let later = c.read-later.result in let r = c.reoffer.ensures.reoffers in
    record {
      steps = r.steps ++ (looks p (words later) 4 ++ (made (Park p) c.park.result ∷ []));
      order = record { parked = c.park.result; later = later; usable = c.has_usable.result; usable_is = c.has_usable.ensures; after = r.steps; reoffers = subst (λ t. ReoffersWhere t p d r.steps) (sym c.if-has_usable.true) r.order; steps_are = refl };
      adds = search (arith, adds_call, adds_step, adds_none, knows_parked);
    }

pub returns-else-has_usable-clause-parks : goal.returns-else-has_usable-clause-parks
returns-else-has_usable-clause-parks g c =
    let p = c.args.page in let d = c.args.directory in let later = c.read-later.result in
    record {
      steps = looks p (words later) 4 ++ (made (Park p) c.park.result ∷ []);
      order = record { parked = c.park.result; later = later; usable = c.has_usable.result; usable_is = c.has_usable.ensures; after = []; reoffers = subst (λ t. ReoffersWhere t p d []) (sym c.if-has_usable.false) refl; steps_are = refl };
      adds = adds_call (adds_step adds_none c.park.ensures.makes (λ v l stood met. met.right)) c.read-later.ensures.reads (λ v l stood met. tt);
    }
