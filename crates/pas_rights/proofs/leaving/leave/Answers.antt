use Rattle.std.proofs.{Common.{arith, false, sym, subst}, lemmas.Bool.MatchBool-at_false}
use Rattle.pas_profile.proofs.Codecs.{directory_from_profile}
use Rattle.pas_steps.proofs.Adding.{adds_under, can_call}
use Rattle.pas_rights.{specs.{Leaves.EndsLeave, Looks.{HasUsable, HasNoUsable}}, proofs.Orders.{may_still, leaves_by, none_used}}
use Rattle.pas_rights.proofs.leaving.leave.Goals as goal

pub offer-requires-clause-can : goal.offer-requires-clause-can
offer-requires-clause-can g c = search (arith, can_call, adds_under, may_still)

pub park-requires-clause-can : goal.park-requires-clause-can
park-requires-clause-can g c = search (arith, can_call, adds_under, may_still)

pub returns-then-has_usable-clause-leaves : goal.returns-then-has_usable-clause-leaves
returns-then-has_usable-clause-leaves g c =
    let p = c.args.page in let d = c.args.directory in let e = c.offer.ensures.offers in
    leaves_by _ _ p d _ (directory_from_profile _ d (g.met.D.Desk.valid c.args.desk.now) c.requires.directory) c.read-free.ensures.reads c.has_usable.ensures c.is_all_free.ensures e.steps e.adds
    (subst (λ t. EndsLeave t p d c.is_all_free.result e.steps) (sym c.if-has_usable.true) e.order)

pub returns-else-has_usable-clause-leaves : goal.returns-else-has_usable-clause-leaves
returns-else-has_usable-clause-leaves g c =
    let p = c.args.page in let d = c.args.directory in let free = c.read-free.result in let e = c.park.ensures.parks in
    let is = directory_from_profile _ d (g.met.D.Desk.valid c.args.desk.now) c.requires.directory in
    leaves_by _ false p d free is c.read-free.ensures.reads c.has_usable.ensures
    (none_used d free is (MatchBool-at_false (HasUsable d free) (HasNoUsable d free) c.if-has_usable.false c.has_usable.ensures)) e.steps e.adds
    (subst (λ t. EndsLeave t p d false e.steps) (sym c.if-has_usable.false) e.order)
