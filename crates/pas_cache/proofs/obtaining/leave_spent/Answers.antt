use Rattle.std.{proofs.Common.{◌<◌, ◌≡◌, false, length, subst}, specs.List.list_any}
use Rattle.pas_cache.{specs.Locals.is_for, proofs.Obtained.{leaves_none, leaves_spent}}
use Rattle.pas_cache.proofs.obtaining.leave_spent.Goals as goal

pub stop_at-requires-clause-place : goal.stop_at-requires-clause-place
stop_at-requires-clause-place g c = subst (λ xs. c.in-Some.place < length xs) c.deref.ensures.0 c.in-Some.ensures.within

pub returns-in-Some-clause-leaves : goal.returns-in-Some-clause-leaves
returns-in-Some-clause-leaves g c = leaves_spent _ _ (rw c.deref.ensures.0 at c.in-Some.ensures) c.requires.none c.requires.can c.stop_at.ensures.stops

pub returns-in_default-clause-leaves : goal.returns-in_default-clause-leaves
returns-in_default-clause-leaves g c = leaves_none _ _ (subst (λ xs. list_any (is_for c.args.heap c.args.class) xs ≡ false) c.deref.ensures.0 c.in_default.ensures)
