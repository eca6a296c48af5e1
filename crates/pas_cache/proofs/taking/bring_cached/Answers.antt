use Rattle.std.proofs.Common.{arith, refl, sym}
use Rattle.pas_cache.{proofs.{Resting.{none_any, at_end}, Obtained.{none_at_all, brings, none_cached}}, specs.Locals.is_for}
use Rattle.pas_cache.proofs.taking.bring_cached.Goals as goal

pub returns-in_default : goal.returns-in_default
returns-in_default c = (none_at_all c.args.heap c.args.class _ (sym (none_any (is_for c.args.heap c.args.class) _ c.in_default.ensures).found), refl)

pub returns-then-not-has_slot : goal.returns-then-not-has_slot
returns-then-not-has_slot c = (none_cached _ c.requires c.in-Some.ensures c.if-not-has_slot.ensures, refl)

pub returns-then-place-locals : goal.returns-then-place-locals
returns-then-place-locals c = brings _ c.requires c.in-Some.ensures _ c.if-not-has_slot.ensures (c.move_to_end.ensures _)

pub returns-else-place-locals : goal.returns-else-place-locals
returns-else-place-locals c = brings _ c.requires c.in-Some.ensures _ c.if-not-has_slot.ensures (at_end _ c.in-Some.place _ (omega (arith, c.in-Some.ensures.within)))
