use Rattle.std.proofs.Common.{◌≡◌, ℕ, [], refl, sym, ap, ◌∙◌, subst, true}
use Rattle.pas_shared.{specs.{Ruled.{among, rows_in}, Benches.first_row}, proofs.{Benching.leaves_as, GivingBack.some_word}}
use Rattle.pas_shared.proofs.leaving.leave.Goals as goal

pub split_seat-requires : goal.split_seat-requires
split_seat-requires g c =
    let fresh = c.requires.fresh in
    let me = c.args.seat.now.me in
    let sits = subst (λ (k : ℕ). among (first_row (rows_in me.0)).actors k ≡ true) (sym c.requires.leaver) fresh.2 in
    let there = ap (λ rs. among (first_row rs).actors g.C.Leaves.leaver) (sym fresh.1.is) ∙ sits in
    (c.requires.of, some_word c.args.region.now, leaves_as _ _ g.C.Leaves.leaver me (record { actors = fresh.1.actors; made = []; base = fresh.1.base }) fresh.0 fresh.1.is refl there)
