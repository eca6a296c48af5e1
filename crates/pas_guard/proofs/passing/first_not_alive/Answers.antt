use Rattle.std.proofs.{Common.{◌≡◌, inl, inr, arith}, lemmas.Bool.cases_lt}
use Rattle.pas_guard.proofs.passing.first_not_alive.Goals as goal

pub loop-place-preserved : goal.loop-place-preserved
loop-place-preserved g c j low high = elim (cases_lt j c.loop-place.place) [
  | inl lt ↦ c.loop-place.invariant j low lt
  | inr ge ↦
      let tells = g.D.Desk.tells in let σ = g.D.Desk.standing c.args.desk.now in
      let same : c.loop-place.place ≡ j = omega (arith, ge, high) in
      search arith
]
