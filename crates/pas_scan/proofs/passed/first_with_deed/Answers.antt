use Rattle.std.proofs.{Common.{◌≡◌, inl, inr, arith, subst}, lemmas.Bool.cases_lt}
use Rattle.pas_scan.specs.Passed.{KnowsOther}
use Rattle.pas_scan.proofs.passed.first_with_deed.Goals as goal

pub loop-page-preserved : goal.loop-page-preserved
loop-page-preserved g c p low high = elim (cases_lt p c.loop-page.page) [
  | inl lt ↦ c.loop-page.invariant p low lt
  | inr ge ↦
      let same : c.loop-page.page ≡ p = omega (arith, ge, high) in
      subst (λ q. KnowsOther g.D.Desk.tells (g.D.Desk.standing c.args.desk.now) c.args.deed q) same (c.in-Some.known, c.in-Some.ensures, c.if-known-deed.false)
]
