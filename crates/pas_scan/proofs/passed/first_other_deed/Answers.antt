use Rattle.std.proofs.{Common.{inl, inr, arith}, lemmas.Bool.cases_lt}
use Rattle.pas_scan.proofs.passed.first_other_deed.Goals as goal

pub loop-page-preserved : goal.loop-page-preserved
loop-page-preserved g c p low high = elim (cases_lt p c.loop-page.page) [
  | inl lt ↦ c.loop-page.invariant p low lt
  | inr ge ↦
      search arith
]

pub returns : goal.returns
returns g c = record {
  from_there = c.requires.from.1;
  within = omega arith;
  of = λ p low high. c.loop-page.invariant p low (omega (arith, high, c.loop-page-test.false));
}
