use Rattle.std.proofs.Common.{inl, inr, arith}
use Rattle.pas_bestfit.proofs.laws.one_run_is_best.Goals as goal

-- each of the two serves no better than the other
pub returns : goal.returns
returns c grains g h r one other = elim (one.best h other.length other.run other.enough) [
  | inl better ↦ elim (other.best g one.length one.run one.enough) [
    | inl worse ↦ absurd (omega (arith, better, worse))
    | inr same ↦ let e = same.0 in absurd (omega (arith, better, e))
  ]
  | inr same ↦ let e = same.0 in let low = same.1 in elim (other.best g one.length one.run one.enough) [
    | inl better ↦ absurd (omega (arith, e, better))
    | inr back ↦ let high = back.1 in omega (arith, low, high)
  ]
]
