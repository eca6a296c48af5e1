use Rattle.std.proofs.Common.{◌+◌, subst, sym}
use Rattle.pas_bits.specs.Masks.{is_set}
use Rattle.pas_bestfit.proofs.{Searched.{SoFar, preferred, not_preferred, none_fits}, best.BestPlacing.place.Goals.{then-is_preferred, else-is_preferred}}
use Rattle.pas_bestfit.proofs.best.BestPlacing.place.Goals as goal

pub loop-run-preserved : goal.loop-run-preserved
loop-run-preserved c =
    let r = is_set c.args.free.now in let n = c.args.self.now.grains in let from = c.loop-run.from in let best = c.loop-run.best in
    let run = c.in-Some.run' in let next = c.in-Some.ensures in let so_far = c.loop-run.invariant.1 in (
      next.is_run.within,
      elim c.if-is_preferred.branch [
        | then-is_preferred w ↦ subst (SoFar r n (run.first + run.length)) (sym w.best-is) (preferred r n from run next best w.if-is_preferred.ensures so_far)
        | else-is_preferred w ↦ subst (SoFar r n (run.first + run.length)) (sym w.best-is) (not_preferred r n from run next best w.if-is_preferred.ensures so_far)
      ],
    )

pub returns-in_err-best : goal.returns-in_err-best
returns-in_err-best c =
    let r = is_set c.args.free.now in let n = c.args.self.now.grains in let from = c.loop-run.from in
    rw c.from_residual.ensures (none_fits r n from c.requires.asked.0 (subst (SoFar r n from) c.in_err-best.was c.loop-run.invariant.1) c.in_default.ensures)
