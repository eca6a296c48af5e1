use Rattle.std.proofs.Common.{ap, sym, subst}
use Rattle.pas_bits.specs.Masks.{is_set}
use Rattle.pas_search.specs.declared.placing.Run.{Run}
use Rattle.pas_bestfit.{specs.Bests.IsBestFit, proofs.Shortest.shortest}
use Rattle.pas_bestfit.proofs.region.BestRanking.rank.Goals as goal

pub returns : goal.returns
returns c = let n = c.args.self.now.grains in let run = c.in_ok-first.field-0 in let placed = c.in_ok-first.ensures in let end = c.run_end-end in
    shortest c.args.free.now n run.first end.result (subst (IsBestFit n (is_set c.args.free.now)) (sym (ap (λ (x : Run). x.first) placed.run_is)) placed.chosen)
    record { above = end.ensures.above; within = end.ensures.within; set = end.ensures.set; clear = end.ensures.clear }
