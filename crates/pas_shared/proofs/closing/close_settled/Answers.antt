use Rattle.std.proofs.Common.{subst}
use Rattle.pas_steps.specs.Lists.{Whole}
use Rattle.pas_shared.{specs.Ruled.IsEarlier, proofs.Ruling.ends}
use Rattle.pas_shared.proofs.closing.close_settled.Goals as goal

pub returns : goal.returns
returns c =
    let last = ends c.args.region.profile _ _ c.args.passes.items c.words_left.ensures c.join_all.ensures.passes in
    record {
      ends = record { profile = c.words_left.ensures.profile; after = last.0 };
      begins = subst (λ (l : Whole). IsEarlier l last.0.whole) c.join_all.ensures.seen last.1;
    }
