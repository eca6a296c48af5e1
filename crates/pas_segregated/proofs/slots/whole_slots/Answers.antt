use Rattle.std.proofs.Common.{◌/◌, subst}
use Rattle.pas_segregated.proofs.Starts.{whole_is}
use Rattle.pas_bits.proofs.MovedMasks.{BeginRuns}
use Rattle.pas_segregated.proofs.slots.whole_slots.Goals as goal

pub returns : goal.returns
returns c =
    let class = c.args.class in let grains = c.args.grains.now in
    whole_is class grains c.runs.result c.all_starts.result c.both.result (subst (λ size. BeginRuns grains (size / 16) c.runs.result) c.class_size.ensures c.runs.ensures) c.all_starts.ensures c.both.ensures
