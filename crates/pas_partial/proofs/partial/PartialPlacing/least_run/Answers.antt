use Rattle.std.proofs.Common.{◌≤◌, ◌/◌, arith, refl, subst, sym}
use Rattle.pas_profile.proofs.Sizes.{usable_grains_le}
use Rattle.pas_search.specs.Placements.{IsLeastRun}
use Rattle.pas_partial.specs.Rows.{lowest_rows}
use Rattle.pas_partial.proofs.partial.PartialPlacing.least_run.Goals as goal

pub returns : goal.returns
returns c =
    let class = c.args.self.now.class in
    subst (λ size. IsLeastRun (lowest_rows class) (record { grains = size / 16; align = size / 16 })) (sym c.class_size.ensures)
    (record { unfit = λ r none s start free. none s start.aligned (omega (arith, start.within, usable_grains_le class c.requires)) free; usable = λ g. refl })
