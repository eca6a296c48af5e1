use Rattle.std.proofs.Common.{refl}
use Rattle.pas_shared.{specs.Passes.IsFreshPass, proofs.Pops.{all_more, first_is, others_are}}
use Rattle.pas_timing.specs.Repeats.{IsReadyToTake}
use Rattle.pas_timing.proofs.steps.table.workers_of.Goals as goal

pub loop-pass-preserved-in-Continue-1 : goal.loop-pass-preserved-in-Continue-1
loop-pass-preserved-in-Continue-1 c =
    let region = c.args.region.now in
    let inv = c.loop-pass.invariant in
    let is = c.in-Some.ensures.steps.0 in
    let fresh = first_is (IsFreshPass region 1) _ _ _ is inv.0 in
    let page = c.page_of.ensures in (
      others_are (IsFreshPass region 1) _ _ _ is inv.0,
      all_more (IsReadyToTake region) _ _ _ c.in_ok-push.ensures.items inv.1 (record {
        has_pass = refl;
        of_region = fresh.of_region;
        may = record { measured = c.requires.profile; fresh = fresh; low = page.low; high = page.high };
      }),
    )

pub loop-pass-preserved : goal.loop-pass-preserved
loop-pass-preserved c = let inv = c.loop-pass.invariant in (others_are (IsFreshPass c.args.region.now 1) _ _ _ c.in-Some.ensures.steps.0 inv.0, inv.1)
