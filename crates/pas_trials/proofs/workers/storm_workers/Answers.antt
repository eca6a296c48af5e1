use Rattle.std.proofs.Common.{arith, ◌∙◌}
use Rattle.pas_shared.{specs.Passes.IsFreshPass, proofs.Pops.{all_more, first_is, others_are}}
use Rattle.pas_trials.proofs.workers.storm_workers.Goals as goal

pub loop-pass-preserved-then-actor-lt1 : goal.loop-pass-preserved-then-actor-lt1
loop-pass-preserved-then-actor-lt1 c =
    let inv = c.loop-pass.invariant in
    record { threads = inv.threads; rest = others_are (IsFreshPass c.args.region.now c.args.events) _ _ _ c.in-Some.ensures.steps.0 inv.rest; ready = inv.ready }

pub loop-pass-preserved-in_default : goal.loop-pass-preserved-in_default
loop-pass-preserved-in_default c =
    let inv = c.loop-pass.invariant in
    record { threads = c.cache_seat.ensures.threads ∙ inv.threads; rest = others_are (IsFreshPass c.args.region.now c.args.events) _ _ _ c.in-Some.ensures.steps.0 inv.rest; ready = inv.ready }

pub loop-pass-preserved : goal.loop-pass-preserved
loop-pass-preserved c =
    let inv = c.loop-pass.invariant in
    let region = c.args.region.now in
    let events = c.args.events in
    let is = c.in-Some.ensures.steps.0 in
    let fresh = first_is (IsFreshPass region events) _ _ _ is inv.rest in
    record {
      threads = c.cache_seat.ensures.threads ∙ inv.threads;
      rest = others_are (IsFreshPass region events) _ _ _ is inv.rest;
      ready = search (arith, all_more);
    }
