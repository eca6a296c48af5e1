use Rattle.std.proofs.Common.{[], ◌++◌}
use Rattle.pas_plain.specs.Storms.{storm_of}
use Rattle.pas_tests.proofs.Stormed.{may_stop}
use Rattle.pas_tests.proofs.beside_tests.stop_in_a_storm.Goals as goal

pub stop-requires-clause-can : goal.stop-requires-clause-can
stop-requires-clause-can c =
    let parts = c.into_parts-region.ensures in
    may_stop {σ = storm_of c.storm-storm.result.desk c.storm-storm.result.foreign} parts.region parts.pass c.requires.rest c.storm-storm.ensures.seat c.storm-storm.ensures.stands

-- the steps of the stop were added to a list for which region and both passes stand
pub returns-clause-storm : goal.returns-clause-storm
returns-clause-storm c =
    let parts = c.into_parts-region.ensures in
    let stops = c.stop.ensures.stops in
    let can = may_stop {σ = storm_of c.storm-storm.result.desk c.storm-storm.result.foreign} parts.region parts.pass c.requires.rest c.storm-storm.ensures.seat c.storm-storm.ensures.stands in
    let v = (stops.stopped ++ stops.flushed) ++ can.view in
    let after = c.into_parts-region-2.ensures.stands v [] (stops.calls.adds.added can.view can.whole can.stood can.met) in
    (v, after.0, after.1)
