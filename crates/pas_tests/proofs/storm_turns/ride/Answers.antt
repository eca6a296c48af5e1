use Rattle.std.proofs.Common.{◌++◌, ◌∙◌}
use Rattle.pas_plain.specs.Storms.{storm_of}
use Rattle.pas_tests.proofs.Stormed.{may_stop}
use Rattle.pas_tests.proofs.storm_turns.ride.Goals as goal

pub go_and_stop-requires-clause-can : goal.go_and_stop-requires-clause-can
go_and_stop-requires-clause-can c =
    let parts = c.into_parts-region.ensures in
    may_stop {σ = storm_of c.new-storm.result.desk.desk c.new-storm.result.desk.foreign} parts.region parts.pass c.requires.rest (c.new-storm.ensures.seat ∙ c.storm.ensures.seat)
    (λ v w l stands. c.new-storm.ensures.stands v l (c.storm.ensures.stands v w l stands))

-- the steps were added to a list for which region and both passes stand
pub returns-clause-storm : goal.returns-clause-storm
returns-clause-storm c =
    let parts = c.into_parts-region.ensures in
    let can = may_stop {σ = storm_of c.new-storm.result.desk.desk c.new-storm.result.desk.foreign} parts.region parts.pass c.requires.rest (c.new-storm.ensures.seat ∙ c.storm.ensures.seat)
    (λ v w l stands. c.new-storm.ensures.stands v l (c.storm.ensures.stands v w l stands)) in
    let gone = c.go_and_stop.ensures.steps in
    let v = gone.steps ++ can.view in
    let stood = gone.adds.added can.view can.whole can.stood can.met in
    let done = c.into_parts-region-2.ensures.stands v can.whole (c.into_parts-storm.ensures.stands v can.whole stood) in
    (v, done.0, done.1)
