use Rattle.std.proofs.Common.{rules, ◌∙◌, ◌++◌, false, sym}
use Rattle.pas_calls.{specs.Wrote.{Wrote, wrote_lines}, proofs.Statuses.{waiting_shown, wrote_as}}
use Rattle.pas_records.specs.{Lines.lines_of, Rooms.records_in}
use Rattle.pas_calls.proofs.ordering.write_lines_in_order.Goals as goal

pub write-requires : goal.write-requires
write-requires g c =
    let replay = c.in_order_to-state.ensures in
    let plan = c.requires.plan in
    waiting_shown replay.0 (records_in c.in_order_to-state.new.out) (replay.2 plan.0 plan.1 plan.2)

-- The writer wrote the lines that were taken, and then those that waited, to the sink that it was made of.
pub returns : goal.returns
returns g c text plan may =
    let held = g.K.Sink.held in
    let faults = g.K.Sink.faults in
    let replay = c.in_order_to-state.ensures in
    let waiting = records_in c.in_order_to-state.new.out in
    let a = c.new-writer.result in
    let b = c.in_order_to-state.new.taker in
    let e = c.write.new.self in
    let all : Wrote a.failed e.failed (held a.sink.now) (held e.sink.now) (faults a.sink.now) (faults e.sink.now) (lines_of (replay.0 ++ waiting)) =
    wrote_lines a.failed b.failed e.failed (held a.sink.now) (held b.sink.now) (held e.sink.now) (faults a.sink.now) (faults b.sink.now) (faults e.sink.now) replay.0 waiting
    replay.1.1 c.write.ensures.wrote in
    let wrote : Wrote false c.has_failed-failed.result (held c.args.sink.now) (held e.sink.now) (faults c.args.sink.now) (faults e.sink.now) (lines_of (replay.0 ++ waiting)) =
    wrote_as held faults (lines_of (replay.0 ++ waiting)) e.sink.now c.new-writer.ensures.failed (sym c.has_failed-failed.ensures) c.new-writer.ensures.sink all in
    let same = c.write.ensures.same_reference ∙ (replay.1.0 ∙ c.new-writer.ensures.same_reference) in
    record { records = replay.0 ++ waiting; shows = replay.2 text plan may; wrote = search (rules, wrote, same) }
