use Rattle.std.proofs.Common.{rules, ◌-◌, ◌∙◌, length, drop, arith, length-drop, take_all}
use Rattle.pas_io.proofs.Telling.{writes_on, front_of}
use Rattle.pas_io.proofs.whole.write_all.Goals as goal

pub returns-in_err-written-clause-front : goal.returns-in_err-written-clause-front
returns-in_err-written-clause-front g c =
    let front = front_of _ _ (g.K.Sink.held c.write.new.self) _ c.loop-written.written c.loop-written.invariant.held c.in_err-written.ensures.keeps in
    search (rules, front)

pub loop-written-preserved : goal.loop-written-preserved
loop-written-preserved g c =
    let rest = take_all (length c.args.bytes.now - c.loop-written.written) (drop c.loop-written.written c.args.bytes.now) (omega (arith, length-drop c.loop-written.written c.args.bytes.now)) in
    record {
      within = search rules;
      held = writes_on (g.K.Sink.held c.args.sink.now) (g.K.Sink.held c.loop-written.sink) (g.K.Sink.held c.write.new.self) c.args.bytes.now c.loop-written.written c.in_ok-written.field-0 c.loop-written.invariant.held (rw (← rest) c.in_ok-written.ensures.writes);
      count = c.in_ok-written.ensures.sound ∙ c.loop-written.invariant.count;
    }
