use Rattle.std.proofs.{Common.{rules, ◌≡◌, ◌++◌, [], List, All, sym, ◌∙◌, subst, arith}, lemmas.Result.on_err_weaker}
use Rattle.pas_io.{specs.Told.WritesFront, proofs.Telling.writes_more}
use Rattle.pas_records.{specs.{declared.record.Record.Record, Lines.{CanShow, lines_of}, Texts.texts_of}, proofs.Dealt.{first_round, next_round, shown_before}}
use Rattle.pas_records.proofs.{Dealt.shown_after, Written.{front_more, writes_none}}
use Rattle.pas_records.proofs.writing.write_lines_on.Goals as goal

pub loop-round-init : goal.loop-round-init
loop-round-init g c =
    let all : c.into_iter-round-iterator.result.rest.now ≡ c.split_at.result.1.now = search rules in
    let parts : c.args.records.now ≡ c.split_at.result.0.now ++ c.split_at.result.1.now = search rules in
    record {
      text = [];
      written = writes_none (g.K.Sink.held c.args.sink.now);
      rest = search (arith, first_round);
      size = search rules;
      shown = subst (λ (rs : List Record). All CanShow rs) (sym all) (shown_after c.args.records.now c.split_at.result.0.now c.split_at.result.1.now parts c.requires);
      count = omega arith;
    }

pub write_and_fill-requires-clause-shown : goal.write_and_fill-requires-clause-shown
write_and_fill-requires-clause-shown g c κs within =
    shown_before c.loop-round.round-iterator.rest.now c.in-Some.round.now c.next.new.self.rest.now c.in-Some.ensures.steps.1.0 c.loop-round.invariant.shown

pub loop-round-preserved : goal.loop-round-preserved
loop-round-preserved g c =
    let steps = c.in-Some.ensures.steps in
    let filled : texts_of c.swap.new.x.sheets.items ≡ lines_of c.in-Some.round.now = search rules in
    let whole = next_round _ _ _ _ _ _ (texts_of c.swap.new.x.sheets.items) steps.1.0 filled c.loop-round.invariant.rest in
    record {
      text = c.loop-round.invariant.text ++ texts_of c.loop-round.sheets.full.sheets.items;
      written = writes_more _ _ _ _ _ c.loop-round.invariant.written c.in_ok-write_and_fill.ensures.whole;
      rest = whole;
      size = steps.0 ∙ c.loop-round.invariant.size;
      shown = shown_after c.loop-round.round-iterator.rest.now c.in-Some.round.now c.next.new.self.rest.now steps.1.0 c.loop-round.invariant.shown;
      count = search rules;
    }

pub returns-in_err-write_and_fill-clause-front : goal.returns-in_err-write_and_fill-clause-front
returns-in_err-write_and_fill-clause-front g c =
    let front = front_more _ _ _ _ _ _ _ c.loop-round.invariant.rest c.loop-round.invariant.written c.in_err-write_and_fill.ensures.front in
    search (rules, front)

pub returns-clause-front : goal.returns-clause-front
returns-clause-front g c =
    let whole : c.loop-round.invariant.text ++ (texts_of c.deref.result.now ++ lines_of c.loop-round.round-iterator.rest.now) ≡ lines_of c.args.records.now =
    rw c.deref.ensures.value c.loop-round.invariant.rest in
    on_err_weaker c.write_texts.result (λ (wrote : WritesFront (g.K.Sink.held c.loop-round.sink) (g.K.Sink.held c.write_texts.new.sink) (texts_of c.deref.result.now)).
    front_more _ _ _ _ _ _ _ whole c.loop-round.invariant.written wrote) c.write_texts.ensures.front
