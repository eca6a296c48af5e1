use Rattle.std.proofs.Common.{rules, ◌≡◌, ℕ, ◌+◌, List, ◌++◌, [], ap, sym, ◌∙◌, subst, append_assoc, append-nil, drop, get_or, arith}
use Rattle.std.proofs.lemmas.{List.{at_drop_more, drop_all}, Result.on_err_weaker}
use Rattle.pas_io.specs.Told.{WritesFront}
use Rattle.pas_records.{specs.{Lines.{line_of, lines_of}, Pieces.IsPutOut, declared.record.Record.Record}, proofs.Pieces.{front_out, front_longer, put_more}}
use Rattle.pas_profile.specs.declared.{event.Event.Event, directory.Kind.Kind}
use Rattle.pas_records.proofs.transcript.write_lines_by.Goals as goal

-- what a look past the end of the records would tell
abbrev past_end : Record
past_end = Record.Event (Event.Deed 0 0 (record { heap = 0; kind = Kind.Class 0 }))

pub returns-in_err-make_room-clause-front : goal.returns-in_err-make_room-clause-front
returns-in_err-make_room-clause-front g c =
    let front = front_longer _ _ _ _ _ (sym c.loop-item.invariant.rest) (c.in_err-make_room.ensures.front _ _ c.loop-item.invariant.put_out) in
    search (rules, front)

pub loop-item-preserved : goal.loop-item-preserved
loop-item-preserved g c =
    let line : List ℕ = line_of (get_or c.args.records.now c.loop-item.item-index past_end) in
    let more = at_drop_more lines_of c.args.records.now c.loop-item.item-index past_end c.loop-item-test.true in
    let kept = c.in_ok-make_room.ensures.keeps _ _ c.loop-item.invariant.put_out in
    record {
      text = c.loop-item.invariant.text ++ line;
      put_out = put_more _ _ _ _ _ line c.push_record.ensures.bytes kept;
      rest = simp (append_assoc, ← more, c.loop-item.invariant.rest);
      count = search rules;
    }

pub returns-clause-front : goal.returns-clause-front
returns-clause-front g c =
    let none : drop c.loop-item.item-index c.args.records.now ≡ [] = drop_all c.loop-item.item-index c.args.records.now (omega (arith, c.loop-item-test.false)) in
    let text : c.loop-item.invariant.text ≡ lines_of c.args.records.now =
    sym (append-nil c.loop-item.invariant.text) ∙ sym (ap (λ rs. c.loop-item.invariant.text ++ lines_of rs) none) ∙ c.loop-item.invariant.rest in
    let out = subst (IsPutOut _ _ _) text c.loop-item.invariant.put_out in
    let waiting : c.as_bytes.result.now ≡ c.loop-item.lines.bytes = c.as_bytes.ensures.value ∙ c.as_str.ensures.value in
    on_err_weaker c.write_all.result (λ (wrote : WritesFront (g.K.Sink.held c.loop-item.sink) (g.K.Sink.held c.write_all.new.sink) c.as_bytes.result.now).
    front_out _ _ _ _ (lines_of c.args.records.now) out (rw waiting at wrote)) c.write_all.ensures.front
