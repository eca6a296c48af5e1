use Rattle.std.proofs.Common.{rules, ◌+◌, ◌++◌, ◌∙◌, append_assoc, drop}
use Rattle.pas_io.proofs.Telling.{writes_more}
use Rattle.pas_records.{specs.Texts.texts_of, proofs.Written.{front_more, next_text}}
use Rattle.pas_records.proofs.writing.write_texts.Goals as goal

pub returns-in_err-write_sheet-clause-front : goal.returns-in_err-write_sheet-clause-front
returns-in_err-write_sheet-clause-front g c =
    let whole = next_text _ _ c.sheet-item.result _ c.loop-sheet-test.true c.sheet-item.is c.loop-sheet.invariant.rest in
    let front = front_more _ _ _ _ _ _ _ whole c.loop-sheet.invariant.written c.in_err-write_sheet.ensures.front in
    search (rules, front)

pub loop-sheet-preserved : goal.loop-sheet-preserved
loop-sheet-preserved g c =
    let whole = next_text _ _ c.sheet-item.result _ c.loop-sheet-test.true c.sheet-item.is c.loop-sheet.invariant.rest in
    record {
      text = c.loop-sheet.invariant.text ++ c.sheet-item.result.text.items;
      written = writes_more _ _ _ _ _ c.loop-sheet.invariant.written c.in_ok-write_sheet.ensures.whole;
      rest = append_assoc c.loop-sheet.invariant.text c.sheet-item.result.text.items (texts_of (drop (c.loop-sheet.sheet-index + 1) c.args.sheets.now)) ∙ whole;
      count = search rules;
    }
