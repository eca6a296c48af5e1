use Rattle.std.proofs.{Common.{rules, ◌++◌, ap, sym, subst}, lemmas.Result.on_err_weaker}
use Rattle.pas_io.specs.Told.{WritesFront}
use Rattle.pas_report.specs.Counts.{report_by_words}
use Rattle.pas_records.{specs.Lines.lines_of, proofs.Pieces.front_longer}
use Rattle.pas_telling.proofs.Fronts.{front_after}
use Rattle.pas_telling.proofs.telling.write_settled.Goals as goal

pub returns-in_err-write_lines-clause-front : goal.returns-in_err-write_lines-clause-front
returns-in_err-write_lines-clause-front g c =
    let all = ap (λ rs. lines_of rs ++ report_by_words c.args.state.now) (sym c.as_slice.ensures) in
    let front = front_longer _ _ _ (report_by_words c.args.state.now) _ all c.in_err-write_lines.ensures.front in
    search (rules, front)

pub returns-clause-front : goal.returns-clause-front
returns-clause-front g c = on_err_weaker c.report.result
    (λ (wrote : WritesFront (g.K.Sink.held c.write_lines.new.sink) (g.K.Sink.held c.report.new.sink) (report_by_words c.args.state.now)).
    subst (WritesFront _ _) (ap (λ rs. lines_of rs ++ report_by_words c.args.state.now) c.as_slice.ensures) (front_after _ _ _ _ _ c.in_ok-write_lines.ensures.whole wrote)) c.report.ensures.front
