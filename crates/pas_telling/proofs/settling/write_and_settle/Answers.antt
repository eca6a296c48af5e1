use Rattle.std.proofs.{Common.{◌++◌, ap, sym, subst}, lemmas.Result.{on_err_weaker, on_ok_weaker}}
use Rattle.pas_io.{specs.Told.{Writes, WritesFront}, proofs.Telling.writes_more}
use Rattle.pas_report.specs.Counts.{report_by_words}
use Rattle.pas_records.{specs.Lines.lines_of, proofs.Pieces.front_longer}
use Rattle.pas_telling.proofs.Fronts.{front_after}
use Rattle.pas_telling.proofs.settling.write_and_settle.Goals as goal

pub returns-clause-front : goal.returns-clause-front
returns-clause-front g c =
    let all = ap (λ rs. lines_of rs ++ report_by_words c.args.state.now) (sym c.as_slice.ensures) in
    let wrote : WritesFront _ _ (lines_of c.as_slice.result.now) = rw c.in-Err.is at c.settle_and_write-made.ensures.front in
    front_longer _ _ _ (report_by_words c.args.state.now) _ all wrote

pub returns-in-Ok-clause-whole : goal.returns-in-Ok-clause-whole
returns-in-Ok-clause-whole g c =
    let wrote : Writes _ _ (lines_of c.as_slice.result.now) = rw c.in-Ok.is at c.settle_and_write-made.ensures.whole in
    on_ok_weaker c.write_report.result (λ (more : Writes (g.K.Sink.held c.settle_and_write-made.new.sink) (g.K.Sink.held c.write_report.new.sink) (report_by_words c.args.state.now)).
    subst (Writes _ _) (ap (λ rs. lines_of rs ++ report_by_words c.args.state.now) c.as_slice.ensures) (writes_more _ _ _ _ _ wrote more)) c.write_report.ensures.whole

pub returns-in-Ok-clause-front : goal.returns-in-Ok-clause-front
returns-in-Ok-clause-front g c =
    let wrote : Writes _ _ (lines_of c.as_slice.result.now) = rw c.in-Ok.is at c.settle_and_write-made.ensures.whole in
    on_err_weaker c.write_report.result (λ (more : WritesFront (g.K.Sink.held c.settle_and_write-made.new.sink) (g.K.Sink.held c.write_report.new.sink) (report_by_words c.args.state.now)).
    subst (WritesFront _ _) (ap (λ rs. lines_of rs ++ report_by_words c.args.state.now) c.as_slice.ensures) (front_after _ _ _ _ _ wrote more)) c.write_report.ensures.front
