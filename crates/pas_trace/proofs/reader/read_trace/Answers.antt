use Rattle.std.proofs.{Common.{[], ◌∙◌}, lemmas.Result.err_from_is_err_and}
use Rattle.pas_trace.proofs.LexedLines.{read-planned, read-failed, planned-reading}
use Rattle.pas_trace.proofs.reader.read_trace.Goals as goal

pub returns-in_err-read_lines : goal.returns-in_err-read_lines
returns-in_err-read_lines c =
    let p = err_from_is_err_and c.from_residual-in_err-read_lines.result c.from_residual-in_err-read_lines.ensures.1 in
    let b = c.in_ok-reader.ensures in
    rw (p.1, p.2) (read-failed _ c.args.text.now c.in_ok-reader.rest.now c.in_ok-reader.reader c.read_lines.new.self _ b (c.in_err-read_lines.ensures.read [] b.tells))

pub planned-requires-clause-tells : goal.planned-requires-clause-tells
planned-requires-clause-tells c =
    let h = c.in_ok-read_lines.ensures.read [] c.in_ok-reader.ensures.tells in
    (h.0, h.2)

pub planned-requires-clause-gathers : goal.planned-requires-clause-gathers
planned-requires-clause-gathers c =
    let b = c.in_ok-reader.ensures in
    let h = c.in_ok-read_lines.ensures.read [] b.tells in
    h.4 ∙ b.gathers ∙ c.for_plan.ensures.scripting

pub returns : goal.returns
returns c =
    let b = c.in_ok-reader.ensures in
    let h = c.in_ok-read_lines.ensures.read [] b.tells in
    planned-reading _ _ _ (λ plan made. read-planned _ c.args.text.now c.in_ok-reader.rest.now c.in_ok-reader.reader c.read_lines.new.self plan b h (made h.0 h.2)) c.planned.ensures
