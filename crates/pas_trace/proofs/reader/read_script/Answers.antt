use Rattle.std.proofs.{Common.{[], ◌∙◌}, lemmas.Result.err_from_is_err_and}
use Rattle.pas_trace.proofs.{LexedLines.read-failed, Gathering.{read-scripted, scripted-reading, same-fault}}
use Rattle.pas_trace.proofs.reader.read_script.Goals as goal

pub returns-in_err-read_lines : goal.returns-in_err-read_lines
returns-in_err-read_lines c =
    let p = err_from_is_err_and c.from_residual-in_err-read_lines.result c.from_residual-in_err-read_lines.ensures.1 in
    let b = c.in_ok-reader.ensures in
    rw (p.1, p.2) (same-fault c.args.text.now _ (read-failed _ c.args.text.now c.in_ok-reader.rest.now c.in_ok-reader.reader c.read_lines.new.self _ b (c.in_err-read_lines.ensures.read [] b.tells)))

pub scripted-requires-clause-tells : goal.scripted-requires-clause-tells
scripted-requires-clause-tells c =
    let h = c.in_ok-read_lines.ensures.read [] c.in_ok-reader.ensures.tells in
    (h.0, h.2)

pub scripted-requires-clause-gathers : goal.scripted-requires-clause-gathers
scripted-requires-clause-gathers c =
    let b = c.in_ok-reader.ensures in
    let h = c.in_ok-read_lines.ensures.read [] b.tells in
    h.4 ∙ b.gathers ∙ c.for_script.ensures.scripting

pub returns : goal.returns
returns c =
    let b = c.in_ok-reader.ensures in
    let h = c.in_ok-read_lines.ensures.read [] b.tells in
    scripted-reading _ _ _ (λ script made. read-scripted _ _ _ c.in_ok-reader.reader _ script b h (made h.0 h.2)) c.scripted.ensures
