use Rattle.std.proofs.{Common.{arith, ◌++◌, ◌∙◌}, lemmas.Result.err_from_is_err_and}
use Rattle.pas_trace.proofs.{TakenLines.{rest-scripted, rest-failed}, Gathering.scripted-reading}
use Rattle.pas_trace.proofs.stream.script_of.Goals as goal

pub read_lines-requires-clause-tells : goal.read_lines-requires-clause-tells
read_lines-requires-clause-tells c = let h = c.requires.1 in (h.items, h.tells)

pub read_lines-requires-clause-size : goal.read_lines-requires-clause-size
read_lines-requires-clause-size c = let few = c.requires.1.few in omega (arith, few, c.requires.2)

pub returns-in_err-read_lines : goal.returns-in_err-read_lines
returns-in_err-read_lines c before h =
    let p = err_from_is_err_and c.from_residual.result c.from_residual.ensures.1 in
    rw (p.1, p.2) (rest-failed before c.args.rest.now c.args.reader c.read_lines.new.self _ h (c.in_err-read_lines.ensures.read h.items h.tells))

pub scripted-requires-clause-tells : goal.scripted-requires-clause-tells
scripted-requires-clause-tells c = let h = c.requires.1 in let t = c.in_ok-read_lines.ensures.read h.items h.tells in (t.0, t.2)

pub scripted-requires-clause-gathers : goal.scripted-requires-clause-gathers
scripted-requires-clause-gathers c = let h = c.requires.1 in let t = c.in_ok-read_lines.ensures.read h.items h.tells in t.4 ∙ h.scripting

pub returns : goal.returns
returns c before h =
    let t = c.in_ok-read_lines.ensures.read h.items h.tells in
    scripted-reading (before ++ c.args.rest.now) _ _ (λ script made. rest-scripted before c.args.rest.now c.args.reader c.read_lines.new.self script h t (made t.0 t.2))
    c.scripted.ensures
