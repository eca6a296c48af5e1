use Rattle.pas_trace.proofs.LexedLines.{all-read, lexed-far, lexed-fault}
use Rattle.std.proofs.lemmas.Result.{err_from_is_err_and}
use Rattle.pas_trace.proofs.reader.Reader.take_lexed.Goals as goal

pub returns-in_err-take_items-clause-read : goal.returns-in_err-take_items-clause-read
returns-in_err-take_items-clause-read c told text t lexed =
    let p = err_from_is_err_and c.from_residual.result c.from_residual.ensures.1 in
    rw (p.1, p.2) (lexed-fault c.args.self.now c.take_items.new.self told text c.args.items.now c.args.left.now _ lexed t (c.in_err-take_items.ensures.taken told lexed.lines t lexed.say))

pub read_lines-requires-clause-tells : goal.read_lines-requires-clause-tells
read_lines-requires-clause-tells c =
    let told = c.requires.tells in
    let lexed = c.requires.lexed in
    let l = lexed.1 in
    let far = lexed-far _ _ told.0 lexed.0 _ _ l told.1 (c.in_ok-take_items.ensures.taken told.0 l.lines told.1 l.say) in
    (far.items, far.tells)

pub returns-clause-read : goal.returns-clause-read
returns-clause-read c told text t lexed =
    let far = lexed-far _ _ told text _ _ lexed t (c.in_ok-take_items.ensures.taken told lexed.lines t lexed.say) in
    all-read _ _ _ told _ _ _ far (c.read_lines.ensures.read far.items far.tells)
