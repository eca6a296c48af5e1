use Rattle.std.proofs.Common.{sym, ◌∙◌}
use Rattle.pas_trace.proofs.LexedLines.{says-anywhere}
use Rattle.pas_trace.proofs.lexing.first_item.Goals as goal

pub returns-in-Ok : goal.returns-in-Ok
returns-in-Ok c =
    let cut = c.in_ok-line.ensures in
    let says = sym c.read_item.ensures ∙ c.in-Ok.is in
    record { line = c.in_ok-line.line.now; cut = cut.0; shorter = cut.1; says = λ started. says-anywhere c.args.version started c.in_ok-line.line.now c.in-Ok.item says }
