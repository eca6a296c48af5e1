use Rattle.std.proofs.Common.{arith, sym, refl}
use Rattle.pas_trace.proofs.Telling.{bound-after, own-same, says-item}
use Rattle.pas_trace.proofs.reader.Reader.take_item.Goals as goal

pub returns-in-Ok-add : goal.returns-in-Ok-add
returns-in-Ok-add c items line t e =
    let says = says-item _ items line _ t (sym e) c.in-Ok.ensures.0 in
    let added = c.in-Ok-add.ensures in
    (c.args.item, says.0, added.tells items t says.1, added.header, added.line, added.scripting)

pub returns-in-Err : goal.returns-in-Err
returns-in-Err c items line t e = rw c.fault.ensures (c.in-Err.reason, search (arith, own-same, bound-after), refl)
