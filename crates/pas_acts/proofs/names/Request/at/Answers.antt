use Rattle.std.proofs.Common.{arith, sym, false, ne_eqb}
use Rattle.pas_acts.proofs.Noting.{at_index, at_named, at_past}
use Rattle.pas_acts.proofs.names.Request.at.Goals as goal

pub returns-then-request-name : goal.returns-then-request-name
returns-then-request-name c = search (arith, at_named)

pub returns-else-request-name : goal.returns-else-request-name
returns-else-request-name c =
    sym (at_index c.args.requests.now c.args.place c.args.name _ false c.if-place-requests.true (ne_eqb _ _ c.if-request-name.false))

pub returns-else-place-requests : goal.returns-else-place-requests
returns-else-place-requests c = sym (at_past c.args.requests.now c.args.place c.args.name c.if-place-requests.false)
