use Rattle.std.proofs.{Common.arith, lemmas.Bool.MatchBool-at_false}
use Rattle.pas_bits.specs.Masks.{IsEmpty, HasMember}
use Rattle.pas_rights.proofs.Puts.{puts_nothing, may_return, puts_some}
use Rattle.pas_rights.proofs.putting.put_and_return.Goals as goal

pub returns-then-is_empty-clause-puts : goal.returns-then-is_empty-clause-puts
returns-then-is_empty-clause-puts g c = search (arith, puts_nothing)

pub put-requires-clause-can : goal.put-requires-clause-can
put-requires-clause-can g c = let can = c.requires.can in record { view = can.view; whole = can.whole; stood = can.stood; met = can.met.puts }

pub returned-requires-clause-can : goal.returned-requires-clause-can
returned-requires-clause-can g c = may_return c.args.page c.args.directory c.args.mask.now c.put.ensures.puts c.requires.can

pub returns-clause-puts : goal.returns-clause-puts
returns-clause-puts g c = let m = c.args.mask.now in
    puts_some _ _ m c.put.ensures.puts c.returned.ensures.returns (MatchBool-at_false (IsEmpty m) (HasMember m) c.if-is_empty.false c.is_empty.ensures)
