use Rattle.std.proofs.{lemmas.Bool.and_parts, Common.arith}
use Rattle.pas_rights.proofs.Orders.{match_not, usable_none}
use Rattle.pas_rights.proofs.looking.has_usable.Goals as goal

pub returns : goal.returns
returns c = search (arith, match_not, usable_none, and_parts)
