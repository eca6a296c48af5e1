use Rattle.std.proofs.Common.{arith}
use Rattle.pas_large.proofs.Gives.{can_back}
use Rattle.pas_large.proofs.giving.back_page.Goals as goal

pub back-requires-clause-can : goal.back-requires-clause-can
back-requires-clause-can g c = let first = c.requires.first in let low = c.requires.low in let high = c.requires.high in let region = c.requires.region in
    can_back c.args.directory c.args.first c.args.end (omega (arith, low, high)) (omega (arith, low, high)) (omega (arith, first, low, high), omega (arith, low, high, region)) c.requires.can

pub returns-clause-backs : goal.returns-clause-backs
returns-clause-backs g c = (c.back.result, c.back.ensures.makes)
