use Rattle.std.proofs.Common.{arith}
use Rattle.pas_large.proofs.Claims.{can_claim_one}
use Rattle.pas_large.proofs.running.claim_lowest.Goals as goal

pub claim_page-requires-clause-page : goal.claim_page-requires-clause-page
claim_page-requires-clause-page g c = (omega (arith, c.requires.first, c.requires.some), omega (arith, c.requires.some, c.requires.region))

pub claim_page-requires-clause-can : goal.claim_page-requires-clause-can
claim_page-requires-clause-can g c = can_claim_one c.args.directory c.args.first c.args.end (omega (arith, c.requires.some)) (omega (arith, c.requires.some)) c.requires.can

pub returns-clause-claims : goal.returns-clause-claims
returns-clause-claims g c = c.claim_page.ensures.claims
