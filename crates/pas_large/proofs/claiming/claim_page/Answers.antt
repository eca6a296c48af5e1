use Rattle.pas_large.proofs.Pages.{claim_lost, claim_whole, claim_broken}
use Rattle.pas_large.proofs.claiming.claim_page.Goals as goal

pub returns-then-not-get_right-clause-claims : goal.returns-then-not-get_right-clause-claims
returns-then-not-get_right-clause-claims g c = claim_lost c.if-not-get_right.ensures.gets

pub returns-then-take_whole-clause-claims : goal.returns-then-take_whole-clause-claims
returns-then-take_whole-clause-claims g c = claim_whole c.if-not-get_right.ensures.gets c.if-take_whole.ensures.takes

pub returns-else-take_whole-clause-claims : goal.returns-else-take_whole-clause-claims
returns-else-take_whole-clause-claims g c = claim_broken c.if-not-get_right.ensures.gets c.if-take_whole.ensures.takes
