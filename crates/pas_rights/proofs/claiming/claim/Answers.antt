use Rattle.pas_rights.proofs.Orders.{claims}
use Rattle.pas_rights.proofs.claiming.claim.Goals as goal

pub returns-clause-claims : goal.returns-clause-claims
returns-clause-claims g c = claims c.args.page c.args.directory c.take_right-old.result _ c.has_page.ensures c.take_right-old.ensures.makes
