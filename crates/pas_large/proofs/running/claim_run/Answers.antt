use Rattle.std.proofs.Common.{arith}
use Rattle.pas_large.proofs.Claims.{may_claim, run_claimed, release_call, run_failed}
use Rattle.pas_large.proofs.running.claim_run.Goals as goal

pub returns-then-stop-end-clause-claims : goal.returns-then-stop-end-clause-claims
returns-then-stop-end-clause-claims g c = run_claimed c.if-stop-end.true c.claim_pages-stop.ensures.claims

pub release-requires-clause-can : goal.release-requires-clause-can
release-requires-clause-can g c = release_call c.claim_pages-stop.ensures.claims c.if-stop-end.false (may_claim c.args.end (omega arith) c.requires.can)

pub returns-clause-claims : goal.returns-clause-claims
returns-clause-claims g c = run_failed c.claim_pages-stop.ensures.claims c.if-stop-end.false (may_claim c.args.end (omega arith) c.requires.can) c.release.ensures.releases
