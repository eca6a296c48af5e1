use Rattle.std.proofs.Common.{arith}
use Rattle.pas_steps.proofs.Adding.{adds_none, can_call}
use Rattle.pas_cache.proofs.Routes.{small_may, small_did}
use Rattle.pas_cache.proofs.cache.ThreadCache.alloc.Goals as goal

pub serve-requires-clause-can : goal.serve-requires-clause-can
serve-requires-clause-can g c =
    let f = (g.D.Desk.standing c.args.desk.now).seat.profile in
    can_call adds_none c.requires.can (λ v l stood may. small_may _ _ c.requires.route may)

pub returns-clause-allocates : goal.returns-clause-allocates
returns-clause-allocates g c = search (arith, small_did)
