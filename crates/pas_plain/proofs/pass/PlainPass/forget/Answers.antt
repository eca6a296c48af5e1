use Rattle.std.proofs.Common.{refl, ap, ◌+◌}
use Rattle.pas_plain.proofs.Desks.{forgets}
use Rattle.pas_plain.proofs.pass.PlainPass.forget.Goals as goal

pub returns : goal.returns
returns c =
    let did = c.forget.ensures in
    forgets c.args.self.now _ refl did.empty (ap (λ n. c.args.self.now.forgotten + n) did.events) did.room did.count did.epoch
