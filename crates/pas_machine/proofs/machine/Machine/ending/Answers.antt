use Rattle.std.{proofs.Math.Logic.∥∥₁_elim, specs.Coded.le_prop}
use Rattle.pas_profile.specs.Blocks.{address_of}
use Rattle.pas_machine.proofs.Verdicts.{live_within}
use Rattle.pas_machine.proofs.machine.Machine.ending.Goals as goal

pub returns-in-Some-clause-within : goal.returns-in-Some-clause-within
returns-in-Some-clause-within c = ∥∥₁_elim c.args.self.now.shown le_prop (λ s.
    let live = c.in-Some.ensures s.0 s.1 in
    rw live.2 at (live_within c.args.self.now.profile s.0 s.1.run (address_of c.args.name.now) live.0 live.1))
