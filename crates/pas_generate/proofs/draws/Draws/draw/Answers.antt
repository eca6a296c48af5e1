use Rattle.std.proofs.{Common.{◌*◌, ◌/◌, ◌%◌, ap}, Math.Nat.mod-add-mod}
use Rattle.pas_generate.specs.Draws.{drawn, moved}
use Rattle.pas_generate.proofs.draws.Draws.draw.Goals as goal

pub returns-clause-number : goal.returns-clause-number
unfolding drawn moved
returns-clause-number c = ap (λ n. n / 8589934592 % c.args.bound) (mod-add-mod (c.args.self.now.state * 6364136223846793005) 18446744073709551616 1442695040888963407)

pub returns-clause-state : goal.returns-clause-state
unfolding moved
returns-clause-state c = mod-add-mod (c.args.self.now.state * 6364136223846793005) 18446744073709551616 1442695040888963407
