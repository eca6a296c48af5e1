use Rattle.std.proofs.Common.{rules}
use Rattle.pas_bits.proofs.Words.{after_complement}
use Rattle.pas_bits.proofs.mask.Mask4.complement.Goals as goal

pub returns : goal.returns
returns c = after_complement c.args.self.now (λ word. search rules)
