use Rattle.std.proofs.Common.{rules}
use Rattle.pas_bits.proofs.Masks.{set_ones}
use Rattle.pas_bits.proofs.mask.Mask4.count.Goals as goal

pub returns : goal.returns
returns c = set_ones c.args.self.now (λ word. search rules)
