use Rattle.std.proofs.Common.{refl, rules}
use Rattle.pas_bits.proofs.Masks.{empty_by_union}
use Rattle.pas_bits.proofs.mask.Mask4.is_empty.Goals as goal

pub returns : goal.returns
returns c = empty_by_union c.args.self.now (λ word. search rules) _ refl
