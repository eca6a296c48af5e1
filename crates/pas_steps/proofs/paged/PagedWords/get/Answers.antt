use Rattle.std.proofs.Common.{arith, length, ap, sym, ◌∙◌}
use Rattle.pas_steps.{specs.Paged.value_in, proofs.OnPages.life_past}
use Rattle.pas_steps.proofs.paged.PagedWords.get.Goals as goal

pub returns-in-None-get : goal.returns-in-None-get
returns-in-None-get c = sym (ap (value_in c.args.self.now) c.in-Life.is ∙ life_past c.args.self.now c.in-Life.page c.in-Life.grain
    (omega (arith, c.in-None-get.ensures.lookup, ap length c.deref-in-Life.ensures.value)))
