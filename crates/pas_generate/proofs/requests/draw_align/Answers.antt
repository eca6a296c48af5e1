use Rattle.std.proofs.Common.{◌*◌, ◌^◌, ap, ◌∙◌}
use Rattle.pas_generate.proofs.Aligning.{align_fits}
use Rattle.pas_generate.proofs.requests.draw_align.Goals as goal

pub returns-clause-align : goal.returns-clause-align
returns-clause-align c = align_fits c.draw.result c.draw.ensures.below ∙ ap (λ n. 16 * 2 ^ n) c.draw.ensures.number
