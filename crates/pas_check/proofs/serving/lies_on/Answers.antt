use Rattle.std.proofs.Common.{arith}
use Rattle.pas_check.proofs.OneNext.{lies_as_pages_do}
use Rattle.pas_check.proofs.serving.lies_on.Goals as goal

pub returns : goal.returns
returns c = λ es stands. lies_as_pages_do es c.args.block.now c.args.directory (omega (arith, c.if-grains-eq0.false)) c.have_deeds.result (c.have_deeds.ensures es stands)
