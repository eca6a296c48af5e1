use Rattle.std.proofs.Common.{◌∙◌}
use Rattle.pas_records.proofs.Decimals.{digit_at}
use Rattle.pas_records.proofs.text.digit.Goals as goal

pub returns : goal.returns
returns c = c.range.ensures.value ∙ digit_at c.args.n c.requires
