use Rattle.pas_profile.proofs.Sizes.{slot_aligned}
use Rattle.pas_profile.proofs.laws.slots_are_aligned.Goals as goal

pub returns : goal.returns
returns c = slot_aligned c.args.class c.args.grain c.args.page c.args.align c.requires.class c.requires.slot c.requires.align.2 c.requires.suits.aligned
