use Rattle.pas_shared.proofs.Opened.{splits_as}
use Rattle.pas_shared.proofs.opening.split.Goals as goal

pub split_seat-requires : goal.split_seat-requires
split_seat-requires c = (c.requires.0, c.requires.1, splits_as _ _ c.args.first _ c.requires.2)
