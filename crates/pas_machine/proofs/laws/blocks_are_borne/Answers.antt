use Rattle.pas_machine.proofs.LiveBlocks.{all_borne}
use Rattle.pas_machine.proofs.laws.blocks_are_borne.Goals as goal

pub returns : goal.returns
returns c = all_borne
