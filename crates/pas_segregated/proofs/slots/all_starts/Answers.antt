use Rattle.std.proofs.Common.{[], refl}
use Rattle.pas_segregated.{specs.declared.slots.TheConstants.STARTS, proofs.Starts.table_bits}
use Rattle.pas_segregated.proofs.slots.all_starts.Goals as goal

pub returns : goal.returns
returns c = table_bits STARTS [] refl refl c.args.class c.requires
