use Rattle.std.proofs.Common.{refl}
use Rattle.pas_bitfit.proofs.wanted.WantedPlacing.least_run.Goals as goal

pub returns : goal.returns
returns c = record { unfit = λ r none g fits. none g fits.aligned fits.within fits.free; usable = λ g. refl }
