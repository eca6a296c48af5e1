use Rattle.pas_bitfit.proofs.Lowest.{place_of, empty_fits, lowest_fits}
use Rattle.pas_bitfit.proofs.wanted.WantedPlacing.place.Goals as goal

pub returns-then-all_zero : goal.returns-then-all_zero
returns-then-all_zero c = empty_fits c.args.self.now c.args.free.now c.requires.asked c.if-all_zero.ensures

pub returns-in_err-first : goal.returns-in_err-first
returns-in_err-first c = rw c.from_residual.ensures (λ g fits. c.in_err-first.ensures g (place_of c.args.self.now c.args.free.now g fits))

pub returns : goal.returns
returns c = lowest_fits c.args.self.now c.args.free.now c.in_ok-first.first c.in_ok-first.ensures
