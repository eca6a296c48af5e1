use Rattle.std.proofs.Common.{[]}
use Rattle.pas_trials.proofs.Opened.{storm_stands}
use Rattle.pas_tests.proofs.storms.stormed.Goals as goal

pub storm-requires : goal.storm-requires
storm-requires c =
    let parts = c.into_parts-region.ensures in
    record { view = []; whole = []; stands = storm_stands c.in_ok-desk.ensures.opens parts.region parts.pass }

pub returns : goal.returns
returns c =
    let parts = c.into_parts-region.ensures in
    record { stands = λ l. c.storm.ensures.stands [] [] l (storm_stands c.in_ok-desk.ensures.opens parts.region parts.pass) }
