use Rattle.pas_trials.proofs.Opened.{both_passes}
use Rattle.pas_tests.proofs.seating.closed.Goals as goal

pub close-requires : goal.close-requires
close-requires c = let stands = c.requires.storm.2 in both_passes c.in_ok-vec.ensures.items stands.region_stands stands.own_part stands.foreign_part
