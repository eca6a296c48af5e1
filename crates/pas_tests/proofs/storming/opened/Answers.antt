use Rattle.std.proofs.Common.{ap, ◌∙◌}
use Rattle.pas_plain.specs.Plain.{profile_of, room_of_pass}
use Rattle.pas_trials.proofs.Opened.{storm_stands}
use Rattle.pas_tests.proofs.storming.opened.Goals as goal

pub returns : goal.returns
returns c =
    let e = c.in_ok-desk.ensures in
    let parts = c.into_parts-region.ensures in
    record {
      begins = record {
        stands = storm_stands e.opens parts.region parts.pass;
        profile = ap profile_of parts.region ∙ e.profile ∙ c.profile.ensures;
        room_of = ap room_of_pass parts.pass ∙ e.opens.room_of;
      };
    }
