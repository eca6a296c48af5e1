use Rattle.pas_tests.proofs.plain.live_and_end.Goals as goal

pub returns-clause-stands : goal.returns-clause-stands
returns-clause-stands c = let can = c.give.ensures.end in (_, _, c.end.ensures.makes.added can.view can.whole can.stood can.allowed)
