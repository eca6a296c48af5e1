use Rattle.pas_tests.proofs.Besides.{still_beside, opens_beside, wants_bring}
use Rattle.pas_tests.proofs.turn_tests.two_turns.Goals as goal

pub change-desk-requires : goal.change-desk-requires
change-desk-requires c = still_beside c.visit-left_in.ensures.brings (opens_beside c.in_ok-desk.ensures.opens)

pub close_both-requires : goal.close_both-requires
close_both-requires c = still_beside (wants_bring c.want-findings.ensures.wants) c.change-desk.ensures.beside
