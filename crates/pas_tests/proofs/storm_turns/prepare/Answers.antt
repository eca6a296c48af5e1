use Rattle.std.proofs.Common.{ap, ◌∙◌}
use Rattle.pas_steps.specs.Desks.{Seat}
use Rattle.pas_tests.proofs.Stormed.{may_go_beside, rests_then}
use Rattle.pas_tests.proofs.storm_turns.prepare.Goals as goal

pub go-requires-clause-can : goal.go-requires-clause-can
go-requires-clause-can c = may_go_beside c.loop-errand.invariant.rest

pub loop-errand-preserved : goal.loop-errand-preserved
loop-errand-preserved c = let goes = c.go.ensures.goes in record {
  rest = rests_then c.loop-errand.invariant.rest goes;
  room = ap (λ (s : Seat). s.room) goes.rests.adds.seat_is ∙ c.loop-errand.invariant.room;
  all = c.go.ensures.home ∙ c.loop-errand.invariant.all;
  profile = ap (λ (s : Seat). s.profile) goes.rests.adds.seat_is ∙ c.loop-errand.invariant.profile;
}
