use Rattle.std.proofs.Common.{◌≤◌, ℕ, ◌∷◌, sym, subst, ◌∙◌}
use Rattle.pas_steps.specs.{Desks.{Seat, Standing, CanCall, CanMake, Makes, AnyView, made, triple}, declared.step.Step.Step}
use Rattle.pas_timing.specs.Repeats.{IsFreeToMake}
use Rattle.pas_timing.proofs.steps.repeating.repeat.Goals as goal

can_make : (desk : Standing) (step : Step) → CanCall desk AnyView → IsFreeToMake desk.seat.profile step → CanMake desk step
can_make desk step can free = record { of_region = free.of_region; view = can.view; whole = can.whole; stood = can.stood; allowed = free.allowed can.view }

can_again : (desk desk' : Standing) (step : Step) (answer : ℕ) → CanCall desk AnyView → IsFreeToMake desk.seat.profile step → Makes desk desk' step answer
    → CanCall desk' AnyView
can_again desk desk' step answer can free makes = record {
  view = made step answer ∷ can.view;
  whole = triple desk.seat.actor (made step answer) ∷ can.whole;
  stood = makes.added can.view can.whole can.stood (free.allowed can.view);
  met = tt;
}

pub make-sum-requires-clause-can : goal.make-sum-requires-clause-can
make-sum-requires-clause-can g c =
    let i = c.loop-round.invariant in
    let pages : 64 ≤ (g.D.Desk.standing c.loop-round.desk).seat.profile.pages = subst (λ (s : Seat). 64 ≤ s.profile.pages) (sym i.seat) c.requires.pages in
    can_make _ _ i.can (c.step_of.ensures _ pages)

pub loop-round-preserved : goal.loop-round-preserved
loop-round-preserved g c =
    let i = c.loop-round.invariant in
    let pages : 64 ≤ (g.D.Desk.standing c.loop-round.desk).seat.profile.pages = subst (λ (s : Seat). 64 ≤ s.profile.pages) (sym i.seat) c.requires.pages in
    record {
      seat = c.make-sum.ensures.makes.seat_is ∙ i.seat;
      can = can_again _ _ _ _ i.can (c.step_of.ensures _ pages) c.make-sum.ensures.makes;
      home = c.make-sum.ensures.home ∙ i.home;
    }
