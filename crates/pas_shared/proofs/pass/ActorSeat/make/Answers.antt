use Rattle.std.proofs.Common.{arith, refl, sym, ap, ◌∙◌, subst}
use Rattle.pas_profile.specs.{Layouts.words_of, declared.profile.Profile.Profile}
use Rattle.pas_steps.specs.{Agreement.Agrees, Desks.made}
use Rattle.pas_shared.specs.Ruled.{actor_in, view_in, with_made}
use Rattle.pas_shared.proofs.pass.ActorSeat.make.Goals as goal

pub exchange-requires-clause-place : goal.exchange-requires-clause-place
exchange-requires-clause-place c = let keyed = c.args.region.now.keyed in (c.requires.of, refl, keyed.1 ∙ ap (λ (g : Profile). words_of g.pages g.heaps) (sym keyed.0))

pub exchange-requires-clause-step : goal.exchange-requires-clause-step
exchange-requires-clause-step c =
    search arith

pub invariant_of-self : goal.invariant_of-self
invariant_of-self c =
    search arith

pub returns-clause-view : goal.returns-clause-view
returns-clause-view c =
    let stand = c.args.self.now in
    ap (λ n. view_in n.0) c.exchange.ensures.step.0 ∙ ap (λ u. view_in (with_made (actor_in stand.seat.me.0) (made c.args.step c.exchange.result) u)) (ap (λ n. n.0) stand.named)

pub returns-clause-agrees : goal.returns-clause-agrees
returns-clause-agrees c = subst (λ (g : Profile). Agrees g (view_in c.args.self.now.seat.me.0) c.args.step c.exchange.result) c.args.region.now.keyed.0 c.exchange.ensures.step.1
