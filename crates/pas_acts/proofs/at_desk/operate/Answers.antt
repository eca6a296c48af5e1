use Rattle.std.proofs.Common.{arith, sym, subst}
use Rattle.pas_acts.proofs.{Common.{Profile, MayStand}, AtDesk.{may_do, fit_at, may_answer, has_operated}}
use Rattle.pas_acts.proofs.at_desk.operate.Goals as goal

pub answer_meant-came-requires-clause-fit : goal.answer_meant-came-requires-clause-fit
answer_meant-came-requires-clause-fit g c = fit_at (may_do c.requires.stands.4 c.requires.stands.5)

pub answer_meant-came-requires-clause-stands : goal.answer_meant-came-requires-clause-stands
answer_meant-came-requires-clause-stands g c =
    subst (λ (f : Profile). MayStand f c.args.meant) (sym c.requires.stands.5.rests.sits.profile) c.requires.stands.5.stands

pub answer_meant-came-requires-clause-can : goal.answer_meant-came-requires-clause-can
answer_meant-came-requires-clause-can g c = search (arith, may_answer, may_do)

pub returns-clause-operates : goal.returns-clause-operates
returns-clause-operates g c = λ f op later p is may. has_operated g.O.Door.answers g.O.Door.settles c.args.door.now c.answer_meant-came.new.door c.settle.new.door is may c.answer_meant-came.ensures.answers c.settle.ensures.cache c.settle.ensures.settles
