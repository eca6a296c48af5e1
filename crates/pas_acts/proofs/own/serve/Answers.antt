use Rattle.std.proofs.Common.{arith, ◌∙◌, ap, subst}
use Rattle.pas_acts.proofs.{Common.{Profile, what_of, MayStand, for_guards}, AtDesk.stands_at, Working.{may_try, may_next, pair_given, pair_left, pair_alone}}
use Rattle.pas_acts.proofs.Working.{not_kept}
use Rattle.pas_acts.proofs.own.serve.Goals as goal

pub try_guarded-requires : goal.try_guarded-requires
try_guarded-requires g c =
    let st = c.requires.stands in
    let may = may_try st.2 (st.7 ∙ ap what_of c.in-Guarded.is) (g.K.Tries.has c.args.desk.now c.args.keeper.now) st.5 st.6 st.8 in
    record { stands = (st.0, st.1, for_guards st.3 st.5, st.6, may.0, may.1, may.2, may.3, may.4) }

pub operate-requires : goal.operate-requires
operate-requires g c =
    let st = c.requires.stands in
    let may = may_try st.2 (st.7 ∙ ap what_of c.in-Guarded.is) (g.K.Tries.has c.args.desk.now c.args.keeper.now) st.5 st.6 st.8 in
    let tries = c.try_guarded.ensures.tries st.0 st.1 (for_guards st.3 st.5) st.6 may.2 may.3 may.4 in
    let led = may_next _ _ (for_guards st.3 st.5) st.6 _ _ st.8.apart tries st.8.may in
    record { stands = (st.0, st.2, st.4, led.0, st.7 ∙ ap what_of c.in-Guarded.is, led.1) }

pub operate-requires-in_default : goal.operate-requires-in_default
operate-requires-in_default g c = let st = c.requires.stands in record { stands = (st.0, st.2, st.4, st.6, st.7, st.8.may) }

-- what the keeper gave stands where its try was one
pub returns-in-Some-clause-serves : goal.returns-in-Some-clause-serves
returns-in-Some-clause-serves g c f k op next later more p asks at =
    let is = asks ∙ ap what_of c.in-Guarded.is in
    let may = may_try op is (g.K.Tries.has c.args.desk.now c.args.keeper.now) more p at in
    let tries = c.try_guarded.ensures.tries f k (for_guards next more) p may.2 may.3 may.4 in
    (pair_given op is c.in-Some.block more _ _ c.in-Some.is at tries c.settle.ensures.cache, subst (MayStand f) c.in-Some.is (search arith))

pub returns-in-None-clause-serves : goal.returns-in-None-clause-serves
returns-in-None-clause-serves g c f k op next later more p asks at =
    let is = asks ∙ ap what_of c.in-Guarded.is in
    let may = may_try op is (g.K.Tries.has c.args.desk.now c.args.keeper.now) more p at in
    let tries = c.try_guarded.ensures.tries f k (for_guards next more) p may.2 may.3 may.4 in
    let led = may_next _ _ (for_guards next more) p _ _ at.apart tries at.may in
    let did = (c.operate.ensures.operates f op later led.0 is led.1).0 in
    let still = g.met.K.Tries.still c.try_guarded.new.self c.try_guarded.new.desk c.operate.new.desk led.0.list did.reached.list c.operate.ensures.home in (
      pair_left op is c.operate.result more _ _ _ c.in-None.is at tries did (still (stands_at led.1.rests.sits) (stands_at did.stands.sits)),
      subst (λ (h : Profile). MayStand h c.operate.result) led.1.rests.sits.profile c.operate.ensures.stands,
    )

pub returns-in_default-clause-serves : goal.returns-in_default-clause-serves
returns-in_default-clause-serves g c f k op next later more p asks at =
    let did = (c.operate-in_default.ensures.operates f op later p asks at.may).0 in
    let still = g.met.K.Tries.still c.args.keeper.now c.args.desk.now c.operate-in_default.new.desk p.list did.reached.list c.operate-in_default.ensures.home in (
      pair_alone c.operate-in_default.result more op _ _ (not_kept op c.args.task asks c.in_default.not-Guarded) at did
          (still (stands_at at.may.rests.sits) (stands_at did.stands.sits)),
      subst (λ (h : Profile). MayStand h c.operate-in_default.result) at.may.rests.sits.profile c.operate-in_default.ensures.stands,
    )
