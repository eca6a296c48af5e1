use Rattle.std.proofs.Common.{◌∙◌, Some, refl, ap, sym, subst}
use Rattle.pas_threads.proofs.{Common.{same_Some, MaySitOn, StandsOver, row_on, leaves_rest}, CrewSits.{may_sit, may_again, rests_at, home_moved, sits_beside}}
use Rattle.pas_threads.proofs.lending.stop_lent.Goals as goal

pub replace-risen-requires : goal.replace-risen-requires
replace-risen-requires c =
    let r = c.requires.may in
    let desk = c.args.desk.now in
    subst (MaySitOn desk.region.now desk.place.bench) (same_Some _ _ (sym r.6.present ∙ (sym c.take.ensures.value ∙ c.in-Some.is))) (may_sit r.5 r.6)

pub stop_and_tell-requires-clause-rests : goal.stop_and_tell-requires-clause-rests
stop_and_tell-requires-clause-rests c =
    let r = c.requires.may in
    let sat = c.replace-risen.ensures in
    (r.1, r.2, r.3, r.4, rests_at r.5 r.6 c.replace-risen.new.self (sym c.take.ensures.value ∙ c.in-Some.is) sat.bench sat.member)

pub replace-requires : goal.replace-requires
replace-requires c =
    let r = c.requires.may in
    let sat = c.replace-risen.ensures in
    let did = c.stop_and_tell.ensures.stops r.1 r.2 r.3 r.4
    (rests_at r.5 r.6 c.replace-risen.new.self (sym c.take.ensures.value ∙ c.in-Some.is) sat.bench sat.member) r.8 in
    let home = c.stop_and_tell.ensures.home ∙ (home_moved c.args.desk.now c.replace-risen.new.self sat.region sat.bench ∙ r.5.home) in
    may_again r.5 c.stop_and_tell.new.desk did.1.reached c.replace-risen.result sat.risen home did.1.stands.sits.stood.1
    ((leaves_rest did.1).parts c.args.desk.now.place.member.actor r.7)

pub returns-clause-stops : goal.returns-clause-stops
returns-clause-stops c = λ h f k later p at w read.
    let sat = c.replace-risen.ensures in
    let did = c.stop_and_tell.ensures.stops f k later p
    (rests_at at w c.replace-risen.new.self (sym c.take.ensures.value ∙ c.in-Some.is) sat.bench sat.member) read in
    let home = c.stop_and_tell.ensures.home ∙ (home_moved c.args.desk.now c.replace-risen.new.self sat.region sat.bench ∙ at.home) in
    record {
      stopped = did.0;
      sat = c.replace-risen.new.self;
      risen = c.stop_and_tell.new.desk;
      does = did.1;
      sits = sits_beside c.stop_and_tell.new.desk home (ap Some c.replace.ensures.risen) did.1.stands;
      over = subst (λ b. StandsOver (row_on b) did.1.reached.list) (sym c.replace.ensures.bench) did.1.stands.sits.stood.1;
      requests = refl;
      keeper = refl;
      told = did.2;
    }
