use Rattle.std.proofs.Common.{arith, ◌∙◌, refl, ap}
use Rattle.pas_threads.proofs.{Common.{BenchHome, home_at}, CrewSits.{crew_sits, crew_may_rise, crew_left}}
use Rattle.pas_threads.proofs.scavenger.scavenge_seated.Goals as goal

pub sit_down-desk-requires-clause-may : goal.sit_down-desk-requires-clause-may
sit_down-desk-requires-clause-may g c =
    search arith

pub scavenge-requires-clause-may : goal.scavenge-requires-clause-may
scavenge-requires-clause-may g c =
    let m = c.requires.may in
    let desk = c.sit_down-desk.result in
    let sits = m.4.stands.stands.sits in
    let sat = c.sit_down-desk.ensures.sat m.0 m.2 m.4.lent sits.actor sits.stood in
    (home_at desk, m.0, m.1, m.2, refl, m.3, crew_sits desk c.sit_down-desk.ensures.region m.4 sat)

pub rise-requires-clause-region : goal.rise-requires-clause-region
rise-requires-clause-region g c = ap (λ (h : BenchHome). h.region) c.scavenge.ensures.home ∙ c.sit_down-desk.ensures.region

pub rise-requires-clause-may : goal.rise-requires-clause-may
rise-requires-clause-may g c =
    let m = c.requires.may in
    let desk = c.sit_down-desk.result in
    let is = c.sit_down-desk.ensures.region in
    let sits = m.4.stands.stands.sits in
    let sat = c.sit_down-desk.ensures.sat m.0 m.2 m.4.lent sits.actor sits.stood in
    let did = c.scavenge.ensures.did (home_at desk) m.0 m.1 m.2 refl m.3 (crew_sits desk is m.4 sat) in
    (m.0, did.came.reached, crew_may_rise desk c.scavenge.new.desk is c.scavenge.ensures.home sat did)

pub returns-clause-did : goal.returns-clause-did
returns-clause-did g c = λ s asked p sound at.
    let desk = c.sit_down-desk.result in
    let now = c.scavenge.new.desk in
    let is = c.sit_down-desk.ensures.region in
    let home = c.scavenge.ensures.home in
    let sits = at.stands.stands.sits in
    let sat = c.sit_down-desk.ensures.sat s p at.lent sits.actor sits.stood in
    let did = c.scavenge.ensures.did (home_at desk) s asked p refl sound (crew_sits desk is at sat) in
    crew_left desk now is home sat did c.sit_down-desk.ensures.many c.scavenge.ensures.many
    (c.rise.ensures.rose s did.came.reached (crew_may_rise desk now is home sat did))
