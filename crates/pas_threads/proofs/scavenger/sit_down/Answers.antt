use Rattle.std.proofs.Common.{sym, subst}
use Rattle.pas_threads.proofs.{Common.{rows_on, HasLooked, IsMemberOf}, CrewSits.{first_crew, first_tell, first_sits, all_sat}}
use Rattle.pas_threads.proofs.scavenger.sit_down.Goals as goal

pub seat_lent-requires-clause-lent : goal.seat_lent-requires-clause-lent
seat_lent-requires-clause-lent c = let m = c.requires.may in (m.0, m.1, m.2)

pub bench_desk-requires : goal.bench_desk-requires
bench_desk-requires c =
    let m = c.requires.may in
    let pass = c.args.pass in
    let rows = c.seat-member.ensures.rows in
    let none = c.open-bench.ensures.rows in
    let all = c.seat_lent.ensures.seated m.0 m.1 m.2 (first_crew pass rows none m.3) (first_tell m.1.list pass rows none m.3 m.4) in
    first_sits c.look.new.self c.look.ensures.looked all c.requires.pass c.seat-member.ensures.member c.look.ensures.of m.3 m.4

pub returns-clause-sat : goal.returns-clause-sat
returns-clause-sat c = λ s p lent scavenger view.
    let pass = c.args.pass in
    let rows = c.seat-member.ensures.rows in
    let none = c.open-bench.ensures.rows in
    let all = c.seat_lent.ensures.seated s p lent (first_crew pass rows none scavenger) (first_tell p.list pass rows none scavenger view) in
    all_sat c.bench_desk.result (subst (λ b. HasLooked (rows_on c.seat_lent.new.bench) (rows_on b)) (sym c.bench_desk.ensures.bench) c.look.ensures.looked) all
    (subst (IsMemberOf pass) (sym c.bench_desk.ensures.member) c.seat-member.ensures.member) scavenger
