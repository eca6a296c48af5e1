use Rattle.std.proofs.Common.{◌≡◌, ◌+◌, ◌-◌, ◌<◌, arith, subst, refl}
use Rattle.pas_guard.{specs.Passing.PassesAlive, proofs.PassedGuards.{alive_passed, passes_no_guard}}
use Rattle.pas_guard.proofs.passing.pass_alive.Goals as goal

pub returns-then-all-clause-passes : goal.returns-then-all-clause-passes
returns-then-all-clause-passes g c =
    let σ = g.D.Desk.standing c.args.desk.now in
    passes_no_guard c.args.all c.args.guards.now c.args.from σ σ c.requires.from (record { seat_is = refl; stands = λ v l stood. stood })

pub returns-then-place-from-clause-passes : goal.returns-then-place-from-clause-passes
returns-then-place-from-clause-passes g c =
    let σ = g.D.Desk.standing c.args.desk.now in
    passes_no_guard c.args.all c.args.guards.now c.args.from σ σ c.requires.from (record { seat_is = refl; stands = λ v l stood. stood })

pub returns-then-not-tell-clause-passes : goal.returns-then-not-tell-clause-passes
returns-then-not-tell-clause-passes g c =
    passes_no_guard c.args.all c.args.guards.now c.args.from (g.D.Desk.standing c.args.desk.now)
    (g.D.Desk.standing c.tell.new.self) c.requires.from c.if-not-tell.ensures.took

pub returns-clause-passes : goal.returns-clause-passes
returns-clause-passes g c =
    let D = g.D.Desk in let σ = D.standing c.args.desk.now in let σ' = D.standing c.tell.new.self in let from = c.args.from in let guards = c.args.guards.now in
    let place = c.first_not_alive-place.result in let known = c.first_not_alive-place.ensures in
    let less : from < place = let ge = known.from_there in omega (arith, ge, c.if-place-from.false) in
    let first = known.alive from (omega arith) less in let whole : from + (place - from) ≡ place = omega (arith, less) in
    subst (λ n. PassesAlive c.args.all guards from σ σ' n) whole
    (alive_passed D.tells σ σ' (g.met.D.Desk.valid c.args.desk.now) c.requires.can c.args.all c.if-all.false guards c.requires.region from (place - from)
    (let le = known.within in omega (arith, whole, le)) first (λ j low high. known.alive j low (omega (arith, whole, high)))
    (λ v l stood. g.met.D.Desk.told c.args.desk.now v l first.1.tells_all stood)
    (λ v l stood. g.met.D.Desk.told_part c.args.desk.now v l first.1.tells_all stood) c.if-not-tell.ensures.took)
