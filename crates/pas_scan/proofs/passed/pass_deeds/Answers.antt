use Rattle.std.proofs.Common.{◌≡◌, ◌+◌, ◌-◌, ◌<◌, arith, subst, refl}
use Rattle.pas_scan.{specs.Passed.PassesDeeds, proofs.ToldLooks.{passes_told, passes_no_deeds}}
use Rattle.pas_scan.proofs.passed.pass_deeds.Goals as goal

pub returns-then-from-end-clause-passes : goal.returns-then-from-end-clause-passes
returns-then-from-end-clause-passes g c =
    let σ = g.D.Desk.standing c.args.desk.now in passes_no_deeds c.args.deed c.args.from c.args.end σ σ (record { seat_is = refl; stands = λ v l stood. stood })

pub returns-then-page-from-clause-passes : goal.returns-then-page-from-clause-passes
returns-then-page-from-clause-passes g c =
    let σ = g.D.Desk.standing c.args.desk.now in passes_no_deeds c.args.deed c.args.from c.args.end σ σ (record { seat_is = refl; stands = λ v l stood. stood })

pub returns-then-not-tell-clause-passes : goal.returns-then-not-tell-clause-passes
returns-then-not-tell-clause-passes g c =
    passes_no_deeds c.args.deed c.args.from c.args.end (g.D.Desk.standing c.args.desk.now) (g.D.Desk.standing c.tell.new.self) c.if-not-tell.ensures.took

pub returns-clause-passes : goal.returns-clause-passes
returns-clause-passes g c =
    let D = g.D.Desk in let σ = D.standing c.args.desk.now in let σ' = D.standing c.tell.new.self in let from = c.args.from in
    let page = c.first_with_deed-page.result in let known = c.first_with_deed-page.ensures in
    let less : from < page = let ge = known.from_there in omega (arith, ge, c.if-page-from.false) in
    let first = known.others from (omega arith) less in let whole : from + (page - from) ≡ page = omega (arith, less) in
    subst (λ n. PassesDeeds c.args.deed from c.args.end σ σ' n) whole
    (passes_told D.tells σ σ' (g.met.D.Desk.valid c.args.desk.now) c.requires.can c.args.deed from c.args.end (page - from) c.requires.from
    (let le = known.within in omega (arith, whole, le)) c.requires.end first (λ p low high. known.others p low (omega (arith, whole, high)))
    (λ v l stood. g.met.D.Desk.told c.args.desk.now v l first.1.tells_all stood) (λ v l stood. g.met.D.Desk.told_part c.args.desk.now v l first.1.tells_all stood) c.if-not-tell.ensures.took)
