use Rattle.std.proofs.Common.{◌/◌, arith, subst}
use Rattle.pas_profile.specs.declared.word.Word.{Word}
use Rattle.pas_steps.specs.Told.{TellsWord}
use Rattle.pas_scan.{specs.Passed.KnowsDeeds, proofs.ToldLooks.held_in_block}
use Rattle.pas_scan.proofs.passed.first_not_held.Goals as goal

pub loop-page-preserved : goal.loop-page-preserved
loop-page-preserved g c =
    let i = c.loop-page.invariant in
    let tells = g.D.Desk.tells in let σ = g.D.Desk.standing c.args.desk.now in let page = c.loop-page.page in let least = c.min-stop.ensures in
    let told = subst (λ n. TellsWord tells σ (Word.Eligible n (page / 64)) c.in-Some.offered) c.number-number.ensures c.in-Some.ensures in
    let deeds = subst (λ n. KnowsDeeds tells σ n page c.min-stop.result c.in-Some-first_other_deed.other) c.deed_word-deed.ensures
    c.in-Some-first_other_deed.ensures in
    let held = held_in_block tells σ c.args.directory c.in-Some.offered c.args.from page c.min-stop.result c.in-Some-first_other_deed.other i.held told
    (omega (arith, least, c.next_offered.ensures.in_block)) (λ p low high. c.next_offered.ensures.none p low (omega (arith, high, least))) deeds in record {
      from_there = omega (arith, i.from_there, deeds.from_there, deeds.within, c.if-other-stop.false);
      within = omega (arith, least);
      held = λ p low high. held p low (omega (arith, high, c.if-other-stop.false));
    }

pub returns-then-other-page : goal.returns-then-other-page
returns-then-other-page g c =
    let i = c.loop-page.invariant in
    let tells = g.D.Desk.tells in let σ = g.D.Desk.standing c.args.desk.now in let page = c.loop-page.page in let least = c.min-stop.ensures in
    let told = subst (λ n. TellsWord tells σ (Word.Eligible n (page / 64)) c.in-Some.offered) c.number-number.ensures c.in-Some.ensures in
    let deeds = subst (λ n. KnowsDeeds tells σ n page c.min-stop.result c.in-Some-first_other_deed.other) c.deed_word-deed.ensures
    c.in-Some-first_other_deed.ensures in
    let held = held_in_block tells σ c.args.directory c.in-Some.offered c.args.from page c.min-stop.result c.in-Some-first_other_deed.other i.held told
    (omega (arith, least, c.next_offered.ensures.in_block)) (λ p low high. c.next_offered.ensures.none p low (omega (arith, high, least))) deeds in search arith
