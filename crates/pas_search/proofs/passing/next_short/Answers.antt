use Rattle.std.proofs.{Common.{◌≡◌, arith, ap, subst}, lemmas.Bool.cases_lt}
use Rattle.pas_profile.specs.declared.{profile.Profile.Profile, word.Word.Word}
use Rattle.pas_steps.specs.Told.{TellsWord}
use Rattle.pas_search.proofs.ToldVisits.{none_open, may_pass}
use Rattle.pas_search.proofs.passing.next_short.Goals as goal

pub loop-block-preserved : goal.loop-block-preserved
loop-block-preserved g c v l stood p low high = search (arith, cases_lt, none_open, c.loop-block.invariant)

pub returns-then-offered-ne0 : goal.returns-then-offered-ne0
returns-then-offered-ne0 g c =
    let block = c.loop-block.block in let pages : c.profile.result.now.pages ≡ (g.D.Desk.standing c.args.desk.now).seat.profile.pages = ap (λ (f : Profile). f.pages) c.profile.ensures in
    may_pass g.D.Desk.tells (g.D.Desk.standing c.args.desk.now) c.args.directory c.args.next block c.in-Some.word c.offered_from-offered.result c.short_pages-short.result c.lowest_short-pages.result
    c.args.run c.offered_from-offered.ensures.offered c.lowest_short-pages.ensures.both c.if-pages-eq0.false
    (c.loop-block.auto.block, omega (arith, pages, c.loop-block-test.true)) c.offered_from-offered.ensures.fits
    (subst (λ n. TellsWord g.D.Desk.tells (g.D.Desk.standing c.args.desk.now) (Word.Eligible n block) c.in-Some.word) c.number-number.ensures c.in-Some.ensures)
    c.loop-block.invariant c.lowest_short-pages.ensures.lowest c.short_pages-short.ensures
