use Rattle.std.proofs.Common.{◌≡◌, ◌∙◌, ap, arith}
use Rattle.pas_profile.specs.declared.profile.Profile.{Profile}
use Rattle.pas_search.proofs.Surveyed.{none_yet, all_surveyed, none_further, next_is, page_surveyed}
use Rattle.pas_search.proofs.surveying.survey.Goals as goal

pub loop-looked-init : goal.loop-looked-init
loop-looked-init g c = search (arith, none_yet, g.R.Ranking.ranks)

pub returns-in_default-clause-surveys : goal.returns-in_default-clause-surveys
returns-in_default-clause-surveys g c =
    let i = c.loop-looked.invariant in
    let pages : c.profile.result.now.pages ≡ (g.D.Desk.standing c.args.desk.now).seat.profile.pages = ap (λ (f : Profile). f.pages) c.profile.ensures in
    none_further i.surveys i.directory i.low (omega (arith, pages, c.loop-looked-test.true)) c.in_default.ensures.found

pub loop-looked-preserved : goal.loop-looked-preserved
loop-looked-preserved g c =
    let i = c.loop-looked.invariant in let found = c.in-Some.ensures.found in
    let next = next_is i.surveys i.directory found in record {
      low = omega (arith, next);
      directory = c.first_offered.ensures.directory ∙ i.directory;
      surveys = page_surveyed i.surveys i.directory found c.read-free.result c.read-free.ensures.reads c.rank.result c.rank.ensures c.better-best.ensures;
      home = c.read-free.ensures.home ∙ c.first_offered.ensures.home ∙ i.home;
    }

pub returns-clause-surveys : goal.returns-clause-surveys
returns-clause-surveys g c =
    all_surveyed c.loop-looked.invariant.surveys (omega (arith, ap (λ (f : Profile). f.pages) c.profile.ensures, c.loop-looked-test.false))
