use Rattle.std.proofs.Common.{◌∙◌, sym, subst}
use Rattle.pas_profile.specs.declared.directory.Directory.{Directory}
use Rattle.pas_steps.specs.Desks.{CanCall}
use Rattle.pas_scan.specs.Scan.{Judges}
use Rattle.pas_search.{specs.Searches.MaySearch, proofs.FindingAPage.{ends_offered, ends_bare, ends_refused, bare_can, verdict_can, may_can, searches_by}}
use Rattle.pas_search.proofs.finding.find_page.Goals as goal

pub search_offered-requires-clause-can : goal.search_offered-requires-clause-can
search_offered-requires-clause-can g c = subst (λ (x : Directory). CanCall (g.D.Desk.standing c.args.desk.now) (MaySearch x)) (sym c.begin-looked.ensures.directory) (may_can c.requires.can)

pub search_bare-requires-clause-can : goal.search_bare-requires-clause-can
search_bare-requires-clause-can g c = bare_can c.args.directory c.begin-looked.ensures.directory c.in_default.ensures.found c.requires.can
    (g.met.D.Desk.spares c.args.desk.now) (g.met.D.Desk.spares _)

pub returns-in-Some-clause-searches : goal.returns-in-Some-clause-searches
returns-in-Some-clause-searches g c =
    searches_by g.D.Desk.tells c.args.directory (g.met.D.Desk.valid c.args.desk.now) c.requires.directory (g.met.S.Serving.fewer c.args.serving.now)
    (g.met.D.Desk.told c.search_offered.new.desk) (g.met.D.Desk.told_part c.args.desk.now)
    (ends_offered c.args.directory c.begin-looked.ensures.directory c.in-Some.ensures.found)

pub returns-in-Some-search_bare-clause-searches : goal.returns-in-Some-search_bare-clause-searches
returns-in-Some-search_bare-clause-searches g c =
    searches_by g.D.Desk.tells c.args.directory (g.met.D.Desk.valid c.args.desk.now) c.requires.directory (g.met.S.Serving.fewer c.args.serving.now)
    (g.met.D.Desk.told c.search_bare.new.desk) (g.met.D.Desk.told_part c.args.desk.now)
    (ends_bare c.args.directory c.begin-looked.ensures.directory c.in_default.ensures.found c.in-Some-search_bare.ensures.found)

pub verdict-requires-clause-can : goal.verdict-requires-clause-can
verdict-requires-clause-can g c =
    verdict_can c.args.directory c.begin-looked.ensures.directory c.in_default.ensures.found c.in_default-search_bare.ensures.found (may_can c.requires.can)

pub returns-clause-searches : goal.returns-clause-searches
returns-clause-searches g c =
    searches_by g.D.Desk.tells c.args.directory (g.met.D.Desk.valid c.args.desk.now) c.requires.directory (g.met.S.Serving.fewer c.args.serving.now)
    (g.met.D.Desk.told c.verdict.new.desk) (g.met.D.Desk.told_part c.args.desk.now)
    (ends_refused c.args.directory c.begin-looked.ensures.directory c.in_default.ensures.found c.verdict.result c.in_default-search_bare.ensures.found
    (subst (λ (x : Directory). Judges c.search_offered.new.looked.unfit x (g.D.Desk.standing c.search_bare.new.desk) (g.D.Desk.standing c.verdict.new.desk) c.verdict.result) (c.search_offered.ensures.directory ∙ c.begin-looked.ensures.directory) c.verdict.ensures.judges))
