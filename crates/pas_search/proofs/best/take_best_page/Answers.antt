use Rattle.std.proofs.Common.{sym, ◌∙◌}
use Rattle.pas_search.{specs.Searches.MaySearch, proofs.{ForBackEnds.room_kept, TheBestPage.{rank_can, none_ranked, best_can, best_claim_adds}}}
use Rattle.pas_search.proofs.TheBestPage.{best_claim_quiet, best_lost, best_can_serve, best_left, best_served}
use Rattle.pas_search.proofs.best.take_best_page.Goals as goal

pub survey-requires-clause-can : goal.survey-requires-clause-can
survey-requires-clause-can g c = record { view = c.requires.can.view; whole = c.requires.can.whole; stood = c.requires.can.stood; met = tt }

pub returns-in_default-clause-tries : goal.returns-in_default-clause-tries
returns-in_default-clause-tries g c = none_ranked c.in_default.ensures.surveys

pub claim-requires-clause-can : goal.claim-requires-clause-can
claim-requires-clause-can g c = best_can (g.S.Serving.rule c.args.serving.now) g.D.Desk.tells c.in-Some.ensures.surveys (rank_can c.requires.can)

pub serve-requires-clause-can : goal.serve-requires-clause-can
serve-requires-clause-can g c = let h = c.claim.ensures.claims in
    best_can_serve (g.S.Serving.rule c.args.serving.now) g.D.Desk.tells c.in-Some.ensures.surveys h.calls.adds (sym h.got_is ∙ c.if-claim.true)
    (rank_can c.requires.can)

pub serve-requires-clause-room : goal.serve-requires-clause-room
serve-requires-clause-room g c = let rule = g.S.Serving.rule c.args.serving.now in let found = c.in-Some.ensures.surveys in let h = c.claim.ensures.claims in
    room_kept {C = MaySearch c.args.directory} rule.events (best_claim_adds rule g.D.Desk.tells found h.calls.adds) (rank_can c.requires.can)
    (best_claim_quiet rule g.D.Desk.tells found h.calls.adds) (g.met.D.Desk.spares c.args.desk.now)
    (g.met.D.Desk.spares c.claim.new.desk) c.requires.can.met.room.0

pub returns-in-None-clause-tries : goal.returns-in-None-clause-tries
returns-in-None-clause-tries g c = let h = c.claim.ensures.claims in
    best_left (g.S.Serving.rule c.args.serving.now) g.D.Desk.tells c.in-Some.ensures.surveys h.calls.adds
    (sym h.got_is ∙ c.if-claim.true) c.in-None.ensures.serves

pub returns-in-Some-serve-clause-tries : goal.returns-in-Some-serve-clause-tries
returns-in-Some-serve-clause-tries g c = let h = c.claim.ensures.claims in
    best_served (g.S.Serving.rule c.args.serving.now) g.D.Desk.tells c.in-Some.ensures.surveys h.calls.adds (sym h.got_is ∙ c.if-claim.true)
    (g.met.D.Desk.valid c.args.desk.now) (g.met.S.Serving.fewer c.args.serving.now) (g.met.R.Ranking.alike c.args.ranking.now)
    (g.met.D.Desk.told c.serve.new.desk) (g.met.D.Desk.told_part c.args.desk.now) c.in-Some-serve.ensures.serves

pub returns-clause-tries : goal.returns-clause-tries
returns-clause-tries g c = let h = c.claim.ensures.claims in
    best_lost (g.S.Serving.rule c.args.serving.now) g.D.Desk.tells c.in-Some.ensures.surveys h.calls.adds (sym h.got_is ∙ c.if-claim.false)
