use Rattle.std.proofs.Common.{sym, ◌∙◌, false, ◌==◌, subst}
use Rattle.pas_large.{specs.Pages.GetsPage, proofs.Pages.{claim_gets, deed_gets, look_gets}}
use Rattle.pas_large.proofs.getting.get_right.Goals as goal

pub returns-then-deed-deed_word-clause-gets : goal.returns-then-deed-deed_word-clause-gets
returns-then-deed-deed_word-clause-gets g c = claim_gets _ _ _ _ (c.if-deed-deed_word.true ∙ c.deed_word.ensures) c.look-deed.ensures.makes _ c.claim.ensures.claims

pub returns-then-not-deeds-clause-gets : goal.returns-then-not-deeds-clause-gets
returns-then-not-deeds-clause-gets g c = subst (λ t. GetsPage t c.args.directory c.args.page (g.D.Desk.standing c.args.desk.now) (g.D.Desk.standing c.look-deed.new.self) false) (sym c.if-not-deeds.true) (look_gets c.args.directory c.args.page c.look-deed.result (λ e. c.if-deed-deed_word.false (e ∙ sym c.deed_word.ensures)) c.look-deed.ensures.makes)

pub returns-clause-gets : goal.returns-clause-gets
returns-clause-gets g c = subst (λ t. GetsPage t c.args.directory c.args.page (g.D.Desk.standing c.args.desk.now) (g.D.Desk.standing c.deed.new.self) (c.deed.result == 0)) (sym c.if-not-deeds.false) (deed_gets c.args.directory c.args.page c.look-deed.result c.deed.result c.requires.page (λ e. c.if-deed-deed_word.false (e ∙ sym c.deed_word.ensures)) c.look-deed.ensures.makes c.deed.ensures.makes)
