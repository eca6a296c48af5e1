use Rattle.std.proofs.Common.{sym}
use Rattle.pas_check.proofs.Pages.{no_page_led, page_is_due}
use Rattle.pas_check.proofs.reporting.take_next_page.Goals as goal

pub returns-in-None-clause-led : goal.returns-in-None-clause-led
returns-in-None-clause-led c = λ f s more stands due.
    no_page_led f c.args.text.now s more c.args.page c.args.cursor.now c.requires.within (c.in-None.ensures s.events stands) due

pub take_page-requires-clause-kind : goal.take_page-requires-clause-kind
take_page-requires-clause-kind c =
    let known = c.requires.known in
    known.kinds c.args.page c.in-Some.directory (sym (c.in-Some.ensures known.events known.stands))

pub returns-in-Some-clause-led : goal.returns-in-Some-clause-led
returns-in-Some-clause-led c = λ f s more stands due.
    c.take_page.ensures.led f s more stands (page_is_due s more c.args.page c.in-Some.directory (c.in-Some.ensures s.events stands) due)
