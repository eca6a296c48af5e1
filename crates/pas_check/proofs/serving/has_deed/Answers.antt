use Rattle.pas_check.proofs.OneNext.{no_deed}
use Rattle.pas_check.proofs.serving.has_deed.Goals as goal

pub returns-then-not-has_page : goal.returns-then-not-has_page
returns-then-not-has_page c = λ es stands. no_deed c.args.machine.now es c.args.page c.args.directory stands c.if-not-has_page.ensures
