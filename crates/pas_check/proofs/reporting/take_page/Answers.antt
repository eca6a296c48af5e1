use Rattle.std.proofs.Common.{arith}
use Rattle.pas_check.proofs.Pages.{page_led}
use Rattle.pas_check.proofs.reporting.take_page.Goals as goal

pub returns-clause-led : goal.returns-clause-led
returns-clause-led c = search (arith, page_led, c.is_page_line.ensures)
