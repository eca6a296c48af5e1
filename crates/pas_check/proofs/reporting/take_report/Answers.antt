use Rattle.std.proofs.Common.{◌++◌, [], ◌∷◌, false, refl}
use Rattle.pas_machine.specs.Machines.{profile_of}
use Rattle.pas_check.{specs.{Begins.pages_due, States.{Totals, with_due}}, proofs.Leads.led_on}
use Rattle.pas_check.proofs.reporting.take_report.Goals as goal

pub returns-then-not-take_head-clause-led : goal.returns-then-not-take_head-clause-led
returns-then-not-take_head-clause-led c = λ s stands due.
    c.if-not-take_head.ensures.led.led (profile_of c.args.machine.now) s (pages_due s.events (profile_of c.args.machine.now).pages ++ Totals ∷ []) due

pub returns-then-not-take_pages-clause-led : goal.returns-then-not-take_pages-clause-led
returns-then-not-take_pages-clause-led c = λ s stands due.
    let f = profile_of c.args.machine.now in
    let rest = pages_due s.events f.pages ++ Totals ∷ [] in
    led_on false (with_due s (Totals ∷ [])) c.take_pages.new.cursor (c.if-not-take_head.ensures.led.led f s rest due)
    (c.if-not-take_pages.ensures.led (with_due s rest) (Totals ∷ []) stands refl)

pub returns-clause-led : goal.returns-clause-led
returns-clause-led c = λ s stands due.
    let f = profile_of c.args.machine.now in
    let rest = pages_due s.events f.pages ++ Totals ∷ [] in
    let paged = with_due s (Totals ∷ []) in
    led_on c.take_totals.result (with_due s []) c.take_totals.new.cursor (c.if-not-take_head.ensures.led.led f s rest due)
    (led_on c.take_totals.result (with_due s []) c.take_totals.new.cursor
    (c.if-not-take_pages.ensures.led (with_due s rest) (Totals ∷ []) stands refl) (c.take_totals.ensures.led paged [] stands refl))
