use Rattle.std.proofs.Common.{◌≡◌, ◌+◌, ◌-◌, ◌++◌, List, refl, ap, subst, arith}
use Rattle.pas_profile.specs.declared.profile.Profile.{Profile}
use Rattle.pas_machine.specs.{Machines.profile_of, State.deed_in}
use Rattle.pas_check.{specs.{Begins.page_due, Leading.Leads, States.{Due, with_due}}, proofs.{Leads.{leads_fails, leads_nowhere, leads_on}, Pages.pages_are}}
use Rattle.pas_check.proofs.Pages.{pages_from, pages_last, pages_next}
use Rattle.pas_check.proofs.reporting.take_pages.Goals as goal

pub loop-page-init : goal.loop-page-init
loop-page-init c = record {
  within = c.requires.within;
  led = λ s more stands due.
      let f = profile_of c.args.machine.now in
      let e : f.pages ≡ f.pages + 1 - 1 = omega arith in
      let is : s.due ≡ pages_from s.events 1 (f.pages + 1 - 1) ++ more = cc (pages_are s.events f.pages) in
      subst (λ (ds : List Due). Leads f c.args.text.now s c.args.cursor.now (with_due s ds) c.args.cursor.now) is
      (leads_nowhere f c.args.text.now s c.args.cursor.now c.requires.within);
}

pub returns-then-not-take_next_page-clause-led : goal.returns-then-not-take_next_page-clause-led
returns-then-not-take_next_page-clause-led c = λ s more stands due.
    let f = profile_of c.args.machine.now in
    let k = c.loop-page.page in
    let test = c.loop-page-test.true in
    let count = ap (λ (g : Profile). g.pages) c.profile-pages.ensures in
    let rest = pages_from s.events (k + 1) (f.pages + 1 - (k + 1)) ++ more in
    let u = with_due s (page_due k (deed_in s.events k) ++ rest) in
    leads_fails (subst (λ (ds : List Due). Leads f c.args.text.now s c.args.cursor.now (with_due s ds) c.loop-page.cursor)
    (pages_next s.events k (f.pages + 1 - k) (f.pages + 1 - (k + 1)) more (deed_in s.events k) (omega (arith, test, count)) refl) (c.loop-page.invariant.led s more stands due))
    (c.if-not-take_next_page.ensures.led f u rest stands refl)

pub loop-page-preserved : goal.loop-page-preserved
loop-page-preserved c = record {
  within = c.if-not-take_next_page.ensures.within;
  led = λ s more stands due.
      let f = profile_of c.args.machine.now in
      let k = c.loop-page.page in
      let count = ap (λ (g : Profile). g.pages) c.profile-pages.ensures in
      let rest = pages_from s.events (k + 1) (f.pages + 1 - (k + 1)) ++ more in
      let u = with_due s (page_due k (deed_in s.events k) ++ rest) in
      leads_on (search (arith, pages_next))
      (c.if-not-take_next_page.ensures.led f u rest stands refl);
}

pub returns-clause-led : goal.returns-clause-led
returns-clause-led c = search (arith, pages_last)
