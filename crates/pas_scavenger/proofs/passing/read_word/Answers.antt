use Rattle.std.proofs.Common.{◌*◌, ◌-◌, ◌≡◌, [], ◌∷◌, ◌++◌, refl, ap, sym, ◌∙◌, subst, arith, append_assoc, length-append}
use Rattle.pas_profile.specs.declared.word.Word.{Word}
use Rattle.pas_steps.{specs.{Desks.made, declared.step.Step.TheVariants.Look}, proofs.Called.next_call}
use Rattle.pas_utility.specs.Outcomes.{pairs_in}
use Rattle.pas_scavenger.{specs.Passes.{Tried, TrySteps, Tries}, proofs.Examinations.{looked_first, tries_then, spare_by, spare_page, one_pair, hinted_page}}
use Rattle.pas_scavenger.proofs.Examinations.{next_page, last_page}
use Rattle.pas_scavenger.proofs.passing.read_word.Goals as goal

pub pages-init : goal.pages-init
pages-init g c =
    let D = g.D.Desk in let block = c.args.block in let hinted = c.look-hinted.result in
    let tries : Tries c.args.epoch [] (D.standing c.args.desk.now) (D.standing c.look-hinted.new.self) (pairs_in c.args.out.now) (pairs_in c.args.out.now)
    (made (Look (Word.Empty block)) hinted ∷ []) = looked_first _ block hinted _ c.look-hinted.ensures.makes in
    let same = spare_by _ _ tries c.requires.can (λ v l stood. g.met.D.Desk.spares c.args.desk.now v l stood) (λ v l stood. g.met.D.Desk.spares c.look-hinted.new.self v l stood) in
    let none : 0 ≡ 64 * block - 64 * block = omega arith in let room = c.requires.room in
    search arith

pub try_page-requires-clause-page : goal.try_page-requires-clause-page
try_page-requires-clause-page g c =
    search (arith, hinted_page)

pub try_page-requires-clause-can : goal.try_page-requires-clause-can
try_page-requires-clause-can g c = next_call c.pages.invariant.tries.calls c.requires.can (λ v met is. is)

pub try_page-requires-clause-room : goal.try_page-requires-clause-room
try_page-requires-clause-room g c =
    search (arith, hinted_page)

pub try_page-requires-clause-place : goal.try_page-requires-clause-place
try_page-requires-clause-place g c =
    search (arith, hinted_page)

pub pages-preserved : goal.pages-preserved
pages-preserved g c =
    let D = g.D.Desk in let i = c.pages.invariant in let t = c.try_page.ensures.tries in let epoch = c.args.epoch in let block = c.args.block in let page = c.in-Some.page in
    let look = made (Look (Word.Empty block)) c.look-hinted.result ∷ [] in let can = c.requires.can in let f = (D.standing c.args.desk.now).seat.profile in
    let of_region = hinted_page f block _ c.pages.next page (c.look-hinted.ensures.makes.agrees can.view can.whole can.stood tt) c.in-Some.ensures in
    let low = of_region.0 in let above = c.in-Some.ensures.above in let here = c.in-Some.ensures.here in
    let one : Tried = record { page = page; outcome = t.outcome } in
    record {
      tried = one ∷ i.tried;
      pages_are = ap (λ ps. page ∷ ps) i.pages_are ∙ sym (next_page block c.look-hinted.result c.pages.next page i.from c.in-Some.ensures);
      steps = t.steps ++ i.steps;
      each = (t.steps, i.steps, subst (λ s. TrySteps s.profile.age epoch page t.outcome t.steps) i.tries.calls.adds.seat_is t.order, i.each, refl);
      tries = rw append_assoc (tries_then i.tries t.tries);
      few = let n = length-append t.steps i.steps in omega (arith, n, t.few, i.few);
      from = omega (arith, here);
      to = omega (arith, here);
      room =
          let spare = spare_page _ _ t (next_call i.tries.calls c.requires.can (λ v met is. is)) (λ v l stood. g.met.D.Desk.spares c.pages.desk v l stood) (λ v l stood. g.met.D.Desk.spares _ v l stood) in
          omega (arith, i.room, spare, low, above);
      left = let more = one_pair page t.outcome (pairs_in c.pages.out) (pairs_in c.try_page.new.out) t.tries.pairs in omega (arith, i.left, more, low, above);
      places = c.try_page.ensures.places ∙ i.places;
      home = c.try_page.ensures.home ∙ i.home;
    }

pub returns-clause-reads : goal.returns-clause-reads
returns-clause-reads g c =
    search (arith, last_page, length-append)
