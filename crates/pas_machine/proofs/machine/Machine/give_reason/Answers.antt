use Rattle.pas_bits.proofs.Runs.{to_run}
use Rattle.pas_machine.{proofs.Verdicts.{page_within, inside_never, give_before, gives_are, place_at, some_page, each_page, none_lives}, specs.Places.IsOfHeap}
use Rattle.pas_machine.specs.declared.places.Page.{Page}
use Rattle.std.proofs.{Common.{◌≡◌, true, false, sym, ◌∙◌, arith}, lemmas.Bool.false≢true}
use Rattle.pas_profile.specs.Blocks.{address_of}
use Rattle.pas_machine.proofs.machine.Machine.give_reason.Goals as goal

pub returns-then-lacks_deed-clause-verdict : goal.returns-then-lacks_deed-clause-verdict
returns-then-lacks_deed-clause-verdict c k es shows =
    let f = c.args.self.now.profile in
    let block = c.args.block.now in
    let is = c.if-is_no_run.ensures in
    let some = rw (c.grain-first.ensures, c.grains.ensures, c.deref.ensures.value) at c.if-lacks_deed.ensures in
    record {
      applies = some_page shows block is (λ (p : Page). IsOfHeap block.heap p.directory → ⊥) some;
      others = search (arith, give_before, inside_never);
    }

pub returns-then-lacks_backing-clause-verdict : goal.returns-then-lacks_backing-clause-verdict
returns-then-lacks_backing-clause-verdict c k es shows =
    let f = c.args.self.now.profile in
    let block = c.args.block.now in
    let is = c.if-is_no_run.ensures in
    let deeds = rw (c.grain-first.ensures, c.grains.ensures, c.deref.ensures.value) at c.if-lacks_deed.ensures in
    let some = rw (c.grain-first.ensures, c.grains.ensures, c.deref-2.ensures.value) at c.if-lacks_backing.ensures in
    record {
      applies = some_page shows block is (λ (p : Page). p.backed ≡ false) some;
      others = give_before f es k block 6 (λ _. inside_never f block is) (λ _ h. omega (arith, h, c.if-block-self.false))
          (λ _ h. h.2 (each_page shows block is (λ (p : Page). IsOfHeap block.heap p.directory) deeds h.0 h.1)) (λ lt. absurd (omega (arith, lt)))
          (λ lt. absurd (omega (arith, lt))) (λ lt. absurd (omega (arith, lt)));
    }

pub returns-then-is_some_covered-clause-verdict : goal.returns-then-is_some_covered-clause-verdict
returns-then-is_some_covered-clause-verdict c k es shows =
    let f = c.args.self.now.profile in
    let block = c.args.block.now in
    let is = c.if-is_no_run.ensures in
    let deeds = rw (c.grain-first.ensures, c.grains.ensures, c.deref.ensures.value) at c.if-lacks_deed.ensures in
    let backed = rw (c.grain-first.ensures, c.grains.ensures, c.deref-2.ensures.value) at c.if-lacks_backing.ensures in
    let some = rw (c.grain-first.ensures, c.grains.ensures, c.deref-3.ensures.value) at c.if-is_some_covered.ensures in
    record {
      applies = search (arith, to_run, false≢true, page_within);
      others = give_before f es k block 7 (λ _. inside_never f block is) (λ _ h. omega (arith, h, c.if-block-self.false))
          (λ _ h. h.2 (each_page shows block is (λ (p : Page). IsOfHeap block.heap p.directory) deeds h.0 h.1))
          (λ _ h. false≢true (cc (each_page shows block is (λ (p : Page). p.backed ≡ true) backed h.0 h.1))) (λ lt. absurd (omega (arith, lt))) (λ lt. absurd (omega (arith, lt)));
    }

pub returns-then-index-block-clause-verdict : goal.returns-then-index-block-clause-verdict
returns-then-index-block-clause-verdict c k es shows =
    let f = c.args.self.now.profile in
    let block = c.args.block.now in
    let is = c.if-is_no_run.ensures in
    let deeds = rw (c.grain-first.ensures, c.grains.ensures, c.deref.ensures.value) at c.if-lacks_deed.ensures in
    let backed = rw (c.grain-first.ensures, c.grains.ensures, c.deref-2.ensures.value) at c.if-lacks_backing.ensures in
    let clear = rw (c.grain-first.ensures, c.grains.ensures, c.deref-3.ensures.value) at c.if-is_some_covered.ensures in
    let p = place_at f _ _ _ es shows block is c.args.self.now.places.len c.args.self.now.places.ok.0 c.args.self.now.places_sized c.index.result.now (rw c.grain-first.ensures at c.index.ensures) in
    record {
      applies = λ same. c.if-index-block.true (gives_are es (address_of block.name) is.whole.aligned c.index.result.now p ∙ sym same);
      others = give_before f es k block 9 (λ _. inside_never f block is) (λ _ h. omega (arith, h, c.if-block-self.false))
          (λ _ h. h.2 (each_page shows block is (λ (p : Page). IsOfHeap block.heap p.directory) deeds h.0 h.1))
          (λ _ h. false≢true (cc (each_page shows block is (λ (p : Page). p.backed ≡ true) backed h.0 h.1))) (λ _ h. none_lives shows block is clear h.0 h.1 h.2) (λ lt. absurd (omega (arith, lt)));
    }

pub returns-clause-verdict : goal.returns-clause-verdict
returns-clause-verdict c k es shows reason =
    let f = c.args.self.now.profile in
    let block = c.args.block.now in
    let is = c.if-is_no_run.ensures in
    let deeds = rw (c.grain-first.ensures, c.grains.ensures, c.deref.ensures.value) at c.if-lacks_deed.ensures in
    let backed = rw (c.grain-first.ensures, c.grains.ensures, c.deref-2.ensures.value) at c.if-lacks_backing.ensures in
    let clear = rw (c.grain-first.ensures, c.grains.ensures, c.deref-3.ensures.value) at c.if-is_some_covered.ensures in
    let p = place_at f _ _ _ es shows block is c.args.self.now.places.len c.args.self.now.places.ok.0 c.args.self.now.places_sized c.index.result.now (rw c.grain-first.ensures at c.index.ensures) in
    give_before f es k block 12 (λ _. inside_never f block is) (λ _ h. omega (arith, h, c.if-block-self.false))
    (λ _ h. h.2 (each_page shows block is (λ (p : Page). IsOfHeap block.heap p.directory) deeds h.0 h.1))
    (λ _ h. false≢true (sym h.2 ∙ each_page shows block is (λ (p : Page). p.backed ≡ true) backed h.0 h.1)) (λ _ h. none_lives shows block is clear h.0 h.1 h.2)
    (λ _ h. h (sym c.if-index-block.false ∙ gives_are es (address_of block.name) is.whole.aligned c.index.result.now p)) reason (grind arith)
