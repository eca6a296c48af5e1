use Rattle.std.proofs.{Common.{ap, ◌∙◌, ◌≡◌, ◌+◌, [], List, drop, subst, arith}, lemmas.{List.{drop_more, drop_all}, Result.err_from_is_err_and}}
use Rattle.pas_trace.{specs.{Plans.items_from, declared.item.Item.Item}, proofs.LexedLines.{none-left, Further, further-more, further-line, further-fault}}
use Rattle.pas_trace.proofs.reader.Reader.take_items.Goals as goal

pub take_by_kind-requires-clause-tells : goal.take_by_kind-requires-clause-tells
take_by_kind-requires-clause-tells c =
    let told = c.requires.tells in
    let said = c.requires.said in
    let h = c.loop-item.invariant.further told.0 said.0 told.1 said.1 in
    (h.far.items, h.far.tells)

pub take_by_kind-requires-clause-line : goal.take_by_kind-requires-clause-line
take_by_kind-requires-clause-line c = omega (arith, c.loop-item.invariant.line, c.requires.size)

pub loop-item-preserved : goal.loop-item-preserved
loop-item-preserved c =
    let i = c.loop-item.item-index in
    let xs = c.args.items.now in
    record {
      further = λ told lines t said. further-more _ _ _ told lines _ _ (subst (λ (items : List Item). Further c.args.self.now told lines c.loop-item.self items)
          (drop_more xs i _ c.loop-item-test.true) (c.loop-item.invariant.further told lines t said)) c.in_ok-take_by_kind.ensures;
      line =
          let told = c.requires.tells in
          let said = c.requires.said in
          let one = further-line _ _ _ told.0 said.0 _ _ (subst (λ (items : List Item). Further c.args.self.now told.0 said.0 c.loop-item.self items)
          (drop_more xs i _ c.loop-item-test.true) (c.loop-item.invariant.further told.0 said.0 told.1 said.1)) c.in_ok-take_by_kind.ensures in
          omega (arith, one, c.loop-item.invariant.line);
    }

pub returns-in_err-take_by_kind-clause-taken : goal.returns-in_err-take_by_kind-clause-taken
returns-in_err-take_by_kind-clause-taken c told lines t said =
    let p = err_from_is_err_and c.from_residual.result c.from_residual.ensures.1 in
    let i = c.loop-item.item-index in
    let xs = c.args.items.now in
    let h = c.loop-item.invariant.further told lines t said in
    rw (p.1, p.2) (further-fault c.args.self.now c.loop-item.self c.take_by_kind.new.self told lines _ (drop (i + 1) xs) _
    (subst (λ (items : List Item). Further c.args.self.now told lines c.loop-item.self items) (drop_more xs i _ c.loop-item-test.true) h) c.in_err-take_by_kind.ensures)

pub returns-clause-taken : goal.returns-clause-taken
returns-clause-taken c told lines t said =
    let h = c.loop-item.invariant.further told lines t said in
    let none : drop c.loop-item.item-index c.args.items.now ≡ [] = drop_all c.loop-item.item-index c.args.items.now (omega arith) in
    let h = subst (λ (items : List Item). Further c.args.self.now told lines c.loop-item.self items) none h in (
      h.far.items,
      h.far.same
          ∙ ap (items_from c.args.self.now.header (c.loop-item.self.line + 1) h.far.items)
          (none-left c.args.self.now.header.version h.left h.say),
      h.far.tells,
      h.far.header,
      h.far.scripting,
    )
