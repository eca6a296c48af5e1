use Rattle.std.proofs.{Common.{◌≢◌, ◌<◌, ◌/◌, length, arith, refl, sym, ap, ◌∙◌, inl, inr, true, false, true≢false, length-set}, Math.ListN.set}
use Rattle.std.proofs.lemmas.Bool.{cases_Bool}
use Rattle.pas_plain.{specs.declared.short.ShortRow.ShortRow, proofs.ShortOnes.{row_is, note_there, row_there, page_without}}
use Rattle.pas_plain.proofs.short.ShortPages.forget.Goals as goal

pub invariant_of-self : goal.invariant_of-self
invariant_of-self c =
    let old = c.loop-at.self in let at = c.loop-at.at in let row = c.index_mut.result.now in let page = c.args.page in
    let lt : at < length old.rows.items = omega (arith, c.loop-at.invariant.long, c.loop-at-test.true, c.len-at-end.ensures) in
    let was = row_is old.rows.items at row lt c.index_mut.ensures.value in
    let same = ap (λ (r : ShortRow). r.pages) (row_is old.rows.items at c.index.result.now lt c.index.ensures ∙ sym was) in
    search (arith, row_there, page_without)

pub loop-at-preserved : goal.loop-at-preserved
loop-at-preserved c =
    let old = c.loop-at.self in let i = c.loop-at.invariant in let at = c.loop-at.at in let row = c.index_mut.result.now in let page = c.args.page in
    let lt : at < length old.rows.items = omega (arith, i.long, c.loop-at-test.true, c.len-at-end.ensures) in
    let was = row_is old.rows.items at row lt c.index_mut.ensures.value in
    let same = ap (λ (r : ShortRow). r.pages) (row_is old.rows.items at c.index.result.now lt c.index.ensures ∙ sym was) in
    let next : ShortRow = record { grains = row.grains; align = row.align; pages = set row.pages (page / 64) c.without_page.result } in
    record {
      long = length-set old.rows.items at _ ∙ i.long;
      any = i.any;
      notes = λ g a p note. i.notes g a p (elim (note_there old _ at _ refl lt g a p note) [
        | inl before ↦ before
        | inr there ↦
            search (arith, page_without)
      ]);
      cleared = search (arith, cases_Bool, row_there, page_without, true≢false);
    }

pub returns : goal.returns
returns c g a p note =
    search (arith, true≢false)
