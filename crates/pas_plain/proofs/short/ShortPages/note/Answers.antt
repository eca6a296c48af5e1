use Rattle.std.proofs.{Common.{arith, refl, sym, ap, ◌∙◌, inl, inr, eqb-true}, lemmas.Bool.or_cases}
use Rattle.pas_plain.{specs.declared.short.ShortRow.ShortRow, proofs.ShortOnes.{row_is, note_there, page_with}}
use Rattle.pas_plain.proofs.short.ShortPages.note.Goals as goal

pub returns : goal.returns
returns c g a p note =
    let rows = c.row_for.new.self.rows.items in let at = c.in-Some.at in let row = c.in-Some.ensures.row in let page = c.args.page in
    let was = row_is rows at c.index_mut.result.now row.within c.index_mut.ensures.value in
    let same = ap (λ (r : ShortRow). r.pages) (row_is rows at c.index.result.now row.within c.index.ensures ∙ sym was) in
    let same_grains = ap (λ (r : ShortRow). r.grains) was ∙ row.grains_are in let same_align = ap (λ (r : ShortRow). r.align) was ∙ row.align_is in
    elim (note_there c.row_for.new.self _ at _ refl row.within g a p note) [
      | inl old ↦ inl (c.in-Some.ensures.same g a p old)
      | inr there ↦ search (arith, or_cases, page_with, eqb-true)
    ]
