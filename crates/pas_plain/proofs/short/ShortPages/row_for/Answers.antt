use Rattle.std.proofs.Common.{arith, refl, sym, ap, ◌∙◌}
use Rattle.pas_plain.{specs.{ShortRows.has_page, declared.short.ShortRow.ShortRow}, proofs.ShortOnes.{row_pushed, note_pushed}}
use Rattle.pas_plain.proofs.short.ShortPages.row_for.Goals as goal

pub invariant_of-self : goal.invariant_of-self
invariant_of-self c = let old = c.args.self.now in record {
  within = let one = c.push_reserved.ensures.len in let next = c.len-next.ensures in let few = c.if-next-eq-MOST_ROWS.false in omega (arith, one, next, few, old.within);
  reserved = let more = c.push_reserved.ensures.capacity in omega (arith, more, old.reserved);
  all = λ at p lt here.
      let was = row_pushed old.rows.items c.push_reserved.new.self.items _ c.push_reserved.ensures.items refl at p here in
      old.all at p (omega (arith, was.0, old.rows.ok.0)) (sym (ap (λ (r : ShortRow). has_page r.pages p) was.1) ∙ here);
}

pub returns-clause-same : goal.returns-clause-same
returns-clause-same c = note_pushed c.args.self.now _ _ c.push_reserved.ensures.items refl
