use Rattle.pas_check.proofs.Actings.{freed_logged, freed_outside, freed_unaligned}
use Rattle.pas_check.proofs.acting.free_entry.Goals as goal

pub returns-then-not-has_page-clause-taken : goal.returns-then-not-has_page-clause-taken
returns-then-not-has_page-clause-taken c = λ f act frees.
    freed_outside act c.args.k c.args.entry c.requires.within frees c.if-not-has_page.ensures c.take_record.ensures.led

pub returns-then-not-is_at_grain-clause-taken : goal.returns-then-not-is_at_grain-clause-taken
returns-then-not-is_at_grain-clause-taken c = λ f act frees.
    freed_unaligned act c.args.k c.args.entry c.requires.within frees c.if-not-has_page.ensures c.if-not-is_at_grain.ensures c.take_record-then-not-is_at_grain.ensures.led

pub returns-clause-taken : goal.returns-clause-taken
returns-clause-taken c = λ f act frees.
    freed_logged act c.args.k c.args.entry c.requires.within frees c.if-not-has_page.ensures c.if-not-is_at_grain.ensures (c.log_entry.ensures.taken f)
