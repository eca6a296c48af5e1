use Rattle.std.proofs.Common.{◌∙◌, ap, sym, subst}
use Rattle.pas_large.{specs.Spans.{AreApart, lowest_fit}, proofs.Spans.{none_cut, cut_is_lowest, found_for}}
use Rattle.pas_large.proofs.index.LargeIndex.take_lowest.Goals as goal

pub returns-in_err-first-clause-left : goal.returns-in_err-first-clause-left
returns-in_err-first-clause-left c = sym (none_cut c.args.pages c.args.self.now (ap (lowest_fit c.args.pages) (sym (c.as_slice.ensures.value ∙ c.self.view_is)) ∙ sym c.in_err-first.ensures))

pub cut-requires : goal.cut-requires
cut-requires c =
    (found_for _ _ c.args.pages _ (subst (AreApart 0) c.self.view_is c.self.invariant) (c.as_slice.ensures.value ∙ c.self.view_is) c.in_ok-first.ensures).fits

pub returns-clause-left : goal.returns-clause-left
returns-clause-left c =
    c.cut.ensures.ranges
    ∙ cut_is_lowest 0 _ c.args.pages c.args.self.now (subst (AreApart 0) c.self.view_is c.self.invariant) (ap (lowest_fit c.args.pages) (sym (c.as_slice.ensures.value ∙ c.self.view_is)) ∙ sym c.in_ok-first.ensures)
