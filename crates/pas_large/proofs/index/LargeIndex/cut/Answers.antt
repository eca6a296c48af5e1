use Rattle.std.proofs.Common.{◌∙◌, ◌≡◌, ◌++◌, ◌+◌, take, drop, get_or, sym, subst}
use Rattle.pas_large.{specs.{declared.span.Span.Span, Spans.{AreApart, has_page, left_of}, Sets.HasFewer}, proofs.Spans.{cut_apart, cut_has, from_to, cut_is}}
use Rattle.pas_large.proofs.index.LargeIndex.cut.Goals as goal

pub returns-clause-ranges : goal.returns-clause-ranges
returns-clause-ranges c =
    let i = c.place_at-place.result in let n = c.args.pages in let ys = c.shorten.new.spans.items in
    cut_is _ n _ _ ys i (c.as_slice.ensures.value ∙ c.self.view_is) c.place_at-place.ensures.within c.place_at-place.ensures.before c.place_at-place.ensures.here
    (subst (λ l. (d : Span) → ys ≡ take i l ++ (left_of n (get_or l i d) ++ drop (i + 1) l)) c.self.view_is c.shorten.ensures)

pub invariant_of-self : goal.invariant_of-self
invariant_of-self c = subst (AreApart 0) (sym (returns-clause-ranges c)) (cut_apart 0 c.args.first c.args.pages c.args.self.now (subst (AreApart 0) c.self.view_is c.self.invariant))

pub returns-clause-pages : goal.returns-clause-pages
returns-clause-pages c =
    subst (λ l. HasFewer (from_to c.args.first c.args.pages) (has_page c.args.self.now) (has_page l)) (sym (returns-clause-ranges c))
    (cut_has 0 c.args.first c.args.pages c.args.self.now (subst (AreApart 0) c.self.view_is c.self.invariant) c.requires)
