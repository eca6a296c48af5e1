use Rattle.std.proofs.Common.{arith, ◌≡◌, refl, ap, sym, ◌∙◌}
use Rattle.pas_steps.{specs.{Paged.value_in, declared.paged.PagedWords.PagedWords}, proofs.OnPages.{rewritten, life_past}}
use Rattle.pas_steps.proofs.paged.PagedWords.set.Goals as goal

pub returns-else-is_open_for-2-clause-words : goal.returns-else-is_open_for-2-clause-words
returns-else-is_open_for-2-clause-words c w of =
    let old = c.args.self.now in
    let closed = c.is_open_for-in-Life.ensures.closed c.if-is_open_for-2.false in
    let is : value_in old c.args.word ≡ c.args.value =
    ap (value_in old) c.in-Life.is ∙ life_past old c.in-Life.page c.in-Life.grain (omega (arith, closed.0, old.pages.ok.0)) ∙ sym closed.1 in
    ap (λ (words : PagedWords). value_in words w) (c.is_open_for-in-Life.ensures.unchanged c.if-is_open_for-2.false) ∙ rewritten old c.args.word w c.args.value is _ refl
