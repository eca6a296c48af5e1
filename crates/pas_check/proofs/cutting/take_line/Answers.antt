use Rattle.std.proofs.{Common.{eqb, drop, ap, sym, ◌∙◌, arith}, lemmas.{Bool.{false≢true, Decides.Decides-eqb}, List.take_rest, Slice.Eq.starts_is}}
use Rattle.std.specs.List.{concat, starts_with}
use Rattle.pas_check.proofs.Cuts.{cut_here, goes_on_with, line_some}
use Rattle.pas_check.proofs.cutting.take_line.Goals as goal

pub returns-then-not-starts_with-clause-taken : goal.returns-then-not-starts_with-clause-taken
returns-then-not-starts_with-clause-taken c rest has =
    let rest_of = drop c.args.cursor.now.bytes c.args.text.now in
    let starts = starts_is Decides-eqb rest_of c.args.wanted.now c.starts_with.result
    (c.starts_with.ensures.value ∙ ap (λ w. starts_with eqb w c.args.wanted.now) (take_rest c.args.text.now c.args.cursor.now.bytes)) in
    false≢true (sym c.if-not-starts_with.true ∙ starts.1 (concat rest) (goes_on_with rest_of c.args.wanted.now rest has))

pub returns-clause-taken : goal.returns-clause-taken
returns-clause-taken c =
    search (arith, starts_is, eqb, take_rest, line_some, cut_here)
