use Rattle.std.proofs.{Common.arith, lemmas.List.get_or_default}
use Rattle.pas_large.proofs.Spans.{shortened}
use Rattle.pas_large.proofs.editing.shorten.Goals as goal

pub returns-then-pages-span : goal.returns-then-pages-span
returns-then-pages-span c d =
    let spans = c.args.spans.now.items in let i = c.args.place in
    search (arith, shortened, get_or_default)
