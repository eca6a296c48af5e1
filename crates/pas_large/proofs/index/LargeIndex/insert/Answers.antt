use Rattle.std.proofs.Common.{arith}
use Rattle.pas_large.proofs.Spans.{joined_apart, joined_has}
use Rattle.pas_large.proofs.index.LargeIndex.insert.Goals as goal

pub returns-clause-ranges : goal.returns-clause-ranges
returns-clause-ranges c =
    let new = c.of-new.result in let place = c.place_behind-place.result in
    search arith

pub invariant_of-self : goal.invariant_of-self
invariant_of-self c = let some = c.requires.some in search (arith, returns-clause-ranges, joined_apart)

pub returns-clause-pages : goal.returns-clause-pages
returns-clause-pages c = let some = c.requires.some in search (arith, returns-clause-ranges, joined_has)
