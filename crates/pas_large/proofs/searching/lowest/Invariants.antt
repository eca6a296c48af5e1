use Rattle.std.proofs.Common.{◌≡◌, drop}
use Rattle.pas_large.specs.Spans.{lowest_fit}
use Rattle.pas_large.proofs.searching.lowest.Given as goal

-- no range so far has as many pages
abbrev pub invariant-loop-span : goal.invariant-loop-span
invariant-loop-span l = lowest_fit l.pages l.spans ≡ lowest_fit l.pages (drop l.span-index l.spans)
