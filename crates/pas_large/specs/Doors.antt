-- What indexes of ranges of pages answer that nobody else asks meanwhile: those of the heaps, by their numbers.
use Rattle.std.specs.Prelude.{ℕ, List, [], replicate, Option, slice_index_or, slice_set}
use Rattle.pas_profile.specs.declared.event.Range.{Range}
use Rattle.pas_large.specs.{declared.span.Span.Span, Spans.{span_of, lowest_fit, cut_lowest, added}}

-- what they hold
abbrev pub Indexes : Type 0
Indexes = List (List Span)

-- nothing, where there are so many
abbrev pub no_ranges : ℕ → Indexes
no_ranges heaps = replicate heaps []

-- the ranges of a heap: none where it has no index
abbrev pub ranges_of : Indexes → ℕ → List Span
ranges_of indexes heap = slice_index_or indexes heap []

-- the first page of its lowest range that has so many pages
abbrev pub found_in : Indexes → ℕ → ℕ → Option ℕ
found_in indexes heap pages = lowest_fit pages (ranges_of indexes heap)

-- the indexes without the first so many pages of that range
abbrev pub cut_in : Indexes → ℕ → ℕ → Indexes
cut_in indexes heap pages = slice_set indexes heap (cut_lowest pages (ranges_of indexes heap))

-- .. with a range more of the heap, or without it where its index is full
abbrev pub added_in : Indexes → ℕ → Range → Indexes
added_in indexes heap range = slice_set indexes heap (added (span_of range) (ranges_of indexes heap))
