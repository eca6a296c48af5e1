-- How a region at rest keeps its words.
use Rattle.std.specs.Prelude.{ℕ, slice_index}
use Rattle.pas_profile.specs.{Layouts.index_of, declared.word.{Layout.Layout, Word.Word}}
use Rattle.pas_steps.specs.{Paged.value_in, declared.{row.WordRow.WordRow, state.Kept.Kept}}

-- for how many pages and heaps they are kept
abbrev pub layout_of : Kept → Layout
layout_of (Kept.Row row) = row.layout
layout_of (Kept.Paged words) = words.layout

-- a word in a row stands at its place
abbrev pub value_in_row : WordRow → Word → ℕ
value_in_row row word = slice_index row.words.items (index_of row.layout.pages word)

abbrev pub kept_value : Kept → Word → ℕ
kept_value (Kept.Row row) word = value_in_row row word
kept_value (Kept.Paged words) word = value_in words word
