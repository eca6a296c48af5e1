-- Lines that were taken apart before those in front of them were read.
use Rattle.std.specs.Prelude.{ℕ, ◌+◌, ◌≤◌, ◌≡◌, Bool, List, ◌++◌, map, length, Ok}
use Rattle.pas_trace.specs.{Texts.lines_of, Items.item_of_line, declared.item.Item.Item}

-- the lines of a text of this version say these items, one by one, whatever stands before them
abbrev pub Say : ℕ → List (List ℕ) → List Item → Type 0
Say version lines items = (started : Bool) → map (item_of_line version started) lines ≡ map Ok items

-- the first lines of the text, which is of this version, say these items, and this text is left
pub record AreLexed (version : ℕ) (text : List ℕ) (items : List Item) (left : List ℕ) : Type 0 where
  pub lines : List (List ℕ)
  pub cut : lines_of text ≡ lines ++ lines_of left
  pub say : Say version lines items
  pub few : length items + length left ≤ length text
