-- What a reader of scripts has taken of a text whose bytes come piece by piece.
use Rattle.std.specs.Prelude.{ℕ, ◌+◌, ◌≤◌, ◌≡◌, true, List, [], ◌++◌, take, length, Ok, Err}
use Rattle.pas_trace.specs.{Texts.lines_of, Plans.{parsed, with_items, items_from}, Scripts.IsScripting, Gathering.is_scripting, Told.{Tells, IsRead}}
use Rattle.pas_trace.specs.declared.{item.Item.Item, reader.Reader.Reader, stream.{Lines.Lines, ScriptReader.ScriptReader}}
use Rattle.pas_trace.specs.declared.stream.Lines.TheVariants as kind

-- the reader has read the text: what it and any rest come to is what the lines of the rest come to after these items
pub record HasReadText (text : List ℕ) (r : Reader) : Type 0 where
  pub items : List Item
  pub tells : Tells r items
  pub scripting : is_scripting r.gathered ≡ true
  pub few : r.line ≤ length text
  pub goes : (rest : List ℕ) → parsed (text ++ rest) ≡ with_items r.header (items_from r.header (r.line + 1) items (lines_of rest))

-- these are the lines of the text: it has no byte; or they were read; or one of them has the first fault, whatever follows, or memory was wanting
abbrev pub AreLinesOf : List ℕ → Lines → Type 0
AreLinesOf text (kind.Unread alloc) = text ≡ []
AreLinesOf text (kind.Read reader) = HasReadText text reader
AreLinesOf text (kind.Faulty fault) = (rest : List ℕ) → IsScripting (text ++ rest) (Err fault)

-- the reader of scripts has taken the text
abbrev pub HasTaken : List ℕ → ScriptReader → Type 0
HasTaken text reader = AreLinesOf text reader.lines

-- the lines of the text were read after those that the reader has read, or one of them has this fault, which can be that memory was wanting
abbrev pub AreLinesAfter : Reader → List ℕ → Lines → Type 0
AreLinesAfter old text (kind.Unread alloc) = ⊥
AreLinesAfter old text (kind.Read new) = ((items : List Item) → Tells old items → IsRead old items text new (Ok tt)) × (new.line ≤ old.line + length text)
AreLinesAfter old text (kind.Faulty fault) = (items : List Item) → Tells old items → IsRead old items text old (Err fault)

-- so many bytes of the text that comes next were taken after what these are the lines of
pub record TakesLines (old : Lines) (text : List ℕ) (new : Lines) (count : ℕ) : Type 0 where
  pub within : count ≤ length text
  pub taken : (before : List ℕ) → AreLinesOf before old → AreLinesOf (before ++ take count text) new
