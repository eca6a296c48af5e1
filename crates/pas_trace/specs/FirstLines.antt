-- What stands at the front of a text.
use Rattle.std.specs.Prelude.{ℕ, ◌<◌, ◌≡◌, Bool, true, List, [], ◌∷◌, ◌++◌, length, Option, None, Some, Ok}
use Rattle.pas_profile.specs.declared.profile.Profile.{Profile}
use Rattle.pas_trace.specs.{declared.{header.Header.Header, item.Item.Item}, Texts.lines_of, Reasons.header_of, Numbers.{all_digits, number_of}}
use Rattle.pas_trace.specs.Items.{item_of_line}

-- the text begins with a word that is this number, and with this byte after it
pub record BeginsWith (text : List ℕ) (n end : ℕ) (rest : List ℕ) : Type 0 where
  pub word : List ℕ
  pub digits : all_digits word ≡ true
  pub number : number_of word ≡ Some n
  pub text_is : text ≡ word ++ end ∷ rest

-- the first line of the text, which is of this version, says this item, whatever stands before it
pub record FirstSays (version : ℕ) (text : List ℕ) (item : Item) (rest : List ℕ) : Type 0 where
  pub line : List ℕ
  pub cut : lines_of text ≡ line ∷ lines_of rest
  pub shorter : length rest < length text
  pub says : (started : Bool) → item_of_line version started line ≡ Ok item

-- the region that the first line of a text names, if there is one and it is a header
abbrev pub header_of_first : List (List ℕ) → Option Header
header_of_first [] = None
header_of_first (line ∷ lines) = header_of line

abbrev pub region_named : Option Header → Option Profile
region_named None = None
region_named (Some header) = Some header.profile

abbrev pub first_header : List ℕ → Option Profile
first_header text = region_named (header_of_first (lines_of text))
