-- Ranges of pages, and lists of them that neither overlap nor touch.
use Rattle.std.specs.Prelude.{ℕ, ◌+◌, ◌-◌, ◌<◌, ◌≤◌, ◌≡◌, ◌==◌, min, max, nat_le, nat_lt, Bool, false, ◌&&◌, ◌||◌, if◌then◌else◌, List, [], ◌∷◌, ◌++◌, length}
use Rattle.std.specs.Prelude.{Option, None, Some}
use Rattle.pas_profile.specs.declared.event.Range.{Range}
use Rattle.pas_large.specs.declared.span.Span.{Span}

-- the bounds of a range
abbrev pub span_of : Range → Span
span_of range = record { first = range.first; end = range.first + range.pages }

-- the page is one of these
abbrev pub in_span : Span → ℕ → Bool
in_span s page = nat_le s.first page && nat_lt page s.end

-- .. of one of these
abbrev pub has_page : List Span → ℕ → Bool
has_page [] page = false
has_page (s ∷ rest) page = in_span s page || has_page rest page

-- They stand in order behind this page. Each has a page, and behind each is a page that is of none.
abbrev pub AreApart : ℕ → List Span → Type 0
AreApart low [] = Unit {0}
AreApart low (s ∷ rest) = (low < s.first) × (s.first < s.end) × (s.end ≤ 65536) × AreApart s.end rest

-- ---- one more
-- from the first page of both to the last one of both
abbrev pub hull : Span → Span → Span
hull a b = record { first = min a.first b.first; end = max a.end b.end }

-- The ranges with one more, which is made one with those that it meets or touches.
abbrev pub joined : Span → List Span → List Span
joined new [] = new ∷ []
joined new (s ∷ rest) = if nat_lt s.end new.first then s ∷ joined new rest else if nat_lt new.end s.first then new ∷ s ∷ rest else joined (hull s new) rest

-- what an index has after it: it is forgotten where 513 would be there
abbrev pub added : Span → List Span → List Span
added new spans = if nat_lt 512 (length (joined new spans)) then spans else joined new spans

-- ---- fewer
-- the first page of the lowest one that has so many pages
abbrev pub lowest_fit : ℕ → List Span → Option ℕ
lowest_fit n [] = None
lowest_fit n (s ∷ rest) = if nat_le n (s.end - s.first) then Some s.first else lowest_fit n rest

-- what is left without the first n pages
abbrev pub left_of : ℕ → Span → List Span
left_of n s = if nat_lt n (s.end - s.first) then record { first = s.first + n; end = s.end } ∷ [] else []

-- the ranges without the first n pages of the one that begins at this page
abbrev pub cut_at : ℕ → ℕ → List Span → List Span
cut_at first n [] = []
cut_at first n (s ∷ rest) = if s.first == first then left_of n s ++ rest else s ∷ cut_at first n rest

-- .. of the lowest one that has so many pages
abbrev pub cut_lowest : ℕ → List Span → List Span
cut_lowest n [] = []
cut_lowest n (s ∷ rest) = if nat_le n (s.end - s.first) then left_of n s ++ rest else s ∷ cut_lowest n rest

-- ---- of parts of a list
-- the first of them doesn't end before this page
abbrev pub EndsFrom : ℕ → List Span → Type 0
EndsFrom first [] = Unit {0}
EndsFrom first (s ∷ rest) = first ≤ s.end

-- the range begins at this page and has so many
pub record IsPlaceOf (first n : ℕ) (s : Span) : Type 0 where
  pub begins : s.first ≡ first
  pub long : s.first + n ≤ s.end
