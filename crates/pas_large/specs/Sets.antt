-- Sets of pages, and where enough pages follow each other in them.
use Rattle.std.specs.Prelude.{ℕ, ◌+◌, ◌<◌, ◌≤◌, ◌≡◌, Bool, true, false, not, ◌&&◌, ◌||◌}
use Rattle.pas_large.specs.{declared.span.Span.Span, Spans.in_span}

-- pages that belong together begin here: the page is of the set and the one before it isn't; and n pages from here on are
pub record FitsAt (has : ℕ → Bool) (n first : ℕ) : Type 0 where
  pub begins : has first ≡ true
  pub before : (page : ℕ) → page + 1 ≡ first → has page ≡ false
  pub pages : (page : ℕ) → first ≤ page → page < first + n → has page ≡ true

-- the lowest such place
pub record IsLowestFit (has : ℕ → Bool) (n first : ℕ) : Type 0 where
  pub fits : FitsAt has n first
  pub lowest : (other : ℕ) → other < first → FitsAt has n other → ⊥

-- there is none
abbrev pub HasNoFit : (ℕ → Bool) → ℕ → Type 0
HasNoFit has n = (first : ℕ) → FitsAt has n first → ⊥

-- the set has just these pages more
abbrev pub HasMore : Span → (ℕ → Bool) → (ℕ → Bool) → Type 0
HasMore s before after = (page : ℕ) → after page ≡ (before page || in_span s page)

-- .. fewer
abbrev pub HasFewer : Span → (ℕ → Bool) → (ℕ → Bool) → Type 0
HasFewer s before after = (page : ℕ) → after page ≡ (before page && not (in_span s page))
