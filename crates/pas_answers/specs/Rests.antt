-- ACTORS BETWEEN TWO ACTS: all are at rest.
use Rattle.std.specs.Prelude.{ℕ, ◌<◌, ◌≤◌, List, [], ◌∷◌}
use Rattle.pas_profile.specs.declared.profile.Profile.{Profile}
use Rattle.pas_steps.specs.{Clear.HasNothing, Lists.{Whole, part}}
use Rattle.pas_guard.specs.Books.{FitsBook}
use Rattle.pas_cache.specs.Caches.{AtRest}
use Rattle.pas_trace.specs.Acts.{Act}
use Rattle.pas_answers.specs.{Answers.{Caches, Books, Progress}, Reaching.Reaches, Ways.{Way, InOrder, OnThreads}}

-- Each of so many threads is at rest with its cache. The actors of the region behind them are keepers: each holds exactly the outer pages of the guards that are
-- up in its book, has no right, and is clear. The scavenger has nothing.
pub record AreAtRest (threads : ℕ) (f : Profile) (caches : Caches) (books : Books) (l : Whole) : Type 0 where
  pub working : (k : ℕ) → (1 ≤ k) × (k ≤ threads) → AtRest f (caches k) (part k l)
  pub keeping : (k : ℕ) → (threads < k) × (k ≤ f.threads) → FitsBook f (books k) (part k l)
  pub scavenger : HasNothing (part 0 l)

-- .. before the first of these acts, and after each
abbrev pub AllAtRest : (threads : ℕ) (f : Profile) (acts : List Act) (p p' : Progress) → Reaches f acts p p' → Type 0
AllAtRest threads f [] p p' is = AreAtRest threads f p.caches p.books p.list
AllAtRest threads f (act ∷ acts) p p' is = AreAtRest threads f p.caches p.books p.list × AllAtRest threads f acts is.0 p' is.2

-- In the order of the text they are. On threads the acts of several actors go on at once, and nothing is said of a moment between two.
abbrev pub RestBetween : (way : Way) (threads : ℕ) (f : Profile) (acts : List Act) (p p' : Progress) → Reaches f acts p p' → Type 0
RestBetween InOrder threads f acts p p' is = AllAtRest threads f acts p p' is
RestBetween OnThreads threads f acts p p' is = Unit {0}
