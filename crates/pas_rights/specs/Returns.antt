-- What an actor does after it put grains back. `Returned` is what `returned` promises.
use Rattle.std.specs.Prelude.{ℕ, ◌%◌, ◌≤◌, ◌≡◌, true, false, ◌⊎◌, List, [], ◌∷◌, ◌++◌, Option, length}
use Rattle.pas_bits.specs.Bits.{has_bit}
use Rattle.pas_profile.specs.declared.directory.Directory.{Directory}
use Rattle.pas_steps.specs.{Calls.{Calls, Does, Fate, Kept, on_page}, Clear.{OwesNothing, IsClearOn}, Desks.{Standing, Adds, made}, Frames.OnlyReturns}
use Rattle.pas_steps.specs.{Views.{View, KnowsDeed, is_unstamped, examines}, declared.step.{Made.Made, Step.TheVariants.{Offer, Unpark}}}
use Rattle.pas_rights.specs.{Looks.{looks_until, AreUsed, is_free, HintsWhere}, declared.reading.Used.Used}

-- The right of the page has this fate, and nothing is owed on the page. All else is as it was: a page that was unstamped or examined still is, so
-- the page is clear where it was neither.
pub record Settles (page : ℕ) (right : Fate) (v w : View) : Type 0 where
  pub does : Does (on_page page right Kept) v w
  pub owes : OwesNothing page w
  pub clear : is_unstamped v page ≡ false → examines v page ≡ false → IsClearOn page w

-- ---- the steps
-- the page is unparked, and offered where this gets the right
abbrev pub ReofferSteps : ℕ → Directory → List Made → Type 0
ReofferSteps page directory steps =
    ((u : ℕ) × (has_bit u (page % 64) ≡ false) × (steps ≡ made (Unpark page) u ∷ []))
    ⊎ ((u : ℕ) × (o : ℕ) × (has_bit u (page % 64) ≡ true) × (steps ≡ made (Offer page directory) o ∷ made (Unpark page) u ∷ []))

-- the page is taken back if it is parked, the free words are looked at up to a used grain, and the page is hinted where each was read as free
pub record ReturnSteps (page : ℕ) (directory : Directory) (steps : List Made) : Type 0 where
  pub first : List Made
  pub reoffers : ReofferSteps page directory first
  pub used : Option Used
  pub are : AreUsed used
  pub after : List Made
  pub hints : HintsWhere (is_free used) page after
  pub steps_are : steps ≡ after ++ (looks_until page used ++ first)

-- After grains were put back the actor owes nothing on the page, and has its right exactly where it had it.
pub record Returned (page : ℕ) (directory : Directory) (desk desk' : Standing) : Type 0 where
  pub steps : List Made
  pub calls : Calls desk desk' (KnowsDeed page directory) (Settles page Kept) steps
  pub order : ReturnSteps page directory steps
  pub returns : OnlyReturns page steps
  pub few : length steps ≤ 8

-- ---- of private functions
pub record ReoffersPage (page : ℕ) (directory : Directory) (desk desk' : Standing) : Type 0 where
  pub steps : List Made
  pub order : ReofferSteps page directory steps
  pub adds : Adds desk desk' (KnowsDeed page directory) steps
