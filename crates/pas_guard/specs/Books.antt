-- Guards that are up, and how an actor fits a book of them.
use Rattle.std.specs.Prelude.{ℕ, ◌/◌, ◌<◌, ◌≡◌, ◌≢◌, ◌==◌, Bool, false, ◌||◌, List, [], ◌∷◌}
use Rattle.pas_profile.specs.{Profiles.IsPage, Blocks.address_of, declared.{profile.Profile.Profile, guard.Guard.Guard}}
use Rattle.pas_scan.specs.Runs.{large_directory}
use Rattle.pas_steps.specs.{Clear.IsClear, Views.{View, holds, has_right, KnowsDeed}}
use Rattle.pas_guard.specs.declared.book.GuardBook.{GuardBook}

abbrev pub guards_in : GuardBook → List Guard
guards_in book = book.guards.items

-- for how many guards it was made
abbrev pub size_of_book : GuardBook → ℕ
size_of_book book = book.bound

-- ---- outer pages
abbrev pub is_outer_of : Guard → ℕ → Bool
is_outer_of guard page = (guard.low == page) || (guard.high == page)

abbrev pub is_outer : List Guard → ℕ → Bool
is_outer [] page = false
is_outer (guard ∷ more) page = is_outer_of guard page || is_outer more page

-- no page is an outer page of two guards
abbrev pub AreApart : List Guard → Type 0
AreApart [] = Unit {0}
AreApart (guard ∷ more) = (is_outer more guard.low ≡ false) × (is_outer more guard.high ≡ false) × AreApart more

abbrev pub Each : (Guard → Type 0) → List Guard → Type 0
Each P [] = Unit {0}
Each P (guard ∷ more) = P guard × Each P more

pub record IsGuardOf (f : Profile) (guard : Guard) : Type 0 where
  pub low : IsPage f guard.low
  pub high : IsPage f guard.high
  pub two : guard.low ≢ guard.high
  pub heap : guard.block.heap < f.heaps
  pub block : IsPage f (address_of guard.block.name / 4096)

pub record KnowsGuard (v : View) (guard : Guard) : Type 0 where
  pub low : KnowsDeed guard.low (large_directory guard.block.heap) v
  pub high : KnowsDeed guard.high (large_directory guard.block.heap) v

-- The outer pages are all different, the actor holds exactly their grains and knows their deeds, and it has no right and is clear.
pub record FitsBook (f : Profile) (guards : List Guard) (v : View) : Type 0 where
  pub apart : AreApart guards
  pub of_region : Each (IsGuardOf f) guards
  pub knows : Each (KnowsGuard v) guards
  pub held : (g : ℕ) → holds v g ≡ is_outer guards (g / 256)
  pub rights : (page : ℕ) → has_right v page ≡ false
  pub clear : IsClear v
