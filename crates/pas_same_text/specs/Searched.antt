-- A SEARCH in a replay beside that of the text.
use Rattle.std.specs.Prelude.{ℕ, ◌≡◌, true, false, List, ◌++◌}
use Rattle.pas_profile.specs.{Profiles.{IsValid, IsPage, IsDirectoryOf}, declared.{directory.Directory.Directory, profile.Profile.Profile}}
use Rattle.pas_steps.specs.{Desks.triples, Evidence.{Readings, IsAntitone}, Kinds.{kind_of, is_in, lending}, Lists.{part, Legal}, Past.Always, Views.has_right}
use Rattle.pas_steps.specs.{Views.KnowsDeed, declared.step.Made.Made}
use Rattle.pas_core.specs.Rights.{free_of_page}
use Rattle.pas_answers.specs.Answers.{Progress}
use Rattle.pas_same_text.specs.{State.World, Pages.is_guarded, Searches.some_of, Same.ArePagesSame}

-- Where nothing fits on a page by its free grains in the replay, the text finds nothing that fits there, and it finds something where something does: of pages
-- that no guard has, since all others' grains are a keeper's.
pub record FitsSame (no_fit : Readings → Type 0) (f : Profile) (p : Progress) (w : World) (fits : ℕ → List ℕ) : Type 0 where
  pub none : (page : ℕ) → IsPage f page → is_guarded w page ≡ false → no_fit (free_of_page p.list page) → some_of (fits page) ≡ false
  pub some : (page : ℕ) → IsPage f page → is_guarded w page ≡ false → (no_fit (free_of_page p.list page) → ⊥) → some_of (fits page) ≡ true

-- Actor k goes on alone with these steps of a search for a page of the directory, whose right it has of no page that it knows to be of that directory. They give and
-- end no block. The pages are the same in the text, and what fits on them.
pub record IsSearch (no_fit : Readings → Type 0) (f : Profile) (d : Directory) (k : ℕ) (p : Progress) (steps : List Made) (w : World) (fits : ℕ → List ℕ) : Type 0 where
  pub valid : IsValid f
  pub directory : IsDirectoryOf f d
  pub fewer : IsAntitone no_fit
  pub legal : Legal f (triples k steps ++ p.list)
  pub lends_none : Always (λ m before. is_in lending (kind_of m.step) ≡ false) steps
  pub rights : (page : ℕ) → KnowsDeed page d (part k p.list) → has_right (part k p.list) page ≡ false
  pub pages : ArePagesSame f p.list w
  pub fits_same : FitsSame no_fit f p w fits
