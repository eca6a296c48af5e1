-- A call whose actor alone made steps meanwhile, whatever its desk tells; and what a search is then.
use Rattle.std.specs.Prelude.{ℕ, ◌≡◌, false, List, ◌++◌, Result, Ok, Err}
use Rattle.pas_profile.specs.declared.{directory.Directory.Directory, event.NoRoom.{NoRoom, TheVariants.{NoSpace, Held}}, profile.Profile.Profile}
use Rattle.pas_steps.specs.{Desks.triples, Evidence.Readings, Kinds.{kind_of, is_in, lending}, Lists.{Whole, Legal}, Past.Always, declared.step.Made.Made}
use Rattle.pas_core.specs.{Fits.HasNoFit, Rights.AllRest}
use Rattle.pas_search.specs.{Kinds.ReturnsDuly, declared.serving.Served.Served}

-- These steps of actor k came onto the list l with none of another actor between them. They give and end no block, and give back only what they got.
pub record IsLone (f : Profile) (k : ℕ) (l : Whole) (steps : List Made) : Type 0 where
  pub legal : Legal f (triples k steps ++ l)
  pub lends_none : Always (λ m before. is_in lending (kind_of m.step) ≡ false) steps
  pub returns : Always ReturnsDuly steps

-- the page that was found, or why none was
abbrev pub page_found : {F : Type 0} → Result (Served F) NoRoom → Result ℕ NoRoom
page_found (Ok served) = Ok served.page
page_found (Err room) = Err room

-- The request was refused exactly where no page could serve it in the state before, the list l. Where all were at rest there besides, and none had a right, no
-- page is said to be held, so the answer is then `NoSpace`.
pub record FindsWhatThereIs {A : Type 0} (no_fit : Readings → Type 0) (f : Profile) (d : Directory) (l : Whole) (answer : Result A NoRoom) : Type 0 where
  pub none_fits : (room : NoRoom) → answer ≡ Err room → HasNoFit no_fit f d l
  pub refused : HasNoFit no_fit f d l → (found : A) → answer ≡ Ok found → ⊥
  pub not_held : AllRest f l → (page : ℕ) → answer ≡ Err (Held page) → ⊥
  pub no_space : AllRest f l → HasNoFit no_fit f d l → answer ≡ Err NoSpace
