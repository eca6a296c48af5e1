-- One actor alone goes on with one search for a page that serves a small request, after a list at whose end all are at rest: what the steps of the search
-- show, and what its answer says of the words before it.
use Rattle.std.specs.Prelude.{ℕ, ◌+◌, ◌/◌, ◌%◌, ◌<◌, ◌≡◌, ◌⊎◌, true, false, List, ◌++◌, Result, Ok, Err, None}
use Rattle.pas_profile.specs.{Profiles.IsPage, declared.{directory.Directory.Directory, event.NoRoom.{NoRoom, TheVariants.{NoSpace, Held}}}}
use Rattle.pas_profile.specs.declared.profile.Profile.{Profile}
use Rattle.pas_steps.specs.{Desks.triples, Events.event_of, Kinds.{kind_of, is_in, lending}, Lists.{Whole, part, Legal}, Past.{Once, Always}, Views.View}
use Rattle.pas_steps.specs.{Views.{holds, KnowsDeed}, Evidence.{Readings, OneHere, LacksAfter, ShowsHere, Searched, AllDeeds, HeldHere}}
use Rattle.pas_steps.specs.declared.step.{Made.Made, Step.TheVariants.Deed}
use Rattle.pas_core.specs.Fits.{HasNoFit}

-- ---- what the steps of a search show, the newest first, where the actor's view before them was this one
-- The page was read as offered, before which the call never had its right. Each of its free words was read with the right, so that the readings
-- fit. No grain that the actor held before was read as free.
pub record ShowsOffered (no_fit : Readings → Type 0) (f : Profile) (d : Directory) (v : View) (page : ℕ) (steps : List Made) : Type 0 where
  pub of_region : IsPage f page
  pub offered : Once (λ m before. OneHere d page m before × Always (LacksAfter page) before) steps
  pub readings : Readings
  pub fits : no_fit readings → ⊥
  pub read : (word : ℕ) → word < 4 → Once (ShowsHere page word readings) steps
  pub none_held : (g : ℕ) → g / 256 ≡ page → holds v g ≡ true → readings (g % 256) ≡ false

-- the deed of the page was made
pub record ShowsBare (f : Profile) (d : Directory) (page : ℕ) (steps : List Made) : Type 0 where
  pub of_region : IsPage f page
  pub made : Once (λ m before. (m.step ≡ Deed page d) × (m.answer ≡ 0)) steps

-- No offered page fits: each was got and didn't fit, or was read as not offered. No deed word was read as 0. No event was made.
pub record ShowsNone (no_fit : Readings → Type 0) (f : Profile) (d : Directory) (steps : List Made) : Type 0 where
  pub searched : Searched no_fit d (f.pages + 1) steps
  pub deeds : AllDeeds (f.pages + 1) steps
  pub quiet : Always (λ m before. (k epoch : ℕ) → event_of k epoch m.step m.answer ≡ None) steps

-- the page of the directory was in some actor's hands, by what was read, and its right never in this call's
pub record ShowsHeld (f : Profile) (d : Directory) (v : View) (page : ℕ) (steps : List Made) : Type 0 where
  pub of_region : IsPage f page
  pub of_directory : KnowsDeed page d (steps ++ v)
  pub held : Once (HeldHere d page) steps
  pub lacked : Always (LacksAfter page) steps

-- the answer: a page that serves, or the reason why none does
abbrev pub ShowsAnswer : (Readings → Type 0) → Profile → Directory → View → List Made → Result ℕ NoRoom → Type 0
ShowsAnswer no_fit f d v steps (Ok page) = ShowsOffered no_fit f d v page steps ⊎ ShowsBare f d page steps
ShowsAnswer no_fit f d v steps (Err NoSpace) = ShowsNone no_fit f d steps
ShowsAnswer no_fit f d v steps (Err (Held page)) = ShowsNone no_fit f d steps × ShowsHeld f d v page steps

-- ---- one actor alone
-- The list goes on by these steps of the actor alone, which give and end no block, and show this answer of one search.
pub record SearchesAlone (no_fit : Readings → Type 0) (f : Profile) (d : Directory) (k : ℕ) (l : Whole) (steps : List Made) (answer : Result ℕ NoRoom) : Type 0 where
  pub legal : Legal f (triples k steps ++ l)
  pub lends_none : Always (λ m before. is_in lending (kind_of m.step) ≡ false) steps
  pub shows : ShowsAnswer no_fit f d (part k l) steps answer

-- the answer isn't `Held`, and it is `NoSpace` exactly where no page was without a deed and no page that was offered to the directory fitted
pub record IsPlainAnswer (no_fit : Readings → Type 0) (f : Profile) (d : Directory) (l : Whole) (answer : Result ℕ NoRoom) : Type 0 where
  pub not_held : (page : ℕ) → answer ≡ Err (Held page) → ⊥
  pub none_fits : answer ≡ Err NoSpace → HasNoFit no_fit f d l
  pub no_space : HasNoFit no_fit f d l → answer ≡ Err NoSpace
