-- What the searches promise.
use Rattle.std.specs.Prelude.{ℕ, ◌+◌, ◌-◌, ◌*◌, ◌/◌, ◌%◌, ◌<◌, ◌≤◌, ◌≡◌, true, false, List, [], ◌∷◌, ◌++◌, length, MatchOption, Option}
use Rattle.pas_bits.specs.Bits.{has_bit}
use Rattle.pas_profile.specs.{Directories.number_of, Profiles.IsPage, declared.{directory.Directory.Directory, profile.Profile.Profile, event.NoRoom.NoRoom}}
use Rattle.pas_profile.specs.declared.{event.NoRoom.TheVariants.{NoSpace, Held}, word.Word.Word}
use Rattle.pas_steps.specs.{Views.{View, has_right, KnowsDeed}, Agreement.Agreed, Desks.{Standing, AnyView, Adds}, Past.{Once, Always}, Frames.OnlyScans}
use Rattle.pas_steps.specs.{Kinds.{Kinds, LookDeed, LookParked, Only}, declared.step.{Made.Made, Step.TheVariants.Look}, Evidence.{ZeroHere, OneHere, DeedHere}}
use Rattle.pas_steps.specs.Evidence.{NoDeedHere, ParkedHere, IsSingle}
use Rattle.pas_scan.specs.{Marks.is_marked, Rows.{looks_from, eligible_looks, words_to}}

-- ---- the search of offered pages from page `next` on
-- each page from this one on was read as not offered
abbrev pub NoneOffered : Profile → Directory → ℕ → List Made → Type 0
NoneOffered f d next steps = (p : ℕ) → next ≤ p → p ≤ f.pages → Once (ZeroHere d p) steps

-- This page was read as offered, and each lower one from `next` on as not offered. Its deed is known then, and the actor hadn't its right.
pub record IsFirstOffered (f : Profile) (d : Directory) (next : ℕ) (steps : List Made) (page : ℕ) : Type 0 where
  pub from_next : next ≤ page
  pub of_region : IsPage f page
  pub one : Once (OneHere d page) steps
  pub lower : (p : ℕ) → next ≤ p → p < page → Once (ZeroHere d p) steps
  pub deed : (v : View) → KnowsDeed page d (steps ++ v)
  pub lacks : (v : View) → Agreed f v steps → has_right v page ≡ false

-- The eligible words from that of `next` on were read, each once and the lowest first, up to the end of the row that shows the page, or all of
-- them; and nothing else. `next'` is where the search goes on.
pub record FindsOffered (d : Directory) (next : ℕ) (desk desk' : Standing) (next' : ℕ) (found : Option ℕ) : Type 0 where
  pub steps : List Made
  pub adds : Adds desk desk' AnyView steps
  pub scans : OnlyScans steps
  pub single : IsSingle steps
  pub answers : List ℕ
  pub order : steps ≡ eligible_looks (number_of d) (next / 64) answers
  pub count : MatchOption found (length steps ≡ desk.seat.profile.pages / 64 + 1 - next / 64) (λ page. length steps ≡ words_to desk.seat.profile next page)
  pub outcome : MatchOption found
      ((next' ≡ next) × NoneOffered desk.seat.profile d next steps)
      (λ page. (next' ≡ page + 1) × IsFirstOffered desk.seat.profile d next steps page)

-- ---- the search of a page without a deed, from this page on
pub record IsFirstBare (f : Profile) (from : ℕ) (steps : List Made) (page : ℕ) : Type 0 where
  pub from_there : from ≤ page
  pub of_region : IsPage f page
  pub none : Once (NoDeedHere page) steps
  pub lower : (p : ℕ) → from ≤ p → p < page → Once (DeedHere p) steps

-- looks at the deed words of the pages from this one on, in order, with these answers, the newest first
abbrev pub deed_looks : ℕ → List ℕ → List Made
deed_looks from answers = looks_from (λ page. Word.Deed page) from answers

-- The deed words from that of page `from` on were read, each once and the lowest first, up to that of the page that was found, or all of them;
-- and nothing else.
pub record FindsBare (from : ℕ) (desk desk' : Standing) (found : Option ℕ) : Type 0 where
  pub steps : List Made
  pub adds : Adds desk desk' AnyView steps
  pub scans : OnlyScans steps
  pub single : IsSingle steps
  pub answers : List ℕ
  pub order : steps ≡ deed_looks from answers
  pub count : MatchOption found (length steps ≡ desk.seat.profile.pages + 1 - from) (λ page. length steps ≡ page + 1 - from)
  pub outcome : MatchOption found
      ((p : ℕ) → from ≤ p → p ≤ desk.seat.profile.pages → Once (DeedHere p) steps)
      (IsFirstBare desk.seat.profile from steps)

-- ---- the verdict
-- the page is of the region, known to be of the directory, and not marked
pub record IsMember (f : Profile) (marks : List ℕ) (d : Directory) (v : View) (page : ℕ) : Type 0 where
  pub of_region : IsPage f page
  pub of_directory : KnowsDeed page d v
  pub unmarked : is_marked marks page ≡ false

-- the parked bit of each member below this page was read as 1
abbrev pub AllParked : Profile → List ℕ → Directory → ℕ → List Made → Type 0
AllParked f marks d end steps = (v : View) (p : ℕ) → p < end → IsMember f marks d (steps ++ v) p → Once (ParkedHere true p) steps

-- `Held` has the lowest member whose parked bit was read as 0. With `NoSpace` that of each was read as 1.
abbrev pub IsVerdict : Profile → List ℕ → Directory → List Made → NoRoom → Type 0
IsVerdict f marks d steps NoSpace = AllParked f marks d (f.pages + 1) steps
IsVerdict f marks d steps (Held page) = ((v : View) → IsMember f marks d (steps ++ v) page) × Once (ParkedHere false page) steps × AllParked f marks d page steps

-- the last block of which a word is read
abbrev pub last_block : Profile → NoRoom → ℕ
last_block f NoSpace = f.pages / 64
last_block f (Held page) = page / 64

-- what a verdict does: it looks at deed words and at parked words
abbrev pub judging : Kinds
judging = LookDeed ∷ LookParked ∷ []

-- no word is read twice, so no parked bit is read both as 1 and as 0; and no eligible word is read
pub record Judges (marks : List ℕ) (d : Directory) (desk desk' : Standing) (answer : NoRoom) : Type 0 where
  pub steps : List Made
  pub adds : Adds desk desk' AnyView steps
  pub scans : OnlyScans steps
  pub single : IsSingle steps
  pub kinds : Only judging steps
  pub few : length steps ≤ 65 * (last_block desk.seat.profile answer + 1)
  pub verdict : IsVerdict desk.seat.profile marks d steps answer

-- ---- the members of one word of a page vector
-- looks at the deed words of pages of this block alone
abbrev pub InBlock : ℕ → List Made → Type 0
InBlock block = Always (λ m before. (page : ℕ) × (m.step ≡ Look (Word.Deed page)) × (page / 64 ≡ block))

-- The bits of the answer are those of the members of this block, after looks at the deed words of its pages, from the lowest up.
pub record FindsMembers (marks : List ℕ) (d : Directory) (block : ℕ) (desk desk' : Standing) (answer : ℕ) : Type 0 where
  pub steps : List Made
  pub adds : Adds desk desk' AnyView steps
  pub deeds : InBlock block steps
  pub single : IsSingle steps
  pub few : length steps ≤ 64
  pub members : (v : View) (p : ℕ) → p / 64 ≡ block → IsMember desk.seat.profile marks d (steps ++ v) p → has_bit answer (p % 64) ≡ true
  pub only : (v : View) (p : ℕ) → p / 64 ≡ block → has_bit answer (p % 64) ≡ true → IsMember desk.seat.profile marks d (steps ++ v) p
