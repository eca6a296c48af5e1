-- What a search asks and promises.
use Rattle.std.specs.Prelude.{ℕ, ◌+◌, ◌-◌, ◌*◌, ◌/◌, ◌<◌, ◌≤◌, ◌≡◌, Bool, true, false, ◌⊎◌, List, ◌∷◌, ◌++◌, length, Result, MatchResult, Option, Some}
use Rattle.std.specs.Prelude.{MatchOption}
use Rattle.pas_profile.specs.{Profiles.IsPage, declared.{directory.Directory.Directory, profile.Profile.Profile, event.NoRoom.{NoRoom, TheVariants.NoSpace}}}
use Rattle.pas_profile.specs.declared.event.NoRoom.TheVariants.{Held}
use Rattle.pas_steps.specs.{Views.{View, has_right, KnowsDeed}, Events.events_by, Lists.Whole, Agreement.Agreed, Calls.{Leads, nothing, Does}, Clear.IsClear}
use Rattle.pas_steps.specs.{Frames.OnlyReads, Past.{Once, Always}, Unknown.{KnowsAllDeeds, HasRoom}, Desks.{Standing, Adds, triples, made}, Evidence.Readings}
use Rattle.pas_steps.specs.{Evidence.{ZeroHere, OneHere, UnfitHere, Searched, AllDeeds, Accounted, HeldHere, LacksAfter}, declared.step.Made.Made}
use Rattle.pas_steps.specs.declared.step.Step.TheVariants.{Deed}
use Rattle.pas_scan.specs.{Marks.is_marked, Rows.row_words}
use Rattle.pas_search.specs.{Kinds.{AreSearch, KeepsMarks, AreQuiet, EventsAt, deeds_made}, Serving.{Rule, IsUntouched, Keeps, ShowsFit, ServeSteps}}
use Rattle.pas_search.specs.{Telling.IsTold, declared.serving.Served.Served}

-- ---- what is asked
-- the actor is clear, and has no right of a page of the directory
pub record MaySearch (d : Directory) (v : View) : Type 0 where
  pub rights : (p : ℕ) → KnowsDeed p d v → has_right v p ≡ false
  pub clear : IsClear v

-- the condition of a search: it may search, and has the room
pub record SearchRoom (f : Profile) (d : Directory) (n spare : ℕ) (v : View) : Type 0 where
  pub may : MaySearch d v
  pub room : HasRoom f n spare v

-- that of a search of pages without a deed
pub record BareRoom (f : Profile) (n spare : ℕ) (v : View) : Type 0 where
  pub clear : IsClear v
  pub room : HasRoom f n spare v

-- ---- how many steps it makes, where a back end makes `each` at most on a page
-- of the offered pages up to this one: a look at each eligible word, and for each page those at the words of its row, which may be looked at
-- again, a claim and the back end's steps
unfoldable pub offered_steps : ℕ → ℕ → ℕ → ℕ
offered_steps each words page = (page + 1) / 64 + page * (each + words + 1)

-- of pages without a deed: a look at each deed word, a deed that another actor was first to make, and the back end's steps once
abbrev pub bare_steps : ℕ → ℕ → ℕ
bare_steps each pages = 2 * pages + each

-- of a whole search: both, and the verdict, which looks for each 64 pages at their deed words and at a parked word
abbrev pub search_steps : ℕ → ℕ → ℕ
search_steps each pages = offered_steps each (row_words pages) pages + bare_steps each pages + 65 * (pages / 64 + 1)

-- ---- how the page was chosen
-- its eligible bit was read as 1, and the call never had its right before
abbrev pub OfferedHere : Directory → ℕ → Made → List Made → Type 0
OfferedHere d page m before = OneHere d page m before × Always (LacksAfter page) before

-- a page was offered and fits: each lower page was got and didn't fit, or its bit was read as 0. No deed was made
pub record FromOffered (no_fit : Readings → Type 0) (d : Directory) (page : ℕ) (steps : List Made) : Type 0 where
  pub offered : Once (OfferedHere d page) steps
  pub searched : Searched no_fit d page steps
  pub no_deed : deeds_made steps ≡ 0

-- This step makes the deed, after the search of all offered pages, on a page all of whose lower pages' deed words were read as not 0. No event
-- was made before.
pub record DeedMadeHere (no_fit : Readings → Type 0) (f : Profile) (d : Directory) (page : ℕ) (m : Made) (before : List Made) : Type 0 where
  pub deed : m.step ≡ Deed page d
  pub made : m.answer ≡ 0
  pub searched : Searched no_fit d (f.pages + 1) before
  pub lower : AllDeeds page before
  pub quiet : AreQuiet before

pub record ByDeed (no_fit : Readings → Type 0) (f : Profile) (d : Directory) (page : ℕ) (steps : List Made) : Type 0 where
  pub made_here : Once (DeedMadeHere no_fit f d page) steps
  pub one_deed : deeds_made steps ≡ 1

-- ---- what is found
-- The page serves: what the answer says of it is kept, and it is known to be of the directory. All else is as it was.
pub record KeepsFound {F : Type 0} (rule : Rule F) (d : Directory) (served : Served F) (v w : View) : Type 0 where
  pub keeps : Keeps rule served.page served.found v w
  pub deed : KnowsDeed served.page d w

-- the page was neither offered, parked nor hinted
abbrev pub KeepsItsMarks : Profile → Directory → ℕ → List Made → Type 0
KeepsItsMarks f d page steps = (v : View) → MaySearch d v → Agreed f v steps → Always (KeepsMarks page) steps

-- at most n events were made beside the deeds, and no more than n in all where all deeds were known
abbrev pub FewEvents : Profile → Directory → ℕ → List Made → Type 0
FewEvents f d n steps = (k : ℕ) (v : View) → Agreed f v steps → (length (events_by k v steps) ≤ n + deeds_made steps) × (KnowsAllDeeds f v → length (events_by k v steps) ≤ n)

-- a page that was chosen so, and what the back end keeps of it
pub record Finds {F : Type 0} (rule : Rule F) (f : Profile) (d : Directory) (Choice : List Made → Type 0) (steps : List Made) (served : Served F) : Type 0 where
  pub page : IsPage f served.page
  pub keeps : Leads f (MaySearch d) (KeepsFound rule d served) steps
  pub choice : Choice steps
  pub shows : ShowsFit rule.no_fit (rule.kept served.found) f served.page (MaySearch d) steps steps
  pub serves : rule.serves served.page steps served.found
  pub marks : KeepsItsMarks f d served.page steps
  pub few : FewEvents f d rule.events steps
  pub events : EventsAt d served.page steps

abbrev pub IsServed : {F : Type 0} → Rule F → Profile → Directory → List Made → Served F → Type 0
IsServed rule f d steps served = Finds rule f d (λ call. FromOffered rule.no_fit d served.page call ⊎ ByDeed rule.no_fit f d served.page call) steps served

-- ---- refusals
-- each page of the directory from 1 to below this one is accounted for
abbrev pub AllAccounted : Profile → Directory → ℕ → List Made → Type 0
AllAccounted f d end steps = (v : View) → Agreed f v steps → (p : ℕ) → 1 ≤ p → p < end → KnowsDeed p d (steps ++ v) → Accounted d p steps

-- a page of the directory was in some actor's hands, and its right never in this call's
pub record IsHeld (f : Profile) (d : Directory) (steps : List Made) (page : ℕ) : Type 0 where
  pub page_of : IsPage f page
  pub of_directory : (v : View) → Agreed f v steps → KnowsDeed page d (steps ++ v)
  pub held : Once (HeldHere d page) steps
  pub lacked : Always (LacksAfter page) steps
  pub lower : AllAccounted f d page steps

abbrev pub IsRefusal : Profile → Directory → List Made → NoRoom → Type 0
IsRefusal f d steps NoSpace = AllAccounted f d (f.pages + 1) steps
IsRefusal f d steps (Held page) = IsHeld f d steps page

-- No offered page fits, no page is without a deed, and the answer says whether a page of the directory was in some actor's hands. No event was
-- made, and all is as it was.
pub record IsRefused (no_fit : Readings → Type 0) (f : Profile) (d : Directory) (steps : List Made) (room : NoRoom) : Type 0 where
  pub still : Leads f (MaySearch d) (Does nothing) steps
  pub quiet : AreQuiet steps
  pub no_deed : deeds_made steps ≡ 0
  pub searched : Searched no_fit d (f.pages + 1) steps
  pub deeds : AllDeeds (f.pages + 1) steps
  pub answer : IsRefusal f d steps room

-- ---- a search
-- The answer has its reasons in the steps of the call, and is true of the states at entry and at exit where the desk tells them.
pub record Searches {F : Type 0} (rule : Rule F) (tells : Bool) (d : Directory) (desk desk' : Standing) (answer : Result (Served F) NoRoom) : Type 0 where
  pub steps : List Made
  pub adds : Adds desk desk' (MaySearch d) steps
  pub searches : AreSearch steps
  pub few : length steps ≤ search_steps rule.steps desk.seat.profile.pages
  pub outcome : MatchResult answer (IsServed rule desk.seat.profile d steps) (IsRefused rule.no_fit desk.seat.profile d steps)
  pub told : tells ≡ true → (v : View) (l : Whole) → desk.stands v l → MaySearch d v
      → IsTold (λ (s : Served F). s.page) rule.no_fit desk.seat.profile d l (triples desk.seat.actor steps ++ l) answer

-- ---- the search of offered pages
-- So far: of the pages below `next` those that are marked didn't fit, and each other's bit was read as 0. The call has no right of them,
-- and never had that of one that isn't marked. All is as it was.
pub record Searching (no_fit : Readings → Type 0) (f : Profile) (d : Directory) (next : ℕ) (marks : List ℕ) (steps : List Made) : Type 0 where
  pub still : Leads f (MaySearch d) (Does nothing) steps
  pub searches : AreSearch steps
  pub quiet : AreQuiet steps
  pub untouched : (p : ℕ) → IsUntouched p steps
  pub marked : (p : ℕ) → is_marked marks p ≡ true → Once (UnfitHere no_fit p) steps
  pub zeros : (p : ℕ) → 1 ≤ p → p < next → is_marked marks p ≡ false → Once (ZeroHere d p) steps
  pub lacked : (p : ℕ) → is_marked marks p ≡ false → Always (LacksAfter p) steps

-- and no page from `next` on is marked
pub record GoesOn {F : Type 0} (rule : Rule F) (f : Profile) (d : Directory) (next : ℕ) (marks : List ℕ) (steps : List Made) : Type 0 where
  pub searching : Searching rule.no_fit f d next marks steps
  pub rest : (p : ℕ) → next ≤ p → is_marked marks p ≡ false
  pub within : next ≤ f.pages + 1
  pub few : length steps ≤ offered_steps rule.steps (row_words f.pages) (next - 1)

pub record SearchesOffered {F : Type 0} (rule : Rule F) (d : Directory) (desk desk' : Standing) (marks : List ℕ) (found : Option (Served F)) : Type 0 where
  pub steps : List Made
  pub adds : Adds desk desk' (MaySearch d) steps
  pub searches : AreSearch steps
  pub few : length steps ≤ offered_steps rule.steps (row_words desk.seat.profile.pages) desk.seat.profile.pages
  pub outcome : MatchOption found
      (Searching rule.no_fit desk.seat.profile d (desk.seat.profile.pages + 1) marks steps)
      (λ served. Finds rule desk.seat.profile d (FromOffered rule.no_fit d served.page) steps served)

-- ---- the search of pages without a deed
-- the deed was made on a page all of whose lower pages have one, and the back end served from there
pub record ServesBare {F : Type 0} (rule : Rule F) (f : Profile) (d : Directory) (steps : List Made) (served : Served F) : Type 0 where
  pub page : IsPage f served.page
  pub before : List Made
  pub reads : OnlyReads before
  pub lower : AllDeeds served.page before
  pub serve : List Made
  pub serves : ServeSteps rule f served.page d serve (Some served.found)
  pub steps_are : steps ≡ serve ++ (made (Deed served.page d) 0 ∷ before)

pub record SearchesBare {F : Type 0} (rule : Rule F) (d : Directory) (desk desk' : Standing) (found : Option (Served F)) : Type 0 where
  pub steps : List Made
  pub adds : Adds desk desk' IsClear steps
  pub few : length steps ≤ bare_steps rule.steps desk.seat.profile.pages
  pub outcome : MatchOption found
      (OnlyReads steps × AllDeeds (desk.seat.profile.pages + 1) steps)
      (ServesBare rule desk.seat.profile d steps)
