-- The claim of one page of a run.
use Rattle.std.specs.Prelude.{ℕ, ◌+◌, ◌/◌, ◌<◌, ◌≤◌, ◌≡◌, ◌==◌, ◌⊎◌, Bool, true, false, if◌then◌else◌, MatchBool, List, ◌++◌, ◌∷◌, [], length}
use Rattle.pas_profile.specs.declared.{directory.Directory.Directory, profile.Profile.Profile}
use Rattle.pas_rights.specs.PutsBack.{taking_grains, GivesDuly}
use Rattle.pas_steps.specs.{Agreement.Agreed, Clear.IsClear, Desks.{Standing, AnyView, Adds}, Events.events_by, Evidence.{KeptHere, GetsHere}, Frames.OnlyOn}
use Rattle.pas_steps.specs.{Frames.KeepsRight, Past.{Once, Always, Since}, Unknown.unknown_pages, Calls.{Leads, Fate, Kept, Gained, Lost, Effect, nothing}}
use Rattle.pas_steps.specs.{Calls.Does, Kinds.{Kinds, LookDeed, Deeding, Claiming, Only}, Views.{View, holds, has_right, known_deed, KnowsDeed}}
use Rattle.pas_steps.specs.declared.step.{Made.Made, Step.TheVariants.Deed}
use Rattle.pas_scan.specs.Usable.{OfHere, ReadUsable, LeftAlone}
use Rattle.pas_search.specs.{Kinds.ReturnsDuly, Serving.{MayServe, HoldsNone, GotBefore, right_of}}
use Rattle.pas_large.specs.{Evidence.{LostHere, BrokenHere, TakenWholeHere, DeedsRise, MissedHere, GotOf, LeftOrBroken}, declared.claiming.Claimed.Claimed}

-- the page's right isn't the actor's, unless the page is known to be of another directory; and the actor is clear
pub record MayClaim (d : Directory) (page : ℕ) (v : View) : Type 0 where
  pub lacks : (known_deed v page ≡ 0) ⊎ KnowsDeed page d v → has_right v page ≡ false
  pub clear : IsClear v

-- P holds at some of these steps, of it and of all steps before it, those that stood before these included
abbrev pub OnceAfter : List Made → (Made → List Made → Type 0) → List Made → Type 0
OnceAfter before P steps = Once (λ m b. P m (b ++ before)) steps

-- ---- what becomes of pages
-- all grains of these pages and their rights have this fate
abbrev pub of_pages : (ℕ → Bool) → Fate → Effect
of_pages pages fate = record { grains = λ g. if pages (g / 256) then fate else Kept; rights = λ q. if pages q then fate else Kept; clears = λ q. Kept }

-- So they are the actor's: none of the grains was held before and none of the rights was had, and the deeds are known.
pub record GotPages (pages : ℕ → Bool) (d : Directory) (v w : View) : Type 0 where
  pub does : Does (of_pages pages Gained) v w
  pub apart : (g : ℕ) → pages (g / 256) ≡ true → holds v g ≡ false
  pub lacked : (p : ℕ) → pages p ≡ true → has_right v p ≡ false
  pub deeds : (p : ℕ) → pages p ≡ true → KnowsDeed p d w

-- ---- deeds
-- each deed that was made is of this page and directory
abbrev pub DeedsOn : Directory → ℕ → List Made → Type 0
DeedsOn d page = Always (λ m before. (p : ℕ) (e : Directory) → m.step ≡ Deed p e → m.answer ≡ 0 → (e ≡ d) × (p ≡ page))

-- for each event a deed more is known
abbrev pub OnlyDeedsShow : Profile → List Made → Type 0
OnlyDeedsShow f steps = (k : ℕ) (v : View) → Agreed f v steps → length (events_by k v steps) + unknown_pages f (steps ++ v) ≤ unknown_pages f v

-- ---- the right of a page
abbrev pub getting : Kinds
getting = LookDeed ∷ Deeding ∷ Claiming ∷ []

-- .. of a page that has its deed already
abbrev pub getting_old : Kinds
getting_old = LookDeed ∷ Claiming ∷ []

-- the right is the actor's, and the page may be served from
pub record GotRight (page : ℕ) (d : Directory) (v w : View) : Type 0 where
  pub does : Does (right_of page Gained) v w
  pub may : MayServe page d w

pub record GetsRightOf (f : Profile) (d : Directory) (page : ℕ) (steps : List Made) : Type 0 where
  pub leads : Leads f (MayClaim d page) (GotRight page d) steps
  pub got : (before : List Made) → LeftAlone page before → GotBefore page (steps ++ before)

-- the page was lost, where the call had read it as usable before and may make deeds; it was left alone
pub record LosesRightOf (deeds : Bool) (f : Profile) (d : Directory) (page : ℕ) (steps : List Made) : Type 0 where
  pub leads : Leads f AnyView (Does nothing) steps
  pub alone : LeftAlone page steps
  pub missed : deeds ≡ false → Once (MissedHere d page) steps
  pub lacks : (before : List Made) → has_right before page ≡ false → has_right (steps ++ before) page ≡ false
  pub lost : deeds ≡ true → (before : List Made) (v : View) → LeftAlone page before → ReadUsable d page before → Agreed f v (steps ++ before)
      → OnceAfter before (LostHere d page) steps

-- A look at the deed word, and a claim, or where deeds may be made a deed. Without a deed the page is got only where it was read as of the directory.
pub record GetsPage (deeds : Bool) (d : Directory) (page : ℕ) (desk desk' : Standing) (got : Bool) : Type 0 where
  pub steps : List Made
  pub adds : Adds desk desk' AnyView steps
  pub on : OnlyOn page steps
  pub kinds : Only getting steps
  pub old : deeds ≡ false → Only getting_old steps
  pub of : deeds ≡ false → got ≡ true → Once (OfHere d page) steps
  pub few : length steps ≤ 2
  pub made : DeedsOn d page steps
  pub rise : DeedsRise steps
  pub shows : OnlyDeedsShow desk.seat.profile steps
  pub outcome : MatchBool got (GetsRightOf desk.seat.profile d page steps) (LosesRightOf deeds desk.seat.profile d page steps)

-- ---- the grains of a page
-- all its grains are got, none of which was held before
pub record TookPage (page : ℕ) (v w : View) : Type 0 where
  pub does : Does (record { grains = λ g. if page == g / 256 then Gained else Kept; rights = λ q. Kept; clears = λ q. Kept }) v w
  pub apart : (g : ℕ) → page ≡ g / 256 → holds v g ≡ false

pub record KeepsAll (f : Profile) (d : Directory) (page : ℕ) (steps : List Made) : Type 0 where
  pub few : length steps ≤ 4
  pub leads : Leads f (MayServe page d) (TookPage page) steps
  pub keeps : KeepsRight page steps
  pub whole : (before : List Made) → GotBefore page before → (word : ℕ) → word < 4 → Since (TakenWholeHere page word) (KeptHere page) (steps ++ before)

-- the page was broken: it was left, and its grains are as before
pub record LeavesBroken (f : Profile) (d : Directory) (page : ℕ) (steps : List Made) : Type 0 where
  pub leads : Leads f (MayServe page d) (Does (right_of page Lost)) steps
  pub lacks : (before : List Made) → has_right (steps ++ before) page ≡ false
  pub none : (before : List Made) → HoldsNone page before → HoldsNone page (steps ++ before)
  pub broken : (before : List Made) → GotBefore page before → OnceAfter before (BrokenHere page) steps

pub record TakesPage (d : Directory) (page : ℕ) (desk desk' : Standing) (whole : Bool) : Type 0 where
  pub steps : List Made
  pub adds : Adds desk desk' (MayServe page d) steps
  pub on : OnlyOn page steps
  pub kinds : Only taking_grains steps
  pub due : Always GivesDuly steps
  pub few : length steps ≤ 19
  pub outcome : MatchBool whole (KeepsAll desk.seat.profile d page steps) (LeavesBroken desk.seat.profile d page steps)

-- ---- the claim
abbrev pub claiming : Kinds
claiming = LookDeed ∷ Deeding ∷ Claiming ∷ taking_grains

-- .. of a page that has its deed already
abbrev pub claiming_old : Kinds
claiming_old = LookDeed ∷ Claiming ∷ taking_grains

-- another actor was first, or where no deeds may be made the page has another deed or none; and all is as it was
pub record LosesPage (deeds : Bool) (f : Profile) (d : Directory) (page : ℕ) (steps : List Made) : Type 0 where
  pub still : Leads f (MayClaim d page) (Does nothing) steps
  pub lacks : (before : List Made) → has_right before page ≡ false → has_right (steps ++ before) page ≡ false
  pub alone : LeftAlone page steps
  pub missed : deeds ≡ false → Once (MissedHere d page) steps
  pub lost : deeds ≡ true → (before : List Made) (v : View) → LeftAlone page before → ReadUsable d page before → Agreed f v (steps ++ before)
      → OnceAfter before (LostHere d page) steps

-- not all its grains were free, and all is as it was
pub record BreaksPage (deeds : Bool) (f : Profile) (d : Directory) (page : ℕ) (steps : List Made) : Type 0 where
  pub still : Leads f (MayClaim d page) (Does nothing) steps
  pub lacks : (before : List Made) → has_right before page ≡ false → has_right (steps ++ before) page ≡ false
  pub left : deeds ≡ false → LeftOrBroken d page steps
  pub missed : deeds ≡ false → Once (MissedHere d page) steps
  pub broken : (before : List Made) → LeftAlone page before → OnceAfter before (BrokenHere page) steps

-- the page's right and all its grains are the actor's
pub record WinsPage (deeds : Bool) (f : Profile) (d : Directory) (page : ℕ) (steps : List Made) : Type 0 where
  pub few : length steps ≤ 6
  pub leads : Leads f (MayClaim d page) (GotPages (λ q. page == q) d) steps
  pub gets : Once (GetsHere page) steps
  pub of : deeds ≡ false → GotOf d page steps
  pub right : (before : List Made) → LeftAlone page before → has_right (steps ++ before) page ≡ true
  pub whole : (before : List Made) → LeftAlone page before → (word : ℕ) → word < 4 → Since (TakenWholeHere page word) (KeptHere page) (steps ++ before)

abbrev pub IsClaimed : Bool → Profile → Directory → ℕ → List Made → Claimed → Type 0
IsClaimed deeds f d page steps Claimed.Lost = LosesPage deeds f d page steps
IsClaimed deeds f d page steps Claimed.Broken = BreaksPage deeds f d page steps
IsClaimed deeds f d page steps Claimed.Whole = WinsPage deeds f d page steps

pub record ClaimsPage (deeds : Bool) (d : Directory) (page : ℕ) (desk desk' : Standing) (claimed : Claimed) : Type 0 where
  pub steps : List Made
  pub adds : Adds desk desk' (MayClaim d page) steps
  pub on : OnlyOn page steps
  pub kinds : Only claiming steps
  pub old : deeds ≡ false → Only claiming_old steps
  pub returns : Always ReturnsDuly steps
  pub few : length steps ≤ 21
  pub made : DeedsOn d page steps
  pub rise : DeedsRise steps
  pub shows : OnlyDeedsShow desk.seat.profile steps
  pub outcome : IsClaimed deeds desk.seat.profile d page steps claimed
