-- Why a large request is refused: what is said of each page of its directory.
use Rattle.std.specs.Prelude.{ℕ, ◌+◌, ◌<◌, ◌≤◌, ◌≡◌, ◌⊎◌, false, MatchBool, List, ◌++◌, length, ◌/◌, ◌*◌}
use Rattle.pas_profile.specs.{Profiles.IsPage, declared.{directory.Directory.Directory, profile.Profile.Profile, event.NoRoom.{NoRoom, TheVariants.NoSpace}}}
use Rattle.pas_profile.specs.declared.event.NoRoom.TheVariants.{Held}
use Rattle.pas_steps.specs.{Views.{View, has_right, KnowsDeed}, Agreement.Agreed, Desks.{Standing, AnyView, Adds}, Past.{Once, Since}, Frames.OnlyScans}
use Rattle.pas_steps.specs.{declared.step.Made.Made, Evidence.{ReadsEligible, ZeroHere, OneHere, Accounted, HeldHere}}
use Rattle.pas_scan.specs.Marks.{is_marked}

-- its eligible bit was last read as 1
abbrev pub NotReadHere : Directory → ℕ → Made → List Made → Type 0
NotReadHere d page m before = ReadsEligible d page m.step → ⊥

abbrev pub LastOffered : Directory → ℕ → List Made → Type 0
LastOffered d page steps = Since (OneHere d page) (NotReadHere d page) steps

-- got and left, or read as parked after it was read as not offered, or last read as offered
abbrev pub IsAccounted : Directory → ℕ → List Made → Type 0
IsAccounted d page steps = Accounted d page steps ⊎ LastOffered d page steps

abbrev pub AllAccounted : Profile → Directory → ℕ → List Made → Type 0
AllAccounted f d end steps = (v : View) → Agreed f v steps → (p : ℕ) → 1 ≤ p → p < end → KnowsDeed p d (steps ++ v) → IsAccounted d p steps

pub record IsHeldLarge (f : Profile) (d : Directory) (steps : List Made) (page : ℕ) : Type 0 where
  pub page_of : IsPage f page
  pub of_directory : (v : View) → Agreed f v steps → KnowsDeed page d (steps ++ v)
  pub held : Once (HeldHere d page) steps
  pub lower : AllAccounted f d page steps

abbrev pub IsReason : Profile → Directory → List Made → NoRoom → Type 0
IsReason f d steps NoSpace = AllAccounted f d (f.pages + 1) steps
IsReason f d steps (Held page) = IsHeldLarge f d steps page

-- ---- the parts
-- exactly the pages are marked that were read as offered, and each last so
pub record MarksOffered (d : Directory) (marks : List ℕ) (desk desk' : Standing) : Type 0 where
  pub steps : List Made
  pub adds : Adds desk desk' AnyView steps
  pub scans : OnlyScans steps
  pub few : length steps ≤ desk.seat.profile.pages / 64 + 1
  pub offered : (p : ℕ) → p ≤ desk.seat.profile.pages → MatchBool (is_marked marks p) (LastOffered d p steps) (Once (ZeroHere d p) steps)

-- The answer has its reason, whatever steps of the call stood before that have no right any more. At most 66 looks for 64 pages.
pub record Refuses (d : Directory) (desk desk' : Standing) (answer : NoRoom) : Type 0 where
  pub steps : List Made
  pub adds : Adds desk desk' AnyView steps
  pub scans : OnlyScans steps
  pub few : length steps ≤ 66 * (desk.seat.profile.pages / 64 + 1)
  pub reason : (before : List Made) → ((p : ℕ) → has_right before p ≡ false) → IsReason desk.seat.profile d (steps ++ before) answer
