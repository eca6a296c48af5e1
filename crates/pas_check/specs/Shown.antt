-- What the report tells of a page, and which marks it may have there.
use Rattle.std.specs.Prelude.{ℕ, ◌+◌, ◌*◌, ◌^◌, ◌<◌, ◌≤◌, ◌≡◌, Bool, true, false, not, List, Some, length, MatchBool}
use Rattle.pas_profile.specs.{Directories.IsKind, declared.{directory.{Directory.Directory, Kind.Kind}, event.Event.Event}}
use Rattle.pas_machine.specs.{Machines.StandsFor, Totals.sum_below, State.{backed_in, deed_in, epoch_in, gives_in}, declared.machine.Machine.Machine}
use Rattle.pas_steps.specs.Views.{usable_by_kind}
use Rattle.pas_records.specs.{Marks.Marked, Covered.is_covered}
use Rattle.pas_report.specs.Reports.{live_on, page_text, uncovered_on}
use Rattle.pas_check.specs.declared.reporting.Shown.{Shown}

-- ---- a page
abbrev pub grain_on : ℕ → ℕ → ℕ
grain_on page b = 256 * page + b

-- a grain that blocks of the kind may cover has no block, or each has one
abbrev pub HasRoom : List Event → ℕ → Kind → Type 0
HasRoom es page kind = (b : ℕ) × (b < 256) × (usable_by_kind kind b ≡ true) × (is_covered es (grain_on page b) ≡ false)

abbrev pub HasNoRoom : List Event → ℕ → Kind → Type 0
HasNoRoom es page kind = (b : ℕ) → b < 256 → usable_by_kind kind b ≡ true → is_covered es (grain_on page b) ≡ true

-- no grain has a block, or some one has
abbrev pub IsBare : List Event → ℕ → Type 0
IsBare es page = (b : ℕ) → b < 256 → is_covered es (grain_on page b) ≡ false

abbrev pub IsUsed : List Event → ℕ → Type 0
IsUsed es page = (b : ℕ) × (b < 256) × (is_covered es (grain_on page b) ≡ true)

-- how many blocks were given on the page
unfoldable pub given_on : List Event → ℕ → ℕ
given_on es page = sum_below 256 (λ b. gives_in es (16 * (256 * page + b)))

-- the events are told
pub record TellsPage (es : List Event) (shown : Shown) : Type 0 where
  pub live : shown.live ≡ live_on es shown.page
  pub free : shown.free ≡ uncovered_on es shown.page
  pub stamp : shown.stamp ≡ epoch_in es shown.page
  pub backed : shown.backed ≡ backed_in es shown.page
  pub room : MatchBool shown.room (HasRoom es shown.page shown.directory.kind) (HasNoRoom es shown.page shown.directory.kind)
  pub empty : MatchBool shown.empty ((backed_in es shown.page ≡ true) × IsBare es shown.page) (backed_in es shown.page ≡ true → IsBare es shown.page → ⊥)

-- the marks that the page may have
pub record MayShow (shown : Shown) (m : Marked) : Type 0 where
  pub backed : m.backed ≡ shown.backed
  pub parked : m.parked ≡ not m.offered
  pub offered : shown.room ≡ true → m.offered ≡ true
  pub hinted : shown.empty ≡ true → m.hinted ≡ true

-- those of a page that is offered or parked, and hinted or not
abbrev pub marks_for : Shown → Bool → Bool → Marked
marks_for shown offered hinted = record { backed = shown.backed; offered = offered; parked = not offered; hinted = hinted }

abbrev pub line_with : Shown → Marked → List ℕ
line_with shown m = page_text shown.page shown.directory shown.live shown.free shown.stamp m

-- the line is that of a page that is offered or parked, and hinted or not; where one of the two is open; and where both are
abbrev pub IsWith : Shown → List ℕ → Bool → Bool → Type 0
IsWith shown line offered hinted = line ≡ line_with shown (marks_for shown offered hinted)

abbrev pub IsHinted : Shown → List ℕ → Bool → Type 0
IsHinted shown line hinted = (offered : Bool) × (shown.room ≡ true → offered ≡ true) × IsWith shown line offered hinted

abbrev pub IsPageLine : Shown → List ℕ → Type 0
IsPageLine shown line = (m : Marked) × MayShow shown m × (line ≡ line_with shown m)

-- ---- what a machine is known to stand for
-- a run of few events, whose deeds name classes
pub record IsKnown (machine : Machine) : Type 0 where
  pub events : List Event
  pub stands : StandsFor machine events
  pub few : length events ≤ 2 ^ 24
  pub kinds : (page : ℕ) (d : Directory) → deed_in events page ≡ Some d → IsKind d.kind
