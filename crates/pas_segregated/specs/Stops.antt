-- Slots that an actor holds, and how they are stopped.
use Rattle.std.specs.Prelude.{ℕ, ◌/◌, ◌%◌, ◌<◌, ◌≤◌, ◌≡◌, ◌==◌, Bool, true, false, ◌&&◌, not, if◌then◌else◌, List, [], ◌++◌, length}
use Rattle.pas_profile.specs.{declared.directory.{Directory.Directory, Kind.Kind}, Requests.kind_of_class}
use Rattle.pas_bits.specs.{declared.mask.Mask4.Mask4, Masks.{is_set, IsEmpty}}
use Rattle.pas_steps.specs.{Calls.{Calls, Effect, Fate, Kept, Lost, Does}, Clear.IsClear, Frames.OnlyOn, Kinds.Only, Desks.Standing, Views.{View, holds}}
use Rattle.pas_steps.specs.{Views.{has_right, KnowsDeed}, declared.step.Made.Made}
use Rattle.pas_rights.specs.{Leaves.LeaveSteps, PutsBack.{BackSteps, giving_back}}
use Rattle.pas_segregated.specs.{Masks.start_of, declared.slots.Slots.Slots}

-- the pages of one class of a heap
abbrev pub class_directory : ℕ → ℕ → Directory
class_directory heap class = record { heap = heap; kind = Kind.Class class }

abbrev pub directory_of : Slots → Directory
directory_of slots = class_directory slots.heap slots.class

-- THE HOME of slots. Those that came with the right of their page are of an exclusive page of their class, and others of a shared page of their
-- heap.
abbrev pub home_by : ℕ → ℕ → Bool → Directory
home_by heap class right = record { heap = heap; kind = kind_of_class (not right) class }

abbrev pub home_of : Slots → Directory
home_of slots = home_by slots.heap slots.class slots.right

-- the grain, a number of the region, is one of these slots'
abbrev pub in_slots : Slots → ℕ → Bool
in_slots slots g = (slots.page == g / 256) && is_set slots.starts (start_of slots.class (g % 256))

-- no slot, of no page of any region, and without a right
pub record AreNone (slots : Slots) : Type 0 where
  pub page : slots.page ≡ 0
  pub starts : IsEmpty slots.starts
  pub right : slots.right ≡ false

-- the mask has the grains of these slots, and no others
abbrev pub AreGrains : Slots → Mask4 → Type 0
AreGrains slots mask = (g : ℕ) → g < 256 → is_set mask g ≡ is_set slots.starts (start_of slots.class g)

-- The actor is clear, it holds the grains of the slots and knows the deed of their page. It has the page's right where the slots say so.
pub record MayStopAt (d : Directory) (slots : Slots) (v : View) : Type 0 where
  pub clear : IsClear v
  pub held : (g : ℕ) → in_slots slots g ≡ true → holds v g ≡ true
  pub deed : KnowsDeed slots.page d v
  pub right : slots.right ≡ true → has_right v slots.page ≡ true

-- the page is left where its right came with the slots
abbrev pub LeavesWhere : Bool → ℕ → Directory → List Made → Type 0
LeavesWhere true page d steps = LeaveSteps page d steps
LeavesWhere false page d steps = steps ≡ []

-- the grains are put back, and then the page is left
pub record StopStepsAt (d : Directory) (slots : Slots) (steps : List Made) : Type 0 where
  pub mask : Mask4
  pub grains : AreGrains slots mask
  pub back : List Made
  pub puts : BackSteps slots.page d mask back
  pub left : List Made
  pub leaves : LeavesWhere slots.right slots.page d left
  pub steps_are : steps ≡ left ++ back

-- the grains of the slots, and the right that came with them, have this fate, and all else is as it was
abbrev pub of_slots : Slots → Fate → Effect
of_slots slots fate = record {
  grains = λ g. if in_slots slots g then fate else Kept;
  rights = λ page. if slots.right && (slots.page == page) then fate else Kept;
  clears = λ page. Kept;
}

-- The slots are given up, by at most 23 steps on their page, none of which makes an event.
pub record StopsAt (d : Directory) (slots : Slots) (desk desk' : Standing) : Type 0 where
  pub steps : List Made
  pub calls : Calls desk desk' (MayStopAt d slots) (Does (of_slots slots Lost)) steps
  pub order : StopStepsAt d slots steps
  pub kinds : Only giving_back steps
  pub on : OnlyOn slots.page steps
  pub few : length steps ≤ 23

-- the same of exclusive pages
abbrev pub MayStop : Slots → View → Type 0
MayStop slots v = MayStopAt (directory_of slots) slots v

abbrev pub Stops : Slots → Standing → Standing → Type 0
Stops slots desk desk' = StopsAt (directory_of slots) slots desk desk'

abbrev pub StopSteps : Slots → List Made → Type 0
StopSteps slots steps = StopStepsAt (directory_of slots) slots steps
