-- A refill.
use Rattle.std.specs.Prelude.{ℕ, ◌≡◌, ◌==◌, Bool, true, false, not, ◌≤◌, ◌⊎◌, if◌then◌else◌, List, [], ◌++◌, length, Result, MatchResult}
use Rattle.pas_profile.specs.{Profiles.IsPage, declared.{directory.Directory.Directory, profile.Profile.Profile, event.NoRoom.NoRoom}}
use Rattle.pas_bits.specs.{declared.mask.Mask4.Mask4, Masks.HasMember}
use Rattle.pas_steps.specs.{Calls.{Leads, Effect, Kept, Gained, Lost, Does}, Views.{View, holds, knows_backed}, Lists.Whole, Desks.{Standing, Adds, triples}}
use Rattle.pas_steps.specs.{Evidence.Readings, Kinds.{returning, Only}, declared.step.Made.Made}
use Rattle.pas_search.specs.{Kinds.{AreSearch, EventsAt}, Serving.ShowsFit, Telling.IsTold, Searches.{search_steps, MaySearch, FromOffered, ByDeed}}
use Rattle.pas_search.specs.Searches.{KeepsItsMarks, FewEvents, IsRefused}
use Rattle.pas_segregated.specs.{Masks.AreStarts, Takes.{TookSlots, NoSlot, in_starts}, Stops.{class_directory, home_of, in_slots, LeavesWhere, MayStopAt}}
use Rattle.pas_segregated.specs.declared.slots.Slots.{Slots}

-- ---- what a refill is of
pub record Filling : Type 1 where
  pub directory : Directory  -- the pages that are searched
  pub class : ℕ  -- the class of the slots
  pub no_fit : Readings → Type 0  -- no slot fits of a page whose grains were read so
  pub took : ℕ → List Made → Mask4 → Type 0  -- the steps of the call took these slots of the page
  pub steps : ℕ  -- how many steps a page's turn takes at most

-- of an exclusive page: all slots that are free with all their grains
abbrev pub exclusive_slots : ℕ → ℕ → Filling
exclusive_slots heap class = record { directory = class_directory heap class; class = class; no_fit = NoSlot class; took = TookSlots class; steps = 27 }

-- ---- what it gives
-- the grains of the slots are the actor's, and their page's right is just where it comes with them; all else is as it was
abbrev pub got : Slots → Effect
got slots = record {
  grains = λ g. if in_slots slots g then Gained else Kept;
  rights = λ page. if slots.page == page then (if slots.right then Gained else Lost) else Kept;
  clears = λ page. Kept;
}

-- So it is. None of the grains was held; the page is known as backed; and the slots may be stopped from then on, for which its deed is known.
pub record GetsSlots (d : Directory) (slots : Slots) (v w : View) : Type 0 where
  pub does : Does (got slots) v w
  pub apart : (g : ℕ) → in_slots slots g ≡ true → holds v g ≡ false
  pub backed : knows_backed w slots.page ≡ true
  pub may_stop : MayStopAt d slots w

-- The slots are of the class and of a page of the directory, with its right where that is an exclusive one. The search took them, whose grains it read as
-- free; its page is the lowest offered one that has a free slot, or the lowest without a deed, and it is neither offered, parked nor hinted by it; one event
-- backs it, and one more makes its deed. A shared page is left then, by at most eleven steps and without an event.
pub record GivesSlots (fill : Filling) (f : Profile) (searched after : List Made) (slots : Slots) : Type 0 where
  pub page : IsPage f slots.page
  pub class_is : slots.class ≡ fill.class
  pub home : home_of slots ≡ fill.directory
  pub starts : AreStarts slots.class slots.starts
  pub some : HasMember slots.starts
  pub took : fill.took slots.page searched slots.starts
  pub choice : FromOffered fill.no_fit fill.directory slots.page searched ⊎ ByDeed fill.no_fit f fill.directory slots.page searched
  pub shows : ShowsFit fill.no_fit (in_starts fill.class slots.starts) f slots.page (MaySearch fill.directory) searched searched
  pub marks : KeepsItsMarks f fill.directory slots.page searched
  pub few : FewEvents f fill.directory 1 searched
  pub events : EventsAt fill.directory slots.page searched
  pub leaves : LeavesWhere (not slots.right) slots.page fill.directory after
  pub after_few : length after ≤ 11
  pub after_kinds : Only returning after
  pub gets : Leads f (MaySearch fill.directory) (GetsSlots fill.directory slots) (after ++ searched)

-- ---- a refill
-- The pages of the directory were searched, and the page that was found was left where it is a shared one. The answer has its reasons in the steps of
-- the search, and is true of the states at entry and at exit where the desk tells them. After a refusal no step followed. The steps are those of a
-- search at most.
pub record Refills (fill : Filling) (tells : Bool) (desk desk' : Standing) (answer : Result Slots NoRoom) : Type 0 where
  pub searched : List Made
  pub searches : AreSearch searched
  pub few : length searched ≤ search_steps fill.steps desk.seat.profile.pages
  pub after : List Made
  pub adds : Adds desk desk' (MaySearch fill.directory) (after ++ searched)
  pub outcome : MatchResult answer (GivesSlots fill desk.seat.profile searched after)
      (λ room. IsRefused fill.no_fit desk.seat.profile fill.directory searched room
      × (after ≡ []))
  pub told : tells ≡ true → (v : View) (l : Whole) → desk.stands v l → MaySearch fill.directory v
      → IsTold (λ (s : Slots). s.page) fill.no_fit desk.seat.profile fill.directory l (triples desk.seat.actor (after ++ searched) ++ l) answer
