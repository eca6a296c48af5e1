-- What a back end promises of one page.
use Rattle.std.specs.Prelude.{ℕ, ◌/◌, ◌%◌, ◌<◌, ◌≤◌, ◌≡◌, ◌==◌, Bool, true, false, ◌&&◌, if◌then◌else◌, List, [], ◌∷◌, ◌++◌, length, Option, MatchOption}
use Rattle.pas_profile.specs.declared.{directory.Directory.Directory, profile.Profile.Profile}
use Rattle.pas_steps.specs.{Views.{View, holds, has_right, known_free, knows_backed, KnowsDeed}, Events.events_by, Agreement.Agreed, Clear.IsClearOn}
use Rattle.pas_steps.specs.{Desks.{Standing, Adds}, Past.{Once, Always}, Calls.{Leads, Fate, Kept, Gained, Lost, Effect, Does}, Evidence.{Readings, ShowsHere}}
use Rattle.pas_steps.specs.{Evidence.{GetsHere, UnfitHere}, declared.step.Made.Made}
use Rattle.pas_rights.specs.{Leaves.LeaveSteps, PutsBack.GivesDuly}
use Rattle.pas_search.specs.Kinds.{OnlyServes, AreQuiet, KeepsMarks}

-- ---- what a back end means by its answers
pub record Rule (Found : Type 0) : Type 1 where
  pub suits : Directory → Type 0  -- the directories that it serves from
  pub no_fit : Readings → Type 0  -- nothing fits, where the grains of a page that were read as free are these
  pub kept : Found → ℕ → Bool  -- what it took of a page: whether it keeps this grain, from 0 to 255
  pub keeps_right : Found → Bool  -- whether it keeps the page's right
  pub serves : ℕ → List Made → Found → Type 0  -- it took the lowest of the page that fits: what the steps of the call show of that
  pub events : ℕ  -- how many events it makes at most
  pub steps : ℕ  -- and how many steps

-- ---- what it asks
-- the right of the page is the actor's, its deed is known, and the page is clear
pub record MayServe (page : ℕ) (d : Directory) (v : View) : Type 0 where
  pub right : has_right v page ≡ true
  pub deed : KnowsDeed page d v
  pub clear : IsClearOn page v

-- ---- the earlier steps of the call that asks it
-- these steps hold no grain of the page
abbrev pub HoldsNone : ℕ → List Made → Type 0
HoldsNone page before = (g : ℕ) → g / 256 ≡ page → holds before g ≡ false

-- nor do they have its right
pub record IsUntouched (page : ℕ) (before : List Made) : Type 0 where
  pub right : has_right before page ≡ false
  pub none : HoldsNone page before

-- the newest of these steps got the page's right
abbrev pub IsJustGot : ℕ → List Made → Type 0
IsJustGot page [] = ⊥
IsJustGot page (m ∷ before) = GetsHere page m before

-- the call got the page's right, by the newest step before those of the back end, and holds none of its grains
pub record GotBefore (page : ℕ) (before : List Made) : Type 0 where
  pub right : has_right before page ≡ true
  pub got : Once (GetsHere page) before
  pub none : HoldsNone page before
  pub newest : IsJustGot page before

-- ---- what becomes of what the actor holds and has
-- nothing but whose these rights are
abbrev pub righted : (ℕ → Fate) → Effect
righted fates = record { grains = λ x. Kept; rights = fates; clears = λ q. Kept }

abbrev pub right_of : ℕ → Fate → Effect
right_of page fate = righted (λ q. if page == q then fate else Kept)

-- the grains of the answer are the actor's, and the page's right exactly where the answer says so
abbrev pub served : {Found : Type 0} → Rule Found → ℕ → Found → Effect
served rule page found = record {
  grains = λ x. if (page == x / 256) && rule.kept found (x % 256) then Gained else Kept;
  rights = λ q. if page == q then (if rule.keeps_right found then Gained else Lost) else Kept;
  clears = λ q. Kept;
}

-- so it is, and the page is known as backed
pub record Keeps {Found : Type 0} (rule : Rule Found) (page : ℕ) (found : Found) (v w : View) : Type 0 where
  pub does : Does (served rule page found) v w
  pub backed : knows_backed w page ≡ true

-- ---- what it promises
-- no grain of the page that is held was read as free
abbrev pub ReadsNoneHeld : ℕ → Readings → View → View → Type 0
ReadsNoneHeld page readings v w = (g : ℕ) → g / 256 ≡ page → holds v g ≡ true → readings (g % 256) ≡ false

-- Each free word of the page was read with its right, as all steps of the call show, and the readings show a fit. What is kept was read as
-- free. No grain is that was held before these steps, in a view that meets the condition.
pub record ShowsFit (no_fit : Readings → Type 0) (kept : ℕ → Bool) (f : Profile) (page : ℕ) (Meets : View → Type 0) (steps call : List Made) : Type 0 where
  pub readings : Readings
  pub fits : no_fit readings → ⊥
  pub took : (b : ℕ) → b < 256 → kept b ≡ true → readings b ≡ true
  pub read : (word : ℕ) → word < 4 → Once (ShowsHere page word readings) call
  pub held : Leads f Meets (ReadsNoneHeld page readings) steps

-- the last of these steps are those of a leave: the page is offered or parked by what was read of it
pub record EndsWithLeave (page : ℕ) (d : Directory) (steps : List Made) : Type 0 where
  pub before : List Made
  pub leave : List Made
  pub order : LeaveSteps page d leave
  pub steps_are : steps ≡ leave ++ before

-- Nothing fits, which one reading of the four free words shows. The page was left: its right is gone, and all else is as it was. No event was
-- made. A page all of whose grains are known as free isn't left so.
pub record LeavesPage {Found : Type 0} (rule : Rule Found) (f : Profile) (page : ℕ) (d : Directory) (steps : List Made) : Type 0 where
  pub leaves : Leads f (MayServe page d) (Does (right_of page Lost)) steps
  pub left : EndsWithLeave page d steps
  pub quiet : AreQuiet steps
  pub untouched : (before : List Made) → GotBefore page before → IsUntouched page (steps ++ before)
  pub unfit : (before : List Made) → GotBefore page before → Once (UnfitHere rule.no_fit page) (steps ++ before)
  pub not_free : (v : View) → MayServe page d v → Agreed f v steps → ((g : ℕ) → g / 256 ≡ page → known_free v g ≡ true) → ⊥

-- The page serves: what the answer says of it is kept. It was neither offered, parked nor hinted.
pub record KeepsPage {Found : Type 0} (rule : Rule Found) (f : Profile) (page : ℕ) (d : Directory) (steps : List Made) (found : Found) : Type 0 where
  pub keeps : Leads f (MayServe page d) (Keeps rule page found) steps
  pub marks : Always (KeepsMarks page) steps
  pub shows : (before : List Made) → GotBefore page before → ShowsFit rule.no_fit (rule.kept found) f page (MayServe page d) steps (steps ++ before)
  pub serves : (before : List Made) → GotBefore page before → rule.serves page (steps ++ before) found

-- the steps of one call of a back end on the page
pub record ServeSteps {Found : Type 0} (rule : Rule Found) (f : Profile) (page : ℕ) (d : Directory) (steps : List Made) (answer : Option Found) : Type 0 where
  pub only : OnlyServes page steps
  pub due : Always GivesDuly steps
  pub few : (k : ℕ) (v : View) → length (events_by k v steps) ≤ rule.events
  pub short : length steps ≤ rule.steps
  pub outcome : MatchOption answer (LeavesPage rule f page d steps) (KeepsPage rule f page d steps)

pub record ServesPage {Found : Type 0} (rule : Rule Found) (page : ℕ) (d : Directory) (desk desk' : Standing) (answer : Option Found) : Type 0 where
  pub steps : List Made
  pub adds : Adds desk desk' (MayServe page d) steps
  pub serves : ServeSteps rule desk.seat.profile page d steps answer
