-- The claim of the pages of a run, and how they are left.
use Rattle.std.specs.Prelude.{ℕ, ◌+◌, ◌-◌, ◌*◌, ◌/◌, ◌<◌, ◌≤◌, ◌≡◌, ◌⊎◌, min, nat_le, nat_lt, Bool, true, false, ◌&&◌, List, ◌++◌, length, Option, None}
use Rattle.std.specs.Prelude.{MatchOption}
use Rattle.pas_profile.specs.declared.{directory.Directory.Directory, profile.Profile.Profile}
use Rattle.pas_rights.specs.{Looks.HintsEmpty, PutsBack.{giving_back, GivesDuly}}
use Rattle.pas_steps.specs.{Agreement.Agreed, Clear.IsClear, Desks.{Standing, Adds}, Evidence.{KeptHere, GetsHere}, Frames.IsOnPage, Kinds.Only, Past.Once}
use Rattle.pas_steps.specs.{Past.{Always, Since}, Unknown.unknown_pages, Calls.{Calls, Leads, Lost, nothing, Does}, Views.{View, Stays, grain_move, holds}}
use Rattle.pas_steps.specs.{Views.{has_right, known_deed, KnowsDeed}, declared.step.{Made.Made, Step.TheVariants.Deed}}
use Rattle.pas_scan.specs.Usable.{ReadUsable, LeftAlone}
use Rattle.pas_search.specs.Kinds.{IsReturnOf, ReturnsDuly}
use Rattle.pas_large.specs.{Evidence.{LostHere, BrokenHere, TakenWholeHere, DeedsRise, MissedHere, GotOf, LeftOrBroken}, Pages.{OnceAfter, of_pages, GotPages}}
use Rattle.pas_large.specs.Pages.{OnlyDeedsShow, claiming, claiming_old}

-- the page is one of those from `first` to below `end`
abbrev pub in_span : ℕ → ℕ → ℕ → Bool
in_span first end page = nat_le first page && nat_lt page end

-- the right of no page of the run is the actor's, unless the page is known to be of another directory; and the actor is clear
pub record MayClaimPages (d : Directory) (first end : ℕ) (v : View) : Type 0 where
  pub lacks : (page : ℕ) → first ≤ page → page < end → (known_deed v page ≡ 0) ⊎ KnowsDeed page d v → has_right v page ≡ false
  pub clear : IsClear v

-- and there is room for the deeds that aren't known, and for n events more
pub record HasRunRoom (f : Profile) (d : Directory) (first end n spare : ℕ) (v : View) : Type 0 where
  pub may : MayClaimPages d first end v
  pub room : n + unknown_pages f v ≤ spare

-- the steps before left each page from this one on alone
abbrev pub AloneFrom : ℕ → List Made → Type 0
AloneFrom first before = (page : ℕ) → first ≤ page → LeftAlone page before

-- these steps have no right
abbrev pub LacksAll : List Made → Type 0
LacksAll before = (p : ℕ) → has_right before p ≡ false

-- each deed that was made is of this directory and of one of these pages
abbrev pub DeedsIn : Directory → ℕ → ℕ → List Made → Type 0
DeedsIn d first end = Always (λ m before. (p : ℕ) (e : Directory) → m.step ≡ Deed p e → m.answer ≡ 0 → (e ≡ d) × (first ≤ p) × (p < end))

-- the rights of the pages from `first` to below `stop` were got and kept, and each of their free words was taken whole since
pub record HoldsSpan (first stop : ℕ) (steps : List Made) : Type 0 where
  pub right : (p : ℕ) → first ≤ p → p < stop → has_right steps p ≡ true
  pub whole : (p word : ℕ) → first ≤ p → p < stop → word < 4 → Since (TakenWholeHere p word) (KeptHere p) steps

-- no step moves the grain
abbrev pub StaysPut : ℕ → List Made → Type 0
StaysPut g = Always (λ m before. grain_move m.step m.answer g ≡ Stays)

-- the page was lost or broken by one of these steps
abbrev pub FailsAt : Profile → Directory → ℕ → ℕ → List Made → Type 0
FailsAt f d first page steps = (before : List Made) (v : View) → AloneFrom first before → ReadUsable d page before → Agreed f v (steps ++ before)
    → OnceAfter before (LostHere d page) steps ⊎ OnceAfter before (BrokenHere page) steps

-- The pages below `stop` are the actor's. Where that isn't the end, the page `stop` was lost or broken, or where no deeds may be made it has another
-- deed or none. Six steps at most for each page that was got, and 21 for the one that wasn't.
pub record ClaimsPages (deeds : Bool) (d : Directory) (first end : ℕ) (desk desk' : Standing) (stop : ℕ) : Type 0 where
  pub steps : List Made
  pub adds : Adds desk desk' (MayClaimPages d first end) steps
  pub kinds : Only claiming steps
  pub old : deeds ≡ false → Only claiming_old steps
  pub returns : Always ReturnsDuly steps
  pub gets : (p : ℕ) → first ≤ p → p < stop → Once (GetsHere p) steps
  pub few : length steps ≤ 6 * (stop - first) + 21 * (min (stop + 1) end - stop)
  pub made : DeedsIn d first (min (stop + 1) end) steps
  pub rise : DeedsRise steps
  pub shows : OnlyDeedsShow desk.seat.profile steps
  pub span : (first ≤ stop) × (stop ≤ end)
  pub got : Leads desk.seat.profile (MayClaimPages d first end) (GotPages (in_span first stop) d) steps
  pub holding : (before : List Made) → AloneFrom first before → HoldsSpan first stop (steps ++ before)
  pub lacks : (before : List Made) → LacksAll before → (p : ℕ) → in_span first stop p ≡ false → has_right (steps ++ before) p ≡ false
  pub alone : (before : List Made) → AloneFrom first before → AloneFrom (min (stop + 1) end) (steps ++ before)
  pub steady : (g : ℕ) → in_span first end (g / 256) ≡ false → StaysPut g steps
  pub failed : stop < end → deeds ≡ true → FailsAt desk.seat.profile d first stop steps
  pub missed : stop < end → deeds ≡ false → Once (MissedHere d stop) steps
  pub of : deeds ≡ false → (p : ℕ) → in_span first stop p ≡ true → GotOf d p steps
  pub left : deeds ≡ false → (p : ℕ) → in_span first stop p ≡ false → LeftOrBroken d p steps

-- ---- the pages are left
-- the rights of these pages and all their grains are the actor's, who is clear
pub record HasPages (d : Directory) (first end : ℕ) (v : View) : Type 0 where
  pub right : (p : ℕ) → in_span first end p ≡ true → has_right v p ≡ true
  pub held : (g : ℕ) → in_span first end (g / 256) ≡ true → holds v g ≡ true
  pub deeds : (p : ℕ) → in_span first end p ≡ true → KnowsDeed p d v
  pub clear : IsClear v

-- They are the actor's no longer, and no step is on another page. A page is hinted only after these steps read it as empty, and what is put is what the steps
-- before held of them. A page that was parked, by steps that claimed it, was broken then. At most 15 steps a page, and no event.
pub record Releases (d : Directory) (first end : ℕ) (desk desk' : Standing) : Type 0 where
  pub steps : List Made
  pub calls : Calls desk desk' (HasPages d first end) (Does (of_pages (in_span first end) Lost)) steps
  pub kinds : Only giving_back steps
  pub within : Always (λ m before. (p : ℕ) → IsReturnOf p m.step → in_span first end p ≡ true) steps
  pub hints : Always HintsEmpty steps
  pub on : Always (λ m before. (p : ℕ) × (in_span first end p ≡ true) × IsOnPage p m.step) steps
  pub due : (before : List Made) → ((g : ℕ) → in_span first end (g / 256) ≡ true → holds before g ≡ true) → Always GivesDuly before
      → Always GivesDuly (steps ++ before)
  pub few : length steps ≤ 15 * (end - first)
  pub lacks : (before : List Made) (p : ℕ) → (in_span first end p ≡ false → has_right before p ≡ false) → has_right (steps ++ before) p ≡ false
  pub left : (before : List Made) (p : ℕ) → in_span first end p ≡ true → GotOf d p before → LeftOrBroken d p (steps ++ before)
  pub alone : (before : List Made) (p : ℕ) → end ≤ p → LeftAlone p before → LeftAlone p (steps ++ before)
  pub steady : (g : ℕ) → in_span first end (g / 256) ≡ false → StaysPut g steps

-- ---- the claim of a run
-- the run is the actor's, and the pages behind it were left alone
pub record HoldsRun (f : Profile) (d : Directory) (first end : ℕ) (steps : List Made) : Type 0 where
  pub few : length steps ≤ 6 * (end - first)
  pub got : Leads f (MayClaimPages d first end) (GotPages (in_span first end) d) steps
  pub holding : (before : List Made) → AloneFrom first before → HoldsSpan first end (steps ++ before)
  pub lacks : (before : List Made) → LacksAll before → (p : ℕ) → in_span first end p ≡ false → has_right (steps ++ before) p ≡ false
  pub alone : (before : List Made) → AloneFrom first before → AloneFrom end (steps ++ before)

-- This page of the run was lost or broken, or where no deeds may be made it has another deed or none, and all is as it was. The pages behind it were
-- left alone.
pub record FailsRun (deeds : Bool) (f : Profile) (d : Directory) (first end page : ℕ) (steps : List Made) : Type 0 where
  pub in_run : (first ≤ page) × (page < end)
  pub made : DeedsIn d first (page + 1) steps
  pub few : length steps + 48 * first ≤ 48 * (page + 1)
  pub still : Leads f (MayClaimPages d first end) (Does nothing) steps
  pub lacks : (before : List Made) → LacksAll before → LacksAll (steps ++ before)
  pub alone : (before : List Made) → AloneFrom first before → AloneFrom (page + 1) (steps ++ before)
  pub failed : deeds ≡ true → FailsAt f d first page steps
  pub missed : deeds ≡ false → Once (MissedHere d page) steps
  pub left : deeds ≡ false → (p : ℕ) → LeftOrBroken d p steps

-- Where `deeds` is false no deed is made. Deeds are made from the lowest page up. No page is given up, taken back or hinted but one that was got.
pub record ClaimsRun (deeds : Bool) (d : Directory) (first end : ℕ) (desk desk' : Standing) (failed : Option ℕ) : Type 0 where
  pub steps : List Made
  pub adds : Adds desk desk' (MayClaimPages d first end) steps
  pub kinds : Only claiming steps
  pub old : deeds ≡ false → Only claiming_old steps
  pub returns : Always ReturnsDuly steps
  pub made : DeedsIn d first end steps
  pub rise : DeedsRise steps
  pub shows : OnlyDeedsShow desk.seat.profile steps
  pub steady : (g : ℕ) → in_span first end (g / 256) ≡ false → StaysPut g steps
  pub of : deeds ≡ false → failed ≡ None → (p : ℕ) → in_span first end p ≡ true → GotOf d p steps
  pub outcome : MatchOption failed (HoldsRun desk.seat.profile d first end steps) (λ page. FailsRun deeds desk.seat.profile d first end page steps)
