-- Kinds of steps of a search, and which events they make.
use Rattle.std.specs.Prelude.{◌⊎◌, ℕ, ◌≡◌, ◌==◌, suc, Bool, false, if◌then◌else◌, List, [], ◌∷◌, None}
use Rattle.pas_profile.specs.declared.directory.Directory.{Directory}
use Rattle.pas_rights.specs.{Puts.PutsHere, PutsBack.GivesDuly}
use Rattle.pas_steps.specs.{Past.{Once, Always}, Events.event_of, Evidence.GetsHere, Frames.OnlyOn, Kinds.{Kinds, LookEpoch, LookFree, LookLife, LookDeed}}
use Rattle.pas_steps.specs.Kinds.{LookBacked, LookStamp, LookParked, LookEmpty, LookEligible, Deeding, Backing, Taking, Putting, Claiming, Offering, Parking}
use Rattle.pas_steps.specs.{Kinds.{Unparking, Hinting, Only}, declared.step.{Step.{Step, TheVariants.{Deed, Back, Offer, Park, Unpark, Hint}}, Made.Made}}

-- ---- kinds
-- what a back end may do on a page whose right was got: it makes no deed, claims nothing, stamps nothing, gives and ends no block
abbrev pub serving : Kinds
serving = LookEpoch ∷ LookFree ∷ LookLife ∷ LookDeed ∷ LookBacked ∷ LookStamp ∷ LookParked ∷ LookEmpty ∷ LookEligible ∷ Backing ∷ Taking ∷ Putting ∷ Offering ∷ Parking ∷ Unparking ∷ Hinting ∷ []

pub record OnlyServes (page : ℕ) (steps : List Made) : Type 0 where
  pub kinds : Only serving steps
  pub on : OnlyOn page steps

-- what a search may do: it gives and ends no block, and stamps nothing
abbrev pub searching : Kinds
searching = Deeding ∷ Claiming ∷ serving

-- the step gives up the right of the page, takes it back from the parked pages, or hints the page
pub data IsReturnOf (page : ℕ) : Step → Type 0 where
  Offers : (d : Directory) → IsReturnOf page (Offer page d)
  Parks : IsReturnOf page (Park page)
  Unparks : IsReturnOf page (Unpark page)
  Hints : IsReturnOf page (Hint page)

-- the call got the right of the page before
abbrev pub ReturnsGot : Made → List Made → Type 0
ReturnsGot m before = (page : ℕ) → IsReturnOf page m.step → Once (GetsHere page) before

-- and a page that it hints was read as backed, and each of its grains as free
abbrev pub ReturnsDuly : Made → List Made → Type 0
ReturnsDuly m before = ReturnsGot m before × GivesDuly m before

-- The steps of a search, which offers, parks, unparks and hints no page but those whose right it got, hints only those that it read as backed
-- and empty, and puts only grains that it took.
pub record AreSearch (steps : List Made) : Type 0 where
  pub kinds : Only searching steps
  pub returns : Always ReturnsDuly steps

-- ---- the page that serves
-- the step doesn't offer, park or hint the page, and takes it back from the parked pages only after grains of it were put back
abbrev pub KeepsMarks : ℕ → Made → List Made → Type 0
KeepsMarks page m before = IsReturnOf page m.step → (m.step ≡ Unpark page) × Once (PutsHere page) before

-- ---- events
-- the steps made no event, whoever made them
abbrev pub IsQuiet : Made → Type 0
IsQuiet m = (k epoch : ℕ) → event_of k epoch m.step m.answer ≡ None

abbrev pub AreQuiet : List Made → Type 0
AreQuiet = Always (λ m before. IsQuiet m)

-- the step is the deed of the page, or its backing
pub data IsDeedOrBack (d : Directory) (page : ℕ) : Step → Type 0 where
  Deeds : IsDeedOrBack d page (Deed page d)
  Backs : IsDeedOrBack d page (Back page)

-- no other step made an event
abbrev pub EventsAt : Directory → ℕ → List Made → Type 0
EventsAt d page = Always (λ m before. IsQuiet m ⊎ IsDeedOrBack d page m.step)

-- ---- deeds
-- the step, with this answer, made a deed; no other step does
abbrev pub makes_deed : Step → ℕ → Bool
makes_deed (Deed page directory) a = a == 0
makes_deed step a = false

-- how many deeds were made
abbrev pub deeds_made : List Made → ℕ
deeds_made [] = 0
deeds_made (m ∷ before) = if makes_deed m.step m.answer then suc (deeds_made before) else deeds_made before
