-- The ends of blocks on a page, and its stamp.
use Rattle.std.specs.Prelude.{ℕ, ◌≤◌, ◌≡◌, ◌⊎◌, true, false, List, [], ◌∷◌, ◌++◌}
use Rattle.pas_profile.specs.{declared.{event.Event.Event, word.Word.Word}, Blocks.address_of}
use Rattle.pas_machine.specs.State.{live_in, touches}
use Rattle.pas_steps.specs.{Views.{View, is_unstamped, epoch_of}, Lists.{Whole, part, word_after}, declared.step.Step.{Step, TheVariants.{Look, Stamp, Tick}}}
use Rattle.pas_steps.specs.declared.step.Made.{Made}

-- if the event, after these, is an end of a block that touches the page, its actor and its epoch are so
abbrev pub IsSoAtEnd : (ℕ → ℕ → Type 0) → Event → List Event → ℕ → Type 0
IsSoAtEnd P (Event.Deed k p d) es page = Unit {0}
IsSoAtEnd P (Event.Back k p) es page = Unit {0}
IsSoAtEnd P (Event.Unback k p e) es page = Unit {0}
IsSoAtEnd P (Event.Give k block) es page = Unit {0}
IsSoAtEnd P (Event.End k name e) es page = touches (live_in es (address_of name)) page ≡ true → P k e
IsSoAtEnd P (Event.Reject k name why) es page = Unit {0}

-- of each end of a block that touches the page the actor and the epoch are so
abbrev pub EachEnd : (ℕ → ℕ → Type 0) → List Event → ℕ → Type 0
EachEnd P [] page = Unit {0}
EachEnd P (e ∷ es) page = IsSoAtEnd P e es page × EachEnd P es page

-- the epoch of the actor's end on the page is at most the page's stamp, or the actor has the page as unstamped and knows an epoch that is at
-- least as great
abbrev pub IsStampedOr : Whole → ℕ → ℕ → ℕ → Type 0
IsStampedOr l page k e = (e ≤ word_after l (Word.Stamp page)) ⊎ ((is_unstamped (part k l) page ≡ true) × (e ≤ epoch_of (part k l)))

-- ---- lists whose stamps are epochs of ends
-- nothing is unstamped for the actor
abbrev pub AllStamped : View → Type 0
AllStamped v = (page : ℕ) → is_unstamped v page ≡ false

-- The step keeps the stamps to the epochs of ends: the actor learns no epoch while a page is unstamped for it, and stamps only such a page.
abbrev pub KeepsToEnds : View → Step → Type 0
KeepsToEnds v (Look Word.Epoch) = AllStamped v
KeepsToEnds v (Tick raised) = AllStamped v
KeepsToEnds v (Stamp q) = is_unstamped v q ≡ true
KeepsToEnds v step = Unit {0}

abbrev pub AllKeepToEnds : Whole → Type 0
AllKeepToEnds [] = Unit {0}
AllKeepToEnds (t ∷ l) = KeepsToEnds (part t.actor l) t.made.step × AllKeepToEnds l

-- each of these steps, which were made from this view on, does
abbrev pub Keeps : View → List Made → Type 0
Keeps v [] = Unit {0}
Keeps v (m ∷ ms) = KeepsToEnds (ms ++ v) m.step × Keeps v ms
