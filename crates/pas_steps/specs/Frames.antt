-- Kinds of steps that leave much as it was.
use Rattle.std.specs.Prelude.{ℕ, ◌≢◌, ◌==◌, Bool, false, List, [], ◌∷◌}
use Rattle.pas_profile.specs.declared.{directory.Directory.Directory, word.Word.Word}
use Rattle.pas_steps.specs.{Past.Always, declared.step.Step.{Step, TheVariants.{Look, Deed, Back, Take, Put, Give, End, EndSized, TakeRight, Offer, Park}}}
use Rattle.pas_steps.specs.declared.step.{Step.TheVariants.{Unpark, Stamp, Hint, Tick, Unback, Unhint}, Made.Made}

abbrev pub IsLook : Step → Type 0
IsLook (Look word) = Unit {0}
IsLook (Deed page directory) = ⊥
IsLook (Back page) = ⊥
IsLook (Take page word mask) = ⊥
IsLook (Put page word mask) = ⊥
IsLook (Give block) = ⊥
IsLook (End name guess) = ⊥
IsLook (EndSized name room) = ⊥
IsLook (TakeRight page directory) = ⊥
IsLook (Offer page directory) = ⊥
IsLook (Park page) = ⊥
IsLook (Unpark page) = ⊥
IsLook (Stamp page) = ⊥
IsLook (Hint page) = ⊥
IsLook (Tick raised) = ⊥
IsLook (Unback page) = ⊥
IsLook (Unhint page) = ⊥

-- the step ends the page's backing
abbrev pub unbacks : Step → ℕ → Bool
unbacks (Look word) page = false
unbacks (Deed q directory) page = false
unbacks (Back q) page = false
unbacks (Take q word mask) page = false
unbacks (Put q word mask) page = false
unbacks (Give block) page = false
unbacks (End name guess) page = false
unbacks (EndSized name room) page = false
unbacks (TakeRight q directory) page = false
unbacks (Offer q directory) page = false
unbacks (Park q) page = false
unbacks (Unpark q) page = false
unbacks (Stamp q) page = false
unbacks (Hint q) page = false
unbacks (Tick raised) page = false
unbacks (Unback q) page = q == page
unbacks (Unhint q) page = false

-- only looks were made
abbrev pub AreLooks : List Made → Type 0
AreLooks [] = Unit {0}
AreLooks (m ∷ ms) = IsLook m.step × AreLooks ms

-- the step changes nothing of another page than this one. A look changes no page; a give and an end may go over several
pub data IsOnPage (page : ℕ) : Step → Type 0 where
  Looks : (word : Word) → IsOnPage page (Look word)
  Deeds : (d : Directory) → IsOnPage page (Deed page d)
  Backs : IsOnPage page (Back page)
  Takes : (word mask : ℕ) → IsOnPage page (Take page word mask)
  Puts : (word mask : ℕ) → IsOnPage page (Put page word mask)
  Claims : (d : Directory) → IsOnPage page (TakeRight page d)
  Offers : (d : Directory) → IsOnPage page (Offer page d)
  Parks : IsOnPage page (Park page)
  Unparks : IsOnPage page (Unpark page)
  Stamps : IsOnPage page (Stamp page)
  Hints : IsOnPage page (Hint page)

-- The step moves no grain, makes no deed and asks for no right: it looks at a free word or at the backed word of the page, gives its right
-- up or takes it back from the parked pages, or hints it.
pub data IsReturn (page : ℕ) : Step → Type 0 where
  LooksFree : (word : ℕ) → IsReturn page (Look (Word.Free page word))
  LooksBacked : IsReturn page (Look (Word.Backed page))
  Offers : (d : Directory) → IsReturn page (Offer page d)
  Parks : IsReturn page (Park page)
  Unparks : IsReturn page (Unpark page)
  Hints : IsReturn page (Hint page)

-- the step takes or puts grains of the page
pub data IsGrains (page : ℕ) : Step → Type 0 where
  Takes : (word mask : ℕ) → IsGrains page (Take page word mask)
  Puts : (word mask : ℕ) → IsGrains page (Put page word mask)

-- the step changed nothing: a look, or a deed that was there already
pub data IsRead : Step → ℕ → Type 0 where
  Looks : (word : Word) (a : ℕ) → IsRead (Look word) a
  Reads : (page : ℕ) (d : Directory) (a : ℕ) → (a ≢ 0) → IsRead (Deed page d) a

-- the step looks for a page: at an eligible word, a deed word or a parked word
pub data IsScan : Step → Type 0 where
  LooksEligible : (d j : ℕ) → IsScan (Look (Word.Eligible d j))
  LooksDeed : (page : ℕ) → IsScan (Look (Word.Deed page))
  LooksParked : (j : ℕ) → IsScan (Look (Word.Parked j))

-- the step gives the right of the page up
pub data GivesUp (page : ℕ) : Step → Type 0 where
  Offers : (d : Directory) → GivesUp page (Offer page d)
  Parks : GivesUp page (Park page)

abbrev pub OnlyOn : ℕ → List Made → Type 0
OnlyOn page = Always (λ m before. IsOnPage page m.step)

abbrev pub OnlyReturns : ℕ → List Made → Type 0
OnlyReturns page = Always (λ m before. IsReturn page m.step)

abbrev pub OnlyGrains : ℕ → List Made → Type 0
OnlyGrains page = Always (λ m before. IsGrains page m.step)

abbrev pub OnlyReads : List Made → Type 0
OnlyReads = Always (λ m before. IsRead m.step m.answer)

abbrev pub OnlyScans : List Made → Type 0
OnlyScans = Always (λ m before. IsScan m.step)

-- no step gives the right of the page up
abbrev pub KeepsRight : ℕ → List Made → Type 0
KeepsRight page = Always (λ m before. GivesUp page m.step → ⊥)
