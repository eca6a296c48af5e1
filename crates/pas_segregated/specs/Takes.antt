-- The slots of a page that are taken.
use Rattle.std.specs.Prelude.{ℕ, ◌+◌, ◌*◌, ◌/◌, ◌%◌, ◌<◌, ◌≤◌, ◌≡◌, ◌==◌, ◌↔◌, IsTrue, Bool, true, not, ◌&&◌, if◌then◌else◌, List, [], ◌∷◌, ◌++◌, length}
use Rattle.std.proofs.{Common.{ap, arith, inl, inr}, lemmas.{Bool.cases_lt, List.get_or_past}}
use Rattle.pas_profile.specs.{Classes.{is_usable, class_sizes, class_size, class_grains, usable_grains, IsSlotStart}, declared.directory.Directory.Directory}
use Rattle.pas_profile.{specs.declared.directory.Kind.Kind, proofs.Sizes.slot_end}
use Rattle.pas_bits.specs.{Bits.has_bit, Masks.{is_set, IsEmpty, HasMember}, Runs.AreFree, declared.mask.Mask4.Mask4}
use Rattle.pas_rights.specs.{PutsBack.{taking_grains, GivesDuly}, Takes.{GetsGrains, takes}, Words.words}
use Rattle.pas_steps.specs.{Views.{View, known_free}, Agreement.Agreed, Calls.{Calls, Leads}, Past.{Always, Since}, Frames.{OnlyOn, KeepsRight}, Kinds.Only}
use Rattle.pas_steps.specs.{Desks.{Standing, made}, declared.step.{Made.Made, Step.{Step, TheVariants.{Look, Deed, Back, Take, Put, Give, End, EndSized}}}}
use Rattle.pas_steps.specs.{declared.step.Step.TheVariants.{TakeRight, Offer, Park, Unpark, Stamp, Hint, Tick, Unback, Unhint}, Evidence.{Readings, ShowsHere}}
use Rattle.pas_steps.specs.Evidence.{KeptHere, IsAntitone}
use Rattle.pas_search.specs.{Kinds.KeepsMarks, Serving.{Rule, MayServe, HoldsNone, IsJustGot, GotBefore, ReadsNoneHeld}}
use Rattle.pas_segregated.specs.Masks.{start_of}

-- ---- slots
-- the mask has all usable grains of the class, and no others
abbrev pub AreUsable : ℕ → Mask4 → Type 0
AreUsable class usable = (g : ℕ) → g < 256 → is_set usable g ≡ is_usable class g

-- no slot of the class was read as free with all its grains
abbrev pub NoSlot : ℕ → Readings → Type 0
NoSlot class r = (s : ℕ) → IsSlotStart class s → AreFree r s (class_grains class) → ⊥

-- the starts are those of the slots all of whose grains were read as free
abbrev pub AreFreeSlots : ℕ → Readings → Mask4 → Type 0
AreFreeSlots class r starts = (s : ℕ) → IsTrue (is_set starts s) ↔ (IsSlotStart class s × AreFree r s (class_grains class))

-- the grain of the page, 0 to 255, is of one of the slots
abbrev pub in_starts : ℕ → Mask4 → ℕ → Bool
in_starts class starts g = is_set starts (start_of class g)

-- the grain, a number of the region, is of one of the slots on the page
abbrev pub slots_on : ℕ → ℕ → Mask4 → ℕ → Bool
slots_on page class starts g = (page == g / 256) && in_starts class starts (g % 256)

-- the rest of what was got, without the grains of these slots
abbrev pub IsRest : ℕ → Mask4 → Mask4 → Mask4 → Type 0
IsRest class got starts rest = (g : ℕ) → g < 256 → is_set rest g ≡ (is_set got g && not (in_starts class starts g))

-- ---- the takes of a page since its right was got, by a claim or a deed
-- those after this step, with this answer
abbrev pub takes_after : ℕ → Step → ℕ → List Made → List Made
takes_after page (Look word) a before = before
takes_after page (Deed q directory) a before = if (page == q) && (a == 0) then [] else before
takes_after page (Back q) a before = before
takes_after page (Take q word mask) a before = if page == q then made (Take q word mask) a ∷ before else before
takes_after page (Put q word mask) a before = before
takes_after page (Give block) a before = before
takes_after page (End name guess) a before = before
takes_after page (EndSized name room) a before = before
takes_after page (TakeRight q directory) a before = if (page == q) && has_bit a (page % 64) then [] else before
takes_after page (Offer q directory) a before = before
takes_after page (Park q) a before = before
takes_after page (Unpark q) a before = before
takes_after page (Stamp q) a before = before
takes_after page (Hint q) a before = before
takes_after page (Tick raised) a before = before
takes_after page (Unback q) a before = before
takes_after page (Unhint q) a before = before

abbrev pub takes_since : ℕ → List Made → List Made
takes_since page [] = []
takes_since page (m ∷ before) = takes_after page m.step m.answer (takes_since page before)

-- The takes of the page since its right was got are those of its free words with all usable grains, of which each word has some: four takes. The
-- slots are those all of whose grains they read as free, and there are some.
pub record TookSlots (class page : ℕ) (steps : List Made) (starts : Mask4) : Type 0 where
  pub usable : Mask4
  pub usable_are : AreUsable class usable
  pub answers : Mask4
  pub takes : takes_since page steps ≡ takes page (words usable) (words answers) 4
  pub are : AreFreeSlots class (is_set answers) starts
  pub some : HasMember starts

-- Four takes; the grains of incomplete slots are put back, so those of the slots are got, and the right is kept. Where there is a slot the page is
-- neither offered, parked nor hinted. On a page all of whose grains are known as free there is one. Whatever stood before, the words were read with the right; where there is no slot nothing is held.
pub record TakesSlots (class page : ℕ) (d : Directory) (desk desk' : Standing) (starts : Mask4) : Type 0 where
  pub steps : List Made
  pub calls : Calls desk desk' (MayServe page d) (GetsGrains (slots_on page class starts)) steps
  pub kinds : Only taking_grains steps
  pub on : OnlyOn page steps
  pub few : length steps ≤ 16
  pub usable : Mask4
  pub usable_are : AreUsable class usable
  pub answers : Mask4
  pub are : AreFreeSlots class (is_set answers) starts
  pub held : Leads desk.seat.profile (MayServe page d) (ReadsNoneHeld page (is_set answers)) steps
  pub all_free : (v : View) → Agreed desk.seat.profile v steps → ((g : ℕ) → g / 256 ≡ page → known_free v g ≡ true) → HasMember starts
  pub keeps : KeepsRight page steps
  pub due : Always GivesDuly steps
  pub marks : HasMember starts → Always (KeepsMarks page) steps
  pub takes : (before : List Made) → IsJustGot page before → takes_since page (steps ++ before) ≡ takes page (words usable) (words answers) 4
  pub read : (before : List Made) → GotBefore page before → (word : ℕ) → word < 4
      → Since (ShowsHere page word (is_set answers)) (KeptHere page) (steps ++ before)
  pub none : (before : List Made) → HoldsNone page before → IsEmpty starts → HoldsNone page (steps ++ before)

-- a slot ends on its page. From 20 on a number is of no class, and its slots would have no grain
pub slot_within : (class s : ℕ) → IsSlotStart class s → s + class_grains class ≤ 256
slot_within class s slot = elim (cases_lt class 20) [
  | inl is ↦ slot_end class s is slot
  | inr past ↦
      let none : class_size class ≡ 0 = get_or_past class_sizes class 0 past in
      let usable : usable_grains class ≡ 0 = ap (λ n. 4096 / n * (n / 16)) none in
      let within = slot.within in omega (arith, within, usable)
]

-- fewer free grains show no slot where more of them show none
pub fewer_slots : (class : ℕ) → IsAntitone (NoSlot class)
fewer_slots class r fewer less no_slot s slot free =
    let within = slot_within class s slot in no_slot s slot (λ g low high. less g (omega (arith, within, high)) (free g low high))

-- ---- exclusive pages, for the search
-- All free slots of a page of the class are taken, by their first grains, and the page's right is kept. One event, when the page is backed.
abbrev pub exclusive : ℕ → Rule Mask4
exclusive class = record {
  suits = λ d. d.kind ≡ Kind.Class class;
  no_fit = NoSlot class;
  kept = in_starts class;
  keeps_right = λ starts. true;
  serves = TookSlots class;
  events = 1;
  steps = 27;
}
