-- What the steps for one page show. What they hold is told by themselves, since the actor held nothing before them.
use Rattle.std.specs.Prelude.{ℕ, ◌+◌, ◌/◌, ◌%◌, ◌≤◌, ◌≡◌, true, false, List}
use Rattle.pas_profile.specs.declared.word.Word.{Word}
use Rattle.pas_steps.specs.{Evidence.ReadsFree, Past.Once, Views.holds, declared.step.{Made.Made, Step.TheVariants.{Look, Unback}}}

-- this free word of the page was read so, and none of its grains was held then
abbrev pub UsedByOthers : ℕ → ℕ → ℕ → Made → List Made → Type 0
UsedByOthers page word value m before = ReadsFree page word m.step × (m.answer ≡ value) × ((g : ℕ) → g / 256 ≡ page → g / 64 % 4 ≡ word → holds before g ≡ false)

-- the page's stamp was read as old enough for the epoch
abbrev pub OldHere : ℕ → ℕ → ℕ → Made → List Made → Type 0
OldHere age epoch page m before = (m.step ≡ Look (Word.Stamp page)) × (m.answer + age ≤ epoch)

-- the page was unbacked with all its grains held, after its stamp was read so
abbrev pub UnbackedHere : ℕ → ℕ → ℕ → Made → List Made → Type 0
UnbackedHere age epoch page m before = (m.step ≡ Unback page) × ((g : ℕ) → g / 256 ≡ page → holds before g ≡ true) × Once (OldHere age epoch page) before
