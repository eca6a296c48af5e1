-- Looks at the free words of a page, and what they show; and the hint of a page that may be empty.
use Rattle.std.specs.Prelude.{ℕ, ◌<◌, ◌≡◌, ◌≢◌, Bool, true, false, ◌⊎◌, List, [], ◌∷◌, Option, None, Some, MatchOption}
use Rattle.pas_bits.specs.{declared.mask.Mask4.Mask4, Masks.{is_set, AllSetBelow}, Bits.has_bit}
use Rattle.pas_profile.specs.declared.{directory.Directory.Directory, word.Word.Word}
use Rattle.pas_steps.specs.{Desks.{Standing, AnyView, Adds, made}, Past.Since, Views.{usable_by_kind, all_ones}, declared.step.Made.Made}
use Rattle.pas_steps.specs.declared.step.Step.TheVariants.{Look, Take, Hint}
use Rattle.pas_rights.specs.{Words.{each_word, words, ones}, declared.reading.Used.Used}

-- ---- looks
-- a look at each free word below n of the page, with these answers
abbrev pub looks : ℕ → (ℕ → ℕ) → ℕ → List Made
looks page answers n = each_word (λ word. made (Look (Word.Free page word)) (answers word) ∷ []) n

-- four looks, whose answers are this mask: the grains that were read as free
abbrev pub ReadsPage : ℕ → Standing → Standing → Mask4 → Type 0
ReadsPage page desk desk' free = Adds desk desk' AnyView (looks page (words free) 4)

-- ---- what they show
-- a grain was read as free that blocks of the directory may cover; none was
abbrev pub HasUsable : Directory → Mask4 → Type 0
HasUsable directory free = (g : ℕ) × (g < 256) × (is_set free g ≡ true) × (usable_by_kind directory.kind g ≡ true)

abbrev pub HasNoUsable : Directory → Mask4 → Type 0
HasNoUsable directory free = (g : ℕ) → g < 256 → is_set free g ≡ true → usable_by_kind directory.kind g ≡ false

-- each grain was read as free; some grain wasn't
abbrev pub IsAllFree : Mask4 → Type 0
IsAllFree free = AllSetBelow free 256

abbrev pub HasUsed : Mask4 → Type 0
HasUsed free = (g : ℕ) × (g < 256) × (is_set free g ≡ false)

-- ---- looks up to the first word that isn't all ones
pub record IsUsed (used : Used) : Type 0 where
  pub within : used.word < 4
  pub some : used.value ≢ all_ones

-- the words before it are all ones; where there is none, all four are
abbrev pub looks_until : ℕ → Option Used → List Made
looks_until page None = looks page ones 4
looks_until page (Some used) = made (Look (Word.Free page used.word)) used.value ∷ looks page ones used.word

abbrev pub AreUsed : Option Used → Type 0
AreUsed used = MatchOption used (Unit {0}) IsUsed

pub record ReadsUntilUsed (page : ℕ) (desk desk' : Standing) (used : Option Used) : Type 0 where
  pub are : AreUsed used
  pub adds : Adds desk desk' AnyView (looks_until page used)

-- ---- hints
-- a look at the backed word, and the hint where it is 1
abbrev pub HintSteps : ℕ → List Made → Type 0
HintSteps page steps =
    ((b : ℕ) × (b ≢ 1) × (steps ≡ made (Look (Word.Backed page)) b ∷ []))
    ⊎ ((h : ℕ) × (steps ≡ made (Hint page) h ∷ made (Look (Word.Backed page)) 1 ∷ []))

-- these steps where each grain was read as free, and none otherwise
abbrev pub HintsWhere : Bool → ℕ → List Made → Type 0
HintsWhere true page steps = HintSteps page steps
HintsWhere false page steps = steps ≡ []

abbrev pub is_free : Option Used → Bool
is_free None = true
is_free (Some used) = false

-- ---- what a hint rests on
-- this look read the page as backed; this one read each grain of the free word as free
abbrev pub ReadsBacked : ℕ → Made → List Made → Type 0
ReadsBacked page m before = (m.step ≡ Look (Word.Backed page)) × (m.answer ≡ 1)

abbrev pub ReadsAllFree : ℕ → ℕ → Made → List Made → Type 0
ReadsAllFree page word m before = (m.step ≡ Look (Word.Free page word)) × ((b : ℕ) → b < 64 → has_bit m.answer b ≡ true)

-- the step takes no grain of the page
abbrev pub TakesNone : ℕ → Made → List Made → Type 0
TakesNone page m before = (word mask : ℕ) → m.step ≡ Take page word mask → ⊥

-- these steps read the page as backed and each of its grains as free, and took none of them since
pub record ReadsEmpty (page : ℕ) (before : List Made) : Type 0 where
  pub backed : Since (ReadsBacked page) (TakesNone page) before
  pub free : (word : ℕ) → word < 4 → Since (ReadsAllFree page word) (TakesNone page) before

-- the step hints no page but one that was read so
abbrev pub HintsEmpty : Made → List Made → Type 0
HintsEmpty m before = (page : ℕ) → m.step ≡ Hint page → ReadsEmpty page before

-- ---- of private functions
pub record Hinted (page : ℕ) (desk desk' : Standing) : Type 0 where
  pub steps : List Made
  pub order : HintSteps page steps
  pub adds : Adds desk desk' AnyView steps
