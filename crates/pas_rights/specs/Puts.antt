-- Grains of one page that are put back.
use Rattle.std.specs.Prelude.{ℕ, ◌/◌, ◌%◌, ◌≤◌, ◌≡◌, ◌≢◌, ◌==◌, ◌⊎◌, Bool, true, false, ◌&&◌, List, [], ◌∷◌, length, slice_index}
use Rattle.pas_bits.specs.{declared.mask.Mask4.Mask4, Masks.is_set, Runs.in_run}
use Rattle.pas_steps.specs.{Calls.{Calls, Does, put}, Desks.{Standing, made}, Effects.in_mask, Frames.OnlyOn, InTurn.{InTurn, numbers_below}, Kinds.Putting}
use Rattle.pas_steps.specs.{Kinds.Only, Views.{View, holds, is_unstamped}, declared.step.{Made.Made, Step.TheVariants.Put}}

-- the grain, a number of the region, is one of the mask's on the page
abbrev pub masked : ℕ → Mask4 → ℕ → Bool
masked page mask g = (page == g / 256) && is_set mask (g % 256)

-- the grains of the mask are held, and the page isn't unstamped
pub record MayPut (page : ℕ) (mask : Mask4) (v : View) : Type 0 where
  pub held : (g : ℕ) → masked page mask g ≡ true → holds v g ≡ true
  pub stamped : is_unstamped v page ≡ false

-- one put of a free word's grains, or none where there are none
abbrev pub WordPut : ℕ → ℕ → ℕ → List Made → Type 0
WordPut page word mask steps = ((mask ≡ 0) × (steps ≡ [])) ⊎ ((mask ≢ 0) × (a : ℕ) × (steps ≡ made (Put page word mask) a ∷ []))

-- the puts of the free words below n, the lowest first
abbrev pub PutsBelow : ℕ → Mask4 → ℕ → List Made → Type 0
PutsBelow page mask n steps = InTurn (λ word piece. WordPut page word (slice_index mask.0 word) piece) (numbers_below n) steps

-- the step puts grains of the page back
abbrev pub PutsHere : ℕ → Made → List Made → Type 0
PutsHere page m before = (word : ℕ) × (mask : ℕ) × (m.step ≡ Put page word mask)

-- the step puts no grain but one that these steps took, and hold
abbrev pub PutsTaken : Made → List Made → Type 0
PutsTaken m before = (page word mask g : ℕ) → m.step ≡ Put page word mask → in_mask page word mask g ≡ true → holds before g ≡ true

-- The grains of the mask were put back, by a put for each free word of the page that has any, and by nothing else.
pub record PutsMask (page : ℕ) (mask : Mask4) (desk desk' : Standing) : Type 0 where
  pub steps : List Made
  pub calls : Calls desk desk' (MayPut page mask) (Does (put (masked page mask) page)) steps
  pub order : PutsBelow page mask 4 steps
  pub kinds : Only (Putting ∷ []) steps
  pub on : OnlyOn page steps
  pub few : length steps ≤ 4

-- the mask has the n grains from g on, and no other
abbrev pub IsRunMask : ℕ → ℕ → Mask4 → Type 0
IsRunMask g n mask = (x : ℕ) → is_set mask x ≡ in_run g n x

-- The n grains of the page from g on were put back, as those of a mask are that has just these.
pub record PutsRun (page g n : ℕ) (desk desk' : Standing) : Type 0 where
  pub mask : Mask4
  pub is : IsRunMask g n mask
  pub puts : PutsMask page mask desk desk'

-- ---- of private functions: the grains of one free word
pub record MayPutWord (page word mask : ℕ) (v : View) : Type 0 where
  pub held : (g : ℕ) → in_mask page word mask g ≡ true → holds v g ≡ true
  pub stamped : is_unstamped v page ≡ false

pub record PutsWord (page word mask : ℕ) (desk desk' : Standing) : Type 0 where
  pub steps : List Made
  pub calls : Calls desk desk' (MayPutWord page word mask) (Does (put (in_mask page word mask) page)) steps
  pub order : WordPut page word mask steps
