-- What becomes of a page whose grains were taken.
use Rattle.std.specs.Prelude.{ℕ, ◌+◌, ◌/◌, ◌<◌, ◌≤◌, ◌≡◌, ◌≢◌, true, false, List, [], ◌∷◌, Option, None, Some}
use Rattle.pas_profile.specs.declared.{event.Outcome.{Outcome, TheVariants.{Unbacked, Bare, Young, InUse, NotOffered}}, word.Word.Word}
use Rattle.pas_steps.specs.{Desks.{Standing, Adds, made}, Views.{View, holds, is_unstamped, known_epoch}, declared.step.{Made.Made, Step.TheVariants.Look}}
use Rattle.pas_steps.specs.declared.step.Step.TheVariants.{Unback}
use Rattle.pas_rights.specs.declared.reading.Used.{Used}

abbrev pub used_at : ℕ → ℕ → Used
used_at word value = record { word = word; value = value }

-- The steps after the takes, by the word that they read as not all ones, if there was one. With all 256 grains the backed word and the stamp are
-- read: a page that isn't backed is bare, one whose stamp is too new for the epoch is young, and any other is unbacked.
abbrev pub Judged : ℕ → ℕ → ℕ → Option Used → Outcome → List Made → Type 0
Judged age epoch page used (InUse word value) steps = (used ≡ Some (used_at word value)) × (steps ≡ [])
Judged age epoch page used Bare steps = (used ≡ None) × (steps ≡ made (Look (Word.Backed page)) 0 ∷ [])
Judged age epoch page used (Young stamp) steps =
    (b : ℕ) × (used ≡ None) × (b ≢ 0) × (epoch < stamp + age) × (steps ≡ made (Look (Word.Stamp page)) stamp ∷ made (Look (Word.Backed page)) b ∷ [])
Judged age epoch page used Unbacked steps =
    (b : ℕ) × (stamp : ℕ) × (u : ℕ) × (used ≡ None) × (b ≢ 0) × (stamp + age ≤ epoch) × (steps ≡ made (Unback page) u ∷ made (Look (Word.Stamp page)) stamp ∷ made (Look (Word.Backed page)) b ∷ [])
Judged age epoch page used NotOffered steps = ⊥

-- ---- of private functions
-- the epoch is known, and where each word was all ones the actor holds all grains of the page, which isn't unstamped
pub record MayJudge (page epoch : ℕ) (used : Option Used) (v : View) : Type 0 where
  pub held : used ≡ None → (g : ℕ) → g / 256 ≡ page → holds v g ≡ true
  pub stamped : is_unstamped v page ≡ false
  pub epoch_is : known_epoch v ≡ Some epoch

pub record JudgesPage (page epoch : ℕ) (used : Option Used) (desk desk' : Standing) (outcome : Outcome) : Type 0 where
  pub steps : List Made
  pub adds : Adds desk desk' (MayJudge page epoch used) steps
  pub judged : Judged desk.seat.profile.age epoch page used outcome steps
