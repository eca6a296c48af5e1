-- A pass of the scavenger.
use Rattle.std.specs.Prelude.{ℕ, zero, suc, ◌+◌, ◌*◌, ◌%◌, ◌≤◌, ◌≡◌, true, false, if◌then◌else◌, List, [], ◌∷◌, ◌++◌, Option, None, Some, length, map, reverse}
use Rattle.std.specs.List.{flat_map}
use Rattle.pas_bits.specs.Bits.{has_bit}
use Rattle.pas_profile.specs.{Profiles.vector_words, declared.{profile.Profile.Profile, event.{Event.Event, Outcome.Outcome}, word.Word.Word}}
use Rattle.pas_steps.specs.{Calls.Calls, Clear.HasNothing, Desks.{Standing, made}, Events.events_by, InTurn.{InTurn, numbers_below}, Views.{View, known_epoch}}
use Rattle.pas_steps.specs.{Kinds.{Kinds, LookEpoch, LookEmpty, Unhinting, Only}, declared.step.{Made.Made, Step.TheVariants.{Look, Unhint}}}
use Rattle.pas_utility.specs.Outcomes.{pair}
use Rattle.pas_scavenger.specs.Pages.{ExamineSteps, unback_of, examining}

-- ---- one page
-- a page that was read as hinted, and its outcome. None where its bit was no longer set when it was cleared
pub record Tried : Type 0 where
  pub page : ℕ
  pub outcome : Option Outcome

-- the empty bit is cleared, and where it was still set the page is examined
abbrev pub TrySteps : ℕ → ℕ → ℕ → Option Outcome → List Made → Type 0
TrySteps age epoch page None steps = (a : ℕ) × (has_bit a (page % 64) ≡ false) × (steps ≡ made (Unhint page) a ∷ [])
TrySteps age epoch page (Some outcome) steps =
    (a : ℕ) × (has_bit a (page % 64) ≡ true) × (after : List Made) × ExamineSteps age epoch page outcome after × (steps ≡ after ++ (made (Unhint page) a ∷ []))

abbrev pub TriedSteps : ℕ → ℕ → Tried → List Made → Type 0
TriedSteps age epoch tried steps = TrySteps age epoch tried.page tried.outcome steps

-- the pair of a page that had an outcome, before the others
abbrev pub with_outcome : ℕ → Option Outcome → List (ℕ × Outcome) → List (ℕ × Outcome)
with_outcome page None pairs = pairs
with_outcome page (Some outcome) pairs = pair page outcome ∷ pairs

-- the pages that had an outcome
abbrev pub outcomes_in : List Tried → List (ℕ × Outcome)
outcomes_in [] = []
outcomes_in (t ∷ earlier) = with_outcome t.page t.outcome (outcomes_in earlier)

-- ---- one word
-- an empty word that was read, and what came of its pages, the newest first
pub record WordRead : Type 0 where
  pub number : ℕ
  pub value : ℕ
  pub tried : List Tried

-- the pages of the lowest n bits of the word of this number whose bits are set there, the greatest first
abbrev pub pages_set : ℕ → ℕ → ℕ → List ℕ
pages_set number value zero = []
pages_set number value (suc n) = if has_bit value n then (64 * number + n) ∷ pages_set number value n else pages_set number value n

-- the word is looked at, and each page whose bit is set there is tried, the lowest first
pub record WordSteps (age epoch : ℕ) (word : WordRead) (steps : List Made) : Type 0 where
  pub pages_are : map (λ t. t.page) word.tried ≡ pages_set word.number word.value 64
  pub after : List Made
  pub tries : InTurn (TriedSteps age epoch) word.tried after
  pub steps_are : steps ≡ after ++ (made (Look (Word.Empty word.number)) word.value ∷ [])

abbrev pub trying : Kinds
trying = LookEmpty ∷ Unhinting ∷ examining

abbrev pub all_tried : List WordRead → List Tried
all_tried words = flat_map (λ w. w.tried) words

-- ---- the pass
-- Nothing is ticked or stamped. No deed is made, no page is backed, and no block is given or ended.
abbrev pub passing : Kinds
passing = LookEpoch ∷ trying

-- the events of pages with these outcomes
abbrev pub unbacks_in : ℕ → ℕ → List (ℕ × Outcome) → List Event
unbacks_in k epoch pairs = flat_map (λ p. unback_of k epoch p.0 p.1) pairs

-- THE STEPS OF A PASS of actor k. The epoch is read, and then each empty word, once and in order, with all that follows for its pages. `found` has
-- the outcomes in order; each page that was unbacked made an event, and no other event was made. There is one step, one for each empty word, and at
-- most 38 for each page that was read as hinted.
pub record PassSteps (f : Profile) (k epoch : ℕ) (found : List (ℕ × Outcome)) (steps : List Made) : Type 0 where
  pub words : List WordRead
  pub numbers_are : map (λ w. w.number) words ≡ numbers_below (vector_words f.pages)
  pub read : List Made
  pub order : InTurn (WordSteps f.age epoch) words read
  pub found_are : reverse found ≡ outcomes_in (all_tried words)
  pub steps_are : steps ≡ read ++ (made (Look Word.Epoch) epoch ∷ [])
  pub kinds : Only passing steps
  pub events : (v : View) → events_by k v steps ≡ unbacks_in k epoch (reverse found)
  pub few : length steps ≤ 1 + vector_words f.pages + 38 * length (all_tried words)

-- a pass was made; the actor has nothing before and afterwards
pub record Passes (desk desk' : Standing) (epoch : ℕ) (found : List (ℕ × Outcome)) : Type 0 where
  pub steps : List Made
  pub order : PassSteps desk.seat.profile desk.seat.actor epoch found steps
  pub calls : Calls desk desk' HasNothing (λ v w. HasNothing w) steps

-- ---- of private functions
-- the actor has nothing, and knows the epoch
pub record IsReady (epoch : ℕ) (v : View) : Type 0 where
  pub nothing : HasNothing v
  pub epoch_is : known_epoch v ≡ Some epoch

-- the steps of some tries, with the pairs of the pages that had an outcome before those that there were
pub record Tries (epoch : ℕ) (tried : List Tried) (desk desk' : Standing) (before after : List (ℕ × Outcome)) (steps : List Made) : Type 0 where
  pub calls : Calls desk desk' (IsReady epoch) (λ v w. IsReady epoch w) steps
  pub pairs : reverse after ≡ outcomes_in tried ++ reverse before
  pub kinds : Only trying steps
  pub events : (v : View) → known_epoch v ≡ Some epoch → events_by desk.seat.actor v steps ≡ unbacks_in desk.seat.actor epoch (outcomes_in tried)

pub record TriesPage (page epoch : ℕ) (desk desk' : Standing) (before after : List (ℕ × Outcome)) : Type 0 where
  pub outcome : Option Outcome
  pub steps : List Made
  pub order : TrySteps desk.seat.profile.age epoch page outcome steps
  pub tries : Tries epoch (record { page = page; outcome = outcome } ∷ []) desk desk' before after steps
  pub few : length steps ≤ 38

pub record ReadsWord (block epoch : ℕ) (desk desk' : Standing) (before after : List (ℕ × Outcome)) : Type 0 where
  pub value : ℕ
  pub tried : List Tried
  pub steps : List Made
  pub order : WordSteps desk.seat.profile.age epoch record { number = block; value = value; tried = tried } steps
  pub tries : Tries epoch tried desk desk' before after steps
  pub few : length steps ≤ 1 + 38 * length tried
