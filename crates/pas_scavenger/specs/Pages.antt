-- What comes of one page whose empty bit was cleared: the first outcome that applies, by what was read.
use Rattle.std.specs.Prelude.{ℕ, ◌%◌, ◌≤◌, ◌≡◌, ◌≢◌, ◌⊎◌, Bool, true, false, List, [], ◌∷◌, ◌++◌, Option, None, Some, length}
use Rattle.pas_bits.specs.{declared.mask.Mask4.Mask4, Masks.is_set, Bits.has_bit}
use Rattle.pas_profile.specs.{Directories.deed_word_of, Profiles.IsDirectoryOf, declared.{directory.Directory.Directory, event.{Event.Event, Outcome.Outcome}}}
use Rattle.pas_profile.specs.declared.{event.Outcome.TheVariants.{Unbacked, Bare, Young, InUse, NotOffered}, word.Word.Word}
use Rattle.pas_rights.specs.{Looks.{looks_until, IsUsed, AreUsed}, declared.reading.Used.Used}
use Rattle.pas_steps.specs.{Calls.Calls, Clear.HasNothing, Events.events_by, Views.{View, KnowsDeed, known_epoch}, Desks.{Standing, AnyView, Adds, made}}
use Rattle.pas_steps.specs.Kinds.{Kinds, LookFree, LookDeed, LookBacked, LookStamp, Taking, Putting, Claiming, Offering, Parking, Unparking, Hinting, Unbacking}
use Rattle.pas_steps.specs.{Kinds.Only, declared.step.{Made.Made, Step.TheVariants.{Look, TakeRight, Hint}}}
use Rattle.pas_scavenger.specs.{Readings.{was_free, takes_until}, Judgements.{used_at, Judged}, Puttings.{none, IsAt, BackSteps}}

-- ---- the steps
-- the backed word is read, and then free words up to a used one
abbrev pub first_looks : ℕ → ℕ → Option Used → List Made
first_looks page b used = looks_until page used ++ (made (Look (Word.Backed page)) b ∷ [])

-- the page was read as backed and each of its grains as free, and then its right is asked for, by its deed
pub record AsksSteps (page : ℕ) (d : Directory) (got : Bool) (steps : List Made) : Type 0 where
  pub backed : ℕ
  pub some : backed ≢ 0
  pub answer : ℕ
  pub got_is : got ≡ has_bit answer (page % 64)
  pub steps_are : steps ≡ made (TakeRight page d) answer ∷ made (Look (Word.Deed page)) (deed_word_of d) ∷ first_looks page backed None

-- With the right the grains are taken word by word until a word isn't whole, the page is judged, and all that was got is put back and left.
pub record TakesSteps (age epoch page : ℕ) (d : Directory) (outcome : Outcome) (steps : List Made) : Type 0 where
  pub used : Option Used
  pub are : AreUsed used
  pub after : List Made
  pub judged : Judged age epoch page used outcome after
  pub grains : Mask4
  pub got : (g : ℕ) → is_set grains g ≡ was_free used g
  pub back : List Made
  pub puts : BackSteps page d grains back
  pub steps_are : steps ≡ back ++ (after ++ takes_until page used)

-- Without the right: the page isn't backed, a free word is in use, or the page isn't offered. It is hinted again then.
abbrev pub EndsWithout : ℕ → Outcome → List Made → Type 0
EndsWithout page Bare steps = steps ≡ made (Look (Word.Backed page)) 0 ∷ []
EndsWithout page (InUse word value) steps = (b : ℕ) × (b ≢ 0) × IsUsed (used_at word value) × (steps ≡ first_looks page b (Some (used_at word value)))
EndsWithout page NotOffered steps = (d : Directory) × (h : ℕ) × (asked : List Made) × AsksSteps page d false asked × (steps ≡ made (Hint page) h ∷ asked)
EndsWithout page (Young stamp) steps = ⊥
EndsWithout page Unbacked steps = ⊥

pub record EndsWith (age epoch page : ℕ) (outcome : Outcome) (steps : List Made) : Type 0 where
  pub directory : Directory
  pub asked : List Made
  pub asks : AsksSteps page directory true asked
  pub after : List Made
  pub takes : TakesSteps age epoch page directory outcome after
  pub steps_are : steps ≡ after ++ asked

abbrev pub ExamineSteps : ℕ → ℕ → ℕ → Outcome → List Made → Type 0
ExamineSteps age epoch page outcome steps = EndsWithout page outcome steps ⊎ EndsWith age epoch page outcome steps

-- ---- the event, and the kinds of steps
-- an unback is the one event, by an actor that knows this epoch
abbrev pub unback_of : ℕ → ℕ → ℕ → Outcome → List Event
unback_of k epoch page Unbacked = Event.Unback k page epoch ∷ []
unback_of k epoch page Bare = []
unback_of k epoch page (Young stamp) = []
unback_of k epoch page (InUse word value) = []
unback_of k epoch page NotOffered = []

-- the steps that make no event
abbrev pub quiet : Kinds
quiet = LookFree ∷ LookDeed ∷ LookBacked ∷ LookStamp ∷ Taking ∷ Putting ∷ Claiming ∷ Offering ∷ Parking ∷ Unparking ∷ Hinting ∷ []

abbrev pub examining : Kinds
examining = Unbacking ∷ quiet

-- ---- of private functions
-- the epoch is known
pub record MayExamine (page epoch : ℕ) (v : View) : Type 0 where
  pub at : IsAt page none false v
  pub epoch_is : known_epoch v ≡ Some epoch

pub record MayTake (page : ℕ) (d : Directory) (epoch : ℕ) (v : View) : Type 0 where
  pub at : IsAt page none true v
  pub epoch_is : known_epoch v ≡ Some epoch
  pub deed : KnowsDeed page d v

pub record ReadsDirectory (page : ℕ) (desk desk' : Standing) (d : Directory) : Type 0 where
  pub of_profile : IsDirectoryOf desk.seat.profile d
  pub adds : Adds desk desk' AnyView (made (Look (Word.Deed page)) (deed_word_of d) ∷ [])

pub record TakesPage (page : ℕ) (d : Directory) (epoch : ℕ) (desk desk' : Standing) (outcome : Outcome) : Type 0 where
  pub steps : List Made
  pub calls : Calls desk desk' (MayTake page d epoch) (λ v w. HasNothing w) steps
  pub order : TakesSteps desk.seat.profile.age epoch page d outcome steps

pub record ExaminesPage (page epoch : ℕ) (desk desk' : Standing) (outcome : Outcome) : Type 0 where
  pub steps : List Made
  pub calls : Calls desk desk' (MayExamine page epoch) (λ v w. HasNothing w) steps
  pub order : ExamineSteps desk.seat.profile.age epoch page outcome steps
  pub kinds : Only examining steps
  pub few : length steps ≤ 37
  pub event : (v : View) → known_epoch v ≡ Some epoch → events_by desk.seat.actor v steps ≡ unback_of desk.seat.actor epoch page outcome
