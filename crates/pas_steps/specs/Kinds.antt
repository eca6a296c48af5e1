-- Kinds of steps, and sets of kinds. What a crate's calls may do is a set, and what they leave as it was follows from the set by computing.
use Rattle.std.specs.Prelude.{ℕ, ◌≡◌, ◌==◌, Bool, true, false, not, ◌&&◌, ◌||◌, List, [], ◌∷◌}
use Rattle.pas_profile.specs.declared.word.Word.{Word}
use Rattle.pas_steps.specs.{Past.Always, declared.step.Step.{Step, TheVariants.{Look, Deed, Back, Take, Put, Give, End, EndSized, TakeRight, Offer, Park}}}
use Rattle.pas_steps.specs.declared.step.{Step.TheVariants.{Unpark, Stamp, Hint, Tick, Unback, Unhint}, Made.Made}

pub data StepKind : Type 0 where
  LookEpoch : StepKind
  LookFree : StepKind
  LookLife : StepKind
  LookDeed : StepKind
  LookBacked : StepKind
  LookStamp : StepKind
  LookParked : StepKind
  LookEmpty : StepKind
  LookEligible : StepKind
  Deeding : StepKind
  Backing : StepKind
  Taking : StepKind
  Putting : StepKind
  Giving : StepKind
  Ending : StepKind
  Claiming : StepKind
  Offering : StepKind
  Parking : StepKind
  Unparking : StepKind
  Stamping : StepKind
  Hinting : StepKind
  Ticking : StepKind
  Unbacking : StepKind
  Unhinting : StepKind

abbrev pub look_kind : Word → StepKind
look_kind Word.Epoch = LookEpoch
look_kind (Word.Free page word) = LookFree
look_kind (Word.Life page grain) = LookLife
look_kind (Word.Deed page) = LookDeed
look_kind (Word.Backed page) = LookBacked
look_kind (Word.Stamp page) = LookStamp
look_kind (Word.Parked j) = LookParked
look_kind (Word.Empty j) = LookEmpty
look_kind (Word.Eligible d j) = LookEligible

abbrev pub kind_of : Step → StepKind
kind_of (Look word) = look_kind word
kind_of (Deed page directory) = Deeding
kind_of (Back page) = Backing
kind_of (Take page word mask) = Taking
kind_of (Put page word mask) = Putting
kind_of (Give block) = Giving
kind_of (End name guess) = Ending
kind_of (EndSized name room) = Ending
kind_of (TakeRight page directory) = Claiming
kind_of (Offer page directory) = Offering
kind_of (Park page) = Parking
kind_of (Unpark page) = Unparking
kind_of (Stamp page) = Stamping
kind_of (Hint page) = Hinting
kind_of (Tick raised) = Ticking
kind_of (Unback page) = Unbacking
kind_of (Unhint page) = Unhinting

-- the place of a kind in the list above, by which kinds are compared
abbrev pub place_of : StepKind → ℕ
place_of LookEpoch = 0
place_of LookFree = 1
place_of LookLife = 2
place_of LookDeed = 3
place_of LookBacked = 4
place_of LookStamp = 5
place_of LookParked = 6
place_of LookEmpty = 7
place_of LookEligible = 8
place_of Deeding = 9
place_of Backing = 10
place_of Taking = 11
place_of Putting = 12
place_of Giving = 13
place_of Ending = 14
place_of Claiming = 15
place_of Offering = 16
place_of Parking = 17
place_of Unparking = 18
place_of Stamping = 19
place_of Hinting = 20
place_of Ticking = 21
place_of Unbacking = 22
place_of Unhinting = 23

-- ---- sets of kinds
abbrev pub Kinds : Type 0
Kinds = List StepKind

abbrev pub has_place : Kinds → ℕ → Bool
has_place [] n = false
has_place (k ∷ ks) n = (place_of k == n) || has_place ks n

abbrev pub is_in : Kinds → StepKind → Bool
is_in ks k = has_place ks (place_of k)

-- each of the one set is in the other; none is
abbrev pub within : Kinds → Kinds → Bool
within [] ls = true
within (k ∷ ks) ls = is_in ls k && within ks ls

abbrev pub apart : Kinds → Kinds → Bool
apart [] ls = true
apart (k ∷ ks) ls = not (is_in ls k) && apart ks ls

-- each step is of one of these kinds
abbrev pub Only : Kinds → List Made → Type 0
Only ks = Always (λ m before. is_in ks (kind_of m.step) ≡ true)

-- ---- which kinds may change what
abbrev pub moving : Kinds  -- where a grain is
moving = Taking ∷ Putting ∷ Giving ∷ Ending ∷ []

abbrev pub righting : Kinds  -- whose a right is
righting = Deeding ∷ Claiming ∷ Offering ∷ Parking ∷ Unparking ∷ []

abbrev pub deed_telling : Kinds  -- which deeds are known
deed_telling = LookDeed ∷ LookEligible ∷ Deeding ∷ Claiming ∷ Offering ∷ []

abbrev pub epoch_telling : Kinds  -- which epoch is known
epoch_telling = LookEpoch ∷ Ticking ∷ []

abbrev pub unstamping : Kinds  -- which pages are unstamped
unstamping = Ending ∷ Stamping ∷ []

abbrev pub examining : Kinds  -- which pages are examined
examining = LookFree ∷ LookBacked ∷ Taking ∷ Hinting ∷ Unhinting ∷ []

abbrev pub unbacking : Kinds  -- which pages are backed no longer
unbacking = Unbacking ∷ []

abbrev pub lending : Kinds  -- which grains live blocks have
lending = Giving ∷ Ending ∷ []

abbrev pub showing : Kinds  -- which events there are
showing = Deeding ∷ Backing ∷ Giving ∷ Ending ∷ Unbacking ∷ []

abbrev pub changing : Kinds  -- what the actor holds, has and knows as backed, and whether it is clear
changing = Taking ∷ Putting ∷ Giving ∷ Ending ∷ Deeding ∷ Claiming ∷ Offering ∷ Parking ∷ Unparking ∷ Unbacking ∷ Unhinting ∷ []

-- ---- what calls may do
abbrev pub looking : Kinds
looking = LookEpoch ∷ LookFree ∷ LookLife ∷ LookDeed ∷ LookBacked ∷ LookStamp ∷ LookParked ∷ LookEmpty ∷ LookEligible ∷ []

-- what follows a return of grains, and a leave
abbrev pub returning : Kinds
returning = LookFree ∷ LookBacked ∷ Offering ∷ Parking ∷ Unparking ∷ Hinting ∷ []
