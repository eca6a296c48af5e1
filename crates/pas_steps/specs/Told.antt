-- What a desk that tells the whole state may be told, without a step: steps that change nothing. And what it knows of its pages' free grains.
use Rattle.std.specs.Prelude.{ℕ, ◌+◌, ◌*◌, ◌/◌, ◌%◌, ◌<◌, ◌≤◌, ◌≡◌, Bool, true, false, List, ◌++◌, length}
use Rattle.pas_bits.specs.{Bits.has_bit, Runs.AreFree}
use Rattle.pas_profile.specs.{Profiles.IsWordOf, declared.word.Word.Word}
use Rattle.pas_steps.specs.{Views.{View, known_epoch}, Events.events_of, Lists.{Whole, Legal, word_after}, Desks.{Seat, Standing, triples}}
use Rattle.pas_steps.specs.declared.step.Made.{Made}

-- ---- words
-- The desk tells the whole state, of which this word has this value now: its lists all end in the same words. And its actor is one of the region.
pub record TellsWord (tells : Bool) (desk : Standing) (word : Word) (value : ℕ) : Type 0 where
  pub tells_all : tells ≡ true
  pub is : (v : View) (l : Whole) → desk.stands v l → word_after l word ≡ value
  pub one_state : (v v' : View) (l l' : Whole) → desk.stands v l → desk.stands v' l' → (w : Word) → IsWordOf desk.seat.profile w
      → word_after l w ≡ word_after l' w
  pub actor : (v : View) (l : Whole) → desk.stands v l → desk.seat.actor ≤ desk.seat.profile.threads

-- ---- steps that are told
-- Beside this list these steps are legal, and change no word. They make no event, and read no epoch.
pub record ChangeNothing (seat : Seat) (v : View) (l : Whole) (steps : List Made) : Type 0 where
  pub legal : Legal seat.profile (triples seat.actor steps ++ l)
  pub words : (w : Word) → IsWordOf seat.profile w → word_after (triples seat.actor steps ++ l) w ≡ word_after l w
  pub events : events_of seat.actor (steps ++ v) ≡ events_of seat.actor v
  pub epoch : known_epoch (steps ++ v) ≡ known_epoch v

-- the desk stands for all for which it stood
pub record StandsStill (desk desk' : Standing) : Type 0 where
  pub seat_is : desk'.seat ≡ desk.seat
  pub stands : (v : View) (l : Whole) → desk.stands v l → desk'.stands v l

-- it stands for all for which it stood, with so many steps more, whichever they are
pub record StandsLater (count : ℕ) (desk desk' : Standing) : Type 0 where
  pub seat_is : desk'.seat ≡ desk.seat
  pub stands : (steps : List Made) → length steps ≡ count → (v : View) (l : Whole) → desk.stands v l → ChangeNothing desk.seat v l steps
      → desk'.stands (steps ++ v) (triples desk.seat.actor steps ++ l)

-- the desk took the steps, or refused to be told
abbrev pub TookSteps : Bool → ℕ → Standing → Standing → Type 0
TookSteps true count desk desk' = StandsLater count desk desk'
TookSteps false count desk desk' = StandsStill desk desk'

-- ---- pages that are short of free grains
-- whether a grain of the page, from 0 to 255, is free by these words
abbrev pub free_by : (Word → ℕ) → ℕ → ℕ → Bool
free_by words page g = has_bit (words (Word.Free page (g / 64))) (g % 64)

-- no run of so many grains from a multiple of the alignment on is free
abbrev pub NoRun : (ℕ → Bool) → ℕ → ℕ → Type 0
NoRun free grains align = (h : ℕ) → h % align ≡ 0 → h + grains ≤ 256 → AreFree free h grains → ⊥

-- and some grain is
pub record IsShort (free : ℕ → Bool) (grains align : ℕ) : Type 0 where
  pub some : ((g : ℕ) → g < 256 → free g ≡ false) → ⊥
  pub none : NoRun free grains align

-- of the pages of this block each one of these bits is short of such a run now
abbrev pub AreShort : Standing → ℕ → ℕ → ℕ → ℕ → Type 0
AreShort desk grains align block bits = (b : ℕ) → b < 64 → has_bit bits b ≡ true → (v : View) (l : Whole) → desk.stands v l
    → IsShort (free_by (word_after l) (64 * block + b)) grains align
