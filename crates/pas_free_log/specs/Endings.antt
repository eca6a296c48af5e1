-- The end of one name.
use Rattle.std.specs.Prelude.{ℕ, ◌/◌, ◌≡◌, ◌≢◌, ◌==◌, Bool, true, false, ◌&&◌, ◌⊎◌, List, [], ◌∷◌, ◌++◌, Option, Some, None}
use Rattle.pas_profile.specs.{Classes.class_grains, Directories.directory_read, Blocks.{address_of, grain_of}, Entries.is_sized, Lives.{live_word, is_live}}
use Rattle.pas_profile.specs.{Lives.{turn_of, grains_of}, declared.{profile.Profile.Profile, directory.{Directory.Directory, Kind.Kind}, name.Name.Name}}
use Rattle.pas_profile.specs.declared.{word.Word.Word, event.Why.Why, entry.Entry.Entry}
use Rattle.pas_steps.specs.{Desks.{Standing, Adds, made}, Events.{reason_of, sized_reason}, declared.step.{Made.Made, Step.{Step, TheVariants.{Look, End}}}}
use Rattle.pas_steps.specs.declared.step.Step.TheVariants.{EndSized}
use Rattle.pas_free_log.specs.{Conditions.{KnowsEpoch, IsRun}, declared.ending.Outcome.{Outcome, TheVariants.{Ended, Refused}}}

-- ---- guesses
-- the length of a block that begins on a page of this kind: that of the class, and 1 where blocks differ
abbrev pub guess_by_kind : Kind → ℕ
guess_by_kind (Kind.Class class) = class_grains class
guess_by_kind Kind.Bitfit = 1
guess_by_kind Kind.Shared = 1
guess_by_kind Kind.Large = 1

abbrev pub guess_by : Option Directory → ℕ
guess_by None = 1
guess_by (Some d) = guess_by_kind d.kind

-- ---- tries
-- the life word is that of a live block with the turn of the name
abbrev pub is_of : Name → ℕ → Bool
is_of name a = is_live a && (turn_of a == name.turn)

-- The tries before the last one, which is made with the length `guess`. There is none, and this is the first guess; or there is one, which
-- read the name's block with this length, and not with the first guess.
abbrev pub Tries : Name → ℕ → ℕ → List Made → Type 0
Tries name first guess steps =
    ((guess ≡ first) × (steps ≡ []))
    ⊎ ((a : ℕ) × (a ≢ live_word name.turn first) × (is_of name a ≡ true) × (guess ≡ grains_of a) × (steps ≡ made (End name first) a ∷ []))

-- .. of an entry. One with a room has none, and the length is that of its room
abbrev pub TriesBy : Bool → Entry → ℕ → ℕ → List Made → Type 0
TriesBy true entry first guess steps = (guess ≡ entry.room / 16) × (steps ≡ [])
TriesBy false entry first guess steps = Tries entry.name first guess steps

-- the last try: an entry with a room has its event by a step with this room, and another one by a step with a length
abbrev pub last_step : Bool → Entry → ℕ → Step
last_step true entry guess = EndSized entry.name entry.room
last_step false entry guess = End entry.name guess

-- the life word isn't that of a block that the last try ends
abbrev pub IsRefusedBy : Bool → Name → ℕ → ℕ → Type 0
IsRefusedBy true name guess a = a ≢ live_word name.turn guess
IsRefusedBy false name guess a = is_of name a ≡ false

-- what the last try came to, which was made with this length and read this life word
abbrev pub IsEndOf : Entry → ℕ → ℕ → Outcome → Type 0
IsEndOf entry guess a (Ended grains) = (a ≡ live_word entry.name.turn guess) × (grains ≡ guess)
IsEndOf entry guess a (Refused read) = IsRefusedBy (is_sized entry) entry.name guess a × (read ≡ a)

-- why it was refused
abbrev pub reason_by : Bool → Entry → ℕ → Why
reason_by true entry read = sized_reason entry.name entry.room read
reason_by false entry read = reason_of entry.name read

abbrev pub reason_for : Entry → ℕ → Why
reason_for entry read = reason_by (is_sized entry) entry read

-- The steps of an end: a look at the deed word of the name's page, and one try or two, each with exactly this name. The first one is made with
-- the room of the entry, or else with the length that this deed word tells.
pub record EndSteps (entry : Entry) (outcome : Outcome) (steps : List Made) : Type 0 where
  pub deed : ℕ
  pub before : List Made
  pub guess : ℕ
  pub answer : ℕ
  pub tries : TriesBy (is_sized entry) entry (guess_by (directory_read deed)) guess before
  pub comes_to : IsEndOf entry guess answer outcome
  pub steps_are : steps ≡ made (last_step (is_sized entry) entry guess) answer ∷ before ++ (made (Look (Word.Deed (address_of entry.name / 4096))) deed ∷ [])

-- a block that ended lies in the region
abbrev pub IsOfRegion : Profile → Name → Outcome → Type 0
IsOfRegion f name (Ended grains) = IsRun f (grain_of name) grains
IsOfRegion f name (Refused read) = Unit {0}

-- the directory is what the deed word of the name's page told
pub record EndsOne (entry : Entry) (desk desk' : Standing) (outcome : Outcome) (directory : Option Directory) : Type 0 where
  pub steps : List Made
  pub adds : Adds desk desk' KnowsEpoch steps
  pub order : EndSteps entry outcome steps
  pub of_region : IsOfRegion desk.seat.profile entry.name outcome
  pub tells : directory ≡ directory_read order.deed
