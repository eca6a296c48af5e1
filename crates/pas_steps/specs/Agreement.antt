-- What the answer of a step promises to its actor beside being the word's old value: it agrees with what the view holds, has and knows, and
-- with what its actor read and ended before.
-- One definition by cases, kind by kind and word by word.
use Rattle.std.specs.Prelude.{ℕ, ◌+◌, ◌*◌, ◌/◌, ◌%◌, ◌^◌, ◌<◌, ◌≤◌, ◌≡◌, ◌≢◌, true, false, List, [], ◌∷◌, ◌++◌, Some}
use Rattle.pas_bits.specs.{Bits.has_bit, Runs.in_run}
use Rattle.pas_profile.specs.{Directories.{deed_word_of, deed_word_numbered, number_of}, Profiles.{IsPage, IsDirectoryOf}, Blocks.grain_of, Lives.live_word}
use Rattle.pas_profile.specs.{Lives.{is_live, turn_of, grains_of}, declared.{profile.Profile.Profile, directory.Directory.Directory, name.Name.Name}}
use Rattle.pas_profile.specs.declared.word.Word.{Word}
use Rattle.pas_steps.specs.Views.{View, holds, has_right, known_deed, known_free, knows_backed, known_life, epoch_of, known_stamp, ReadLive, ReadBacked}
use Rattle.pas_steps.specs.{Views.{EndedOn, EndedOnBoth}, declared.step.Step.{Step, TheVariants.{Look, Deed, Back, Take, Put, Give, End, EndSized, TakeRight}}}
use Rattle.pas_steps.specs.declared.step.{Step.TheVariants.{Offer, Park, Unpark, Stamp, Hint, Tick, Unback, Unhint}, Made.Made}

-- the word is no deed, or the deed of a directory of the profile
abbrev pub IsDeedWord : Profile → ℕ → Type 0
IsDeedWord f a = (a ≢ 0) → (d : Directory) × (a ≡ deed_word_of d) × IsDirectoryOf f d

-- the heap of the directory that a deed word records
abbrev pub heap_recorded : ℕ → ℕ
heap_recorded word = word / 256 % 256

-- A deed word that is read: a deed that is known is read again. A page that was once read as backed has a deed, and so has each page of a
-- block that the actor ended; all pages of one such block have deeds of one heap.
pub record AgreesDeed (f : Profile) (v : View) (page a : ℕ) : Type 0 where
  pub a_deed : IsDeedWord f a
  pub known : known_deed v page ≢ 0 → a ≡ known_deed v page
  pub backed : ReadBacked v page → a ≢ 0
  pub ended : EndedOn v page → a ≢ 0
  pub heap : (other : ℕ) → EndedOnBoth v page other → known_deed v other ≢ 0 → heap_recorded a ≡ heap_recorded (known_deed v other)

-- a free word of a page that is read: a grain that is known as free is read as free, one that is held as not free
pub record AgreesFree (v : View) (page word a : ℕ) : Type 0 where
  pub free : (g : ℕ) → g / 256 ≡ page → g / 64 % 4 ≡ word → known_free v g ≡ true → has_bit a (g % 64) ≡ true
  pub held : (g : ℕ) → g / 256 ≡ page → g / 64 % 4 ≡ word → holds v g ≡ true → has_bit a (g % 64) ≡ false

-- A life word that is read: one that is known is read again, and no block lives at a grain that is held. It is the word of a live block, whose
-- length fits the region, or else the turn alone. A block that was once read as live and still lives has the length that it had then.
-- Turns are below 2 ^ 37, since each of at most 17 actors gives at most 2 ^ 32 blocks.
pub record AgreesLife (f : Profile) (v : View) (g a : ℕ) : Type 0 where
  pub known : (w : ℕ) → known_life v g ≡ Some w → a ≡ w
  pub held : holds v g ≡ true → is_live a ≡ false
  pub turn : turn_of a < 2 ^ 37
  pub length : is_live a ≡ true → (1 ≤ grains_of a) × (grains_of a ≤ 256 * f.pages)
  pub live : is_live a ≡ true → a ≡ live_word (turn_of a) (grains_of a)
  pub turn_alone : is_live a ≡ false → a ≡ turn_of a
  pub again : (grains : ℕ) → is_live a ≡ true → ReadLive v g (turn_of a) grains → grains_of a ≡ grains

-- the life word that an end reads. A block that ended lay in the region, and the actor held no grain of it before
pub record AgreesEnd (f : Profile) (v : View) (name : Name) (guess a : ℕ) : Type 0 where
  pub life : AgreesLife f v (grain_of name) a
  pub within : a ≡ live_word name.turn guess → (256 ≤ grain_of name) × (grain_of name + guess ≤ 256 * (f.pages + 1))
  pub apart : a ≡ live_word name.turn guess → (x : ℕ) → in_run (grain_of name) guess x ≡ true → holds v x ≡ false

-- a backed word that is read: it is 0 or 1, and 1 where the page is known as backed
pub record AgreesBacked (v : View) (page a : ℕ) : Type 0 where
  pub small : a ≤ 1
  pub known : knows_backed v page ≡ true → a ≡ 1

-- a word of the parked vector that is read: a set bit is of a page, whose right the actor hasn't
pub record AgreesParked (f : Profile) (v : View) (j a : ℕ) : Type 0 where
  pub page : (b : ℕ) → b < 64 → has_bit a b ≡ true → IsPage f (64 * j + b)
  pub right : (b : ℕ) → b < 64 → has_right v (64 * j + b) ≡ true → has_bit a b ≡ false

-- a word of the empty vector that is read: a set bit is of a page
pub record AgreesEmpty (f : Profile) (j a : ℕ) : Type 0 where
  pub page : (b : ℕ) → b < 64 → has_bit a b ≡ true → IsPage f (64 * j + b)

-- a word of an eligible vector that is read: a set bit is of a page of that directory, whose right the actor hasn't. A deed that is known is
-- of that directory then
pub record AgreesEligible (f : Profile) (v : View) (d j a : ℕ) : Type 0 where
  pub page : (b : ℕ) → b < 64 → has_bit a b ≡ true → IsPage f (64 * j + b)
  pub right : (b : ℕ) → b < 64 → has_right v (64 * j + b) ≡ true → has_bit a b ≡ false
  pub known : (b : ℕ) → b < 64 → has_bit a b ≡ true → known_deed v (64 * j + b) ≢ 0 → known_deed v (64 * j + b) ≡ deed_word_numbered d

-- the epoch that is read: it is no older than the newest one that the actor read, and is below 2 ^ 40
pub record AgreesEpoch (v : View) (a : ℕ) : Type 0 where
  pub newer : epoch_of v ≤ a
  pub small : a < 2 ^ 40

-- a stamp that is read: it is an epoch, so it is below 2 ^ 40, and a stamp that is known is read again
pub record AgreesStamp (v : View) (page a : ℕ) : Type 0 where
  pub small : a < 2 ^ 40
  pub known : (s : ℕ) → known_stamp v page ≡ Some s → a ≡ s

abbrev pub AgreesLook : Profile → View → Word → ℕ → Type 0
AgreesLook f v Word.Epoch a = AgreesEpoch v a
AgreesLook f v (Word.Free page word) a = AgreesFree v page word a
AgreesLook f v (Word.Life page grain) a = AgreesLife f v (page * 256 + grain) a
AgreesLook f v (Word.Deed page) a = AgreesDeed f v page a
AgreesLook f v (Word.Backed page) a = AgreesBacked v page a
AgreesLook f v (Word.Stamp page) a = AgreesStamp v page a
AgreesLook f v (Word.Parked j) a = AgreesParked f v j a
AgreesLook f v (Word.Empty j) a = AgreesEmpty f j a
AgreesLook f v (Word.Eligible d j) a = AgreesEligible f v d j a

abbrev pub Agrees : Profile → View → Step → ℕ → Type 0
Agrees f v (Look word) a = AgreesLook f v word a
Agrees f v (Deed page directory) a = AgreesDeed f v page a
Agrees f v (Back page) a = AgreesBacked v page a
Agrees f v (Take page word mask) a = AgreesFree v page word a
Agrees f v (Put page word mask) a = AgreesFree v page word a
Agrees f v (Give block) a = AgreesLife f v (grain_of block.name) a
Agrees f v (End name guess) a = AgreesEnd f v name guess a
Agrees f v (EndSized name room) a = AgreesEnd f v name (room / 16) a
Agrees f v (TakeRight page directory) a = AgreesEligible f v (number_of directory) (page / 64) a
Agrees f v (Offer page directory) a = AgreesEligible f v (number_of directory) (page / 64) a
Agrees f v (Park page) a = AgreesParked f v (page / 64) a
Agrees f v (Unpark page) a = AgreesParked f v (page / 64) a
Agrees f v (Stamp page) a = AgreesStamp v page a
Agrees f v (Hint page) a = AgreesEmpty f (page / 64) a
Agrees f v (Tick raised) a = AgreesEpoch v a
Agrees f v (Unback page) a = AgreesBacked v page a
Agrees f v (Unhint page) a = AgreesEmpty f (page / 64) a

-- each answer of these steps, which were made from this view on, agrees with the view of its moment
abbrev pub Agreed : Profile → View → List Made → Type 0
Agreed f v [] = Unit {0}
Agreed f v (m ∷ ms) = Agrees f (ms ++ v) m.step m.answer × Agreed f v ms
