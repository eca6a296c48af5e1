-- What the calls of this crate ask.
use Rattle.std.specs.Prelude.{ℕ, ◌+◌, ◌-◌, ◌*◌, ◌/◌, ◌%◌, ◌^◌, ◌<◌, ◌≤◌, ◌≡◌, false}
use Rattle.pas_profile.specs.{Profiles.IsPage, Blocks.address_of, declared.{profile.Profile.Profile, name.Name.Name, entry.Entry.Entry}}
use Rattle.pas_steps.specs.{Views.{View, known_epoch, examines}, Allowed.IsEpochKnown}

-- The end of this name may be tried: its address is a multiple of 16 on a page of the region, and its turn has a next one.
pub record IsNameOf (f : Profile) (name : Name) : Type 0 where
  pub page : IsPage f (address_of name / 4096)
  pub aligned : address_of name % 16 ≡ 0
  pub turn : name.turn < 2 ^ 40 - 1

-- .. and so may that of an entry
pub record IsEntryOf (f : Profile) (entry : Entry) : Type 0 where
  pub name : IsNameOf f entry.name
  pub whole : entry.room % 16 ≡ 0
  pub within : entry.room ≤ 4096 * f.pages

-- the actor read the epoch
abbrev pub KnowsEpoch : View → Type 0
KnowsEpoch v = IsEpochKnown (known_epoch v)

-- .. and examines no page
pub record MayEnd (v : View) : Type 0 where
  pub epoch : KnowsEpoch v
  pub examined : (page : ℕ) → examines v page ≡ false

-- a run of some grains of the region
pub record IsRun (f : Profile) (g n : ℕ) : Type 0 where
  pub some : 1 ≤ n
  pub first : 256 ≤ g
  pub last : g + n ≤ 256 * (f.pages + 1)

-- .. that lies on one page
pub record IsRunOnPage (f : Profile) (g n : ℕ) : Type 0 where
  pub some : 1 ≤ n
  pub page : IsPage f (g / 256)
  pub within : g % 256 + n ≤ 256
