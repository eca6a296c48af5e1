-- A region at rest: its words after a legal list of steps, when no actor has any more to do.
use Rattle.std.specs.Prelude.{ℕ, ◌+◌, ◌*◌, ◌/◌, ◌%◌, ◌<◌, ◌≡◌, ◌≢◌, true, false, not, None, Some}
use Rattle.pas_bits.specs.Bits.{has_bit}
use Rattle.pas_profile.specs.{Profiles.{IsPage, IsWordOf}, declared.{profile.Profile.Profile, word.Word.Word, directory.Directory.Directory}}
use Rattle.pas_machine.specs.State.{backed_in, deed_in, epoch_in}
use Rattle.pas_steps.specs.{Effects.free_word_at, States.{profile_of, word_in}, Views.{holds, has_right, usable_by_kind}, Lists.{Whole, part, word_after}}
use Rattle.pas_steps.specs.{Lists.visible, declared.state.State.State}
use Rattle.pas_records.specs.{Marks.marks_after, Covered.is_covered}

-- the state has the words that the list left
pub record HasWords (state : State) (l : Whole) : Type 0 where
  pub words : (word : Word) → IsWordOf (profile_of state) word → word_in state word ≡ word_after l word

-- each grain of the region is free, or a live block covers it
pub record AreFreeOrCovered (f : Profile) (l : Whole) : Type 0 where
  pub grain : (g : ℕ) → IsPage f (g / 256) → has_bit (word_after l (free_word_at g)) (g % 64) ≡ not (is_covered (visible l) g)

-- no actor holds a grain
pub record NobodyHolds (l : Whole) : Type 0 where
  pub nobody : (k g : ℕ) → holds (part k l) g ≡ false

-- no actor has the right of a page: each actor gave up every right that it took
pub record NobodyHasRights (l : Whole) : Type 0 where
  pub nobody : (k page : ℕ) → has_right (part k l) page ≡ false

-- the stamp of each page is the greatest epoch of an end there: each actor stamped each page where it ended a block
pub record AreStamped (f : Profile) (l : Whole) : Type 0 where
  pub stamp : (page : ℕ) → IsPage f page → word_after l (Word.Stamp page) ≡ epoch_in (visible l) page

-- The marks after the list are true of the machine that its visible events reach. A page is marked as backed exactly where the machine has it backed;
-- each page with a deed as offered or as parked, never as both; as offered wherever a grain that blocks of its directory may cover is not covered by a
-- live block; and as hinted wherever it is backed and none of its grains is covered.
pub record AreTrueMarks (f : Profile) (l : Whole) : Type 0 where
  pub backed : (page : ℕ) → (marks_after l page).backed ≡ backed_in (visible l) page
  pub offered_or_parked : (page : ℕ) → deed_in (visible l) page ≢ None → (marks_after l page).parked ≡ not ((marks_after l page).offered)
  pub offered : (page : ℕ) → IsPage f page → (d : Directory) → deed_in (visible l) page ≡ Some d → (b : ℕ) → b < 256 → usable_by_kind d.kind b ≡ true
      → is_covered (visible l) (256 * page + b) ≡ false → (marks_after l page).offered ≡ true
  pub hinted : (page : ℕ) → IsPage f page → backed_in (visible l) page ≡ true → ((g : ℕ) → g / 256 ≡ page → is_covered (visible l) g ≡ false)
      → (marks_after l page).hinted ≡ true
