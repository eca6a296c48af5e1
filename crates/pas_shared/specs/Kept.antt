-- What holds between any two steps of any actors, and when a region is closed.
use Rattle.std.specs.Prelude.{ℕ, ◌≡◌, ◌≢◌, ◌+◌, ◌/◌, ◌%◌, ◌≤◌, true, List, ◌∷◌, ◌++◌, Some}
use Rattle.pas_bits.specs.Bits.{has_bit}
use Rattle.pas_profile.specs.declared.{event.Event.Event, profile.Profile.Profile, word.Word.Word}
use Rattle.pas_machine.specs.{Machine.Run, Laws.AreBorne, State.epoch_in}
use Rattle.pas_steps.specs.{Allowed.HoldsOn, Effects.{free_word_at, life_word_at}, Views.{known_deed, known_free, knows_backed, known_life, known_stamp}}
use Rattle.pas_steps.specs.{Views.{epoch_of, is_unstamped}, Lists.{Whole, part, visible, word_after}}
use Rattle.pas_core.specs.{Good.{IsInOnePlace, AgreesWithWords}, Hints.{IsEmptyBacked, IsMinded}, Stamps.{EachEnd, IsStampedOr}, Rights.IsRightInOnePlace}
use Rattle.pas_core.specs.Rights.{parked_bit, IsUsableFree, IsOwed}

-- what each actor knows is so, whatever the others did since
pub record KnowsTruly (l : Whole) : Type 0 where
  pub deed : (k page : ℕ) → known_deed (part k l) page ≢ 0 → word_after l (Word.Deed page) ≡ known_deed (part k l) page
  pub backed : (k page : ℕ) → knows_backed (part k l) page ≡ true → word_after l (Word.Backed page) ≡ 1
  pub free : (k g : ℕ) → known_free (part k l) g ≡ true → has_bit (word_after l (free_word_at g)) (g % 64) ≡ true
  pub life : (k g w : ℕ) → known_life (part k l) g ≡ Some w → word_after l (life_word_at g) ≡ w
  pub stamp : (k page s : ℕ) → known_stamp (part k l) page ≡ Some s → word_after l (Word.Stamp page) ≡ s
  pub epoch : (k : ℕ) → epoch_of (part k l) ≤ word_after l Word.Epoch

-- Each grain and each right is in one place, every block is borne, what is known is true, each end is stamped or will be, no parked and no
-- empty page is forgotten, and the events are a run of a machine that agrees with the words.
pub record IsGood (f : Profile) (l : Whole) : Type 0 where
  pub place : (g : ℕ) → IsInOnePlace l g
  pub untouched : (g : ℕ) → word_after l (Word.Deed (g / 256)) ≡ 0 → has_bit (word_after l (free_word_at g)) (g % 64) ≡ true
  pub borne : AreBorne f (visible l)
  pub right : (page : ℕ) → IsRightInOnePlace f l page
  pub known : KnowsTruly l
  pub checked : (page word bit : ℕ) → parked_bit l page ≡ true → IsUsableFree l page word bit → IsOwed l page word
  pub stamped : (page : ℕ) → EachEnd (IsStampedOr l page) (visible l) page
  pub unstamped : (k page : ℕ) → is_unstamped (part k l) page ≡ true → HoldsOn (part k l) page
  pub minded : (page : ℕ) → IsEmptyBacked l page → IsMinded l page
  pub run : Run f (visible l)
  pub agrees : AgreesWithWords f l

-- Wherever among the events the backing of a page ends, its epoch is no less than the greatest epoch of an end on the page before, plus the
-- age. The stamp isn't spoken of: the actor of the end may write it as late as it will.
abbrev pub NoneIsEarly : Profile → List Event → Type 0
NoneIsEarly f es = (k page epoch : ℕ) (later earlier : List Event) → es ≡ later ++ Event.Unback k page epoch ∷ earlier → epoch_in earlier page + f.age ≤ epoch
