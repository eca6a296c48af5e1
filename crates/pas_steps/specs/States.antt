-- What a state says: a region's profile, and the value of each word.
use Rattle.std.specs.Prelude.{ℕ, ◌≡◌, ◌≤◌, ◌<◌}
use Rattle.pas_profile.specs.declared.{profile.Profile.Profile, word.Word.Word}
use Rattle.pas_steps.specs.{Keeping.kept_value, declared.state.State.State}

abbrev pub profile_of : State → Profile
profile_of state = state.profile

abbrev pub word_in : State → Word → ℕ
word_in state word = kept_value state.words word

-- no grain of the pages above this one has a block or had one, and none of these pages is backed
pub record IsUnusedAbove (state : State) (limit : ℕ) : Type 0 where
  pub lives : (page grain : ℕ) → limit < page → page ≤ (profile_of state).pages → grain < 256 → word_in state (Word.Life page grain) ≡ 0
  pub backed : (page : ℕ) → limit < page → page ≤ (profile_of state).pages → word_in state (Word.Backed page) ≡ 0
