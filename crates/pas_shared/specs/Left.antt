-- What a table is left with when the last seat closes it.
use Rattle.std.specs.Prelude.{◌≡◌, ℕ, List, slice_index}
use mathlib.Core.Option.{some}
use lib.ListN.{get_elem?}
use Rattle.pas_profile.specs.{Layouts.index_of, Profiles.IsWordOf, declared.{profile.Profile.Profile, word.Word.Word}}
use Rattle.pas_steps.specs.{States.{profile_of, word_in}, declared.state.State.State}
use Rattle.pas_shared.specs.{Ruled.AreAfterOneList, declared.rule.Roster.Roster}

-- the state has the words of the table, which held its rule when the seat had this view
pub record IsLeftBy (f : Profile) (view : Roster) (state : State) : Type 0 where
  pub profile : profile_of state ≡ f
  pub words : List ℕ
  pub rosters : List Roster
  pub holds : AreAfterOneList f words rosters
  pub seat : ℕ
  pub there : get_elem? rosters seat ≡ some view
  pub values : (word : Word) → IsWordOf f word → word_in state word ≡ slice_index words (index_of f.pages word)
