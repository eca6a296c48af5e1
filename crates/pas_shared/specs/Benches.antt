-- What benches show, their members, and what a region comes to that is closed with one.
use Rattle.std.specs.Prelude.{◌≡◌, ℕ, true, List, [], ◌∷◌, ◌++◌}
use Rattle.pas_profile.specs.{Profiles.IsWordOf, declared.{profile.Profile.Profile, word.Word.Word}}
use Rattle.pas_steps.specs.{Views.View, Desks.{Seat, Standing}, States.{profile_of as the_profile_of, word_in}, Noted.{AreNotesOf, room_of_notes}, Lists.Whole}
use Rattle.pas_steps.specs.{Lists.{Legal, part, word_after}, declared.state.State.State}
use Rattle.pas_core.specs.Orders.{steps_by}
use Rattle.pas_shared.specs.{Ruled.{among, made_in, rows_in, all_actors, steps_of, AreRowsOf}, declared.rule.{Entry.Entry, Row.Row}}
use Rattle.pas_shared.specs.declared.{region.SharedRegion.SharedRegion, pass.SharedPass.SharedPass, bench.{Bench.Bench, Member.Member}}
use Rattle.pas_shared.specs.declared.bench_desk.BenchHome.{BenchHome}

-- ---- rows
-- nobody sits in it, and no step was made before
abbrev pub empty_row : Row
empty_row = record { actors = []; made = []; base = [] }

abbrev pub rows_on : Bench → List Row
rows_on bench = rows_in bench.seat.me.0

abbrev pub first_row : List Row → Row
first_row [] = empty_row
first_row (r ∷ rs) = r

-- the row of a bench that has one
abbrev pub row_on : Bench → Row
row_on bench = first_row (rows_on bench)

-- it is of the region
abbrev pub IsBenchOf : SharedRegion → Bench → Type 0
IsBenchOf region bench = bench.seat.table_id ≡ region.table.shared.table_id

-- one row, in which nobody made a step since its base
pub record IsFreshRow (rs : List Row) : Type 0 where
  pub actors : List ℕ
  pub base : List Entry
  pub is : rs ≡ record { actors = actors; made = []; base = base } ∷ []

-- After a look there is one row of all actors of those before, whose base is the list of all steps so far; and each row before is one of that list.
pub record HasLooked (old new : List Row) : Type 0 where
  pub base : List Entry
  pub is : new ≡ record { actors = all_actors old; made = []; base = base } ∷ []
  pub rows : AreRowsOf old (steps_of base)

-- ---- members
abbrev pub seat_of_member : Member → Seat
seat_of_member member = record { actor = member.actor; profile = member.profile; room = room_of_notes member.notes }

-- the member is the actor of the pass, with its notes
pub record IsMemberOf (pass : SharedPass) (member : Member) : Type 0 where
  pub actor : member.actor ≡ pass.place.actor
  pub profile : member.profile ≡ pass.profile
  pub notes : member.notes ≡ pass.notes

-- the steps of the member, in the row of the bench
abbrev pub made_by : Bench → Member → View
made_by bench member = made_in (row_on bench) member.actor

-- the member sits in this row, and noted its steps
pub record SitsInRow (r : Row) (member : Member) : Type 0 where
  pub among_them : among r.actors member.actor ≡ true
  pub noted : AreNotesOf member.actor (made_in r member.actor) member.notes

abbrev pub SitsOn : Bench → Member → Type 0
SitsOn bench member = SitsInRow (row_on bench) member

-- it may sit down at the region
pub record MaySitOn (region : SharedRegion) (bench : Bench) (member : Member) : Type 0 where
  pub of : IsBenchOf region bench
  pub profile : member.profile ≡ region.profile
  pub one : rows_on bench ≡ row_on bench ∷ []
  pub sits : SitsOn bench member

-- ---- desks
-- the region, and the row without what was made since its base
abbrev pub home_of : SharedRegion → Row → BenchHome
home_of region r = record { region = region; row = record { actors = r.actors; made = []; base = r.base } }

-- The steps of the row's actors in the list are those that it names, behind theirs in one that tells of each of them what the row's base tells.
pub record StandsOver (r : Row) (l : Whole) : Type 0 where
  pub before : Whole
  pub order : steps_by (among r.actors) l ≡ steps_of r.made ++ steps_by (among r.actors) before
  pub parts : (k : ℕ) → among r.actors k ≡ true → part k before ≡ part k (steps_of r.base)

-- A desk at a bench stands for the one view of its member, beside each list in which the row's actors have their steps in the row's order.
abbrev pub standing_on : Bench → Member → Standing
standing_on bench member = record { seat = seat_of_member member; stands = λ v l. (made_by bench member ≡ v) × StandsOver (row_on bench) l }

-- ---- the close
-- the state has the words after one legal list, of which these are rows
pub record EndsOnBench (f : Profile) (rows : List Row) (state : State) : Type 0 where
  pub profile : the_profile_of state ≡ f
  pub whole : Whole
  pub legal : Legal f whole
  pub rows_are : AreRowsOf rows whole
  pub words : (word : Word) → IsWordOf f word → word_in state word ≡ word_after whole word
