-- How both actors of a worker sit down on one bench, and rise again.
use Rattle.std.specs.Prelude.{ℕ, ◌≡◌, ◌≢◌, List, [], ◌∷◌, Option, None, Some}
use Rattle.pas_shared.specs.{Ledgers.part_of, Passes.{seat_of, view_of, IsPassOf}, Ruled.{made_in, rows_of_only, isnt, only_this, steps_of, IsRowOf}}
use Rattle.pas_shared.specs.{Benches.{rows_on, row_on, seat_of_member, IsBenchOf, IsMemberOf, SitsInRow, MaySitOn}, declared.bench.{Bench.Bench, Member.Member}}
use Rattle.pas_shared.specs.declared.{pass.SharedPass.SharedPass, region.SharedRegion.SharedRegion, rule.{Entry.Entry, Part.Part, Row.Row}}
use Rattle.pas_threads.specs.{Left.IsSeated, declared.keeper.{Keeper.Keeper, Seated.Seated}}

-- ---- the keeper, if there is one
-- its part
abbrev pub keeper_parts : Option Keeper → List Part
keeper_parts None = []
keeper_parts (Some keeper) = part_of keeper.pass ∷ []

-- the bench without it
abbrev pub rows_without_keeper : Option Seated → List Row → List Row
rows_without_keeper None rs = rs
rows_without_keeper (Some seated) rs = rows_of_only (isnt (only_this seated.member.actor)) rs

-- it is the same, and the member of the bench is the actor of its pass
abbrev pub IsSameKeeper : Option Keeper → Option Seated → Type 0
IsSameKeeper None None = Unit {0}
IsSameKeeper None (Some seated) = ⊥
IsSameKeeper (Some keeper) None = ⊥
IsSameKeeper (Some keeper) (Some seated) = IsMemberOf keeper.pass seated.member × (seated.book ≡ keeper.book) × (seated.out ≡ keeper.out)

-- .. and it sits there with what it made
abbrev pub SitsBeside : SharedRegion → Bench → Option Keeper → Option Seated → Type 0
SitsBeside region bench None None = Unit {0}
SitsBeside region bench None (Some seated) = ⊥
SitsBeside region bench (Some keeper) None = ⊥
SitsBeside region bench (Some keeper) (Some seated) = IsSeated region bench keeper.pass seated.member × (seated.book ≡ keeper.book) × (seated.out ≡ keeper.out)

-- it sits in the row
abbrev pub KeeperMayLeave : SharedRegion → Row → Option Seated → Type 0
KeeperMayLeave region r None = Unit {0}
KeeperMayLeave region r (Some seated) = (seated.member.profile ≡ region.profile) × SitsInRow r seated.member

-- it has a pass again, with what it made in the row
pub record IsPassOfMember (region : SharedRegion) (r : Row) (member : Member) (pass : SharedPass) : Type 0 where
  pub of : IsPassOf region pass
  pub seat : seat_of pass ≡ seat_of_member member
  pub view : view_of pass ≡ made_in r member.actor

abbrev pub HasRisen : SharedRegion → Row → Option Seated → Option Keeper → Type 0
HasRisen region r None None = Unit {0}
HasRisen region r None (Some keeper) = ⊥
HasRisen region r (Some seated) None = ⊥
HasRisen region r (Some seated) (Some keeper) = IsPassOfMember region r seated.member keeper.pass × (keeper.book ≡ seated.book) × (keeper.out ≡ seated.out)

-- ---- both
-- the actors of the row: the thread, and its keeper
abbrev pub seated_actors : Option Seated → List ℕ
seated_actors None = []
seated_actors (Some seated) = seated.member.actor ∷ []

-- Both sit in one row, in which nobody made a step yet.
pub record PairSits (region : SharedRegion) (pass : SharedPass) (keeper : Option Keeper) (bench : Bench) (member : Member) (seated : Option Seated) : Type 0 where
  pub thread : IsSeated region bench pass member
  pub beside : SitsBeside region bench keeper seated
  pub fresh : (row_on bench).made ≡ []
  pub actors : (row_on bench).actors ≡ member.actor ∷ seated_actors seated

-- Both have passes again, with what they made in the row, of which the list that the bench saw is one.
pub record PairRose (region : SharedRegion) (bench : Bench) (member : Member) (seated : Option Seated) (left : Bench) (pass : SharedPass) (keeper : Option Keeper) : Type 0 where
  pub thread : IsPassOfMember region (row_on bench) member pass
  pub beside : HasRisen region (row_on bench) seated keeper
  pub of : IsBenchOf region left
  pub base : List Entry
  pub rows : rows_on left ≡ record { actors = []; made = []; base = base } ∷ []
  pub saw : IsRowOf (row_on bench) (steps_of base)

-- the keeper isn't the thread
abbrev pub IsAnother : ℕ → Option Seated → Type 0
IsAnother k None = Unit {0}
IsAnother k (Some seated) = seated.member.actor ≢ k

-- both sit there
abbrev pub KeeperSits : SharedRegion → Bench → Option Seated → Type 0
KeeperSits region bench None = Unit {0}
KeeperSits region bench (Some seated) = MaySitOn region bench seated.member

-- .. in one row, with nobody else
pub record PairMayRise (region : SharedRegion) (bench : Bench) (member : Member) (seated : Option Seated) : Type 0 where
  pub thread : MaySitOn region bench member
  pub keeper : KeeperSits region bench seated
  pub apart : IsAnother member.actor seated
  pub actors : (row_on bench).actors ≡ member.actor ∷ seated_actors seated
