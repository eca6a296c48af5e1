-- The actors of a worker on its bench in a phase, and what it leaves behind: a bench that saw in which order they made their steps.
use Rattle.std.specs.Prelude.{ℕ, ◌+◌, ◌≡◌, Bool, true, List, [], ◌∷◌, ◌++◌, Option, None, Some}
use Rattle.pas_steps.specs.{Desks.Standing, Lists.{Whole, part}}
use Rattle.pas_core.specs.Orders.{steps_by}
use Rattle.pas_shared.specs.{Passes.view_of, Ruled.{among, steps_of}, Benches.{rows_on, row_on, made_by, seat_of_member, IsBenchOf, IsMemberOf, MaySitOn}}
use Rattle.pas_shared.specs.{Benches.StandsOver, declared.{bench.{Bench.Bench, Member.Member}, pass.SharedPass.SharedPass, region.SharedRegion.SharedRegion}}
use Rattle.pas_shared.specs.declared.rule.Entry.{Entry}
use Rattle.pas_threads.specs.declared.keeper.Keeper.{Keeper}

-- ---- the actors of a worker
-- the keeper's, if there is one
abbrev pub keeper_actors : ℕ → Option Keeper → List ℕ
keeper_actors actor None = []
keeper_actors actor (Some keeper) = actor ∷ []

-- thread k, and its keeper behind so many threads, if it has one
abbrev pub pair_in : ℕ → ℕ → Option Keeper → ℕ → Bool
pair_in threads k keeper = among (k ∷ keeper_actors (threads + k) keeper)

-- the scavenger, and the threads that are lent to it
abbrev pub crew_in : List ℕ → ℕ → Bool
crew_in idle = among (0 ∷ idle)

-- ---- on the bench
-- the actor of the pass sits there, with what it made
pub record IsSeated (region : SharedRegion) (bench : Bench) (pass : SharedPass) (member : Member) : Type 0 where
  pub may : MaySitOn region bench member
  pub is : IsMemberOf pass member
  pub view : made_by bench member ≡ view_of pass

-- A member of the bench, whose desk another one has: it may sit down there, and stands for what it made, beside each list in which the row's actors have their steps in the
-- row's order.
abbrev pub standing_beside : SharedRegion → Bench → Member → Standing
standing_beside region bench member = record { seat = seat_of_member member; stands = λ v l. MaySitOn region bench member × (made_by bench member ≡ v) × StandsOver (row_on bench) l }

-- ---- in which order
-- What these actors did, as it is told of and in the list `seen` of all steps up to some moment: they stand there in the same order, behind a list that has of each of them
-- the same part as what was told before.
pub record KeepsOrder (chosen : ℕ → Bool) (told told' seen : Whole) : Type 0 where
  pub made : Whole
  pub told_is : told' ≡ made ++ told
  pub since : Whole
  pub before : Whole
  pub seen_is : seen ≡ since ++ before
  pub parts : (k : ℕ) → chosen k ≡ true → part k before ≡ part k told
  pub order : steps_by chosen since ≡ steps_by chosen made

-- A bench is left on which nobody sits any more. What it saw keeps the order of these actors' steps.
pub record HasLeft (region : SharedRegion) (slot : Option Bench) (chosen : ℕ → Bool) (told told' : Whole) : Type 0 where
  pub bench : Bench
  pub present : slot ≡ Some bench
  pub of : IsBenchOf region bench
  pub base : List Entry
  pub rows : rows_on bench ≡ record { actors = []; made = []; base = base } ∷ []
  pub order : KeepsOrder chosen told told' (steps_of base)
