-- A keeper: an actor that makes no steps but those of calls of `raise` and `sweep` with its one book. When each of its guards is up, and what holds of the
-- guard's two outer pages then.
use Rattle.std.specs.Prelude.{ℕ, ◌+◌, ◌*◌, ◌≡◌, ◌⊎◌, Bool, false, List, [], ◌∷◌, ◌++◌, Contains, Option}
use Rattle.pas_profile.specs.{Blocks.address_of, declared.{name.Block.Block, profile.Profile.Profile, guard.Guard.Guard}}
use Rattle.pas_records.specs.declared.record.Record.{Record}
use Rattle.pas_scan.specs.Runs.{large_directory}
use Rattle.pas_steps.specs.{Agreement.Agreed, Lists.{Triple, Whole, part}, Past.{Once, Always}, declared.step.{Made.Made, Step.TheVariants.{Give, Put}}}
use Rattle.pas_guard.specs.{Books.is_outer_of, Guarded.{StandsGuard, IsUntouched}, Raises.RaiseSteps, Sweeps.SweepSteps}

-- ---- the calls of a keeper
-- one call: what was asked, and what came of it
pub data Call : Type 0 where
  Raise : (heap pages : ℕ) (answer : Option Block) → Call
  Sweep : (all : Bool) (said : List Record) → Call

-- The call made these steps, and its book of guards became another: just what `raise` and `sweep` promise of their own steps.
abbrev pub MakesCall : Profile → ℕ → Call → List Guard → List Guard → List Made → Type 0
MakesCall f keeper (Raise heap pages answer) guards guards' steps = RaiseSteps f heap pages guards guards' answer steps
MakesCall f keeper (Sweep all said) guards guards' steps = SweepSteps f keeper all guards guards' said steps

-- These calls, the newest first, made these steps and no others, with one book, which was empty before them and has these guards now.
abbrev pub MakesCalls : Profile → ℕ → List Call → List Guard → List Made → Type 0
MakesCalls f keeper [] guards steps = (guards ≡ []) × (steps ≡ [])
MakesCalls f keeper (call ∷ calls) guards steps = (earlier : List Guard) × (before : List Made) × (last : List Made)
    × MakesCalls f keeper calls earlier before × MakesCall f keeper call earlier guards last × (steps ≡ last ++ before)

-- ---- when a guard is up
-- the give of the guard's block
abbrev pub GivesBlockOf : Guard → Made → List Made → Type 0
GivesBlockOf guard m before = m.step ≡ Give guard.block

-- the step puts no grain of an outer page of the guard
abbrev pub PutsNoneOf : Guard → Made → List Made → Type 0
PutsNoneOf guard m before = (page word mask : ℕ) → m.step ≡ Put page word mask → is_outer_of guard page ≡ false

-- The guard is up in the call, which took the book from the first guards to the second, after these first steps of it. In a raise: it was in the book
-- before, or it is the one that goes up, and its block is given by now. In a sweep: it was in the book before, and it stays there, or it is to be lowered,
-- and no grain of its outer pages is put yet.
abbrev pub IsUpIn : Call → List Guard → List Guard → Guard → List Made → Type 0
IsUpIn (Raise heap pages answer) guards guards' guard first = Contains guards guard ⊎ (Contains guards' guard × Once (GivesBlockOf guard) first)
IsUpIn (Sweep all said) guards guards' guard first = Contains guards guard × (Contains guards' guard ⊎ Always (PutsNoneOf guard) first)

-- The guard is up after the keeper's steps `made`, which goes on by the steps `later`: what it made are whole calls and then the first steps of one call
-- more, in which the guard is up by then, and it goes on by the rest of that call. What it does after that call is left open.
pub record IsUp (f : Profile) (keeper : ℕ) (guard : Guard) (later made : List Made) : Type 0 where
  pub calls : List Call
  pub guards : List Guard
  pub before : List Made
  pub called : MakesCalls f keeper calls guards before
  pub call : Call
  pub guards_after : List Guard
  pub first : List Made
  pub rest : List Made
  pub more : List Made
  pub calls_now : MakesCall f keeper call guards guards_after (rest ++ first)
  pub made_is : made ≡ first ++ before
  pub later_is : later ≡ more ++ rest
  pub up : IsUpIn call guards guards_after guard first

-- In the list of all actors' steps that is `older`, then `newer` and then `later`: the guard is up after the older ones, and after each of the newer ones.
abbrev pub IsUpThrough : Profile → ℕ → Guard → Whole → Whole → Whole → Type 0
IsUpThrough f keeper guard later [] older = IsUp f keeper guard (part keeper later) (part keeper older)
IsUpThrough f keeper guard later (t ∷ newer) older = IsUp f keeper guard (part keeper later) (part keeper (t ∷ (newer ++ older)))
    × IsUpThrough f keeper guard (later ++ (t ∷ [])) newer older

-- ---- from the calls alone
-- What a keeper made: whole calls, and then the first steps of one call more. That one is done, or it is under way: then it goes on by some steps, the rest,
-- whose answers agree with what the keeper saw by then, as those of all steps of a legal list do.
pub record IsKeeper (f : Profile) (keeper : ℕ) (made : List Made) : Type 0 where
  pub calls : List Call
  pub guards : List Guard
  pub before : List Made
  pub called : MakesCalls f keeper calls guards before
  pub call : Call
  pub guards_after : List Guard
  pub first : List Made
  pub rest : List Made
  pub calls_now : MakesCall f keeper call guards guards_after (rest ++ first)
  pub made_is : made ≡ first ++ before
  pub agreed : Agreed f [] (rest ++ made)

-- the pages of the guard stand beside its block: the low one ends where the block begins, and the high one begins where it ends
pub record IsBeside (guard : Guard) : Type 0 where
  pub begins : (guard.low + 1) * 4096 ≡ address_of guard.block.name
  pub ends : guard.high * 4096 ≡ address_of guard.block.name + guard.block.room

-- the step is the keeper's, and gives a block; the guard is this block and the two pages beside it
pub record GivesGuarded (keeper : ℕ) (guard : Guard) (t : Triple) : Type 0 where
  pub own : t.actor ≡ keeper
  pub gives : t.made.step ≡ Give guard.block
  pub beside : IsBeside guard

-- ---- what holds then
-- After the list the keeper holds both outer pages whole, they have deeds of the block's heap and aren't backed, and they stand beside the block: the one
-- ends where it begins, and the other begins where it ends.
pub record StandsBetween (l : Whole) (keeper : ℕ) (guard : Guard) : Type 0 where
  pub low : StandsGuard l keeper guard.low (large_directory guard.block.heap)
  pub high : StandsGuard l keeper guard.high (large_directory guard.block.heap)
  pub begins : (guard.low + 1) * 4096 ≡ address_of guard.block.name
  pub ends : guard.high * 4096 ≡ address_of guard.block.name + guard.block.room

-- So it is at each place, from the end of the older steps to that of the newer ones; and no step between, whoever made it, backs an outer page or gives a
-- block with a grain of one.
abbrev pub StandsThrough : ℕ → Guard → Whole → Whole → Type 0
StandsThrough keeper guard [] older = StandsBetween older keeper guard
StandsThrough keeper guard (t ∷ newer) older = StandsBetween (t ∷ (newer ++ older)) keeper guard
    × IsUntouched guard.low t.made.step × IsUntouched guard.high t.made.step × StandsThrough keeper guard newer older
