-- What a replay shows.
use Rattle.std.specs.Prelude.{ℕ, ◌<◌, ◌≡◌, List, [], Some, map}
use Rattle.pas_profile.specs.{Profiles.{IsDirectoryOf, IsWordOf}, declared.{profile.Profile.Profile, word.Word.Word, directory.Directory.Directory}}
use Rattle.pas_profile.specs.declared.guard.Guard.{Guard}
use Rattle.pas_machine.specs.{Machine.Run, State.deed_in}
use Rattle.pas_steps.specs.{Views.KnowsDeed, Clear.HasNothing, States.{profile_of, word_in}, Lists.{Whole, part, word_after, visible, Legal}}
use Rattle.pas_steps.specs.declared.state.State.{State}
use Rattle.pas_trace.specs.{Plans.ops_of, declared.plan.{Op.Op, Plan.Plan}}
use Rattle.pas_records.specs.{Rests.{AreStamped, AreTrueMarks}, declared.record.Record.Record}
use Rattle.pas_cache.specs.Caches.{Cached}
use Rattle.pas_guard.specs.Keepers.{Call, MakesCalls}
pub use Rattle.pas_trace.specs.Acts.{region_of, threads_of, keepers_of, actors_of, acts_of_plan}
use Rattle.pas_answers.specs.{Answers.{Caches, Books, Progress}, Reaching.Reaches, Phases.AreInPhases, Indexes.GoByIndexes, Stages.{Stage, stages_of}}
use Rattle.pas_answers.specs.{Stages.GoByStages, Refusals.AreRefusalsTrue, Rests.RestBetween, Ways.{Way, IsOneOrder, arranged}}

-- the phases of a plan, as lists of operations
abbrev pub phases_of : Plan → List (List Op)
phases_of plan = map ops_of plan.phases.phases.items

-- no guard is up
abbrev pub empty_books : Books
empty_books k = []

-- ---- what a replay shows
-- a cache that nobody used
abbrev pub empty_cache : Cached
empty_cache = record { locals = []; log = []; noted = []; idle_since = 0 }

abbrev pub empty_caches : Caches
empty_caches k = empty_cache

-- no name was asked for, no cache was used, no guard is up, no epoch was read, and no step was made
abbrev pub at_start : Progress
at_start = record { names = []; caches = empty_caches; books = empty_books; epoch = 0; list = []; records = [] }

-- the keepers are actors behind the threads. Each one's part of the list is made of whole calls of `raise` and `sweep` with its one book, and of nothing else
abbrev pub KeepersMakeCalls : Profile → ℕ → Whole → Type 0
KeepersMakeCalls f threads whole = (keeper : ℕ) → threads < keeper → (calls : List Call) × (guards : List Guard) × MakesCalls f keeper calls guards (part keeper whole)

-- the stages of a plan
abbrev pub stages_of_plan : Plan → List Stage
stages_of_plan plan = stages_of (threads_of plan) (keepers_of plan) (phases_of plan)

-- A REPLAY of a plan, for both ways: a list of steps and the records of it. The acts of the plan are answered one after the other, each by its actor's own
-- steps and cache. `reached` is how far they come, with the list of these steps and their records. The list of the replay has of each actor the same
-- part as that one, stage by stage, and in each stage the steps of each worker's actors in the same order; and its records are those, in the order of this way. The list is legal, and at its end all actors have nothing and owe nothing; its
-- keepers make nothing but calls of `raise` and `sweep`, so that the outer pages of their guards stay bare (`laws::guards_stay_bare`). Its
-- visible events are a run of the allocator's machine, whose pages have the deeds that the threads know. The stamp of each page is the greatest epoch of
-- an end there, and the marks of the pages are true. In the order of the text a request was refused only where nothing could serve it, for the true
-- reason; a request for whole pages was given the run that its heap's index named exactly where that was whole; and all actors are at rest before the first
-- act and after each, the keepers with their books.
pub record IsReplay (way : Way) (plan : Plan) (whole : Whole) (records : List Record) : Type 0 where
  pub reached : Progress
  pub answers : Reaches (region_of plan) (acts_of_plan plan) at_start reached
  pub one_order : IsOneOrder way reached.list whole
  pub phases : AreInPhases (region_of plan) (acts_of_plan plan) at_start reached answers whole
  pub stages : GoByStages (region_of plan) (stages_of_plan plan) at_start reached [] whole
  pub records_are : records ≡ arranged way (actors_of plan) reached.records
  pub legal : Legal (region_of plan) whole
  pub nothing : (k : ℕ) → HasNothing (part k whole)
  pub keepers : KeepersMakeCalls (region_of plan) (threads_of plan) whole
  pub run : Run (region_of plan) (visible whole)
  pub deeds : (k page : ℕ) (d : Directory) → IsDirectoryOf (region_of plan) d → KnowsDeed page d (part k whole) → deed_in (visible whole) page ≡ Some d
  pub stamps : AreStamped (region_of plan) whole
  pub marks : AreTrueMarks (region_of plan) whole
  pub refusals : AreRefusalsTrue way (region_of plan) (acts_of_plan plan) at_start reached answers
  pub indexes : GoByIndexes way (region_of plan) (acts_of_plan plan) at_start reached answers
  pub rests : RestBetween way (threads_of plan) (region_of plan) (acts_of_plan plan) at_start reached answers

-- the plan was replayed with these records, and the state has the words after its list
pub record Shows (way : Way) (plan : Plan) (records : List Record) (state : State) : Type 0 where
  pub whole : Whole
  pub replay : IsReplay way plan whole records
  pub profile : profile_of state ≡ region_of plan
  pub words : (word : Word) → IsWordOf (region_of plan) word → word_in state word ≡ word_after whole word
