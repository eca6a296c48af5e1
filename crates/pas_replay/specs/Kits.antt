-- A kit that nobody used, made for a plan.
use Rattle.std.specs.Prelude.{ℕ, ◌+◌, ◌<◌, ◌≤◌, ◌≡◌, List, [], length, Option, Some, None, slice_index}
use Rattle.pas_trace.specs.{Courses.IsCourseOf, Plans.{IsPlanOf, bounds_of}, declared.{course.Course.Course, plan.{Op.Op, Plan.Plan}}}
use Rattle.pas_records.specs.Rooms.{Records, room_of}
use Rattle.pas_replay.specs.{Taking.room_for_taker, Sessions.{pass_in, Replay}, declared.kit.PlainKit.PlainKit}
use Rattle.pas_plain.specs.{Plain.{profile_of, actor_of, room_of_pass, RegionStands, PassStands}, declared.pass.PlainPass.PlainPass}
use Rattle.pas_large.specs.Doors.{no_ranges}
use Rattle.pas_answers.specs.{Fit.AllBelow, Names.{block_named, names_held}, Replays.{phases_of, region_of, threads_of, keepers_of, actors_of, acts_of_plan}}
use Rattle.pas_utility.specs.Outcomes.{places_of}
use Rattle.pas_acts.specs.{Parts.AreUnused, PlanKeepers.AreBooks}

-- an actor that did nothing yet: its pass has room for its bound
pub record IsFresh (plan : Plan) (k : ℕ) (slot : Option PlainPass) : Type 0 where
  pub pass : PlainPass
  pub present : slot ≡ Some pass
  pub actor : actor_of pass ≡ k
  pub stands : PassStands (region_of plan) pass []
  pub room : room_of_pass pass ≡ slice_index (bounds_of plan.bounds) k

-- a pass for each actor of the region, a cache for each thread, a book for each keeper with a place for each request that it tries, and an index for each heap, which holds nothing
pub record IsKitOf (plan : Plan) (kit : PlainKit) : Type 0 where
  pub profile : profile_of kit.region ≡ region_of plan
  pub opening : RegionStands kit.region []
  pub actors : length kit.actors.passes.items ≡ actors_of plan + 1
  pub fresh : (k : ℕ) → k < actors_of plan + 1 → IsFresh plan k (pass_in kit.actors.passes.items k)
  pub unused : AreUnused (threads_of plan) kit.actors.caches.items
  pub books : AreBooks plan kit.actors.books.items
  pub places : places_of kit.actors.outcomes ≡ (region_of plan).pages
  pub indexes : kit.actors.indexes.items ≡ no_ranges (region_of plan).heaps
  pub no_name : (name : ℕ) → block_named kit.names name ≡ None
  pub names : AllBelow (names_held kit.names) (phases_of plan)
  pub none_left : kit.passes.items ≡ []

-- the replay of the plan, with room for so many records, before any was handed on
abbrev pub replay_of : Plan → ℕ → Replay
replay_of plan room = record { profile = region_of plan; threads = threads_of plan; keepers = keepers_of plan; acts = acts_of_plan plan; room = room; told = [] }

-- the course is that of a plan of the text, the kit that of the plan, and there is room for what waits beside such a taker
pub record MayReplay {P : Type 0} (said : P → List Op) (waits : Option ℕ) (course : Course P) (kit : PlainKit) (text : List ℕ) (plan : Plan) (out : Records) : Type 0 where
  pub short : length text ≤ 16777216
  pub read : IsPlanOf text plan
  pub same : IsCourseOf said plan course
  pub fits : IsKitOf plan kit
  pub room : room_for_taker waits plan ≤ room_of out
