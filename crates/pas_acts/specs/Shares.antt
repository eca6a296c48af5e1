-- What each worker does in a phase, apart from the others, and how the shares of all workers make up the whole phase.
use Rattle.std.specs.Prelude.{ℕ, ◌+◌, MatchOption, ◌≤◌, ◌≡◌, ◌==◌, true, false, if◌then◌else◌, List, [], ◌∷◌, ◌++◌, Option, Some, IsSomeAnd}
use Rattle.std.specs.List.{AllByRecursion}
use Rattle.pas_profile.specs.declared.{profile.Profile.Profile, name.Block.Block}
use Rattle.pas_steps.specs.Lists.{part}
use Rattle.pas_trace.specs.{Asked.{request_in, keeper_in}, EveryPlan.AreSound, declared.plan.{What.What, Op.Op}, Acts.{Act, Guards, StopsIdle, MarksPhase}}
use Rattle.pas_trace.specs.Acts.{MarksClose, operation_in, stepper_of, is_active, idle_threads, acts_of_ops, own_acts, scavenger_acts}
use Rattle.pas_records.specs.declared.record.Record.{Record}
pub use Rattle.pas_trace.specs.Acts.{asked_after_act, asked_after_acts}
pub use Rattle.pas_answers.specs.Stages.{Owners, thread_in, owner_in, in_hands}
use Rattle.pas_core.specs.Orders.{steps_by}
use Rattle.pas_answers.specs.{Answers.{Named, standing_for, Progress}, Calls.{AreKnown, OnlyAsked}, Reaching.Reaches, Fit.AreFit, Ways.{OnThreads, AreSpoken}}
use Rattle.pas_answers.specs.Ways.{records_by, by_actors, arranged}

-- ---- workers
-- the actor whose worker makes the act: the scavenger's stops idle threads, each other act is its stepper's. A mark is of nobody, and stands between
-- two phases.
abbrev pub actor_of_act : Act → ℕ
actor_of_act (StopsIdle k n) = 0
actor_of_act act = stepper_of act

-- the worker that makes the act has all that it changes in its hands
abbrev pub IsInHand : Owners → Act → Type 0
IsInHand owner (Guards keeper op) = owner keeper ≡ owner op.actor
IsInHand owner (StopsIdle k n) = owner k ≡ owner 0
IsInHand owner (MarksPhase n) = ⊥
IsInHand owner MarksClose = ⊥
IsInHand owner act = Unit {0}

abbrev pub AreInHand : Owners → List Act → Type 0
AreInHand owner acts = AllByRecursion (IsInHand owner) acts

-- the acts of worker w among these, in order
abbrev pub acts_by : Owners → ℕ → List Act → List Act
acts_by owner w [] = []
acts_by owner w (act ∷ acts) = if owner (actor_of_act act) == w then act ∷ acts_by owner w acts else acts_by owner w acts

-- ---- names
-- what the first says of a name the second says too
abbrev pub AreAmong : List Named → List Named → Type 0
AreAmong few many = (n : ℕ) (block : Option Block) → standing_for few n ≡ Some block → standing_for many n ≡ Some block

-- the operation asks for this name
abbrev pub IsRequestOf : ℕ → What → Type 0
IsRequestOf n what = IsSomeAnd (request_in what) (λ request. request.name ≡ n)

abbrev pub Asks : ℕ → Act → Type 0
Asks n act = IsSomeAnd (operation_in act) (λ op. IsRequestOf n op.what)

-- none of these acts asks for the name
abbrev pub NoneAsks : ℕ → List Act → Type 0
NoneAsks n [] = Unit {0}
NoneAsks n (act ∷ acts) = (Asks n act → ⊥) × NoneAsks n acts

-- ---- shares
-- A worker's own progress is its share of how far the replay has come: of each actor in its hands it has the same part, cache, guards and records, and of all of them
-- together the same steps in the same order; and what it knows of names is so. The epoch that was read for an idle operation is in the scavenger's hands.
pub record IsShareOf (owner : Owners) (w : ℕ) (own p : Progress) : Type 0 where
  pub steps : steps_by (in_hands owner w) own.list ≡ steps_by (in_hands owner w) p.list
  pub parts : (k : ℕ) → owner k ≡ w → part k own.list ≡ part k p.list
  pub caches : (k : ℕ) → owner k ≡ w → own.caches k ≡ p.caches k
  pub books : (k : ℕ) → owner k ≡ w → own.books k ≡ p.books k
  pub records : (k : ℕ) → owner k ≡ w → records_by k own.records ≡ records_by k p.records
  pub epoch : owner 0 ≡ w → own.epoch ≡ p.epoch
  pub names : AreAmong own.names p.names

-- All acts were answered, from p on, and each worker has its share of what came of it. No mark was written, and a name that none of the acts asked for
-- stands for what it did.
pub record IsWoven (f : Profile) (owner : Owners) (acts : List Act) (asked : List ℕ) (p : Progress) (own : ℕ → Progress) : Type 0 where
  pub reached : Progress
  pub reaches : Reaches f acts p reached
  pub shares : (w : ℕ) → IsShareOf owner w (own w) reached
  pub said : List Record
  pub records_are : reached.records ≡ p.records ++ said
  pub spoken : AreSpoken said
  pub only_asked : OnlyAsked (asked_after_acts acts asked) reached.names
  pub same_names : (n : ℕ) → NoneAsks n acts → standing_for reached.names n ≡ standing_for p.names n

-- ---- the law
-- Each worker answered its own acts, in order, from its share on: by its own actors' parts, caches and records, and by what it knew of names. Then all
-- acts are answered, in their order, and each worker's end is its share of that.
abbrev pub AreWoven : Type 0
AreWoven = (f : Profile) (owner : Owners) (limit : ℕ) (asked : List ℕ) (acts : List Act) (p : Progress) (before after : ℕ → Progress)
    → AreFit f limit asked acts → AreInHand owner acts → OnlyAsked asked p.names → ((w : ℕ) → IsShareOf owner w (before w) p)
    → ((w : ℕ) → Reaches f (acts_by owner w acts) (before w) (after w)) → IsWoven f owner acts asked p after

-- Acts that were answered so, and others from there on, are answered together.
abbrev pub AreJoined : Type 0
AreJoined = (f : Profile) (acts more : List Act) (p p' p'' : Progress) → Reaches f acts p p' → Reaches f more p' p'' → Reaches f (acts ++ more) p p''

-- After acts that were answered so, the names that were asked for stand for something, those that the acts asked for too.
abbrev pub AreKnownAfter : Type 0
AreKnownAfter = (f : Profile) (acts : List Act) (asked : List ℕ) (p p' : Progress) → Reaches f acts p p' → AreKnown asked p.names → AreKnown (asked_after_acts acts asked) p'.names

-- ---- the acts of a phase
-- the keeper of a guarded request of these operations has its thread's place behind so many threads
abbrev pub AreKeptBehind : ℕ → List Op → Type 0
AreKeptBehind threads = AllByRecursion (λ op. MatchOption (keeper_in op.what) (Unit {0}) (λ keeper. keeper ≡ threads + op.actor))

-- In a phase of a plan of so many threads all acts are in the hands of their workers. A thread with an operation in it makes the acts of its own
-- operations, and no other, and the scavenger those of its own.
abbrev pub ActsAreShared : Type 0
ActsAreShared = (f : Profile) (threads : ℕ) (asked : List ℕ) (ops : List Op) → AreSound f asked ops → AreKeptBehind threads ops → ((k : ℕ) → is_active ops k ≡ true → k ≤ threads)
    → AreInHand (owner_in threads ops) (acts_of_ops (idle_threads threads ops) ops)
    × ((k : ℕ) → 1 ≤ k → k ≤ threads → is_active ops k ≡ true → acts_by (owner_in threads ops) k (acts_of_ops (idle_threads threads ops) ops) ≡ own_acts k ops)
    × ((k : ℕ) → 1 ≤ k → k ≤ threads → is_active ops k ≡ false → acts_by (owner_in threads ops) k (acts_of_ops (idle_threads threads ops) ops) ≡ [])
    × (acts_by (owner_in threads ops) 0 (acts_of_ops (idle_threads threads ops) ops) ≡ scavenger_acts (idle_threads threads ops) ops)

-- ---- the records
-- Records without a mark, those of a phase, are written actor by actor, from the scavenger to the last thread; then comes the mark, and what follows.
abbrev pub ArePhasesArranged : Type 0
ArePhasesArranged = (threads : ℕ) (said : List Record) → AreSpoken said
    → ((n : ℕ) (more : List Record) → arranged OnThreads threads (said ++ Record.Phase n ∷ more) ≡ by_actors 0 (threads + 1) said ++ Record.Phase n ∷ arranged OnThreads threads more)
    × ((more : List Record) → arranged OnThreads threads (said ++ Record.Close ∷ more) ≡ by_actors 0 (threads + 1) said ++ Record.Close ∷ arranged OnThreads threads more)
    × (arranged OnThreads threads said ≡ by_actors 0 (threads + 1) said)
