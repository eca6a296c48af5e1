-- THE STAGES: a replay goes stage by stage. What a stage did stands in front of what later ones did, and in a stage the steps of the actors that one worker has in hand
-- stand in the order of its acts.
use Rattle.std.specs.Prelude.{ℕ, ◌+◌, ◌-◌, nat_le, ◌≡◌, ◌==◌, Bool, if◌then◌else◌, List, [], ◌∷◌, ◌++◌, map}
use Rattle.pas_profile.specs.declared.profile.Profile.{Profile}
use Rattle.pas_steps.specs.Lists.{Whole}
use Rattle.pas_core.specs.Orders.{steps_by}
use Rattle.pas_trace.specs.{Acts.{Act, Wakes, MarksPhase, is_active, active_threads, idle_threads, acts_of_ops, close_acts}, declared.plan.Op.Op}
use Rattle.pas_answers.specs.{Answers.Progress, Reaching.Reaches}

-- ---- whose hands an actor is in
-- Each actor is in the hands of one worker throughout a stage: this says whose.
abbrev pub Owners : Type 0
Owners = ℕ → ℕ

-- each actor in its own
abbrev pub itself : Owners
itself k = k

-- the thread of an actor, of which there are so many: a thread's own, and of a keeper the one whose guards it keeps
abbrev pub thread_in : ℕ → ℕ → ℕ
thread_in threads k = if nat_le k threads then k else k - threads

-- In a phase of these operations a thread that has one is its own worker, and the scavenger has itself and each thread that is idle; a keeper is in the hands of its
-- thread's worker.
abbrev pub owner_in : ℕ → List Op → Owners
owner_in threads ops k = if is_active ops (thread_in threads k) then thread_in threads k else 0

-- the actors in the hands of worker w
abbrev pub in_hands : Owners → ℕ → ℕ → Bool
in_hands owner w k = owner k == w

-- Two lists of what a stage did have the steps of each worker's actors in the same order. So each has of each actor the same part.
abbrev pub AreSorted : Owners → Whole → Whole → Type 0
AreSorted owner one other = (w : ℕ) → steps_by (in_hands owner w) one ≡ steps_by (in_hands owner w) other

-- ---- the stages
-- Acts that are all done before those of the next stage begin. Each worker does those of its actors one after the other, and all workers at once.
pub record Stage : Type 0 where
  pub acts : List Act
  pub owner : Owners

abbrev pub stage : List Act → Owners → Stage
stage acts owner = record { acts = acts; owner = owner }

-- each of these acts by itself, one after the other
abbrev pub one_by_one : List Act → List Stage
one_by_one acts = map (λ act. stage (act ∷ []) itself) acts

-- a phase: its threads read the epoch, and then its operations are performed
abbrev pub phase_stages : ℕ → List Op → List Stage
phase_stages threads ops = stage (map Wakes (active_threads threads ops)) itself ∷ (stage (acts_of_ops (idle_threads threads ops) ops) (owner_in threads ops) ∷ [])

-- the phases that are left, the first of which has this number, and the close, thread by thread and keeper by keeper
abbrev pub stages_from : ℕ → ℕ → ℕ → List (List Op) → List Stage
stages_from threads keepers n [] = one_by_one (close_acts threads keepers)
stages_from threads keepers n (phase ∷ phases) = stage (MarksPhase n ∷ []) itself ∷ (phase_stages threads phase ++ stages_from threads keepers (n + 1) phases)

-- a plan of so many threads and keepers; its first phase begins without a mark
abbrev pub stages_of : ℕ → ℕ → List (List Op) → List Stage
stages_of threads keepers [] = one_by_one (close_acts threads keepers)
stages_of threads keepers (phase ∷ phases) = phase_stages threads phase ++ stages_from threads keepers 2 phases

-- ---- how a replay goes by them
-- The acts of the stage take a replay from p on: they tell of these steps, and in the list of all actors those stand in this order.
pub record StageDone (f : Profile) (s : Stage) (p : Progress) : Type 0 where
  pub next : Progress
  pub reaches : Reaches f s.acts p next
  pub made : Whole
  pub told : next.list ≡ made ++ p.list
  pub since : Whole
  pub sorted : AreSorted s.owner since made

-- The stages take a replay from p to q, and the list from what stands there before them to what stands there in the end: each puts its steps in front.
abbrev pub GoByStages : Profile → List Stage → Progress → Progress → Whole → Whole → Type 0
GoByStages f [] p q before after = (q ≡ p) × (after ≡ before)
GoByStages f (s ∷ ss) p q before after = (done : StageDone f s p) × GoByStages f ss done.next q (done.since ++ before) after
