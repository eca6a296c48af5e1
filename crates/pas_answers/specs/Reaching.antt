-- A REPLAY: acts that are answered one after the other, from wherever a replay stands.
use Rattle.std.specs.Prelude.{ℕ, ◌≡◌, ◌⊎◌, List, [], ◌∷◌, Option, None, Some}
use Rattle.pas_profile.specs.declared.{profile.Profile.Profile, event.Outcome.Outcome, name.Block.Block}
use Rattle.pas_steps.specs.{Lists.part, declared.step.Made.Made}
use Rattle.pas_records.specs.declared.record.Record.{Record}
use Rattle.pas_cache.specs.Caches.{Cached}
use Rattle.pas_scavenger.specs.Passes.{PassSteps}
use Rattle.pas_trace.specs.Acts.{Act, Operates, Guards, Settles, Ticks, MakesPass, ReadsEpoch, StopsIdle, MarksPhase, Wakes, MarksClose, Ends, Lowers}
use Rattle.pas_trace.specs.{declared.{item.Request.Request, plan.Op.Op}, Asked.request_in}
use Rattle.pas_answers.specs.{Guarding.{Tried, IsTried, after_trying, after_giving, IsLowered, after_lowering}, Answers.{Answer, having, IsAnswered, IsStopped}}
use Rattle.pas_answers.specs.Answers.{Progress, with_records, after_answer, after_settling, after_wake, after_reading, after_tick, after_pass, after_stop}
use Rattle.pas_answers.specs.Answers.{stopped, IsIdleFor}

-- A thread's operation takes a replay from p to p'.
abbrev pub AnswersOp : Profile → Op → Progress → Progress → Type 0
AnswersOp f op p p' = (a : Answer) × IsAnswered f op.actor op.what (having p.names (part op.actor p.list) (p.caches op.actor)) a × (p' ≡ after_answer p op.actor a)

-- .. of a guarded request, by its keeper: once the keeper tried it, its name stands for the block that the keeper gave; or it is answered by its thread from there on, as
-- any request
abbrev pub AnswersTried : Profile → Op → Request → Option Block → Progress → Progress → Type 0
AnswersTried f op r (Some block) p p' = p' ≡ after_giving p r.name block
AnswersTried f op r None p p' = AnswersOp f op p p'

abbrev pub AnswersGuarded : Profile → ℕ → Op → Option Request → Progress → Progress → Type 0
AnswersGuarded f keeper op None p p' = ⊥
AnswersGuarded f keeper op (Some r) p p' = (t : Tried) × IsTried f keeper r (part keeper p.list) (p.books keeper) t × AnswersTried f op r t.block (after_trying p keeper t) p'

-- One act takes a replay from p to p'. Its steps go onto the list that those before it left, and its records to the end of the records: the events of the
-- steps, and what is said. It is about the part of its own actor in the list and about its cache, and about nothing else: so the list says of each actor
-- which pieces its part is made of, in the order of its acts, and puts the pieces of different actors in the order of the acts. A guarded request has two pieces, that of
-- its keeper, which is about the keeper's book, and where that gave no block, one of its thread.
abbrev pub Advances : Profile → Act → Progress → Progress → Type 0
Advances f (MarksPhase n) p p' = p' ≡ with_records p (Record.Phase n ∷ [])
Advances f MarksClose p p' = p' ≡ with_records p (Record.Close ∷ [])
Advances f (Wakes k) p p' = (epoch : ℕ) × (p' ≡ after_wake p k epoch)
Advances f (Operates op) p p' = AnswersOp f op p p'
Advances f (Guards keeper op) p p' = AnswersGuarded f keeper op (request_in op.what) p p'
Advances f (Settles k) p p' = p' ≡ after_settling p k
Advances f (Ticks asked) p p' = (answer : ℕ) × (p' ≡ after_tick p asked answer)
Advances f MakesPass p p' = (epoch : ℕ) × (found : List (ℕ × Outcome)) × (steps : List Made) × PassSteps f 0 epoch found steps × (p' ≡ after_pass p epoch found steps)
Advances f ReadsEpoch p p' = (epoch : ℕ) × (p' ≡ after_reading p epoch)
Advances f (StopsIdle k n) p p' =
    (IsIdleFor p k n × (steps : List Made) × (c : Cached) × IsStopped k (p.caches k) c steps × (p' ≡ after_stop p k steps c (stopped k)))
    ⊎ ((IsIdleFor p k n → ⊥) × (p' ≡ p))
Advances f (Ends k) p p' = (steps : List Made) × (c : Cached) × IsStopped k (p.caches k) c steps × (p' ≡ after_stop p k steps c [])
Advances f (Lowers keeper) p p' = (steps : List Made) × (said : List Record) × IsLowered f keeper (part keeper p.list) (p.books keeper) steps said × (p' ≡ after_lowering p keeper steps said)

-- .. and several, in order
abbrev pub Reaches : Profile → List Act → Progress → Progress → Type 0
Reaches f [] p p' = p' ≡ p
Reaches f (act ∷ acts) p p' = (next : Progress) × Advances f act p next × Reaches f acts next p'
