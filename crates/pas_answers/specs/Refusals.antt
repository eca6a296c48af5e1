-- Refusals in a replay whose pieces stand together in the list of all steps: each is true of the whole state.
use Rattle.std.{specs.Prelude.{ℕ, ◌⊎◌, List, [], ◌∷◌, ◌++◌, Option, None, Some, MatchOption, MatchResult}, proofs.Common.{inl, inr}}
use Rattle.pas_profile.specs.declared.{name.Block.Block, profile.Profile.Profile}
use Rattle.pas_steps.specs.{Desks.triples, Lists.{Whole, part}}
use Rattle.pas_trace.specs.declared.plan.What.{What, TheVariants.{Alloc, Guarded, Free, FreeSized, Raw, RawSized, Remake, Flush, Stop, Tick, Pass, Idle}}
use Rattle.pas_trace.specs.{declared.{plan.Op.Op, item.Request.Request}, Acts.{Act, Operates, Guards, Settles, Ticks, MakesPass, ReadsEpoch, StopsIdle}}
use Rattle.pas_trace.specs.{Acts.{MarksPhase, Wakes, MarksClose, Ends, Lowers}, Asked.request_in}
use Rattle.pas_cache.specs.Refusals.{IsTrulyRefused}
use Rattle.pas_answers.specs.Answers.{Having, having, Answer, standing_for, wanted_by, request_for, IsServed, IsKept, IsReplaced, IsRemadeBy, IsAnswered}
use Rattle.pas_answers.specs.{Answers.Progress, Guarding.after_trying, Ways.{Way, InOrder, OnThreads}, Reaching.{AnswersTried, AnswersGuarded, Advances}}
use Rattle.pas_answers.specs.Reaching.{Reaches}

-- ---- the request in an answer
-- a request that actor k made for an operation, and how it was answered
pub record Served (f : Profile) (k : ℕ) (b : Having) : Type 0 where
  pub request : Request
  pub placed : Answer
  pub served : IsServed f k request b placed

-- that of a reallocation, where the block was replaced
abbrev pub request_in_move : (f : Profile) (k : ℕ) (r : Request) (old : Block) (b : Having) (a : Answer) → IsKept r old b a ⊎ IsReplaced f k r old b a
    → Option (Served f k b)
request_in_move f k r old b a (inl kept) = None
request_in_move f k r old b a (inr moved) = Some record { request = r; placed = moved.placed; served = moved.served }

abbrev pub request_in_remade : (f : Profile) (k name size align : ℕ) (o : Option (Option Block)) (b : Having) (a : Answer)
    → IsRemadeBy f k name size align o b a → Option (Served f k b)
request_in_remade f k name size align None b a is = None
request_in_remade f k name size align (Some None) b a is = None
request_in_remade f k name size align (Some (Some old)) b a is = request_in_move f k (request_for old name size align) old b a is

-- that of an operation, where it made one
abbrev pub request_in_answer : (f : Profile) (k : ℕ) (what : What) (b : Having) (a : Answer) → IsAnswered f k what b a → Option (Served f k b)
request_in_answer f k (Alloc name heap size align) b a is = Some record { request = record { name = name; heap = heap; size = size; align = align }; placed = a; served = is }
request_in_answer f k (Guarded keeper name heap size align) b a is = Some record { request = record { name = name; heap = heap; size = size; align = align }; placed = a; served = is }
request_in_answer f k (Free name) b a is = None
request_in_answer f k (FreeSized name room) b a is = None
request_in_answer f k (Raw block) b a is = None
request_in_answer f k (RawSized room block) b a is = None
request_in_answer f k (Remake name old heap size align) b a is = request_in_remade f k name size align (standing_for b.names old) b a is
request_in_answer f k Flush b a is = None
request_in_answer f k Stop b a is = None
request_in_answer f k (Tick e) b a is = None
request_in_answer f k Pass b a is = None
request_in_answer f k (Idle n) b a is = None

-- ---- refusals
-- Where the operation made a request that was refused, it was refused truly: nothing could serve it after the list l, nor can anything once its steps were
-- made, and its reason is true then.
abbrev pub RefusesTruly : (f : Profile) (k : ℕ) (what : What) (b : Having) (a : Answer) → IsAnswered f k what b a → Whole → Type 0
RefusesTruly f k what b a is l =
    MatchOption (request_in_answer f k what b a is) (Unit {0}) (λ s. MatchResult s.served.answer (λ block. Unit {0}) (IsTrulyRefused f (wanted_by f s.request) b.cache.locals l (triples k s.placed.steps ++ l)))

-- a guarded request, where its thread answered it after its keeper
abbrev pub TriedRefusesTruly : (f : Profile) (op : Op) (r : Request) (block : Option Block) (p p' : Progress) → AnswersTried f op r block p p' → Type 0
TriedRefusesTruly f op r (Some block) p p' is = Unit {0}
TriedRefusesTruly f op r None p p' is = RefusesTruly f op.actor op.what (having p.names (part op.actor p.list) (p.caches op.actor)) is.0 is.1 p.list

abbrev pub GuardedRefusesTruly : (f : Profile) (keeper : ℕ) (op : Op) (o : Option Request) (p p' : Progress) → AnswersGuarded f keeper op o p p' → Type 0
GuardedRefusesTruly f keeper op None p p' is = Unit {0}
GuardedRefusesTruly f keeper op (Some r) p p' is = TriedRefusesTruly f op r is.0.block (after_trying p keeper is.0) p' is.2

-- an act that was answered so, where it is a request
abbrev pub ActRefusesTruly : (f : Profile) (act : Act) (p p' : Progress) → Advances f act p p' → Type 0
ActRefusesTruly f (Operates op) p p' is = RefusesTruly f op.actor op.what (having p.names (part op.actor p.list) (p.caches op.actor)) is.0 is.1 p.list
ActRefusesTruly f (Guards keeper op) p p' is = GuardedRefusesTruly f keeper op (request_in op.what) p p' is
ActRefusesTruly f (Settles k) p p' is = Unit {0}
ActRefusesTruly f (Ticks asked) p p' is = Unit {0}
ActRefusesTruly f MakesPass p p' is = Unit {0}
ActRefusesTruly f ReadsEpoch p p' is = Unit {0}
ActRefusesTruly f (StopsIdle k n) p p' is = Unit {0}
ActRefusesTruly f (MarksPhase n) p p' is = Unit {0}
ActRefusesTruly f (Wakes k) p p' is = Unit {0}
ActRefusesTruly f MarksClose p p' is = Unit {0}
ActRefusesTruly f (Ends k) p p' is = Unit {0}
ActRefusesTruly f (Lowers keeper) p p' is = Unit {0}

-- .. and each of several
abbrev pub AllRefuseTruly : (f : Profile) (acts : List Act) (p p' : Progress) → Reaches f acts p p' → Type 0
AllRefuseTruly f [] p p' is = Unit {0}
AllRefuseTruly f (act ∷ acts) p p' is = ActRefusesTruly f act p is.0 is.1 × AllRefuseTruly f acts is.0 p' is.2

-- In the order of the text they do. On threads others act between the steps of a request, so that no state is that of its moment.
abbrev pub AreRefusalsTrue : (way : Way) (f : Profile) (acts : List Act) (p p' : Progress) → Reaches f acts p p' → Type 0
AreRefusalsTrue InOrder f acts p p' is = AllRefuseTruly f acts p p' is
AreRefusalsTrue OnThreads f acts p p' is = Unit {0}
