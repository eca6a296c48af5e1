-- What a single act changes and shows, whatever region it is done at.
use Rattle.std.proofs.Common.{[], ◌≡◌, ◌≢◌, ℕ, ◌+◌, ◌≤◌, ◌++◌, Bool, if◌then◌else◌, List, length, refl, ap, ◌∙◌, arith, true, false, ◌∷◌, reverse}
use Rattle.std.proofs.Common.{length-append, eq-eqb, ne_eqb, sym, map, append-nil, Some, append_assoc, max, Option, None, option_and_then, ◌==◌, ◌||◌}
use Rattle.std.proofs.lemmas.{List.reverse-append, Grind.flat_map-append}
use Rattle.pas_answers.proofs.Common.{length-reverse, length-map, Profile, Event, Outcome, Word, Block, IsValid, Cached, Named, epoch_look, records_of}
use Rattle.pas_answers.proofs.Common.{standing_for, block_of, Having, Answer, named, IsAnswered, IsKnown, MayStand, what_of, block_behind, IsMeant, named_by}
use Rattle.pas_answers.proofs.Common.{IsFitWhat, request_made, record_of, Act, asked_after, What, Free, FreeSized, Remake, Alloc, Guarded, Task, Work, work_of}
use Rattle.pas_answers.{proofs.Common.{Request, Record, Said, Calls, HasNothing, LookEpoch, Standing, made, Look, Tick, call_none}, specs.Answers.Caches}
use Rattle.pas_answers.specs.{Answers.with_cache, Calls.{AreKnown, named_with, freed_by}, Fit.sum_over, Indexes.request_by, PassRecords.{event_in, events_in}}
use Rattle.pas_answers.specs.{TicksAndPasses.{ticking, AnswersTick, AnswersPass}, Names.MayPack}
use Rattle.pas_trace.specs.{Asked.{request_of, of_task, freed_of}, EveryPlan.{asked_with, is_asked}}
use Rattle.pas_steps.{specs.Desks.Makes, proofs.{Called.call_step, Calls.does_idly, Nothing.nothing_still}}
use Rattle.pas_scavenger.{specs.{Pages.unback_of, Passes.{unbacks_in, Passes}}, proofs.Examinations.one_unback}

-- ---- caches of which that of thread k became another
pub its_cache : (caches : Caches) (k : ℕ) (c : Cached) → with_cache caches k c k ≡ c
its_cache caches k c = ap (λ (b : Bool). if b then c else caches k) (eq-eqb k k refl)

-- A cache that changed leaves that of every other actor as it was.
pub other_cache : (caches : Caches) (k j : ℕ) (c : Cached) → j ≢ k → with_cache caches k c j ≡ caches j
other_cache caches k j c ne = ap (λ (b : Bool). if b then c else caches j) (ne_eqb j k ne)

-- A choice whose test holds is what it chooses then.
pub if_same : (t : Bool) (c : ℕ) → t ≡ true → (if t then c else 0) ≡ c
if_same t c is = search arith

-- A name that a fitting operation frees or reallocates is one that stands for something.
pub known_if : (f : Profile) (limit : ℕ) (asked : List ℕ) (names : List Named) (what : What) → IsFitWhat f limit asked what → AreKnown asked names
    → IsKnown names what
known_if f limit asked names s fit known = search arith

-- There are as many records of events as events.
pub records_count : (es : List Event) → length (records_of es) ≡ length es
records_count es = length-map (reverse es) Record.Event ∙ length-reverse es

-- A pass unbacks no more pages than it has outcomes.
pub few_unbacks : (k epoch : ℕ) (pairs : List (ℕ × Outcome)) → length (unbacks_in k epoch pairs) ≤ length pairs
few_unbacks k epoch [] = omega arith
few_unbacks k epoch (x ∷ pairs) = let rest = few_unbacks k epoch pairs in search (arith, rest, one_unback, length-append)

-- One look at the epoch leaves an actor that has nothing with nothing.
pub reads : {σ σ' : Standing} (epoch : ℕ) → Makes σ σ' (Look Word.Epoch) epoch → Calls σ σ' HasNothing (λ v w. HasNothing w) (epoch_look epoch)
reads {σ} {σ'} epoch makes = call_step (λ v w. HasNothing w) (call_none {R = λ v w. HasNothing w} (λ v met. met)) makes (λ v met is. tt)
    (λ v met is agrees. nothing_still (does_idly σ.seat.profile (LookEpoch ∷ []) refl (epoch_look epoch) v (refl, tt) (agrees, tt)) met)

-- ---- what acts cost, one after the other
pub sum_both : (cost : Act → ℕ) (xs ys : List Act) → sum_over cost (xs ++ ys) ≡ sum_over cost xs + sum_over cost ys
sum_both cost [] ys = omega arith
sum_both cost (x ∷ xs) ys = let rest = sum_both cost xs ys in omega (arith, rest)

-- ==== The events among the records of a pass are those of its steps.

-- by cases
one_event : (k epoch page : ℕ) (o : Outcome) → event_in (record_of k epoch page o) ≡ reverse (unback_of k epoch page o)
one_event k epoch page o = search arith

-- of the outcomes, which the events have the newest first
outcomes_shown : (k epoch : ℕ) (found : List (ℕ × Outcome))
    → events_in (map (λ p. record_of k epoch p.0 p.1) found) ≡ reverse (unbacks_in k epoch (reverse found))
outcomes_shown k epoch [] = refl
outcomes_shown k epoch (x ∷ found) =
    let one = x ∷ [] in
    ap (λ es. es ++ events_in (map (λ p. record_of k epoch p.0 p.1) found)) (one_event k epoch x.0 x.1) ∙ ap (λ es. reverse (unback_of k epoch x.0 x.1) ++ es) (outcomes_shown k epoch found)
    ∙ sym (ap (λ ps. reverse (unbacks_in k epoch ps)) (reverse-append one found) ∙ ap reverse (flat_map-append (λ (p : ℕ × Outcome). unback_of k epoch p.0 p.1) (reverse found) one)
    ∙ reverse-append (unbacks_in k epoch (reverse found)) (unbacks_in k epoch one) ∙ ap (λ es. reverse es ++ reverse (unbacks_in k epoch (reverse found))) (append-nil (unback_of k epoch x.0 x.1)))

-- ==== A tick and a pass with their records.

-- ---- a tick
-- whose record was said is answered
pub tick_answered : {σ σ' : Standing} (asked answer : ℕ) → Makes σ σ' (Tick asked) answer → (epoch actor : ℕ) (before after : List Record)
    → epoch ≡ max answer asked → actor ≡ σ'.seat.actor → after ≡ before ++ Record.Said actor (Said.Tick epoch) ∷ [] → AnswersTick asked σ σ' before after
tick_answered {σ} asked answer makes epoch actor before after raised own added = record {
  answer = answer;
  steps = made (Tick asked) answer ∷ [];
  steps_are = refl;
  few = refl;
  calls = call_step (λ v w. HasNothing w) (call_none {R = λ v w. HasNothing w} (λ v met. met)) makes (λ v met is. tt)
      (λ v met is agrees. nothing_still (does_idly σ.seat.profile ticking refl (made (Tick asked) answer ∷ []) v (refl, tt) (agrees, tt)) met);
  kinds = (refl, tt);
  silent = λ v. refl;
  epoch = epoch;
  raised = λ earlier. raised;
  known = λ v. ap (λ e. Some e) (sym raised);
  added = added ∙ ap (λ k. before ++ Record.Said k (Said.Tick epoch) ∷ []) (own ∙ ap (λ s. s.actor) makes.seat_is);
}

-- ---- a pass
pub pass_answered : {σ σ' epoch found : _} (spare spare' actor : ℕ) (listed : List (ℕ × Outcome)) (before marked after : List Record)
    → Passes σ σ' epoch found → spare' + length (unbacks_in σ.seat.actor epoch (reverse found)) ≡ spare
    → actor ≡ σ'.seat.actor → listed ≡ found → marked ≡ before ++ Record.Said actor (Said.Pass epoch) ∷ []
    → after ≡ marked ++ map (λ p. record_of actor epoch p.0 p.1) listed → AnswersPass σ σ' spare spare' found before after
pass_answered {σ} {σ'} {epoch} {found} spare spare' actor listed before marked after passes fell own same mark added = record {
  epoch = epoch;
  passes = passes;
  added = search (arith, append_assoc);
  shown = λ v. outcomes_shown σ.seat.actor epoch found ∙ ap reverse (sym (passes.order.events v));
  spare_is = fell;
}

-- An operation by what it asks for, and what the names that it frees or reallocates stand for, before it and after it.
-- An operation that is a thread's own task is the operation of that task.
pub own_what : (what : What) (task : Task) → work_of what ≡ Work.Own task → what ≡ what_of task
own_what what task is = search arith

-- each case computes
pub task_of : (task : Task) → work_of (what_of task) ≡ Work.Own task
task_of task = grind arith

-- the name that is freed or reallocated, and the one that is asked for, by the task
pub freed_task : (block : ℕ → Option Block) (task : Task) → option_and_then block (freed_of task) ≡ freed_by block (what_of task)
freed_task block task = ap (λ (w : Work). option_and_then block (of_task freed_of w)) (sym (task_of task))

-- What a task's request comes to is named as by its operation.
pub named_task : (task : Task) (came : Option Block) → named_with (request_of task) came ≡ named_by (what_of task) came
named_task task came = ap (λ (w : Work). named_with (of_task request_of w) came) (sym (task_of task))

-- what is said of each name is said of the freed or reallocated one
pub meant_by : (block : ℕ → Option Block) (names : List Named) (what : What) → ((n : ℕ) → block n ≡ block_behind (standing_for names n))
    → IsMeant names what (freed_by block what)
meant_by block names what tells = grind arith

-- the request that it makes by what names stand for
pub request_meant : (what : What) (names : List Named) (meant : Option Block) → IsMeant names what meant → request_made what meant ≡ request_by names what
request_meant what names meant means = grind arith

-- .. and it is one of the region
pub none_stands : (f : Profile) → MayStand f None
none_stands f = λ b same. absurd (let bad : None ≡ Some b = same in cc)

-- What the name that an operation frees or reallocates stands for may stand in the region, where each name's may.
pub meant_stands : (f : Profile) (block : ℕ → Option Block) (what : What) → ((n : ℕ) → MayStand f (block n)) → MayStand f (freed_by block what)
meant_stands f block (Free name) stand = stand name
meant_stands f block (FreeSized name room) stand = stand name
meant_stands f block (Remake name old heap size align) stand = stand old
meant_stands f block what stand = none_stands f

one_more : (t : Bool) (block : Option Block) (rest : Option (Option Block)) (old : Bool) → (old ≡ true → (b : Option Block) × (rest ≡ Some b)) → t || old ≡ true
    → (b : Option Block) × ((if t then Some block else rest) ≡ Some b)
one_more true block rest old known is = (block, refl)
one_more false block rest old known is = known is

-- a name that comes to stand for something is known, and so are those before it
pub known_named : (name : ℕ) (came : Option Block) (asked : List ℕ) (names : List Named) → AreKnown asked names
    → AreKnown (name ∷ asked) (named name came ∷ names)
known_named name came asked names known = λ n is. one_more (name == n) came (standing_for names n) (is_asked asked n) (known n) is

-- the name that a request asked for, if there is one, stands for what it came to
pub known_more : (request : Option Request) (came : Option Block) (asked : List ℕ) (names : List Named) → AreKnown asked names
    → AreKnown (asked_with request asked) (named_with request came ++ names)
known_more None came asked names known = known
known_more (Some r) came asked names known = known_named r.name came asked names known

-- An answer has the name that its operation asks for, with what that came to, and the names before it.
names_answered : (f : Profile) (k : ℕ) (what : What) (b : Having) (a : Answer) → IsAnswered f k what b a
    → (came : Option Block) × (a.names ≡ named_by what came ++ b.names)
names_answered f k (Alloc name heap size align) b a is = (block_of is.answer, is.names_are)
names_answered f k (Guarded keeper name heap size align) b a is = (block_of is.answer, is.names_are)
names_answered f k what b a is = grind arith

-- After an operation was answered, each name that was asked for so far stands for something.
pub known_after : (f : Profile) (k : ℕ) (what : What) (asked : List ℕ) (b : Having) (a : Answer) → IsAnswered f k what b a → AreKnown asked b.names
    → AreKnown (asked_after what asked) a.names
known_after f k what asked b a is known = search (arith, names_answered, known_more)

-- What a name may stand for may be packed.
pub may_pack : (f : Profile) (found : Option Block) → IsValid f → MayStand f found → MayPack found
may_pack f found valid stands = search arith
