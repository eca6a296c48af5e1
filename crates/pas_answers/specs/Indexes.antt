-- The indexes of the heaps in a replay: which runs of pages they name, what they hold after each act, and when what they name serves.
use Rattle.std.specs.Prelude.{ℕ, ◌≡◌, Bool, true, false, List, [], ◌∷◌, Option, None, Some, MatchOption}
use Rattle.pas_profile.specs.{Requests.route_in, declared.{directory.Route.Route, name.Block.Block, profile.Profile.Profile}}
use Rattle.pas_steps.specs.Lists.{Whole, part}
use Rattle.pas_large.specs.Doors.{Indexes, no_ranges, found_in, cut_in, added_in}
use Rattle.pas_free_log.specs.declared.noting.EndedRun.{EndedRun}
use Rattle.pas_trace.specs.{declared.{plan.{What.{What, TheVariants.{Alloc, Guarded, Remake}}, Op.Op}, item.Request.Request}, Acts.{Act, Operates, Guards}}
use Rattle.pas_trace.specs.{Acts.Settles, Asked.request_in}
use Rattle.pas_cache.specs.{Calls.IsNamed, Refusals.TakesWhatIsNamed, Serves.pages_of}
use Rattle.pas_answers.specs.{Answers.{Having, having, Answer, Named, standing_for, wanted_by, suits, request_for, IsAnswered, Progress}, Calls.block_behind}
use Rattle.pas_answers.specs.{Calls.freed_by, Guarding.after_trying, Refusals.request_in_answer, Ways.{Way, InOrder, OnThreads}, Reaching.AnswersTried}
use Rattle.pas_answers.specs.Reaching.{AnswersGuarded, Advances, Reaches}

-- ---- which requests are made
-- The request that an operation makes of a heap, where the name that it frees or reallocates stands for this: a reallocation makes one in the heap of the block,
-- where that doesn't suit.
abbrev pub unless_suited : Bool → Request → Option Request
unless_suited true r = None
unless_suited false r = Some r

abbrev pub request_made : What → Option Block → Option Request
request_made (Alloc name heap size align) meant = Some record { name = name; heap = heap; size = size; align = align }
request_made (Guarded keeper name heap size align) meant = Some record { name = name; heap = heap; size = size; align = align }
request_made (Remake name old heap size align) None = None
request_made (Remake name old heap size align) (Some block) = unless_suited (suits block size align) (request_for block name size align)
request_made what meant = None

-- .. by what names stand for
abbrev pub request_by : List Named → What → Option Request
request_by names what = request_made what (freed_by (λ n. block_behind (standing_for names n)) what)

-- ---- what a door is asked
-- What is known of the run that was named for an operation: where it makes a request what the request's route says, with the door's answer for its heap and number
-- of pages. Where it makes none the door isn't asked, and it is so of it that nothing changed.
abbrev pub IsNamedFor : Profile → (ℕ → ℕ → Option ℕ → Type 0) → Type 0 → Option Request → Option ℕ → Type 0
IsNamedFor f Answers Same None found = Same
IsNamedFor f Answers Same (Some r) found = IsNamed (route_in f r.size r.align) (Answers r.heap (pages_of (wanted_by f r))) Same found

-- ---- what the indexes hold
-- A request for n whole pages of the heap takes the first n pages of the lowest range of at least n pages out of the heap's index. Another changes none.
abbrev pub after_request : Route → ℕ → ℕ → Indexes → Indexes
after_request Route.Large heap n indexes = cut_in indexes heap n
after_request route heap n indexes = indexes

abbrev pub after_operation : Profile → Option Request → Indexes → Indexes
after_operation f None indexes = indexes
after_operation f (Some r) indexes = after_request (route_in f r.size r.align) r.heap (pages_of (wanted_by f r)) indexes

-- the runs that a cache noted are added, each to the index of its heap, in order
abbrev pub with_noted : Indexes → List EndedRun → Indexes
with_noted indexes [] = indexes
with_noted indexes (run ∷ runs) = with_noted (added_in indexes run.heap run.range) runs

-- a guarded request takes nothing out where its keeper gave the block, and else as any request of its thread
abbrev pub after_tried : (f : Profile) (op : Op) (r : Request) (block : Option Block) (p p' : Progress) → AnswersTried f op r block p p' → Indexes → Indexes
after_tried f op r (Some block) p p' is indexes = indexes
after_tried f op r None p p' is indexes = after_operation f (request_by p.names op.what) indexes

abbrev pub after_guarded : (f : Profile) (keeper : ℕ) (op : Op) (o : Option Request) (p p' : Progress) → AnswersGuarded f keeper op o p p' → Indexes → Indexes
after_guarded f keeper op None p p' is indexes = indexes
after_guarded f keeper op (Some r) p p' is indexes = after_tried f op r is.0.block (after_trying p keeper is.0) p' is.2 indexes

-- after an act that took the replay from p to p': no other act changes an index
abbrev pub indexes_after : (f : Profile) (act : Act) (p p' : Progress) → Advances f act p p' → Indexes → Indexes
indexes_after f (Operates op) p p' is indexes = after_operation f (request_by p.names op.what) indexes
indexes_after f (Guards keeper op) p p' is indexes = after_guarded f keeper op (request_in op.what) p p' is indexes
indexes_after f (Settles k) p p' is indexes = with_noted indexes (p.caches k).noted
indexes_after f act p p' is indexes = indexes

abbrev pub indexes_after_all : (f : Profile) (acts : List Act) (p p' : Progress) → Reaches f acts p p' → Indexes → Indexes
indexes_after_all f [] p p' is indexes = indexes
indexes_after_all f (act ∷ acts) p p' is indexes = indexes_after_all f acts is.0 p' is.2 (indexes_after f act p is.0 is.1 indexes)

-- ---- which runs they name
-- For a request for n whole pages the first n pages of the lowest range of at least n pages were named that the heap's index holds, or none where it has none.
abbrev pub IsNamedBy : Profile → Indexes → Option Request → Option ℕ → Type 0
IsNamedBy f indexes request found = IsNamedFor f (λ heap n named. named ≡ found_in indexes heap n) (Unit {0}) request found

abbrev pub TriedIsNamedBy : (f : Profile) → Indexes → (op : Op) (r : Request) (block : Option Block) (p p' : Progress) → AnswersTried f op r block p p' → Type 0
TriedIsNamedBy f indexes op r (Some block) p p' is = Unit {0}
TriedIsNamedBy f indexes op r None p p' is = IsNamedBy f indexes (request_by p.names op.what) is.0.found

abbrev pub GuardedIsNamedBy : (f : Profile) → Indexes → (keeper : ℕ) (op : Op) (o : Option Request) (p p' : Progress) → AnswersGuarded f keeper op o p p'
    → Type 0
GuardedIsNamedBy f indexes keeper op None p p' is = Unit {0}
GuardedIsNamedBy f indexes keeper op (Some r) p p' is = TriedIsNamedBy f indexes op r is.0.block (after_trying p keeper is.0) p' is.2

abbrev pub ActIsNamedBy : (f : Profile) → Indexes → (act : Act) (p p' : Progress) → Advances f act p p' → Type 0
ActIsNamedBy f indexes (Operates op) p p' is = IsNamedBy f indexes (request_by p.names op.what) is.0.found
ActIsNamedBy f indexes (Guards keeper op) p p' is = GuardedIsNamedBy f indexes keeper op (request_in op.what) p p' is
ActIsNamedBy f indexes act p p' is = Unit {0}

-- .. and so at each of several acts, by what the indexes hold then
abbrev pub AllAreNamedBy : (f : Profile) → Indexes → (acts : List Act) (p p' : Progress) → Reaches f acts p p' → Type 0
AllAreNamedBy f indexes [] p p' is = Unit {0}
AllAreNamedBy f indexes (act ∷ acts) p p' is = ActIsNamedBy f indexes act p is.0 is.1 × AllAreNamedBy f (indexes_after f act p is.0 is.1 indexes) acts is.0 p' is.2

-- acts that take a replay from p to p', with the runs that the indexes name
abbrev pub ReachesBy : Profile → Indexes → List Act → Progress → Progress → Type 0
ReachesBy f indexes acts p p' = (is : Reaches f acts p p') × AllAreNamedBy f indexes acts p p' is

-- ---- whether they serve
-- Where the operation makes a request for whole pages for which a run was named, that run serves it exactly where its pages are whole after the list l.
abbrev pub TakesItsRun : (f : Profile) (k : ℕ) (what : What) (b : Having) (a : Answer) → IsAnswered f k what b a → Whole → Type 0
TakesItsRun f k what b a is l = MatchOption (request_in_answer f k what b a is) (Unit {0}) (λ s. TakesWhatIsNamed f (wanted_by f s.request) s.placed.found l s.placed.steps s.served.answer)

abbrev pub TriedTakesItsRun : (f : Profile) (op : Op) (r : Request) (block : Option Block) (p p' : Progress) → AnswersTried f op r block p p' → Type 0
TriedTakesItsRun f op r (Some block) p p' is = Unit {0}
TriedTakesItsRun f op r None p p' is = TakesItsRun f op.actor op.what (having p.names (part op.actor p.list) (p.caches op.actor)) is.0 is.1 p.list

abbrev pub GuardedTakesItsRun : (f : Profile) (keeper : ℕ) (op : Op) (o : Option Request) (p p' : Progress) → AnswersGuarded f keeper op o p p' → Type 0
GuardedTakesItsRun f keeper op None p p' is = Unit {0}
GuardedTakesItsRun f keeper op (Some r) p p' is = TriedTakesItsRun f op r is.0.block (after_trying p keeper is.0) p' is.2

abbrev pub ActTakesItsRun : (f : Profile) (act : Act) (p p' : Progress) → Advances f act p p' → Type 0
ActTakesItsRun f (Operates op) p p' is = TakesItsRun f op.actor op.what (having p.names (part op.actor p.list) (p.caches op.actor)) is.0 is.1 p.list
ActTakesItsRun f (Guards keeper op) p p' is = GuardedTakesItsRun f keeper op (request_in op.what) p p' is
ActTakesItsRun f act p p' is = Unit {0}

abbrev pub AllTakeTheirRuns : (f : Profile) (acts : List Act) (p p' : Progress) → Reaches f acts p p' → Type 0
AllTakeTheirRuns f [] p p' is = Unit {0}
AllTakeTheirRuns f (act ∷ acts) p p' is = ActTakesItsRun f act p is.0 is.1 × AllTakeTheirRuns f acts is.0 p' is.2

-- THE CHOICE of the indexes, in the order of the text: they hold nothing at first, name a run for each request for whole pages, and it serves exactly where it
-- is whole then. On threads others act between the steps of a request, and what an index holds then isn't known.
abbrev pub GoByIndexes : (way : Way) (f : Profile) (acts : List Act) (p p' : Progress) → Reaches f acts p p' → Type 0
GoByIndexes InOrder f acts p p' is = AllAreNamedBy f (no_ranges f.heaps) acts p p' is × AllTakeTheirRuns f acts p p' is
GoByIndexes OnThreads f acts p p' is = Unit {0}
