-- The acts of a plan: what they begin needs no line by itself, and its numbers and those of what is due after a pass fit their places.
use Rattle.std.proofs.Common.{◌≡◌, ◌≢◌, Option, None, Some, ℕ, zero, suc, ◌+◌, ◌*◌, ◌^◌, ◌<◌, ◌≤◌, Bool, true, false, cond, List, [], ◌∷◌, ◌++◌, map, length}
use Rattle.std.proofs.{Common.{refl, subst, arith, MatchOption, ◌/◌, ◌==◌, if◌then◌else◌, nat_le, max, inl, inr, sym, ◌∙◌}, lemmas.Bool.and_parts}
use Rattle.std.{proofs.lemmas.Option.{none-some, same_Some}, specs.List.{AllByRecursion, filter}}
use Rattle.pas_profile.specs.{Directories.IsKind, Profiles.{IsAdmitted, IsValid}, Requests.kind_of_route, Routes.{IsRouteOf, room_by}, Blocks.address_of}
use Rattle.pas_profile.specs.{Entries.{sized_entry, entry_of}, declared.{directory.Route.Route, profile.Profile.Profile, event.Event.Event, name.Block.Block}}
use Rattle.pas_profile.{specs.declared.{entry.Entry.Entry, guard.Raised.Raised}, proofs.Sizes.{class_known, route_is, class_size_le}}
use Rattle.pas_trace.specs.Acts.{Act, StopsIdle, Ends, Lowers, act_kept, numbers_from, acts_from, acts_of, acts_of_chore, acts_of_op, acts_of_ops, acts_of_work}
use Rattle.pas_trace.specs.{Acts.{close_acts, phase_acts, threads_where, Operates, Guards, Ticks, MakesPass, MarksPhase, Wakes, MarksClose}, Asked.epoch_of}
use Rattle.pas_trace.specs.{Asked.{keeper_in, keeper_of, of_task, request_of, work_of, request_in}, EveryPlan.{AreBelow, AreKept, AreSound, IsActorBy}}
use Rattle.pas_trace.specs.{EveryPlan.{IsSoundTask, all_ops, asked_after}, declared.plan.{Chore.Chore, Op.Op, Task.Task, Work.Work, What.What}}
use Rattle.pas_trace.specs.declared.{plan.What.TheVariants.{Alloc, Guarded, Free, FreeSized, Raw, RawSized, Remake, Flush, Stop}, item.Request.Request}
use Rattle.pas_trace.specs.Named.{Named, standing_for}
use Rattle.pas_check.specs.{Bounds.{FitsRequest, FitsNext, HaveHeaps}, Calls.{asked_for, IsFollowed}, Going.AreAlike, Takes.{Takes, TakesDue, TakesFirst}}
use Rattle.pas_check.specs.{Checks.{AllFit, ArePlanned, FitsAct, FitsHeaps, FitsWhat, IsPlanned, IsThread}, Begins.{after_task, begun_act, begun_from}}
use Rattle.pas_check.specs.Begins.{begun_what, entries_due, flushing, freeing, freeing_at, freeing_named, goes_down, guarding, is_aligned, is_page, logging}
use Rattle.pas_check.specs.Begins.{lowered_due, past_outcomes, remaking, remaking_named, request_for, settled_with, stopping, suits, sweeping, tells, begun}
use Rattle.pas_check.{specs.{Begins.{ready, ready_with}, States.{Due, Writes, Tries, Does, Reports, Stand, Task as ToDo}}, proofs.OneNext.no_outcome}
use Rattle.pas_check.proofs.Leads.{first_none}
use Rattle.pas_records.specs.declared.record.{Record.Record, Said.Said}

-- ---- A task is begun without a line: what may come then is what might before
-- no outcome of a pass is due first
abbrev pub BeginsNoPass : List Due → Type 0
BeginsNoPass due = past_outcomes due ≡ due

entries_no_pass : (k : ℕ) (log : List Entry) (more : List Due) → BeginsNoPass more → BeginsNoPass (entries_due k log ++ more)
entries_no_pass k [] more no_pass = no_pass
entries_no_pass k (entry ∷ log) more no_pass = refl

logging_no_pass : (full : Bool) (s : Stand) (k : ℕ) (entry : Entry) → BeginsNoPass (logging full s k entry []).due
logging_no_pass full s k entry = search (arith, entries_no_pass)

freeing_at_no_pass : (inside aligned : Bool) (s : Stand) (k : ℕ) (entry : Entry) → BeginsNoPass s.due → BeginsNoPass (freeing_at inside aligned s k entry).due
freeing_at_no_pass inside aligned s k entry no_pass = search (arith, logging_no_pass)

freeing_no_pass : (f : Profile) (s : Stand) (k : ℕ) (entry : Entry) → BeginsNoPass s.due → BeginsNoPass (freeing f s k entry).due
freeing_no_pass f s k entry no_pass = freeing_at_no_pass (is_page f (address_of entry.name / 4096)) (is_aligned entry.name) s k entry no_pass

named_no_pass : (f : Profile) (s : Stand) (k name room : ℕ) (block : Option (Option Block)) → BeginsNoPass s.due
    → BeginsNoPass (freeing_named f s k name room block).due
named_no_pass f s k name room None no_pass = no_pass
named_no_pass f s k name room (Some None) no_pass = refl
named_no_pass f s k name room (Some (Some block)) no_pass = freeing_no_pass f s k (sized_entry block.name room) no_pass

-- in each case it computes, or is given
remaking_no_pass : (suited : Bool) (s : Stand) (k : ℕ) (r : Request) (old : Block) → BeginsNoPass (remaking suited s k r old).due
remaking_no_pass suited s k r old = search arith

remade_no_pass : (s : Stand) (k name size align : ℕ) (block : Option (Option Block)) → BeginsNoPass s.due
    → BeginsNoPass (remaking_named s k name size align block).due
remade_no_pass s k name size align block no_pass = search (arith, remaking_no_pass)

what_no_pass : (f : Profile) (s : Stand) (k : ℕ) (what : What) → BeginsNoPass s.due → BeginsNoPass (begun_what f s k what).due
what_no_pass f s k what no_pass = search (arith, named_no_pass, freeing_no_pass, remade_no_pass, entries_no_pass)

stopping_no_pass : (idle : Bool) (s : Stand) (k : ℕ) → BeginsNoPass s.due → BeginsNoPass (stopping idle s k).due
stopping_no_pass idle s k no_pass = search (arith, entries_no_pass)

lowered_no_pass : (guards : List Raised) (more : List Due) → BeginsNoPass more → BeginsNoPass (map lowered_due guards ++ more)
lowered_no_pass [] more no_pass = no_pass
lowered_no_pass (guard ∷ guards) more no_pass = refl

guarding_no_pass : (s : Stand) (keeper k : ℕ) (o : Option Request) → BeginsNoPass s.due → BeginsNoPass (guarding s keeper k o).due
guarding_no_pass s keeper k o no_pass = search (arith, lowered_no_pass)

-- A task that is begun puts no outcomes of a pass first where none came first.
begins_no_pass : (f : Profile) (s : Stand) (t : ToDo) → BeginsNoPass s.due → BeginsNoPass (begun f s t).due
begins_no_pass f s t no_pass = search (arith, what_no_pass, guarding_no_pass, lowered_no_pass, stopping_no_pass, entries_no_pass)

-- ---- what is due then
settled_is : (f : Profile) (b : Stand) (due : List Due) → b.due ≡ due → BeginsNoPass due
    → settled_with due b (begun_from f b b.left) ≡ ready_with f b (past_outcomes due)
settled_is f b due is no_pass = search arith

no_first : (f : Profile) (s : Stand) (due : List Due) → BeginsNoPass due → (line : List ℕ) (next : Stand) → TakesFirst f s due line next → ⊥
no_first f s due no_pass line next takes = search (arith, first_none)

module _ (f : Profile) (s : Stand) (t : ToDo) (ts : List ToDo) (due : s.due ≡ []) (left : s.left ≡ t ∷ ts) where
  no_pass_before : BeginsNoPass s.due
  no_pass_before = subst BeginsNoPass (sym due) refl

  no_pass_then : BeginsNoPass (after_task f s t ts).due
  no_pass_then = begins_no_pass f s t no_pass_before

  same_ready : ready f s ≡ ready f (after_task f s t ts)
  same_ready = search (arith, settled_is, no_pass_then)

  -- THE BEGINNING of a task
  pub begun_alike : AreAlike f s (after_task f s t ts)
  begun_alike = record {
    takes = λ line next. (there line next, back line next);
    done = (λ done. subst (λ (u : Stand). u.due ≡ []) same_ready done, λ done. subst (λ (u : Stand). u.due ≡ []) (sym same_ready) done);
  }
    where
      -- A line that is taken before the task's end is taken behind it.
      there : (line : List ℕ) (next : Stand) → Takes f s line next → Takes f (after_task f s t ts) line next
      there line next (inl x) = absurd (no_first f s s.due no_pass_before line next x)
      there line next (inr y) = inr (subst (λ (u : Stand). TakesDue f u u.due line next) same_ready y)

      -- And one that is taken behind it is taken before.
      back : (line : List ℕ) (next : Stand) → Takes f (after_task f s t ts) line next → Takes f s line next
      back line next is = search (arith, no_first, no_pass_then, same_ready)

-- ---- The numbers of a plan's acts fit their places, and so does what is due after a pass
-- ---- The numbers of a plan's acts fit their places
-- ---- a request's
kind_routed : (shared : Bool) (classes size align : ℕ) (route : Route) → IsRouteOf classes size align route → IsKind (kind_of_route shared route)
kind_routed shared classes size align route is = search (arith, class_known)

room_small : (route : Route) (size : ℕ) → size ≤ 2 ^ 26 → room_by route size < 2 ^ 32
room_small route size few = search (arith, class_size_le)

request_fits : (f : Profile) (k name heap size align : ℕ) → IsValid f → size ≤ f.pages * 4096 → k < 2 ^ 8 → name < 2 ^ 32 → heap < 32
    → FitsRequest f k (asked_for name heap size align)
request_fits f k name heap size align valid within few low one = search (arith, kind_routed, route_is, room_small)

heaps_fit : (f : Profile) (k name heap size align : ℕ) → IsValid f → IsAdmitted f size align heap → k < 2 ^ 8 → name < 2 ^ 32
    → FitsHeaps f k (asked_for name heap size align)
heaps_fit f k name heap size align valid may few low = search (arith, request_fits)

-- ---- lists of acts
all_both : (f : Profile) (xs ys : List Act) → AllFit f xs → AllFit f ys → AllFit f (xs ++ ys)
all_both f [] ys all more = more
all_both f (x ∷ xs) ys all more = (all.0, all_both f xs ys all.1 more)

abbrev pub AreThreads : List ℕ → Type 0
AreThreads ks = AllByRecursion IsThread ks

all_made : (f : Profile) (to : ℕ → Act) → ((k : ℕ) → IsThread k → FitsAct f (to k)) → (ks : List ℕ) → AreThreads ks → AllFit f (map to ks)
all_made f to each [] all = tt
all_made f to each (k ∷ ks) all = (each k all.0, all_made f to each ks all.1)

numbers_are : (k n : ℕ) → 0 < k → k + n ≤ 2 ^ 8 → AreThreads (numbers_from k n)
numbers_are k zero some few = tt
numbers_are k (suc n) some few = ((some, omega (arith, few)), numbers_are (k + 1) n (omega arith) (omega (arith, few)))

-- in each case it computes, or is given
kept_or_not : (t : Bool) (k : ℕ) (ks : List ℕ) → IsThread k → AreThreads ks → AreThreads (cond t (k ∷ ks) ks)
kept_or_not t k ks is all = search arith

chosen_are : (chosen : ℕ → Bool) (ks : List ℕ) → AreThreads ks → AreThreads (filter chosen ks)
chosen_are chosen [] all = tt
chosen_are chosen (k ∷ ks) all = kept_or_not (chosen k) k (filter chosen ks) all.0 (chosen_are chosen ks all.1)

-- ---- operations of a plan
pub planned_front : (f : Profile) (limit : ℕ) (xs ys : List Op) → ArePlanned f limit (xs ++ ys) → ArePlanned f limit xs
planned_front f limit [] ys all = tt
planned_front f limit (x ∷ xs) ys all = (all.0, planned_front f limit xs ys all.1)

-- Later operations of planned ones are planned.
pub planned_back : (f : Profile) (limit : ℕ) (xs ys : List Op) → ArePlanned f limit (xs ++ ys) → ArePlanned f limit ys
planned_back f limit [] ys all = all
planned_back f limit (x ∷ xs) ys all = planned_back f limit xs ys all.1

-- a keeper stands behind all threads
keeper_behind : (f : Profile) (guard actor : ℕ) (work : Work) (o : Option ℕ) → f.threads ≤ 16 → IsActorBy f work actor → of_task keeper_of work ≡ o
    → MatchOption o (Unit {0}) (λ keeper. (keeper ≡ f.threads + actor) × (guard ≢ 0)) → MatchOption o (Unit {0}) (λ keeper. (actor < keeper) × (keeper < 2 ^ 8))
keeper_behind f guard actor work o few by is kept = search arith

-- Sound operations of a plan, whose names are below the limit and which are kept by their keepers, are planned.
pub all_planned : (f : Profile) (limit guard : ℕ) (asked : List ℕ) (ops : List Op) → f.threads ≤ 16 → AreSound f asked ops → AreBelow limit ops
    → AreKept f guard ops → ArePlanned f limit ops
all_planned f limit guard asked [] few sound below kept = tt
all_planned f limit guard asked (op ∷ ops) few sound below kept = (
  record { actor = sound.0; sound = (asked, sound.1); named = below.0; kept = keeper_behind f guard op.actor (work_of op.what) (keeper_in op.what) few sound.0 refl kept.0 },
  all_planned f limit guard (asked_after op.what asked) ops few sound.2 below.1 kept.1,
)

module _ (f : Profile) (limit : ℕ) (valid : IsValid f) (few : limit ≤ 2 ^ 32) (keepers : ℕ) (many : keepers ≤ f.threads) where
  threads_are : (chosen : ℕ → Bool) → AreThreads (threads_where chosen f.threads)
  threads_are chosen = chosen_are chosen (numbers_from 1 f.threads) (numbers_are 1 f.threads (omega arith) (omega (arith, valid.threads)))

  -- ---- an operation
  task_fits : (k : ℕ) (asked : List ℕ) (task : Task) → k < 2 ^ 8 → MatchOption (request_of task) (Unit {0}) (λ r. r.name < limit) → IsSoundTask f asked task
      → MatchOption (request_of task) (Unit {0}) (FitsHeaps f k)
  task_fits k asked (Task.Request name heap size align) small below sound = heaps_fit f k name heap size align valid sound.0 small (omega (arith, below, few))
  task_fits k asked (Task.Remake name old heap size align) small below sound = heaps_fit f k name heap size align valid sound.0 small (omega (arith, below, few))
  task_fits k asked (Task.Guarded keeper name heap size align) small below sound = heaps_fit f k name heap size align valid sound.0 small (omega (arith, below, few))
  task_fits k asked other small below sound = tt

  chore_fits : (idle : List ℕ) (chore : Chore) → AreThreads idle → MatchOption (epoch_of chore) (Unit {0}) (λ e. e < 2 ^ 40)
      → AllFit f (acts_of_chore idle chore)
  chore_fits idle (Chore.Tick e) all sound = (omega (arith, sound), tt)
  chore_fits idle Chore.Pass all sound = (tt, tt)
  chore_fits idle (Chore.Idle n) all sound = (tt, all_made f (λ k. StopsIdle k n) (λ k is. is) idle all)

  kept_fits : (op : Op) (o : Option ℕ) → IsThread op.actor → FitsWhat f op.actor op.what
      → MatchOption o (Unit {0}) (λ keeper. (op.actor < keeper) × (keeper < 2 ^ 8)) → FitsAct f (act_kept o op)
  -- in each case the bounds are given
  kept_fits op o thread fits kept = search arith

  work_fits : (idle : List ℕ) (op : Op) (work : Work) → AreThreads idle → work_of op.what ≡ work → IsPlanned f limit op → AllFit f (acts_of_work idle op work)
  work_fits idle op work all is planned = search (arith, task_fits, kept_fits, chore_fits)

  ops_fit : (idle : List ℕ) → AreThreads idle → (ops : List Op) → ArePlanned f limit ops → AllFit f (acts_of_ops idle ops)
  ops_fit idle all [] planned = tt
  ops_fit idle all (op ∷ ops) planned =
      all_both f (acts_of_op idle op) (acts_of_ops idle ops) (work_fits idle op (work_of op.what) all refl planned.0) (ops_fit idle all ops planned.1)

  phase_fits : (ops : List Op) → ArePlanned f limit ops → AllFit f (phase_acts f.threads ops)
  phase_fits ops planned = search (arith, all_both, all_made, threads_are, ops_fit)

  close_fits : AllFit f (close_acts f.threads keepers)
  close_fits =
      let most = valid.threads in (
        tt,
        all_both f (map Ends (numbers_from 1 f.threads)) (map Lowers (numbers_from (f.threads + 1) keepers))
            (all_made f Ends (λ k is. is) (numbers_from 1 f.threads) (numbers_are 1 f.threads (omega arith) (omega (arith, most))))
            (all_made f Lowers (λ k is. is) (numbers_from (f.threads + 1) keepers) (numbers_are (f.threads + 1) keepers (omega arith) (omega (arith, most, many)))),
      )

  later_fits : (n : ℕ) (phases : List (List Op)) → n + length phases < 2 ^ 32 → ArePlanned f limit (all_ops phases)
      → AllFit f (acts_from f.threads keepers n phases)
  later_fits n [] short planned = close_fits
  later_fits n (phase ∷ phases) short planned = (
    omega (arith, short),
    all_both f (phase_acts f.threads phase) (acts_from f.threads keepers (n + 1) phases) (phase_fits phase (planned_front f limit phase
        (all_ops phases) planned)) (later_fits (n + 1) phases (omega (arith, short)) (planned_back f limit phase (all_ops phases) planned)),
  )

  -- The numbers of all acts of a plan fit their places.
  pub acts_fit : (phases : List (List Op)) → length phases < 2 ^ 31 → ArePlanned f limit (all_ops phases) → AllFit f (acts_of f.threads keepers phases)
  acts_fit [] short planned = close_fits
  acts_fit (phase ∷ phases) short planned =
      all_both f (phase_acts f.threads phase) (acts_from f.threads keepers 2 phases) (phase_fits phase (planned_front f limit phase (all_ops phases) planned))
      (later_fits 2 phases (omega (arith, short)) (planned_back f limit phase (all_ops phases) planned))

-- ---- What follows a pass fits its places, where the acts that are left do
-- ---- a task is begun
record IsBegun (f : Profile) (s b : Stand) : Type 0 where
  fits : FitsNext f b.due
  events : b.events ≡ s.events
  epoch : b.epoch < 2 ^ 64
  heaps : HaveHeaps b.names

-- a name more
heaps_if : (t : Bool) (found : Option Block) (old : Option (Option Block)) (block : Block) → ((b : Block) → found ≡ Some b → b.heap < 32)
    → (old ≡ Some (Some block) → block.heap < 32)
    → (if t then Some found else old) ≡ Some (Some block) → block.heap < 32
heaps_if t found old block new before is = search (arith, same_Some)

heaps_more : (names : List Named) (name : ℕ) (found : Option Block) → HaveHeaps names → ((b : Block) → found ≡ Some b → b.heap < 32)
    → HaveHeaps (record { name = name; block = found } ∷ names)
heaps_more names name found heaps new n block is = heaps_if (name == n) found (standing_for names n) block new (heaps n block) is

entries_fit : (f : Profile) (k : ℕ) (log : List Entry) (more : List Due) → IsThread k → FitsNext f more → FitsNext f (entries_due k log ++ more)
entries_fit f k [] more thread fits = fits
entries_fit f k (entry ∷ log) more thread fits = (thread.1, inl thread.0)

-- each guard that goes down is of the keeper that sweeps
lowered_first : (f : Profile) (es : List Event) (keeper : ℕ) (all : Bool) (guard : Raised) (rest : List Raised) (more : List Due) → IsThread keeper
    → FitsNext f (map lowered_due rest ++ more)
    → (down : Bool) → goes_down es keeper all guard ≡ down → FitsNext f (map lowered_due (cond down (guard ∷ rest) rest) ++ more)
lowered_first f es keeper all guard rest more thread fits down is = search (arith, and_parts)

lowered_fit : (f : Profile) (es : List Event) (keeper : ℕ) (all : Bool) (guards : List Raised) (more : List Due) → IsThread keeper → FitsNext f more
    → FitsNext f (map lowered_due (filter (goes_down es keeper all) guards) ++ more)
lowered_fit f es keeper all [] more thread fits = fits
lowered_fit f es keeper all (guard ∷ guards) more thread fits =
    lowered_first f es keeper all guard (filter (goes_down es keeper all) guards) more thread (lowered_fit f es keeper all guards more thread fits)
    (goes_down es keeper all guard) refl

module _ (f : Profile) (s : Stand) (due : s.due ≡ []) (small : s.epoch < 2 ^ 64) (heaps : HaveHeaps s.names) where
  -- An act that leaves nothing due is begun well.
  same : IsBegun f s s
  same = record { fits = subst (FitsNext f) (sym due) tt; events = refl; epoch = small; heaps = heaps }

  -- So is one that says a line.
  said : (k : ℕ) (words : Said) → IsThread k → IsBegun f s (tells s k words)
  said k words thread = record { fits = inl thread; events = refl; epoch = small; heaps = heaps }

  -- So is a flush of a log.
  flushes : (k : ℕ) (log : List Entry) (more : List Due) → IsThread k → FitsNext f more → IsBegun f s (flushing s k log more)
  flushes k log more thread fits = record { fits = entries_fit f k (s.logs k) more thread fits; events = refl; epoch = small; heaps = heaps }

  -- So is a free that is logged.
  logs : (full : Bool) (k : ℕ) (entry : Entry) → IsThread k → IsBegun f s (logging full s k entry [])
  logs true k entry thread = flushes k (entry ∷ []) [] thread tt
  logs false k entry thread = record { fits = tt; events = refl; epoch = small; heaps = heaps }

  frees_at : (inside aligned : Bool) (k : ℕ) (entry : Entry) → IsThread k → IsBegun f s (freeing_at inside aligned s k entry)
  frees_at inside aligned k entry thread = search (arith, said, logs)

  -- So is a free.
  frees : (k : ℕ) (entry : Entry) → IsThread k → IsBegun f s (freeing f s k entry)
  frees k entry thread = frees_at (is_page f (address_of entry.name / 4096)) (is_aligned entry.name) k entry thread

  frees_named : (k name room : ℕ) (block : Option (Option Block)) → IsThread k → IsBegun f s (freeing_named f s k name room block)
  frees_named k name room block thread = search (arith, same, said, frees)

  remakes_as : (suited : Bool) (k name size align : ℕ) (old : Block) → old.heap < 32 → IsThread k → FitsRequest f k (request_for old name size align)
      → IsBegun f s (remaking suited s k (request_for old name size align) old)
  remakes_as suited k name size align old one thread fits = search (arith, heaps_more, same_Some)

  -- So is a reallocation.
  remakes : (k name heap size align : ℕ) (block : Option (Option Block)) → ((b : Block) → block ≡ Some (Some b) → b.heap < 32) → IsThread k
      → FitsHeaps f k (record { name = name; heap = heap; size = size; align = align }) → IsBegun f s (remaking_named s k name size align block)
  remakes k name heap size align None one thread fits = same
  remakes k name heap size align (Some None) one thread fits =
      record { fits = inl thread; events = refl; epoch = small; heaps = heaps_more s.names name None heaps (λ b is. absurd (none-some b is)) }
  remakes k name heap size align (Some (Some old)) one thread fits =
      remakes_as (suits old size align) k name size align old (one old refl) thread (fits.1 old.heap (one old refl))

  -- So is each operation of a thread.
  operates : (k : ℕ) (what : What) → IsThread k → FitsWhat f k what → IsBegun f s (begun_what f s k what)
  operates k (Alloc name heap size align) thread fits = record { fits = fits.1 heap fits.0; events = refl; epoch = small; heaps = heaps }
  operates k (Guarded keeper name heap size align) thread fits = record { fits = fits.1 heap fits.0; events = refl; epoch = small; heaps = heaps }
  operates k (Free name) thread fits = frees_named k name 0 (standing_for s.names name) thread
  operates k (FreeSized name room) thread fits = frees_named k name room (standing_for s.names name) thread
  operates k (Raw block) thread fits = frees k (entry_of block) thread
  operates k (RawSized room block) thread fits = frees k (sized_entry block room) thread
  operates k (Remake name old heap size align) thread fits = remakes k name heap size align (standing_for s.names old) (heaps old) thread fits
  operates k Flush thread fits = flushes k [] [] thread tt
  operates k Stop thread fits = flushes k [] [] thread tt
  operates k other thread fits = same

  -- So is the stop of a thread's cache.
  stops : (idle : Bool) (k : ℕ) → IsThread k → IsBegun f s (stopping idle s k)
  stops true k thread = flushes k [] (Writes (Record.Said 0 (Said.Stopped k)) ∷ []) thread
      (inr ((omega arith, thread.1), no_outcome (Record.Said 0 (Said.Stopped k)) (λ e. refl)))
  stops false k thread = same

  -- So is a sweep of a keeper.
  sweeps : (keeper : ℕ) (all : Bool) (more : List Due) → IsThread keeper → FitsNext f more → IsBegun f s (sweeping s keeper all more)
  sweeps keeper all more thread fits = record { fits = lowered_fit f s.events keeper all s.guards more thread fits; events = refl; epoch = small; heaps = heaps }

  -- So is a guarded try.
  guards : (keeper k : ℕ) (o : Option Request) → MatchOption o (Unit {0}) (FitsHeaps f k) → IsThread keeper → keeper ≢ k → IsBegun f s (guarding s keeper k o)
  guards keeper k None fits thread apart = same
  guards keeper k (Some r) fits thread apart =
      let own : FitsRequest f k r = fits.1 r.heap fits.0 in
      sweeps keeper false (Tries keeper k r false ∷ []) thread
      (record { own = own; kept = record { actor = thread.1; name = own.name; heap = own.heap; kind = own.kind; room = own.room }; apart = apart })

  -- So is each act that fits.
  begins : (act : Act) → FitsAct f act → IsBegun f s (begun_act f s act)
  begins (Operates op) fits = operates op.actor op.what fits.0 fits.1
  begins (Guards keeper op) fits = guards keeper op.actor (request_in op.what) fits.1 fits.2 fits.3
  begins (Ticks e) fits =
      let great : max s.epoch e < 2 ^ 64 = omega (arith, fits, small) in
      record { fits = inr ((omega arith, great), no_outcome (Record.Said 0 (Said.Tick (max s.epoch e))) (λ n. refl)); events = refl; epoch = great; heaps = heaps }
  begins MakesPass fits = record { fits = inr ((omega arith, small), no_outcome (Record.Said 0 (Said.Pass s.epoch)) (λ n. refl)); events = refl; epoch = small; heaps = heaps }
  begins (StopsIdle k n) fits = stops (nat_le (s.idle_since k + n) s.epoch) k fits
  begins (MarksPhase n) fits = record { fits = inr (fits, no_outcome (Record.Phase n) (λ e. refl)); events = refl; epoch = small; heaps = heaps }
  begins (Wakes k) fits = record { fits = subst (FitsNext f) (sym due) tt; events = refl; epoch = small; heaps = heaps }
  begins MarksClose fits = record { fits = inr (tt, no_outcome Record.Close (λ e. refl)); events = refl; epoch = small; heaps = heaps }
  begins (Ends k) fits = flushes k [] [] fits tt
  begins (Lowers keeper) fits = sweeps keeper true [] fits tt
  begins other fits = same

-- ---- .. up to the first that has a line
record IsWell (f : Profile) (es : List Event) (b : Stand) : Type 0 where
  fits : FitsNext f b.due
  no_pass : past_outcomes b.due ≡ b.due
  events : b.events ≡ es
  epoch : b.epoch < 2 ^ 64

-- with something due it is the state itself that is well, by what is given of it
settles : (f : Profile) (es : List Event) (b other : Stand) (ds : List Due) → b.due ≡ ds → FitsNext f ds → past_outcomes ds ≡ ds → b.events ≡ es
    → b.epoch < 2 ^ 64
    → (ds ≡ [] → IsWell f es other) → IsWell f es (settled_with ds b other)
settles f es b other ds is fits no_pass events epoch rest = search arith

well_from : (f : Profile) (es : List Event) (acts : List Act) → AllFit f acts → (u : Stand) → u.due ≡ [] → u.events ≡ es → u.epoch < 2 ^ 64 → HaveHeaps u.names
    → IsWell f es (begun_from f u (map Does acts ++ Reports ∷ []))
well_from f es [] fit u due events epoch heaps = record { fits = tt; no_pass = refl; events = events; epoch = epoch }
well_from f es (act ∷ acts) fit u due events epoch heaps =
    let rest = map Does acts ++ Reports ∷ [] in
    let b : Stand = after_task f u (Does act) rest in
    let begun = begins f u due epoch heaps act fit.0 in
    settles f es b (begun_from f b rest) b.due refl begun.fits (begins_no_pass f u (Does act) (subst (λ (ds : List Due). past_outcomes ds ≡ ds) (sym due) refl))
    (begun.events ∙ events) begun.epoch (λ none. well_from f es acts fit.1 b none (begun.events ∙ events) begun.epoch begun.heaps)

-- Where the acts that are left fit, what follows a pass fits, too.
pub is_followed : (f : Profile) (acts : List Act) → AllFit f acts → (s : Stand) → s.epoch < 2 ^ 64 → HaveHeaps s.names → s.left ≡ map Does acts ++ Reports ∷ []
    → IsFollowed f s
is_followed f acts fit s epoch heaps left = search (arith, well_from)
