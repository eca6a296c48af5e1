-- An epoch is read, a log is flushed, names are logged, a cache is stopped, and runs are handed on.
use Rattle.std.proofs.Common.{◌≡◌, ℕ, [], sym, subst, arith, ◌+◌, ◌-◌, ◌*◌, ◌%◌, ◌^◌, ◌<◌, ◌≤◌, nat_le, List, ◌∷◌, ◌++◌, length, refl, ap, ◌∙◌, length-append}
use Rattle.std.proofs.{Common.{All, Ok, Err, le-leb, leb-false}, lemmas.{List.Elements.{All-nil, All-push, All-same}, Bool.lt-leb}}
use Rattle.pas_steps.specs.{Desks.{Standing, CanCall, Seat, Makes, made}, Views.View, Clear.{IsClear, HasNothing}, Kinds.looking, declared.step.Made.Made}
use Rattle.pas_steps.{specs.{declared.step.Step.TheVariants.Look, Calls.{Leads, Calls, Does, nothing}}, proofs.Adding.{adds_none, adds_step, adds_under}}
use Rattle.pas_steps.proofs.{Apart.no_events, Called.{call_none, call_then, next_call}, Calls.{does_none, does_idly}}
use Rattle.pas_cache.specs.{Caches.{AtRest, Cached}, Contents.{CacheOf, with_log, with_noted_alone}, Parts.Releases, Kinds.releasing, Locals.HasOneEach}
use Rattle.pas_cache.specs.{Locals.{IsFormed, RestsWith}, Calls.{MayAllocate, Begins, Frees, FlushesLog, StopsCache, SettlesEach}, Changes.EmptiesLog}
use Rattle.pas_cache.specs.{Changes.{EmptiesFull, LogsEntry, StopsEach}, Names.{IsInRegion, IsFaultOf, MayFlush, EmptiesWhere, LogsInto}}
use Rattle.pas_cache.proofs.Resting.{rests_kept}
use Rattle.pas_segregated.specs.declared.slots.Slots.{Slots}
use Rattle.pas_profile.specs.declared.{profile.Profile.Profile, event.{FreeFault.FreeFault, Range.Range}, word.Word.Word, entry.Entry.Entry}
use Rattle.pas_free_log.specs.{Conditions.IsEntryOf, Flushes.Flushes, declared.noting.EndedRun.EndedRun}

-- ==== A cache while its fields are open.

-- A cache that is at rest is so by its parts.
pub rests_open : {σ : Standing} {fields cache : CacheOf} → fields ≡ cache → CanCall σ (AtRest σ.seat.profile cache.contents)
    → CanCall σ (AtRest σ.seat.profile fields.contents)
rests_open {σ} is can = subst (λ (x : CacheOf). CanCall σ (AtRest σ.seat.profile x.contents)) (sym is) can

-- A cache that may allocate may do so by its parts.
pub may_allocate_open : {σ : Standing} {fields cache : CacheOf} {spare : ℕ} → fields ≡ cache → CanCall σ (MayAllocate σ.seat.profile cache.contents spare)
    → CanCall σ (MayAllocate σ.seat.profile fields.contents spare)
may_allocate_open {σ} {spare = spare} is can = subst (λ (x : CacheOf). CanCall σ (MayAllocate σ.seat.profile x.contents spare)) (sym is) can

-- no local allocators are kept as they must be
pub none_twice : (locals : List Slots) → locals ≡ [] → HasOneEach locals
none_twice locals none = subst HasOneEach (sym none) (λ heap class. omega arith)

-- An empty list of local allocators has only formed ones.
pub none_formed : (locals : List Slots) → locals ≡ [] → All IsFormed locals
none_formed locals none = subst (λ (xs : List Slots). All IsFormed xs) (sym none) (All-nil IsFormed)

-- ==== Begin, flush, stop and free.

-- ---- an empty cache
-- A cache without local allocators and with an empty log is at rest where its actor has nothing.
pub rests_empty : (f : Profile) (c : Cached) (v : View) → c.locals ≡ [] → c.log ≡ [] → HasNothing v → AtRest f c v
rests_empty f c v locals log none = search arith

-- ---- at rest after steps that did nothing, with the same local allocators
rests_idle : (f : Profile) (c c' : Cached) (steps : List Made) → c'.locals ≡ c.locals → Leads f IsClear (Does nothing) steps
    → ((v : View) → AtRest f c v → All (IsEntryOf f) c'.log × (length c'.log ≤ 64)) → Leads f (AtRest f c) (λ v w. AtRest f c' w) steps
rests_idle f c c' steps same does names = record {
  from = λ v h agreed.
      let log = names v h in
      record {
        locals = subst (λ xs. RestsWith f xs (steps ++ v)) (sym same) (rests_kept f c.locals steps v (does.from v h.locals.clear agreed) agreed h.locals);
        few = subst (λ xs. length xs ≤ 32) (sym same) h.few;
        entries = log.0;
        few_entries = log.1;
      };
}

-- ---- begin
pub begins : {σ σ' : Standing} (c : Cached) (epoch : ℕ) → Makes σ σ' (Look Word.Epoch) epoch → Begins c (record c { idle_since = epoch }) σ σ'
begins {σ} c epoch look = record {
  epoch = epoch;
  cache = refl;
  calls = record {
    adds = adds_step {step = Look Word.Epoch} adds_none look (λ v l stood met. tt);
    leads = rests_idle σ.seat.profile c (record c { idle_since = epoch }) (made (Look Word.Epoch) epoch ∷ []) refl
        (record { from = λ v clear agreed. does_idly σ.seat.profile looking refl (made _ epoch ∷ []) v (refl, tt) agreed }) (λ v h. (h.entries, h.few_entries));
  };
}

-- ---- flush
empties : {σ σ' : Standing} (logged : List Entry) (noted noted' : List EndedRun) (flush : Flushes logged noted noted' σ σ')
    → EmptiesLog σ.seat.actor logged noted noted' flush.steps
empties logged noted noted' flush = record { epoch = flush.epoch; settled = flush.settled; entries_are = flush.entries_are; noted_are = flush.noted; entries = flush.entries; order = flush.order; steps_are = flush.steps_are; events = flush.events; stamps = flush.stamps; few = flush.few }

-- A flush of a cache's log empties the log, and changes nothing else of the cache but its noted runs.
pub flushes_log : {σ σ' : Standing} (c c' : Cached) (noted : List EndedRun) → c' ≡ with_log c [] noted
    → Flushes c.log c.noted noted σ σ' → FlushesLog c c' σ σ'
flushes_log {σ} {σ'} c c' noted is flush =
    subst (λ x. FlushesLog c x σ σ') (sym is) (record {
      steps = flush.steps;
      calls = record {
        adds = adds_under flush.calls.adds (λ v l stood met. met.locals.clear);
        leads = rests_idle _ c (with_log c [] noted) flush.steps refl flush.calls.leads (λ v h. (All-nil (IsEntryOf σ.seat.profile), omega arith));
      };
      empties = empties c.log c.noted noted flush;
      cache = refl;
    })

-- ---- stop
-- the conditions of the parts
pub clear_call : {σ : Standing} {c : Cached} → CanCall σ (AtRest σ.seat.profile c) → CanCall σ IsClear
clear_call can = record { view = can.view; whole = can.whole; stood = can.stood; met = can.met.locals.clear }

-- After a flush a cache still rests with its local allocators.
pub flushed_call : {σ σ1 : Standing} (c c' : Cached) → FlushesLog c c' σ σ1 → CanCall σ (AtRest σ.seat.profile c)
    → CanCall σ1 (RestsWith σ1.seat.profile c'.locals)
flushed_call {σ} {σ1} c c' flush can = next_call flush.calls can (λ v h here. subst (λ (s : Seat). RestsWith s.profile c'.locals (flush.steps ++ v)) (sym flush.calls.adds.seat_is) here.locals)

-- A flush, and then a stop of all local allocators, stop the cache.
pub stops_cache : {σ σ1 σ2 : Standing} (c c1 c' : Cached) → (flush : FlushesLog c c1 σ σ1) → (stops : Releases (StopsEach c1.locals) c1.locals [] σ1 σ2)
    → c1 ≡ with_log c [] c1.noted → c' ≡ with_noted_alone c c1.noted → StopsCache c c' σ σ2
stops_cache {σ} {σ1} {σ2} c c1 c' flush stops mid is =
    let f : Profile = σ.seat.profile in
    let stop = subst (λ (s : Seat). Calls σ1 σ2 (RestsWith s.profile c1.locals) (λ v w. RestsWith s.profile [] w) stops.steps) flush.calls.adds.seat_is stops.calls in
    record {
      flushed = flush.steps;
      stopped = stops.steps;
      calls = call_then (λ v w. AtRest f c' w × HasNothing w) flush.calls stop (λ v h here. here.locals)
          (λ v h here there.
          let nothing_left : HasNothing (stops.steps ++ (flush.steps ++ v)) = record { grains = there.grains; rights = there.rights; clear = there.clear } in
          (rests_empty f c' (stops.steps ++ (flush.steps ++ v)) (ap (λ x. x.locals) is) (ap (λ x. x.log) is) nothing_left, nothing_left));
      empties = subst (λ xs. EmptiesLog σ.seat.actor c.log c.noted xs flush.steps) (sym (ap (λ x. x.noted) is)) flush.empties;
      stops = subst (λ xs. StopsEach xs stops.steps) (ap (λ x. x.locals) mid) stops.change;
      kinds = stops.kinds;
      silent = λ k v. no_events releasing refl k v stops.steps stops.kinds;
      cache = is ∙ ap (with_noted_alone c) (sym (ap (λ x. x.noted) is));
    }

-- ---- names
pub empties_where : {σ σ' : Standing} (log log' : List Entry) (noted noted' : List EndedRun) → 64 ≤ length log → log' ≡ [] → Flushes log noted noted' σ σ'
    → EmptiesWhere (nat_le 64 (length log)) log log' noted noted' σ σ'
empties_where {σ} {σ'} log log' noted noted' full none flush = search (arith, empties, le-leb)

-- A log with room needs no emptying before a name is logged.
pub empties_nothing : {σ : Standing} (log : List Entry) (noted : List EndedRun) → length log < 64
    → EmptiesWhere (nat_le 64 (length log)) log log noted noted σ σ
empties_nothing {σ} log noted few = record { steps = []; calls = call_none (λ v clear. does_none v); empties = subst (λ t. EmptiesFull t σ.seat.actor log log noted noted []) (sym (lt-leb 64 _ few)) (refl, refl, refl); ranges = λ are. are }

-- A log that was emptied where it was full, and then got an entry at its end, logs the entry.
pub logs_into : {σ σ' : Standing} (log kept log' : List Entry) (noted noted' : List EndedRun) (entry : Entry)
    → EmptiesWhere (nat_le 64 (length log)) log kept noted noted' σ σ' → log' ≡ kept ++ entry ∷ [] → LogsInto log log' noted noted' entry σ σ'
logs_into log kept log' noted noted' entry emptied is = record { steps = emptied.steps; calls = emptied.calls; logs = record { kept = kept; emptied = emptied.empties; log_is = is }; ranges = emptied.ranges }

logged_names : (f : Profile) (k : ℕ) (log log' : List Entry) (noted noted' : List EndedRun) (entry : Entry) (steps : List Made)
    → LogsEntry k log log' noted noted' entry steps → IsEntryOf f entry → All (IsEntryOf f) log → All (IsEntryOf f) log' × (length log' ≤ 64)
logged_names f k log log' noted noted' entry steps logs is names =
    let kept : All (IsEntryOf f) logs.kept × (length logs.kept < 64) = grind (arith, leb-false) in
    let n : length log' ≡ length logs.kept + 1 = ap length logs.log_is ∙ length-append logs.kept _ in
    (All-same (IsEntryOf f) log' (logs.kept ++ entry ∷ []) logs.log_is (All-push (IsEntryOf f) logs.kept entry kept.0 is), omega (arith, n, kept.1))

-- A name that may be tried, and was logged, is freed.
pub frees : {σ σ' : Standing} (c c' : Cached) (entry : Entry) → entry.name.turn < 2 ^ 40 - 1
    → (entry.room % 16 ≡ 0) × (entry.room ≤ 4096 * σ.seat.profile.pages) → IsInRegion σ.seat.profile entry.name
    → LogsInto c.log c'.log c.noted c'.noted entry σ σ' → c' ≡ with_log c c'.log c'.noted → Frees entry c c' σ σ' (Ok tt)
frees {σ} c c' entry turn size region logs is = record {
  steps = logs.steps;
  calls = record {
    adds = adds_under logs.calls.adds (λ v l stood met. met.locals.clear);
    leads = rests_idle _ c c' logs.steps (ap (λ x. x.locals) is) logs.calls.leads
        (λ v h. logged_names _ σ.seat.actor c.log c'.log c.noted c'.noted _ logs.steps logs.logs (record { name = record { page = region.page; aligned = region.aligned; turn = turn }; whole = size.0; within = size.1 }) h.entries);
  };
  outcome = record { region = region; logs = logs.logs; cache = is };
}

-- A name with a fault is refused, and the cache stays as it is.
pub refuses : {σ : Standing} (c c' : Cached) (entry : Entry) (fault : FreeFault) → IsFaultOf σ.seat.profile entry.name fault → c' ≡ c
    → Frees entry c c' σ σ (Err fault)
refuses {σ} c c' entry fault is same = search (arith, call_none)

-- A cache at rest may flush its log.
pub flush_call : {σ : Standing} {c : Cached} → CanCall σ (AtRest σ.seat.profile c) → CanCall σ (MayFlush σ.seat.profile c.log)
flush_call can = record { view = can.view; whole = can.whole; stood = can.stood; met = record { clear = can.met.locals.clear; each = can.met.entries } }

-- ==== The runs that were handed on so far.

-- Runs that were settled one by one, and one more, are settled together.
pub settles_more : {Door : Type 0} (Settles : Door → Door → ℕ → Range → Type 0) (runs : List EndedRun) (run : EndedRun) (a b c : Door)
    → SettlesEach Settles runs a b → Settles b c run.heap run.range → SettlesEach Settles (runs ++ run ∷ []) a c
settles_more Settles [] run a b c before one = (c, subst (λ x. Settles x c run.heap run.range) before one, refl)
settles_more Settles (first ∷ rest) run a b c before one = (before.0, before.1, settles_more Settles rest run before.0 b c before.2 one)

-- a run, for places past the end of a list
abbrev pub blank : EndedRun
blank = record { heap = 0; range = record { first = 0; pages = 0 } }
