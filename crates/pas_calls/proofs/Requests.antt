-- Requests, frees, blocks that get another size, and requests that are guarded: deeds and backs, and then the give of its block or a refusal, which is true.
use Rattle.std.proofs.Common.{arith, ◌≡◌, ℕ, ◌/◌, Bool, true, false, List, [], ◌∷◌, ◌++◌, Option, Some, None, Result, Ok, Err, inl, inr, refl, ap, sym, ◌∙◌}
use Rattle.std.proofs.Common.{subst, append-nil, MatchResult, ◌%◌, ◌||◌, map, nat_le, length, eq-eqb, le-leb, leb-true, ne_eqb, ◌⊎◌, append_assoc, reverse}
use Rattle.std.proofs.{Common.{MatchOption, ◌+◌, ◌*◌}, lemmas.{Bool.{and_from, and_parts, false_from_ne_true}, List.{map-append, reverse-append}}}
use Rattle.std.specs.List.{AllByRecursion}
use Rattle.pas_bits.specs.Runs.{in_run}
use Rattle.pas_profile.specs.{Blocks.{grain_of, length_of, address_of}, Profiles.{IsValid, IsPage}, Requests.route_in, Entries.{sized_entry, entry_of}}
use Rattle.pas_profile.specs.{Guards.raised_by, declared.{directory.{Directory.Directory, Route.Route}, event.{Event.Event, NoRoom.{NoRoom, TheVariants.Held}}}}
use Rattle.pas_profile.specs.declared.{event.{NoRoom.TheVariants.NoSpace, FreeFault.FreeFault}, name.{Block.Block, Name.Name}, profile.Profile.Profile}
use Rattle.pas_profile.specs.declared.{word.Word.Word, entry.Entry.Entry, guard.{Raised.Raised, Guard.Guard}}
use Rattle.pas_machine.specs.{Machine.Run, State.deed_in}
use Rattle.pas_core.proofs.{MachineRuns.runs, OneActor.legal_earlier}
use Rattle.pas_steps.specs.{Desks.triples, Events.{actor_of, events_by}, Views.KnowsDeed, Kinds.{LookLife, Backing, Giving, returning}, Lists.{Legal, Whole}}
use Rattle.pas_steps.{specs.{Lists.{part, visible, word_after}, declared.step.Made.Made}, proofs.{Events.events_own, Parts.part_of_own, Adding.triples_append}}
use Rattle.pas_steps.proofs.Frames.{events_append}
use Rattle.pas_search.specs.Telling.{IsTrueReason}
use Rattle.pas_cache.specs.{Refusals.{IsTrulyRefused, IsTrulyRefusedBy}, Caches.Cached, Calls.{RefusesName, TakesEntry}, Changes.EmptiesFull, Kinds.allocating}
use Rattle.pas_cache.{specs.Serves.{IsDeedOf, Wanted, IsPreparing as Prepares, ServesBy, pages_of}, proofs.Budget.log_kept}
use Rattle.pas_segregated.specs.declared.slots.Slots.{Slots}
use Rattle.pas_trace.specs.{declared.{item.Request.Request, plan.What.TheVariants.Alloc}, Named.{Named, named}}
use Rattle.pas_answers.specs.Answers.{IsGiven, RefusalEnds, RequestEnds, block_of, records_of, said_by, said_of_request, said_of_room, wanted_by, Answer}
use Rattle.pas_answers.specs.Answers.{IsFreed, IsFreedBy, Progress, after_answer, room_noted, said_of_fault, Caches, IsKept, IsRemadeBy, IsReplaced, IsServed}
use Rattle.pas_answers.specs.{Answers.{having, with_cache, with_book}, Refusals.{request_in_move, request_in_remade}, Guarding.{IsTried, Tried, TryEnds}}
use Rattle.pas_answers.{specs.Guarding.{after_giving, after_trying, said_of_guard}, proofs.Consequences.{Tidy, answer_tidy, tidy_piece, try_tidy}}
use Rattle.pas_check.specs.Begins.{is_full, logging, replacing, freeing, freeing_at, freeing_named, is_aligned, is_page, tells as saying, remaking}
use Rattle.pas_check.specs.{Begins.{remaking_named, suits, guard_of, has_sides, page_above, page_below, raising, sweeping}, Calls.after_request}
use Rattle.pas_check.specs.{Accepted.{IsDone, IsWhole}, Takes.{IsRefusal, directory_of, Takes, is_back, IsServing, block_in, given_next, kept_next}, States.Due}
use Rattle.pas_check.{specs.States.{Serves, Stand, with_due, with_name, Task, Tries, with_one}, proofs.Ticks.epoch_kept}
use Rattle.pas_rights.specs.Gives.{give_steps}
use Rattle.pas_free_log.specs.Frames.{freeing as freeing_kinds}
use Rattle.pas_scan.specs.Runs.{large_directory}
use Rattle.pas_guard.specs.{Raises.{IsNotRaised, IsRaised, RaiseSteps, guard_of as guard_at}, Seeks.seeking, Sweeps.sweeping as sweeping_kinds}
use Rattle.pas_guard.proofs.Raises.{raised_backs, raised_leaves}
use Rattle.pas_records.specs.{declared.record.{Record.Record, Said.Said}, Lines.line_of_event}
use Rattle.pas_calls.proofs.Telling.{LeadsOn, on_as, on_both, on_line, on_same, lines_both, lines_by, lines_more, shown_is, flush_only, flush_leads, emptied}
use Rattle.pas_calls.proofs.Telling.{logs_with, table_same, own_at, put_twice, Comes, Tells, told_after, piece_of, AreBooked, booked_raise, booked_sweep}
use Rattle.pas_calls.proofs.{Telling.{after_piece, kind_asked, deed_told, deed_known}, Passes.{swept_is, IsSwept, sweep_leads, up_after}}

-- ---- A request: deeds and backs, and then the give of its block or a refusal, which is true
-- ---- deeds and backs
-- where the request goes on, after these events
abbrev pub serving : Stand → ℕ → Request → Option Name → List Event → Stand
serving w k r replaced es = record w { events = es; due = Serves k r replaced ∷ [] }

-- in each case it computes, or is given
prepared_by : (f : Profile) (s : Stand) (k : ℕ) (r : Request) (e : Event) → Prepares (directory_of f r) e → actor_of e ≡ k
    → IsServing f s k r e × (block_in e ≡ None)
prepared_by f s k r e is own = search arith

-- Deeds and backs of its directory by its actor lead on with a request.
prepares_lead : (f : Profile) (w : Stand) (k : ℕ) (r : Request) (replaced : Option Name) (es : List Event)
    → AllByRecursion (Prepares (directory_of f r)) es → AllByRecursion (λ e. actor_of e ≡ k) es → Run f (es ++ w.events)
    → LeadsOn f (serving w k r replaced w.events) (lines_by (records_of es)) (serving w k r replaced (es ++ w.events))
prepares_lead f w k r replaced [] all own run = on_same refl
prepares_lead f w k r replaced (e ∷ es) all own run =
    let s : Stand = serving w k r replaced (es ++ w.events) in
    let is = prepared_by f s k r e all.0 own.0 in
    on_as (lines_more e es) refl (on_both (prepares_lead f w k r replaced es all.1 own.1 run.1) (on_line (inr record {
      item = Record.Event e;
      may = (is.0, run.0);
      line_is = refl;
      next_is = ap (λ o. given_next o (with_one s e) k r replaced []) (sym is.1);
    })))

-- ---- the end
deeds_prepare : (d : Directory) (e : Event) → IsDeedOf d e → Prepares d e
deeds_prepare d e (IsDeedOf.Deeds k page) = Prepares.Deeds k page

-- Deeds of one directory prepare a request.
all_deeds : (d : Directory) (es : List Event) → AllByRecursion (IsDeedOf d) es → AllByRecursion (Prepares d) es
all_deeds d [] all = tt
all_deeds d (e ∷ es) all = (deeds_prepare d e all.0, all_deeds d es all.1)

refusal_prepares : (route : Route) (d : Directory) (es : List Event) → RefusalEnds route d es → AllByRecursion (Prepares d) es
refusal_prepares route d es all = search (arith, all_deeds)

-- in each case it computes, or is given
reason_by : (route : Route) (f : Profile) (w : Wanted) (locals : List Slots) (entry exit : Whole) (room : NoRoom)
    → IsTrulyRefusedBy route f w locals entry exit room → IsTrueReason f w.directory exit room
reason_by route f w locals entry exit room h = search arith

-- after the request
abbrev pub served : Stand → ℕ → Request → Option Name → Result Block NoRoom → List Event → Stand
served w k r replaced answer es = after_request (record w { events = es }) k r replaced (block_of answer) []

-- where nothing is replaced, its name stands for the block, or for nothing
pub served_plain : (w : Stand) (k : ℕ) (r : Request) (answer : Result Block NoRoom) (es : List Event)
    → served w k r None answer es ≡ record w { events = es; names = record { name = r.name; block = block_of answer } ∷ w.names; due = [] }
served_plain w k r answer es = search arith

-- what was due before doesn't matter then
logged_apart : (full : Bool) (v : Stand) (k : ℕ) (entry : Entry) (due : List Due) → logging full (with_due v due) k entry [] ≡ logging full v k entry []
logged_apart full v k entry due = search arith

due_apart : (replaced : Option Name) (v : Stand) (k : ℕ) (due : List Due) → replacing replaced (with_due v due) k [] ≡ replacing replaced v k []
due_apart replaced v k due = search (arith, logged_apart)

module _ (f : Profile) (valid : IsValid f) (w : Stand) (k : ℕ) (r : Request) (replaced : Option Name) (l : Whole) (steps : List Made)
    (events : w.events ≡ visible l) (legal : Legal f (triples k steps ++ l)) where
  given_leads : (block : Block) → IsGiven k (wanted_by f r) (part k l) steps block
      → LeadsOn f (serving w k r replaced w.events) (lines_by (records_of (events_by k (part k l) steps) ++ []))
      (served w k r replaced (Ok block) (visible (triples k steps ++ l)))
  given_leads block h =
      let give : Event = Event.Give k block in
      let before : List Event = h.before in
      let shown : visible (triples k steps ++ l) ≡ (give ∷ before) ++ w.events = shown_is w k steps l events (give ∷ before) h.events in
      let all : Run f ((give ∷ before) ++ w.events) = subst (Run f) shown (runs f (triples k steps ++ l) valid legal) in
      let own : AllByRecursion (λ e. actor_of e ≡ k) (give ∷ before) = subst (AllByRecursion (λ e. actor_of e ≡ k)) h.events (events_own k (part k l) steps) in
      let deeds : (x : ℕ) → in_run (grain_of block.name) (length_of block) x ≡ true → deed_in (before ++ w.events) (x / 256) ≡ Some (directory_of f r)
      = λ x inside. subst (λ es. deed_in es (x / 256) ≡ Some (directory_of f r)) shown
      (deed_known f (triples k steps ++ l) k (x / 256) (directory_of f r) legal (kind_asked f r)
      (subst (KnowsDeed (x / 256) (directory_of f r)) (sym (part_of_own k steps l)) (h.of_directory x inside))) in
      let next_is = sym (due_apart replaced (with_name (record w { events = (give ∷ before) ++ w.events }) r.name (Some block)) k (Serves k r replaced ∷ [])) in
      on_as (ap lines_by (append-nil (records_of (events_by k (part k l) steps))) ∙ ap (λ es. lines_by (records_of es)) h.events ∙ lines_more give before)
      (ap (served w k r replaced (Ok block)) shown)
      (on_both (prepares_lead f w k r replaced before h.prepared own.1 all.1)
      (on_line (inr record {
        item = Record.Event give;
        may = ((refl, record { heap = h.of_heap; room = h.room; aligned = h.aligned; deeds = deeds }), all.0);
        line_is = refl;
        next_is = next_is;
      })))

  -- A true reason is one that the check takes.
  refuses : (room : NoRoom) → IsTrueReason f (directory_of f r) (triples k steps ++ l) room → (es : List Event) → visible (triples k steps ++ l) ≡ es
      → IsRefusal f (serving w k r replaced es) r (said_of_room r.name room)
  refuses NoSpace true_reason es shown = inl refl
  refuses (Held page) true_reason es shown =
      inr (
        page,
        rw shown at (deed_told f (triples k steps ++ l) page (directory_of f r) legal (kind_asked f r) true_reason.0.of_directory),
        refl,
      )

  refused_leads : (room : NoRoom) → RefusalEnds (wanted_by f r).route (directory_of f r) (events_by k (part k l) steps)
      → IsTrueReason f (directory_of f r) (triples k steps ++ l) room
      → LeadsOn f (serving w k r replaced w.events) (lines_by (records_of (events_by k (part k l) steps) ++ Record.Said k (said_of_room r.name room) ∷ []))
      (served w k r replaced (Err room) (visible (triples k steps ++ l)))
  refused_leads room ends true_reason =
      let es : List Event = events_by k (part k l) steps in
      let shown : visible (triples k steps ++ l) ≡ es ++ w.events = shown_is w k steps l events es refl in
      let said : Said = said_of_room r.name room in
      on_as (lines_both (records_of es) (Record.Said k said ∷ [])) (ap (served w k r replaced (Err room)) shown)
      (on_both (prepares_lead f w k r replaced es (refusal_prepares (wanted_by f r).route (directory_of f r) es ends)
      (events_own k (part k l) steps) (subst (Run f) shown (runs f (triples k steps ++ l) valid legal)))
      (on_line (inr record { item = Record.Said k said; may = (refl, refuses room true_reason (es ++ w.events) shown); line_is = refl; next_is = refl })))

  -- THE REQUEST, as it was answered
  pub request_leads : (locals : List Slots) (answer : Result Block NoRoom) → RequestEnds k (wanted_by f r) (part k l) steps answer
      → MatchResult answer (λ block. Unit {0}) (IsTrulyRefused f (wanted_by f r) locals l (triples k steps ++ l))
      → LeadsOn f (serving w k r replaced w.events) (lines_by (records_of (events_by k (part k l) steps) ++ said_by k (said_of_request r.name answer)))
      (served w k r replaced answer (visible (triples k steps ++ l)))
  request_leads locals answer ends truly = search (arith, given_leads, refused_leads, reason_by)

-- ---- A free: its entry is logged, after a full log was emptied; or it is said why it can't be any block's
-- ---- where a name stands
page_is : (f : Profile) (page : ℕ) → IsPage f page → is_page f page ≡ true
page_is f page is = and_from (nat_le 1 page) (nat_le page f.pages) (le-leb 1 page is.0) (le-leb page f.pages is.1)

page_isnt : (f : Profile) (page : ℕ) → (IsPage f page → ⊥) → is_page f page ≡ false
page_isnt f page isnt =
    false_from_ne_true (is_page f page) (λ t. let both = and_parts (nat_le 1 page) (nat_le page f.pages) t in isnt (leb-true 1 page both.0, leb-true page f.pages both.1))

-- nothing is said besides
pub silent_lines : (k : ℕ) (said : Option Said) (rs : List Record) → said ≡ None → lines_by (rs ++ said_by k said) ≡ lines_by rs
silent_lines k said rs none = ap (λ o. lines_by (rs ++ said_by k o)) none ∙ ap lines_by (append-nil rs)

-- lines that lead to where an act's lines go on
comes_after : (f : Profile) (s u : Stand) (q : Progress) (ts : List Task) (before : List Record) {rs : List Record} → LeadsOn f s (lines_by before) u
    → Comes f u rs q ts → Comes f s (before ++ rs) q ts
comes_after f s u q ts before {rs} led come = record {
  end = come.end;
  leads = on_as (lines_both before rs) refl (on_both led come.leads);
  tells = come.tells;
}

module _ (f : Profile) (valid : IsValid f) (p : Progress) (s : Stand) (ts : List Task) (tells : Tells p s) (k : ℕ) (a : Answer) (names : a.names ≡ p.names)
    (tidy : Tidy (a.steps ++ part k p.list)) (legal : Legal f (triples k a.steps ++ p.list)) where
  -- ---- it is only said
  said_comes : (said : Said) → a.steps ≡ [] → a.cache ≡ p.caches k → a.said ≡ Some said → LeadsOn f s [] (record (saying s k said) { left = ts })
      → Comes f s (records_of (events_by k (part k p.list) a.steps) ++ said_by k a.said) (after_answer p k a) ts
  said_comes said none cache is begun =
      search (arith, on_as, on_both, on_line, told_after, table_same)

  -- ---- it is logged
  logged_comes : (full : Bool) (entry : Entry) (kept : List Entry) → EmptiesFull full k (p.caches k).log kept (p.caches k).noted a.cache.noted a.steps
      → a.cache.log ≡ kept ++ entry ∷ [] → a.cache.idle_since ≡ (p.caches k).idle_since → a.said ≡ None
      → Comes f (record (logging full s k entry []) { left = ts }) (records_of (events_by k (part k p.list) a.steps) ++ said_by k a.said) (after_answer p k a) ts
  logged_comes true entry kept h log idle silent =
      let t : Stand = emptied p s k a.steps (entry ∷ []) [] ts in
      let rs : List Record = records_of (events_by k (part k p.list) a.steps) in
      record {
        end = t;
        leads = on_as (silent_lines k a.said rs silent) refl (flush_leads f valid p s tells k (p.caches k).noted a.cache.noted a.steps h.0 legal (entry ∷ []) [] ts);
        tells = told_after p s t k a.steps a.cache a.names _ tells refl (tells.names ∙ sym names)
            (logs_with p s k a.cache (entry ∷ []) tells (log ∙ ap (λ (es : List Entry). es ++ entry ∷ []) h.1)) idle refl refl refl
            (epoch_kept freeing_kinds refl k a.steps p.list (flush_only k (p.caches k).log (p.caches k).noted a.cache.noted a.steps h.0)) tidy;
      }
  logged_comes false entry kept h log idle silent =
      let more : List Entry = s.logs k ++ entry ∷ [] in
      let t : Stand = record (logging false s k entry []) { left = ts } in
      let rs : List Record = records_of (events_by k (part k p.list) a.steps) in
      record {
        end = t;
        leads = on_as (silent_lines k a.said rs silent ∙ ap (λ ms. lines_by (records_of (events_by k (part k p.list) ms))) h.0) refl (on_same refl);
        tells = search (arith, told_after, logs_with);
      }

  -- ---- a free of a block
  full_is : nat_le 64 (length (s.logs k)) ≡ nat_le 64 (length (p.caches k).log)
  full_is = ap (λ (es : List Entry). nat_le 64 (length es)) (sym (tells.logs k))

  fault_comes : (entry : Entry) (fault : FreeFault) → RefusesName f (p.caches k) a.cache entry.name a.steps fault
      → a.said ≡ Some (said_of_fault entry.name fault) → LeadsOn f s [] (record (freeing f s k entry) { left = ts })
      → Comes f s (records_of (events_by k (part k p.list) a.steps) ++ said_by k a.said) (after_answer p k a) ts
  fault_comes entry fault h said begun = search (arith, page_isnt, said_comes, on_as, page_is, ne_eqb)

  -- The lines of a free lead the check to what the free comes to.
  pub free_comes : (entry : Entry) → IsFreed f k (p.caches k) a.cache entry a.steps a.said
      → LeadsOn f s [] (record (freeing f s k entry) { left = ts })
      → Comes f s (records_of (events_by k (part k p.list) a.steps) ++ said_by k a.said) (after_answer p k a) ts
  free_comes entry (inl h) begun =
      let there = ap (λ x. record (freeing_at x (is_aligned entry.name) s k entry) { left = ts }) (page_is f (address_of entry.name / 4096) h.0.region.page)
      ∙ ap (λ x. record (freeing_at true x s k entry) { left = ts }) (eq-eqb (address_of entry.name % 16) 0 h.0.region.aligned)
      ∙ ap (λ x. record (logging x s k entry []) { left = ts }) full_is in
      comes_after f s _ _ ts [] (on_as refl (sym there) begun) (logged_comes
      (nat_le 64 (length (p.caches k).log)) entry h.0.logs.kept h.0.logs.emptied h.0.logs.log_is (ap (λ (d : Cached). d.idle_since) h.0.cache) h.1)
  free_comes entry (inr h) begun = fault_comes entry h.0 h.1 h.2 begun

  -- ---- a free of what a name of the trace stands for
  pub freed_comes : (name : ℕ) (room : Option ℕ) (block : Option (Option Block)) → IsFreedBy f k (p.caches k) a.cache name room block a.steps a.said
      → LeadsOn f s [] (record (freeing_named f s k name (room_noted room) block) { left = ts })
      → Comes f s (records_of (events_by k (part k p.list) a.steps) ++ said_by k a.said) (after_answer p k a) ts
  freed_comes name room None h begun = absurd h
  freed_comes name room (Some None) h begun = said_comes (Said.Skipped name) h.0 h.1 h.2 begun
  freed_comes name room (Some (Some block)) h begun = free_comes (sized_entry block.name (room_noted room)) h begun

-- ---- Another size for a block: it is kept, which is said; or another one is asked for in its place, and the old name is logged once that is given
-- no request changes when its thread read the epoch
idle_kept : (f : Profile) (wanted : Wanted) (found : Option ℕ) (c c' : Cached) (steps : List Made) (answer : Result Block NoRoom) (route : Route)
    → ServesBy route f wanted found c c' steps answer → c'.idle_since ≡ c.idle_since
idle_kept f wanted found c c' steps answer route h = search arith

-- ---- what a check knows after a request
module _ (f : Profile) (p : Progress) (s : Stand) (ts : List Task) (tells : Tells p s) (k : ℕ) (r : Request) (placed : Answer)
    (is : IsServed f k r (having p.names (part k p.list) (p.caches k)) placed) (legal : Legal f (triples k placed.steps ++ p.list)) where
  abbrev pub asked_then : Stand
  asked_then = record s { events = visible (triples k placed.steps ++ p.list); names = record { name = r.name; block = block_of is.answer } ∷ s.names; due = []; left = ts }

  -- After a reallocation's request was answered, the check knows what the replay came to.
  pub asked_tells : (records : List Record) → Tells (after_piece p k placed.steps placed.cache placed.names records) asked_then
  asked_tells records = told_after p s asked_then k placed.steps placed.cache placed.names records tells refl
      (ap (λ ns. record { name = r.name; block = block_of is.answer } ∷ ns) tells.names ∙ sym is.names_are)
      (λ j. grind (arith, table_same, log_kept))
      (idle_kept f (wanted_by f r) placed.found (p.caches k) placed.cache placed.steps is.answer (route_in f r.size r.align) is.serves) refl refl refl
      (epoch_kept allocating refl k placed.steps p.list is.kinds)
      (answer_tidy f k (Alloc r.name r.heap r.size r.align) (having p.names (part k p.list) (p.caches k)) placed is (piece_of f k placed.steps p.list legal) (tells.tidy k))

-- in each case it computes, or is given
logged_state : (full : Bool) (v : Stand) (k : ℕ) (entry : Entry)
    → record (logging full (record v { due = [] }) k entry []) { left = v.left } ≡ logging full v k entry []
logged_state full v k entry = search arith

records_both : (xs ys : List Event) → records_of (xs ++ ys) ≡ records_of ys ++ records_of xs
records_both xs ys = ap (λ (es : List Event). map Record.Event es) (reverse-append xs ys) ∙ map-append Record.Event (reverse ys) (reverse xs)

module _ (f : Profile) (valid : IsValid f) (p : Progress) (s : Stand) (ts : List Task) (tells : Tells p s) (k : ℕ) (a : Answer)
    (tidy : Tidy (a.steps ++ part k p.list)) (legal : Legal f (triples k a.steps ++ p.list)) where
  -- ---- it is only said, and the name stands for this
  named_said : (name : ℕ) (found : Option Block) (said : Said) → a.steps ≡ [] → a.cache ≡ p.caches k → a.said ≡ Some said → a.names ≡ named name found ∷ p.names
      → LeadsOn f s [] (record (saying (with_name s name found) k said) { left = ts })
      → Comes f s (records_of (events_by k (part k p.list) a.steps) ++ said_by k a.said) (after_answer p k a) ts
  named_said name found said none cache is names begun =
      let t : Stand = record (with_name s name found) { due = []; left = ts } in
      record {
        end = t;
        leads = search (arith, on_as, on_both, on_line);
        tells = search (arith, told_after, table_same);
      }

  -- ---- another block in its place
  -- what is known after other steps, tables and names that are the same: nothing that is told looks at the rest
  tells_as : (names names' : List Named) (caches caches' : Caches) (list list' : Whole) (epoch epoch' : ℕ) (records records' : List Record) (t : Stand)
      → names' ≡ names → caches' ≡ caches → list' ≡ list
      → Tells record { names = names; caches = caches; books = p.books; epoch = epoch; list = list; records = records } t
      → Tells record { names = names'; caches = caches'; books = p.books; epoch = epoch'; list = list'; records = records' } t
  tells_as names names' caches caches' list list' epoch epoch' records records' t same_names same_caches same_list known_there = search arith

  module _ (r : Request) (old : Name) (placed : Answer) (is : IsServed f k r (having p.names (part k p.list) (p.caches k)) placed) (freed : List Made)
      (steps_are : a.steps ≡ freed ++ placed.steps)
      (said_is : a.said ≡ placed.said) (names_are : a.names ≡ placed.names)
      (begun : LeadsOn f s [] (serving (record s { left = ts }) k r (Some old) s.events)) where
    legal_both : Legal f (triples k (freed ++ placed.steps) ++ p.list)
    legal_both = subst (λ ms. Legal f (triples k ms ++ p.list)) steps_are legal

    legal_placed : Legal f (triples k placed.steps ++ p.list)
    legal_placed = legal_earlier f k freed placed.steps p.list legal_both

    abbrev first : List Record
    first = records_of (events_by k (part k p.list) placed.steps) ++ said_by k (said_of_request r.name is.answer)

    abbrev list1 : Whole
    list1 = triples k placed.steps ++ p.list

    leads_first : MatchResult is.answer (λ block. Unit {0}) (IsTrulyRefused f (wanted_by f r) (p.caches k).locals p.list list1)
        → LeadsOn f s (lines_by first) (served (record s { left = ts }) k r (Some old) is.answer (visible list1))
    leads_first truly = on_both begun (request_leads f valid (record s { left = ts }) k r (Some old) p.list placed.steps tells.events legal_placed
        (p.caches k).locals is.answer is.ends truly)

    abbrev s1 : Stand
    s1 = asked_then f p s ts tells k r placed is legal_placed

    abbrev p1 : Progress
    p1 = after_answer p k placed

    -- it was refused
    refused_so : freed ≡ [] → a.cache ≡ placed.cache → LeadsOn f s (lines_by first) s1
        → Comes f s (records_of (events_by k (part k p.list) a.steps) ++ said_by k a.said) (after_answer p k a) ts
    refused_so none cache leads =
        let steps : a.steps ≡ placed.steps = steps_are ∙ ap (λ ms. ms ++ placed.steps) none in
        let said : a.said ≡ said_of_request r.name is.answer = said_is ∙ is.said_is in
        record {
          end = s1;
          leads = on_as (λ i. lines_by (records_of (events_by k (part k p.list) (steps i)) ++ said_by k (said i))) refl leads;
          tells = tells_as _ _ _ _ _ _ p.epoch p.epoch [] _ s1 names_are (ap (with_cache p.caches k) cache) (ap (λ ms. triples k ms ++ p.list) steps)
              (asked_tells f p s ts tells k r placed is legal_placed []);
        }

    -- it was served, and the old name was logged
    abbrev logs_old : Answer
    logs_old = record { steps = freed; said = None; found = None; names = placed.names; cache = a.cache }

    -- The thread's cache is that after its request.
    own : p1.caches k ≡ placed.cache
    own = own_at p.caches k placed.cache

    legal_freed : Legal f (triples k freed ++ p1.list)
    legal_freed = subst (Legal f) (sym (triples_append k freed placed.steps p.list)) legal_both

    part_is : part k p1.list ≡ placed.steps ++ part k p.list
    part_is = part_of_own k placed.steps p.list

    tidy_freed : Tidy (freed ++ part k p1.list)
    tidy_freed = subst Tidy (ap (λ ms. ms ++ part k p.list) steps_are ∙ append_assoc freed placed.steps (part k p.list) ∙ ap (λ (v : List Made). freed ++ v) (sym part_is)) tidy

    -- The check's state tells of the replay's after the request.
    tells1 : Tells p1 s1
    tells1 = asked_tells f p s ts tells k r placed is legal_placed p1.records

    abbrev logging_old : Stand
    logging_old = record (logging (nat_le 64 (length (p1.caches k).log)) s1 k (entry_of old) []) { left = ts }

    logged_old : TakesEntry f k placed.cache a.cache (entry_of old) freed
        → Comes f logging_old (records_of (events_by k (part k p1.list) freed) ++ []) (after_answer p1 k logs_old) ts
    logged_old takes = logged_comes f valid p1 s1 ts tells1 k logs_old refl tidy_freed legal_freed (nat_le 64 (length (p1.caches k).log)) (entry_of old) takes.logs.kept
        (subst (λ (d : Cached). EmptiesFull (nat_le 64 (length d.log)) k d.log takes.logs.kept d.noted a.cache.noted freed) (sym own) takes.logs.emptied)
        takes.logs.log_is (ap (λ (d : Cached). d.idle_since) takes.cache ∙ ap (λ (d : Cached). d.idle_since) (sym own)) refl

    lines_are : a.said ≡ None → said_of_request r.name is.answer ≡ None
        → records_of (events_by k (part k p.list) a.steps) ++ said_by k a.said ≡ first ++ (records_of (events_by k (part k p1.list) freed) ++ [])
    lines_are silent none =
        let v = part k p.list in
        let mine : List Record = records_of (events_by k v placed.steps) in
        let later : List Record = records_of (events_by k (placed.steps ++ v) freed) in
        ap (λ o. records_of (events_by k v a.steps) ++ said_by k o) silent ∙ append-nil (records_of (events_by k v a.steps))
        ∙ ap (λ ms. records_of (events_by k v ms)) steps_are ∙ ap records_of (events_append k freed placed.steps v)
        ∙ records_both (events_by k (placed.steps ++ v) freed) (events_by k v placed.steps)
        ∙ ap (λ (rs : List Record). rs ++ later) (sym (append-nil mine) ∙ ap (λ o. mine ++ said_by k o) (sym none))
        ∙ ap (λ (rs : List Record). first ++ rs) (ap (λ x. records_of (events_by k x freed)) (sym part_is) ∙ sym (append-nil (records_of (events_by k (part k p1.list) freed))))

    served_so : said_of_request r.name is.answer ≡ None → TakesEntry f k placed.cache a.cache (entry_of old) freed → LeadsOn f s (lines_by first) logging_old
        → Comes f s (records_of (events_by k (part k p.list) a.steps) ++ said_by k a.said) (after_answer p k a) ts
    served_so none takes leads =
        let come = comes_after f s logging_old (after_answer p1 k logs_old) ts first leads (logged_old takes) in
        search (arith, on_as, lines_are, said_is, tells_as, put_twice, triples_append)

    -- THE REQUEST in its place, as it was answered
    logging_is : (v : Stand) → v.left ≡ ts → record v { due = [] } ≡ s1 → logging (is_full v k) v k (entry_of old) [] ≡ logging_old
    logging_is v left same =
        search (arith, logged_state, full_is, tells1, tidy_freed, legal_freed)

    -- Whether the request was served or refused, the rest of the reallocation follows.
    answered : (answer : Result Block NoRoom) → is.answer ≡ answer
        → MatchResult answer (λ block. TakesEntry f k placed.cache a.cache (entry_of old) freed) (λ room. (freed ≡ []) × (a.cache ≡ placed.cache))
        → LeadsOn f s (lines_by first) (served (record s { left = ts }) k r (Some old) is.answer (visible list1))
        → Comes f s (records_of (events_by k (part k p.list) a.steps) ++ said_by k a.said) (after_answer p k a) ts
    answered (Ok block) same logged leads =
        let v : Stand = with_name (record s { events = visible list1; left = ts }) r.name (Some block) in
        let is_s1 : record v { due = [] } ≡ s1 =
        ap (λ x. record s { events = visible list1; names = record { name = r.name; block = block_of x } ∷ s.names; due = []; left = ts }) (sym same) in
        served_so (ap (said_of_request r.name) same) logged
        (on_as refl (sym (ap (λ x. served (record s { left = ts }) k r (Some old) x (visible list1)) same ∙ logging_is v refl is_s1)) leads)
    answered (Err room) same logged leads =
        search (arith, refused_so, on_as)

  -- ---- WHAT IT COMES TO
  moved_comes : (r : Request) (old : Block)
      (is : IsKept r old (having p.names (part k p.list) (p.caches k)) a ⊎ IsReplaced f k r old (having p.names (part k p.list) (p.caches k)) a)
      → MatchOption (request_in_move f k r old (having p.names (part k p.list) (p.caches k)) a is) (Unit {0})
      (λ x. MatchResult x.served.answer (λ block. Unit {0})
      (IsTrulyRefused f (wanted_by f x.request) (p.caches k).locals p.list (triples k x.placed.steps ++ p.list)))
      → LeadsOn f s [] (record (remaking (suits old r.size r.align) s k r old) { left = ts })
      → Comes f s (records_of (events_by k (part k p.list) a.steps) ++ said_by k a.said) (after_answer p k a) ts
  moved_comes r old (inl kept) truly begun =
      search (arith, named_said, on_as)
  moved_comes r old (inr h) truly begun =
      let there : LeadsOn f s [] (serving (record s { left = ts }) k r (Some old.name) s.events) =
      on_as refl (ap (λ x. record (remaking x s k r old) { left = ts }) (sym h.unsuited)) begun in
      answered r old.name h.placed h.served h.freed h.steps_are h.said_is h.names_are there h.served.answer refl h.logged
      (leads_first r old.name h.placed h.served h.freed h.steps_are h.said_is h.names_are there truly)

  -- The lines of a reallocation lead the check to what it comes to.
  pub remade_comes : (name size align : ℕ) (found : Option (Option Block))
      (is : IsRemadeBy f k name size align found (having p.names (part k p.list) (p.caches k)) a)
      → MatchOption (request_in_remade f k name size align found (having p.names (part k p.list) (p.caches k)) a is) (Unit {0})
      (λ x. MatchResult x.served.answer (λ block. Unit {0})
      (IsTrulyRefused f (wanted_by f x.request) (p.caches k).locals p.list (triples k x.placed.steps ++ p.list)))
      → LeadsOn f s [] (record (remaking_named s k name size align found) { left = ts })
      → Comes f s (records_of (events_by k (part k p.list) a.steps) ++ said_by k a.said) (after_answer p k a) ts
  remade_comes name size align found is truly begun = search (arith, named_said, moved_comes)

-- ---- the keeper's own lines
-- where it tries the request, after these events
abbrev pub trying : Stand → ℕ → ℕ → Request → Bool → List Event → Stand
trying w keeper k r backed es = record w { events = es; due = Tries keeper k r backed ∷ [] }

abbrev pub any_back : List Event → Bool
any_back [] = false
any_back (e ∷ es) = any_back es || is_back e

-- .. and the keeper's lead on with its try
keeping_lead : (f : Profile) (w : Stand) (keeper k : ℕ) (r : Request) (es : List Event) → AllByRecursion (Prepares (directory_of f r)) es
    → AllByRecursion (λ e. actor_of e ≡ keeper) es → Run f (es ++ w.events)
    → LeadsOn f (trying w keeper k r false w.events) (lines_by (records_of es)) (trying w keeper k r (any_back es) (es ++ w.events))
keeping_lead f w keeper k r [] all own run = on_same refl
keeping_lead f w keeper k r (e ∷ es) all own run =
    let s : Stand = trying w keeper k r (any_back es) (es ++ w.events) in
    let is = prepared_by f s keeper r e all.0 own.0 in
    on_as (lines_more e es) refl (on_both (keeping_lead f w keeper k r es all.1 own.1 run.1) (on_line (inr (inl record {
      event = e;
      serves = is.0;
      admitted = run.0;
      line_is = refl;
      next_is = ap (λ o. kept_next o f (with_one s e) keeper k r (any_back (e ∷ es)) []) (sym is.1);
    }))))

deed_backs_none : (d : Directory) (e : Event) → IsDeedOf d e → is_back e ≡ false
deed_backs_none d e (IsDeedOf.Deeds k page) = refl

deeds_back_none : (d : Directory) (es : List Event) → AllByRecursion (IsDeedOf d) es → any_back es ≡ false
deeds_back_none d [] all = refl
deeds_back_none d (e ∷ es) all = let rest = deeds_back_none d es all.1 in let one = deed_backs_none d e all.0 in λ i. rest i || one i

-- where the keeper backed nothing, its thread may be served
module _ (f : Profile) (w : Stand) (keeper k : ℕ) (r : Request) (es : List Event) where
  abbrev pub by_thread : Stand
  by_thread = record w { events = es; due = Serves k r None ∷ [] }

  -- in each case it computes, or is given
  taken_by : (line : List ℕ) (next : Stand) → Takes f by_thread line next → Takes f (trying w keeper k r false es) line next
  taken_by line next given = search arith

  on_thread : LeadsOn f (trying w keeper k r false es) [] by_thread
  on_thread = record { on = past }
    where
      past : (more : List (List ℕ)) → IsWhole f by_thread more → IsWhole f (trying w keeper k r false es) more
      past [] whole = let none = ap (λ (ds : List Due). length ds) (subst (IsDone f) whole.1 whole.2) in absurd (omega (arith, none))
      past (line ∷ more) whole = (whole.0, (whole.1.0, taken_by line whole.1.0 whole.1.1, whole.1.2), whole.2)

-- after the give of its block the guard is up
abbrev pub guarded : Stand → ℕ → Request → Block → List Event → Stand
guarded w keeper r block es = record w { events = es; names = record { name = r.name; block = Some block } ∷ w.names; guards = w.guards ++ raised_by keeper (guard_of block) ∷ []; due = [] }

abbrev pub guard_said : ℕ → Request → Block → Record
guard_said keeper r block = Record.Said keeper (Said.Guarded (page_below block) (page_above block) r.name)

module _ (f : Profile) (valid : IsValid f) (w : Stand) (keeper k : ℕ) (r : Request) (l : Whole) (steps : List Made) (events : w.events ≡ visible l)
    (legal : Legal f (triples keeper steps ++ l)) where
  guarded_leads : (block : Block) → IsGiven keeper (wanted_by f r) (part keeper l) steps block → has_sides f block ≡ true
      → LeadsOn f (trying w keeper k r false w.events) (lines_by (records_of (events_by keeper (part keeper l) steps) ++ guard_said keeper r block ∷ []))
      (guarded w keeper r block (visible (triples keeper steps ++ l)))
  guarded_leads block h sides =
      let give : Event = Event.Give keeper block in
      let before : List Event = h.before in
      let shown_swept : visible (triples keeper steps ++ l) ≡ (give ∷ before) ++ w.events = shown_is w keeper steps l events (give ∷ before) h.events in
      let all : Run f ((give ∷ before) ++ w.events) = subst (Run f) shown_swept (runs f (triples keeper steps ++ l) valid legal) in
      let own : AllByRecursion (λ e. actor_of e ≡ keeper) (give ∷ before) = subst (AllByRecursion (λ e. actor_of e ≡ keeper)) h.events (events_own keeper (part keeper l) steps) in
      let start : Stand = trying w keeper k r false w.events in
      let old : Stand = trying w keeper k r (any_back before) (before ++ w.events) in
      let mid : Stand = raising true (with_name (with_one old give) r.name (Some block)) keeper r.name block [] in
      let deeds : (x : ℕ) → in_run (grain_of block.name) (length_of block) x ≡ true → deed_in (before ++ w.events) (x / 256) ≡ Some (directory_of f r)
      = λ x inside. subst (λ es. deed_in es (x / 256) ≡ Some (directory_of f r)) shown_swept
      (deed_known f (triples keeper steps ++ l) keeper (x / 256) (directory_of f r) legal (kind_asked f r)
      (subst (KnowsDeed (x / 256) (directory_of f r)) (sym (part_of_own keeper steps l)) (h.of_directory x inside))) in
      let given : LeadsOn f start (lines_by (records_of before) ++ line_of_event give ∷ []) mid
      = on_both (keeping_lead f w keeper k r before h.prepared own.1 all.1)
      (on_line (inr (inl record {
        event = give;
        serves = (refl, record { heap = h.of_heap; room = h.room; aligned = h.aligned; deeds = deeds });
        admitted = all.0;
        line_is = refl;
        next_is = ap (λ t. raising t (with_name (with_one old give) r.name (Some block)) keeper r.name block []) (sym sides);
      }))) in
      on_as
      (simp (lines_both, h.events, lines_more))
      (ap (guarded w keeper r block) shown_swept)
      (on_both given (on_line (inr (refl, refl))))

  tried_leads : AllByRecursion (IsDeedOf (directory_of f r)) (events_by keeper (part keeper l) steps)
      → LeadsOn f (trying w keeper k r false w.events) (lines_by (records_of (events_by keeper (part keeper l) steps)))
      (trying w keeper k r false (visible (triples keeper steps ++ l)))
  tried_leads deeds =
      let es : List Event = events_by keeper (part keeper l) steps in
      let shown_swept : visible (triples keeper steps ++ l) ≡ es ++ w.events = shown_is w keeper steps l events es refl in
      on_as refl
      (λ i. trying w keeper k r (sym (deeds_back_none (directory_of f r) es deeds) i) (shown_swept i))
      (keeping_lead f w keeper k r es (all_deeds (directory_of f r) es deeds)
      (events_own keeper (part keeper l) steps) (subst (Run f) shown_swept (runs f (triples keeper steps ++ l) valid legal)))

-- ---- the pages beside a block that was raised
module _ (f : Profile) (d : Directory) (keeper n : ℕ) (guards guards' : List Guard) (searched after : List Made) (block : Block)
    (h : IsRaised f d n guards guards' searched after block) where
  -- The block begins a page behind the outer one.
  begins : address_of block.name ≡ (h.first + 1) * 4096
  begins = ap (λ (b : Block). address_of b.name) h.block_is

  room_is : block.room ≡ n * 4096
  room_is = ap (λ (b : Block). b.room) h.block_is

  below_is : page_below block ≡ h.first
  below_is = omega (arith, begins)

  above_is : page_above block ≡ h.first + n + 1
  above_is = omega (arith, begins, room_is)

  sides_are : has_sides f block ≡ true
  sides_are = search (arith, below_is, above_is, and_from, le-leb)

  block_aligned : address_of block.name % 16 ≡ 0
  block_aligned = omega (arith, begins)

  guard_is : raised_by keeper (guard_of block) ≡ raised_by keeper (guard_at h.first n block)
  guard_is = λ i. raised_by keeper record { low = below_is i; high = above_is i; block = block }

  said_is : (name : ℕ) → said_of_guard keeper name n (Some block) ≡ Record.Said keeper (Said.Guarded (page_below block) (page_above block) name) ∷ []
  said_is name = search (arith, begins, below_is, above_is)

-- ---- the epoch over what a keeper does
epoch_both : (k : ℕ) (steps ys xs : List Made) (l : Whole) → steps ≡ ys ++ xs
    → word_after (triples k ys ++ (triples k xs ++ l)) Word.Epoch ≡ word_after (triples k xs ++ l) Word.Epoch
    → word_after (triples k xs ++ l) Word.Epoch ≡ word_after l Word.Epoch
    → word_after (triples k steps ++ l) Word.Epoch ≡ word_after l Word.Epoch
epoch_both k steps ys xs l are later earlier = ap (λ ms. word_after (triples k ms ++ l) Word.Epoch) are ∙ ap (λ (x : Whole). word_after x Word.Epoch) (sym (triples_append k ys xs l)) ∙ later ∙ earlier

raised_epoch : (f : Profile) (k heap n : ℕ) (guards left : List Guard) (answer : Option Block) (searched after : List Made) (l : Whole)
    → MatchOption answer (IsNotRaised f (large_directory heap) n guards left searched after) (IsRaised f (large_directory heap) n guards left searched after)
    → word_after (triples k after ++ l) Word.Epoch ≡ word_after l Word.Epoch
raised_epoch f k heap n guards left None searched after l is = ap (λ ms. word_after (triples k ms ++ l) Word.Epoch) is.nothing
raised_epoch f k heap n guards left (Some block) searched after l is =
    let give : List Made = give_steps (is.first + 1) 0 block is.word is.answer in
    epoch_both k after is.left (give ++ is.backs) l is.after_is (epoch_kept returning refl k is.left (triples k (give ++ is.backs) ++ l) (raised_leaves is))
    (epoch_both k (give ++ is.backs) give is.backs l refl (epoch_kept (Giving ∷ (LookLife ∷ [])) refl k give (triples k is.backs ++ l) (refl, (refl, tt)))
    (epoch_kept (Backing ∷ []) refl k is.backs l (raised_backs is)))

raise_epoch : (f : Profile) (k heap n : ℕ) (guards left : List Guard) (answer : Option Block) (steps : List Made) (l : Whole)
    → RaiseSteps f heap n guards left answer steps → word_after (triples k steps ++ l) Word.Epoch ≡ word_after l Word.Epoch
raise_epoch f k heap n guards left answer steps l is =
    epoch_both k steps is.after is.searched l is.steps_are (raised_epoch f k heap n guards left answer is.searched is.after
    (triples k is.searched ++ l) is.outcome) (epoch_kept seeking refl k is.searched l is.kinds)

-- ---- A GUARDED REQUEST, as its keeper tried it
module _ (f : Profile) (valid : IsValid f) (p : Progress) (s : Stand) (ts : List Task) (tells : Tells p s) (keeper k : ℕ) (r : Request) (t : Tried)
    (is : IsTried f keeper r (part keeper p.list) (p.books keeper) t)
    (legal : Legal f (triples keeper t.steps ++ p.list))
    (begun : LeadsOn f s [] (record (sweeping s keeper false (Tries keeper k r false ∷ [])) { left = ts })) where
  abbrev n : ℕ
  n = pages_of (wanted_by f r)

  abbrev view : List Made
  view = is.swept ++ part keeper p.list

  abbrev l1 : Whole
  l1 = triples keeper is.swept ++ p.list

  abbrev list2 : Whole
  list2 = triples keeper t.steps ++ p.list

  all_legal : Legal f (triples keeper (is.raised ++ is.swept) ++ p.list)
  all_legal = subst (λ ms. Legal f (triples keeper ms ++ p.list)) is.steps_are legal

  swept_legal : Legal f l1
  swept_legal = legal_earlier f keeper is.raised is.swept p.list all_legal

  raised_legal : Legal f (triples keeper is.raised ++ l1)
  raised_legal = subst (Legal f) (sym (triples_append keeper is.raised is.swept p.list)) all_legal

  list_is : list2 ≡ triples keeper is.raised ++ l1
  list_is = ap (λ ms. triples keeper ms ++ p.list) is.steps_are ∙ sym (triples_append keeper is.raised is.swept p.list)

  part_swept : part keeper l1 ≡ view
  part_swept = part_of_own keeper is.swept p.list

  -- The sweep before the try is one of the check's.
  sweep : IsSwept s.events keeper false (p.books keeper) is.left is.lowered is.swept p.list
  sweep = swept_is f valid keeper false (p.books keeper) is.left is.lowered is.swept p.list s.events (sym tells.events) (tells.books.aligned keeper) is.sweep.swept swept_legal

  -- after the sweep
  abbrev up : List Raised
  up = up_after s keeper false

  abbrev w : Stand
  w = record s { guards = up; left = ts }

  shown_swept : w.events ≡ visible l1
  shown_swept = sym sweep.shown

  swept_leads : LeadsOn f s (lines_by is.lowered) (trying w keeper k r false w.events)
  swept_leads = on_both begun
      (sweep_leads f s keeper false (Tries keeper k r false ∷ []) ts (p.books keeper) is.lowered (tells.books.told keeper) sweep.go)

  -- The books have the guards that stayed.
  booked : AreBooked (with_book p.books keeper is.left) up
  booked = booked_sweep p.books s.events keeper false s.guards is.left sweep.stay tells.books

  tried_epoch : word_after list2 Word.Epoch ≡ word_after p.list Word.Epoch
  tried_epoch = epoch_both keeper t.steps is.raised is.swept p.list is.steps_are (raise_epoch f keeper r.heap n is.left t.guards t.block is.raised l1 is.raise) (epoch_kept sweeping_kinds refl keeper is.swept p.list is.sweep.kinds)

  tried_tells : (names : List Named) (u : Stand) (records : List Record) → u.events ≡ visible list2 → u.names ≡ names → u.logs ≡ s.logs
      → u.idle_since ≡ s.idle_since → u.epoch ≡ s.epoch → AreBooked (with_book p.books keeper t.guards) u.guards
      → Tells record { names = names; caches = p.caches; books = with_book p.books keeper t.guards; epoch = p.epoch; list = list2; records = records } u
  tried_tells names u records events named_so logs since epoch books = record {
    events = events;
    names = named_so;
    logs = λ j. tells.logs j ∙ ap (λ (table : ℕ → List Entry). table j) (sym logs);
    idle_since = λ j. ap (λ (table : ℕ → ℕ). table j) since ∙ tells.idle_since j;
    epoch = epoch ∙ tells.epoch ∙ sym tried_epoch;
    books = books;
    tidy = tidy_piece keeper t.steps p.list tells.tidy (try_tidy f keeper r (part keeper p.list) (p.books keeper) t is (tells.tidy keeper));
  }

  -- the lines of its records
  lines_tried : (said : List Record) → said_of_guard keeper r.name n t.block ≡ said
      → lines_by t.records ≡ lines_by is.lowered ++ lines_by (records_of (events_by keeper (part keeper l1) is.raised) ++ said)
  lines_tried said same =
      ap lines_by is.records_are ∙ lines_both is.lowered (records_of (events_by keeper view is.raised) ++ said_of_guard keeper r.name n t.block)
      ∙ (λ i. lines_by is.lowered ++ lines_by (records_of (events_by keeper (sym part_swept i) is.raised) ++ same i))

  -- ---- it gave the block
  pub given_comes : (block : Block) → t.block ≡ Some block → Comes f s t.records (after_giving (after_trying p keeper t) r.name block) ts
  given_comes block gave =
      let h : IsRaised f (large_directory r.heap) n is.left t.guards is.raise.searched is.raise.after block
      = rw gave at is.raise.outcome in
      let ends : IsGiven keeper (wanted_by f r) (part keeper l1) is.raised block
      = subst (λ v. IsGiven keeper (wanted_by f r) v is.raised block) (sym part_swept) (subst (λ (o : Option Block). TryEnds f keeper r view is.raised o) gave is.ends) in
      let guard : Guard = guard_at h.first n block in
      let end : Stand = guarded w keeper r block (visible list2) in
      let up_now : AreBooked (with_book (with_book p.books keeper is.left) keeper (with_book p.books keeper is.left keeper ++ guard ∷ [])) (up ++ raised_by keeper guard ∷ [])
      = booked_raise (with_book p.books keeper is.left) keeper guard up
      (block_aligned f (large_directory r.heap) keeper n is.left t.guards is.raise.searched is.raise.after block h) booked in
      let same : with_book (with_book p.books keeper is.left) keeper (with_book p.books keeper is.left keeper ++ guard ∷ []) ≡ with_book p.books keeper t.guards
      = put_twice p.books keeper is.left (with_book p.books keeper is.left keeper ++ guard ∷ []) ∙ ap (λ (b : List Guard). with_book p.books keeper
      (b ++ guard ∷ [])) (own_at p.books keeper is.left) ∙ ap (with_book p.books keeper) (sym h.raised) in
      record {
        end = end;
        leads = on_as
            (lines_tried (guard_said keeper r block ∷ []) (cc (said_is f (large_directory r.heap) keeper n is.left t.guards is.raise.searched is.raise.after block h r.name)))
            (ap (λ (l : Whole). guarded w keeper r block (visible l)) list_is)
            (on_both swept_leads
            (guarded_leads f valid w keeper k r l1 is.raised shown_swept raised_legal block ends
            (sides_are f (large_directory r.heap) keeper n is.left t.guards is.raise.searched is.raise.after block h)));
        tells = tried_tells (named r.name (Some block) ∷ p.names) end _ refl (ap (λ ns. record { name = r.name; block = Some block } ∷ ns) tells.names) refl refl refl
            (subst (λ (T : Type 0). T) (λ i. AreBooked (same i) (up ++ sym (guard_is f (large_directory r.heap) keeper n is.left t.guards is.raise.searched
            is.raise.after block h) i ∷ [])) up_now);
      }

  -- ---- it gave none, and the thread is served
  abbrev p2 : Progress
  p2 = after_trying p keeper t

  abbrev s2 : Stand
  s2 = record s { events = visible list2; guards = up; due = []; left = ts }

  module _ (none : t.block ≡ None) where
    -- in each case it computes, or is given
    not_raised : IsNotRaised f (large_directory r.heap) n is.left t.guards is.raise.searched is.raise.after
    not_raised = rw none at is.raise.outcome

    none_tells : Tells p2 s2
    none_tells = tried_tells p.names s2 p2.records refl tells.names refl refl refl (subst (λ (b : List Guard). AreBooked (with_book p.books keeper b) up) (sym not_raised.same) booked)

    none_leads : LeadsOn f s (lines_by t.records) (by_thread f s2 keeper k r (visible list2))
    none_leads =
        let deeds : AllByRecursion (IsDeedOf (directory_of f r)) (events_by keeper (part keeper l1) is.raised)
        = search (arith, part_swept) in
        let events : List Event = events_by keeper (part keeper l1) is.raised in
        let tried : Stand = trying w keeper k r false (visible list2) in
        let there : LeadsOn f s (lines_by is.lowered ++ lines_by (records_of events)) tried
        = on_as refl (ap (λ (l : Whole). trying w keeper k r false (visible l)) list_is)
        (on_both swept_leads (tried_leads f valid w keeper k r l1 is.raised shown_swept raised_legal deeds)) in
        on_as
        (lines_tried [] (ap (said_of_guard keeper r.name n) none) ∙ ap (λ (rs : List Record). lines_by is.lowered ++ lines_by rs)
        (append-nil (records_of events)) ∙ sym (append-nil (lines_by is.lowered ++ lines_by (records_of events)))) refl
        (on_both there (on_thread f w keeper k r (visible list2)))

    -- the answer of the thread
    pub thread_comes : (a : Answer) (so : IsServed f k r (having p2.names (part k p2.list) (p2.caches k)) a)
        → MatchResult so.answer (λ block. Unit {0}) (IsTrulyRefused f (wanted_by f r) (p2.caches k).locals p2.list (triples k a.steps ++ p2.list))
        → Legal f (triples k a.steps ++ p2.list)
        → Comes f s (t.records ++ (records_of (events_by k (part k p2.list) a.steps) ++ said_by k a.said)) (after_answer p2 k a) ts
    thread_comes a so truly answered_legal =
        let end : Stand = asked_then f p2 s2 ts none_tells k r a so answered_legal in
        let rs : List Record = records_of (events_by k (part k p2.list) a.steps) in
        record {
          end = end;
          leads = on_as (lines_both t.records (rs ++ said_by k a.said) ∙ ap (λ o. lines_by t.records ++ lines_by (rs ++ said_by k o)) so.said_is)
              (sym (served_plain s2 k r so.answer (visible (triples k a.steps ++ p2.list))))
              (on_both none_leads
              (request_leads f valid s2 k r None p2.list a.steps refl answered_legal (p2.caches k).locals so.answer so.ends truly));
          tells = asked_tells f p2 s2 ts none_tells k r a so answered_legal _;
        }
