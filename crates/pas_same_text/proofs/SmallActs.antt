-- ACTS THAT CHANGE NO PAGE: what they keep; frees that are answered at once, and frees into a log with room.
use Rattle.std.proofs.Common.{arith, ◌≡◌, ℕ, ◌==◌, Bool, true, false, ◌&&◌, if◌then◌else◌, List, ◌∷◌, refl, ap, ◌≤◌, length, max, [], ◌++◌, reverse, sym, ◌∙◌}
use Rattle.std.proofs.Common.{subst, ◌+◌, ◌*◌, ◌/◌, ◌%◌, nat_le, nat_lt, Option, None, Some, inl, inr, append-nil, eq-eqb, ne_eqb}
use Rattle.pas_profile.specs.declared.event.FreeFault.{FreeFault, TheVariants.{Outside, Unaligned}}
use Rattle.pas_same_text.specs.{State.set_noted, Acts.HasLogRoom, Indexes.settles, Order.begins, Passes.ticks, Frees.{refuses_free, logs, frees_named}}
use Rattle.pas_same_text.proofs.{CacheLists.{all_locals, locals_with, same_with, same_kept}, Common.{same_word, address_of, Block, Profile, Word, Name, Whole}}
use Rattle.pas_same_text.proofs.Common.{word_after, visible, Legal, part, made, triple, events_by, Look, Made, empty_bit, eligible_bit, World, Cache, each}
use Rattle.pas_same_text.proofs.Common.{cache_of, set_cache, noted_of, says, ArePagesSame, IsSame, IsSameCache, StaysSame, StaysSameWhere, indexes_run}
use Rattle.pas_same_text.proofs.Common.{reverse_onto, nat_tests, EndedRun, Entry, Record, Said, Said as TheSaid, Act, IsThread, Progress, with_records, Named}
use Rattle.pas_same_text.proofs.Common.{Answer, after_answer, IsFreed, IsFreedBy, standing_for, with_steps, records_of, said_by, entry_of, sized_entry}
use Rattle.pas_same_text.proofs.Common.{TakesEntry, Cached, Free, Raw, adds, frees, frees_what, What}
use Rattle.pas_steps.specs.declared.step.Step.TheVariants.{Tick}
use Rattle.pas_answers.specs.Answers.{room_noted, begun, after_settling, after_wake, after_tick, said_of_fault}
use Rattle.pas_cache.specs.Calls.{RefusesName}

-- ---- lists of steps with the same events and the same bits of pages
pub record HaveSamePages (l l' : Whole) : Type 0 where
  pub events : visible l' ≡ visible l
  pub hints : (page : ℕ) → empty_bit l' page ≡ empty_bit l page
  pub offers : (number page : ℕ) → eligible_bit l' number page ≡ eligible_bit l number page

-- A list has the same events, hints and offers as itself.
pub unchanged : (l : Whole) → HaveSamePages l l
unchanged l = record { events = refl; hints = λ page. refl; offers = λ number page. refl }

-- a look changes no word
look_word : (k a : ℕ) (word w : Word) (l : Whole) → word_after (triple k (made (Look word) a) ∷ l) w ≡ word_after l w
look_word k a word w l = elim (same_word word w) as (λ t. (if t then word_after l w else word_after l w) ≡ word_after l w) [ true ↦ refl | false ↦ refl ]

-- ---- states of the text with the same pages
pub record HaveSameState (w w' : World) : Type 0 where
  pub events : w'.events ≡ w.events
  pub live : w'.live ≡ w.live
  pub hinted : w'.hinted ≡ w.hinted
  pub locals : all_locals w'.caches ≡ all_locals w.caches
  pub guards : w'.guards ≡ w.guards

-- ---- offers, by the events, the live blocks, the local allocators and the guards that a state has

-- ---- both together
pub pages_next : (f : Profile) (l l' : Whole) (w w' : World) → ArePagesSame f l w → HaveSamePages l l' → HaveSameState w w' → ArePagesSame f l' w'
pages_next f l l' w w' was list state = search (arith)

-- ==== Acts that change no page: marks, the start of a phase, readings of the epoch, ticks, and what is handed on to the indexes.
-- ---- records
-- a record more, on both sides
pub records_next : (rs ws : List Record) (r : Record) → rs ≡ reverse ws → rs ++ r ∷ [] ≡ reverse (r ∷ ws)
records_next rs ws r is = ap (λ (xs : List Record). xs ++ r ∷ []) is ∙ sym (reverse_onto ws r [])

-- a line is said
pub says_same : (f : Profile) (p : Progress) (w : World) (r : Record) → IsSame f p w → IsSame f (with_records p (r ∷ [])) (says r w)
says_same f p w r same =
    let state : HaveSameState w (says r w) = record { events = refl; live = refl; hinted = refl; locals = refl; guards = refl } in
    assumption (pages_next f p.list p.list w (says r w) same.pages (unchanged p.list) state, records_next p.records w.records r same.records)

-- ---- marks
pub phase_same : (f : Profile) (n : ℕ) → StaysSame f (Act.MarksPhase n)
phase_same f n p p' w taken = subst (λ (q : Progress). IsSame f q (says (Record.Phase n) w)) (sym taken.advances) (says_same f p w (Record.Phase n) taken.same)

-- The mark of the close leads the text to the replay's state.
pub close_same : (f : Profile) → StaysSame f Act.MarksClose
close_same f p p' w taken = subst (λ (q : Progress). IsSame f q (says Record.Close w)) (sym taken.advances) (says_same f p w Record.Close taken.same)

-- ---- a cache changes, and no local allocator of it
pub cache_state : (w : World) (k : ℕ) (new : Cache) → new.locals ≡ (cache_of w k).locals → HaveSameState w (set_cache k new w)
cache_state w k new is = record { events = refl; live = refl; hinted = refl; locals = locals_with w.caches k new is; guards = refl }

-- ---- the start of a phase
read_now : (f : Profile) (p : Progress) (k epoch : ℕ) → Legal f (triple k (made (Look Word.Epoch) epoch) ∷ p.list) → epoch ≡ word_after p.list Word.Epoch
read_now f p k epoch legal = legal.0.answer_is

-- A thread's reading of the epoch at a phase leads the text to the replay's state.
pub wake_same : (f : Profile) (k : ℕ) → IsThread f k → StaysSame f (Act.Wakes k)
wake_same f k is p p' w taken =
    let epoch : ℕ = taken.advances.0 in
    let legal : Legal f (after_wake p k epoch).list = subst (λ (q : Progress). Legal f q.list) taken.advances.1 taken.after.legal in
    subst (λ (q : Progress). IsSame f q (begins k w)) (sym taken.advances.1) (let own : Cache = cache_of w k in
    let was : IsSameCache (p.caches k) own = taken.same.caches.each k is in
    let new : Cache = record own { idle_since = w.epoch } in
    let now : w.epoch ≡ epoch = taken.same.epoch ∙ sym (read_now f p k epoch legal) in
    let look : Whole = triple k (made (Look Word.Epoch) epoch) ∷ p.list in
    let pages = pages_next f p.list look w (begins k w) taken.same.pages (search (arith, look_word)) (cache_state w k new refl) in
    let caches = same_with f p.caches w.caches k (begun (p.caches k) epoch) new is taken.listed taken.same.caches (assumption) in
    assumption (pages, caches, taken.same.epoch ∙ sym (look_word k epoch Word.Epoch Word.Epoch p.list)))

-- ---- the scavenger reads the epoch
-- The scavenger's reading of the epoch leads the text to the replay's state.
pub reading_same : (f : Profile) → StaysSame f Act.ReadsEpoch
reading_same f p p' w taken = search (arith, pages_next, look_word, read_now)

-- ---- a tick
ticks_to : (f : Profile) (asked answer : ℕ) (p : Progress) (w : World) → IsSame f p w → Legal f (after_tick p asked answer).list
    → IsSame f (after_tick p asked answer) (ticks asked w)
ticks_to f asked answer p w same legal =
    let now : answer ≡ w.epoch = legal.0.answer_is ∙ sym same.epoch in
    let line : Record = Record.Said 0 (Said.Tick (max w.epoch asked)) in
    let state : HaveSameState w (ticks asked w) = record { events = refl; live = refl; hinted = refl; locals = refl; guards = refl } in
    let pages = pages_next f p.list (triple 0 (made (Tick asked) answer) ∷ p.list) w (ticks asked w) same.pages
    (record { events = refl; hints = λ page. refl; offers = λ number page. refl }) state in
    let said = ap (λ (e : ℕ). p.records ++ Record.Said 0 (Said.Tick (max e asked)) ∷ []) now ∙ records_next p.records w.records line same.records in
    assumption (pages, said, ap (λ (e : ℕ). max e asked) same.epoch)

-- A tick leads the text to the replay's state.
pub tick_same : (f : Profile) (asked : ℕ) → StaysSame f (Act.Ticks asked)
tick_same f asked p p' w taken =
    let answer : ℕ = taken.advances.0 in
    let legal : Legal f (after_tick p asked answer).list = subst (λ (q : Progress). Legal f q.list) taken.advances.1 taken.after.legal in
    subst (λ (q : Progress). IsSame f q (ticks asked w)) (sym taken.advances.1) (ticks_to f asked answer p w taken.same legal)

-- ---- what is handed on to the indexes

all_indexed : (f : Profile) (p : Progress) (runs : List EndedRun) (w : World) → IsSame f p w → IsSame f p (each indexes_run runs w)
all_indexed f p [] w same = same
all_indexed f p (run ∷ runs) w same = all_indexed f p runs (indexes_run run w) (search (arith, pages_next, unchanged))

handed_on : (f : Profile) (k : ℕ) (p : Progress) (w : World) → IsThread f k → k ≤ length w.caches → IsSame f p w
    → IsSame f (after_settling p k) (set_noted k [] w)
handed_on f k p w is listed same =
    let own : Cache = cache_of w k in
    let was : IsSameCache (p.caches k) own = same.caches.each k is in
    let new : Cache = record own { noted = [] } in
    search (arith, pages_next, unchanged, cache_state, same_with)

-- What a thread hands on to the indexes leads the text to the replay's state.
pub settling_same : (f : Profile) (k : ℕ) → IsThread f k → StaysSame f (Act.Settles k)
settling_same f k is p p' w taken = subst (λ (q : Progress). IsSame f q (settles k w)) (sym taken.advances)
    (all_indexed f (after_settling p k) (noted_of w k) (set_noted k [] w) (handed_on f k p w is taken.listed taken.same))

-- ==== Frees that are answered at once, and frees into a log with room.
-- a replay after an answer with these steps and what is said besides
abbrev pub after_with : Progress → ℕ → List Made → Option TheSaid → List Named → Cached → Progress
after_with p k steps said names c = with_records (record (with_steps p k steps c) { names = names }) (records_of (events_by k (part k p.list) steps) ++ said_by k said)

-- ---- an answer without a step, which changes nothing but says something
pub said_same : (f : Profile) (k : ℕ) (said : TheSaid) (p : Progress) (w : World) → IsSame f p w
    → IsSame f (after_with p k [] (Some said) p.names (p.caches k)) (says (Record.Said k said) w)
said_same f k said p w same = assumption (same_kept f p.caches w.caches k same.caches, says_same f p w (Record.Said k said) same)

-- ---- an entry more in the log
abbrev with_entry : Cached → Entry → Cached
with_entry c entry = record c { log = c.log ++ entry ∷ []; noted = c.noted }

-- ---- where the address is
pub page_inside : (pages a : ℕ) → 1 ≤ a / 4096 → a / 4096 ≤ pages → (nat_le 4096 a && nat_lt a (4096 * (pages + 1))) ≡ true
page_inside pages a some few = search (arith, nat_tests)

-- what a free comes to, by its two tests
abbrev freed_by : Profile → ℕ → Entry → World → Bool → Bool → World
freed_by f k entry w inside aligned =
    if inside then (if aligned then logs f k entry w else refuses_free k entry.name FreeFault.Unaligned w) else refuses_free k entry.name FreeFault.Outside w

-- A free is answered in the text by whether its address is inside the region and aligned.
pub freed_is : (f : Profile) (k : ℕ) (entry : Entry) (w : World) (inside aligned : Bool)
    → (nat_le 4096 (address_of entry.name) && nat_lt (address_of entry.name) (4096 * (f.pages + 1))) ≡ inside → (address_of entry.name % 16 == 0) ≡ aligned
    → frees f k entry w ≡ freed_by f k entry w inside aligned
freed_is f k entry w inside aligned e h =
    ap (λ (t : Bool). freed_by f k entry w t (address_of entry.name % 16 == 0)) e ∙ ap (λ (u : Bool). freed_by f k entry w inside u) h

-- ---- the cache after it
-- ---- the free
logged_same : (f : Profile) (k : ℕ) (entry : Entry) (p : Progress) (w : World) (c' : Cached) (steps : List Made) → IsThread f k → k ≤ length w.caches
    → IsSame f p w → nat_le 64 (length (p.caches k).log) ≡ false
    → TakesEntry f k (p.caches k) c' entry steps → IsSame f (after_with p k steps None p.names c') (frees f k entry w)
logged_same f k entry p w c' steps is listed same room takes =
    let to : (steps ≡ []) × (c' ≡ with_entry (p.caches k) entry) = search arith in
    let inside = page_inside f.pages (address_of entry.name) takes.region.page.0 takes.region.page.1 in
    let text : frees f k entry w ≡ adds k entry w =
    freed_is f k entry w true true inside (eq-eqb (address_of entry.name % 16) 0 takes.region.aligned) ∙ (search (arith, same.caches.each)) in
    rw (text, to.0, to.1) (let own : Cache = cache_of w k in
    let was : IsSameCache (p.caches k) own = same.caches.each k is in
    let new : Cache = record own { log = own.log ++ entry ∷ [] } in
    let log : new.log ≡ (with_entry (p.caches k) entry).log = ap (λ (es : List Entry). es ++ entry ∷ []) was.log in
    let caches = same_with f p.caches w.caches k (with_entry (p.caches k) entry) new is listed same.caches (assumption) in
    let pages = pages_next f p.list p.list w (set_cache k new w) same.pages (unchanged p.list) (cache_state w k new refl) in
    assumption (pages, caches, append-nil p.records ∙ same.records))

-- A free whose name can't be a block's is refused at once in the text as in the replay.
pub refused_same : (f : Profile) (k : ℕ) (entry : Entry) (p : Progress) (w : World) (c' : Cached) (steps : List Made) (fault : FreeFault) → IsSame f p w
    → RefusesName f (p.caches k) c' entry.name steps fault
    → IsSame f (after_with p k steps (Some (said_of_fault entry.name fault)) p.names c') (frees f k entry w)
refused_same f k entry p w c' steps fault same refuses =
    let refused_text : frees f k entry w ≡ refuses_free k entry.name fault w = search (arith, freed_is, page_inside, ne_eqb) in
    rw (refused_text, refuses.no_steps, refuses.cache) (said_same f k (said_of_fault entry.name fault) p w same)

-- A free into a log with room leads the text to the replay's state.
pub freed_same : (f : Profile) (k : ℕ) (entry : Entry) (p : Progress) (w : World) (c' : Cached) (steps : List Made) (said : Option TheSaid) → IsThread f k
    → k ≤ length w.caches → IsSame f p w → nat_le 64 (length (p.caches k).log) ≡ false
    → IsFreed f k (p.caches k) c' entry steps said → IsSame f (after_with p k steps said p.names c') (frees f k entry w)
freed_same f k entry p w c' steps said is listed same room (inl t) =
    rw t.1 (logged_same f k entry p w c' steps is listed same room t.0)
freed_same f k entry p w c' steps said is listed same room (inr t) = rw t.2 (refused_same f k entry p w c' steps t.0 same t.1)

-- ---- a name that stands for no block
-- ---- a free by a name of the trace leads the text to the replay's state where a free of each block does
module _ (f : Profile) (k : ℕ) (p p' : Progress) (w : World) (a : Answer) (same : IsSame f p w) (names : a.names ≡ p.names)
    (reached : p' ≡ after_answer p k a) where
  abbrev pub FreesSame : Type 0
  FreesSame = (entry : Entry) → IsFreed f k (p.caches k) a.cache entry a.steps a.said → IsSame f p' (frees f k entry w)

  named_by : FreesSame → (name : ℕ) (size : Option ℕ) (meant : Option (Option Block)) → IsFreedBy f k (p.caches k) a.cache name size meant a.steps a.said
      → IsSame f p' (frees_what f k name (room_noted size) meant w)
  named_by free name size None freed = absurd freed
  named_by free name size (Some None) freed = rw (reached, names) (rw freed.2 (rw (freed.0, freed.1) (said_same f k (Said.Skipped name) p w same)))
  named_by free name size (Some (Some block)) freed = free (sized_entry block.name (room_noted size)) freed

  pub name_freed : FreesSame → (name : ℕ) (size : Option ℕ) → IsFreedBy f k (p.caches k) a.cache name size (standing_for p.names name) a.steps a.said
      → IsSame f p' (frees_named f k name (room_noted size) w)
  name_freed free name size freed =
      subst (λ (ns : List Named). IsSame f p' (frees_what f k name (room_noted size) (standing_for ns name) w)) (sym same.names)
      (named_by free name size (standing_for p.names name) freed)

  pub entry_same : IsThread f k → k ≤ length w.caches → HasLogRoom k p → FreesSame
  entry_same is listed room entry freed =
      rw (reached, names) (freed_same f k entry p w a.cache a.steps a.said is listed same (grind (arith, nat_tests, room)) freed)

-- ---- the acts
-- thread k is asked for this
abbrev pub asks : ℕ → ℕ → What → Act
asks line k what = Act.Operates (record { line = line; actor = k; what = what })

-- A free of a bare name into a log with room leads the text to the replay's state.
pub raw_same : (f : Profile) (line k : ℕ) (block : Name) → IsThread f k → StaysSameWhere (HasLogRoom k) f (asks line k (Raw block))
raw_same f line k block is p p' w room taken =
    entry_same f k p p' w taken.advances.0 taken.same taken.advances.1.1 taken.advances.2 is taken.listed room (entry_of block) taken.advances.1.0

pub named_room : (f : Profile) (k name : ℕ) (size : Option ℕ) (p p' : Progress) (w : World) (a : Answer) → IsThread f k → k ≤ length w.caches → IsSame f p w
    → HasLogRoom k p → IsFreedBy f k (p.caches k) a.cache name size (standing_for p.names name) a.steps a.said → a.names ≡ p.names
    → p' ≡ after_answer p k a → IsSame f p' (frees_named f k name (room_noted size) w)
named_room f k name size p p' w a is listed same room freed names reached =
    name_freed f k p p' w a same names reached (entry_same f k p p' w a same names reached is listed room) name size freed

-- A free of a name of the trace into a log with room leads the text to the replay's state.
pub named_same : (f : Profile) (line k name : ℕ) → IsThread f k → StaysSameWhere (HasLogRoom k) f (asks line k (Free name))
named_same f line k name is p p' w room taken =
    named_room f k name None p p' w taken.advances.0 is taken.listed taken.same room taken.advances.1.0 taken.advances.1.1 taken.advances.2
