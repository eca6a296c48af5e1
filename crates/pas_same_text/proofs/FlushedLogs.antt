-- A FLUSH, entry by entry: its steps beside what the text does.
use Rattle.pas_same_text.proofs.GivenBack.{all_only_hints, after, ended_returns, noted_then, Returns, returns_nothing, returns_then, returns_like, has_both}
use Rattle.pas_same_text.proofs.{GivenBack.page_there, CacheLists.{all_locals, many_with, locals_with, same_with, same_own, same_again, with_own, room_for}}
use Rattle.pas_same_text.proofs.{Flushes.{reject_text, end_text, reject_shown, end_shown, reason_is}, EntrySteps.{IsEndOfBlock, found_block, block_marked}}
use Rattle.pas_same_text.proofs.{EntrySteps.{name_same, entry_kinds, entry_events, entry_hints, after_marked, read_directory}, StepMarks.IsMarked}
use Rattle.pas_same_text.proofs.{StepMarks.{marked_parts, none_marked, hints_none}, Tests.has_filtered, Common.{take_none, reverse_onto, same_Some, hints_both}}
use Rattle.pas_same_text.proofs.Common.{meets_page, address_of, grain_of, length_of, IsValid, IsPage, Directory, Event, Name, Profile, Word, Run, Live, live_in}
use Rattle.pas_same_text.proofs.Common.{deed_in, lives_where, made, triples, Only, Always, epoch_of, Whole, part, visible, Legal, Made, Look, triples_append}
use Rattle.pas_same_text.proofs.Common.{only_both, only_within, epoch_same, part_of_own, runs, legal_earlier, HintsEmpty, IsEndOf, reason_for, ending, freeing}
use Rattle.pas_same_text.proofs.Common.{Settled, EntrySteps, AfterEnd, event_for, shown_for, noted_after, Ended, Refused, Entry, EndedRun, Cached, Record}
use Rattle.pas_same_text.proofs.Common.{IsThread, Caches, with_cache as with_cached, World, Cache, each, cache_of, noted_of, set_log, live_after, ends}
use Rattle.pas_same_text.{proofs.Common.{ends_block, rejects, pages_of, IsShown, AreSameCaches, IsSameCache, lives_in, has_number}, specs.State.with_cache}
use Rattle.pas_free_log.{specs.{Flushes.{noted_for, EntriesSteps}, Noted.large_run, declared.ending.Outcome.Outcome}, proofs.AllEntries.noted_more}
use Rattle.pas_free_log.proofs.AllEntries.{noted_none}
use Rattle.std.proofs.Common.{◌≡◌, ℕ, ◌-◌, ◌/◌, ◌≤◌, Bool, true, if◌then◌else◌, List, [], ◌∷◌, ◌++◌, length, map, reverse, take, Option, None, Some, inl, inr}
use Rattle.std.proofs.Common.{refl, ap, sym, ◌∙◌, subst, append_assoc, arith, append-nil, eq-eqb}
use Rattle.pas_steps.specs.Kinds.{LookEpoch}

-- ---- lists of entries
each_last : {A : Type 0} (does : A → World → World) (xs : List A) (x : A) (w : World) → each does (xs ++ x ∷ []) w ≡ does x (each does xs w)
each_last does [] x w = refl
each_last does (y ∷ xs) x w = each_last does xs x (does y w)

-- ---- a block that lived before and lives no longer, of which the page was minded
pub record IsEndedOn (es es' : List Event) (pages : List ℕ) (q : ℕ) : Type 0 where
  pub address : ℕ
  pub block : Live
  pub lived : live_in es address ≡ Some block
  pub gone : live_in es' address ≡ None
  pub met : meets_page (address / 16) (length_of block.block) q ≡ true
  pub minded : has_number pages q ≡ true

-- the blocks after some events lived before them
pub record OnlyFewer (es es' : List Event) : Type 0 where
  -- The block lives in the text, too.
  pub lives : (a : ℕ) (b : Live) → live_in es' a ≡ Some b → live_in es a ≡ Some b
  pub deeds : (page : ℕ) → deed_in es' page ≡ deed_in es page

-- what the event for an entry does to the live blocks
-- an end takes out one block, and a refusal none
still_gone : (k epoch : ℕ) (entry : Entry) (o : Outcome) (es : List Event) (a : ℕ) → live_in es a ≡ None → live_in (event_for k epoch entry o ∷ es) a ≡ None
still_gone k epoch entry o es a h = search arith

-- ==== HOW FAR A FLUSH IS: from the state w and the list l on, these entries took effect by these steps, and the text is at v
pub record IsFlushedTo (f : Profile) (k e : ℕ) (l : Whole) (w : World) (c : Cached) (caches : Caches) (settled : List Settled) (steps : List Made)
    (v : World) : Type 0 where
  pub events : v.events ≡ visible (triples k steps ++ l)
  pub live : v.live ≡ lives_in v.events
  pub names : v.names ≡ w.names
  pub records : v.records ≡ map Record.Event (map (shown_for k e) settled) ++ w.records
  pub epoch : v.epoch ≡ w.epoch
  pub read : v.read ≡ w.read
  pub same : AreSameCaches f (with_cached caches k (record c { log = []; noted = noted_after c.noted settled })) v.caches
  pub many : length v.caches ≡ length w.caches
  pub pages : List ℕ
  pub returns : Returns f pages w v
  pub fewer : OnlyFewer w.events v.events
  pub marks : (q : ℕ) → IsPage f q → IsMarked q steps → IsEndedOn w.events v.events pages q
  pub kinds : Only freeing steps
  pub hints : Always HintsEmpty steps
  pub known : epoch_of (part k (triples k steps ++ l)) ≡ e

-- ---- one entry more
-- what its outcome does to the text
pub record IsTakenBy (f : Profile) (k : ℕ) (s : Settled) (piece : List Made) (v x : World) (own : Cache) : Type 0 where
  pub pages : List ℕ
  pub returns : Returns f pages v x
  pub caches : x.caches ≡ with_cache v.caches k own
  pub marks : (q : ℕ) → IsPage f q → IsMarked q piece → IsEndedOn v.events x.events pages q

abbrev own_then : Settled → World → ℕ → Cache
own_then s v k = record (cache_of v k) { noted = noted_of v k ++ take (64 - length (noted_of v k)) (noted_for s) }

module _ (f : Profile) (k epoch : ℕ) (s : Settled) (piece : List Made) (l : Whole) (valid : IsValid f) (legal : Legal f (triples k piece ++ l))
    (is : EntrySteps s piece) (known : epoch_of (part k l) ≡ epoch)
    (v : World) (live : v.live ≡ lives_in v.events) (events : v.events ≡ visible l) (now : v.epoch ≡ epoch) where
  abbrev x : World
  x = ends f k s.entry v

  run_after : Run f (event_for k epoch s.entry s.outcome ∷ v.events)
  run_after =
      subst (Run f) (entry_events f k epoch s piece l valid legal is known ∙ ap (λ (es : List Event). event_for k epoch s.entry s.outcome ∷ es) (sym events))
      (runs f (triples k piece ++ l) valid legal)

  -- what is known where the block of the name ended
  module _ (grains : ℕ) (outcome : s.outcome ≡ Ended grains) where
    -- The end of the entry's block came.
    came : IsEndOf s.entry is.order.guess is.order.answer (Ended grains)
    came = subst (IsEndOf s.entry is.order.guess is.order.answer) outcome is.order.comes_to

    -- It is the end of a block that lives.
    found : IsEndOfBlock f l s.entry is.order.guess
    found = found_block f k epoch s piece l valid legal is known came.0

    lives : live_in v.events (address_of s.entry.name) ≡ Some found.block
    lives = ap (λ (es : List Event). live_in es (address_of s.entry.name)) events ∙ found.lives

    -- The block stands where the entry says.
    at : address_of found.block.block.name ≡ address_of s.entry.name
    at = lives_where f v.events run_after.1 (address_of s.entry.name) found.block lives

    -- Its name is the entry's.
    named : found.block.block.name ≡ s.entry.name
    named = name_same found.block.block.name s.entry.name at found.turn

    -- It has as many grains as were put back.
    long : length_of found.block.block ≡ grains
    long = found.long ∙ sym came.1

    abbrev y : World
    y = ends_block f k s.entry.name found.block.block v

    -- The text comes to the same.
    text : x ≡ y
    text = end_text f k s.entry v live found.block lives found.turn found.room

    ended_shown : IsShown (Event.End k s.entry.name epoch) v x
    ended_shown = subst (λ (e : ℕ). IsShown (Event.End k s.entry.name e) v x) now
        (end_shown f k s.entry v live (found.block, lives, found.turn) (λ b' there. rw (same_Some found.block b' (sym lives ∙ there)) at found.room))

    run_same : large_run found.block.block.name (length_of found.block.block) (deed_in v.events (address_of found.block.block.name / 4096))
        ≡ large_run s.entry.name grains s.directory
    run_same =
        ap (λ (n : Name). large_run n (length_of found.block.block) (deed_in v.events (address_of n / 4096))) named
        ∙ (ap (λ (m : ℕ). large_run s.entry.name m (deed_in v.events (address_of s.entry.name / 4096))) long
        ∙ ap (λ (d : Option Directory). large_run s.entry.name grains d)
        (ap (λ (es : List Event). deed_in es (address_of s.entry.name / 4096)) events ∙ sym (read_directory f k epoch s piece l valid legal is known)))

    noted_same : noted_then f k s.entry.name found.block v run_after.1 live lives ≡ noted_of v k ++ take (64 - length (noted_of v k)) (noted_for s)
    noted_same = search (arith, room_for, run_same)

    -- Only pages of the block are marked.
    marked : (q : ℕ) → IsPage f q → IsMarked q piece → IsEndedOn v.events y.events (pages_of f found.block.block) q
    marked q of mark =
        let after : IsMarked q is.after = after_marked f k epoch s piece l valid legal is known q mark in
        let returns : AfterEnd s.entry.name (Ended grains) is.after = subst (λ (o : Outcome). AfterEnd s.entry.name o is.after) outcome is.returns in
        let some : 1 ≤ grains = subst (λ (m : ℕ). 1 ≤ m) (sym came.1) found.some in
        let met : meets_page (grain_of s.entry.name) grains q ≡ true = block_marked _ grains q is.after some returns after in
        let own : meets_page (grain_of s.entry.name) (length_of found.block.block) q ≡ true = rw long met in
        record {
          address = address_of s.entry.name;
          block = found.block;
          lived = lives;
          gone = ap (λ (es : List Event). live_in es (address_of s.entry.name)) (ap (λ (w : World). w.events) (sym text) ∙ ended_shown.events) ∙ ended_none;
          met = own;
          minded = has_filtered _ _ q (ap (λ (n : Name). meets_page (grain_of n) (length_of found.block.block) q) named ∙ own) (page_there f q of);
        }
      where
        ended_none : live_in (Event.End k s.entry.name epoch ∷ v.events) (address_of s.entry.name) ≡ None
        ended_none = ap (λ (t : Bool). if t then None else live_in v.events (address_of s.entry.name)) (eq-eqb _ _ refl)

  module _ (read : ℕ) (outcome : s.outcome ≡ Refused read) where
    run_rejected : Run f (event_for k epoch s.entry (Refused read) ∷ v.events)
    run_rejected = subst (λ (o : Outcome). Run f (event_for k epoch s.entry o ∷ v.events)) outcome run_after

    rejected_text : x ≡ rejects k s.entry.name (reason_for s.entry read) v
    rejected_text = reject_text f k s.entry v live (reason_for s.entry read) run_after.1 run_rejected.0.1 (reason_is s.entry read)

    no_mark : (q : ℕ) → IsMarked q piece → ⊥
    no_mark q mark = search (arith, after_marked)

    none_noted : own_then s v k ≡ cache_of v k
    none_noted = ap (λ (runs : List EndedRun). record (cache_of v k) { noted = runs })
        (cc (take_none (64 - length (noted_of v k)), append-nil (noted_of v k)))

  taken_by : (o : Outcome) → s.outcome ≡ o → IsShown (event_for k epoch s.entry o) v x × IsTakenBy f k s piece v x (own_then s v k)
  taken_by (Ended grains) outcome = (
    ended_shown grains outcome,
    subst (λ (w : World). IsTakenBy f k s piece v w (own_then s v k)) (sym (text grains outcome)) (record {
      pages = pages_of f (found grains outcome).block.block;
      returns = ended_returns f k s.entry.name (found grains outcome).block v run_after.1 live (lives grains outcome);
      caches = search (arith, all_only_hints, noted_same);
      marks = marked grains outcome;
    }),
  )
  taken_by (Refused read) outcome = (
    reject_shown f k s.entry v live (reason_for s.entry read) run_after.1 (run_rejected read outcome).0.1 (reason_is s.entry read),
    search (arith, rejected_text read outcome, none_noted read outcome, with_own, no_mark read outcome),
  )

-- ---- the marks so far
ended_since : (es fs gs : List Event) (ps qs : List ℕ) (q : ℕ) → OnlyFewer es fs → IsEndedOn fs gs qs q → IsEndedOn es gs (ps ++ qs) q
ended_since es fs gs ps qs q fewer o = search (arith, has_both)

module _ (f : Profile) (k epoch : ℕ) (l : Whole) (w : World) (c : Cached) (caches : Caches) (valid : IsValid f) (thread : IsThread f k)
    (listed : k ≤ length w.caches) (now : w.epoch ≡ epoch) where
  next_flushed : (s : Settled) (settled : List Settled) (piece steps : List Made) (v : World) → Legal f (triples k piece ++ (triples k steps ++ l))
      → EntrySteps s piece → IsFlushedTo f k epoch l w c caches settled steps v
      → IsFlushedTo f k epoch l w c caches (s ∷ settled) (piece ++ steps) (ends f k s.entry v)
  next_flushed s settled piece steps v legal is was =
      let before : Whole = triples k steps ++ l in
      let at = taken_by f k epoch s piece before valid legal is was.known v was.live was.events (was.epoch ∙ now) s.outcome refl in
      let shown = at.0 in
      let taken = at.1 in
      let e : Event = event_for k epoch s.entry s.outcome in
      let own : Cached = record c { log = []; noted = noted_after c.noted settled } in
      let own_same : IsSameCache own (cache_of v k) = subst (λ (d : Cached). IsSameCache d (cache_of v k)) (same_own caches k own) (was.same.each k thread) in
      let new : Cached = record c { log = []; noted = noted_after c.noted (s ∷ settled) } in
      let noted : noted_of v k ++ take (64 - length (noted_of v k)) (noted_for s) ≡ noted_after c.noted (s ∷ settled) =
      ap (λ (ns : List EndedRun). ns ++ take (64 - length ns) (noted_for s)) own_same.noted ∙ noted_more settled s c.noted _ _ _ refl refl refl in
      let new_same : IsSameCache new (own_then s v k) = record { locals = own_same.locals; log = own_same.log; noted = noted; idle_since = own_same.idle_since } in
      let x : World = ends f k s.entry v in
      let stays : (a : ℕ) → live_in v.events a ≡ None → live_in x.events a ≡ None = λ a h. simp (shown.events, still_gone) in
      -- no event of an entry gives a block
      let less : OnlyFewer v.events x.events = subst (OnlyFewer v.events) (sym shown.events) (search arith) in
      let all : triples k piece ++ before ≡ triples k (piece ++ steps) ++ l = triples_append k piece steps l in
      record {
        events = cc (entry_events f k epoch s piece before valid legal is was.known);
        live = shown.live ∙ (ap (live_after e) was.live ∙ ap lives_in (sym shown.events));
        names = shown.names ∙ was.names;
        records = shown.records ∙ ap (λ (rs : List Record). Record.Event e ∷ rs) was.records;
        epoch = shown.epoch ∙ was.epoch;
        read = shown.read ∙ was.read;
        same = same_again f caches x.caches k own new
            (subst (AreSameCaches f (with_cached (with_cached caches k own) k new)) (sym taken.caches)
            (same_with f (with_cached caches k own) v.caches k new (own_then s v k) thread (omega (arith, listed, was.many)) was.same new_same));
        many = ap (λ (cs : List Cache). length cs) taken.caches ∙ (many_with v.caches k (own_then s v k) ∙ was.many);
        pages = was.pages ++ taken.pages;
        returns = returns_then f was.pages taken.pages w v x was.returns taken.returns;
        fewer = record { lives = λ at l h. was.fewer.lives at l (less.lives at l h); deeds = λ page. less.deeds page ∙ was.fewer.deeds page };
        marks = λ q of mark. elim (marked_parts q piece steps mark) [
          | inl here ↦ ended_since w.events v.events x.events was.pages taken.pages q was.fewer (taken.marks q of here)
          | inr earlier ↦ search (arith, has_both)
        ];
        kinds = only_both freeing piece steps (only_within ending freeing piece refl (entry_kinds f k epoch s piece before valid legal is was.known)) was.kinds;
        hints = hints_both piece steps (entry_hints f k epoch s piece before valid legal is was.known) was.hints;
        known = cc (part_of_own k piece before, epoch_same ending refl piece (part k before) (entry_kinds f k epoch s piece before valid legal is was.known));
      }

  abbrev look : Made
  look = made (Look Word.Epoch) epoch

  -- At the start of a flush, when the log is taken and the epoch read, the text is that of the replay.
  pub flushed_start : w.events ≡ visible l → w.live ≡ lives_in w.events → AreSameCaches f caches w.caches → c ≡ caches k
      → IsFlushedTo f k epoch l w c caches [] (look ∷ []) (set_log k [] w)
  flushed_start events live same is =
      let own : IsSameCache c (cache_of w k) = subst (λ (d : Cached). IsSameCache d (cache_of w k)) (sym is) (same.each k thread) in
      let new : Cache = record (cache_of w k) { log = [] } in
      let locals : all_locals (with_cache w.caches k new) ≡ all_locals w.caches = locals_with w.caches k new refl in
      record {
        events = events;
        live = live;
        names = refl;
        records = refl;
        epoch = refl;
        read = refl;
        same = same_with f caches w.caches k (record c { log = []; noted = noted_after c.noted [] }) new thread listed same
            (record { locals = own.locals; log = refl; noted = own.noted ∙ noted_none c.noted; idle_since = own.idle_since });
        many = many_with w.caches k new;
        pages = [];
        returns = returns_like f [] w w (set_log k [] w) (returns_nothing f w) refl refl refl locals;
        fewer = record { lives = λ a b h. h; deeds = λ page. refl };
        marks = λ q of mark. absurd (none_marked (LookEpoch ∷ []) refl q (look ∷ []) (refl, tt) mark);
        kinds = (refl, tt);
        hints = hints_none (LookEpoch ∷ []) (look ∷ []) refl (refl, tt);
        known = ap epoch_of (part_of_own k (look ∷ []) l);
      }

  -- A flush that settled these entries one by one took the text along with the replay.
  pub flushed_all : (settled : List Settled) (steps : List Made) → EntriesSteps settled steps → Legal f (triples k (steps ++ look ∷ []) ++ l)
      → IsFlushedTo f k epoch l w c caches [] (look ∷ []) (set_log k [] w)
      → IsFlushedTo f k epoch l w c caches settled (steps ++ look ∷ []) (each (ends f k) (reverse (map (λ s. s.entry) settled)) (set_log k [] w))
  flushed_all [] steps h legal start = subst (λ (ms : List Made). IsFlushedTo f k epoch l w c caches [] (ms ++ look ∷ []) (set_log k [] w)) (sym h) start
  flushed_all (s ∷ settled) steps h legal start =
      let rest : List Made = h.1 ++ look ∷ [] in
      let all : steps ++ look ∷ [] ≡ h.0 ++ rest = ap (λ (ms : List Made). ms ++ look ∷ []) h.4 ∙ append_assoc h.0 h.1 (look ∷ []) in
      let whole : Legal f (triples k (h.0 ++ rest) ++ l) = subst (λ (ms : List Made). Legal f (triples k ms ++ l)) all legal in
      let v : World = each (ends f k) (reverse (map (λ s. s.entry) settled)) (set_log k [] w) in
      let was : IsFlushedTo f k epoch l w c caches settled rest v = flushed_all settled h.1 h.3 (legal_earlier f k h.0 rest l whole) start in
      let next : IsFlushedTo f k epoch l w c caches (s ∷ settled) (h.0 ++ rest) (ends f k s.entry v) =
      next_flushed s settled h.0 rest v (subst (Legal f) (sym (triples_append k h.0 rest l)) whole) h.2 was in
      let text : each (ends f k) (reverse (s.entry ∷ map (λ s. s.entry) settled)) (set_log k [] w) ≡ ends f k s.entry v =
      cc (reverse_onto (map (λ s. s.entry) settled) s.entry [], each_last (ends f k) (reverse (map (λ s. s.entry) settled)) s.entry _) in
      rw (all, text) next
