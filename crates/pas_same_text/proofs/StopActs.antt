-- FLUSHES AND STOPS as acts: a flush leads the text to the state of the replay after it, and so does a stop, by which all local allocators go too.
use Rattle.pas_same_text.proofs.StopSteps.{each_up, IsGivenUp, AllOfRegion, unique_of, IsMarkedBy, IsMarkedIn, AllClasses, ReadsRoom, room_earlier, all_marked}
use Rattle.pas_same_text.proofs.{StopSteps.all_hints, FlushedLogs.{IsFlushedTo, IsEndedOn, OnlyFewer, flushed_start, flushed_all}, FreeGrains.held_still}
use Rattle.pas_same_text.proofs.{FreeGrains.{cached_held, held_by, never_both, guards_as, still_unguarded}, RestingPages.{is_open, deed_now, word_known}}
use Rattle.pas_same_text.proofs.{RestingPages.{word_now, IsGivenBack, open_from, covered_not_held, free_left, given_pages}, CacheLists.same_guards}
use Rattle.pas_same_text.proofs.{CacheLists.{flushes_keep, stops_keep, same_own, same_with, same_again}, Flushes.{map_reverse, visible_steps}}
use Rattle.pas_same_text.proofs.{GivenBack.{returns_then, has_both}, Pieces.read_open, StepMarks.{hint_marks, offer_marks, offered_of_region, epoch_stays_by}}
use Rattle.pas_same_text.proofs.{StepMarks.{IsMarked, marked_parts}, Common.{cases_Bool, eqb-false, false≢true, or_left, or_right, reverse-append, All-head}}
use Rattle.pas_same_text.proofs.Common.{All-tail, length_of, IsValid, IsPage, IsDirectoryOf, class_grains, IsSlotStart, deed_word_of, kind_of_class, Directory}
use Rattle.pas_same_text.proofs.Common.{Event, Profile, Word, Run, Live, live_in, deed_in, made, triples, events_by, holds, usable_by_kind, View, Only, part}
use Rattle.pas_same_text.proofs.Common.{visible, Legal, word_after, Made, Look, IsPartOf, runs, legal_earlier, deed_same, one_holder, freeing, Settled}
use Rattle.pas_same_text.proofs.Common.{noted_after, Entry, EndedRun, Slots, EmptiesLog, Cached, any_covers, IsLocal, covers, releasing, Record, IsThread}
use Rattle.pas_same_text.proofs.Common.{Progress, records_of, with_steps, with_records, with_cache as with_cached, World, each, set_log, Local, cache_of}
use Rattle.pas_same_text.proofs.Common.{locals_of, ends, flushes, stops, is_of, IsBetween, AreBlocksUsable, free_bit, IsSame, HasSame, AreSameCaches}
use Rattle.pas_same_text.proofs.Common.{IsSameCache, AreSameLocals, lives_in, has_number, hints_both, HasMember, class_grains_positive, same_from_deed_word}
use Rattle.pas_same_text.{proofs.Common.{triples_append, only_both, only_within, events_append, start_of, home_of, start_at}, specs.Frees.gives_up_all}
use Rattle.std.proofs.Common.{◌≤◌, length, ◌≡◌, ℕ, ◌+◌, ◌*◌, ◌/◌, ◌%◌, ◌<◌, ◌==◌, Bool, true, false, if◌then◌else◌, List, [], ◌∷◌, ◌++◌, map, reverse, Some}
use Rattle.std.proofs.Common.{refl, ap, sym, ◌∙◌, subst, arith, true≢false, eqb-true, not, ◌⊎◌, inl, inr, All, eq-eqb}
use Rattle.pas_bits.proofs.Runs.{IsMet, met}
use Rattle.pas_machine.proofs.LiveBlocks.{live_apart, live_long}
use Rattle.pas_cache.specs.Changes.{StopsEach}

-- ---- records
-- the records of events come to the end, on both sides
pub events_recorded : (rs ws vs : List Record) (es : List Event) → rs ≡ reverse ws → vs ≡ map Record.Event es ++ ws → rs ++ records_of es ≡ reverse vs
events_recorded rs ws vs es is more = cc (map_reverse Record.Event es, reverse-append (map Record.Event es) ws)

-- ---- the whole flush
module _ (f : Profile) (k : ℕ) (p : Progress) (w : World) (steps : List Made) (noted' : List EndedRun) (valid : IsValid f) (thread : IsThread f k)
    (listed : k ≤ length w.caches) (same : IsSame f p w) (legal : Legal f (triples k steps ++ p.list))
    (h : EmptiesLog k (p.caches k).log (p.caches k).noted noted' steps) where
  abbrev look : Made
  look = made (Look Word.Epoch) h.epoch

  all_legal : Legal f (triples k (h.entries ++ look ∷ []) ++ p.list)
  all_legal = subst (λ (ms : List Made). Legal f (triples k ms ++ p.list)) h.steps_are legal

  -- The stop reads the text's epoch.
  now : w.epoch ≡ h.epoch
  now = let first : Legal f (triples k (look ∷ []) ++ p.list) = legal_earlier f k h.entries (look ∷ []) p.list all_legal in same.epoch ∙ sym first.0.answer_is

  -- The text's flush ends each entry in turn, and empties the log.
  text : flushes f k w ≡ each (ends f k) (reverse (map (λ (s : Settled). s.entry) h.settled)) (set_log k [] w)
  text = ap (λ (es : List Entry). each (ends f k) es (set_log k [] w)) ((same.caches.each k thread).log ∙ sym h.entries_are)

  -- A flush in the text does for the entries of the log what its steps do in the replay, one by one.
  flush_to : IsFlushedTo f k h.epoch p.list w (p.caches k) p.caches h.settled steps (flushes f k w)
  flush_to =
      rw (text, h.steps_are) (flushed_all f k h.epoch p.list w _ p.caches valid thread listed now h.settled h.entries h.order all_legal
      (flushed_start f k h.epoch p.list w _ p.caches valid thread listed now same.pages.events same.pages.live same.caches refl))

  -- A flush adds the events of its steps to the records, and nothing else.
  flush_records : (flushes f k w).records ≡ map Record.Event (events_by k (part k p.list) steps) ++ w.records
  flush_records = flush_to.records ∙ ap (λ (es : List Event). map Record.Event es ++ w.records) (sym (h.events (part k p.list)))

-- ---- grains of ended blocks

module _ (f : Profile) (p p' : Progress) (w v : World) (pages : List ℕ) (valid : IsValid f) (before : IsBetween f p) (after : IsBetween f p')
    (events : w.events ≡ visible p.list) (same : HasSame f p' v)
    (usable : AreBlocksUsable (visible p.list)) (fewer : OnlyFewer w.events v.events)
    (none_held : (j g : ℕ) → holds (part j p'.list) g ≡ true → holds (part j p.list) g ≡ true) where
  -- The text's events are a run of the machine.
  run : Run f w.events
  run = subst (Run f) (sym events) (runs f p.list valid before.legal)

  -- a page of which a block ended has room, and no guard has it
  ended_room : (q : ℕ) (d : Directory) → IsDirectoryOf f d → is_of v d q ≡ true → IsEndedOn w.events v.events pages q → is_open v d q ≡ true
  ended_room q d of is o =
      let own : live_in (visible p.list) o.address ≡ Some o.block = ap (λ (es : List Event). live_in es o.address) (sym events) ∙ o.lived in
      let m : IsMet (o.address / 16) (length_of o.block.block) q = met _ _ q (live_long f w.events run o.address o.block o.lived) o.met in
      let g : ℕ = m.grain in
      let deed : deed_in (visible p.list) (g / 256) ≡ Some d =
      cc (fewer.deeds (g / 256), deed_now f p' v valid after same q d of is) in
      let page : g / 256 ≡ q = m.of_page in
      let whole : 256 * q + g % 256 ≡ g = omega (arith, page) in
      let small : g % 256 < 256 = omega arith in
      let free : free_bit p'.list g ≡ true = free_left f p'.list valid after.legal g
      (λ j held. covered_not_held f p.list valid before.legal g o.address o.block own m.of_run j (none_held j g held))
      (λ a b lives of_it. other o g m.of_run a b lives of_it) in
      open_from f p' v valid after same d q (g % 256) small (usable.usable o.address o.block own g m.of_run d deed) (ap (free_bit p'.list) whole ∙ free)
    where
      other : (o : IsEndedOn w.events v.events pages q) (g : ℕ) → IsPartOf g o.address o.block → (a : ℕ) (b : Live) → live_in (visible p'.list) a ≡ Some b
          → IsPartOf g a b → ⊥
      other o g of_own a b lives of_it = elim (cases_Bool (o.address == a)) [
        | inl e ↦ search (arith, eqb-true)
        | inr e ↦
            let was : live_in w.events a ≡ Some b = fewer.lives a b (ap (λ (es : List Event). live_in es a) same.events ∙ lives) in
            true≢false (sym of_it ∙ live_apart f w.events run o.address a o.block b o.lived was (eqb-false o.address a e) g of_own)
      ]

-- ---- the act
module _ (f : Profile) (k : ℕ) (p : Progress) (w : World) (steps : List Made) (c' : Cached) (valid : IsValid f) (thread : IsThread f k)
    (listed : k ≤ length w.caches) (before : IsBetween f p) (same : IsSame f p w) (usable : AreBlocksUsable (visible p.list))
    (h : EmptiesLog k (p.caches k).log (p.caches k).noted c'.noted steps)
    (cache : c' ≡ record (p.caches k) { log = []; noted = c'.noted }) (after : IsBetween f (with_steps p k steps c')) where
  abbrev emptied : World
  emptied = flushes f k w

  -- The list with the steps is legal.
  legal : Legal f (triples k steps ++ p.list)
  legal = after.legal

  -- The flush comes to the text's flush.
  comes : IsFlushedTo f k h.epoch p.list w (p.caches k) p.caches h.settled steps emptied
  comes = flush_to f k p w steps c'.noted valid thread listed same legal h

  flush_has : HasSame f (with_steps p k steps c') emptied
  flush_has =
      let guards = guards_as p.books w emptied (same_guards w emptied (flushes_keep f k w)) same.guards in
      assumption (
        guards,
        subst (λ (c : Cached). AreSameCaches f (with_cached p.caches k c) emptied.caches)
            (ap (λ (ns : List EndedRun). record (p.caches k) { log = []; noted = ns }) (sym h.noted_are) ∙ sym cache) comes.same,
        comes,
      )

  -- A flush leads the text to the state of the replay after its steps, caches and records too.
  pub flush_same : IsSame f (with_records (with_steps p k steps c') (records_of (events_by k (part k p.list) steps))) emptied
  flush_same =
      let pages = given_pages f k p.list (with_steps p k steps c') w emptied steps valid same.pages refl after flush_has (record {
        pages = comes.pages;
        returns = comes.returns;
        kinds = comes.kinds;
        hints = comes.hints;
        marks = λ q of hint. (comes.marks q of (hint_marks q steps hint)).minded;
        rooms = λ q d of is offer.
            ended_room f p (with_steps p k steps c') w emptied comes.pages valid before after same.pages.events flush_has usable comes.fewer
            (λ j g. held_still f p (with_steps p k steps c') before after refl j g
            (λ h. ap (λ (ls : List Slots). any_covers ls g) (sym (search (arith, eqb-true))) ∙ h)) q d of is
            (comes.marks q (offered_of_region f k p.list q steps legal offer) (offer_marks q steps offer));
        guarded = λ q none. still_unguarded w emptied q (same_guards w emptied (flushes_keep f k w)) none;
      }) in
      let more = flush_records f k p w steps c'.noted valid thread listed same legal h in
      let records = events_recorded p.records w.records emptied.records (events_by k (part k p.list) steps) same.records more in
      let epoch = comes.epoch ∙ (same.epoch ∙ sym (epoch_stays_by freeing refl k steps p.list comes.kinds)) in
      assumption (pages, records, epoch, comes.names ∙ same.names, comes.read ∙ same.read, flush_has)

-- ==== STOPS: a flush, and then all local allocators of the cache go.
-- ---- what is known of each local allocator of a cache
all_classes : (f : Profile) (v : View) (slots : List Slots) → All (IsLocal f v) slots → AllClasses slots
all_classes f v [] known = tt
all_classes f v (s ∷ slots) known = ((All-head (IsLocal f v) s slots known).class, all_classes f v slots (All-tail (IsLocal f v) s slots known))

all_of_region : (f : Profile) (v : View) (slots : List Slots) (ls : List Local) → AreSameLocals slots ls → All (IsLocal f v) slots → AllOfRegion f ls
all_of_region f v [] [] same known = tt
all_of_region f v (s ∷ slots) (l ∷ ls) same known = (subst (IsPage f) (sym same.0.page) (All-head (IsLocal f v) s _ known).page, all_of_region f v slots ls same.1 (All-tail (IsLocal f v) s slots known))
all_of_region f v slots ls same known = absurd same

-- the page of one that is marked is minded
marked_minded : (q : ℕ) (steps : List Made) (slots : List Slots) (ls : List Local) → AreSameLocals slots ls → IsMarkedIn q steps slots
    → has_number (map (λ l. l.page) ls) q ≡ true
marked_minded q steps slots [] same (IsMarkedIn.Here s rest o) = absurd same
marked_minded q steps slots (l ∷ ls) same (IsMarkedIn.Here s rest o) = or_left (l.page == q) _ (eq-eqb l.page q (same.0.page ∙ o.page))
marked_minded q steps slots [] same (IsMarkedIn.There s rest o) = absurd same
marked_minded q steps slots (l ∷ ls) same (IsMarkedIn.There s rest o) = or_right (l.page == q) _ (marked_minded q steps rest ls same.1 o)

-- one of the list that is marked
record IsOneOf (f : Profile) (v : View) (q : ℕ) (steps : List Made) (slots : List Slots) : Type 0 where
  own : Slots
  marked : IsMarkedBy own q steps
  -- The local allocators are the actor's.
  known : IsLocal f v own
  -- Afterwards the replay has what the text has.
  has : (g : ℕ) → covers own g ≡ true → any_covers slots g ≡ true

one_of : (f : Profile) (v : View) (q : ℕ) (steps : List Made) (slots : List Slots) → All (IsLocal f v) slots → IsMarkedIn q steps slots
    → IsOneOf f v q steps slots
one_of f v q steps slots known (IsMarkedIn.Here s rest o) = record { own = s; marked = o; known = All-head (IsLocal f v) s _ known; has = λ g h. or_left _ _ h }
one_of f v q steps slots known (IsMarkedIn.There s rest o) = search (arith, one_of f v q steps rest (All-tail (IsLocal f v) s rest known) o)

-- a slot's first grain is one that blocks of its page's directory may cover
slot_usable : (right : Bool) (class b : ℕ) → 1 ≤ class_grains class → IsSlotStart class b → usable_by_kind (kind_of_class (not right) class) b ≡ true
slot_usable right class b h slot = grind arith

-- slots whose page is of a directory in the text, after steps of their thread that give back, are at home there; that page is open where they had a slot whose grains are free now, or where room was read
module _ (f : Profile) (k : ℕ) (p : Progress) (steps : List Made) (c' : Cached) (v : World) (valid : IsValid f) (before : IsBetween f p)
    (after : IsBetween f (with_steps p k steps c')) (has : HasSame f (with_steps p k steps c') v) (kinds : Only freeing steps)
    (s : Slots) (known : IsLocal f (part k p.list) s) where
  abbrev ended : Progress
  ended = with_steps p k steps c'

  home_is : (q : ℕ) (d : Directory) → IsDirectoryOf f d → is_of v d q ≡ true → s.page ≡ q → d ≡ home_of s
  home_is q d of is page =
      let now : word_after ended.list (Word.Deed q) ≡ deed_word_of d = word_now f ended v valid after has q d (deed_now f ended v valid after has q d of is) in
      let stays : word_after ended.list (Word.Deed q) ≡ word_after p.list (Word.Deed q) = deed_same freeing refl k steps p.list q kinds in
      same_from_deed_word d _ of.kind known.directory.kind (sym now ∙ (stays ∙ (ap (λ (x : ℕ). word_after p.list (Word.Deed x)) (sym page) ∙ word_known f p.list before.legal k s.page (home_of s) known.deed)))

  -- A page with a stopped slot whose grains are free then is open to its directory.
  pub slot_room : ((g : ℕ) → covers s g ≡ true → free_bit ended.list g ≡ true) → (q : ℕ) (d : Directory) → IsDirectoryOf f d → is_of v d q ≡ true → s.page ≡ q
      → HasMember s.starts → is_open v d q ≡ true
  slot_room free q d of is page m =
      let b : ℕ = m.0 in
      let small : b < 256 = m.1 in
      let slot : IsSlotStart s.class b = known.starts b m.2 in
      let some : 1 ≤ class_grains s.class = class_grains_positive s.class known.class in
      let first : start_of s.class b ≡ b = start_at s.class b b slot (omega arith) (omega (arith, some)) in
      let g : ℕ = 256 * q + b in
      let at_grain : (256 * q + b) % 256 ≡ b = omega (arith, small) in
      let covered : covers s g ≡ true = cc (eq-eqb s.page (g / 256) (page ∙ sym (omega (arith, small)))) in
      open_from f ended v valid after has d q b small (ap (λ (x : Directory). usable_by_kind x.kind b) (home_is q d of is page) ∙ slot_usable s.right s.class b some slot) (free g covered)

  -- A page of which a stop read room is open to its directory.
  pub read_room : (q : ℕ) (d : Directory) → IsDirectoryOf f d → is_of v d q ≡ true → s.page ≡ q → ReadsRoom q (home_of s) steps → is_open v d q ≡ true
  read_room q d of is page r = read_open f ended v valid after has freeing refl k p.list steps refl kinds q d (home_of s) (home_is q d of is page) r

module _ (f : Profile) (k : ℕ) (p : Progress) (w : World) (flushed stopped : List Made) (c' : Cached) (valid : IsValid f) (thread : IsThread f k)
    (listed : k ≤ length w.caches) (before : IsBetween f p) (same : IsSame f p w) (usable : AreBlocksUsable (visible p.list))
    (h : EmptiesLog k (p.caches k).log (p.caches k).noted c'.noted flushed) (each : StopsEach (p.caches k).locals stopped) (kinds : Only releasing stopped)
    (silent : (v : View) → events_by k v stopped ≡ [])
    (cache : c' ≡ record (p.caches k) { locals = []; log = []; noted = c'.noted }) (after : IsBetween f (with_steps p k (stopped ++ flushed) c')) where
  abbrev p' : Progress
  p' = with_steps p k (stopped ++ flushed) c'

  abbrev vf : World
  vf = flushes f k w

  abbrev v : World
  v = gives_up_all k vf

  abbrev c : Cached
  c = p.caches k

  -- So it does before a stop.
  to : IsFlushedTo f k h.epoch p.list w c p.caches h.settled flushed vf
  to = flush_to f k p w flushed c'.noted valid thread listed same (legal_earlier f k stopped flushed p.list after.legal) h

  abbrev own : Cached
  own = record c { log = []; noted = noted_after c.noted h.settled }

  own_same : IsSameCache own (cache_of vf k)
  own_same = subst (λ (d : Cached). IsSameCache d (cache_of vf k)) (same_own p.caches k own) (to.same.each k thread)

  known : All (IsLocal f (part k p.list)) c.locals
  known = (before.rest.working k thread).locals.known

  listed_then : k ≤ length vf.caches
  listed_then = omega (arith, to.many, listed)

  -- The text gives them up.
  up : IsGivenUp f k (locals_of vf k) vf v
  up = each_up f k (locals_of vf k) vf thread.0 listed_then refl (unique_of c.locals (locals_of vf k) own_same.locals
      (before.rest.working k thread).locals.apart.one_each) (all_of_region f (part k p.list) c.locals (locals_of vf k) own_same.locals known)

  -- ---- events and caches
  events : v.events ≡ visible p'.list
  events =
      up.events
      ∙ (to.events
      ∙ (ap (λ (es : List Event). es ++ visible (triples k flushed ++ p.list)) (sym (silent (part k (triples k flushed ++ p.list))))
      ∙ (sym (visible_steps k stopped (triples k flushed ++ p.list)) ∙ ap visible (triples_append k stopped flushed p.list))))

  has : HasSame f p' v
  has =
      let live = up.live ∙ (to.live ∙ ap lives_in (sym up.events)) in
      let caches = same_again f p.caches v.caches k own c'
      (rw up.caches (same_with f (with_cached p.caches k own) vf.caches k c' (record (cache_of vf k) { locals = [] }) thread listed_then to.same
      (rw cache (record { locals = tt; log = own_same.log; noted = own_same.noted ∙ sym h.noted_are; idle_since = own_same.idle_since })))) in
      assumption (events, live, caches, guards_as p.books w v (same_guards w v (stops_keep f k w)) same.guards)

  -- ---- grains that an actor holds then
  held_at : (j g : ℕ) (t : Bool) → (j == k) ≡ t → any_covers (if t then c' else p.caches j).locals g ≡ true → any_covers (p.caches j).locals g ≡ true
  held_at j g t e held = search (arith, false≢true)

  held_before : (j g : ℕ) → holds (part j p'.list) g ≡ true → holds (part j p.list) g ≡ true
  held_before j g held = held_still f p p' before after refl j g (held_at j g (j == k) refl) held

  -- Only ends and puts lie between.
  fewer : OnlyFewer w.events v.events
  fewer = subst (OnlyFewer w.events) (sym up.events) to.fewer

  -- ---- why a page is offered
  all_kinds : Only freeing (stopped ++ flushed)
  all_kinds = only_both freeing stopped flushed (only_within releasing freeing stopped refl kinds) to.kinds

  slots_free : (s : Slots) → ((g : ℕ) → covers s g ≡ true → any_covers c.locals g ≡ true) → (g : ℕ) → covers s g ≡ true → free_bit p'.list g ≡ true
  slots_free s in_cache g covered =
      let held : holds (part k p.list) g ≡ true = cached_held f p before k g thread (in_cache g covered) in
      free_left f p'.list valid after.legal g
      (λ j now. let is_own : j ≡ k = eqb-true j k (one_holder f p.list valid before.legal j k g (held_before j g now) held) in (search (arith, held_by, never_both)))
      (λ a b lives of_it. covered_not_held f _ valid before.legal g a b (cc (fewer.lives a b (ap (λ (es : List Event). live_in es a) has.events ∙ lives))) of_it k held)

  marked_room : (q : ℕ) (d : Directory) → IsDirectoryOf f d → is_of v d q ≡ true → (o : IsOneOf f (part k p.list) q stopped c.locals)
      → HasMember o.own.starts ⊎ ReadsRoom q (home_of o.own) stopped → is_open v d q ≡ true
  marked_room q d of is o (inl some) = slot_room f k p _ c' v valid before after has all_kinds _ o.known (slots_free o.own o.has) q d of is o.marked.page some
  marked_room q d of is o (inr read) = read_room f k p _ c' v valid before after has all_kinds o.own o.known q d of is o.marked.page (room_earlier q _ _ _ read)

  stop_marks : (q : ℕ) → IsMarked q stopped → IsMarkedIn q stopped c.locals
  stop_marks q marked = all_marked q c.locals stopped (all_classes f (part k p.list) c.locals known) each.order marked

  -- Cached slots and ended blocks were given back.
  given : IsGivenBack f k p.list w (stopped ++ flushed) v
  given = record {
    pages = to.pages ++ map (λ l. l.page) (locals_of vf k);
    returns = returns_then f to.pages (map (λ l. l.page) (locals_of vf k)) w vf v to.returns up.returns;
    kinds = all_kinds;
    hints = hints_both stopped flushed (all_hints c.locals stopped each.order) to.hints;
    marks = λ q of hint. has_both to.pages _ q ∙ elim (marked_parts q stopped flushed (hint_marks q (stopped ++ flushed) hint)) [
      | inl first ↦ or_right (has_number to.pages q) _ (marked_minded q stopped c.locals (locals_of vf k) own_same.locals (stop_marks q first))
      | inr later ↦ or_left (has_number to.pages q) (has_number (map (λ l. l.page) (locals_of vf k)) q) (to.marks q of later).minded
    ];
    rooms = λ q d of is offer. elim (marked_parts q stopped flushed (offer_marks q (stopped ++ flushed) offer)) [
      | inl first ↦ let o = one_of f (part k p.list) q stopped c.locals known (stop_marks q first) in marked_room q d of is o o.marked.room
      | inr later ↦ ended_room f p p' w v to.pages valid before after same.pages.events has usable fewer held_before q d of is
          (rw up.events (to.marks q (offered_of_region f k p.list q (stopped ++ flushed) after.legal offer) later))
    ];
    guarded = λ q none. still_unguarded w v q (same_guards w v (stops_keep f k w)) none;
  }

  -- A flush and then a stop of all local allocators lead the text to the replay's state.
  pub stop_same : IsSame f (with_records p' (records_of (events_by k (part k p.list) (stopped ++ flushed)))) (stops f k w)
  stop_same =
      let pages = given_pages f k p.list p' w v (stopped ++ flushed) valid same.pages refl after has given in
      let records = events_recorded p.records w.records v.records (events_by k (part k p.list) (stopped ++ flushed)) same.records (up.records
      ∙ (flush_records f k p w flushed c'.noted valid thread listed same (legal_earlier f k stopped flushed p.list after.legal) h
      ∙ ap (λ (es : List Event). map Record.Event es ++ w.records)
      (sym (events_append k stopped flushed (part k p.list) ∙ ap (λ (es : List Event). es ++ events_by k (part k p.list) flushed) (silent _))))) in
      let epoch = up.epoch ∙ (to.epoch ∙ (same.epoch ∙ sym (epoch_stays_by freeing refl k (stopped ++ flushed) p.list all_kinds))) in
      assumption (pages, records, epoch, up.names ∙ (to.names ∙ same.names), up.read ∙ (to.read ∙ same.read), has)
