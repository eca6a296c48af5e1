-- What logged frees and flushes show: the events that the machine allows them.
use Rattle.pas_same_text.proofs.{FreeGrains.{block_of_live, found_is}, Tests.{and_first, and_second}, GivenBack.{OnlyHints, all_only_hints}, Common.nat_tests}
use Rattle.pas_same_text.proofs.Common.{not-true, reverse_onto, reverse-reverse, find, address_of, Event, Why, Block, Profile, Word, Run, Live, live_in}
use Rattle.pas_same_text.proofs.Common.{gives_in, ends_in, Entry, EndedRun, is_sized, event_for, Settled, shown_for, reason_for, World, each, is_at, shows}
use Rattle.pas_same_text.proofs.Common.{live_after, set_log, notes, lives_in, pages_of, is_other_room, ends_block, rejects, ends, flushes, IsShown, made}
use Rattle.pas_same_text.proofs.Common.{triple, triples, event_of, events_by, with_event, View, epoch_of, Whole, part, visible, Legal, Made, Look, Kinds, Only}
use Rattle.pas_same_text.{proofs.Common.{apart, showing, triples_append, part_of_own, no_events, runs}, specs.{State.block_at, Frees.reason}}
use Rattle.pas_same_text.specs.Entries.{IsEntryReason, IsEntryEvent, HaveOutcomes, are_unsized, onto, events_of_flush, HasShown, IsFlushOf}
use Rattle.std.proofs.Common.{◌≡◌, ℕ, ◌==◌, true, false, List, [], ◌∷◌, Option, Some, refl, ap, sym, ◌∙◌, subst, arith, eq-eqb, ne_eqb, ◌++◌, map, reverse}
use Rattle.std.proofs.{Common.append_assoc, lemmas.List.map_push}
use Rattle.pas_machine.{specs.{Laws.IsCounted, Machine.{IsLive, IsReason}}, proofs.LiveBlocks.all_counted}
use Rattle.pas_free_log.specs.declared.ending.Outcome.{Outcome}
use Rattle.pas_guard.proofs.Keepers.{older_legal}
use Rattle.pas_steps.proofs.Frames.{with_append}

-- ==== What a logged free shows: the event that the machine allows it.
-- ---- what is shown besides nothing
-- .. where the block is noted and its pages are minded
-- hints alone differ from the state that shows the end
ended_now : (e : Event) (w : World) (k : ℕ) (b : Block) (x : World) → OnlyHints (notes k b (shows e w)) x → IsShown e w x
ended_now e w k b x only = search arith

-- ---- by the block at the address
block_here : (w : World) (a : ℕ) (o : Option Live) → w.live ≡ lives_in w.events → live_in w.events a ≡ o → block_at w a ≡ block_of_live o
block_here w a o live is = ap (find (is_at a)) live ∙ (found_is w.events a ∙ ap block_of_live is)

-- An entry behind which no such block lives is rejected by the text, too.
rejected : (f : Profile) (k : ℕ) (entry : Entry) (w : World) (o : Option Live) → w.live ≡ lives_in w.events → live_in w.events (address_of entry.name) ≡ o
    → ((b : Live) → o ≡ Some b → (b.block.name.turn == entry.name.turn) ≡ false) → ends f k entry w ≡ rejects k entry.name (reason w entry.name) w
rejected f k entry w o live is other = search (arith, block_here)

-- a block that lives has as its turn the number of blocks that ended there
turn_of_live : (f : Profile) (es : List Event) (a : ℕ) (b : Live) → Run f es → live_in es a ≡ Some b → b.block.name.turn ≡ ends_in es a
turn_of_live f es a b run is = let counted : IsCounted (Some b) (gives_in es a) (ends_in es a) = rw is at (all_counted f es run a) in counted.1

-- ---- THE EVENT of a logged free
as_shown : (e : Event) (w v x : World) → v ≡ x → IsShown e w x → IsShown e w v
as_shown e w v x is shown = subst (IsShown e w) (sym is) shown

module _ (f : Profile) (k : ℕ) (entry : Entry) (w : World) (live : w.live ≡ lives_in w.events) where
  -- A logged free whose refusal has this true reason is refused with it in the text.
  pub reject_text : (why : Why) → Run f w.events → IsReason w.events entry.name why → IsEntryReason entry why → ends f k entry w ≡ rejects k entry.name why w
  reject_text why run past is = search (arith, rejected, ne_eqb, turn_of_live, nat_tests, block_here, eq-eqb)

  -- A logged free of a live block by its own name and room ends that block in the text.
  pub end_text : (b : Live) → live_in w.events (address_of entry.name) ≡ Some b → b.block.name.turn ≡ entry.name.turn → is_other_room entry b.block ≡ false
      → ends f k entry w ≡ ends_block f k entry.name b.block w
  end_text b lives turn room = search (arith, block_here, eq-eqb)

  -- A logged free with a true reason to refuse it shows just that refusal.
  pub reject_shown : (why : Why) → Run f w.events → IsReason w.events entry.name why → IsEntryReason entry why
      → IsShown (Event.Reject k entry.name why) w (ends f k entry w)
  reject_shown why run reason is = search (arith, as_shown, reject_text)

  -- A logged free of a live name with no other room shows just the end of that name.
  pub end_shown : (lives : IsLive w.events entry.name) → ((b : Live) → live_in w.events (address_of entry.name) ≡ Some b → is_other_room entry b.block ≡ false)
      → IsShown (Event.End k entry.name w.epoch) w (ends f k entry w)
  end_shown lives room =
      let e : Event = Event.End k entry.name w.epoch in
      let b : Live = lives.0 in
      as_shown e w (ends f k entry w) (ends_block f k entry.name b.block w) (end_text b lives.1 lives.2 (room b lives.1))
      (ended_now e w k b.block _ (all_only_hints (pages_of f b.block) (notes k b.block (shows e w))))

  -- A logged free shows in the text just the event that the machine allows it.
  pub entry_shown : (e : Event) → Run f (e ∷ w.events) → IsEntryEvent k entry w e → IsShown e w (ends f k entry w)
  entry_shown (Event.End j name e) run is = search (arith, end_shown)
  entry_shown (Event.Reject j name why) run is = search (arith, reject_shown)
  entry_shown e run is = absurd is

-- ==== What a flush shows: one event for each logged free, in the order of the log.
-- ---- one
-- The reason that a read life word gives is one that the entry may have.
pub reason_is : (entry : Entry) (read : ℕ) → IsEntryReason entry (reason_for entry read)
reason_is entry read = search arith

-- ---- all
run_before : (f : Profile) (evs es : List Event) → Run f (onto evs es) → Run f es
run_before f [] es run = run
run_before f (e ∷ evs) es run = (run_before f evs (e ∷ es) run).1

-- The entries of a log without rooms show their events in order, where the machine allows these.
pub flush_shown : (f : Profile) (k epoch : ℕ) (entries : List Entry) (outcomes : List Outcome) (w : World) → HaveOutcomes entries outcomes
    → are_unsized entries ≡ true → w.live ≡ lives_in w.events → w.epoch ≡ epoch
    → Run f (onto (events_of_flush k epoch entries outcomes) w.events) → HasShown (events_of_flush k epoch entries outcomes) w (each (ends f k) entries w)
flush_shown f k epoch [] [] w pairs unsized live now run = record { events = refl; live = live; names = refl; epoch = refl }
flush_shown f k epoch (entry ∷ entries) (o ∷ outcomes) w pairs unsized live now run =
    let e : Event = event_for k epoch entry o in
    let evs : List Event = events_of_flush k epoch entries outcomes in
    let own : is_sized entry ≡ false = not-true (is_sized entry) (and_first _ _ unsized) in
    let rest : are_unsized entries ≡ true = and_second _ _ unsized in
    let v : World = ends f k entry w in
    let one : IsShown e w v = entry_shown f k entry w live e (run_before f evs (e ∷ w.events) run) (search (arith, reason_is)) in
    let alive : v.live ≡ lives_in v.events = one.live ∙ (ap (live_after e) live ∙ ap lives_in (sym one.events)) in
    let more : HasShown evs v (each (ends f k) entries v) =
    flush_shown f k epoch entries outcomes v pairs rest alive (one.epoch ∙ now) (subst (λ (es : List Event). Run f (onto evs es)) (sym one.events) run) in
    assumption (more.events ∙ ap (onto evs) one.events, more.names ∙ one.names, more.epoch ∙ one.epoch)
flush_shown f k epoch entries outcomes w pairs unsized live now run = absurd pairs

-- ==== The events of a flush, by its steps and in the text.
-- ---- lists
onto_is : (xs es : List Event) → onto xs es ≡ reverse xs ++ es
onto_is [] es = refl
onto_is (x ∷ xs) es = onto_is xs (x ∷ es) ∙ (sym (append_assoc (reverse xs) (x ∷ []) es) ∙ ap (λ (ys : List Event). ys ++ es) (sym (reverse_onto xs x [])))

-- The things that come of a reversed list are those of the list, reversed.
pub map_reverse : {A B : Type 0} (h : A → B) (xs : List A) → map h (reverse xs) ≡ reverse (map h xs)
map_reverse h [] = refl
map_reverse {B = B} h (x ∷ xs) =
    ap (map h) (reverse_onto xs x [])
    ∙ (map_push h (reverse xs) x
    ∙ (ap (λ (zs : List B). zs ++ h x ∷ []) (map_reverse h xs) ∙ sym (reverse_onto (map h xs) (h x) [])))

abbrev entries_of : List Settled → List Entry
entries_of settled = map (λ s. s.entry) settled

abbrev outcomes_of : List Settled → List Outcome
outcomes_of settled = map (λ s. s.outcome) settled

-- Entries and outcomes stand side by side.
paired : (settled : List Settled) → HaveOutcomes (entries_of settled) (outcomes_of settled)
paired [] = tt
paired (s ∷ settled) = paired settled

events_are : (k epoch : ℕ) (settled : List Settled) → events_of_flush k epoch (entries_of settled) (outcomes_of settled) ≡ map (shown_for k epoch) settled
events_are k epoch [] = refl
events_are k epoch (s ∷ settled) = ap (λ (es : List Event). shown_for k epoch s ∷ es) (events_are k epoch settled)

-- ---- the list of a replay
pub visible_steps : (k : ℕ) (steps : List Made) (l : Whole) → visible (triples k steps ++ l) ≡ events_by k (part k l) steps ++ visible l
visible_steps k [] l = refl
visible_steps k (m ∷ steps) l =
    ap (λ (v : View). with_event (event_of k (epoch_of v) m.step m.answer) (visible (triples k steps ++ l))) (part_of_own k steps l)
    ∙ (ap (with_event (event_of k (epoch_of (steps ++ part k l)) m.step m.answer)) (visible_steps k steps l)
    ∙ with_append (event_of k (epoch_of (steps ++ part k l)) m.step m.answer) (events_by k (part k l) steps) (visible l))

-- Steps of kinds that make no event leave what a list shows as it was.
pub unshown : (ks : Kinds) → apart ks showing ≡ true → (k : ℕ) (steps : List Made) (l : Whole) → Only ks steps → visible (triples k steps ++ l) ≡ visible l
unshown ks w k steps l only = visible_steps k steps l ∙ ap (λ (es : List Event). es ++ visible l) (no_events ks w k (part k l) steps only)

-- ---- A FLUSH
module _ (f : Profile) (k : ℕ) (logged : List Entry) (noted noted' : List EndedRun) (steps : List Made) (l : Whole) (w : World)
    (is : IsFlushOf f k logged noted noted' steps l w) where
  abbrev in_order : List Settled
  in_order = reverse is.empties.settled

  logged_are : logged ≡ entries_of in_order
  logged_are = sym is.empties.entries_are ∙ sym (map_reverse (λ (s : Settled). s.entry) is.empties.settled)

  abbrev shown : List Event
  shown = events_of_flush k is.empties.epoch (entries_of in_order) (outcomes_of in_order)

  shown_are : (es : List Event) → onto shown es ≡ map (shown_for k is.empties.epoch) is.empties.settled ++ es
  shown_are es =
      ap (λ (evs : List Event). onto evs es) (events_are k is.empties.epoch in_order)
      ∙ (onto_is (map (shown_for k is.empties.epoch) in_order) es
      ∙ ap (λ (evs : List Event). evs ++ es) (ap reverse (map_reverse _ is.empties.settled) ∙ reverse-reverse _))

  text_shown : HasShown shown (set_log k [] w) (each (ends f k) (entries_of in_order) (set_log k [] w))
  text_shown = flush_shown f k is.empties.epoch (entries_of in_order) (outcomes_of in_order) (set_log k [] w) (paired in_order)
      (subst (λ (es : List Entry). are_unsized es ≡ true) logged_are is.unsized) is.live (let at : Legal f
      (triple k (made (Look Word.Epoch) is.empties.epoch) ∷ l) =
      older_legal f (triples k is.empties.entries) (triple k (made (Look Word.Epoch) is.empties.epoch) ∷ l)
      (subst (Legal f) (sym (triples_append k is.empties.entries (made (Look Word.Epoch) is.empties.epoch ∷ []) l))
      (subst (λ (ms : List Made). Legal f (triples k ms ++ l)) is.empties.steps_are is.legal)) in
      is.epoch ∙ sym at.0.answer_is)
      (subst (Run f) (search (arith, visible_steps, shown_are)) (runs f (triples k steps ++ l) is.valid is.legal))

  flushed_is : flushes f k w ≡ each (ends f k) (entries_of in_order) (set_log k [] w)
  flushed_is = ap (λ (es : List Entry). each (ends f k) es (set_log k [] w)) (is.log ∙ logged_are)

  -- After a flush the text's events are those that its steps show in the replay.
  pub flush_events : (flushes f k w).events ≡ visible (triples k steps ++ l)
  flush_events = ap (λ (v : World). v.events) flushed_is ∙ (text_shown.events ∙ sym (search (arith, visible_steps, shown_are)))

  -- After a flush the live blocks of the text are those that live by its events.
  pub flush_lives : (flushes f k w).live ≡ lives_in (flushes f k w).events
  flush_lives = subst (λ (v : World). v.live ≡ lives_in v.events) (sym flushed_is) text_shown.live

  -- A flush leaves the epoch of the text as it was.
  pub flush_epoch : (flushes f k w).epoch ≡ w.epoch
  flush_epoch = ap (λ (v : World). v.epoch) flushed_is ∙ text_shown.epoch
