-- A BLOCK IS GIVEN after pages were made ready for it: what that is in the text, and which grains are in use then.
use Rattle.pas_same_text.proofs.Common.{LendsNone, empty_bit, cases_Bool, false≢true, same_Some, eqb-false, AllByRecursion, in_run, address_of, grain_of}
use Rattle.pas_same_text.proofs.Common.{length_of, IsValid, IsKind, IsPage, deed_word_of, Directory, Event, Block, Profile, Word, Run, Live, live_in, deed_in}
use Rattle.pas_same_text.proofs.Common.{gives_in, allocating, Cached, any_covers, triples, events_by, with_event, Only, InTurn, View, Always, Giving, LookLife}
use Rattle.pas_same_text.proofs.Common.{Readings, has_right, known_deed, part, word_after, visible, Made, Hint, Unpark, IsPartOf, free_of_page, runs}
use Rattle.pas_same_text.proofs.Common.{lends_none, BackStep, pages_from, Record, Progress, named, records_of, World, Cache, IsBetween, IsSearch, IsSame}
use Rattle.pas_same_text.proofs.Common.{lives_in, HasSame, AreSameCaches, AreSearch, EventsAt, IsReturnOf, KeepsMarks, searching, ByDeed, FromOffered}
use Rattle.pas_same_text.proofs.Common.{LeavesWhere, address_on, gives, readies, searched, only_both, only_within, part_of_own, triples_append, run_of, to_run}
use Rattle.pas_same_text.proofs.Pieces.{UsesOnly, IsPiece, piece_pages, IsInUse, LeavesBehind, left_offered, marks_behind, no_hint, LeftAll, giving, leaving}
use Rattle.pas_same_text.proofs.{Pieces.rest_leaves, CachedSlots.block_of, StopActs.events_recorded, Flushes.visible_steps, FreeGrains.free_uncovered}
use Rattle.pas_same_text.proofs.{FreeGrains.guards_as, SmallActs.after_with, SearchedPages.{deed_chosen, offered_chosen}, RestingPages.word_known}
use Rattle.pas_same_text.proofs.RunsFound.{deeds_of, shown, shown_events, shown_records, shown_lives, shown_rest, IsAtPage, AllAtPage, search_at, given_ready}
use Rattle.pas_same_text.proofs.StepMarks.{epoch_stays_by, HintsPage, at_bare, at_unbacked, once_parts}
use Rattle.std.proofs.Common.{◌≡◌, ℕ, ◌+◌, ◌*◌, ◌/◌, ◌<◌, ◌==◌, Bool, true, false, if◌then◌else◌, List, [], ◌∷◌, ◌++◌, reverse, Some, ◌⊎◌, inl, inr, refl, ap}
use Rattle.std.proofs.Common.{sym, ◌∙◌, subst, eq-eqb, eqb-true, ne_eqb, zero, suc, None, Ok, append-nil, ◌≤◌, arith}

-- ---- events that make pages ready
-- a deed of the directory, of one of these pages, or a backing
pub data IsReadying (k : ℕ) (d : Directory) (mine : ℕ → Bool) : Event → Type 0 where
  Deeds : (page : ℕ) → mine page ≡ true → IsReadying k d mine (Event.Deed k page d)
  Backs : (page : ℕ) → IsReadying k d mine (Event.Back k page)

module _ (k : ℕ) (d : Directory) (mine : ℕ → Bool) where
  abbrev pub AreReadying : List Event → Type 0
  AreReadying es = AllByRecursion (IsReadying k d mine) es

  -- What neither a deed of these pages nor a backing changes is as it was.
  reads_same : {A : Type 0} (read : List Event → A) → ((page : ℕ) (es : List Event) → mine page ≡ true → read (Event.Deed k page d ∷ es) ≡ read es)
      → ((page : ℕ) (es : List Event) → read (Event.Back k page ∷ es) ≡ read es) → (es base : List Event) → AreReadying es → read (es ++ base) ≡ read base
  reads_same read deeds backs [] base all = refl
  reads_same read deeds backs (e ∷ es) base all = at e all.0 ∙ reads_same read deeds backs es base all.1
    where
      at : (e : Event) → IsReadying k d mine e → read (e ∷ (es ++ base)) ≡ read (es ++ base)
      at e (IsReadying.Deeds page here) = deeds page (es ++ base) here
      at e (IsReadying.Backs page) = backs page (es ++ base)

  -- They leave the live blocks as they were.
  pub ready_lives : (es base : List Event) (a : ℕ) → AreReadying es → live_in (es ++ base) a ≡ live_in base a
  ready_lives es base a all = reads_same (λ evs. live_in evs a) (λ page evs here. refl) (λ page evs. refl) es base all

  -- They leave the number of blocks given at each address as it was.
  pub ready_gives : (es base : List Event) (a : ℕ) → AreReadying es → gives_in (es ++ base) a ≡ gives_in base a
  ready_gives es base a all = reads_same (λ evs. gives_in evs a) (λ page evs here. refl) (λ page evs. refl) es base all

  -- They leave the deed of each other page as it was.
  pub ready_deeds : (es base : List Event) (x : ℕ) → mine x ≡ false → AreReadying es → deed_in (es ++ base) x ≡ deed_in base x
  ready_deeds es base x out all = reads_same (λ evs. deed_in evs x)
      (λ page evs here. cc (ne_eqb page x (λ same. false≢true (sym out ∙ (ap mine (sym same) ∙ here)))))
      (λ page evs. refl) es base all

  -- The deeds of these pages make them ready.
  pub made_ready : (ps : List ℕ) → AllByRecursion (λ x. mine x ≡ true) ps → AreReadying (deeds_of k d ps)
  made_ready [] all = tt
  made_ready (x ∷ ps) all = (IsReadying.Deeds x all.0, made_ready ps all.1)

  -- The backings of a run of pages in turn make pages ready.
  pub backs_ready : (n first : ℕ) (v : View) (steps : List Made) → InTurn BackStep (pages_from first n) steps → AreReadying (events_by k v steps)
  backs_ready zero first v steps turn = subst (λ (ms : List Made). AreReadying (events_by k v ms)) (sym turn) tt
  backs_ready (suc n) first v steps turn = subst (λ (ms : List Made). AreReadying (events_by k v ms))
      (sym (turn.4 ∙ ap (λ (ms : List Made). ms ++ turn.1) turn.2.1)) (one (turn.2.0 == 0) (events_by k v turn.1) (backs_ready n first v turn.1 turn.3))
    where
      one : (t : Bool) (es : List Event) → AreReadying es → AreReadying (with_event (if t then Some (Event.Back k (first + n)) else None) es)
      one true es all = (IsReadying.Backs (first + n), all)
      one false es all = all

-- Events at one page make it ready.
at_ready : (k : ℕ) (d : Directory) (page : ℕ) (es : List Event) → AllAtPage k d page es → AreReadying k d (λ x. page == x) es
at_ready k d page [] all = tt
at_ready k d page (e ∷ es) all = (at e all.0, at_ready k d page es all.1)
  where
    at : (e : Event) → IsAtPage k d page e → IsReadying k d (λ x. page == x) e
    at e IsAtPage.Deeds = IsReadying.Deeds page (eq-eqb page page refl)
    at e IsAtPage.Backs = IsReadying.Backs page

-- ---- the give
-- Actor k gave the block with this address, room and heap by the last event of these steps, which lead from p to q. The text's state at p is w.
pub record GivesBlock (f : Profile) (k : ℕ) (p q : Progress) (w : World) (steps : List Made) (es : List Event) (block : Block)
    (address room heap : ℕ) : Type 0 where
  pub valid : IsValid f
  pub same : IsSame f p w
  pub there : IsBetween f q
  pub list : q.list ≡ triples k steps ++ p.list
  pub events_are : events_by k (part k p.list) steps ≡ Event.Give k block ∷ es
  pub address_is : address_of block.name ≡ address
  pub room_is : block.room ≡ room
  pub heap_is : block.heap ≡ heap

module _ {f : Profile} {k : ℕ} {p q : Progress} {w : World} {steps : List Made} {es : List Event} {block : Block} {address room heap : ℕ}
    (g : GivesBlock f k p q w steps es block address room heap) where
  visible_are : visible q.list ≡ Event.Give k block ∷ (es ++ visible p.list)
  visible_are = ap visible g.list ∙ (visible_steps k steps p.list ∙ ap (λ (xs : List Event). xs ++ visible p.list) g.events_are)

  -- The machine admits it.
  give_admitted : Run f (Event.Give k block ∷ (es ++ w.events))
  give_admitted = subst (λ (base : List Event). Run f (Event.Give k block ∷ (es ++ base)))
      (sym g.same.pages.events) (subst (Run f) visible_are (runs f q.list g.valid g.there.legal))

  -- the block that the text gives
  abbrev pub told : Block
  told = block_of address (gives_in (shown es w).events address) room heap

  -- It is the block that was given.
  pub block_is : block ≡ told
  block_is = search (arith, give_admitted, shown_events)

  -- The text's events are those of the replay.
  pub events_now : (Event.Give k told ∷ (shown es w).events) ≡ visible q.list
  events_now =
      cc (block_is, shown_events es w, visible_are)

  -- Its live blocks are those that live by them.
  pub live_now : (told ∷ (shown es w).live) ≡ lives_in (Event.Give k told ∷ (shown es w).events)
  live_now = ap (λ (bs : List Block). told ∷ bs) (shown_lives es w g.same.pages.live)

  -- The name stands for the block.
  pub names_now : (name : ℕ) → (named name (Some told) ∷ (shown es w).names) ≡ named name (Some block) ∷ p.names
  names_now name = simp (← block_is, (shown_rest es w).names, g.same.names)

  -- Its records are those of the replay.
  pub records_now : (p.records ++ records_of (events_by k (part k p.list) steps)) ≡ reverse (Record.Event (Event.Give k told) ∷ (shown es w).records)
  records_now =
      cc (events_recorded p.records w.records (Record.Event (Event.Give k told) ∷ (shown es w).records) (Event.Give k block ∷ es) g.same.records
      (grind (arith, block_is, shown_records)))

  -- Its epoch is that of the replay.
  pub epoch_now : Only allocating steps → (shown es w).epoch ≡ word_after q.list Word.Epoch
  epoch_now kinds = cc ((shown_rest es w).epoch, epoch_stays_by allocating refl k steps p.list kinds)

  -- ---- the block lives
  abbrev live : Live
  live = record { actor = k; block = block }

  lives_at : (a : ℕ) (t : Bool) → (address_of block.name == a) ≡ t
      → live_in (visible q.list) a ≡ (if t then Some live else live_in (es ++ visible p.list) a)
  lives_at a t e = ap (λ (evs : List Event). live_in evs a) visible_are ∙ ap (λ (u : Bool). if u then Some live else live_in (es ++ visible p.list) a) e

  -- A page on which it has a grain has one in use.
  pub block_uses : (x b : ℕ) → b < 256 → in_run (grain_of block.name) (length_of block) (256 * x + b) ≡ true → IsInUse q x
  block_uses x b small covers = record {
    grain = b;
    small = small;
    used = λ free. free_uncovered f q.list g.valid g.there.legal (256 * x + b) free (address_of block.name) live (lives_at _ true (eq-eqb _ _ refl)) covers;
  }

  -- No block more lives but on pages on which it has grains.
  pub only_block : (d : Directory) (mine used : ℕ → Bool) → AreReadying k d mine es
      → ((g : ℕ) → in_run (grain_of block.name) (length_of block) g ≡ true → used (g / 256) ≡ true) → (a : ℕ) (b : Live)
      → live_in (visible q.list) a ≡ Some b → (live_in (visible p.list) a ≡ Some b) ⊎ ((g : ℕ) → IsPartOf g a b → used (g / 256) ≡ true)
  only_block d mine used ready within a b lives = elim (cases_Bool (address_of block.name == a)) [
    | inl e ↦ let is : live ≡ b = same_Some live b (sym (lives_at a true e) ∙ lives) in inr (λ x of. within x (cc (eqb-true _ a e)))
    | inr e ↦ inl (sym (lives_at a false e ∙ ready_lives k d mine es _ a ready) ∙ lives)
  ]

-- ---- THE PAGE THAT SERVES A SEARCH, of which a block was given
-- the search doesn't hint it
not_hinted : (page : ℕ) (xs : List Made) → Always (KeepsMarks page) xs → HintsPage page xs → ⊥
not_hinted page [] all h = h
not_hinted page (m ∷ xs) all (inl h) = let o = all.0 (subst (IsReturnOf page) (sym h) IsReturnOf.Hints) in let bad : Hint page ≡ Unpark page = sym h ∙ o.0 in cc
not_hinted page (m ∷ xs) all (inr h) = not_hinted page xs all.1 h

-- Its page is the one of the text: the lowest offered one that fits, or the lowest without a deed.
pub page_chosen : {no_fit : Readings → Type 0} {f : Profile} {d : Directory} {k : ℕ} {p : Progress} {w : World} {fits : ℕ → List ℕ} {got : List Made}
    → IsSearch no_fit f d k p got w fits → (page : ℕ) → IsPage f page → FromOffered no_fit d page got ⊎ ByDeed no_fit f d page got
    → (no_fit (free_of_page p.list page) → ⊥) → searched f w d fits ≡ Ok page
page_chosen s page of choice fit = search (arith, offered_chosen, deed_chosen)

-- A request is answered by a block of n grains from the start on, of a page that was searched for.
module _ (page start n name : ℕ) {f : Profile} {k : ℕ} {p : Progress} (c : Cached) {w : World} (d : Directory) (got rest : List Made) {block : Block}
    {room heap : ℕ}
    (g : GivesBlock f k p (after_with p k (rest ++ got) None (named name (Some block) ∷ p.names) c) w
    (rest ++ got) (events_by k (part k p.list) got) block (address_on page start) room heap)
    (at : EventsAt d page got) (long : room / 16 ≡ n) (some : 1 ≤ n) (fits : start + n ≤ 256) where
  abbrev q : Progress
  q = after_with p k (rest ++ got) None (named name (Some block) ∷ p.names) c

  abbrev mine : ℕ → Bool
  mine x = page == x

  abbrev es : List Event
  es = events_by k (part k p.list) got

  -- The block's first grain is the run's.
  grain : grain_of block.name ≡ 256 * page + start
  grain = let whole : address_on page start / 16 ≡ 256 * page + start = omega arith in ap (λ (x : ℕ). x / 16) g.address_is ∙ whole

  -- The block is as long as the run.
  grains : length_of block ≡ n
  grains = ap (λ (x : ℕ). x / 16) g.room_is ∙ long

  -- The text makes the page ready as the search did.
  pub page_ready : readies k d page w ≡ shown es w
  page_ready = given_ready k d page f es w k block start (search_at k d page (part k p.list) got at) (give_admitted g) (omega (arith, fits, some)) grain
      (omega (arith, grains, some))

  in_use : IsInUse q page
  in_use = block_uses g page start (omega (arith, fits, some))
      (to_run _ (length_of block) (256 * page + start) (omega (arith, grain)) (omega (arith, grain, grains, some)))

  at_page : (P : ℕ → Type 0) → P page → (x : ℕ) → mine x ≡ true → P x
  at_page P own x here = subst P (eqb-true page x here) own

  -- ---- the page is left before the block is given, behind the give, or not at all
  left_order : (t : Bool) (xs : List Made) → LeavesWhere t page d xs → LeftAll d (if t then page ∷ [] else []) xs
  left_order t xs leaves = search (arith, append-nil)

  module _ (t : Bool) (late left gave : List Made) (leaves : LeavesWhere t page d left) (late_kinds : Only (Giving ∷ LookLife ∷ []) late)
      (gave_kinds : Only giving gave) (rest_is : rest ≡ late ++ (left ++ gave)) (right : has_right (got ++ part k p.list) page ≡ true)
      (deed : known_deed (part k q.list) page ≡ deed_word_of d) (searches : AreSearch got) where
    -- The steps leave nothing behind but the block.
    behind : LeavesBehind f k d q (triples k got ++ p.list) rest mine
    behind = record {
      pages = if t then page ∷ [] else [];
      late = late;
      left = left;
      gave = gave;
      order = left_order t left leaves;
      late_kinds = late_kinds;
      gave_kinds = gave_kinds;
      rest_is = rest_is;
      among = search (arith, eq-eqb);
      list = sym (triples_append k rest got p.list);
      right = at_page (λ y. has_right (part k (triples k got ++ p.list)) y ≡ true) (ap (λ (u : View). has_right u page) (part_of_own k got p.list) ∙ right);
      deeds = at_page (λ y. word_after q.list (Word.Deed y) ≡ deed_word_of d) (word_known f q.list g.there.legal k page d deed);
      in_use = at_page (IsInUse q) in_use;
    }

    kinds : Only allocating (rest ++ got)
    unfolding behind
    kinds = only_both allocating rest got
        (only_within leaving allocating rest refl (rest_leaves d behind.pages late left gave rest behind.order late_kinds gave_kinds rest_is))
        (only_within searching allocating got refl searches.kinds)

    -- ---- the text, whose caches are these then
    module _ (cs : List Cache) (before : IsBetween f p) (marks : Always (KeepsMarks page) got) (kind : IsKind d.kind) (caches : AreSameCaches f q.caches cs)
        (cached : (j x : ℕ) → any_covers (q.caches j).locals x ≡ true → (any_covers (p.caches j).locals x ≡ true) ⊎ (mine (x / 256) ≡ true)) where
      abbrev v : World
      v = record (gives k name heap (address_on page start) room (shown es w)) { caches = cs }

      -- Afterwards the replay has what the text has.
      now : HasSame f q v
      now = record { events = events_now g; live = live_now g; caches = caches; guards = guards_as p.books w v (shown_rest es w).guards g.same.guards }

      -- Search and give are one piece of the actor.
      piece : IsPiece f k p q w v mine got rest
      piece =
          let ready = at_ready k d page es (search_at k d page (part k p.list) got at) in
          let uses : UsesOnly p q mine = record {
            cached = cached;
            outer = λ j x h. inl h;
            live = only_block g d mine mine ready (λ x h. let on = run_of
                (grain_of block.name) (length_of block) x h in eq-eqb page (x / 256) (omega (arith, on.0, on.1, grain, grains, fits)));
          } in
          let bare = λ (x : ℕ) (out : mine x ≡ false). at_bare k d page x got (eqb-false page x out) at in
          let unbacked = λ (x : ℕ) (out : mine x ≡ false). at_unbacked k d page x got (eqb-false page x out) at in
          let kept : (x : ℕ) → mine x ≡ false → deed_in v.events x ≡ deed_in w.events x = λ x out. cc (shown_events es w, ready_deeds k d mine es w.events x out ready) in
          let hint : (x : ℕ) → mine x ≡ true → HintsPage x (rest ++ got) → empty_bit p.list x ≡ true =
          λ x here h. absurd (elim (once_parts (λ m. m.step ≡ Hint x) rest got h) [
            | inl later ↦ no_hint g.valid g.there behind x later
            | inr early ↦ not_hinted page got marks (subst (λ (y : ℕ). HintsPage y got) (sym (eqb-true page x here)) early)
          ]) in
          let lends : LendsNone got = lends_none searching refl got searches.kinds in
          let offer = left_offered g.valid g.there behind v now kind in
          assumption (uses, bare, unbacked, kept, (shown_rest es w).hinted, marks_behind g.valid g.there behind, hint, offer, now, kinds, lends, searches.returns, g)

      -- A block of a page that was searched for leads the text to the replay's state.
      pub page_given : IsSame f q v
      page_given =
          let records = ap (λ (rs : List Record). p.records ++ rs) (append-nil (records_of (events_by k (part k p.list) (rest ++ got)))) ∙ records_now g in
          assumption (piece_pages piece, now, names_now g name, records, epoch_now g kinds, (shown_rest es w).read ∙ g.same.read)
