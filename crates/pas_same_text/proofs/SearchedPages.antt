-- THE PAGE that a search finds is the one that the text finds; and where it finds none, the reason of the refusal is the one that the text says.
use Rattle.std.proofs.Common.{◌≡◌, ℕ, ◌+◌, ◌-◌, ◌<◌, ◌≤◌, nat_le, Bool, true, if◌then◌else◌, Option, None, Some, inl, inr, ap, sym, ◌∙◌, arith, ◌≢◌, zero, suc}
use Rattle.std.proofs.Common.{false, ◌&&◌, List, [], ◌∷◌, ◌++◌, Ok, Err, refl, true≢false, eq-eqb, ◌⊎◌, subst, ◌==◌}
use Rattle.pas_large.specs.Telling.{HasNoUsableRun, IsWholePage, IsUsablePage, IsNamedWhole}
use Rattle.pas_same_text.{specs.{Indexes.named_first, Runs.is_whole, Searches.{page_or, refusal_by}}, proofs.FreeGrains.{read_unless, keeper, kept_by}}
use Rattle.pas_same_text.proofs.{GivenBack.{each_at, each_all}, Tests.{and_first, and_second}, CacheLists.{same_kept, kept_at}, Flushes.visible_steps}
use Rattle.pas_same_text.proofs.{StepMarks.{epoch_stays_by, at_bare, at_unbacked}, SmallActs.{after_with, records_next}, Pieces.{IsPiece, piece_pages}}
use Rattle.pas_same_text.proofs.{RestingPages.{open_unguarded, had_open, owned_is, no_word, unowned_by, deed_now, deed_from_word}, Common.{or_cases, or_left}}
use Rattle.pas_same_text.proofs.Common.{or_right, and_from, false_from_ne_true, cases_eq, false≢true, nat_tests, number_of, deed_word_of, IsValid, IsPage}
use Rattle.pas_same_text.proofs.Common.{IsDirectoryOf, Directory, Profile, Word, Event, NoRoom, deed_word_of-positive, same_from_deed_word, deed_in, live_in}
use Rattle.pas_same_text.proofs.Common.{part, word_after, visible, Readings, eligible_bit, free_of_page, IsRightInOnePlace, word_of_deed, deed_has_page}
use Rattle.pas_same_text.proofs.Common.{deed_of, offered_deed, legal_before, lends_none, IsUsableRun, IsLowestRun, Progress, Named, named, records_of}
use Rattle.pas_same_text.proofs.Common.{said_of_room, World, HasSame, ArePagesSame, IsSame, IsBetween, IsSearch, each_of, is_unowned, is_free, is_empty}
use Rattle.pas_same_text.proofs.Common.{is_offered, page_numbers, is_same, is_of, is_kept, large_of, is_usable, named_run, is_run, lowest_run, find, Made}
use Rattle.pas_same_text.proofs.Common.{right_not_offered, right_in_one_place, FromOffered, ByDeed, IsTrueReason, numbers_from, IsThread, some_of, refusal}
use Rattle.pas_same_text.proofs.Common.{searched, refuses, Cached, allocating, any_covers, only_within, always_map, AreSearch, IsQuiet, IsDeedOrBack, AreQuiet}
use Rattle.pas_same_text.proofs.Common.{EventsAt, searching, Record}
use Rattle.pas_core.{proofs.Rights.right_not_parked, specs.Fits.IsOfferedFit}
use Rattle.pas_search.{specs.Telling.IsInHands, proofs.{ForBackEnds.events_quiet, FindingAPage.{by_deed, lowest_offered}}}

-- ---- the first number that passes a test
first_at : (test : ℕ → Bool) (from : ℕ) (rest : Option ℕ) (t : Bool) → test from ≡ t → t ≡ false → (if test from then Some from else rest) ≡ rest
first_at test from rest t e h = search (arith, true≢false)

-- The first number that passes a test is found where none before it passes.
pub find_first : (test : ℕ → Bool) (n from page : ℕ) → from ≤ page → page < from + n → test page ≡ true → ((q : ℕ) → from ≤ q → q < page → test q ≡ false)
    → find test (numbers_from from n) ≡ Some page
find_first test zero from page low high so before = absurd (omega (arith, low, high))
find_first test (suc n) from page low high so before = elim (cases_eq from page) [
  | inl same ↦ ap (λ (t : Bool). if t then Some from else find test (numbers_from (from + 1) n)) (ap test same ∙ so) ∙ ap (λ (x : ℕ). Some x) same
  | inr ne ↦ first_at test from (find test (numbers_from (from + 1) n)) (test from) refl (before from (omega arith) (omega (arith, low, ne)))
      ∙ find_first test n (from + 1) page (omega (arith, low, ne)) (omega (arith, high)) so (λ q above below. before q (omega (arith, above)) below)
]

-- Nothing is found where no number passes the test.
pub find_none : (test : ℕ → Bool) (n from : ℕ) → ((q : ℕ) → from ≤ q → q < from + n → test q ≡ false) → find test (numbers_from from n) ≡ None
find_none test zero from none = refl
find_none test (suc n) from none =
    first_at test from (find test (numbers_from (from + 1) n)) (test from) refl (none from (omega arith) (omega arith))
    ∙ find_none test n (from + 1) (λ q low high. none q (omega (arith, low)) (omega (arith, high)))

module _ (no_fit : Readings → Type 0) (f : Profile) (d : Directory) (k : ℕ) (p : Progress) (w : World) (fits : ℕ → List ℕ) where
  -- the page would serve
  abbrev serves : ℕ → Bool
  serves q = is_offered w d q && some_of (fits q)

  module _ (page : ℕ) (of : IsPage f page) (steps : List Made) (s : IsSearch no_fit f d k p steps w fits) where
    -- a page that serves in the text is offered in the replay, and fits
    serving : (q : ℕ) → IsPage f q → serves q ≡ true → IsOfferedFit no_fit f d p.list q
    serving q here h = search (arith, and_first, false≢true, open_unguarded, had_open)

    -- THE PAGE that a search found offered is the one that the text finds.
    pub offered_chosen : FromOffered no_fit d page steps → (no_fit (free_of_page p.list page) → ⊥) → searched f w d fits ≡ Ok page
    offered_chosen from fit =
        let lowest = lowest_offered no_fit f k p.list d page steps s.valid s.directory s.fewer of s.legal s.lends_none (s.rights page) from fit in
        let offered : is_offered w d page ≡ true = s.pages.offered page d s.directory ∙ lowest.this.offered in
        let here : serves page ≡ true = ap (λ (t : Bool). t && some_of (fits page)) offered ∙ s.fits_same.some page of (open_unguarded w d page (had_open w d page offered)) fit in
        let found : find serves (page_numbers f) ≡ Some page = find_first serves f.pages 1 page of.0 (omega (arith, of.1)) here (λ q above below.
        false_from_ne_true (serves q) (λ h. let least = lowest.lowest q (serving q (above, omega (arith, below, of.1)) h) in omega (arith, least, below))) in
        ap (λ (o : Option ℕ). page_or o (page_or (find (is_unowned w) (page_numbers f)) (Err (refusal f w d)))) found

    -- So is the page that a search found by making its deed.
    pub deed_chosen : ByDeed no_fit f d page steps → searched f w d fits ≡ Ok page
    deed_chosen by =
        let lowest = by_deed no_fit f k p.list d page steps s.fewer of s.legal s.lends_none by.made_here in
        let owned = owned_is f p.list w (legal_before f k steps p.list s.legal) s.pages.events in
        let none = find_none serves f.pages 1 (λ q above below. false_from_ne_true (serves q) (λ h. lowest.none_offered q (serving q (above, omega (arith, below)) h))) in
        let found : find (is_unowned w) (page_numbers f) ≡ Some page =
        find_first (is_unowned w) f.pages 1 page of.0 (omega (arith, of.1)) (unowned_by (deed_in w.events page) (sym (owned page) ∙ lowest.this.no_deed)) (λ q above below.
        false_from_ne_true (is_unowned w q) (λ bare.
        let least = lowest.lowest q (record { of_region = (above, omega (arith, below, of.1)); no_deed = owned q ∙ no_word (deed_in w.events q) bare }) in omega (arith, least, below))) in
        cc

-- ==== WHICH PAGES MAY BE ONE OF A RUN, and which run the text gives: those of a replay, whenever all actors are at rest.
module _ (f : Profile) (p : Progress) (w : World) (valid : IsValid f) (between : IsBetween f p) (pages : ArePagesSame f p.list w) (same : HasSame f p w)
    (heap : ℕ) (of : IsDirectoryOf f (large_of heap)) where
  abbrev d : Directory
  d = large_of heap

  -- ---- ONE PAGE
  pub whole_page : (page : ℕ) → is_whole w heap page ≡ true → IsWholePage d p.list page
  whole_page page h =
      let empty : is_empty w page ≡ true = and_second (is_offered w d page) (is_empty w page) h in
      let bit : eligible_bit p.list (number_of d) page ≡ true = sym (pages.offered page d of) ∙ and_first (is_offered w d page) (is_empty w page) h in
      record {
        deed = offered_deed f p.list d page of between.legal bit;
        offered = bit;
        free = λ b small. sym (read_unless f p w valid between same page b small (open_unguarded w d page
            (had_open w d page (and_first (is_offered w d page) (is_empty w page) h)))) ∙ each_at 256 0 b (is_free w page) empty (omega arith) small;
      }

  -- A whole page of the replay is whole in the text.
  pub page_whole : (page : ℕ) → IsWholePage d p.list page → is_whole w heap page ≡ true
  page_whole page whole = and_from _ _ (pages.offered page d of ∙ whole.offered) (each_all 256 0 _ (λ b low high. read_unless f p w valid between same page b high (open_unguarded w d page (had_open w d page (pages.offered page d of ∙ whole.offered))) ∙ whole.free b high))

  -- A page that is usable in the text is usable in the replay.
  pub usable_page : (page : ℕ) → is_usable w heap page ≡ true → IsUsablePage d p.list page
  usable_page page h = elim (or_cases (is_unowned w page) (is_whole w heap page) h) [
    | inl none ↦ inl (owned_is f p.list w between.legal pages.events page ∙ no_word (deed_in w.events page) none)
    | inr whole ↦ inr (whole_page page whole)
  ]

  -- A page that is usable in the replay is usable in the text.
  pub page_usable : (page : ℕ) → IsUsablePage d p.list page → is_usable w heap page ≡ true
  page_usable page given = search (arith, or_left, unowned_by, owned_is, or_right, page_whole)

  -- ---- A RUN
  pub run_usable : (n first : ℕ) → is_run f w heap n first ≡ true → (first + n ≤ f.pages + 1) × IsUsableRun d n p.list first
  run_usable n first h = (
    let t = and_first (nat_le (first + n) (f.pages + 1)) (each_of first n (is_usable w heap)) h in grind (arith, nat_tests, t),
    λ page here. usable_page page (each_at n first page (is_usable w heap) (and_second (nat_le (first + n) (f.pages + 1)) _ h) here.0 here.1),
  )

  -- A usable run of the replay is one of the text.
  pub usable_run : (n first : ℕ) → first + n ≤ f.pages + 1 → IsUsableRun d n p.list first → is_run f w heap n first ≡ true
  usable_run n first within usable =
      and_from _ _ (grind (arith, nat_tests, within)) (each_all n first (is_usable w heap) (λ page low high. page_usable page (usable page (low, high))))

  -- THE LOWEST RUN is that of the text, which finds none where there is none
  pub lowest_found : (n first : ℕ) → 1 ≤ n → IsLowestRun f d n p.list first → lowest_run f w heap n ≡ Some first
  lowest_found n first some run =
      let low = run.of_region.0 in let high = run.of_region.1 in
      find_first (is_run f w heap n) f.pages 1 first low (omega (arith, high, some)) (usable_run n first high run.usable)
      (λ other above below. false_from_ne_true (is_run f w heap n other) (λ h. run.lowest other above below (run_usable n other h).1))

  -- Where the replay has no usable run, the text finds no lowest run.
  pub none_lowest : (n : ℕ) → HasNoUsableRun f d n p.list → lowest_run f w heap n ≡ None
  none_lowest n none = find_none (is_run f w heap n) f.pages 1 (λ first low high. false_from_ne_true _ (λ h. let run = run_usable n first h in none first low run.0 run.1))

  -- ---- THE RUN THAT IS NAMED
  of_region : (page : ℕ) → is_whole w heap page ≡ true → IsPage f page
  of_region page h = deed_has_page f p.list between.legal page (λ none. deed_word_of-positive d (sym (whole_page page h).deed ∙ none))

  -- The run that serves by the text's index is the named one, whole in the replay.
  pub named_whole : (n first : ℕ) → 1 ≤ n → named_run w heap n ≡ Some first → IsNamedWhole f d n p.list (named_first w heap n) first
  named_whole n first some h =
      let both : ((named_first w heap n) ≡ Some first) × (each_of first n (is_whole w heap) ≡ true) = search arith in
      let each : (page : ℕ) → first ≤ page → page < first + n → is_whole w heap page ≡ true = λ page low high. each_at n first page _ both.1 low high in
      let last : IsPage f (first + n - 1) = of_region (first + n - 1) (each (first + n - 1) (omega (arith, some)) (omega (arith, some))) in
      let low = (of_region first (each first (omega arith) (omega (arith, some)))).0 in let high = last.1 in
      record { named = both.0; of_region = (low, omega (arith, high, some)); whole = λ page here. whole_page page (each page here.0 here.1) }

  -- A named run that is whole in the replay serves in the text.
  pub whole_named : (n first : ℕ) → IsNamedWhole f d n p.list (named_first w heap n) first → named_run w heap n ≡ Some first
  whole_named n first run =
      cc (each_all n first (is_whole w heap) (λ page low high. page_whole page (run.whole page (low, high))))

-- ==== THE REASON of a refusal: where it is true of the whole state, it is the one that the text says.
module _ (f : Profile) (p : Progress) (w : World) (valid : IsValid f) (between : IsBetween f p) (same : HasSame f p w) (d : Directory) (of : IsDirectoryOf f d)
  where
    abbrev is_held : ℕ → Bool
    is_held q = is_of w d q && is_kept w q

    -- a page of the directory that is neither offered nor parked is kept, and one that is kept is so
    hands_kept : (q : ℕ) → IsInHands f d p.list q → is_held q ≡ true
    hands_kept q h = and_from (is_of w d q) (is_kept w q) own (by_place (right_in_one_place f p.list between.legal q))
      where
        own : is_of w d q ≡ true
        own = ap (λ es. is_same d (deed_in es q)) same.events ∙ deed_from_word f p w valid between same q d _ refl (sym (deed_of f p.list between.legal q) ∙ h.of_directory) of.kind

        by_place : IsRightInOnePlace f p.list q → is_kept w q ≡ true
        by_place (inl none) = absurd (deed_word_of-positive d (sym h.of_directory ∙ none.no_deed))
        by_place (inr (inl one)) = kept_by f p w valid between same one.actor q (one.holder one.actor ∙ eq-eqb one.actor one.actor refl)
        by_place (inr (inr (inl o))) = search (arith, same_from_deed_word, true≢false, eq-eqb)
        by_place (inr (inr (inr parks))) = absurd (true≢false (sym parks.parked ∙ h.not_parked))

    kept_hands : (q : ℕ) → is_held q ≡ true → IsInHands f d p.list q
    kept_hands q h =
        let deed : deed_in (visible p.list) q ≡ Some d = deed_now f p w valid between same q d of (and_first (is_of w d q) (is_kept w q) h) in
        let word : word_after p.list (Word.Deed q) ≡ deed_word_of d = deed_of f p.list between.legal q ∙ ap word_of_deed deed in
        let k = keeper f p w valid between same q (and_second (is_of w d q) (is_kept w q) h) in
        search (arith, deed_has_page, deed_word_of-positive, right_not_offered, right_not_parked)

    -- A refusal's reason that is true of the whole state of the replay is the one that the text says.
    pub refusal_told : (room : NoRoom) → IsTrueReason f d p.list room → refusal f w d ≡ room
    refusal_told NoRoom.NoSpace none = ap refusal_by (find_none is_held f.pages 1 (λ q low high. false_from_ne_true (is_held q) (λ h. none q (kept_hands q h))))
    refusal_told (NoRoom.Held page) held =
        let low = held.0.of_region.0 in let high = held.0.of_region.1 in
        ap refusal_by (find_first is_held f.pages 1 page low (omega (arith, high)) (hands_kept page held.0) (λ q above below. false_from_ne_true (is_held q) (λ h. held.1 q below (kept_hands q h))))

-- ==== A REQUEST THAT IS REFUSED after a search: no page changes, and the reason is that of the text.
-- steps without an event are at any page
quiet_at : (d : Directory) (page : ℕ) (steps : List Made) → AreQuiet steps → EventsAt d page steps
quiet_at d page steps quiet = always_map (λ m before. IsQuiet m) (λ m before. IsQuiet m ⊎ IsDeedOrBack d page m.step) steps (λ m before is. inl is) quiet

-- the replay after a refusal
abbrev pub refused_to : Progress → ℕ → ℕ → List Made → NoRoom → Progress
refused_to p k name steps room = after_with p k steps (Some (said_of_room name room)) (named name None ∷ p.names) (p.caches k)

module _ (f : Profile) (k name : ℕ) (p : Progress) (w : World) (d : Directory) (steps : List Made) (room : NoRoom) (valid : IsValid f) (thread : IsThread f k)
    (of : IsDirectoryOf f d) (before : IsBetween f p) (after : IsBetween f (refused_to p k name steps room)) (same : IsSame f p w)
    (searches : AreSearch steps) (quiet : AreQuiet steps) (reason : IsTrueReason f d (refused_to p k name steps room).list room) where
  abbrev p' : Progress
  p' = refused_to p k name steps room

  abbrev v : World
  v = refuses k name room w

  -- The refused search makes no event.
  shown : visible p'.list ≡ visible p.list
  shown = visible_steps k steps p.list ∙ ap (λ (es : List Event). es ++ visible p.list) (events_quiet k (part k p.list) steps quiet)

  -- Afterwards the replay has what the text has.
  now : HasSame f p' v
  now = assumption (same.pages.events ∙ sym shown, same_kept f p.caches w.caches k same.caches)

  -- no page changes
  piece : IsPiece f k p p' w v (λ x. false) steps []
  piece = record {
    valid = valid;
    before = before;
    between = after;
    same = same;
    now = now;
    list = refl;
    kinds = only_within searching allocating steps refl searches.kinds;
    lends = lends_none searching refl steps searches.kinds;
    returns = searches.returns;
    uses = record {
      cached = λ j g h. inl (ap (λ (c : Cached). any_covers c.locals g) (kept_at p.caches j k (j == k) refl) ∙ h);
      outer = λ j x h. inl h;
      live = λ a b h. inl (ap (λ (es : List Event). live_in es a) (sym shown) ∙ h);
    };
    bare = λ x out. at_bare k d (suc x) x steps (λ same. omega (arith, same)) (quiet_at d (suc x) steps quiet);
    unbacked = λ x out. at_unbacked k d (suc x) x steps (λ same. omega (arith, same)) (quiet_at d (suc x) steps quiet);
    deeds = λ x out. refl;
    hinted = refl;
    marks = λ x h. absurd h;
    own_hint = λ x here h. absurd (false≢true here);
    own_offer = λ x e here of_e bit. absurd (false≢true here);
  }

  -- A request that is refused after a search leads the text to the replay's state, with its reason.
  pub refused_same : IsSame f p' (refuses k name (refusal f w d) w)
  refused_same =
      let line : Record = Record.Said k (said_of_room name room) in
      let one = ap (λ (es : List Event). p.records ++ (records_of es ++ line ∷ [])) (events_quiet k (part k p.list) steps quiet)
      ∙ records_next p.records w.records line same.records in
      let epoch = same.epoch ∙ sym (epoch_stays_by allocating refl k steps p.list (only_within searching allocating steps refl searches.kinds)) in
      let told : IsSame f p' v = assumption (piece_pages piece, now, one, epoch, ap (λ (ns : List Named). named name None ∷ ns) same.names) in
      subst (λ (r : NoRoom). IsSame f p' (refuses k name r w)) (sym (refusal_told f p' v valid after now d of room reason)) told
