-- A BIT-FIT REQUEST. Where it is served, the page that was searched for gets a deed and memory where it has none, and the lowest place on it is given. One that is refused
-- changes no page, and nothing fits in the text either.
use Rattle.std.proofs.Common.{◌≡◌, ℕ, ◌+◌, ◌*◌, ◌/◌, ◌%◌, ◌<◌, ◌≤◌, ◌==◌, true, false, List, [], ◌∷◌, ◌++◌, None, Some, Result, Ok, inl, refl, ap, sym, ◌∙◌}
use Rattle.std.proofs.{Common.{subst, arith, true≢false, eq-eqb, ◌&&◌, Err}, lemmas.Bool.true_from_ne_false}
use Rattle.pas_core.proofs.OneActor.{fit_entry, free_shown}
use Rattle.pas_search.specs.Allocates.{IsGiven}
use Rattle.pas_bitfit.specs.Runs.{fewer_runs, run_at, runs as run_choice}
use Rattle.pas_cache.{proofs.Routes.{bitfit_room, may_search_bitfit}, specs.Serves.ServesBitfit}
use Rattle.pas_same_text.{specs.Runs.{bitfit_of, gives_place, places}, proofs.{PlacesFit.{bitfit_fits, lowest_is}, CacheLists.{same_kept, kept_at}}}
use Rattle.pas_same_text.proofs.{SmallActs.after_with, Pieces.has_same, RunsFound.{shown, shown_rest}, SearchedPages.{refused_same, find_none, refused_to}}
use Rattle.pas_same_text.proofs.{GivenBlocks.{GivesBlock, page_chosen, page_ready, page_given}, CachedSlots.{HasAsked, answer_reached, by_route}}
use Rattle.pas_same_text.proofs.{RestingPages.{open_unguarded, had_open, owned_is, no_word}, Common.{refused_told, IsRefused, address_of, false_from_ne_true}}
use Rattle.pas_same_text.proofs.Common.{false≢true, to_run, deed_word_of, IsAdmitted, IsDirectoryOf, route_in, room_in, is_shared, kind_of_route, directory_for}
use Rattle.pas_same_text.proofs.Common.{Directory, Route, Event, NoRoom, Block, Profile, deed_in, Agreed, triples, events_by, Readings, View, has_right}
use Rattle.pas_same_text.proofs.Common.{known_deed, part, Legal, Made, part_of_own, free_of_page, HasNoFit, agreed_steps, LendsNone, lends_none, legal_earlier}
use Rattle.pas_same_text.proofs.Common.{give_steps, searching, MaySearch, AreSearch, IsTrueReason, run_for, Fits, NoneFits, IsLowestFit, Cached, any_covers}
use Rattle.pas_same_text.proofs.Common.{wanted_for, Progress, named, Answer, after_answer, with_cache as with_cached, World, serves, is_unowned, is_offered}
use Rattle.pas_same_text.proofs.Common.{IsBetween, IsSearch, FitsSame, searched, readies, address_on, gives, some_of, refusal, refuses, lowest_place, IsSame}
use Rattle.pas_same_text.proofs.Common.{HasSame, AreSameCaches, ArePagesSame}

-- ---- where no page serves in the replay, none does in the text
module _ (no_fit : Readings → Type 0) (f : Profile) (d : Directory) (p : Progress) (w : World) (fits : ℕ → List ℕ) (legal : Legal f p.list)
    (of : IsDirectoryOf f d) (pages : ArePagesSame f p.list w) (same : FitsSame no_fit f p w fits) (none : HasNoFit no_fit f d p.list) where
  -- Where no page serves in the replay, the text's search refuses, with its own reason.
  pub none_searched : searched f w d fits ≡ Err (refusal f w d)
  none_searched =
      cc (
        find_none (λ q. is_offered w d q && some_of (fits q)) f.pages 1
            (λ q low high. search (arith, false_from_ne_true, false≢true, open_unguarded, had_open)),
        find_none (is_unowned w) f.pages 1
            (λ q low high. false_from_ne_true (is_unowned w q) (λ h. none.bare q record {
              of_region = (low, omega (arith, high));
              no_deed = owned_is f p.list w legal pages.events q ∙ no_word (deed_in w.events q) h;
            })),
      )

-- ---- ANY BIT-FIT REQUEST
module _ (f : Profile) (k name heap size align : ℕ) (p : Progress) (a : Answer) (w : World) (admitted : IsAdmitted f size align heap)
    (route : route_in f size align ≡ Route.Bitfit) (asked : HasAsked f k (record { name = name; heap = heap; size = size; align = align }) p a w) where
  abbrev c : Cached
  c = p.caches k

  abbrev own : View
  own = part k p.list

  abbrev bytes : ℕ
  bytes = room_in f size align

  abbrev n : ℕ
  n = bytes / 16

  abbrev d : Directory
  d = bitfit_of heap

  -- The request is served from this directory.
  home : directory_for f heap size align ≡ d
  home = ap (λ (r : Route). let e : Directory = record { heap = heap; kind = kind_of_route (is_shared f heap) r } in e) route

  -- It is one of the profile.
  of : IsDirectoryOf f d
  of = record { heap = admitted.of_profile; kind = tt; class = tt }

  -- They are one grain at least.
  some : 1 ≤ n
  some = omega (arith, (bitfit_room f.classes size align route).0)

  -- Before the request the replay has what the text has.
  old : HasSame f p w
  old = has_same asked.same

  -- The actor may search.
  may : MaySearch d own
  may = may_search_bitfit f own heap c.locals asked.served.rest.locals

  -- ---- ONE THAT IS SERVED
  module _ (block : Block) (is : asked.served.answer ≡ Ok block) where
    -- ---- the steps
    bitfit : ServesBitfit f (wanted_for f heap size align) c a.cache a.steps (Ok block)
    bitfit = by_route asked (Ok block) is Route.Bitfit route

    abbrev sought : List Made
    sought = bitfit.searched

    -- The block is of the run that the search found.
    given : IsGiven (run_choice (run_for bytes align)) (run_at (run_for bytes align)) f d sought bitfit.after block
    given = rw home at bitfit.outcome.0

    abbrev gave : List Made
    gave = give_steps given.page given.found block given.word given.answer

    -- ---- the replay after them
    abbrev q : Progress
    q = after_with p k (bitfit.after ++ sought) None (named name (Some block) ∷ p.names) c

    -- What the answer leads to.
    to : after_answer p k a ≡ q
    to = answer_reached asked (Ok block) is ∙ cc (bitfit.cache, bitfit.steps_are)

    -- There the replay is between two pieces.
    there : IsBetween f q
    there = subst (IsBetween f) to asked.after

    -- The list with the request's steps is legal.
    legal : Legal f (triples k (bitfit.after ++ sought) ++ p.list)
    legal = there.legal

    legal_search : Legal f (triples k sought ++ p.list)
    legal_search = legal_earlier f k bitfit.after sought p.list legal

    -- The search lends nothing.
    lends : LendsNone sought
    lends = lends_none searching refl sought bitfit.searches.kinds

    -- Its answers agree with the actor's view.
    agreed : Agreed f own sought
    agreed = agreed_steps f k p.list sought asked.valid legal_search

    -- ---- the block
    abbrev lowest : IsLowestFit (run_for bytes align) given.served.serves.readings given.found
    lowest = given.served.serves.chosen

    abbrev es : List Event
    es = events_by k own sought

    gives_it : GivesBlock f k p q w (bitfit.after ++ sought) es block (address_on given.page given.found) bytes heap
    gives_it =
        let address_is : address_of block.name ≡ address_on given.page given.found = omega (arith, given.address_is) in
        let room_is : block.room ≡ bytes = omega (arith, given.room_is, (bitfit_room f.classes size align route).2) in
        assumption (asked, there, given.events k own, address_is, room_is, ap (λ (b : Block). b.heap) given.block_is)

    -- ---- what was free
    -- The run fits there.
    fits : Fits (run_for bytes align) (free_of_page p.list given.page) given.found
    fits = record {
      aligned = lowest.this.aligned;
      within = lowest.this.within;
      free = λ g low high. (let small : g < 256 = (omega (arith, lowest.this.within, high)) in true_from_ne_false _ (λ e.
          fit_entry (λ r. r g ≡ false) f k p.list given.page given.served.shows.readings sought
          (λ r fewer less none. false_from_ne_true (fewer g) (λ h. true≢false (sym (less g small h) ∙ none))) asked.valid legal_search lends
          (λ none. true≢false (sym (given.served.shows.took g small (to_run _ n g low high)) ∙ none)) given.served.shows.read
          (given.served.shows.held.from own may agreed) e));
    }

    -- What is free at entry was read as free.
    more : (b : ℕ) → b < 256 → free_of_page p.list given.page b ≡ true → given.served.serves.readings b ≡ true
    more b small free =
        let bit : (given.page * 256 + b) % 64 ≡ b % 64 = omega arith in
        free_shown f k p.list given.page b given.served.serves.readings sought legal_search lends small (cc) (given.served.serves.read (b / 64) (omega (arith, small)))

    -- The text's lowest place on the page is the run's first grain.
    place : lowest_place w n (align / 16) given.page ≡ given.found ∷ []
    place = lowest_is f p w asked.valid asked.before old bytes align some admitted.aligned given.page given.found given.served.serves.readings lowest more fits

    -- ---- the page
    is_search : IsSearch (NoneFits (run_for bytes align)) f d k p sought w (lowest_place w n (align / 16))
    is_search =
        let fits_same = bitfit_fits f p w asked.valid asked.before old bytes align some admitted.aligned in
        assumption (of, fewer_runs (run_for bytes align), legal_search, lends, may.rights, asked, fits_same)

    -- The text's search finds this page.
    found : searched f w d (lowest_place w n (align / 16)) ≡ Ok given.page
    found = page_chosen is_search given.page given.served.page given.served.choice (λ none. none given.found fits)

    -- ---- the text
    abbrev v : World
    v = gives k name heap (address_on given.page given.found) bytes (shown es w)

    -- So the text serves the request as the replay does.
    text : serves f k name heap (route_in f size align) bytes align w ≡ v
    text =
        ap (λ (r : Route). serves f k name heap r bytes align w) route
        ∙ (ap (λ (r : Result ℕ NoRoom). places k name heap bytes align r w) found
        ∙ (ap (λ (xs : List ℕ). gives_place k name heap bytes given.page xs (readies k d given.page w)) place
        ∙ ap (λ (x : World). gives k name heap (address_on given.page given.found) bytes x)
        (page_ready given.page given.found n name c d sought bitfit.after gives_it given.served.events refl some lowest.this.within)))

    -- ---- ALL: the page is left after the block was given
    right : has_right (sought ++ own) given.page ≡ true
    right = cc ((given.served.keeps.from own may agreed).keeps.does.right given.page, eq-eqb given.page given.page refl)

    -- The actor knows the page's deed afterwards.
    knows : known_deed (part k q.list) given.page ≡ deed_word_of d
    knows = ap (λ (x : View). known_deed x given.page) (part_of_own k (bitfit.after ++ sought) p.list)
        ∙ (given.gave.from own may (agreed_steps f k p.list (bitfit.after ++ sought) asked.valid legal)).deed

    bitfit_served : IsSame f (after_answer p k a) (serves f k name heap (route_in f size align) bytes align w)
    bitfit_served = rw (text, to)
        (page_given given.page _ n name c d sought _ gives_it given.served.events refl some lowest.this.within true [] given.left gave given.leaves tt
        (refl, (refl, tt)) given.after_is right knows bitfit.searches (shown es w).caches asked.before (given.served.marks own may agreed) tt
        (subst (AreSameCaches f (with_cached p.caches k c)) (sym (shown_rest es w).caches) (same_kept f p.caches w.caches k asked.same.caches))
        (λ j g h. inl (ap (λ (x : Cached). any_covers x.locals g) (kept_at p.caches j k (j == k) refl) ∙ h)))

  -- ---- ONE THAT IS REFUSED
  module _ (room : NoRoom) (is : asked.served.answer ≡ Err room) where
    -- The request went to pages of this kind, and was refused.
    tried : ServesBitfit f (wanted_for f heap size align) c a.cache a.steps (Err room)
    tried = by_route asked (Err room) is Route.Bitfit route

    steps_are : a.steps ≡ tried.searched
    steps_are = tried.steps_are ∙ ap (λ (ms : List Made). ms ++ tried.searched) tried.outcome.1

    -- Its steps are those of a search.
    searches : AreSearch a.steps
    searches = subst AreSearch (sym steps_are) tried.searches

    -- The search was refused.
    refused : IsRefused (NoneFits (run_for bytes align)) f d a.steps room
    refused = subst (λ (ms : List Made). IsRefused (NoneFits (run_for bytes align)) f d ms room) (sym steps_are) (rw home at tried.outcome.0)

    refused_then : after_answer p k a ≡ refused_to p k name a.steps room
    refused_then = answer_reached asked (Err room) is ∙ cc (tried.cache)

    refused_there : IsBetween f (refused_to p k name a.steps room)
    refused_there = subst (IsBetween f) refused_then asked.after

    -- nothing could serve before, and the reason is true after
    told : HasNoFit (NoneFits (run_for bytes align)) f d p.list × HasNoFit (NoneFits (run_for bytes align)) f d (triples k a.steps ++ p.list)
        × IsTrueReason f d (triples k a.steps ++ p.list) room
    told = refused_told _ f d k p.list a.steps asked.valid of (fewer_runs (run_for bytes align)) refused_there.legal searches may room refused

    -- The text refuses it, too.
    refused_text : serves f k name heap (route_in f size align) bytes align w ≡ refuses k name (refusal f w d) w
    refused_text = ap (λ (r : Route). serves f k name heap r bytes align w) route ∙ ap (λ (r : Result ℕ NoRoom). places k name heap bytes align r w)
        (none_searched _ f d p w _ asked.before.legal of asked.same.pages (bitfit_fits f p w asked.valid asked.before old bytes align some admitted.aligned) told.0)

  -- Whether it was served or refused, the text does the same.
  answered : (answer : Result Block NoRoom) → asked.served.answer ≡ answer
      → IsSame f (after_answer p k a) (serves f k name heap (route_in f size align) bytes align w)
  answered (Ok block) is = bitfit_served block is
  answered (Err room) is = rw (refused_text room is, refused_then room is)
      (refused_same f k name p w d a.steps room asked.valid asked.thread of asked.before (refused_there room is) asked.same (searches room is)
      (refused room is).quiet (told room is).2)

  -- A bit-fit request, served or refused, leads the text to the replay's state.
  pub bitfit_answered : IsSame f (after_answer p k a) (serves f k name heap (route_in f size align) (room_in f size align) align w)
  bitfit_answered = answered asked.served.answer refl
