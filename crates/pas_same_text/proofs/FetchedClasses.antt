-- SLOTS OF A CLASS ARE FETCHED for a request: place is made for a local allocator, in the text too, and from there on the fetch is a request of its own. At the
-- end: no page serves it, in the text either.
use Rattle.std.proofs.Common.{◌≡◌, ℕ, ◌≤◌, ◌<◌, nat_le, Bool, false, ◌||◌, List, [], ◌∷◌, ◌++◌, length, Option, None, Some, Result, refl, ap, sym, ◌∙◌, subst}
use Rattle.std.proofs.Common.{append-nil, append_assoc, arith, true≢false, eq-eqb, Ok, Err, inl, inr}
use Rattle.pas_same_text.proofs.{CacheLists.{again_at, same_own, same_again, Finds, found_same, same_many, given_up_keeps, first_up_keeps}, Common.filling_for}
use Rattle.pas_same_text.proofs.Common.{false_from_ne_true, nat_tests, find, is_set, IsValid, IsAdmitted, class_home, route_in, room_in, Event, NoRoom, Profile}
use Rattle.pas_same_text.proofs.Common.{Word, Directory, Route, class_grains_positive, usable_grains_le, triples, events_by, View, Whole, part, word_after}
use Rattle.pas_same_text.proofs.Common.{Legal, Made, triples_append, no_events, events_append, part_of_own, agreed_steps, legal_earlier, MaySearch, AreSearch}
use Rattle.pas_same_text.proofs.Common.{IsTrueReason, NoSlot, fewer_slots, Slots, AtRest, StopsFirst, Cached, releasing, filling_in, Fetches, IsRefill}
use Rattle.pas_same_text.proofs.Common.{IsObtained, IsAnswered, ServesClass, IsLocal, RestsWith, local_for, others_than, Said as TheSaid, IsThread, Progress}
use Rattle.pas_same_text.proofs.Common.{Named, records_of, said_by, named, Answer, after_answer, said_of_room, Local, World, locals_of, some_of, refusal}
use Rattle.pas_same_text.proofs.Common.{refuses, IsBetween, serves, is_for, fetches, serves_class_by, serves_class, takes_page, IsSame, ArePagesSame}
use Rattle.pas_same_text.proofs.{Common.{has_number, HasNoFit, IsRefused, refused_told}, SmallActs.after_with, SeatedActs.middle_rest}
use Rattle.pas_same_text.proofs.{BitfitRequests.none_searched, PlacesFit.class_fits, Pieces.has_same, SearchedPages.{refused_to, refused_same}}
use Rattle.pas_same_text.proofs.{CachedSlots.{HasAsked, answer_reached}, MadePlace.{up_to, placed_by, place_made, none_same, most_left, known_found}}
use Rattle.pas_cache.{specs.{Serves.IsFilling, Changes.LeavesSpent}, proofs.Obtained.may_search}

-- the text once place was made for a local allocator of the heap and class
abbrev pub with_place : ℕ → ℕ → ℕ → World → World
with_place k heap class w = placed_by k (find (is_for heap class) (locals_of w k)) w

-- Thread k's cache has no local allocator of the heap and class, and place for one. All actors are at rest, and the text is the replay's.
pub record HasPlace (f : Profile) (k heap class : ℕ) (p : Progress) (w : World) : Type 0 where
  pub valid : IsValid f
  pub thread : IsThread f k
  pub listed : k ≤ length w.caches
  pub filling : IsFilling f (filling_in (class_home f heap class) class)
  pub between : IsBetween f p
  pub rest : AtRest f (p.caches k) (part k p.list)
  pub same : IsSame f p w
  pub none : local_for heap class (p.caches k).locals ≡ None
  pub place : length (p.caches k).locals < 32

-- Thread k, at rest, fetched slots of the class by these steps, which came onto a legal list, or found none. These local allocators are left where place was made.
pub record IsFetched (f : Profile) (k heap class : ℕ) (p : Progress) (w : World) (found : Result Slots NoRoom) (fewer : List Slots)
    (steps : List Made) : Type 0 where
  pub valid : IsValid f
  pub thread : IsThread f k
  pub listed : k ≤ length w.caches
  pub filling : IsFilling f (filling_in (class_home f heap class) class)
  pub before : IsBetween f p
  pub rest : AtRest f (p.caches k) (part k p.list)
  pub same : IsSame f p w
  pub fetch : Fetches (filling_in (class_home f heap class) class) f (p.caches k).locals fewer steps found
  pub legal : Legal f (triples k steps ++ p.list)

-- ---- lists of local allocators
none_others : (heap class : ℕ) (slots : List Slots) → local_for heap class (others_than heap class slots) ≡ None
none_others heap class [] = refl
none_others heap class (s ∷ slots) = let ih = none_others heap class slots in grind (arith, ih)

-- where the first is stopped, there is none either of a heap and class of which there was none
none_stopped : (heap class : ℕ) (kept fewer : List Slots) (stopped : List Made) (t : Bool) → StopsFirst t kept fewer stopped → local_for heap class kept ≡ None
    → local_for heap class fewer ≡ None
none_stopped heap class kept fewer stopped t h x = search arith

-- .. and there is place for one more
below_full : (n : ℕ) → nat_le 32 n ≡ false → n < 32
below_full n e = grind (arith, nat_tests, e)

-- a list in which no number stands has none
none_some : (xs : List ℕ) → ((g : ℕ) → has_number xs g ≡ false) → some_of xs ≡ false
none_some [] none = refl
none_some (x ∷ xs) none = absurd (true≢false (sym (ap (λ (t : Bool). t || has_number xs x) (eq-eqb x x refl)) ∙ none x))

-- A thread with place for a local allocator of the heap and class may search the pages of the class's home.
pub may_fetch : (f : Profile) (k heap class : ℕ) (p : Progress) (w : World) → HasPlace f k heap class p w → MaySearch (class_home f heap class) (part k p.list)
may_fetch f k heap class p w has = may_search f _ (filling_in (class_home f heap class) class) (p.caches k).locals has.filling has.none has.rest.locals

-- ---- place is made
module _ (f : Profile) (k heap class : ℕ) (p : Progress) (w : World) (found : Result Slots NoRoom) (fewer : List Slots) (steps : List Made)
    (o : IsFetched f k heap class p w found fewer steps) where
  abbrev c : Cached
  c = p.caches k

  abbrev c1 : Cached
  c1 = record c { locals = fewer }

  abbrev xs : List Made
  xs = o.fetch.before

  abbrev ys : List Made
  ys = o.fetch.searched

  abbrev p1 : Progress
  p1 = up_to p k xs fewer

  abbrev w1 : World
  w1 = with_place k heap class w

  -- The thread is at rest before the fetch.
  own : AtRest f c (part k p.list)
  own = o.rest

  legal_middle : Legal f p1.list
  legal_middle = legal_earlier f k ys xs p.list (subst (λ (ms : List Made). Legal f (triples k ms ++ p.list)) o.fetch.steps_are o.legal)

  place_left : length fewer < 32
  place_left = search (arith, below_full, most_left)

  -- all actors are at rest before the search
  rests : RestsWith f fewer (part k p1.list)
  rests = rw part_of_own (o.fetch.rests.from (part k p.list) own.locals (agreed_steps f k p.list xs o.valid legal_middle))

  own_rest : AtRest f c1 (part k p1.list)
  own_rest = let few = place_left in record { locals = rests; few = omega (arith, few); entries = own.entries; few_entries = own.few_entries }

  -- Once the old local allocator is gone the replay is between two pieces.
  middle : IsBetween f p1
  middle = search (arith, legal_middle, middle_rest, own_rest)

  -- And it is where the text is.
  placed : IsSame f p1 w1
  placed = place_made f k heap class p w fewer xs o.valid o.thread o.listed o.before o.same o.fetch.place o.fetch.gives_back middle

  many_placed : (x : Option Local) → length (placed_by k x w).caches ≡ length w.caches
  many_placed x = search (arith, same_many, first_up_keeps, given_up_keeps)

  none_left : local_for heap class fewer ≡ None
  none_left = search (arith, none_stopped, none_others)

  -- Once place was made in a cache, it has place for a local allocator of the heap and class.
  pub place_fetched : HasPlace f k heap class p1 w1
  place_fetched = search (arith, many_placed, middle, (same_own p.caches k c1), own_rest, placed, none_left, place_left)

  -- ---- the text makes it too
  module _ (name : ℕ) where
    abbrev served_as : Option Local → World
    served_as x = serves_class_by f k name heap class x w

    abbrev fetched_as : Option Local → World
    fetched_as x = fetches f k name heap class (placed_by k x w)

    by_found : (x : Option Slots) → local_for heap class c.locals ≡ x → LeavesSpent x o.fetch.place.spent
        → served_as (find (is_for heap class) (locals_of w k)) ≡ fetched_as (find (is_for heap class) (locals_of w k))
    by_found None none left =
        let is = none_same heap class c.locals (locals_of w k) (o.same.caches.each k o.thread).locals none in
        ap served_as is ∙ ap fetched_as (sym is)
    by_found (Some s) there left =
        let found : Finds s (find (is_for heap class) (locals_of w k)) =
        found_same heap class c.locals (locals_of w k) s (o.same.caches.each k o.thread).locals there in
        cc (let known = known_found (IsLocal f (part k p.list)) heap class c.locals s own.locals.known there in
        none_some found.local.slots (λ g. found.same.slots g ∙ false_from_ne_true (is_set s.starts g) (λ set.
        let some = class_grains_positive s.class known.class in
        true≢false (sym set ∙ left.0 g (omega (arith, (known.starts g set).within, usable_grains_le s.class known.class, some))))))

    -- The text serves such a request of a class as a fetch from the state in which place was made.
    pub text_fetched : serves_class f k name heap class w ≡ fetches f k name heap class w1
    text_fetched = by_found (local_for heap class c.locals) refl o.fetch.place.taken.left

  -- ---- what comes of the fetch as a request of its own, with these steps more, comes of the whole
  module _ (more : List Made) (said : Option TheSaid) (names : List Named) (new : Cached) where
    abbrev q : Progress
    q = after_with p k (more ++ steps) said names new

    abbrev q1 : Progress
    q1 = after_with p1 k (more ++ ys) said names new

    steps_split : more ++ steps ≡ (more ++ ys) ++ xs
    steps_split = ap (λ (ms : List Made). more ++ ms) o.fetch.steps_are ∙ sym (append_assoc more ys xs)

    list_is : q.list ≡ q1.list
    list_is = ap (λ (ms : List Made). triples k ms ++ p.list) steps_split ∙ sym (triples_append k (more ++ ys) xs p.list)

    -- A replay that is between two acts is so too when told as a fetch after the place was made.
    pub fetch_between : IsBetween f q → IsBetween f q1
    fetch_between after = search (arith, list_is, again_at)

    events_are : events_by k (part k p.list) (more ++ steps) ≡ events_by k (part k p1.list) (more ++ ys)
    events_are =
        ap (events_by k (part k p.list)) steps_split
        ∙ (events_append k (more ++ ys) xs (part k p.list)
        ∙ (ap (λ (es : List Event). events_by k (xs ++ part k p.list) (more ++ ys) ++ es) (no_events releasing refl k (part k p.list) xs o.fetch.gives_back)
        ∙ (append-nil (events_by k (xs ++ part k p.list) (more ++ ys)) ∙ ap (λ (v : View). events_by k v (more ++ ys)) (sym (part_of_own k xs p.list)))))

    -- A state of the text that is that of the fetch told by itself is that of the whole request.
    pub fetch_carried : (v : World) → IsSame f q1 v → IsSame f q v
    fetch_carried v ended = assumption (
      subst (λ (l : Whole). ArePagesSame f l v) (sym list_is) ended.pages,
      same_again f p.caches v.caches k c1 new ended.caches,
      ap (λ (es : List Event). p.records ++ (records_of es ++ said_by k said)) events_are ∙ ended.records,
      ended.epoch ∙ ap (λ (l : Whole). word_after l Word.Epoch) (sym list_is),
    )

-- ==== A REQUEST OF A CLASS THAT IS REFUSED: place is made for a local allocator, and then no page serves, in the text either.
-- ---- the fetch as a request of its own
module _ (f : Profile) (k name heap class : ℕ) (p : Progress) (w : World) (room : NoRoom) (steps : List Made) (has : HasPlace f k heap class p w)
    (refill : IsRefill (filling_in (class_home f heap class) class) f steps (Err room)) (after : IsBetween f (refused_to p k name steps room)) where
  abbrev d : Directory
  d = class_home f heap class

  searched_are : refill.searched ≡ steps
  searched_are = sym (refill.steps_are ∙ ap (λ (ms : List Made). ms ++ refill.searched) refill.outcome.1)

  -- The steps are those of a search.
  searches : AreSearch steps
  searches = subst AreSearch searched_are refill.searches

  -- The search was refused.
  refused : IsRefused (NoSlot class) f d steps room
  refused = subst (λ (ms : List Made). IsRefused (NoSlot class) f d ms room) searched_are refill.outcome.0

  -- nothing could serve before, and the reason is true after
  told : HasNoFit (NoSlot class) f d p.list × HasNoFit (NoSlot class) f d (triples k steps ++ p.list) × IsTrueReason f d (triples k steps ++ p.list) room
  told = refused_told _ f d k p.list steps has.valid has.filling.directory (fewer_slots class) after.legal searches (may_fetch f k heap class p w has) room refused

  -- The text refuses it, too.
  text : fetches f k name heap class w ≡ refuses k name (refusal f w d) w
  text = ap (λ (r : Result ℕ NoRoom). takes_page f k name heap class r w) (none_searched _ f d p w _ has.between.legal has.filling.directory has.same.pages
      (class_fits f p w has.valid has.between (has_same has.same) class has.filling.class _) told.0)

  fetch_refused : IsSame f (refused_to p k name steps room) (fetches f k name heap class w)
  fetch_refused = rw text (refused_same f k name p w d steps room has.valid has.thread has.filling.directory has.between after has.same searches refused.quiet told.2)

-- ---- the pages of a request of a class
-- How the thread's cache serves it, in these pages: by its route, which is that of the class.
pub class_served_by : (f : Profile) (k name heap size align class : ℕ) (p : Progress) (a : Answer) (w : World) → route_in f size align ≡ Route.Class class
    → (asked : HasAsked f k (record { name = name; heap = heap; size = size; align = align }) p a w)
    → ServesClass (filling_in (class_home f heap class) class) f (p.caches k) a.cache a.steps asked.served.answer
class_served_by f k name heap size align class p a w route asked = search arith

-- ---- the request
module _ (f : Profile) (k name heap size align class : ℕ) (p : Progress) (a : Answer) (w : World) (listed : k ≤ length w.caches)
    (admitted : IsAdmitted f size align heap) (route : route_in f size align ≡ Route.Class class)
    (asked : HasAsked f k (record { name = name; heap = heap; size = size; align = align }) p a w) where
  abbrev mine : Cached
  mine = p.caches k

  abbrev home : Directory
  home = class_home f heap class

  by_class : ServesClass (filling_in home class) f mine a.cache a.steps asked.served.answer
  by_class = class_served_by f k name heap size align class p a w route asked

  -- what was made before the last of its steps came onto a legal list
  legal_fetch : (given steps : List Made) → a.steps ≡ given ++ steps → Legal f (triples k steps ++ p.list)
  legal_fetch given steps steps_are = legal_earlier f k given steps p.list (rw steps_are at asked.after.legal)

  -- slots were fetched, or none were found
  pub fetched_so : (found : Result Slots NoRoom) (fewer : List Slots) (steps given : List Made) → a.steps ≡ given ++ steps
      → Fetches (filling_in home class) f mine.locals fewer steps found → IsFetched f k heap class p w found fewer steps
  fetched_so found fewer steps given steps_are fetch = search (arith, filling_for, legal_fetch)

  -- ---- none were found
  module _ (room : NoRoom) (is : asked.served.answer ≡ Err room) where
    -- A refusal of the search is one of the request.
    obtained : (fewer : List Slots) (steps : List Made) → a.cache ≡ record mine { locals = fewer } → a.steps ≡ steps
        → IsObtained (filling_in home class) f mine.locals fewer steps (Err room) → IsSame f (after_answer p k a) (serves_class f k name heap class w)
    obtained fewer steps cache steps_are (inl cached) = absurd (let bad : Err room ≡ Ok cached.0 = cached.1 in cc)
    obtained fewer steps cache steps_are (inr fetch) = let o = fetched_so (Err room) fewer steps [] steps_are fetch in
        let p1 : Progress = up_to p k o.fetch.before fewer in
        let w1 : World = with_place k heap class w in
        let said : Option TheSaid = Some (said_of_room name room) in
        let names : List Named = named name None ∷ p.names in
        let to : after_answer p k a ≡ after_with p k steps said names (p1.caches k) =
        answer_reached asked (Err room) is ∙ cc (same_own p.caches k (record mine { locals = fewer })) in
        let end : IsBetween f (refused_to p1 k name o.fetch.searched room) =
        fetch_between f k heap class p w (Err room) fewer steps o [] said names (p1.caches k) (subst (IsBetween f) to asked.after) in
        let ended : IsSame f (refused_to p1 k name o.fetch.searched room) (fetches f k name heap class w1) =
        fetch_refused f k name heap class p1 w1 room o.fetch.searched (place_fetched f k heap class p w (Err room) fewer steps o) o.fetch.refill end in
        rw (text_fetched f k heap class p w (Err room) fewer steps o name, to)
        (fetch_carried f k heap class p w (Err room) fewer steps o [] said names (p1.caches k) (fetches f k name heap class w1) ended)

    ends_so : (found : Result Slots NoRoom) (fewer : List Slots) (early given : List Made) → a.steps ≡ given ++ early
        → IsObtained (filling_in home class) f mine.locals fewer early found → IsAnswered fewer a.cache.locals given found (Err room)
        → IsSame f (after_answer p k a) (serves_class f k name heap class w)
    ends_so (Ok slots) fewer early given steps_are how ends = absurd ends
    ends_so (Err why) fewer early given steps_are how ends = obtained fewer early
        (by_class.cache ∙ ap (λ (ss : List Slots). record mine { locals = ss }) ends.1) (steps_are ∙ ap (λ (ms : List Made). ms ++ early) ends.2)
        (subst (λ (r : NoRoom). IsObtained (filling_in home class) f mine.locals fewer early (Err r)) (sym ends.0) how)

    -- A request of a class that is refused leads the text to the replay's state.
    pub class_refused : IsSame f (after_answer p k a) (serves f k name heap (route_in f size align) (room_in f size align) align w)
    class_refused = subst (λ (r : Route). IsSame f (after_answer p k a) (serves f k name heap r (room_in f size align) align w)) (sym route)
        (ends_so by_class.locals.found by_class.locals.fewer by_class.locals.before by_class.locals.given by_class.locals.steps_are by_class.locals.obtained
        (subst (IsAnswered by_class.locals.fewer a.cache.locals by_class.locals.given by_class.locals.found) is by_class.locals.ends))
