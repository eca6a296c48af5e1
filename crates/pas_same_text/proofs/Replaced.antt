-- REALLOCATIONS THAT REPLACE A BLOCK: after a request that was served its thread is at rest with its cache again, by what the request's steps show; so the request for
-- another block is an act of its own, and where it was served the old name is logged then.
use Rattle.std.proofs.Common.{◌==◌, length, ◌≡◌, ℕ, ◌+◌, ◌≤◌, true, List, [], ◌∷◌, ◌++◌, All, None, Some, Result, Ok, Err, ◌⊎◌, inl, inr, refl, ap, sym, ◌∙◌}
use Rattle.std.proofs.{Common.{subst, append_assoc, arith, map, reverse, Option, MatchResult, append-nil, eq-eqb}, lemmas.List.Sorted.IsPermutation-sym}
use Rattle.std.proofs.lemmas.List.Sorted.{IsPermutation-to_front}
use Rattle.pas_same_text.proofs.{CacheLists.{again_at, serves_still, same_own}, MadePlace.up_to, BackActs.freed_any, SeatedActs.{at_rest_now, middle_rest}}
use Rattle.pas_same_text.proofs.{SmallActs.{after_with, page_inside, freed_is}, UsableBlocks.act_usable, FetchedClasses.{HasPlace, IsFetched, place_fetched}}
use Rattle.pas_same_text.proofs.Common.{filling_for, map-append, reverse-append, IsValid, IsAdmitted, route_in, is_shared, kind_of_route, class_home}
use Rattle.pas_same_text.proofs.Common.{directory_for, room_in, Directory, Route, NoRoom, Block, Profile, Event, Agreed, triples, part, Legal, Whole, View}
use Rattle.pas_same_text.proofs.Common.{events_by, Made, triples_append, events_append, part_of_own, agreed_steps, legal_earlier, IsServedNamed, IsScanned}
use Rattle.pas_same_text.proofs.Common.{MayFind, Slots, AtRest, Cached, TakesEntry, RestsWith, local_for, filling_in, Fetches, IsObtained, ServesClass}
use Rattle.pas_same_text.proofs.Common.{ServesPages, ServesBy, IsAnswered as IsAnsweredBy, may_find, IsThread, Act, Request, Alloc, Progress, Answer, wanted_by}
use Rattle.pas_same_text.proofs.Common.{Caches, Named, named, having, IsReplaced, records_of, said_by, with_steps, after_answer, World, IsSame, IsBetween}
use Rattle.pas_same_text.proofs.Common.{IsResting, HasUsableBlocks, serves, IsAsked, AnswersSame, RequestStaysSame, entry_of, Entry, Record, Said as TheSaid}
use Rattle.pas_same_text.{proofs.Common.IsNamedBy, specs.Order.{logs_replaced, replaces}}
use Rattle.pas_steps.proofs.Adding.{agreed_first, agreed_later}
use Rattle.pas_bitfit.specs.Allocates.{bitfit_directory, IsAllocated}
use Rattle.pas_cache.{specs.Serves.pages_of, proofs.{Resting.{found_passes, rests_kept, rests_reordered, rests_given}, Routes.bitfit_rests}}
use Rattle.pas_cache.proofs.Obtained.{rests_refilled}
use Rattle.pas_free_log.specs.Conditions.{IsEntryOf}

-- ---- a request
module _ (f : Profile) (k : ℕ) (r : Request) (p : Progress) (a : Answer) (w : World) (block : Block) (valid : IsValid f) (thread : IsThread f k)
    (listed : k ≤ length w.caches) (admitted : IsAdmitted f r.size r.align r.heap) (before : IsBetween f p) (same : IsSame f p w)
    (rest : AtRest f (p.caches k) (part k p.list)) (legal : Legal f (triples k a.steps ++ p.list)) where
  abbrev c : Cached
  c = p.caches k

  abbrev v : View
  v = part k p.list

  -- The actor rests before the request.
  rests : RestsWith f c.locals v
  rests = rest.locals

  -- The request's answers agree with its view.
  agreed : Agreed f v a.steps
  agreed = agreed_steps f k p.list a.steps valid legal

  -- the directory of a route
  abbrev home_by : Route → Directory
  home_by x = record { heap = r.heap; kind = kind_of_route (is_shared f r.heap) x }

  -- ---- of a class
  module _ (class : ℕ) (route : route_in f r.size r.align ≡ Route.Class class) where
    abbrev home : Directory
    home = class_home f r.heap class

    -- After a fetch that got slots the actor is at rest.
    fetched : (slots : Slots) (fewer : List Slots) (early : List Made) → Legal f (triples k early ++ p.list)
        → Fetches (filling_in home class) f c.locals fewer early (Ok slots) → RestsWith f (slots ∷ fewer) (early ++ v)
    fetched slots fewer early stands fetch =
        let o : IsFetched f k r.heap class p w (Ok slots) fewer early =
        assumption (filling_for f r.size r.align r.heap class admitted route) in
        let place : HasPlace f k r.heap class (up_to p k fetch.before fewer) _ = place_fetched f k r.heap class p w (Ok slots) fewer early o in
        let none : local_for r.heap class fewer ≡ None =
        ap (λ (x : Cached). local_for r.heap class x.locals) (sym (same_own p.caches k (record c { locals = fewer }))) ∙ place.none in
        let ok : Agreed f v (fetch.searched ++ fetch.before) = subst (Agreed f v) fetch.steps_are (agreed_steps f k p.list early valid stands) in
        let mid : RestsWith f fewer (fetch.before ++ v) = fetch.rests.from v rests (agreed_later f v fetch.searched fetch.before ok) in
        let all : RestsWith f (slots ∷ fewer) (fetch.searched ++ (fetch.before ++ v)) =
        rests_refilled f (filling_in home class) fewer o.filling none fetch.searched _ mid (agreed_first f v fetch.searched fetch.before ok) (Ok slots) fetch.refill in
        rw (fetch.steps_are, append_assoc) all

    -- So it is however they were obtained.
    obtained : (slots : Slots) (fewer : List Slots) (early : List Made) → Legal f (triples k early ++ p.list)
        → IsObtained (filling_in home class) f c.locals fewer early (Ok slots) → RestsWith f (slots ∷ fewer) (early ++ v)
    obtained slots fewer early stands (inl cached) =
        let some : Ok slots ≡ Ok cached.0 = cached.1 in
        subst (λ (s : Slots). RestsWith f (s ∷ fewer) (early ++ v)) (sym cc)
        (subst (λ (ms : List Made). RestsWith f (cached.0 ∷ fewer) (ms ++ v)) (sym cached.2.no_steps)
        (rw cached.2.fewer_are (rests_reordered f c.locals _
        ((found_passes _ c.locals cached.0 cached.2.cached).without (rests.apart.one_each r.heap class)) v rests)))
    obtained slots fewer early stands (inr fetch) = fetched slots fewer early stands fetch

    given_rests : (found : Result Slots NoRoom) (fewer locals' : List Slots) (given early : List Made) → a.steps ≡ given ++ early
        → IsObtained (filling_in home class) f c.locals fewer early found → IsAnsweredBy fewer locals' given found (Ok block)
        → RestsWith f locals' (a.steps ++ v)
    given_rests (Err why) fewer locals' given early steps_are how ends = absurd ends
    given_rests (Ok slots) fewer locals' given early steps_are how ends =
        let left : Slots = ends.0 in
        let stands : Legal f (triples k (given ++ early) ++ p.list) = subst (λ (ms : List Made). Legal f (triples k ms ++ p.list)) steps_are legal in
        let ok : Agreed f v (given ++ early) = subst (Agreed f v) steps_are agreed in
        let all : RestsWith f (left ∷ fewer) (given ++ (early ++ v)) =
        rests_given f fewer slots left block given ends.1 _ (obtained slots fewer early (legal_earlier f k given early p.list stands) how) (agreed_first f v given early ok) in
        let at_end : RestsWith f (fewer ++ left ∷ []) (given ++ (early ++ v)) =
        rests_reordered f _ _ (IsPermutation-sym (fewer ++ left ∷ []) (left ∷ fewer) (IsPermutation-to_front fewer left)) _ all in
        rw (ends.2, steps_are, append_assoc) at_end

    class_rests : ServesClass (filling_in (directory_for f r.heap r.size r.align) class) f c a.cache a.steps (Ok block)
        → RestsWith f a.cache.locals (a.steps ++ v)
    class_rests by_class =
        let own : ServesClass (filling_in home class) f c a.cache a.steps (Ok block) =
        subst (λ (e : Directory). ServesClass (filling_in e class) f c a.cache a.steps (Ok block)) (ap home_by route) by_class in
        given_rests own.locals.found own.locals.fewer a.cache.locals own.locals.given own.locals.before own.locals.steps_are own.locals.obtained own.locals.ends

  -- ---- of a bit-fit page
  -- ---- of whole pages
  pages_rests : route_in f r.size r.align ≡ Route.Large → ServesPages f (wanted_by f r) a.found c a.cache a.steps (Ok block)
      → RestsWith f a.cache.locals (a.steps ++ v)
  pages_rests route by_pages =
      let d : Directory = directory_for f r.heap r.size r.align in
      let find_it : MayFind d v = subst (λ (e : Directory). MayFind e v) (ap home_by (sym route)) (may_find f v r.heap c.locals rests) in
      let ok : Agreed f v (by_pages.rest ++ by_pages.tried) = subst (Agreed f v) by_pages.steps_are agreed in
      rw (by_pages.cache, by_pages.steps_are) (by_outcome d find_it by_pages.tried by_pages.rest ok by_pages.outcome)
    where
      by_outcome : (d : Directory) → MayFind d v → (tried later : List Made) → Agreed f v (later ++ tried)
          → IsServedNamed f d (pages_of (wanted_by f r)) a.found tried later (Ok block) ⊎ IsScanned f d (pages_of (wanted_by f r)) a.found tried later (Ok block)
          → RestsWith f c.locals ((later ++ tried) ++ v)
      by_outcome d find_it tried later ok (inl named) = rests_kept f c.locals (later ++ tried) v (named.2.gave.from v find_it ok).does ok rests
      by_outcome d find_it tried later ok (inr scanned) =
          let steps_are : later ++ tried ≡ scanned.after ++ (scanned.searched ++ tried) = simp (scanned.rest_is, append_assoc) in
          let all : Agreed f v (scanned.after ++ (scanned.searched ++ tried)) = subst (Agreed f v) steps_are ok in
          rw steps_are (rests_kept f c.locals _ v (scanned.outcome.gave.from v find_it all).does all rests)

  -- ---- of any
  by_route : (route : Route) → route_in f r.size r.align ≡ route → ServesBy route f (wanted_by f r) a.found c a.cache a.steps (Ok block)
      → RestsWith f a.cache.locals (a.steps ++ v)
  by_route (Route.Class class) is serves = class_rests class is serves
  by_route Route.Bitfit is serves = let both : IsAllocated f (bitfit_directory r.heap) (wanted_by f r).room r.align serves.searched serves.after block =
      subst (λ (e : Directory). IsAllocated f e (wanted_by f r).room r.align serves.searched serves.after block) (ap home_by is) serves.outcome in
      rw (serves.cache, serves.steps_are) (bitfit_rests f r.heap (wanted_by f r).room r.align c.locals serves.searched serves.after (Ok block) both v rests
      (subst (Agreed f v) serves.steps_are agreed))
  by_route Route.Large is serves = pages_rests is serves

-- ==== REALLOCATIONS THAT REPLACE A BLOCK: the request for another one as an act of its own, and where it was served the old name logged then.
-- ---- records of steps that follow others
-- ---- what a name stands for that was asked for last
-- ---- between the request and the log all actors are at rest
module _ (f : Profile) (k : ℕ) (r : Request) (old : Block) (p : Progress) (a : Answer) (w : World)
    (is : IsReplaced f k r old (having p.names (part k p.list) (p.caches k)) a)
    (valid : IsValid f) (thread : IsThread f k) (listed : k ≤ length w.caches) (admitted : IsAdmitted f r.size r.align r.heap) (before : IsBetween f p)
    (after : IsBetween f (after_answer p k a)) (same : IsSame f p w) where
  -- the replay after the request
  abbrev midway : Progress
  midway = after_answer p k is.placed

  -- The list between request and free is legal.
  legal : Legal f midway.list
  legal = legal_earlier f k is.freed is.placed.steps p.list (subst (λ (ms : List Made). Legal f (triples k ms ++ p.list)) is.steps_are after.legal)

  -- the thread at the end of the act
  at_end : AtRest f a.cache (part k (triples k a.steps ++ p.list))
  at_end = at_rest_now f (p.caches k) a.cache (p.books k) (part k p.list) (part k (triples k a.steps ++ p.list)) (before.rest.working k thread) is.served.rest
      (subst (λ (c : Cached). IsResting f c (p.books k) (part k (triples k a.steps ++ p.list))) (same_own p.caches k a.cache) (after.rest.working k thread))

  own_rest : (answer : Result Block NoRoom) → is.served.answer ≡ answer
      → MatchResult answer (λ block. TakesEntry f k is.placed.cache a.cache (entry_of old.name) is.freed) (λ room. (is.freed ≡ []) × (a.cache ≡ is.placed.cache))
      → AtRest f is.placed.cache (part k midway.list)
  own_rest (Err room) e none = search (arith, at_end)
  own_rest (Ok block) e takes =
      let serves_it = rw e at is.served.serves in
      -- A request that was served leaves the log of its thread's cache as it was.
      let log : is.placed.cache.log ≡ (c f k r p is.placed w block valid thread listed admitted before same is.served.rest legal).log = search arith in
      record {
        locals = rw part_of_own (by_route f k r p is.placed w block valid thread listed admitted before same is.served.rest legal
            (route_in f r.size r.align) refl serves_it);
        few = subst (λ (ls : List Slots). length ls ≤ 32) (ap (λ (c : Cached). c.locals) takes.cache) at_end.few;
        entries = subst (All (IsEntryOf f)) (sym log) is.served.rest.entries;
        few_entries = subst (λ (es : List Entry). length es ≤ 64) (sym log) is.served.rest.few_entries;
      }

  -- There the replay is between two pieces.
  middle : IsBetween f midway
  middle = record { legal = legal; rest = middle_rest f p k _ is.placed.steps valid thread before is.served.rest legal (own_rest _ refl is.logged) }

-- ---- the act, with all that is known of its request
module _ (f : Profile) (k : ℕ) (r : Request) (old : Block) (p : Progress) (a : Answer) (w : World) (heap_is : old.heap ≡ r.heap)
    (is : IsReplaced f k r old (having p.names (part k p.list) (p.caches k)) a) (asked : IsAsked f k r p is.placed w) (usable : HasUsableBlocks p)
    (at_request : AnswersSame f k r p is.placed w) (after : IsBetween f (after_answer p k a)) where
  abbrev q : Progress
  q = after_answer p k is.placed

  abbrev mid : World
  mid = serves f k r.name r.heap (route_in f r.size r.align) (room_in f r.size r.align) r.align w

  abbrev to : World
  to = replaces f k r.name old r.size r.align w

  text_as : (o : Option Block) → is.placed.names ≡ named r.name o ∷ p.names → to ≡ logs_replaced f k old (Some o) mid
  text_as o names_are = search (arith, eq-eqb)

  -- ---- where it was refused nothing follows
  -- A reallocation whose request is refused is the text's.
  unserved : is.placed.names ≡ named r.name None ∷ p.names → is.freed ≡ [] → a.cache ≡ is.placed.cache → IsSame f (after_answer p k a) to
  unserved names_are none cache =
      let unserved_to : after_answer p k a ≡ q = search arith in rw (unserved_to, text_as None names_are) at_request

  -- ---- where it was served the old name is logged
  module _ (block : Block) (names_are : is.placed.names ≡ named r.name (Some block) ∷ p.names) (silent : is.placed.said ≡ None)
      (takes : TakesEntry f k is.placed.cache a.cache (entry_of old.name) is.freed) where
    abbrev end : Progress
    end = after_with q k is.freed None q.names a.cache

    abbrev own : View
    own = part k p.list

    -- the events of the request, and those of a flush after it
    abbrev given : List Event
    given = events_by k own is.placed.steps

    abbrev flushed : List Event
    flushed = events_by k (part k q.list) is.freed

    records_are : p.records ++ (records_of (events_by k own a.steps) ++ said_by k a.said) ≡ end.records
    records_are =
        ap (λ (es : List Event). p.records ++ (records_of es ++ said_by k a.said)) (let it : events_by k own a.steps ≡ flushed ++ given = simp (
          is.steps_are,
          events_append,
          ← part_of_own,
        ) in it)
        ∙ (ap (λ (s : Option TheSaid). p.records ++ (records_of (flushed ++ given) ++ said_by k s)) (is.said_is ∙ silent)
        ∙ (ap (λ (rs : List Record). p.records ++ rs) (append-nil (records_of (flushed ++ given))
        ∙ ap (λ (es : List Event). map Record.Event es) (reverse-append flushed given) ∙ map-append Record.Event _ (reverse flushed))
        ∙ (sym (append_assoc p.records (records_of given) (records_of flushed))
        ∙ (ap (λ (rs : List Record). (p.records ++ rs) ++ records_of flushed) (sym (append-nil (records_of given)))
        ∙ (ap (λ (s : Option TheSaid). (p.records ++ (records_of given ++ said_by k s)) ++ records_of flushed) (sym silent)
        ∙ ap (λ (rs : List Record). q.records ++ rs) (sym (append-nil (records_of flushed))))))))

    end_is : after_answer p k a ≡ end
    end_is =
        ap (λ (l : Whole). let x : Progress = record (after_answer p k a) { list = l } in x)
        (ap (λ (ms : List Made). triples k ms ++ p.list) is.steps_are ∙ sym (triples_append k is.freed is.placed.steps p.list))
        ∙ (ap (λ (rs : List Record). let x : Progress = record (after_answer p k a) { list = end.list; records = rs } in x) records_are
        ∙ (ap (λ (ns : List Named). let x : Progress = record (after_answer p k a) { names = ns; list = end.list; records = end.records } in x) is.names_are
        ∙ ap (λ (cs : Caches). let x : Progress = record (after_answer p k a) { names = q.names; caches = cs; list = end.list; records = end.records } in x)
        (sym (λ i j. again_at p.caches j k is.placed.cache a.cache (j == k) i))))

    between_end : IsBetween f (with_steps q k is.freed a.cache)
    between_end = let b : IsBetween f end = subst (IsBetween f) end_is after in record { legal = b.legal; rest = b.rest }

    listed_then : k ≤ length mid.caches
    listed_then = search (arith, serves_still)

    served_to : IsSame f (after_answer p k a) to
    served_to =
        subst (λ (x : Progress). IsSame f x to) (sym end_is)
        (subst (λ (x : World). IsSame f end x) (sym (text_as (Some block) names_are ∙ sym
        (freed_is f k (entry_of old.name) mid true true (page_inside f.pages _ takes.region.page.0 takes.region.page.1) (eq-eqb _ 0 takes.region.aligned))))
        (freed_any f k (entry_of old.name) q mid a.cache is.freed asked.thread listed_then asked.valid asked.after at_request
        (act_usable f (Act.Operates (record { line = 0; actor = k; what = Alloc r.name r.heap r.size r.align })) p q asked.valid asked.before asked.after
        (is.placed, asked.served, refl) usable) between_end None
        (inl (subst (λ (c : Cached). TakesEntry f k c a.cache (entry_of old.name) is.freed) (sym (same_own p.caches k is.placed.cache)) takes, refl))))

  by_answer : (answer : Result Block NoRoom) → is.served.answer ≡ answer
      → MatchResult answer (λ block. TakesEntry f k is.placed.cache a.cache (entry_of old.name) is.freed) (λ room. (is.freed ≡ []) × (a.cache ≡ is.placed.cache))
      → IsSame f (after_answer p k a) to
  by_answer answer e takes = search (arith, served_to, unserved)

-- ---- THE ACT, by what is known of it, and what its request comes to
pub replaced_same : (f : Profile) (k : ℕ) (r : Request) (old : Block) (p : Progress) (a : Answer) (w : World) → old.heap ≡ r.heap → IsValid f → IsThread f k
    → k ≤ length w.caches → IsAdmitted f r.size r.align r.heap → IsBetween f p → IsBetween f (after_answer p k a)
    → IsSame f p w → HasUsableBlocks p → (is : IsReplaced f k r old (having p.names (part k p.list) (p.caches k)) a)
    → IsNamedBy f w.indexes (Some r) is.placed.found → RequestStaysSame f k r
    → IsSame f (after_answer p k a) (replaces f k r.name old r.size r.align w)
replaced_same f k r old p a w heap_is valid thread listed admitted before after same usable is named stays =
    let asked : IsAsked f k r p is.placed w = assumption (middle f k r old p a w is valid thread listed admitted before after same) in
    by_answer f k r old p a w heap_is is asked usable (stays p is.placed w asked) after is.served.answer refl is.logged
