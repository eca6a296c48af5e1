-- A REQUEST OF A CLASS THAT A PAGE SERVES, where the cache has place for a local allocator: the page that was searched for gets a deed and memory where it has none, its
-- slots are taken, the lowest of them is given, and the others are cached.
use Rattle.pas_same_text.proofs.Common.{or-false, LendsNone, address_of, false≢true, or_cases, not-false, list_any-append, is_set, class_size, class_grains}
use Rattle.pas_same_text.proofs.Common.{IsSlotStart, deed_word_of, IsAdmitted, class_home, is_shared, kind_of_class, route_in, room_in, Directory, Event}
use Rattle.pas_same_text.proofs.Common.{NoRoom, Block, Profile, Route, class_grains_positive, usable_grains_le, slot_end, triples, events_by, Once, Always}
use Rattle.pas_same_text.proofs.Common.{View, has_right, known_deed, Whole, part, Legal, Only, Giving, LookLife, returning, Made, part_of_own, events_same}
use Rattle.pas_same_text.proofs.Common.{free_of_page, agreed_steps, lends_none, legal_earlier, KeepsMarks, searching, MaySearch, LeavesWhere, NoSlot}
use Rattle.pas_same_text.proofs.Common.{fewer_slots, Slots, GivesSlot, Cached, any_covers, filling_in, IsRefill, IsObtained, IsAnswered, ServesClass, Progress}
use Rattle.pas_same_text.proofs.Common.{named, Named, Answer, after_answer, Cache, World, Local, cache_of, IsFreeSlot, is_guarded, IsBetween, IsSearch, serves}
use Rattle.pas_same_text.proofs.Common.{some_of, searched, readies, address_on, slots_for, gives_first, takes_page, fetches, serves_class, IsSame, HasSame}
use Rattle.pas_same_text.proofs.{Common.{IsSameLocal, AreSameLocals, AreSameCaches, has_number}, PlacesFit.{class_fits, read_unguarded}, SmallActs.after_with}
use Rattle.pas_same_text.proofs.{MadePlace.{all_left, up_to}, TakenSince.{shared_row, right_kept, exclusive_free}, TakenSlots.{all_taken, row_taken}}
use Rattle.pas_same_text.proofs.{TakenSlots.slots_rise, Tests.and_first, Pieces.has_same, RunsFound.{shown, shown_rest}, FetchedClasses.{HasPlace, may_fetch}}
use Rattle.pas_same_text.proofs.FetchedClasses.{class_served_by, fetched_so, class_refused, IsFetched, with_place, place_fetched, text_fetched, fetch_between}
use Rattle.pas_same_text.proofs.{FetchedClasses.fetch_carried, CachedSlots.{text_locals, HasHead, head_of, cached_answered, HasAsked, answer_reached}}
use Rattle.pas_same_text.proofs.{GivenBlocks.{GivesBlock, page_chosen, page_ready, page_given}, CacheLists.{same_with, others_same, last_same, slot_given}}
use Rattle.pas_same_text.{proofs.CacheLists.same_own, specs.Classes.local_on}
use Rattle.pas_steps.{specs.Evidence.ShowsHere, proofs.{Frames.right_of_own, Apart.deeds_same}}
use Rattle.std.proofs.Common.{length, ◌≡◌, ℕ, ◌+◌, ◌/◌, ◌≤◌, ◌==◌, Bool, true, false, not, if◌then◌else◌, List, [], ◌∷◌, ◌++◌, None, Some, Result, Ok, ◌⊎◌, inl}
use Rattle.std.proofs.Common.{inr, refl, ap, sym, ◌∙◌, subst, append_assoc, arith, append-nil, true≢false, eq-eqb, eqb-true, Err}
use Rattle.pas_segregated.specs.Refills.{GivesSlots, GetsSlots}
use Rattle.pas_cache.{specs.Serves.took_in, proofs.Obtained.kept_by}

-- the replay after the block was given of slots that were fetched, of which these are left
abbrev pub fetched_to : Progress → ℕ → ℕ → List Made → Slots → Block → Progress
fetched_to p k name steps rest block = after_with p k steps None (named name (Some block) ∷ p.names) (record (p.caches k) { locals = (p.caches k).locals ++ rest ∷ [] })

module _ (f : Profile) (k name heap class : ℕ) (p : Progress) (w : World) (has : HasPlace f k heap class p w) (slots rest : Slots) (block : Block)
    (ys given : List Made) (refill : IsRefill (filling_in (class_home f heap class) class) f ys (Ok slots))
    (gives : GivesSlot slots rest block given) (after : IsBetween f (fetched_to p k name (given ++ ys) rest block)) where
  abbrev c : Cached
  c = p.caches k

  abbrev new : Cached
  new = record c { locals = c.locals ++ rest ∷ [] }

  abbrev own : View
  own = part k p.list

  abbrev d : Directory
  d = class_home f heap class

  abbrev shared : Bool
  shared = is_shared f heap

  -- ---- the steps
  abbrev sought : List Made
  sought = refill.searched

  -- The refill got the slots.
  got : GivesSlots (filling_in d class) f sought refill.after slots
  got = refill.outcome

  abbrev steps : List Made
  steps = (given ++ refill.after) ++ sought

  abbrev q : Progress
  q = fetched_to p k name steps rest block

  abbrev base : Whole
  base = triples k sought ++ p.list

  steps_are : given ++ ys ≡ steps
  steps_are = ap (λ (ms : List Made). given ++ ms) refill.steps_are ∙ sym (append_assoc given refill.after sought)

  there : IsBetween f q
  there = subst (λ (ms : List Made). IsBetween f (fetched_to p k name ms rest block)) steps_are after

  legal_refill : Legal f (triples k (refill.after ++ sought) ++ p.list)
  legal_refill = subst (λ (ms : List Made). Legal f (triples k ms ++ p.list)) refill.steps_are (legal_earlier f k given ys p.list after.legal)

  legal_search : Legal f base
  legal_search = legal_earlier f k refill.after sought p.list legal_refill

  may : MaySearch d own
  may = may_fetch f k heap class p w has

  marks : Always (KeepsMarks slots.page) sought
  marks = got.marks own may (agreed_steps f k p.list sought has.valid legal_search)

  -- The actor gains the slots, and nothing else.
  gains : GetsSlots d slots own ((refill.after ++ sought) ++ own)
  gains = got.gets.from own may (agreed_steps f k p.list (refill.after ++ sought) has.valid legal_refill)

  -- one slot is looked at and given
  given_kinds : Only (Giving ∷ LookLife ∷ []) given
  given_kinds = subst (Only (Giving ∷ LookLife ∷ [])) (sym gives.steps_are) (refl, (refl, tt))

  -- ---- the slots
  old : HasSame f p w
  old = has_same has.same

  -- The right is kept just where the heap isn't shared.
  kept : slots.right ≡ not shared
  kept = kept_by slots.right shared slots.class class (ap (λ (e : Directory). e.kind) got.home)

  -- the page has a free slot, so no guard has it
  slot_unguarded : (s : ℕ) → IsFreeSlot class (free_of_page p.list slots.page) s → is_guarded w slots.page ≡ false
  slot_unguarded s free =
      let within = free.0.within in
      let most = usable_grains_le class has.filling.class in
      let some = class_grains_positive class has.filling.class in
      read_unguarded f p w has.valid has.between old class has.filling.class slots.page s (omega (arith, within, most, some)) (free.1 s (omega arith) (omega (arith, some)))

  unguarded_by : (t : Bool) → took_in (kind_of_class t class) class slots.page sought slots.starts → is_guarded w slots.page ≡ false
  unguarded_by false took =
      slot_unguarded gives.start
      ((exclusive_free f k p.list class slots.page sought slots.starts legal_search refill.searches marks took gives.start).0 gives.lowest.set)
  unguarded_by true took = let row = shared_row f k p.list class slots.page sought _ legal_search refill.searches took in slot_unguarded row.first row.free

  unguarded : is_guarded w slots.page ≡ false
  unguarded = unguarded_by shared got.took

  taken_by : (t : Bool) → took_in (kind_of_class t class) class slots.page sought slots.starts → (s : ℕ)
      → has_number (slots_for t w class slots.page) s ≡ is_set slots.starts s
  taken_by false took = all_taken f p w has.valid has.between old class has.filling.class slots.page slots.starts unguarded
      (exclusive_free f k p.list class slots.page sought slots.starts legal_search refill.searches marks took)
  taken_by true took = row_taken f p w has.valid has.between old class has.filling.class slots.page slots.starts unguarded
      (shared_row f k p.list class slots.page sought slots.starts legal_search refill.searches took)

  abbrev local : Local
  local = local_on f w heap class slots.page

  local_same : IsSameLocal slots local
  local_same = assumption (
    sym (ap (λ (e : Directory). e.heap) got.home),
    sym got.class_is,
    sym kept,
    taken_by shared got.took,
    slots_rise f p w has.valid has.between old class has.filling.class slots.page slots.starts unguarded shared,
  )

  head : HasHead local.slots
  head = head_of local.slots gives.start (local_same.slots gives.start ∙ gives.lowest.set)

  -- The block is at the first slot, and the others are kept.
  slot : (head.head ≡ gives.start) × IsSameLocal rest (record local { slots = head.more })
  slot = slot_given slots rest local head.head gives.start head.more local_same head.is gives.lowest gives.rest

  -- ---- the page
  is_search : IsSearch (NoSlot class) f d k p sought w (slots_for shared w class)
  is_search =
      let lends : LendsNone sought = lends_none searching refl sought refill.searches.kinds in
      assumption (has, fewer_slots class, legal_search, lends, may.rights, class_fits f p w has.valid has.between old class has.filling.class shared)

  -- ---- events
  abbrev es : List Event
  es = events_by k own sought

  -- ---- the block
  some : 1 ≤ class_grains class
  some = class_grains_positive class has.filling.class

  fits_page : head.head + class_grains class ≤ 256
  fits_page =
      let within = slot_end class gives.start has.filling.class (subst (λ (x : ℕ). IsSlotStart x gives.start) got.class_is (got.starts gives.start gives.lowest.set)) in
      omega (arith, slot.0, within)

  gives_it : GivesBlock f k p q w steps es block (address_on slots.page head.head) (class_size class) heap
  gives_it =
      let address_is : address_of block.name ≡ address_on slots.page head.head = omega (arith, gives.address, slot.0) in
      let shown = ap (events_by k own) (sym steps_are) ∙ (let it : events_by k own
      (given ++ ys) ≡ Event.Give k block ∷ es = cc (events_same returning refl k own refill.after sought got.after_kinds) in it) in
      assumption (has, there, shown, address_is, gives.room ∙ ap class_size got.class_is, gives.heap ∙ ap (λ (e : Directory). e.heap) got.home)

  -- ---- the text
  abbrev v : World
  v = gives_first k name local (head.head ∷ head.more) (shown es w)

  text : fetches f k name heap class w ≡ v
  text =
      ap (λ (r : Result ℕ NoRoom). takes_page f k name heap class r w) (page_chosen is_search slots.page got.page got.choice
      (λ none. true≢false (sym (ap some_of head.is) ∙ is_search.fits_same.none slots.page got.page unguarded none)))
      ∙ (ap (λ (xs : List ℕ). gives_first k name local xs (readies k d slots.page w)) head.is
      ∙ ap (gives_first k name local (head.head ∷ head.more)) (page_ready slots.page head.head _ name new d sought _ gives_it got.events refl some fits_page))

  -- ---- the cache
  caches_shown : AreSameCaches f p.caches (shown es w).caches
  caches_shown = subst (AreSameCaches f p.caches) (sym (shown_rest es w).caches) has.same.caches

  locals_same : AreSameLocals new.locals (text_locals (shown es w) k local head.more)
  locals_same = last_same c.locals _ rest (record local { slots = head.more })
      (rw (all_left heap class c.locals has.none) at (others_same heap class c.locals _ (caches_shown.each k has.thread).locals)) slot.1

  abbrev own_cache : Cache
  own_cache = record (cache_of (shown es w) k) { locals = text_locals (shown es w) k local head.more }

  -- ---- what was used: the page
  cached_at : (j g : ℕ) (t : Bool) → (j == k) ≡ t → any_covers (if t then new else p.caches j).locals g ≡ true
      → (any_covers (p.caches j).locals g ≡ true) ⊎ ((slots.page == g / 256) ≡ true)
  cached_at j g t e h = grind (arith, or_cases, list_any-append, eqb-true, and_first, or-false)

  -- ---- a shared page is left before the block is given, and an exclusive one is kept
  knows : known_deed (part k q.list) slots.page ≡ deed_word_of d
  knows =
      search (arith, part_of_own, deeds_same, given_kinds, gains)

  -- the search kept the right of a shared page
  read_with_right : (t : Bool) → t ≡ true → took_in (kind_of_class t class) class slots.page sought slots.starts
      → Once (λ m before. has_right before slots.page ≡ true) sought
  read_with_right false never took = absurd (false≢true never)
  read_with_right true is took = once_right sought (took.read 0 (omega arith))
    where
      once_right : (xs : List Made) → Once (ShowsHere slots.page 0 took.readings) xs → Once (λ m before. has_right before slots.page ≡ true) xs
      once_right [] h = h
      once_right (m ∷ xs) (inl h) = inl h.1
      once_right (m ∷ xs) (inr h) = inr (once_right xs h)

  -- .. and that of an exclusive one, which isn't left
  right_then : (t : Bool) → slots.right ≡ t → has_right (sought ++ own) slots.page ≡ true
  right_then true right =
      let none : refill.after ≡ [] = subst (λ (t : Bool). LeavesWhere (not t) slots.page d refill.after) right got.leaves in
      cc (gains.does.right slots.page, eq-eqb slots.page slots.page refl)
  right_then false right = right_of_own slots.page sought own (right_kept slots.page sought marks (read_with_right shared (not-false shared (sym kept ∙ right)) got.took))

  -- ---- ALL
  fetched_same : IsSame f q v
  fetched_same = page_given slots.page head.head _ name new d sought _ gives_it got.events refl some fits_page _ given refill.after []
      got.leaves given_kinds tt (ap (λ (ms : List Made). given ++ ms) (sym (append-nil refill.after))) (right_then slots.right refl) knows refill.searches
      _ has.between marks has.filling.directory.kind
      (same_with f p.caches _ k new own_cache has.thread
      (omega (arith, has.listed, ap (λ (cs : List Cache). length cs) (shown_rest es w).caches)) caches_shown
      (let was = caches_shown.each k has.thread in record { locals = locals_same; log = was.log; noted = was.noted; idle_since = was.idle_since }))
      (λ j g h. cached_at j g (j == k) refl h)

  -- THE FETCH IS SERVED as the text says
  fetch_served : IsSame f (fetched_to p k name (given ++ ys) rest block) (fetches f k name heap class w)
  fetch_served = rw (steps_are, text) fetched_same

-- ==== A REQUEST OF A CLASS, whatever the thread's cache has: a cached slot is given, or place is made and slots are fetched, of which one is given, or the request is refused.
module _ (f : Profile) (k name heap size align class : ℕ) (p : Progress) (a : Answer) (w : World) (listed : k ≤ length w.caches)
    (admitted : IsAdmitted f size align heap) (route : route_in f size align ≡ Route.Class class)
    (asked : HasAsked f k (record { name = name; heap = heap; size = size; align = align }) p a w) where
  abbrev had : Cached
  had = p.caches k

  abbrev home : Directory
  home = class_home f heap class

  abbrev told : World
  told = serves f k name heap (route_in f size align) (room_in f size align) align w

  by_class : ServesClass (filling_in home class) f had a.cache a.steps asked.served.answer
  by_class = class_served_by f k name heap size align class p a w route asked

  -- ---- slots were fetched, and one of them is given
  module _ (block : Block) (is : asked.served.answer ≡ Ok block) (slots rest : Slots) (fewer : List Slots) (steps given : List Made)
      (steps_are : a.steps ≡ given ++ steps) (gives : GivesSlot slots rest block given) (cache : a.cache ≡ record had { locals = fewer ++ rest ∷ [] })
      (o : IsFetched f k heap class p w (Ok slots) fewer steps) where
    abbrev p1 : Progress
    p1 = up_to p k o.fetch.before fewer

    abbrev w1 : World
    w1 = with_place k heap class w

    abbrev names : List Named
    names = named name (Some block) ∷ p.names

    -- the cache of the replay then
    abbrev cache_then : Cached
    cache_then = record (p1.caches k) { locals = (p1.caches k).locals ++ rest ∷ [] }

    new_is : a.cache ≡ cache_then
    new_is = cache ∙ ap (λ (x : Cached). record x { locals = x.locals ++ rest ∷ [] }) (sym (same_own p.caches k (record had { locals = fewer })))

    -- What the answer leads to.
    to : after_answer p k a ≡ after_with p k (given ++ steps) None names cache_then
    to = answer_reached asked (Ok block) is ∙ cc (new_is)

    given_so : IsSame f (after_answer p k a) (serves_class f k name heap class w)
    given_so =
        rw (text_fetched f k heap class p w (Ok slots) fewer steps o name, to)
        (fetch_carried f k heap class p w (Ok slots) fewer steps o given None names cache_then (fetches f k name heap class w1)
        (fetch_served f k name heap class p1 w1 (place_fetched f k heap class p w (Ok slots) fewer steps o) slots rest block _ given o.fetch.refill gives
        (fetch_between f k heap class p w (Ok slots) fewer steps o given None names cache_then (subst (IsBetween f) to asked.after))))

  -- ---- a block was given
  from_slots : (block : Block) → asked.served.answer ≡ Ok block → (slots : Slots) (fewer : List Slots) (early given : List Made) → a.steps ≡ given ++ early
      → IsObtained (filling_in home class) f had.locals fewer early (Ok slots) → IsAnswered fewer a.cache.locals given (Ok slots) (Ok block)
      → IsSame f (after_answer p k a) told
  from_slots block is slots fewer early given steps_are (inl t) ends =
      cached_answered f k name heap size align class p a w listed route (t.0, t.2.cached, t.2.some) asked
  from_slots block is slots fewer early given steps_are (inr fetch) ends =
      subst (λ (r : Route). IsSame f (after_answer p k a) (serves f k name heap r (room_in f size align) align w)) (sym route)
      (given_so block is slots ends.0 fewer early given steps_are ends.1 (by_class.cache ∙ ap (λ (ss : List Slots). record had { locals = ss }) ends.2)
      (fetched_so f k name heap size align class p a w listed admitted route asked (Ok slots) fewer early given steps_are fetch))

  from_found : (block : Block) → asked.served.answer ≡ Ok block → (found : Result Slots NoRoom) (fewer : List Slots) (early given : List Made)
      → a.steps ≡ given ++ early → IsObtained (filling_in home class) f had.locals fewer early found → IsAnswered fewer a.cache.locals given found (Ok block)
      → IsSame f (after_answer p k a) told
  from_found block is (Ok slots) fewer early given steps_are how ends = from_slots block is slots fewer early given steps_are how ends
  from_found block is (Err why) fewer early given steps_are how ends = absurd ends

  -- Whether it was served or refused, the text does the same.
  answered : (answer : Result Block NoRoom) → asked.served.answer ≡ answer → IsSame f (after_answer p k a) told
  answered (Ok block) is =
      from_found block is by_class.locals.found by_class.locals.fewer _ by_class.locals.given by_class.locals.steps_are by_class.locals.obtained
      (subst (IsAnswered by_class.locals.fewer a.cache.locals by_class.locals.given by_class.locals.found) is by_class.locals.ends)
  answered (Err room) is = class_refused f k name heap size align class p a w listed admitted route asked room is

  -- A request of a class, served or refused, leads the told to the replay's state.
  pub class_answered : IsSame f (after_answer p k a) (serves f k name heap (route_in f size align) (room_in f size align) align w)
  class_answered = answered asked.served.answer refl
