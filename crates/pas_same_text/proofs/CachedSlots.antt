-- A REQUEST THAT IS ASKED in a replay: what it comes to by its route, and the replay after it.
use Rattle.std.proofs.Common.{arith, ◌≡◌, ℕ, ◌∷◌, Result, ◌≤◌, length, ◌+◌, ◌*◌, ◌<◌, ◌==◌, true, List, [], ◌++◌, None, Some, refl, ap, sym, ◌∙◌, subst}
use Rattle.std.proofs.Common.{eqb-true}
use Rattle.pas_same_text.proofs.Common.{IsValid, route_in, room_in, address_of, class_size, number_of, IsDirectoryOf, directory_for, Route, NoRoom, Block}
use Rattle.pas_same_text.proofs.Common.{Profile, Directory, Event, Word, part, made, ServesBy, wanted_for, ServesClass, IsObtained, filling_in, IsThread, Alloc}
use Rattle.pas_same_text.proofs.Common.{Request, Progress, Answer, named, having, IsServed, after_answer, said_of_request, block_of as block_answered, Named}
use Rattle.pas_same_text.proofs.Common.{World, Local, cache_of, locals_of, serves, IsAsked, address_on, is_free, is_offered, IsSame, HasSame, IsSameCache}
use Rattle.pas_same_text.proofs.Common.{IsSameLocal, has_number, IsBetween, IsTaken, false≢true, none-some, find, HasMember, IsLowestSet, gives_in, Made, Look}
use Rattle.pas_same_text.proofs.Common.{Give, eligible_bit, runs, Slots, GivesSlot, IsWithoutSlot, Cached, local_for, others_than, Record, is_for, others}
use Rattle.pas_same_text.proofs.{Common.{gives_first, serves_class, same_truth}, SmallActs.{after_with, asks, records_next}, FreeGrains.free_same}
use Rattle.pas_same_text.proofs.{GivenBack.each_same, Tests.{and_first, and_second}, CacheLists.{same_with, Finds, found_same, others_same, last_same}}
use Rattle.pas_same_text.{proofs.{CacheLists.slot_given, RestingPages.{is_open, had_open, bit_offered, offered_bit}}, specs.Acts.HasCachedSlot}
use Rattle.pas_cache.specs.Locals.{is_for as is_for_slots}

-- Thread k asks for r after p, where the text's state is w, and is answered by a. All actors are at rest before and after it.
pub record HasAsked (f : Profile) (k : ℕ) (r : Request) (p : Progress) (a : Answer) (w : World) : Type 0 where
  pub valid : IsValid f
  pub thread : IsThread f k
  pub before : IsBetween f p
  pub after : IsBetween f (after_answer p k a)
  pub same : IsSame f p w
  pub served : IsServed f k r (having p.names (part k p.list) (p.caches k)) a

module _ {f : Profile} {k : ℕ} {r : Request} {p : Progress} {a : Answer} {w : World} (asked : HasAsked f k r p a w) (answer : Result Block NoRoom)
    (is : asked.served.answer ≡ answer) where
  -- The cache answers it by its route.
  -- by the route and the answer that were given
  pub by_route : (route : Route) → route_in f r.size r.align ≡ route
      → ServesBy route f (wanted_for f r.heap r.size r.align) a.found (p.caches k) a.cache a.steps answer
  by_route route by = search arith

  -- The replay after it says what the answer says, and the name stands for what was given.
  -- by what is said and named for the answer
  pub answer_reached : after_answer p k a ≡ after_with p k a.steps (said_of_request r.name answer) (named r.name (block_answered answer) ∷ p.names) a.cache
  answer_reached = search arith

-- So much is known where all is.
pub has_asked : {f : Profile} {k : ℕ} {r : Request} {p : Progress} {a : Answer} {w : World} → IsAsked f k r p a w → HasAsked f k r p a w
has_asked asked = record { valid = asked.valid; thread = asked.thread; before = asked.before; after = asked.after; same = asked.same; served = asked.served }

-- An operation that asks for a block leads the text to the replay's state where its answer does.
-- the act's replay is the one after the answer
pub request_taken : (f : Profile) (line k name heap size align : ℕ) → IsThread f k → (p p' : Progress) (w : World)
    → (taken : IsTaken f (asks line k (Alloc name heap size align)) p p' w)
    → (HasAsked f k (record { name = name; heap = heap; size = size; align = align }) p taken.advances.0 w
    → IsSame f (after_answer p k taken.advances.0) (serves f k name heap (route_in f size align) (room_in f size align) align w))
    → IsSame f p' (serves f k name heap (route_in f size align) (room_in f size align) align w)
request_taken f line k name heap size align thread p p' w taken answers = search arith

-- ==== A request of a class for which the thread's cache has a slot.
-- ---- blocks by their parts
abbrev pub block_of : ℕ → ℕ → ℕ → ℕ → Block
block_of address turn room heap = record { name = record { address = record { 0 = address }; turn = turn }; room = room; heap = heap }

-- ---- the two steps
abbrev give_steps : Block → ℕ → ℕ → ℕ → ℕ → List Made
give_steps block answer page start word = made (Give block) answer ∷ made (Look (Word.Life page start)) word ∷ []

-- the replay after them
abbrev given_to : Progress → ℕ → ℕ → Block → ℕ → ℕ → ℕ → ℕ → Cached → Progress
given_to p k name block answer page start word c = after_with p k (give_steps block answer page start word) None (named name (Some block) ∷ p.names) c

-- ---- what is given of a local allocator of the text, whose lowest slot is n: the block and what is cached then
abbrev pub text_block : World → Local → ℕ → Block
text_block w l n = block_of (address_on l.page n) (gives_in w.events (address_on l.page n)) (class_size l.class) l.heap

abbrev pub text_locals : World → ℕ → Local → List ℕ → List Local
text_locals w k l more = others l.heap l.class (locals_of w k) ++ record l { slots = more } ∷ []

-- ---- one slot is given
pub record Given (f : Profile) (k name : ℕ) (p : Progress) (w : World) (s s' : Slots) (l : Local)
    (n : ℕ) (more : List ℕ) (block : Block) (answer page start word : ℕ) (c' : Cached) : Type 0 where
  valid : IsValid f
  thread : IsThread f k
  listed : k ≤ length w.caches
  same : IsSame f p w
  between : IsBetween f p
  after : IsBetween f (given_to p k name block answer page start word c')
  local : IsSameLocal s l
  slots : l.slots ≡ n ∷ more
  lowest : IsLowestSet s.starts 0 start
  without : IsWithoutSlot s s' start
  address : address_of block.name ≡ s.page * 4096 + start * 16
  room : block.room ≡ class_size s.class
  heap : block.heap ≡ s.heap
  cache : c' ≡ record (p.caches k) { locals = others_than s.heap s.class (p.caches k).locals ++ s' ∷ [] }

module _ (f : Profile) (k name : ℕ) (p : Progress) (w : World) (s s' : Slots) (l : Local) (n : ℕ) (more : List ℕ) (block : Block) (answer page start word : ℕ)
    (c' : Cached)
    (g : Given f k name p w s s' l n more block answer page start word c') where
  -- the lowest one goes
  given_slot : (n ≡ start) × IsSameLocal s' (record l { slots = more })
  given_slot = slot_given s s' l n start more g.local g.slots g.lowest g.without

  cache_same : IsSameCache c' (record (cache_of w k) { locals = text_locals w k l more })
  cache_same = search (arith, last_same, others_same, given_slot)

  -- ---- the block, whose turn the machine tells
  address_is : address_of block.name ≡ address_on l.page n
  address_is = search (arith, given_slot)

  block_is : block ≡ text_block w l n
  block_is = search (arith, address_is, (runs f (given_to p k name block answer page start word c').list g.valid g.after.legal))

  abbrev to : World
  to = gives_first k name l (n ∷ more) w

  -- the block is one more, and the cache has one slot less, on both sides
  has_same : HasSame f (given_to p k name block answer page start word c') to
  has_same = search (arith, block_is, same_with, cache_same)

  free_kept : (q b : ℕ) → b < 256 → is_free to q b ≡ is_free w q b
  free_kept q b small =
      free_same f (given_to p k name block answer page start word c') to g.valid g.after has_same q b small
      ∙ sym (free_same f p w g.valid g.between
      (record { events = g.same.pages.events; live = g.same.pages.live; caches = g.same.caches; guards = g.same.guards }) q b small)

  offered_kept : (q : ℕ) (d : Directory) → IsDirectoryOf f d
      → is_offered to d q ≡ eligible_bit (given_to p k name block answer page start word c').list (number_of d) q
  offered_kept q d of = same_truth _ _
      (offered_bit f (given_to p k name block answer page start word c') to g.valid g.after has_same q d of)
      (λ h. bit_offered f _ to g.valid g.after has_same q d of h
      ((let it : is_open to d q ≡ is_open w d q = search (arith, free_kept, each_same) in it) ∙ had_open w d q (g.same.pages.offered q d of ∙ h)))

  given_same : IsSame f (given_to p k name block answer page start word c') to
  given_same =
      let names = ap (λ (b : Block). named name (Some b) ∷ w.names) (sym block_is) ∙ ap (λ (ns : List Named). named name (Some block) ∷ ns) g.same.names in
      let records = ap (λ (b : Block). p.records ++ Record.Event (Event.Give k b) ∷ []) block_is
      ∙ records_next p.records w.records (Record.Event (Event.Give k (text_block w l n))) g.same.records in
      assumption (has_same, g.same.pages.hinted, offered_kept, names, records, g.same)

-- ---- the request
-- a list with a number has a first one
pub record HasHead (xs : List ℕ) : Type 0 where
  pub head : ℕ
  pub more : List ℕ
  pub is : xs ≡ head ∷ more

-- A list that has a number has a first one.
pub head_of : (xs : List ℕ) (x : ℕ) → has_number xs x ≡ true → HasHead xs
head_of [] x h = absurd (false≢true h)
head_of (n ∷ more) x h = record { head = n; more = more; is = refl }

-- The local allocator that is found for a heap and class passes the test for them.
pub found_passes : (heap class : ℕ) (slots : List Slots) (s : Slots) → local_for heap class slots ≡ Some s → is_for_slots heap class s ≡ true
found_passes heap class [] s is = absurd (none-some s is)
found_passes heap class (x ∷ slots) s is = let ih = found_passes heap class slots s in grind (arith, ih)

-- what the text does where it finds a local allocator with a slot
served_text : (f : Profile) (k name heap class : ℕ) (w : World) (l : Local) (n : ℕ) (more : List ℕ) → find (is_for heap class) (locals_of w k) ≡ Some l
    → l.slots ≡ n ∷ more
    → serves_class f k name heap class w ≡ gives_first k name l (n ∷ more) w
served_text f k name heap class w l n more is slots = cc

-- the two steps and what they answer, where a cached slot is given
pub record Served (f : Profile) (k name heap class : ℕ) (p p' : Progress) (w : World) (s : Slots) : Type 0 where
  block : Block
  rest : Slots
  steps : List Made
  gives : GivesSlot s rest block steps
  cache : Cached
  cache_is : cache ≡ record (p.caches k) { locals = others_than heap class (p.caches k).locals ++ rest ∷ [] }
  after : p' ≡ after_with p k steps None (named name (Some block) ∷ p.names) cache

to_given : (f : Profile) (k name heap class : ℕ) (p p' : Progress) (w : World) (s : Slots) → IsValid f → IsThread f k → k ≤ length w.caches → IsBetween f p
    → IsBetween f p' → IsSame f p w → local_for heap class (p.caches k).locals ≡ Some s → HasMember s.starts
    → Served f k name heap class p p' w s → IsSame f p' (serves_class f k name heap class w)
to_given f k name heap class p p' w s valid is listed between after same there member o =
    let found : Finds s (find (is_for heap class) (locals_of w k)) = found_same heap class _ _ s (same.caches.each k is).locals there in
    let l : Local = found.local in
    let h : HasHead l.slots = head_of l.slots member.0 (found.same.slots member.0 ∙ member.2) in
    let passes : is_for_slots heap class s ≡ true = found_passes heap class (p.caches k).locals s there in
    let of_heap : s.heap ≡ heap = eqb-true s.heap heap (and_first (s.heap == heap) (s.class == class) passes) in
    let of_class : s.class ≡ class = eqb-true s.class class (and_second (s.heap == heap) (s.class == class) passes) in
    let g = o.gives in
    let reached : p' ≡ given_to p k name o.block g.answer s.page g.start g.word o.cache =
    o.after ∙ ap (λ (ms : List Made). after_with p k ms None (named name (Some o.block) ∷ p.names) o.cache) g.steps_are in
    let kept : o.cache ≡ record (p.caches k) { locals = others_than s.heap s.class (p.caches k).locals ++ o.rest ∷ [] } = cc in
    let given : Given f k name p w s o.rest l h.head h.more o.block g.answer s.page g.start g.word o.cache = assumption (subst (IsBetween f) reached after) in
    rw (served_text f k name heap class w l h.head h.more found.is h.is, reached)
    (given_same f k name p w s o.rest l h.head h.more o.block g.answer s.page g.start g.word o.cache given)

-- ---- the act
module _ (f : Profile) (k name heap size align class : ℕ) (p p' : Progress) (w : World) (s : Slots) (there : local_for heap class (p.caches k).locals ≡ Some s)
    (member : HasMember s.starts)
    (a : Answer) (served : IsServed f k (record { name = name; heap = heap; size = size; align = align }) (having p.names (part k p.list) (p.caches k)) a)
    (reached : p' ≡ after_answer p k a) where
  -- a cache that has a slot is served from it: the other ends say that it has none
  served_by : (sv : ServesClass (filling_in (directory_for f heap size align) class) f (p.caches k) a.cache a.steps served.answer)
      → IsObtained (filling_in (directory_for f heap size align) class) f (p.caches k).locals sv.locals.fewer sv.locals.before sv.locals.found
      → Served f k name heap class p p' w s
  served_by sv h = search arith

-- ANY REQUEST OF A CLASS for which a slot is cached
pub cached_answered : (f : Profile) (k name heap size align class : ℕ) (p : Progress) (a : Answer) (w : World) → k ≤ length w.caches
    → route_in f size align ≡ Route.Class class → HasCachedSlot heap class k p
    → HasAsked f k (record { name = name; heap = heap; size = size; align = align }) p a w
    → IsSame f (after_answer p k a) (serves f k name heap (route_in f size align) (room_in f size align) align w)
cached_answered f k name heap size align class p a w listed route has asked =
    let sv : ServesClass (filling_in (directory_for f heap size align) class) f (p.caches k) a.cache a.steps asked.served.answer =
    by_route asked asked.served.answer refl (Route.Class class) route in
    let o : Served f k name heap class p (after_answer p k a) w has.0 =
    served_by f k name heap size align class p _ w has.0 has.1 has.2 a asked.served refl sv sv.locals.obtained in
    rw route (to_given f k name heap class p _ w has.0 asked.valid asked.thread listed asked.before asked.after asked.same has.1 has.2 o)
