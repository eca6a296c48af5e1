-- By which route a request goes, and what requests for bit-fit pages and for whole pages do.
use Rattle.std.proofs.Common.{◌≡◌, ℕ, ◌<◌, ◌≤◌, if◌then◌else◌, Option, None, sym, subst, arith, ◌+◌, ◌-◌, ◌*◌, ◌/◌, ◌%◌, ◌==◌, Bool, true, false, List, []}
use Rattle.std.proofs.Common.{◌++◌, length, Ok, Err, Result, refl, ap, ◌∙◌, length-append, ◌||◌, ◌∷◌, ◌⊎◌, inl, inr, append_assoc, true≢false, le-leb, eqb-true}
use Rattle.std.proofs.{Common.{All, MatchResult, min}, lemmas.{Bool.{cases_Bool, and_parts, false_from_ne_true}, List.Elements.{All-head, All-tail}}}
use Rattle.std.{proofs.Math.Nat.{le-max_right, zero-mod}, specs.List.AllByRecursion}
use Rattle.pas_profile.specs.{Classes.IsAlignment, Profiles.IsPage, Blocks.{address_of, grain_of, length_of}, Routes.{route_of, room_of, IsRouteOf}}
use Rattle.pas_profile.specs.declared.{directory.{Route.Route, Directory.Directory, Kind.Kind}, event.{NoRoom.NoRoom, Event.Event}, name.Block.Block}
use Rattle.pas_profile.{specs.{declared.profile.Profile.Profile, Requests.{is_shared, kind_of_class, kind_of_route, route_in, room_in}}, proofs.Sizes.large_for}
use Rattle.pas_profile.proofs.{Sizes.{bitfit_suits, route_is}, Codecs.deed_word_of-positive, Lists.{all_both, all_map}}
use Rattle.pas_cache.specs.Serves.{IsSmallRoute, Wanted, wanted_for, IsBlockFor, IsFew, IsSilent, IsToldBy, IsPreparing, IsDeedOf, MakesDeedsOf}
use Rattle.pas_cache.specs.{Caches.{Cached, AtRest}, Kinds.allocating, Locals.{any_keeps, IsLocal, RestsWith}, Calls.{MayAllocate, Allocates as Serves}}
use Rattle.pas_cache.specs.Calls.{MayAllocatePages, AllocatesPages, most_events, IsNamed, MayRequestBy, MayRequest, AllocatesBy, AllocatesRequest}
use Rattle.pas_cache.proofs.{Obtained.{chosen_few, silent_few, prepared, no_right_of}, Resting.{locals_after, rests_by, rests_kept}}
use Rattle.pas_bits.{specs.Runs.in_run, proofs.Runs.run_of}
use Rattle.pas_steps.specs.{Agreement.Agreed, Calls.{Kept, Lost, now}, Events.events_by, Views.{View, KnowsDeed, known_deed}, Lists.Whole, Desks.Standing}
use Rattle.pas_steps.specs.{Desks.CanCall, Unknown.unknown_pages, Kinds.{returning, Only, Backing, looking, kind_of, is_in}, declared.step.Made.Made}
use Rattle.pas_steps.{specs.declared.step.Step.{Step, TheVariants.Deed}, proofs.Adding.{agreed_later, adds_under, agreed_first, adds_none, can_call}}
use Rattle.pas_steps.proofs.{Apart.{only_both, only_within, events_same}, Calls.returns_are, Frames.events_append, Past.always_pair, Unknown.unknown_no_more}
use Rattle.pas_steps.proofs.Events.{ComesOf, comes_of, each_event}
use Rattle.pas_search.{proofs.ForBackEnds.events_quiet, specs.{Kinds.searching, Telling.IsTold, Allocates.GaveBlock, Searches.{MaySearch, IsRefused}}}
use Rattle.pas_search.specs.Searches.{SearchRoom}
use Rattle.pas_segregated.specs.{declared.slots.Slots.Slots, Stops.home_of}
use Rattle.pas_bitfit.{specs.{Allocates.{bitfit_directory, run_for, IsAllocated, Allocates}, Runs.NoneFits}, proofs.Aligned.stands_aligned}
use Rattle.pas_rights.{specs.Gives.give_steps, proofs.{Gives.covers, Orders.leave_returns}}
use Rattle.pas_large.specs.{Allocates.{GaveLarge, IsServedNamed, IsScanned, AllocatesLarge}, Claims.in_span, Finds.{MayFind, FindRoom, finding}}
use Rattle.pas_large.{specs.{Pages.OnlyDeedsShow, Named.missed_steps}, proofs.{Finds.{MadeOf, IsGivenRun, IsRefusedRun, HasEnded, ended}, Claims.in_parts}}
use Rattle.pas_large.proofs.{Gives.{run_is, back_events}, Allocates.scans_only}
use Rattle.pas_scan.specs.Runs.{large_directory}

-- ==== The route, by the size, in a region of so many classes.

-- A request of at most 2,048 bytes goes by a class or is bit-fit.
pub is_small : (classes size align : ℕ) → size ≤ 2048 → IsSmallRoute (route_of classes size align)
is_small classes size align le = grind (arith, le-leb)

-- of more
pub is_large : (classes size align : ℕ) → 2048 < size → route_of classes size align ≡ Route.Large
is_large classes size align more = sym (large_for classes size align more)

-- A request for whole pages is of more than 2,048 bytes.
pub large_size : (classes size align : ℕ) → route_of classes size align ≡ Route.Large → 2048 < size
large_size classes size align e = (subst (IsRouteOf classes size align) e (route_is classes size align)).0

-- ==== A request goes by its route.
-- Both facts are at the way, which is the route.
pub goes : {σ σ' : Standing} {Answers : Option ℕ → Type 0} {Same : Type 0} {wanted : Wanted} {tells : Bool} {c c' : Cached} {answer : Result Block NoRoom}
    (way : Route) (found : Option ℕ)
    → wanted.route ≡ way → IsNamed way Answers Same found
    → AllocatesBy way wanted found tells c c' σ σ' answer → AllocatesRequest Answers Same wanted tells c c' σ σ' answer
goes {σ} {σ'} {Answers} {Same} {wanted} {tells} {c} {c'} {answer} way found route named it = search arith

-- A request that may be made may be made by its route.
pub may_go : {σ : Standing} (c : Cached) (heap size align spare : ℕ) (way : Route) → route_in σ.seat.profile size align ≡ way
    → CanCall σ (MayRequest σ.seat.profile (wanted_for σ.seat.profile heap size align) c spare)
    → CanCall σ (MayRequestBy way σ.seat.profile c (room_in σ.seat.profile size align / 4096) spare)
may_go {σ} c heap size align spare way route can = subst (λ (r : Route). CanCall σ (MayRequestBy r σ.seat.profile c (room_in σ.seat.profile size align / 4096) spare)) route can

-- where it is small
pub small_may : {f : Profile} {c : Cached} {spare : ℕ} {v : View} (n : ℕ) (route : Route) → IsSmallRoute route → MayAllocate f c spare v
    → MayRequestBy route f c n spare v
small_may n route small may = grind arith

-- A request that goes by a class or is bit-fit is served as any small one.
pub small_did : {σ σ' : Standing} {tells : Bool} {c c' : Cached} {answer : Result Block NoRoom} (wanted : Wanted) (found : Option ℕ) (route : Route)
    → IsSmallRoute route → AllocatesBy route wanted found tells c c' σ σ' answer → Serves wanted tells c c' σ σ' answer
small_did wanted found route small it = grind arith

-- no run was named where the door names none for whole pages
pub none_named : (Answers : Option ℕ → Type 0) (Same : Type 0) {found : Option ℕ} (route : Route) → (route ≡ Route.Large → Answers found → found ≡ None)
    → IsNamed route Answers Same found → found ≡ None
none_named Answers Same route by named = grind arith

-- where it is for whole pages, so many
pub pages_asked : (f : Profile) (size align : ℕ) → route_in f size align ≡ Route.Large → room_in f size align / 4096 ≡ (size + 4096 - 1) / 4096
pages_asked f size align route = search (arith, large_size)

-- ==== A bit-fit request: the actor is at rest with the cache as it was.

-- ---- no local allocator has a right of a bit-fit page
-- No kind of a class is the bit-fit one.
pub not_bitfit : (shared : Bool) (class : ℕ) → kind_of_class shared class ≡ Kind.Bitfit → ⊥
not_bitfit shared class same = grind arith

-- A cache at rest may search the bit-fit pages of each heap.
pub may_search_bitfit : (f : Profile) (v : View) (heap : ℕ) (locals : List Slots) → RestsWith f locals v → MaySearch (bitfit_directory heap) v
may_search_bitfit f v heap locals rest = record { rights = λ p of. rest.rights p ∙ no_right_of f v _ tt not_bitfit locals rest.known p of; clear = rest.clear }

-- What isn't kept is lost without a change.
lost_none : (t kept : Bool) → (t ≡ true → kept ≡ false) → now (if t then Lost else Kept) kept ≡ kept
lost_none t kept none = grind arith

-- ---- what is wanted: bit-fit pages of a heap
abbrev pub bitfit_request : ℕ → ℕ → ℕ → Wanted
bitfit_request heap room align = record { directory = bitfit_directory heap; route = Route.Bitfit; room = room; align = align }

-- ---- a block is given, or the request is refused
abbrev pub BitfitEnds : Profile → ℕ → ℕ → ℕ → List Made → List Made → Result Block NoRoom → Type 0
BitfitEnds f heap room align searched after answer = MatchResult answer (IsAllocated f (bitfit_directory heap) room align searched after)
    (λ why. IsRefused (NoneFits (run_for room align)) f (bitfit_directory heap) searched why × (after ≡ []))

module _ (f : Profile) (heap room align : ℕ) (locals : List Slots) (searched after : List Made) where
  abbrev bitfit_steps : List Made
  bitfit_steps = after ++ searched

  bitfit_gave : (block : Block) → (both : IsAllocated f (bitfit_directory heap) room align searched after block) → (v : View) → RestsWith f locals v
      → Agreed f v bitfit_steps → GaveBlock both.0.page (bitfit_directory heap) block v (bitfit_steps ++ v)
  bitfit_gave block both v h agreed = both.0.gave.from v (may_search_bitfit f v heap locals h) agreed

  -- the steps of a refusal are those of the search
  refused : after ≡ [] → searched ≡ bitfit_steps
  refused none = ap (λ xs. xs ++ searched) (sym none)

  -- A bit-fit request leaves its actor at rest with the same local allocators.
  pub bitfit_rests : (answer : Result Block NoRoom) → BitfitEnds f heap room align searched after answer → (v : View) → RestsWith f locals v
      → Agreed f v bitfit_steps → RestsWith f locals (bitfit_steps ++ v)
  bitfit_rests (Ok block) both v h agreed =
      let page = both.0.page in
      let g = bitfit_gave block both v h agreed in
      let known : All (IsLocal f (bitfit_steps ++ v)) locals = locals_after f _ bitfit_steps v _ g.does agreed (λ x here. (h.grains x ∙ here, refl)) h.known in
      rests_by f _ bitfit_steps v locals locals g.does (λ x. refl)
      (λ q. lost_none _ _ (λ at. no_right_of f _ _ tt not_bitfit _ known q (subst (λ p. KnowsDeed p (bitfit_directory heap) (bitfit_steps ++ v)) (eqb-true _ q at) g.deed)))
      (λ q. refl) h known h.apart
  bitfit_rests (Err why) h v rest agreed = subst (λ xs. Agreed f v xs → RestsWith f locals (xs ++ v)) (refused h.1)
      (λ ok. rests_kept f _ searched v (h.0.still.from v (may_search_bitfit f v _ locals rest) ok) ok rest) agreed

  bitfit_few : (answer : Result Block NoRoom) → BitfitEnds f heap room align searched after answer → (k : ℕ) (v : View) → RestsWith f locals v
      → Agreed f v bitfit_steps → IsFew f 2 k bitfit_steps v
  bitfit_few (Ok block) both k v h agreed = let is = both.0 in chosen_few _ f _ is.page searched bitfit_steps is.served.page is.served.choice is.served.few k v
      (agreed_later f v after searched agreed) agreed (bitfit_gave _ both v h agreed).deed 1 (let more = ap length (is.events k v) in omega (arith, more))
  bitfit_few (Err why) h k v rest agreed =
      subst (λ xs. Agreed f v xs → IsFew f 2 k xs v) (refused h.1) (λ ok. let few = silent_few f k searched v h.0.quiet ok in record { paid = omega (arith, few.paid); most = omega (arith, few.most) }) agreed

  bitfit_kinds : (answer : Result Block NoRoom) → BitfitEnds f heap room align searched after answer → Only searching searched → Only allocating bitfit_steps
  bitfit_kinds (Ok block) both only = let is = both.0 in
      only_both allocating after searched
      (subst (Only allocating) (sym is.after_is) (only_both allocating is.left _
      (only_within returning allocating is.left refl (returns_are is.page is.left (leave_returns is.page _ is.left is.leaves))) (refl, (refl, tt))))
      (only_within searching allocating searched refl only)
  bitfit_kinds (Err why) h only = subst (Only allocating) (refused h.1) (only_within searching allocating searched refl only)

  bitfit_ends : {Meets : View → Type 0} → ((v : View) → Meets v → RestsWith f locals v) → (answer : Result Block NoRoom)
      → BitfitEnds f heap room align searched after answer
      → MatchResult answer (IsBlockFor f (bitfit_request heap room align) Meets bitfit_steps) (λ why. IsSilent bitfit_steps)
  bitfit_ends rests (Ok block) both = let is = both.0 in record {
    of_heap = ap (λ (b : Block). b.heap) is.block_is;
    room = both.1.room_is;
    placed = rw is.block_is (omega (arith, is.served.serves.chosen.this.within, ap (λ (b : Block). b.room) is.block_is, both.1.room_is));
    aligned = both.1.aligned;
    of_region = λ g inside. subst (IsPage f) (sym (search (arith, run_of, covers))) is.served.page;
    turn = record { from = λ v met agreed. (bitfit_gave block both v (rests v met) agreed).turn };
    deeds = record { from = λ v met agreed g inside. subst (λ p. KnowsDeed p (bitfit_directory heap) (bitfit_steps ++ v)) (sym (search (arith, run_of, covers))) (bitfit_gave _ both v (rests v met) agreed).deed };
    events = λ k v. (events_by k v searched, is.events k v, prepared _ is.page searched is.served.events k v);
  }
  bitfit_ends rests (Err why) h = subst IsSilent (refused h.1) (λ k v. events_quiet k v searched h.0.quiet)

-- ---- how many steps there are at most
-- ---- what it says of the whole state
bitfit_told : (f : Profile) (heap room align : ℕ) (locals : List Slots) (entry exit : Whole) (answer : Result Block NoRoom)
    → IsTold (λ (b : Block). address_of b.name / 4096) (NoneFits (run_for room align)) f (bitfit_directory heap) entry exit answer
    → IsToldBy f (bitfit_request heap room align) locals entry exit answer
bitfit_told f heap room align locals entry exit answer told = grind arith

-- ---- of a cache
-- A cache that may allocate has room for the search of a bit-fit request.
pub bitfit_call : {σ : Standing} {c : Cached} {spare : ℕ} (heap : ℕ) → CanCall σ (MayAllocate σ.seat.profile c spare)
    → CanCall σ (SearchRoom σ.seat.profile (bitfit_directory heap) 2 spare)
bitfit_call {σ} {c} heap can = can_call adds_none can (λ v l stood met. record { may = may_search_bitfit _ v heap c.locals met.rest.locals; room = met.room })

-- What a bit-fit request wants is the bit-fit directory of its heap, and its room and alignment.
pub bitfit_wanted : (f : Profile) (heap size align : ℕ) → route_in f size align ≡ Route.Bitfit
    → bitfit_request heap (room_in f size align) align ≡ wanted_for f heap size align
bitfit_wanted f heap size align route = ap (λ r. record { directory = record { heap = heap; kind = kind_of_route (is_shared f heap) r }; route = r; room = room_in f size align; align = align }) (sym route)

-- A bit-fit block that was allocated, or refused, serves the request, and leaves the cache as it is.
pub bitfit_allocates : {σ σ' : Standing} (size align heap : ℕ) (tells : Bool) (c : Cached) (answer : Result Block NoRoom)
    → route_in σ.seat.profile size align ≡ Route.Bitfit → Allocates heap (room_in σ.seat.profile size align) align tells σ σ' answer
    → Serves (wanted_for σ.seat.profile heap size align) tells c c σ σ' answer
bitfit_allocates {σ} {σ'} size align heap tells c answer route both =
    let f : Profile = σ.seat.profile in
    let room : ℕ = room_in f size align in let a = both.0 in
    let outcome : BitfitEnds f heap room align a.searched a.after answer = grind arith in
    subst (λ (w : Wanted). Serves w tells c c σ σ' answer) (bitfit_wanted f heap size align route) (record {
      steps = a.after ++ a.searched;
      calls = record {
        adds = adds_under a.adds (λ v l stood met. may_search_bitfit f v heap c.locals met.locals);
        leads = record { from = λ v met agreed. record { locals = bitfit_rests f _ room _ c.locals a.searched a.after _ outcome v met.locals agreed; few = met.few; entries = met.entries; few_entries = met.few_entries } };
      };
      change = record { cache = refl; searched = a.searched; searches = a.searches; after = a.after; outcome = outcome; steps_are = refl };
      kinds = bitfit_kinds f heap room align c.locals a.searched a.after answer outcome a.searches.kinds;
      short = grind (arith, length-append);
      two = λ none. absurd none;
      few = λ k v met agreed. bitfit_few f heap room align c.locals a.searched a.after answer outcome k v met.locals agreed;
      outcome = bitfit_ends f heap room align c.locals a.searched a.after {Meets = AtRest f c} (λ v met. met.locals) answer outcome;
      told = λ t v l stood met. bitfit_told f heap room align c.locals l _ answer (a.told t v l stood (may_search_bitfit f v heap c.locals met.locals));
    })

-- ---- its room
pub bitfit_room : (classes size align : ℕ) → route_of classes size align ≡ Route.Bitfit
    → (16 ≤ room_of classes size align) × (room_of classes size align ≤ 2048) × (room_of classes size align % 16 ≡ 0)
bitfit_room classes size align route =
    search (arith, bitfit_suits, le-max_right)

-- ==== A request for whole pages: the actor is at rest with the cache as it was.

-- ---- no local allocator has a right of a large page, nor of a page whose deed isn't known
not_large : (shared : Bool) (class : ℕ) → kind_of_class shared class ≡ Kind.Large → ⊥
not_large shared class same = grind arith

known_of_local : (f : Profile) (v : View) (p : ℕ) (locals : List Slots) → All (IsLocal f v) locals → any_keeps locals p ≡ true → known_deed v p ≡ 0 → ⊥
known_of_local f v p [] all keeps none = true≢false (sym keeps)
known_of_local f v p (first ∷ rest) all keeps none = elim (cases_Bool _) [
  | inl here ↦
      let at : IsLocal f v first = All-head (IsLocal f v) first rest all in
      let both = and_parts first.right (first.page == p) here in
      deed_word_of-positive (home_of first) (sym at.deed ∙ (ap (known_deed v) (eqb-true first.page p both.1) ∙ none))
  | inr other ↦ known_of_local f v p rest (All-tail (IsLocal f v) first rest all) (ap (λ t. t || any_keeps rest p) (sym other) ∙ keeps) none
]

-- A cache at rest may look for a run of whole pages in each heap.
pub may_find : (f : Profile) (v : View) (heap : ℕ) (locals : List Slots) → RestsWith f locals v → MayFind (large_directory heap) v
may_find f v heap locals h = record {
  lacks = λ p of. h.rights p ∙ elim of [
    | inl none ↦ false_from_ne_true (any_keeps locals p) (λ keeps. known_of_local f v p locals h.known keeps none)
    | inr knows ↦ no_right_of f v _ tt not_large locals h.known p knows
  ];
  clear = h.clear;
}

-- ---- which events
deed_made : (d : Directory) (k : ℕ) (s : Step) (a : ℕ) (e : Event) → is_in finding (kind_of s) ≡ true → ((p : ℕ) (x : Directory) → s ≡ Deed p x → a ≡ 0 → x ≡ d)
    → ComesOf k s a e → IsDeedOf d e
deed_made d k s a (Event.Deed j p x) is made comes = subst (λ y. IsDeedOf d (Event.Deed j p y)) (sym (made p x comes.step.0 comes.step.1)) (IsDeedOf.Deeds j p)
deed_made d k s a e is made comes = absurd (true≢false (sym is ∙ ap (is_in finding) comes.kind))

deeds_only : (d : Directory) (steps : List Made) → Only finding steps → MadeOf d steps → (k : ℕ) (v : View) → AllByRecursion (IsDeedOf d) (events_by k v steps)
deeds_only d steps kinds deeds k v = each_event _ (λ m before. (is_in finding (kind_of m.step) ≡ true) × ((p : ℕ) (x : Directory) → m.step ≡ Deed p x → m.answer ≡ 0 → x ≡ d)) k v
    (λ m before epoch e h is. deed_made d k _ _ e h.0 h.1 (comes_of k epoch _ _ e is)) steps
    (always_pair (λ m before. is_in finding (kind_of m.step) ≡ true) (λ m before. (p : ℕ) (x : Directory) → m.step ≡ Deed p x → m.answer ≡ 0 → x ≡ d) _ kinds deeds)

pub back_made : (d : Directory) (k : ℕ) (s : Step) (a : ℕ) (e : Event) → is_in (Backing ∷ []) (kind_of s) ≡ true → ComesOf k s a e → IsPreparing d e
back_made d k s a (Event.Back j p) is comes = IsPreparing.Backs j p
back_made d k s a e is comes = absurd (true≢false (sym is ∙ ap (is_in (Backing ∷ [])) comes.kind))

-- The events of steps that only back pages prepare a block.
pub backs_only : (d : Directory) (steps : List Made) → Only (Backing ∷ []) steps → (k : ℕ) (v : View) → AllByRecursion (IsPreparing d) (events_by k v steps)
backs_only d steps kinds k v = each_event _ (λ m before. is_in (Backing ∷ []) (kind_of m.step) ≡ true) k v (λ m before epoch e h is. back_made d k _ _ e h (comes_of k _ _ _ e is)) _ kinds

-- So does a deed of the directory.
pub deed_prepares : (d : Directory) (e : Event) → IsDeedOf d e → IsPreparing d e
deed_prepares d e (IsDeedOf.Deeds k page) = IsPreparing.Deeds k page

-- ---- a block is given
module _ (f : Profile) (heap n : ℕ) (searched after : List Made) (block : Block) (is : IsGivenRun f (large_directory heap) n searched after block) where
  abbrev pages : ℕ → Bool
  pages = in_span is.first (is.first + n)

  -- After the call the actor gave the block of the run, and nothing else.
  gave : (locals : List Slots) (v : View) → RestsWith f locals v → Agreed f v (after ++ searched)
      → GaveLarge (large_directory heap) is.first n block v ((after ++ searched) ++ v)
  gave locals v h agreed = is.gave.from v (may_find f v heap locals h) agreed

  events_are : (k : ℕ) (v : View) → events_by k v (after ++ searched) ≡ Event.Give k block ∷ (events_by k (searched ++ v) is.backs ++ events_by k v searched)
  events_are k v =
      let gs = give_steps is.first 0 block is.word is.answer in
      ap (λ xs. events_by k v (xs ++ searched)) is.after_is ∙ ap (events_by k v) (append_assoc is.left _ searched)
      ∙ events_same returning refl k v is.left _ is.left_kinds ∙ ap (λ es. Event.Give k block ∷ es) (events_append k is.backs searched v)

  on_pages : (g : ℕ) → in_run (grain_of block.name) (length_of block) g ≡ true → pages (g / 256) ≡ true
  on_pages g inside = sym (ap (λ (b : Block). in_run (grain_of b.name) (length_of b) g) is.block_is ∙ run_is (large_directory heap) is.first n is.word g) ∙ inside

  of_region : (p : ℕ) → pages p ≡ true → IsPage f p
  of_region p here = let at = in_parts is.first (is.first + n) p here in (omega (arith, at.0, is.of_region.0), omega (arith, at.1, is.of_region.1))

-- ---- the call
abbrev pub Ends : Profile → ℕ → ℕ → List Made → List Made → Result Block NoRoom → Type 0
Ends f heap n searched after answer = MatchResult answer (IsGivenRun f (large_directory heap) n searched after) (λ why. IsRefusedRun f (large_directory heap) searched after)

module _ (f : Profile) (heap n : ℕ) (searched after : List Made) where
  -- After the call the actor rests with the same local allocators.
  rests : (locals : List Slots) (answer : Result Block NoRoom) → Ends f heap n searched after answer → (v : View) → RestsWith f locals v
      → Agreed f v (after ++ searched) → RestsWith f locals ((after ++ searched) ++ v)
  rests locals (Ok block) is v h agreed = rests_kept f locals (after ++ searched) v (is.gave.from v (may_find f v heap locals h) agreed).does agreed h
  rests locals (Err why) is v h agreed = rests_kept f locals (after ++ searched) v (is.still.from v (may_find f v heap locals h) agreed) agreed h

  -- a refusal makes no event after its search
  silent : IsRefusedRun f (large_directory heap) searched after → (k : ℕ) (v : View) → events_by k v (after ++ searched) ≡ events_by k v searched
  silent is k v = events_same looking refl k v after searched (scans_only after is.scans)

  few_by : OnlyDeedsShow f searched → (k most : ℕ) (v : View) → Agreed f v (after ++ searched)
      → length (events_by k v (after ++ searched)) ≤ most + length (events_by k v searched)
      → length (events_by k v (after ++ searched)) + unknown_pages f ((after ++ searched) ++ v) ≤ most + unknown_pages f v
  few_by shows k most v agreed all = search (arith, agreed_later, unknown_no_more, agreed_first, append_assoc)

  -- The events of the call are few, and fewer where deeds were known.
  few : (answer : Result Block NoRoom) → Ends f heap n searched after answer → OnlyDeedsShow f searched → (k : ℕ) (v : View) → Agreed f v (after ++ searched)
      → length (events_by k v (after ++ searched)) + unknown_pages f ((after ++ searched) ++ v) ≤ most_events n answer + unknown_pages f v
  few (Ok block) is shows k v agreed = few_by shows k (n + 1) v agreed
      (let all = ap length (events_are f heap n _ after block is k v) in let both = length-append (events_by k (searched ++ v) is.backs)
      (events_by k v searched) in let backs = back_events k (searched ++ v) is.backs in omega (arith, all, both, backs, is.back_few))
  few (Err why) is shows k v agreed = few_by shows k 0 v agreed (let all = ap length (silent is k v) in omega (arith, all))

  -- The call makes steps of an allocation alone.
  kinds : (answer : Result Block NoRoom) → Ends f heap n searched after answer → Only finding searched → Only allocating (after ++ searched)
  kinds (Ok block) is only = only_both allocating after searched (subst (Only allocating) (sym is.after_is) (only_both allocating is.left _
      (only_within returning allocating is.left refl is.left_kinds) (refl, (refl, only_within (Backing ∷ []) allocating is.backs refl is.back_kinds))))
      (only_within finding allocating searched refl only)
  kinds (Err why) is only = only_both allocating after searched (only_within looking allocating after refl (scans_only after is.scans)) (only_within finding allocating searched refl only)

  -- The call ends as a request for whole pages does.
  ends : {Meets : View → Type 0} (align : ℕ) (locals : List Slots) → IsAlignment align → Only finding searched → ((v : View) → Meets v → RestsWith f locals v)
      → (answer : Result Block NoRoom) → Ends f heap n searched after answer
      → MatchResult answer
      (IsBlockFor f (record { directory = large_directory heap; route = Route.Large; room = n * 4096; align = align }) Meets (after ++ searched))
      (λ why. MakesDeedsOf (large_directory heap) (after ++ searched))
  ends align locals alignment only rests (Ok block) is = record {
    of_heap = ap (λ (b : Block). b.heap) is.block_is;
    room = ap (λ (b : Block). b.room) is.block_is;
    placed = ap (λ (b : Block). address_of b.name % 4096) is.block_is ∙ omega arith;
    aligned = ap (λ (b : Block). address_of b.name % align) is.block_is ∙ ap (λ a. a % align) (omega arith) ∙ stands_aligned is.first 0 _ alignment (zero-mod _);
    of_region = λ g inside. of_region f heap n searched after block is (g / 256) (on_pages f heap n searched after block is g inside);
    turn = record { from = λ v met agreed. (gave f heap n searched after block is locals v (rests v met) agreed).turn };
    deeds = record { from = λ v met agreed g inside. (gave f _ n searched after _ is locals v (rests v met) agreed).deeds (g / 256) (on_pages f _ n searched after _ is g inside) };
    events = λ k v. (
      events_by k (searched ++ v) is.backs ++ events_by k v searched,
      events_are f heap n searched after block is k v,
      all_both _ _ _ (backs_only _ is.backs is.back_kinds k _) (all_map _ _ _ (deed_prepares _) (deeds_only _ searched only is.made k v)),
    );
  }
  ends align locals alignment only rests (Err why) is = λ k v. subst (AllByRecursion (IsDeedOf (large_directory heap))) (sym (silent is k v)) (deeds_only _ searched only is.made k v)

-- ---- what is asked for
-- The whole pages of a size are as many as begun pages.
pub whole_pages : (size : ℕ) → size / 4096 + min 1 (size % 4096) ≡ (size + 4096 - 1) / 4096
whole_pages size = omega arith

-- A cache that may allocate pages has room for the search for a run of them.
pub pages_call : {σ : Standing} {c : Cached} {spare n m : ℕ} (heap : ℕ) → m ≡ n → CanCall σ (MayAllocatePages σ.seat.profile c n spare)
    → CanCall σ (FindRoom σ.seat.profile (large_directory heap) (m + 1) spare)
pages_call {σ} {c} heap same can = can_call adds_none can (λ v l stood met. record { may = may_find _ v _ c.locals met.rest.locals; room = omega (arith, met.room, same) })

-- A large block that was allocated, or refused, serves the request for pages, and leaves the cache as it is.
pub pages_allocates : {σ σ' : Standing} (size align heap n : ℕ) (found : Option ℕ) (tells : Bool) (c : Cached) (answer : Result Block NoRoom)
    → n ≡ (size + 4096 - 1) / 4096 → 2048 < size → IsAlignment align → route_in σ.seat.profile size align ≡ Route.Large
    → AllocatesLarge heap n found tells σ σ' answer → AllocatesPages (wanted_for σ.seat.profile heap size align) found tells c c σ σ' answer
pages_allocates {σ} {σ'} size align heap n found tells c answer is some alignment route a =
    let f : Profile = σ.seat.profile in
    let d : Directory = large_directory heap in
    let count : n * 4096 / 4096 ≡ n = omega arith in
    let e : HasEnded σ.seat.profile (large_directory heap) n (a.rest ++ a.tried) answer = ended f d n a.tried a.old a.shows found a.rest answer a.outcome in
    let same : a.rest ++ a.tried ≡ e.after ++ e.got = e.steps_are in
    subst (λ (w : Wanted). AllocatesPages w found tells c c σ σ' answer) (search arith) (record {
      steps = a.rest ++ a.tried;
      calls = record {
        adds = adds_under a.adds (λ v l stood met. may_find f v heap c.locals met.locals);
        leads = record {
          from = λ v met agreed. record {
            locals = subst (λ xs. RestsWith f c.locals (xs ++ v)) (sym same) (rests f heap n e.got e.after c.locals answer e.outcome v met.locals (subst (Agreed f v) same agreed));
            few = met.few;
            entries = met.entries;
            few_entries = met.few_entries;
          };
        };
      };
      change = record { cache = refl; tried = a.tried; rest = a.rest; old = a.old; returns = a.returns; outcome = subst (λ k. IsServedNamed f d k found a.tried a.rest answer ⊎ IsScanned f d k found a.tried a.rest answer) (sym count) a.outcome; steps_are = refl };
      kinds = subst (Only allocating) (sym same) (kinds f heap n e.got e.after answer e.outcome e.kinds);
      short = (let missed = ap (missed_steps found) count in omega (arith, a.few, count, missed));
      few = λ k v met agreed.
          rw (count, same) (few f heap n e.got _ answer e.outcome e.shows k v (subst (Agreed f v) same agreed));
      outcome = subst (λ xs. MatchResult answer (IsBlockFor f (record { directory = large_directory heap; route = Route.Large; room = n * 4096; align = align }) (AtRest f c) xs) (λ why. MakesDeedsOf (large_directory heap) xs)) (sym same)
          (ends f heap n e.got e.after {Meets = AtRest f c} align c.locals alignment e.kinds (λ v met. met.locals) answer e.outcome);
      told = λ t v l stood met. rw count (a.told t v l stood (may_find f v heap c.locals met.locals));
    })
