-- A request is answered from the local allocators.
use Rattle.std.proofs.Common.{◌≡◌, ℕ, ◌+◌, ◌/◌, ◌^◌, ◌<◌, ◌≤◌, Bool, List, [], ◌∷◌, ◌++◌, length, Ok, Err, Result, inl, inr, Option, Some, true≢false, refl, ap}
use Rattle.std.proofs.{Common.{sym, ◌∙◌, subst, arith, append_assoc, append-nil, length-append, MatchResult, All, ◌%◌, max}, lemmas.List.Elements.All-weaker}
use Rattle.std.{proofs.lemmas.List.Sorted.{IsPermutation-sym, IsPermutation-to_front}, specs.List.AllByRecursion}
use Rattle.pas_steps.specs.{Calls.Calls, Views.{View, has_right}, Events.events_by, Agreement.Agreed, Lists.{Whole, part, Legal}, Kinds.{returning, Only}}
use Rattle.pas_steps.{specs.{Desks.{Standing, Seat, CanCall, triples}, declared.step.Made.Made}, proofs.{Called.{call_as, next_call}, Calls.leads_as}}
use Rattle.pas_steps.proofs.{Calls.leads_at, SpareRoom.{Spares, spare_falls}, Frames.{events_append, deed_stays}, Apart.{no_events, only_both, only_within}}
use Rattle.pas_steps.proofs.{Unknown.{unknown_no_more, none_unknown}, Parts.{part_of_own, part_of_others}, Adding.{adds_none, adds_call, can_call}}
use Rattle.pas_steps.proofs.Adding.{agreed_first, agreed_later, triples_append}
use Rattle.pas_profile.specs.{Profiles.{IsAdmitted, IsDirectoryOf, IsPage, IsValid}, Routes.room_by, Classes.{IsClass, class_size, IsSlotStart}}
use Rattle.pas_profile.specs.{Directories.{IsKind, deed_word_of}, Requests.{is_shared, kind_of_class, kind_of_route, route_in, room_in, class_home}}
use Rattle.pas_profile.specs.declared.{directory.{Kind.Kind as TheKind, Route.Route, Directory.Directory}, profile.Profile.Profile, event.Event.Event}
use Rattle.pas_profile.{specs.declared.{event.NoRoom.{NoRoom, TheVariants.NoSpace}, name.Block.Block}, proofs.Sizes.{class_suits, class_known}}
use Rattle.pas_profile.proofs.{Sizes.routed_slot_aligned, Codecs.deed_word_of-positive}
use Rattle.pas_utility.specs.{Heaps.{marks_of, is_marked}, declared.table.HeapTable.HeapTable}
use Rattle.pas_cache.specs.{Caches.{Cached, AtRest}, Calls.{MayAllocate, Allocates}, Changes.{GivesSlot, LeavesSpent}, Kinds.{releasing, allocating}}
use Rattle.pas_cache.specs.{Locals.{IsFormed, IsLocal, RestsWith}, Serves.{Wanted, wanted_for, class_wanted, IsFilling, IsRefill, IsObtained, IsAnswered}}
use Rattle.pas_cache.specs.Serves.{ServesLocals, IsPreparing, IsBlockFor, IsSilent, filling_in, pages_of, Fetches, ServesClass, ServesBitfit, ServesPages}
use Rattle.pas_cache.specs.{Serves.{ServesBy, ServesRequest}, Parts.{MayGiveSlot, GivesLowest, MayObtain, Obtains, ServesFrom, IsTrueOf}}
use Rattle.pas_cache.{specs.Refusals.{IsTrulyRefusedBy, IsTrulyRefused, OthersHaveNone, GoesByDoorOn, TakesWhatIsNamed}, proofs.Resting.{here, may_give_slot}}
use Rattle.pas_cache.proofs.{Resting.{rests_reordered, rests_given, given_page}, Obtained.{obtain_rests, refill_events, prepared, refused_steps, refusal}}
use Rattle.pas_cache.proofs.{Obtained.{no_fit_before, none_shortened, may_search}, Routes.{may_search_bitfit, bitfit_wanted, may_find}}
use Rattle.pas_bits.specs.{Bits.has_bit, Masks.HasMember}
use Rattle.pas_search.{proofs.{ForBackEnds.events_quiet, FindingAPage.{refused_told, OwnLacks, still_lacks, none_held_there}}, specs.Searches.search_steps}
use Rattle.pas_search.specs.{Searches.IsRefused, Kinds.{searching, AreSearch}, Telling.IsTrueReason}
use Rattle.pas_segregated.specs.{Refills.Filling, Takes.fewer_slots, declared.slots.Slots.Slots}
use Rattle.pas_core.{specs.Fits.HasNoFit, proofs.{Nexts.agreed_steps, OneActor.legal_earlier}}
use Rattle.pas_scan.specs.Runs.{large_directory}
use Rattle.pas_bitfit.specs.{Allocates.{bitfit_directory, run_for}, Runs.{NoneFits, fewer_runs}}
use Rattle.pas_large.{specs.{Finds.MayFind, Alone.GoesByDoor}, proofs.Allocates.{refused_alone, goes_by_door}}

-- ---- room
pub fewer_room : {σ : Standing} {spare : ℕ} {locals : List Slots} → CanCall σ (MayObtain σ.seat.profile 2 spare locals)
    → CanCall σ (MayObtain σ.seat.profile 1 spare locals)
fewer_room can = can_call adds_none can (λ v l stood met. record { rest = met.rest; room = (omega (arith, met.room.0), inr (omega (arith, met.room.0))) })

-- After slots were obtained there is room for the event of a give.
pub room_to_give : {σ σ1 : Standing} {spare spare1 : ℕ} {locals fewer : List Slots} {answer : Result Slots NoRoom} (fill : Filling) (tells : Bool)
    → Obtains fill tells locals fewer σ σ1 answer → CanCall σ (MayObtain σ.seat.profile 2 spare locals)
    → Spares σ spare → Spares σ1 spare1 → 1 ≤ spare1
room_to_give {σ} {spare = spare} {spare1 = spare1} {locals} fill tells one can law law' =
    let few = one.few σ.seat.actor can.view can.met.rest (one.calls.adds.agreed can.view can.whole can.stood can.met.rest) in
    let left = spare_falls {C = RestsWith σ.seat.profile locals} spare spare1 _ one.calls.adds (obtain_rests can) law law' refl in
    elim can.met.room.1 [
      | inl all ↦ let none = none_unknown σ.seat.profile can.view all in omega (arith, left, few.paid, none, can.met.room.0)
      | inr three ↦ omega (arith, left, few.most, three)
    ]

-- ---- the slots that were obtained may give
pub give_call : {σ σ1 : Standing} {spare : ℕ} (fill : Filling) (tells : Bool) (locals fewer : List Slots) (slots : Slots)
    → Obtains fill tells locals fewer σ σ1 (Ok slots) → CanCall σ (MayObtain σ.seat.profile 2 spare locals)
    → CanCall σ1 (MayGiveSlot σ1.seat.profile slots)
give_call {σ} {σ1} fill tells locals fewer slots one can = next_call one.calls (obtain_rests can) (λ v met here. rw one.calls.adds.seat_is (may_give_slot _ _ fewer (one.steps ++ v) here))

-- ---- kinds and events of what was made before the give
refill_kinds : {fill : Filling} {f : Profile} {steps : List Made} {found : Result Slots NoRoom} → IsRefill fill f steps found → Only allocating steps
refill_kinds {found = Ok slots} h = subst (Only allocating) (sym h.steps_are) (only_both allocating h.after h.searched
    (only_within returning allocating h.after refl h.outcome.after_kinds) (only_within searching allocating h.searched refl h.searches.kinds))
refill_kinds {found = Err room} h = subst (Only allocating) (refused_steps h) (only_within searching allocating h.searched refl h.searches.kinds)

obtained_kinds : {fill : Filling} {f : Profile} {locals fewer : List Slots} {steps : List Made} {found : Result Slots NoRoom}
    → IsObtained fill f locals fewer steps found → Only allocating steps
obtained_kinds (inl h) = subst (Only allocating) (sym h.2.no_steps) tt
obtained_kinds (inr h) = subst (Only allocating) (sym h.steps_are) (only_both allocating h.searched h.before (refill_kinds h.refill) (only_within releasing allocating h.before refl h.gives_back))

events_later : (ys xs : List Made) → Only releasing xs → (k : ℕ) (v : View) → events_by k v (ys ++ xs) ≡ events_by k (xs ++ v) ys
events_later ys xs kinds k v = events_append k ys xs v ∙ (ap (λ es. events_by k (xs ++ v) ys ++ es) (no_events releasing refl k v xs kinds) ∙ append-nil _)

prepared_before : {f : Profile} (fill : Filling) {locals fewer : List Slots} (steps : List Made) (slots : Slots)
    → IsObtained fill f locals fewer steps (Ok slots) → (k : ℕ) (v : View) → AllByRecursion (IsPreparing fill.directory) (events_by k v steps)
prepared_before fill steps slots e k v = grind (arith, events_later, refill_events, prepared)

-- ---- the give
give_event : (slots rest : Slots) (block : Block) (steps : List Made) → GivesSlot slots rest block steps → (k : ℕ) (v : View)
    → events_by k v steps ≡ Event.Give k block ∷ []
give_event slots rest block steps gives k v = ap (events_by k v) gives.steps_are

-- A request of a class is served where slots were obtained and the lowest one of them was given.
pub serves_given : {σ σ1 σ2 : Standing} (fill : Filling) (tells : Bool) (locals fewer after : List Slots) (slots rest : Slots) (block : Block)
    → CanCall σ (RestsWith σ.seat.profile locals) → (one : Obtains fill tells locals fewer σ σ1 (Ok slots))
    → GivesLowest slots rest block σ1 σ2 → after ≡ fewer ++ rest ∷ [] → ServesFrom fill tells locals after σ σ2 (Ok block)
serves_given {σ} {σ1} {σ2} fill tells locals fewer after slots rest block can one two list =
    let f : Profile = σ.seat.profile in
    let d : Directory = fill.directory in
    let xs : List Made = one.steps in
    let ys : List Made = two.steps in
    let for = one.found_for in
    let give = subst (λ (s : Seat). Calls σ1 σ2 (MayGiveSlot s.profile slots) (λ v w. block.name.turn < 2 ^ 37) ys) one.calls.adds.seat_is two.calls in
    let before : (v : View) → RestsWith f locals v → Agreed f v (ys ++ xs) → RestsWith f (slots ∷ fewer) (xs ++ v) = λ v h agreed. one.calls.leads.from v h (agreed_later f v ys xs agreed) in
    let may : (v : View) → RestsWith f (slots ∷ fewer) v → MayGiveSlot f slots v = may_give_slot f slots fewer in
    let obtained = one.calls.leads.from can.view can.met (one.calls.adds.agreed can.view can.whole can.stood can.met) in
    let local : IsLocal f (xs ++ can.view) slots = here f slots fewer (xs ++ can.view) obtained in
    record {
      steps = ys ++ xs;
      calls = record {
        adds = adds_call {C = RestsWith f locals} {D = MayGiveSlot f slots} one.calls.adds give.adds (λ v l stood met. may (xs ++ v) (one.calls.leads.from v met (one.calls.adds.agreed v l stood met)));
        leads = record {
          from = λ v h agreed. subst (λ zs. RestsWith f zs ((ys ++ xs) ++ v)) (sym list)
              (rests_reordered f _ _ (IsPermutation-sym (fewer ++ rest ∷ []) (rest ∷ fewer) (IsPermutation-to_front fewer rest)) _
              (subst (RestsWith f (rest ∷ fewer)) (sym (append_assoc ys xs v)) (rests_given f fewer _ _ _ ys two.gives _ (before v h agreed) (agreed_first f v ys xs agreed))));
        };
      };
      change = record { found = Ok slots; fewer = fewer; before = xs; obtained = one.how; given = ys; ends = (rest, two.gives, list); steps_are = refl };
      kinds = only_both allocating ys xs (subst (Only allocating) (sym two.gives.steps_are) (refl, (refl, tt))) (obtained_kinds one.how);
      few = search (arith, agreed_later, unknown_no_more, agreed_first, events_append, length-append, give_event, append_assoc);
      outcome = record {
        of_heap = two.gives.heap ∙ ap (λ x. x.heap) for.home;
        room = two.gives.room ∙ ap class_size for.class_is;
        placed = record {
          page = slots.page;
          start = two.gives.start;
          is_start = subst (λ c. IsSlotStart c two.gives.start) for.class_is (local.starts two.gives.start two.gives.lowest.set);
          address = two.gives.address;
        };
        aligned = omega arith;
        of_region = λ g inside. subst (IsPage f) (sym (given_page f fewer slots rest block ys two.gives _ obtained g inside)) local.page;
        turn = record { from = λ v h agreed. (leads_at one.calls.adds.seat_is give.leads).from (xs ++ v) (may (xs ++ v) (before v h agreed)) (agreed_first f v ys xs agreed) };
        deeds = record {
          from = λ v h agreed g inside.
              let page : g / 256 ≡ slots.page = given_page f fewer slots rest block ys two.gives (xs ++ v) (before v h agreed) g inside in
              let known = (here f slots fewer (xs ++ v) (before v h agreed)).deed ∙ ap deed_word_of for.home in
              cc (append_assoc ys xs v, deed_stays f ys _ slots.page (agreed_first f v ys xs agreed) (λ z. deed_word_of-positive d (sym known ∙ z)));
        };
        events = λ k v. (events_by k v xs, events_append k ys xs v ∙ ap (λ es. es ++ events_by k v xs) (give_event _ _ _ ys two.gives k _), prepared_before _ xs _ one.how k v);
      };
      place = let n : length after ≡ length fewer + 1 = ap length list ∙ length-append fewer _ in omega (arith, n, one.place);
      told = λ t v l stood h. tt;
    }

-- ---- a refusal
pub serves_none : {σ σ1 : Standing} (fill : Filling) (tells : Bool) (locals fewer : List Slots) (room : NoRoom)
    → Obtains fill tells locals fewer σ σ1 (Err room) → ServesFrom fill tells locals fewer σ σ1 (Err room)
serves_none {σ} fill tells locals fewer room one = record {
  steps = one.steps;
  calls = one.calls;
  change = record { found = Err room; fewer = fewer; before = one.steps; obtained = one.how; given = []; ends = (refl, refl, refl); steps_are = refl };
  kinds = obtained_kinds one.how;
  few = λ k v h agreed. let few = one.few k v h agreed in record { paid = omega (arith, few.paid); most = omega (arith, few.most) };
  outcome = grind (arith, events_later, events_quiet, refusal);
  place = omega (arith, one.place);
  told = one.told;
}

-- ---- a cached slot is given in two steps
given_two : (fewer locals' : List Slots) (given : List Made) (found : Result Slots NoRoom) (answer : Result Block NoRoom) (slots : Slots) → found ≡ Ok slots
    → IsAnswered fewer locals' given found answer → length given ≡ 2
given_two fewer locals' given found answer slots is h = grind arith

spent_empty : (spent : List Made) (local : Option Slots) (slots : Slots) → local ≡ Some slots → LeavesSpent local spent → HasMember slots.starts → ⊥
spent_empty spent local slots is leaves some = true≢false (sym some.2 ∙ (subst (λ l. LeavesSpent l spent) is leaves).0 some.0 some.1)

-- ---- how many steps there are at most
-- A give makes two steps at most, and a refusal none.
given_few : (fewer locals' : List Slots) (given : List Made) (found : Result Slots NoRoom) (answer : Result Block NoRoom)
    → IsAnswered fewer locals' given found answer → length given ≤ 2
given_few fewer locals' given found answer h = grind arith

serves_short : {fill : Filling} {f : Profile} {locals locals' : List Slots} {steps : List Made} {answer : Result Block NoRoom}
    → ServesLocals fill f locals locals' steps answer → length steps ≤ 59 + search_steps fill.steps f.pages
serves_short {locals' = locals'} {answer = answer} h = search (arith, length-append, given_few)

-- ---- of a cache
for_cache : (f : Profile) (c : Cached) (d : Directory) (class size align : ℕ) (steps : List Made) (answer : Result Block NoRoom) → 4096 % align ≡ 0
    → route_in f size align ≡ Route.Class class
    → MatchResult answer (IsBlockFor f (class_wanted d class 1) (RestsWith f c.locals) steps) (λ room. IsSilent steps)
    → MatchResult answer (IsBlockFor f (class_wanted d class align) (AtRest f c) steps) (λ room. IsSilent steps)
for_cache f c d class size align steps answer whole route h = grind (arith, routed_slot_aligned, leads_as)

-- the route by the profile that a desk tells is that in its region
pub routed : (f told : Profile) (size align : ℕ) (route way : Route) → told ≡ f → route ≡ route_in told size align → route ≡ way → route_in f size align ≡ way
routed f told size align route way same is at = ap (λ (h : Profile). route_in h size align) (sym same) ∙ sym is ∙ at

-- the room of a bit-fit block is that of its request
pub roomed : (f : Profile) (size align room : ℕ) → route_in f size align ≡ Route.Bitfit → room ≡ room_by Route.Bitfit (max size 1) → room_in f size align ≡ room
roomed f size align room route is = ap (λ (r : Route). room_by r (max size 1)) route ∙ sym is

-- the class of a request has its home in the heap
pub filling_for : (f : Profile) (size align heap class : ℕ) → IsAdmitted f size align heap → route_in f size align ≡ Route.Class class
    → IsFilling f (filling_in (class_home f heap class) class)
filling_for f size align heap class admitted route =
    let smallest = class_suits f.classes size align class route in
    let known : IsClass class = class_known f.classes size align class smallest in
    let directory : IsDirectoryOf f (class_home f heap class) = record { heap = admitted.of_profile; kind = grind arith; class = (grind arith) } in
    record { directory = directory; class = known; home = refl; fewer = fewer_slots class }

-- a request of a class wants pages of the class's home
wanted_is : (f : Profile) (heap class size align : ℕ) → route_in f size align ≡ Route.Class class
    → class_wanted (class_home f heap class) class align ≡ wanted_for f heap size align
wanted_is f heap class size align route = ap (λ r. record { directory = record { heap = heap; kind = kind_of_route (is_shared f heap) r }; route = r; room = room_by r (max size 1); align = align }) (sym route)

-- the directory that the table of heaps tells is that home
pub home_is : (f : Profile) (table : HeapTable) (heap class : ℕ) (kind : TheKind) → kind ≡ kind_of_class (is_marked table heap) class
    → marks_of table ≡ f.shared → record { heap = heap; kind = kind } ≡ class_home f heap class
home_is f table heap class kind is marks = ap (λ (k : TheKind). record { heap = heap; kind = k }) (is ∙ ap (λ n. kind_of_class (has_bit n heap) class) marks)

-- A request of a class that was served from its slots is allocated.
pub allocates : {σ σ' : Standing} (size align heap class : ℕ) (tells : Bool) (c c' : Cached) (answer : Result Block NoRoom)
    → IsAdmitted σ.seat.profile size align heap → route_in σ.seat.profile size align ≡ Route.Class class → c' ≡ record c { locals = c'.locals }
    → ServesFrom (filling_in (class_home σ.seat.profile heap class) class) tells c.locals c'.locals σ σ' answer
    → Allocates (wanted_for σ.seat.profile heap size align) tells c c' σ σ' answer
allocates {σ} {σ'} size align heap class tells c c' answer admitted route is h =
    let f : Profile = σ.seat.profile in
    subst (λ (w : Wanted). Allocates w tells c c' σ σ' answer) (wanted_is f heap class size align route) (record {
      steps = h.steps;
      calls = call_as _ h.calls (λ v rest. rest.locals) (λ v w rest locals. subst (λ x. AtRest f x w) (sym is) (record { locals = locals; few = h.place; entries = rest.entries; few_entries = rest.few_entries }));
      change = record { locals = h.change; cache = is };
      kinds = h.kinds;
      short = serves_short h.change;
      two = λ some. (search (arith, given_two, length-append, spent_empty));
      few = λ k v rest agreed. h.few k v rest.locals agreed;
      outcome = for_cache f c _ class size align h.steps answer admitted.aligned.2 route h.outcome;
      told = λ t v l stood rest. (grind arith);
    })

-- A cache that may allocate may obtain slots with room for two events.
pub serve_call : {σ : Standing} {c : Cached} {spare : ℕ} → CanCall σ (MayAllocate σ.seat.profile c spare)
    → CanCall σ (MayObtain σ.seat.profile 2 spare c.locals)
serve_call can = can_call adds_none can (λ v l stood met. record { rest = met.rest.locals; room = met.room })

-- the local allocators of an actor at rest are well formed
pub formed : (f : Profile) (v : View) (locals : List Slots) → RestsWith f locals v → All IsFormed locals
formed f v locals h = All-weaker (IsLocal f v) IsFormed (λ t at. record { class = at.class; starts = at.starts }) locals h.known

-- After a request of a class its cache rests with the local allocators that it has then.
pub rests_after : {σ σ' : Standing} (fill : Filling) (tells : Bool) (locals locals' : List Slots) (answer : Result Block NoRoom)
    → (h : ServesFrom fill tells locals locals' σ σ' answer) → (can : CanCall σ (RestsWith σ.seat.profile locals))
    → RestsWith σ.seat.profile locals' (h.steps ++ can.view)
rests_after fill tells locals locals' answer h can = h.calls.leads.from can.view can.met (h.calls.adds.agreed can.view can.whole can.stood can.met)

-- ==== A request whose actor alone made steps meanwhile, whatever its desk tells: a refusal is true, and the run that a door named is taken where it is
-- whole.

-- ---- a request of a class
module _ (f : Profile) (k : ℕ) (l : Whole) (valid : IsValid f) (fill : Filling) (is : IsFilling f fill) (locals : List Slots)
    (rest : RestsWith f locals (part k l)) where
  -- the refusal is true, and the actor has no right of a page of the directory afterwards
  abbrev IsTrueAfter : List Made → NoRoom → Type 0
  IsTrueAfter steps room = IsTrueOf fill f locals l (triples k steps ++ l) room × OwnLacks k fill.directory (triples k steps ++ l)

  fetch_refused : (fewer : List Slots) (steps : List Made) (room : NoRoom) → Legal f (triples k steps ++ l) → Fetches fill f locals fewer steps (Err room)
      → IsTrueAfter steps room
  fetch_refused fewer steps room legal fetch =
      let xs = fetch.before in
      let ys = fetch.searched in
      let middle : Whole = triples k xs ++ l in
      let all : Legal f (triples k (ys ++ xs) ++ l) = subst (λ zs. Legal f (triples k zs ++ l)) fetch.steps_are legal in
      let rests = subst (RestsWith f fewer) (sym (part_of_own k xs l)) (fetch.rests.from (part k l) rest (agreed_steps f k l xs valid (legal_earlier f k ys xs l all))) in
      let searches : AreSearch ys = subst AreSearch (refused_steps fetch.refill) fetch.refill.searches in
      let may = may_search f _ fill fewer is (none_shortened fetch.place.taken fetch.place.shortened) rests in
      let at_middle = subst (Legal f) (sym (triples_append k ys xs l)) all in
      let told = refused_told fill.no_fit f fill.directory k middle ys valid is.directory is.fewer at_middle searches may room (refusal fetch.refill) in
      let still = (refusal fetch.refill).still.from (part k middle) may (agreed_steps f k middle ys valid at_middle) in
      subst (λ zs. IsTrueAfter zs room) (sym fetch.steps_are) (subst (λ z. IsTrueOf fill f locals l z room × OwnLacks k fill.directory z) (triples_append k ys xs l) (
        record {
          cached = λ slots found some. let empty = (subst (λ o. LeavesSpent o fetch.place.spent) found fetch.place.taken.left).0 in true≢false (sym some.2 ∙ empty some.0 some.1);
          entry_fit = no_fit_before fill.no_fit f fill.directory k xs l is.fewer fetch.gives_back told.0;
          exit_fit = told.1;
          reason = told.2;
        },
        still_lacks f k middle fill.directory ys valid at_middle may.rights still,
      ))

  obtained_refused : (fewer : List Slots) (steps : List Made) (room : NoRoom) → Legal f (triples k steps ++ l) → IsObtained fill f locals fewer steps (Err room)
      → IsTrueAfter steps room
  obtained_refused fewer steps room legal (inl cached) = absurd (let bad : Err room ≡ Ok cached.0 = cached.1 in cc)
  obtained_refused fewer steps room legal (inr fetch) = fetch_refused fewer steps room legal fetch

  answered_refused : (fewer locals' : List Slots) (given before : List Made) (found : Result Slots NoRoom) (room : NoRoom)
      → Legal f (triples k (given ++ before) ++ l) → IsObtained fill f locals fewer before found → IsAnswered fewer locals' given found (Err room)
      → IsTrueAfter (given ++ before) room
  answered_refused fewer locals' given before (Ok slots) room legal how ends = absurd ends
  answered_refused fewer locals' given before (Err why) room legal how ends =
      rw (ends.2, ends.0) (obtained_refused fewer before why (legal_earlier f k given before l legal) how)

  locals_refused : (locals' : List Slots) (steps : List Made) (room : NoRoom) → Legal f (triples k steps ++ l)
      → ServesLocals fill f locals locals' steps (Err room) → IsTrueAfter steps room
  locals_refused locals' steps room legal serves =
      subst (λ xs. IsTrueAfter xs room) (sym serves.steps_are)
      (answered_refused serves.fewer locals' serves.given serves.before serves.found room (subst (λ xs. Legal f (triples k xs ++ l)) serves.steps_are legal) serves.obtained serves.ends)

-- ---- a request for whole pages
large_home : (f : Profile) (heap size align : ℕ) → route_in f size align ≡ Route.Large → large_directory heap ≡ (wanted_for f heap size align).directory
large_home f heap size align route = ap (λ (r : Route). record { heap = heap; kind = kind_of_route (is_shared f heap) r }) (sym route)

find_large : (f : Profile) (heap size align : ℕ) (locals : List Slots) (v : View) → route_in f size align ≡ Route.Large → RestsWith f locals v
    → MayFind (wanted_for f heap size align).directory v
find_large f heap size align locals v route rest = subst (λ d. MayFind d v) (large_home f heap size align route) (may_find f v heap locals rest)

-- ---- any request that was refused
module _ (f : Profile) (heap size align k : ℕ) (found : Option ℕ) (c c' : Cached) (l : Whole) (steps : List Made) (room : NoRoom) (valid : IsValid f)
    (admitted : IsAdmitted f size align heap) (rest : AtRest f c (part k l)) (legal : Legal f (triples k steps ++ l)) where
  abbrev exit : Whole
  exit = triples k steps ++ l

  abbrev wanted : Wanted
  wanted = wanted_for f heap size align

  -- what is said of the refusal of a request by this route, and what the actor has afterwards
  abbrev IsRefusedBy : Route → Wanted → Type 0
  IsRefusedBy r w = IsTrulyRefusedBy r f w c.locals l exit room × OwnLacks k w.directory exit

  class_refused : (class : ℕ) → route_in f size align ≡ Route.Class class → ServesClass (filling_in wanted.directory class) f c c' steps (Err room)
      → IsRefusedBy (Route.Class class) wanted
  class_refused class route serves =
      let same = wanted_is f heap class size align route in
      let d = class_home f heap class in
      let home = subst (λ (w : Wanted). ServesClass (filling_in w.directory class) f c c' steps (Err room)) (sym same) serves in
      let both = locals_refused f k l valid _ (filling_for f _ _ _ _ admitted route) c.locals rest.locals c'.locals _ room legal home.locals in
      let told = both.0 in
      subst (IsRefusedBy (Route.Class class)) same (record { cached = λ h. told.cached h.0 h.1 h.2; entry_fit = told.entry_fit; exit_fit = told.exit_fit; reason = told.reason }, both.1)

  bitfit_refused : route_in f size align ≡ Route.Bitfit → ServesBitfit f wanted c c' steps (Err room) → IsRefusedBy Route.Bitfit wanted
  bitfit_refused route serves =
      let same = bitfit_wanted f heap size align route in
      let r = room_in f size align in
      let d = bitfit_directory heap in
      let none = NoneFits (run_for r align) in
      let refused = subst (λ (w : Wanted). IsRefused none f w.directory serves.searched room) (sym same) serves.outcome.0 in
      let all : steps ≡ serves.searched = serves.steps_are ∙ ap (λ xs. xs ++ serves.searched) serves.outcome.1 in
      let may = may_search_bitfit f _ heap c.locals rest.locals in
      let stands : Legal f (triples k serves.searched ++ l) = subst (λ xs. Legal f (triples k xs ++ l)) all legal in
      let told = subst (λ xs. (HasNoFit none f d l × HasNoFit none f d (triples k xs ++ l) × IsTrueReason f d (triples k xs ++ l) room) × OwnLacks k d (triples k xs ++ l)) (sym all) (
        refused_told none f d k l _ valid (record { heap = admitted.of_profile; kind = tt; class = tt }) (fewer_runs _) stands serves.searches may room refused,
        still_lacks f k l d serves.searched valid stands may.rights (refused.still.from (part k l) may (agreed_steps f k l serves.searched valid stands)),
      ) in
      subst (IsRefusedBy Route.Bitfit) same (record { cached = λ none. none; entry_fit = told.0.0; exit_fit = told.0.1; reason = told.0.2 }, told.1)

  pages_refused : route_in f size align ≡ Route.Large → ServesPages f wanted found c c' steps (Err room) → IsRefusedBy Route.Large wanted
  pages_refused route serves =
      let stands : Legal f (triples k (serves.rest ++ serves.tried) ++ l) = subst (λ xs. Legal f (triples k xs ++ l)) serves.steps_are legal in
      subst (λ xs. IsTrulyRefusedBy Route.Large f wanted c.locals l (triples k xs ++ l) room × OwnLacks k wanted.directory (triples k xs ++ l)) (sym serves.steps_are)
      (refused_alone f k l wanted.directory _ _ serves.tried serves.rest serves.old serves.returns stands (find_large f _ _ _ c.locals _ route rest.locals) valid (grind (arith, wanted_is, filling_for, bitfit_wanted, large_home)) room serves.outcome)

  by_route : (r : Route) → route_in f size align ≡ r → ServesBy r f wanted found c c' steps (Err room) → IsRefusedBy r wanted
  by_route (Route.Class class) route serves = class_refused class route serves
  by_route Route.Bitfit route serves = bitfit_refused route serves
  by_route Route.Large route serves = pages_refused route serves

  -- A request that was refused while its actor went on alone was truly refused.
  pub truly_refused : ServesRequest f (wanted_for f heap size align) found c c' steps (Err room)
      → IsTrulyRefused f (wanted_for f heap size align) c.locals l (triples k steps ++ l) room
  truly_refused serves = (by_route (route_in f size align) refl serves).0

  -- A request that was refused while nobody else had a right finds no space, and no page held.
  pub no_space : OthersHaveNone k l → ServesRequest f (wanted_for f heap size align) found c c' steps (Err room) → room ≡ NoSpace
  no_space others serves =
      let told = by_route _ refl serves in
      none_held_there f k wanted.directory exit room (grind (arith, wanted_is, filling_for, bitfit_wanted, large_home)) legal told.1 (λ j p other. ap (λ v. has_right v p) (part_of_others j k _ l other) ∙ others j p other) (grind arith)

-- ---- the run that a door named
module _ (f : Profile) (heap size align k : ℕ) (found : Option ℕ) (c c' : Cached) (l : Whole) (steps : List Made) (answer : Result Block NoRoom)
    (valid : IsValid f) (rest : AtRest f c (part k l)) (legal : Legal f (triples k steps ++ l)) where
  takes_on : (r : Route) → route_in f size align ≡ r → ServesBy r f (wanted_for f heap size align) found c c' steps answer
      → GoesByDoorOn r f (wanted_for f heap size align) found l steps answer
  takes_on (Route.Class class) route serves = tt
  takes_on Route.Bitfit route serves = tt
  takes_on Route.Large route serves =
      let w = wanted_for f heap size align in
      let stands : Legal f (triples k (serves.rest ++ serves.tried) ++ l) = subst (λ xs. Legal f (triples k xs ++ l)) serves.steps_are legal in
      subst (λ xs. GoesByDoor f w.directory (pages_of w) found l xs answer) (sym serves.steps_are)
      (goes_by_door f k l w.directory _ _ serves.tried serves.rest serves.old serves.returns stands (find_large f _ _ _ c.locals _ route rest.locals) (subst (λ (d : Directory). IsKind d.kind) (large_home f _ _ _ route) tt) _ serves.outcome)

  -- A request whose actor went on alone takes the run that its door named, where that is whole.
  pub takes_named : ServesRequest f (wanted_for f heap size align) found c c' steps answer
      → TakesWhatIsNamed f (wanted_for f heap size align) found l steps answer
  takes_named serves = takes_on (route_in f size align) refl serves
