-- Local allocators are stopped.
use Rattle.std.proofs.Common.{length-append, ◌≡◌, ℕ, ◌+◌, ◌<◌, ◌≤◌, ◌==◌, true, false, List, [], ◌∷◌, ◌++◌, length, refl, ap, sym, ◌∙◌, subst, arith}
use Rattle.std.proofs.Common.{true≢false, slice_index_or, remove, le-leb, eqb-true, Bool, Ok, Err, Result, None, ◌≢◌, Some, inl, inr, append_assoc, get_or}
use Rattle.std.proofs.{Common.{append-nil, All, not, ◌⊎◌, eq-eqb}, lemmas.Bool.{and_parts, and_from, or_parts, or_from, false_from_ne_true, cases_eq}}
use Rattle.std.proofs.lemmas.{Bool.cases_Bool, List.{Sorted.{IsPermutation-remove, length_permutation}, Elements.{All-head, All-tail}}, Option.cond_some}
use Rattle.std.{proofs.{lemmas.Option.none-some, Math.Bool.not-not}, specs.List.{Sorted.IsPermutation, cons_option, list_any, AllByRecursion}}
use Rattle.std.specs.Result.{result_ok}
use Rattle.pas_steps.specs.{Views.{View, known_deed, KnowsDeed}, Calls.{Calls, Leads}, Kinds.{Only, returning}, Agreement.Agreed, Events.{event_of, events_by}}
use Rattle.pas_steps.specs.{Past.Once, Evidence.{Readings, IsAntitone}, Unknown.{unknown_pages, HasRoom}, Lists.Whole, Desks.{Standing, Seat, CanCall, Adds}}
use Rattle.pas_steps.{specs.{Desks.triples, declared.step.{Made.Made, Step.{Step, TheVariants.Deed}}}, proofs.Adding.{adds_none, adds_under, can_call}}
use Rattle.pas_steps.proofs.{Adding.{agreed_first, agreed_later, triples_append}, Apart.{only_both, only_within, no_events, events_same}, Called.call_none}
use Rattle.pas_steps.proofs.{Called.{call_then, next_call}, SpareRoom.{Spares, spare_falls}, Unknown.{unknown_no_more, unknown_less, room_after}}
use Rattle.pas_steps.proofs.{Frames.{events_append, deed_stays}, Events.each_event}
use Rattle.pas_profile.specs.{declared.{event.{Event.Event, NoRoom.NoRoom}, directory.Directory.Directory, profile.Profile.Profile}, Classes.IsClass}
use Rattle.pas_profile.{specs.{Directories.IsKind, Requests.kind_of_class, Profiles.IsPage}, proofs.Codecs.{same_from_deed_word, same_parts}}
use Rattle.pas_profile.proofs.Codecs.{deed_word_of-positive}
use Rattle.pas_rights.specs.PutsBack.{giving_back}
use Rattle.pas_segregated.specs.{Stops.{home_of, StopStepsAt, MayStopAt, StopsAt, LeavesWhere}, declared.slots.Slots.Slots, Refills.{Filling, GetsSlots}}
use Rattle.pas_segregated.{specs.{Refills.Refills, Masks.start_of}, proofs.Starts.start_below}
use Rattle.pas_cache.specs.{Changes.{StopsFirst, StopsEach, IsShortened, LeavesSpent, IsTakenOut}, Kinds.releasing, Locals.{IsLocal, RestsWith, any_keeps}}
use Rattle.pas_cache.specs.{Locals.{is_for, local_for, others_than, HasOneEach, IsPlaceOf}, Parts.{Rests, Releases, StopsPlace, MayObtain, BringsCached}}
use Rattle.pas_cache.specs.{Parts.{Obtains, StandsLast, IsToldOf}, Serves.{IsFilling, IsRefill, IsFew, IsPreparing, MakesPlace, HasNoneCached}}
use Rattle.pas_cache.proofs.Resting.{at_end, none_found, none_any, found_passes, at_place, none_left, here, may_stop, rests_stopped, rests_reordered}
use Rattle.pas_cache.proofs.Resting.{rests_gained, rests_kept}
use Rattle.pas_search.specs.{Searches.{MaySearch, SearchRoom, IsRefused, DeedMadeHere, FromOffered, ByDeed, FewEvents}, Kinds.{AreQuiet, IsDeedOrBack}}
use Rattle.pas_search.{specs.{Kinds.{EventsAt, IsQuiet}, Telling.IsTold}, proofs.ForBackEnds.events_quiet}
use Rattle.pas_core.{proofs.OneActor.{free_stays, offered_stays, deed_same}, specs.{Fits.HasNoFit, Rights.free_of_page}}
use Rattle.pas_bits.specs.Masks.{is_set, IsEmpty, HasMember}

-- ---- the one at a place is stopped
module _ {σ : Standing} {locals : List Slots} {place : ℕ} {slots : Slots} {rest : List Slots} (lt : place < length locals)
    (at : slots ≡ slice_index_or locals place slots) (is : rest ≡ remove locals place) (can : CanCall σ (RestsWith σ.seat.profile locals)) where
  -- An actor that rests with the others rests with this one, too, as it was.
  first : (v : View) → RestsWith σ.seat.profile locals v → RestsWith σ.seat.profile (slots ∷ rest) v
  first v = rests_reordered _ locals _ (subst (λ ys. IsPermutation locals (slots ∷ ys)) (sym is) (IsPermutation-remove locals place slots lt at)) v

  -- A cache at rest knows of the local allocator at a place what a local allocator is.
  pub local_of : IsLocal σ.seat.profile can.view slots
  local_of = here σ.seat.profile slots rest can.view (first can.view can.met)

  -- The first local allocator may be stopped.
  may : (v : View) → RestsWith σ.seat.profile locals v → MayStopAt (home_of slots) slots v
  may v h = may_stop σ.seat.profile slots rest v (first v h)

  -- A cache at rest may stop the local allocator at a place.
  pub may_call : CanCall σ (MayStopAt (home_of slots) slots)
  may_call = can_call adds_none can (λ v l stood met. may v met)

  -- A stop of the local allocator at a place takes it out of its list.
  pub stops_place : {σ' : Standing} → StopsAt (home_of slots) slots σ σ' → StopsPlace place locals rest σ σ'
  stops_place stops = record {
    slots = slots;
    at = at;
    fewer = is;
    stops = record {
      steps = stops.steps;
      calls = record {
        adds = adds_under stops.calls.adds (λ v l stood met. may v met);
        leads = record { from = λ v h agreed. rests_stopped _ slots rest v (first v h) stops.steps (stops.calls.leads.from v (may v h) agreed) agreed };
      };
      change = record { order = stops.order; few = stops.few };
      kinds = only_within giving_back releasing stops.steps refl stops.kinds;
    };
  }

-- Local allocators that were released in some way are released in each weaker one.
releases_as : {σ σ' : Standing} {C D : List Made → Type 0} {locals locals' : List Slots} → Releases C locals locals' σ σ'
    → ((steps : List Made) → C steps → D steps) → Releases D locals locals' σ σ'
releases_as r by = record { steps = r.steps; calls = r.calls; change = by r.steps r.change; kinds = r.kinds }

abbrev pub releases_none : {σ : Standing} (Change : List Made → Type 0) (locals : List Slots) → Change [] → Releases Change locals locals σ σ
releases_none Change locals change = record { steps = []; calls = call_none (λ v h. h); change = change; kinds = tt }

-- ---- steps without events leave the room
pub spare_kept : {σ σ' : Standing} {C : View → Type 0} {xs : List Made} {spare spare' : ℕ} → Adds σ σ' C xs → CanCall σ C → Only releasing xs
    → Spares σ spare → Spares σ' spare' → spare' ≡ spare
spare_kept {σ} {C = C} {xs} {spare} {spare'} adds can kinds law law' =
    let e = spare_falls {C = C} _ spare' 0 adds can law law' (ap (λ (es : List Event). length es) (no_events releasing refl σ.seat.actor can.view xs kinds)) in omega (arith, e)

-- ---- the first one of a full list
-- A full list is shortened by a stop of its oldest local allocator.
pub shortens_full : {σ σ' : Standing} {locals kept : List Slots} → (length locals == 32) ≡ true → StopsPlace 0 locals kept σ σ'
    → Releases (IsShortened locals kept) locals kept σ σ'
shortens_full {locals = locals} {kept = kept} full h = releases_as h.stops (λ steps one. record { first = grind (arith, true≢false, eqb-true, le-leb); few = one.few })

-- ---- one call after another
module _ {σ σ1 : Standing} {First : List Made → Type 0} (locals kept : List Slots) (one : Releases First locals kept σ σ1) where
  -- After some local allocators were released, the cache rests with those that are kept.
  pub rests_call : CanCall σ (RestsWith σ.seat.profile locals) → CanCall σ1 (RestsWith σ1.seat.profile kept)
  rests_call can = next_call one.calls can (λ v h here. subst (λ (s : Seat). RestsWith s.profile kept (one.steps ++ v)) (sym one.calls.adds.seat_is) here)

  -- Two releases one after the other are one, and the cache rests then.
  pub rests_then : {σ2 : Standing} (rest : List Slots) (ys : List Made) → Rests kept rest σ1 σ2 ys → Rests locals rest σ σ2 (ys ++ one.steps)
  rests_then {σ2} rest ys two = call_then (λ v w. RestsWith σ.seat.profile rest w) one.calls (subst (λ (s : Seat). Calls σ1 σ2 (RestsWith s.profile kept)
      (λ v w. RestsWith s.profile rest w) ys) one.calls.adds.seat_is two) (λ v h here. here) (λ v h here there. there)

  abbrev pub releases_then : {σ2 : Standing} {Next : List Made → Type 0} (Change : List Made → Type 0) (rest : List Slots) (two : Releases Next kept rest σ1 σ2)
      → Change (two.steps ++ one.steps) → Releases Change locals rest σ σ2
  releases_then Change rest two change = record { steps = two.steps ++ one.steps; calls = rests_then rest two.steps two.calls; change = change; kinds = only_both releasing two.steps one.steps two.kinds one.kinds }

-- ---- all are stopped, the last one first
pub popped : {σ σ' : Standing} {locals rest : List Slots} {place : ℕ} → place + 1 ≡ length locals → (h : StopsPlace place locals rest σ σ')
    → locals ≡ rest ++ h.slots ∷ []
popped {locals = locals} {rest = rest} {place = place} last h = at_end _ _ h.slots last ∙ (ap (λ xs. xs ++ slice_index_or locals place h.slots ∷ []) (sym h.fewer) ∙ ap (λ s. rest ++ s ∷ []) (sym h.at))

-- One more stopped local allocator is one more of those that were stopped.
pub stops_more : {σ σ1 σ2 : Standing} {place : ℕ} (locals kept rest stopped : List Slots) → (one : Releases (StopsEach stopped) locals kept σ σ1)
    → (h : StopsPlace place kept rest σ1 σ2) → Releases (StopsEach (h.slots ∷ stopped)) locals rest σ σ2
stops_more locals kept rest stopped one h =
    let two = h.stops in
    let n = length-append two.steps one.steps in
    releases_then _ _ one _ _ two (record { order = (two.steps, one.steps, two.change.order, one.change.order, refl); few = omega (arith, n, two.change.few, one.change.few) })

-- ==== Slots are obtained: cached ones, or those of a refill.

-- ==== Slots come by a refill.

-- ---- homes
-- The right is kept just where the heap isn't shared, since the kinds of pages differ.
pub kept_by : (right shared : Bool) (a b : ℕ) → kind_of_class (not right) a ≡ kind_of_class shared b → right ≡ not shared
kept_by right shared a b h = grind arith

-- slots that keep their page's right and are at home in the directory are those for its heap and the class
is_one : (f : Profile) (fill : Filling) → IsFilling f fill → (slots : Slots) → slots.right ≡ true → home_of slots ≡ fill.directory
    → is_for fill.directory.heap fill.class slots ≡ true
is_one f fill is slots right home = search (arith, and_from, eq-eqb)

-- ---- an actor whose local allocators are all of other directories has no right of a page of this one
no_right_in : (f : Profile) (v : View) (d : Directory) (test : Slots → Bool) → IsKind d.kind
    → ((slots : Slots) → slots.right ≡ true → home_of slots ≡ d → test slots ≡ true) → (locals : List Slots) → All (IsLocal f v) locals
    → list_any test locals ≡ false
    → (p : ℕ) → KnowsDeed p d v → any_keeps locals p ≡ false
no_right_in f v d test is all_there [] all none p of = refl
no_right_in f v d test is all_there (first ∷ rest) all none p of =
    let others = or_parts _ _ none in
    let at : IsLocal f v first = All-head (IsLocal f v) first rest all in
    or_from _ _ (false_from_ne_true _ (λ keeps.
    let both = and_parts first.right (first.page == p) keeps in
    true≢false (sym (all_there first both.0 (same_from_deed_word _ d at.directory.kind is (sym at.deed ∙ (ap (known_deed v) (eqb-true first.page p both.1) ∙ of)))) ∙ others.0)))
    (no_right_in f v d test is all_there rest (All-tail (IsLocal f v) first rest all) others.1 p of)

-- nor of a page of a kind that no class has
no_test : (locals : List Slots) → list_any (λ (s : Slots). false) locals ≡ false
no_test [] = refl
no_test (s ∷ rest) = no_test rest

-- A thread keeps no page of a directory whose kind is that of no class.
pub no_right_of : (f : Profile) (v : View) (d : Directory) → IsKind d.kind → ((shared : Bool) (class : ℕ) → kind_of_class shared class ≡ d.kind → ⊥)
    → (locals : List Slots) → All (IsLocal f v) locals → (p : ℕ) → KnowsDeed p d v → any_keeps locals p ≡ false
no_right_of f v d is no_class locals known p of = no_right_in f v d (λ s. false) is
    (λ slots right home. absurd (no_class (not slots.right) slots.class (ap (λ (h : Directory). h.kind) home))) _ known (no_test locals) p of

-- A cache that rests without a local allocator of the heap and class may search the pages of the class's home.
pub may_search : (f : Profile) (v : View) (fill : Filling) (locals : List Slots) → IsFilling f fill → local_for fill.directory.heap fill.class locals ≡ None
    → RestsWith f locals v → MaySearch fill.directory v
may_search f v fill locals is none h = record {
  rights = λ p of. h.rights p ∙ no_right_in f v fill.directory _ is.directory.kind (is_one f fill is) locals h.known (none_found _ locals none).any p of;
  clear = h.clear;
}

-- A cache that may obtain slots has room for the search that a refill makes.
pub search_call : {σ : Standing} {n spare : ℕ} (fill : Filling) (locals : List Slots) → IsFilling σ.seat.profile fill
    → local_for fill.directory.heap fill.class locals ≡ None → CanCall σ (MayObtain σ.seat.profile n spare locals)
    → CanCall σ (SearchRoom σ.seat.profile fill.directory n spare)
search_call {σ} fill locals is none can = can_call adds_none can (λ v l stood met. record { may = may_search _ v _ _ is none met.rest; room = met.room })

-- ---- what a refill says, by its answer
refill_of : {σ σ' : Standing} (fill : Filling) (tells : Bool) (answer : Result Slots NoRoom) → (h : Refills fill tells σ σ' answer)
    → IsRefill fill σ.seat.profile (h.after ++ h.searched) answer
refill_of fill tells answer h = record { searched = h.searched; searches = h.searches; few = h.few; after = h.after; outcome = h.outcome; steps_are = refl }

-- the one that is cached for the heap and the class is at home in its directory
cached_home : (f : Profile) (v : View) (fill : Filling) → IsFilling f fill → (slots : Slots) → IsLocal f v slots
    → is_for fill.directory.heap fill.class slots ≡ true → home_of slots ≡ fill.directory
cached_home f v fill is slots at for = search (arith, and_parts, eqb-true, not-not, same_parts)

-- ---- what it does to what the actor holds and has
refill_leads : {fill : Filling} {f : Profile} {steps : List Made} {slots : Slots} → IsRefill fill f steps (Ok slots)
    → Leads f (MaySearch fill.directory) (GetsSlots fill.directory slots) steps
refill_leads {fill} {f} {slots = slots} h = subst (Leads f (MaySearch fill.directory) (GetsSlots fill.directory slots)) (sym h.steps_are) h.outcome.gets

-- the steps of a refusal are those of the search alone
pub refused_steps : {fill : Filling} {f : Profile} {steps : List Made} {room : NoRoom} → (h : IsRefill fill f steps (Err room)) → h.searched ≡ steps
refused_steps h = sym (h.steps_are ∙ ap (λ xs. xs ++ h.searched) h.outcome.1)

-- A refill that was refused is a refused search.
pub refusal : {fill : Filling} {f : Profile} {steps : List Made} {room : NoRoom} → IsRefill fill f steps (Err room)
    → IsRefused fill.no_fit f fill.directory steps room
refusal {fill} {f} {room = room} h = subst (λ xs. IsRefused fill.no_fit f fill.directory xs room) (refused_steps h) h.outcome.0

-- ---- the actor is at rest with the slots that were found besides
-- A refill leaves its actor at rest with the slots that it found, if any, before the others.
pub rests_refilled : (f : Profile) (fill : Filling) (locals : List Slots) → IsFilling f fill → local_for fill.directory.heap fill.class locals ≡ None
    → (steps : List Made) (v : View) → RestsWith f locals v → Agreed f v steps
    → (answer : Result Slots NoRoom) → IsRefill fill f steps answer → RestsWith f (cons_option (result_ok answer) locals) (steps ++ v)
rests_refilled f fill locals is none steps v h agreed (Ok slots) refill =
    let d : Directory = fill.directory in
    let s = refill.outcome in
    let heap : slots.heap ≡ d.heap = ap (λ x. x.heap) s.home in
    let gains : GetsSlots d slots v (steps ++ v) = (refill_leads refill).from v (may_search f v fill locals is none h) agreed in
    rests_gained f d slots locals steps v h gains agreed
    (search (arith, kept_by))
    (ap (λ n. local_for n slots.class locals) heap ∙ (ap (λ n. local_for d.heap n locals) s.class_is ∙ none))
    (λ later page at. no_right_in f _ d _ is.directory.kind (is_one f fill is) locals later (none_found _ locals none).any page
    (subst (λ p. KnowsDeed p d (steps ++ v)) (eqb-true slots.page page at) gains.may_stop.deed))
rests_refilled f fill locals is none steps v h agreed (Err room) refill = rests_kept f _ _ v ((refusal refill).still.from v (may_search f v fill locals is none h) agreed) agreed h

-- ==== Which events a refill makes, and how many.

-- ---- a deed that was made wasn't known before
made_unknown : (no_fit : Readings → Type 0) (f : Profile) (d : Directory) (page : ℕ) (steps : List Made) (v : View) → Agreed f v steps
    → Once (DeedMadeHere no_fit f d page) steps → known_deed v page ≢ 0 → ⊥
made_unknown no_fit f d page [] v agreed h some = h
made_unknown no_fit f d page (m ∷ more) v agreed (inl h) some = search (arith, deed_stays)
made_unknown no_fit f d page (m ∷ more) v agreed (inr h) some = made_unknown no_fit f d page more v agreed.1 h some

zero_from : (n : ℕ) → (n ≢ 0 → ⊥) → n ≡ 0
zero_from n h = elim (cases_eq n 0) [ inl e ↦ e | inr ne ↦ absurd (h ne) ]

-- ---- the events of a refill
-- the leave makes none
pub refill_events : {fill : Filling} {f : Profile} {steps : List Made} {slots : Slots} → (h : IsRefill fill f steps (Ok slots)) → (k : ℕ) (v : View)
    → events_by k v steps ≡ events_by k v h.searched
refill_events h k v = ap (events_by k v) h.steps_are ∙ events_same returning refl k v h.after h.searched h.outcome.after_kinds

-- where a page was chosen so, and its deed is known in the end
pub chosen_few : (no_fit : Readings → Type 0) (f : Profile) (d : Directory) (page : ℕ) (searched steps : List Made) → IsPage f page
    → FromOffered no_fit d page searched ⊎ ByDeed no_fit f d page searched → FewEvents f d 1 searched → (k : ℕ) (v : View) → Agreed f v searched
    → Agreed f v steps
    → KnowsDeed page d (steps ++ v) → (n : ℕ) → length (events_by k v steps) ≤ length (events_by k v searched) + n → IsFew f (1 + n) k steps v
chosen_few no_fit f d page searched steps is choice few k v agreed all deed n more =
    search (arith, unknown_no_more, zero_from, made_unknown, unknown_less, deed_word_of-positive)

-- Quiet steps make few events, as they make none.
pub silent_few : (f : Profile) (k : ℕ) (steps : List Made) (v : View) → AreQuiet steps → Agreed f v steps → IsFew f 1 k steps v
silent_few f k steps v quiet agreed = search (arith, events_quiet, unknown_no_more)

found_few : (fill : Filling) (f : Profile) (steps : List Made) (found : Result Slots NoRoom) → IsRefill fill f steps found → (k : ℕ) (v : View)
    → MaySearch fill.directory v → Agreed f v steps → IsFew f 1 k steps v
found_few fill f steps (Ok slots) h k v may agreed =
    let s = h.outcome in
    let same = ap length (refill_events h k v) in
    chosen_few fill.no_fit f fill.directory slots.page h.searched _ s.page s.choice s.few k v (agreed_later f v h.after h.searched
    (subst (Agreed f v) h.steps_are agreed)) agreed ((refill_leads h).from v may agreed).may_stop.deed 0 (omega (arith, same))
found_few fill f steps (Err room) h k v may agreed = silent_few f k steps v (refusal h).quiet agreed

-- after steps without events
refill_few : (fill : Filling) (f : Profile) (ys xs : List Made) (found : Result Slots NoRoom) → IsRefill fill f ys found → Only releasing xs
    → (k : ℕ) (v : View) → MaySearch fill.directory (xs ++ v) → Agreed f v (ys ++ xs) → IsFew f 1 k (ys ++ xs) v
refill_few fill f ys xs found refill kinds k v may agreed =
    let here = found_few fill f ys found refill k _ may (agreed_first f v ys xs agreed) in
    let before = unknown_no_more f xs v (agreed_later f v ys xs agreed) in
    let split : length (events_by k v (ys ++ xs)) ≡ length (events_by k (xs ++ v) ys) + length (events_by k v xs) = ap length (events_append k ys xs v) ∙ length-append _ _ in
    let none : length (events_by k v xs) ≡ 0 = ap length (no_events releasing refl k v xs kinds) in
    let same : unknown_pages f ((ys ++ xs) ++ v) ≡ unknown_pages f (ys ++ (xs ++ v)) = ap (unknown_pages f) (append_assoc ys xs v) in
    record { paid = omega (arith, here.paid, before, split, none, same); most = omega (arith, here.most, split, none) }

-- ---- which events
one_prepared : (d : Directory) (k page epoch : ℕ) (s : Step) (a : ℕ) (e : Event) → IsDeedOrBack d page s → event_of k epoch s a ≡ Some e → IsPreparing d e
one_prepared d k page epoch s a e IsDeedOrBack.Deeds is = subst (IsPreparing d) (cond_some (a == 0) (Event.Deed k page d) e is).1 (IsPreparing.Deeds k page)
one_prepared d k page epoch s a e IsDeedOrBack.Backs is = subst (IsPreparing d) (cond_some (a == 0) (Event.Back k page) e is).1 (IsPreparing.Backs k page)

-- The events of a search at one page are deeds of its directory and backs.
pub prepared : (d : Directory) (page : ℕ) (steps : List Made) → EventsAt d page steps → (k : ℕ) (v : View)
    → AllByRecursion (IsPreparing d) (events_by k v steps)
prepared d page steps at k v = each_event _ (λ m before. IsQuiet m ⊎ IsDeedOrBack d page m.step) k v
    (λ m before epoch e which is. elim which [ inl quiet ↦ absurd (none-some e (sym (quiet k epoch) ∙ is)) | inr some ↦ one_prepared d k _ _ _ _ e some is ]) _ at

-- Where no page fits after a local allocator was released, none fitted before.
pub no_fit_before : (no_fit : Readings → Type 0) (f : Profile) (d : Directory) (k : ℕ) (xs : List Made) (l : Whole) → IsAntitone no_fit → Only releasing xs
    → HasNoFit no_fit f d (triples k xs ++ l) → HasNoFit no_fit f d l
no_fit_before no_fit f d k xs l fewer are none = record {
  offered = λ page o. none.offered page (record {
    of_region = o.of_region;
    offered = offered_stays releasing refl k xs l _ _ _ are o.offered;
    fits = λ unfit. o.fits (fewer (free_of_page (triples k xs ++ l) page) (free_of_page l page) (λ b lt h. free_stays releasing refl k xs l _ _ _ are h) unfit);
  });
  bare = λ page b. none.bare page (record { of_region = b.of_region; no_deed = deed_same releasing refl k xs l page are ∙ b.no_deed });
}

-- ==== Cached slots, or those of a refill.

-- ---- what is taken out
none_in : (heap class : ℕ) (locals others : List Slots) → others ≡ others_than heap class locals → local_for heap class others ≡ None
none_in heap class locals others is = ap (local_for heap class) is ∙ none_left (is_for heap class) locals

module _ {heap class : ℕ} {locals : List Slots} {place : ℕ} (d : Slots) (one : HasOneEach locals) (at : IsPlaceOf heap class locals place) where
  -- The local allocator of the class is the one at this place, and the others are the rest.
  placed : (local_for heap class locals ≡ Some (get_or locals place d)) × (others_than heap class locals ≡ remove locals place)
  placed = at_place (is_for heap class) locals place d at.within (at.serves d) (one heap class)

  -- A local allocator with a slot, moved to the end of its list, brings a cached slot.
  pub brings : (locals' : List Slots) → HasMember (get_or locals place d).starts → locals' ≡ remove locals place ++ get_or locals place d ∷ []
      → BringsCached heap class locals locals'
  brings locals' some is = record { slots = get_or _ place d; cached = placed.0; some = some; last = is ∙ ap (λ xs. xs ++ get_or locals place d ∷ []) (sym placed.1) }

  -- A local allocator without a slot leaves none cached of its heap and class.
  pub none_cached : IsEmpty (get_or locals place d).starts → HasNoneCached heap class locals
  none_cached empty other found some = search (arith, placed, true≢false)

none_empty : (slots : Slots) → (HasMember slots.starts → ⊥) → IsEmpty slots.starts
none_empty slots none g lt = elim (cases_Bool (is_set slots.starts g)) [ inl set ↦ absurd (none (g, lt, set)) | inr clear ↦ clear ]

-- ---- one without a slot is left
no_set : (slots : Slots) (g : ℕ) → IsClass slots.class → IsEmpty slots.starts → g < 256 → is_set slots.starts (start_of slots.class g) ≡ true → ⊥
no_set slots g is empty lt set =
    true≢false (sym set ∙ empty (start_of slots.class g) (omega (arith, (start_below slots.class g is).0, lt)))

spent_leaves : (slots : Slots) (steps : List Made) → IsClass slots.class → IsEmpty slots.starts → StopStepsAt (home_of slots) slots steps
    → LeavesWhere slots.right slots.page (home_of slots) steps
spent_leaves slots steps is empty h = search (arith, no_set, append-nil)

-- The spent local allocator of a heap and class that was stopped is taken out.
pub leaves_spent : {σ σ1 : Standing} (heap class : ℕ) {locals others : List Slots} {place : ℕ} → IsPlaceOf heap class locals place
    → HasNoneCached heap class locals → CanCall σ (RestsWith σ.seat.profile locals) → StopsPlace place locals others σ σ1
    → Releases (IsTakenOut heap class locals others) locals others σ σ1
leaves_spent heap class {locals} {others} {place} at none can h =
    let slots : Slots = h.slots in
    let p = placed slots can.met.apart.one_each at in
    let found : local_for heap class locals ≡ Some slots = p.0 ∙ ap (λ s. Some s) (sym h.at) in
    let small : IsClass slots.class = subst (λ (s : Slots). IsClass s.class) (sym h.at) (can.met.known place slots at.within).class in
    let empty : IsEmpty slots.starts = none_empty slots (none slots found) in
    releases_as h.stops (λ steps one. record { left = subst (λ o. LeavesSpent o steps) (sym found) (empty, spent_leaves _ _ small empty one.order); others = h.fewer ∙ sym p.1; few = one.few })

-- Where a list has no local allocator of a heap and class, none is taken out.
pub leaves_none : {σ : Standing} (heap class : ℕ) {locals : List Slots} → list_any (is_for heap class) locals ≡ false
    → Releases (IsTakenOut heap class locals locals) locals locals σ σ
leaves_none heap class {locals} none = search (arith, none_any, releases_none)

-- Where no local allocator of a heap and class is found, none is cached.
pub none_at_all : (heap class : ℕ) (locals : List Slots) → None ≡ local_for heap class locals → HasNoneCached heap class locals
none_at_all heap class locals none other at some = cc

-- ---- and the list is shortened
none_first : (heap class : ℕ) (first : Slots) (rest : List Slots) → local_for heap class (first ∷ rest) ≡ None → local_for heap class rest ≡ None
none_first heap class first rest none = grind arith

none_stopped : (heap class : ℕ) (full : Bool) (locals kept : List Slots) (steps : List Made) → StopsFirst full locals kept steps
    → local_for heap class locals ≡ None → local_for heap class kept ≡ None
none_stopped heap class full locals kept steps h none = grind (arith, none_first)

-- Once the spent one was taken out and the list shortened, none of the heap and class is left.
pub none_shortened : {heap class : ℕ} {locals others fewer : List Slots} {spent stopped : List Made} → IsTakenOut heap class locals others spent
    → IsShortened others fewer stopped → local_for heap class fewer ≡ None
none_shortened {heap} {class} {locals} {others} {fewer} {spent} {stopped} taken short = none_stopped _ _ _ _ fewer stopped short.first (none_in _ _ _ _ taken.others)

-- A list of which the spent one was taken out, and which was shortened then, has place.
pub makes_place : {σ σ1 σ2 : Standing} (heap class : ℕ) (locals others fewer : List Slots) → Releases (IsTakenOut heap class locals others) locals others σ σ1
    → Releases (IsShortened others fewer) others fewer σ1 σ2 → Releases (MakesPlace heap class locals fewer) locals fewer σ σ2
makes_place heap class locals others fewer one two =
    let n = length-append two.steps one.steps in
    releases_then _ _ one _ _ two (record { spent = one.steps; kept = others; taken = one.change; stopped = two.steps; shortened = two.change; steps_are = refl; few = omega (arith, n, one.change.few, two.change.few) })

-- ---- the slots that serve the request
abbrev pub obtain_rests : {σ : Standing} {n spare : ℕ} {locals : List Slots} → CanCall σ (MayObtain σ.seat.profile n spare locals)
    → CanCall σ (RestsWith σ.seat.profile locals)
obtain_rests can = record { view = can.view; whole = can.whole; stood = can.stood; met = can.met.rest }

-- the same room after place was made
pub obtain_after : {σ σ1 : Standing} {n spare spare1 : ℕ} {Change : List Made → Type 0} (locals fewer : List Slots) → Releases Change locals fewer σ σ1
    → spare1 ≡ spare → CanCall σ (MayObtain σ.seat.profile n spare locals) → CanCall σ1 (MayObtain σ1.seat.profile n spare1 fewer)
obtain_after {σ} {σ1} {n} {spare} {spare1} locals fewer one same can = can_call (adds_under one.calls.adds (λ v l stood met. met.rest)) can (λ v l stood met.
    let f : Profile = σ.seat.profile in
    let ok : Agreed f v one.steps = one.calls.adds.agreed v l stood met.rest in
    subst (λ (s : Seat). MayObtain s.profile n spare1 fewer (one.steps ++ v)) (sym one.calls.adds.seat_is)
    (record { rest = one.calls.leads.from v met.rest ok; room = subst (λ m. HasRoom f n m (one.steps ++ v)) (sym same) (room_after f n _ one.steps v ok met.room) }))

-- the profile is the same after place was made
pub filling_then : {σ σ1 : Standing} {fill : Filling} {First : List Made → Type 0} {locals fewer : List Slots} → Releases First locals fewer σ σ1
    → IsFilling σ.seat.profile fill → IsFilling σ1.seat.profile fill
filling_then {fill = fill} one is = subst (λ (s : Seat). IsFilling s.profile fill) (sym one.calls.adds.seat_is) is

-- a cached one that was brought to the end
pub obtains_cached : {σ : Standing} (fill : Filling) (tells : Bool) (locals locals' : List Slots) → IsFilling σ.seat.profile fill
    → CanCall σ (RestsWith σ.seat.profile locals) → length locals ≤ 32 → BringsCached fill.directory.heap fill.class locals locals'
    → StandsLast fill tells locals locals' σ σ
obtains_cached {σ} fill tells locals locals' is can fits cached =
    let heap : ℕ = fill.directory.heap in
    let class : ℕ = fill.class in
    let slots : Slots = cached.slots in
    let others : List Slots = others_than heap class locals in
    let passes = found_passes _ locals slots cached.cached in
    let moved : IsPermutation locals (slots ∷ others) = passes.without (can.met.apart.one_each heap class) in
    let pair = and_parts (slots.heap == heap) (slots.class == class) passes.passes in
    record {
      fewer = others;
      slots = slots;
      obtains = record {
        steps = [];
        calls = call_none (λ v h. rests_reordered _ locals _ moved v h);
        how = inl (slots, refl, record { cached = cached.cached; some = cached.some; fewer_are = refl; no_steps = refl });
        found_for = record {
          home = cached_home _ can.view _ is slots (here σ.seat.profile slots others can.view (rests_reordered σ.seat.profile locals (slots ∷ others) moved can.view can.met)) passes.passes;
          class_is = eqb-true slots.class class pair.1;
          some = cached.some;
        };
        place = omega (arith, length_permutation locals (slots ∷ others) moved, fits);
        few = λ k v h agreed. record { paid = omega arith; most = omega arith };
        told = λ t v l stood h. tt;
      };
      last = cached.last;
    }

-- Slots that a refill brings, after place was made for them, are obtained.
pub obtains_refilled : {σ σ1 σ2 : Standing} (fill : Filling) (tells : Bool) (locals fewer : List Slots) (answer : Result Slots NoRoom)
    → IsFilling σ.seat.profile fill → HasNoneCached fill.directory.heap fill.class locals
    → Releases (MakesPlace fill.directory.heap fill.class locals fewer) locals fewer σ σ1 → local_for fill.directory.heap fill.class fewer ≡ None
    → length fewer < 32 → Refills fill tells σ1 σ2 answer → Obtains fill tells locals fewer σ σ2 answer
obtains_refilled {σ} {σ1} {σ2} fill tells locals fewer answer is cached one none place two =
    let f : Profile = σ.seat.profile in
    let k : ℕ = σ.seat.actor in
    let xs : List Made = one.steps in
    let ys : List Made = two.after ++ two.searched in
    let e : σ1.seat ≡ σ.seat = one.calls.adds.seat_is in
    let there : IsFilling σ1.seat.profile fill = filling_then one is in
    let refill : IsRefill fill f ys answer = subst (λ (s : Seat). IsRefill fill s.profile ys answer) e (refill_of fill tells answer two) in
    record {
      steps = ys ++ xs;
      calls = search (arith, rests_then, adds_under, may_search, rests_refilled, refill_of);
      how = inr (record { before = xs; place = one.change; gives_back = one.kinds; rests = one.calls.leads; searched = ys; refill = refill; steps_are = refl });
      found_for = grind arith;
      place = place;
      few = λ n v h agreed. refill_few _ f ys xs _ refill one.kinds n v (may_search f _ _ fewer is none (one.calls.leads.from v h (agreed_later f v ys xs agreed))) agreed;
      told = λ t v l stood h.
          let middle : Whole = triples k xs ++ l in
          let may = may_search f _ fill fewer is none (one.calls.leads.from v h (one.calls.adds.agreed v l stood h)) in
          let told = subst (λ (s : Seat). IsTold (λ (x : Slots). x.page) fill.no_fit s.profile fill.directory middle (triples s.actor ys ++ middle) answer) e
          (two.told t (xs ++ v) middle (one.calls.adds.added v l stood h) may) in
          subst (λ x. IsToldOf fill f locals l x answer) (triples_append k ys xs l)
          (grind (arith, no_fit_before fill.no_fit f fill.directory k xs l is.fewer one.kinds));
    }
