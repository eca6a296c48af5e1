-- What a request promises.
use Rattle.std.proofs.Common.{[], ◌≡◌, ℕ, ◌+◌, ◌-◌, ◌<◌, ◌≤◌, ◌++◌, Bool, List, ◌∷◌, length, Option, Some, None, Result, Ok, Err, inl, inr, refl, ap, sym, ◌∙◌}
use Rattle.std.proofs.Common.{subst, arith, ◌*◌, ◌/◌, ◌%◌, max, MatchResult, true, false, if◌then◌else◌, nat_le, le-leb, length-append, append_assoc, leb-true}
use Rattle.std.proofs.{lemmas.Bool.cases_lt, Math.Nat.{mul-mod_left, mod-add-div', mul_assoc}}
use Rattle.pas_answers.proofs.Common.{same_Some, deed_word_of, address_of, grain_of, length_of, IsAlignment, entry_of, IsValid, IsAdmitted, Profile, Directory}
use Rattle.pas_answers.proofs.Common.{Route, Event, NoRoom, Block, Name, Entry, Made, View, Agreed, events_by, Standing, CanCall, Whole, part, Legal}
use Rattle.pas_answers.proofs.Common.{agreed_first, agreed_later, adds_none, can_call, unknown_no_more, Spares, spare_falls, events_append, call_none}
use Rattle.pas_answers.proofs.Common.{call_then, next_call, Request, Task, What, Alloc, Free, FreeSized, Remake, Stop, Work, cost_of_size, IsRoomNamed}
use Rattle.pas_answers.proofs.Common.{large_cost, Cached, AtRest, EmptiesFull, AllocatesPages, TakesEntry, Wanted, wanted_for, pages_of, is_large, pages_asked}
use Rattle.pas_answers.proofs.Common.{named as the_name, block_of, said_by, IsGiven, Named, standing_for, entry_with, having, Answer, request_for, IsRemadeBy}
use Rattle.pas_answers.proofs.Common.{IsAnswered, IsNamedFor, request_made, IsFitWhat, what_of, IsBlockOf, MayStand, PerformsMeant, block_behind, IsMeant}
use Rattle.pas_answers.{proofs.{Common.{IsKnown, named_by, EndedRun, Said}, SingleActs.task_of}, specs.Fit.{cost_of_what, IsFitTask, IsFitWork}}
use Rattle.pas_answers.specs.{Answers.{answer_of, said_of_request, RefusalEnds, RequestEnds, suits, said_of_room}, Indexes.unless_suited, Calls.owed_events}
use Rattle.pas_answers.specs.{Calls.{MayPerform, Serves, events_for, FreesOne}, Moves.{flush_of_full, MayMove, Moves}}
use Rattle.pas_steps.{specs.{Views.KnowsDeed, Lists.visible}, proofs.{Unknown.{has_room, none_unknown}, Called.call_as}}
use Rattle.pas_trace.{specs.{declared.plan.What.TheVariants.{Raw, Flush}, Asked.cost_of_task}, proofs.{Costs.{small_cost, some_cost}, Rooms.room_named}}
use Rattle.pas_profile.specs.{Directories.IsDirectory, Profiles.{IsPage, IsDirectoryOf}, declared.event.FreeFault.FreeFault, Routes.{room_by, IsRouteOf}}
use Rattle.pas_profile.{specs.Requests.{route_in, room_in}, proofs.{Sizes.{route_is, class_known, class_size_whole}, Codecs.directory_from_profile}}
use Rattle.pas_profile.proofs.Codecs.{deed_word_of-positive}
use Rattle.pas_cache.specs.Calls.{Allocates, most_events, IsNamed, MayRequestBy, MayRequest, AllocatesBy, AllocatesRequest, Frees, FlushesLog, StopsCache}
use Rattle.pas_cache.specs.{Calls.Rests, Serves.{IsBlockFor, IsSilent, MakesFew, MakesAtMost, MakesDeedsOf}, Names.{IsInRegion, IsFaultOf}}
use Rattle.pas_cache.{specs.declared.moving.Moved.{TheVariants.{Kept, New}, Moved}, proofs.Routes.{is_small, small_may, small_did, none_named}}
use Rattle.pas_cache.proofs.Budget.{log_kept, emptied_events}
use Rattle.pas_bits.proofs.Runs.{first_of_run}
use Rattle.pas_bitfit.proofs.Aligned.{sixteens}
use Rattle.pas_machine.specs.State.{deed_in}
use Rattle.pas_core.{specs.Good.word_of_deed, proofs.{Deeds.{known_is, deed_of, directory_is_of}, Rights.deeds_known}}

-- ---- what a request asks
-- An operation that makes a request may ask its thread's cache for it.
pub can_request : {σ : Standing} (c : Cached) (name heap size align spare : ℕ) → CanCall σ (MayPerform σ.seat.profile c (Alloc name heap size align) spare)
    → CanCall σ (MayRequest σ.seat.profile (wanted_for σ.seat.profile heap size align) c spare)
can_request {σ} c name heap size align spare can = can_call adds_none can (λ v l stood met.
    let f = σ.seat.profile in
    elim (cases_lt 2048 size) [
      | inl large ↦
          search (arith, is_large, large_cost, pages_asked)
      | inr small ↦ small_may (room_in f size align / 4096) (route_in f size align) (is_small f.classes size align small)
          (record { rest = met.rest; room = has_room f 2 spare v (omega (arith, met.room, small_cost size small)) })
    ])

-- ---- how it was served
silent_ends : (r : Route) (d : Directory) (es : List Event) → es ≡ [] → RefusalEnds r d es
silent_ends route d es none = search arith

-- by cases
small_few : (f : Profile) (w : Wanted) (Meets : View → Type 0) (steps : List Made) (cost : ℕ) (answer : Result Block NoRoom) → cost ≡ 2
    → MakesFew f Meets 2 steps → MatchResult answer (IsBlockFor f w Meets steps) (λ room. IsSilent steps)
    → MakesAtMost f Meets (events_for cost answer) steps
small_few f w Meets steps cost answer two few of = search (arith, unknown_no_more)

serves_small : {σ σ' : Standing} {answer : Result Block NoRoom} {tells : Bool} (c c' : Cached) (heap size align : ℕ) → size ≤ 2048
    → Allocates (wanted_for σ.seat.profile heap size align) tells c c' σ σ' answer
    → Serves (cost_of_size size) (wanted_for σ.seat.profile heap size align) None c c' σ σ' answer
serves_small {σ} {σ'} {answer} c c' heap size align small call =
    search (arith, small_few, small_cost, silent_ends, log_kept)

-- by cases
pages_ends : (f : Profile) (w : Wanted) (Meets : View → Type 0) (steps : List Made) (answer : Result Block NoRoom) → w.route ≡ Route.Large
    → MatchResult answer (IsBlockFor f w Meets steps) (λ room. MakesDeedsOf w.directory steps)
    → MatchResult answer (IsBlockFor f w Meets steps) (λ room. (k : ℕ) (v : View) → RefusalEnds w.route w.directory (events_by k v steps))
pages_ends f w Meets steps answer large of = search arith

-- by cases
most_same : (n cost : ℕ) (answer : Result Block NoRoom) → cost ≡ n + 1 → most_events n answer ≡ events_for cost answer
most_same n cost answer same = search arith

serves_pages : {σ σ' : Standing} {answer : Result Block NoRoom} {found : Option ℕ} {tells : Bool} (c c' : Cached) (heap size align : ℕ) → 2048 < size
    → AllocatesPages (wanted_for σ.seat.profile heap size align) found tells c c' σ σ' answer
    → Serves (cost_of_size size) (wanted_for σ.seat.profile heap size align) found c c' σ σ' answer
serves_pages {σ} {σ'} {answer} {found} c c' heap size align large call = search (arith, large_cost, pages_asked, is_large, most_same, pages_ends, log_kept)

-- by its route
pub serves : {σ σ' : Standing} {answer : Result Block NoRoom} {Answers : Option ℕ → Type 0} {Same : Type 0} {tells : Bool} (c c' : Cached) (heap size align : ℕ)
    → (r : AllocatesRequest Answers Same (wanted_for σ.seat.profile heap size align) tells c c' σ σ' answer)
    → Serves (cost_of_size size) (wanted_for σ.seat.profile heap size align) r.found c c' σ σ' answer
serves {σ} {σ'} {answer} {Answers} {Same} {tells} c c' heap size align r =
    search (arith, cases_lt, serves_pages, is_large, is_small, none_named, serves_small, small_did)

-- the request
abbrev pub asking : ℕ → ℕ → ℕ → ℕ → Request
asking name heap size align = record { name = name; heap = heap; size = size; align = align }

-- The run that a door named for a request by its route is named so for the operation.
named_for : (f : Profile) (name heap size align : ℕ) (Answers : ℕ → ℕ → Option ℕ → Type 0) (Same : Type 0) (found : Option ℕ)
    → IsNamed (route_in f size align) (Answers heap ((size + 4096 - 1) / 4096)) Same found
    → IsNamedFor f Answers Same (Some (asking name heap size align)) found
named_for f name heap size align Answers Same found named = search (arith, pages_asked)

-- ---- the directory
-- a deed word of a directory is of that one
directory_is : (o : Option Directory) (d : Directory) → IsDirectory d → ((x : Directory) → o ≡ Some x → IsDirectory x) → word_of_deed o ≡ deed_word_of d
    → o ≡ Some d
directory_is o d is all word = grind arith

-- a deed that an actor knows is the page's deed
pub known_directory : (f : Profile) (l : Whole) (k page : ℕ) (d : Directory) → IsValid f → Legal f l → IsDirectoryOf f d → KnowsDeed page d (part k l)
    → deed_in (visible l) page ≡ Some d
known_directory f l k page d valid legal of knows =
    search (arith, deed_word_of-positive, directory_is, directory_from_profile, directory_is_of, deed_of, known_is, deeds_known)

-- ---- its block
some_grains : (classes size align : ℕ) (route : Route) → IsRouteOf classes size align route → 0 < room_by route (max size 1) / 16
some_grains classes size align route is = search (arith, class_size_whole, class_known)

-- a multiple of an alignment is one of 16
sixteenth : (a align : ℕ) → IsAlignment align → a % align ≡ 0 → a % 16 ≡ 0
sixteenth a align is at =
    let whole : align / 16 * 16 ≡ align = let m = sixteens align is in omega (arith, m) in
    let bytes : a ≡ a / align * align = let m = mod-add-div' a align in omega (arith, m, at) in
    ap (λ n. n % 16) (bytes ∙ ap (λ n. a / align * n) (sym whole) ∙ sym (mul_assoc (a / align) (align / 16) 16)) ∙ mul-mod_left (a / align * (align / 16)) 16

-- a block that was given may be freed or reallocated
block_stands : (f : Profile) (c : Cached) (heap size align : ℕ) (steps : List Made) (block : Block) (v : View) → IsValid f → IsAdmitted f size align heap
    → AtRest f c v → Agreed f v steps → IsBlockFor f (wanted_for f heap size align) (AtRest f c) steps block → MayStand f (Some block)
block_stands f c heap size align steps block v valid admitted rest agreed of =
    let some = some_grains f.classes size align (route_in f size align) (route_is f.classes size align) in
    let page = of.of_region (grain_of block.name) (first_of_run (grain_of block.name) (length_of block) (omega (arith, some, ap (λ n. n / 16) of.room))) in
    let same : grain_of block.name / 256 ≡ address_of block.name / 4096 = omega arith in
    λ b is. subst (IsBlockOf f) (same_Some _ _ is) record {
      region = record { page = subst (IsPage f) same page; aligned = sixteenth (address_of block.name) align admitted.aligned of.aligned };
      room = subst (λ n. IsRoomNamed f (Some n)) (sym of.room) (room_named f size align valid admitted.within);
      heap = omega (arith, of.of_heap, admitted.of_profile);
      turn = omega (arith, of.turn.from v rest agreed);
    }

-- The block of a request that was served may stand for its name in the region.
pub given_stands : {σ σ' : Standing} {found : Option ℕ} (c c' : Cached) (name heap size align spare : ℕ) (block : Block)
    → IsValid σ.seat.profile → IsAdmitted σ.seat.profile size align heap
    → CanCall σ (MayPerform σ.seat.profile c (Alloc name heap size align) spare)
    → Serves (cost_of_size size) (wanted_for σ.seat.profile heap size align) found c c' σ σ' (Ok block) → MayStand σ.seat.profile (Some block)
given_stands {σ} c c' name heap size align spare block valid admitted can call =
    block_stands σ.seat.profile c heap size align call.steps block can.view valid admitted can.met.rest (call.calls.adds.agreed can.view can.whole can.stood can.met.rest) call.outcome

-- what is known of its give, by one view
is_given : (f : Profile) (k : ℕ) (w : Wanted) (c : Cached) (steps : List Made) (block : Block) (v : View) → AtRest f c v → Agreed f v steps
    → IsBlockFor f w (AtRest f c) steps block → IsGiven k w v steps block
is_given f k w c steps block v rest agreed of =
    let deeds = of.deeds.from v rest agreed in
    let made = of.events k v in
    search arith

-- ---- a request
module _ (σ σ' : Standing) (c c' : Cached) (name heap size align : ℕ) (found : Option ℕ) where
  abbrev Served : Result Block NoRoom → Type 0
  Served answer = Serves (cost_of_size size) (wanted_for σ.seat.profile heap size align) found c c' σ σ' answer

  abbrev IsPaid : Result Block NoRoom → List Made → View → Type 0
  IsPaid answer steps v = length (events_by σ.seat.actor v steps) + length (said_by σ.seat.actor (said_of_request name answer)) + owed_events σ.seat.profile c'
      (steps ++ v) ≤ cost_of_size size + owed_events σ.seat.profile c v

  -- The events of a request are paid for.
  paid : (answer : Result Block NoRoom) (call : Served answer) (v : View) → AtRest σ.seat.profile c v → Agreed σ.seat.profile v call.steps
      → IsPaid answer call.steps v
  paid answer call v rest agreed = search (arith, some_cost)

  -- A request ends as it should, whatever its answer.
  ends : (answer : Result Block NoRoom) (call : Served answer) (v : View) (l : Whole) → σ.stands v l → AtRest σ.seat.profile c v
      → RequestEnds σ.seat.actor (wanted_for σ.seat.profile heap size align) v call.steps answer
  ends (Ok block) call v l stood rest = is_given σ.seat.profile σ.seat.actor (wanted_for σ.seat.profile heap size align) c call.steps block v rest (call.calls.adds.agreed v l stood rest) call.outcome
  ends (Err room) call v l stood rest = call.outcome σ.seat.actor v

  -- A request that its cache served or refused performs what the operation means, with the run that was named for it.
  pub performs_request : (answer : Result Block NoRoom) (meant : Option Block) (Answers : ℕ → ℕ → Option ℕ → Type 0) (Same : Type 0) → Served answer
      → IsNamed (route_in σ.seat.profile size align) (Answers heap ((size + 4096 - 1) / 4096)) Same found
      → (did : PerformsMeant (Alloc name heap size align) meant (block_of answer) c c' σ σ' (said_of_request name answer))
      × IsNamedFor σ.seat.profile Answers Same (request_made (Alloc name heap size align) meant) did.found
  performs_request answer meant Answers Same call named = (
    record {
      steps = call.steps;
      found = found;
      calls = call.calls;
      few = paid answer call;
      answered = λ v l stood rest names means known. record { rest = rest; answer = answer; serves = call.change; kinds = call.kinds; ends = ends answer call v l stood rest; said_is = refl; names_are = refl };
      others = λ none. absurd (let bad : the_name name (block_of answer) ∷ [] ≡ [] = none in cc);
    },
    named_for σ.seat.profile name heap size align Answers Same found named,
  )

-- ==== A block gets another size.

-- ---- the request
more_room : (route : Route) (f : Profile) (c : Cached) (n less spare : ℕ) (v : View) → less ≤ spare → MayRequestBy route f c n less v
    → MayRequestBy route f c n spare v
more_room route f c n less spare v le may = search arith

-- by cases
at_rest : (route : Route) (f : Profile) (c : Cached) (n spare : ℕ) (v : View) → MayRequestBy route f c n spare v → AtRest f c v
at_rest route f c n spare v may = search arith

-- Who may give a block another size may make the request for it.
pub can_serve : {σ : Standing} (c : Cached) (heap size align spare : ℕ) → CanCall σ (MayMove σ.seat.profile (wanted_for σ.seat.profile heap size align) c spare)
    → CanCall σ (MayRequest σ.seat.profile (wanted_for σ.seat.profile heap size align) c spare)
can_serve {σ} c heap size align spare can = search (arith, can_call, adds_none, more_room)

-- ---- what it leaves of the room
left_by : (σ σ1 : Standing) (route : Route) (wanted : Wanted) (found : Option ℕ) (tells : Bool) (c c1 : Cached) (block : Block) (less spare spare1 : ℕ)
    → AllocatesBy route wanted found tells c c1 σ σ1 (Ok block) → CanCall σ (MayRequestBy route σ.seat.profile c (pages_of wanted) less)
    → Spares σ spare → Spares σ1 spare1 → (spare ≤ spare1 + less) × (1 ≤ less)
left_by σ σ1 Route.Large wanted found tells c c1 block less spare spare1 did can law law1 =
    let v = can.view in
    let few = did.few σ.seat.actor v can.met.rest (did.calls.adds.agreed v can.whole can.stood can.met.rest) in
    let falls = spare_falls spare spare1 (length (events_by σ.seat.actor v did.steps)) did.calls.adds (record { view = v; whole = can.whole; stood = can.stood; met = can.met.rest }) law law1 refl in
    (omega (arith, falls, few, can.met.room), omega (arith, can.met.room))
left_by σ σ1 _ wanted found tells c c1 block less spare spare1 did can law law1 =
    let v = can.view in
    let few = did.few σ.seat.actor v can.met.rest (did.calls.adds.agreed v can.whole can.stood can.met.rest) in
    let falls = spare_falls spare spare1 (length (events_by σ.seat.actor v did.steps)) did.calls.adds (record { view = v; whole = can.whole; stood = can.stood; met = can.met.rest }) law law1 refl in
    let within : length (events_by σ.seat.actor v did.steps) ≤ less = elim can.met.room.1 [
      | inl all ↦ let none = none_unknown σ.seat.profile v all in omega (arith, few.paid, none, can.met.room.0)
      | inr more ↦ omega (arith, few.most, more)
    ] in
    (omega (arith, falls, within), omega (arith, can.met.room.0))

-- ---- what it comes to
-- A block that doesn't suit, and for which the request was refused, isn't moved.
pub leaves_block : {σ σ1 : Standing} (Answers : Option ℕ → Type 0) (Same : Type 0) (wanted : Wanted) (found : Option ℕ) (old : Block) (size align : ℕ)
    (c c1 : Cached) (room : NoRoom)
    → suits old size align ≡ false → IsNamed wanted.route Answers Same found → Serves (cost_of_size size) wanted found c c1 σ σ1 (Err room)
    → Moves Answers Same wanted old size align c c1 σ σ1 (Err room)
leaves_block Answers Same wanted found old size align c c1 room unsuited named s = record { steps = s.steps; calls = s.calls; moved = record { unsuited = unsuited; found = found; named = named; serves = s.change; kinds = s.kinds; few = s.few; ends = s.outcome; same_log = s.log_is } }

-- After the request there is room for the events of a full log, which its free empties.
pub room_to_free : {σ σ1 : Standing} {Answers : Option ℕ → Type 0} {Same : Type 0} {tells : Bool} (heap size align spare spare1 : ℕ) (c c1 : Cached)
    (block : Block)
    → AllocatesRequest Answers Same (wanted_for σ.seat.profile heap size align) tells c c1 σ σ1 (Ok block)
    → CanCall σ (MayMove σ.seat.profile (wanted_for σ.seat.profile heap size align) c spare) → Spares σ spare → Spares σ1 spare1 → length c1.log ≡ 64
    → 64 ≤ spare1
room_to_free {σ} {σ1} {tells = tells} heap size align spare spare1 c c1 block r can law law1 full =
    let w = wanted_for σ.seat.profile heap size align in
    let at : length c.log ≡ 64 = ap length (sym (serves c c1 heap size align r).log_is) ∙ full in
    let flush : spare - flush_of_full c.log ≡ spare - 64 = ap (λ t. spare - (if t then 64 else 0)) (le-leb 64 (length c.log) (omega (arith, at))) in
    let left = left_by σ σ1 w.route w r.found tells c c1 block (spare - flush_of_full c.log) spare spare1 r.allocates can law law1 in
    omega (arith, flush, left.0, left.1)

-- After the request the cache is at rest, so that the old name may be freed.
pub can_free : {σ σ1 : Standing} {Answers : Option ℕ → Type 0} {Same : Type 0} {tells : Bool} (heap size align spare : ℕ) (c c1 : Cached) (block : Block)
    → AllocatesRequest Answers Same (wanted_for σ.seat.profile heap size align) tells c c1 σ σ1 (Ok block)
    → CanCall σ (MayMove σ.seat.profile (wanted_for σ.seat.profile heap size align) c spare) → CanCall σ1 (AtRest σ1.seat.profile c1)
can_free {σ} {σ1} heap size align spare c c1 block r can =
    let f = σ.seat.profile in
    let w = wanted_for f heap size align in
    let s = serves c c1 heap size align r in
    search (arith, next_call, at_rest)

-- the old name is on a page of the region, at a multiple of 16
pub no_fault : (f : Profile) (name : Name) (fault : FreeFault) → IsInRegion f name → IsFaultOf f name fault → ⊥
no_fault f name fault' region fault = search arith

-- A block that doesn't suit, for which another was given and the old name freed, is replaced.
pub gives_other : {σ σ1 σ2 : Standing} (Answers : Option ℕ → Type 0) (Same : Type 0) (wanted : Wanted) (found : Option ℕ) (old : Block) (size align : ℕ)
    (c c1 c2 : Cached) (block : Block)
    → suits old size align ≡ false → IsNamed wanted.route Answers Same found → (s : Serves (cost_of_size size) wanted found c c1 σ σ1 (Ok block))
    → Frees (entry_of old.name) c1 c2 σ1 σ2 (Ok tt) → Moves Answers Same wanted old size align c c2 σ σ2 (Ok (New block))
gives_other {σ} {σ1} {σ2} Answers Same wanted found old size align c c1 c2 block unsuited named s free =
    let f = σ.seat.profile in
    record {
      steps = free.steps ++ s.steps;
      calls = call_then (λ v w. AtRest f c2 w) s.calls free.calls (λ v met rests. rw s.calls.adds.seat_is rests) (λ v met rests freed. rw s.calls.adds.seat_is at freed);
      moved = search arith;
    }

-- ==== What frees, flushes and stops promise, and how many events their actor owes.

-- ---- a log is emptied
-- what is left of the log, and the events of its flush
full_events : (full : Bool) (k : ℕ) (log kept : List Entry) (noted noted' : List EndedRun) (steps : List Made) (v : View)
    → EmptiesFull full k log kept noted noted' steps → length (events_by k v steps) + length kept ≡ length log
full_events true k log kept noted noted' steps v empties =
    omega (arith, emptied_events k log noted noted' steps v empties.0, ap (λ (es : List Entry). length es) empties.1)
full_events false k log kept noted noted' steps v same = search (arith, same.0, same.1)

-- ---- a free
-- the events of the flush of a full log, and what is owed with the name in the log
taken_few : (f : Profile) (k : ℕ) (c c' : Cached) (entry : Entry) (steps : List Made) (v : View) → TakesEntry f k c c' entry steps → Agreed f v steps
    → length (events_by k v steps) + 0 + owed_events f c' (steps ++ v) ≤ 1 + owed_events f c v
taken_few f k c c' entry steps v takes agreed = search (arith, full_events, nat_le, length, length-append, unknown_no_more)

-- A free that was taken has its entry logged, and says nothing.
pub frees_taken : {σ σ' : Standing} (entry : Entry) (c c' : Cached) (done : Unit {0}) → Frees entry c c' σ σ' (Ok done) → FreesOne entry c c' σ σ' None
frees_taken {σ} entry c c' done frees = search (arith, taken_few)

-- ---- what is asked
-- it asks its thread for a task that costs one event
pub can_log : {σ : Standing} {task : Task} (c : Cached) (task' : Task) (block : Name) (spare : ℕ) → task ≡ task' → cost_of_task task' ≡ 1
    → CanCall σ (MayPerform σ.seat.profile c (what_of task) spare) → CanCall σ (MayPerform σ.seat.profile c (Raw block) spare)
can_log {σ} {task} c task' block spare is one can = search (arith, task_of)

-- A task that is another one written otherwise fits where the operation of the other does.
pub fits_task : (f : Profile) (limit : ℕ) (asked : List ℕ) {task : Task} (task' : Task) → task ≡ task' → IsFitWhat f limit asked (what_of task)
    → IsFitTask f limit asked task'
fits_task f limit asked {task} task' is fit = subst (λ (w : Work). IsFitWork f limit asked w) (task_of task ∙ ap (λ (t : Task). Work.Own t) is) fit

-- ---- a free by a name of the trace
-- A name that was asked for and behind which a block is, or none, stands for that.
stands_for : (names : List Named) (name : ℕ) (block : Option Block) → block_behind (standing_for names name) ≡ block
    → (b : Option Block) × (standing_for names name ≡ Some b) → standing_for names name ≡ Some block
stands_for names name block means known = known.1 ∙ ap (λ b. Some b) (sym (ap block_behind known.1) ∙ means)

-- an operation that comes to no block, by its steps and its answer
performs_without : {σ σ' : Standing} {said : Option Said} (what : What) (meant : Option Block) (c c' : Cached) (steps : List Made) → Rests c c' σ σ' steps
    → ((v : View) → AtRest σ.seat.profile c v → Agreed σ.seat.profile v steps
    → length (events_by σ.seat.actor v steps) + length (said_by σ.seat.actor said) + owed_events σ.seat.profile c' (steps ++ v)
    ≤ cost_of_what what + owed_events σ.seat.profile c v)
    → ((v : View) (names : List Named) → IsMeant names what meant → IsKnown names what
    → IsAnswered σ.seat.profile σ.seat.actor what (having names v c) (answer_of steps said None (named_by what None ++ names) c'))
    → PerformsMeant what meant None c c' σ σ' said
performs_without what meant c c' steps calls few is = search arith

-- what is promised of a task, by what the door answers and where nobody asks it
abbrev pub DoesTask : (σ σ' : Standing) → Task → Option Block → Option Block → Cached → Cached → Option Said → (ℕ → ℕ → Option ℕ → Type 0) → Type 0 → Type 0
DoesTask σ σ' task meant came c c' said Answers Same = (did : PerformsMeant (what_of task) meant came c c' σ σ' said) × IsNamedFor σ.seat.profile Answers Same (request_made (what_of task) meant) did.found

module _ {σ σ' : Standing} {said : Option Said} (meant : Option Block) (c c' : Cached) (Answers : ℕ → ℕ → Option ℕ → Type 0) (Same : Type 0) (same : Same) where
  -- A free of the block that a name stands for performs what its task means.
  pub performs_free : (name : ℕ) (room : Option ℕ) (block : Block) → meant ≡ Some block → FreesOne (entry_with block.name room) c c' σ σ' said
      → DoesTask σ σ' (Task.Free name room) meant None c c' said Answers Same
  performs_free name room block named frees = search (arith, performs_without, stands_for)

  -- So does one of a bare name.
  pub performs_raw : (block : Name) (room : Option ℕ) → FreesOne (entry_with block room) c c' σ σ' said
      → DoesTask σ σ' (Task.FreeRaw block room) meant None c c' said Answers Same
  performs_raw block room frees = search (arith, performs_without)

-- A free of a name whose request was refused is skipped.
pub performs_skip : {σ : Standing} (meant : Option Block) (c : Cached) (Answers : ℕ → ℕ → Option ℕ → Type 0) (Same : Type 0) (name : ℕ) (room : Option ℕ)
    → meant ≡ None → Same → DoesTask σ σ (Task.Free name room) meant None c c (Some (Said.Skipped name)) Answers Same
performs_skip meant c Answers Same name None named same = (
  performs_without (Free name) meant c c [] (call_none (λ v rest. rest)) (λ v rest agreed. omega arith)
      (λ v names means known. (rw (stands_for names name None (means ∙ named) known) (refl, refl, refl), refl)),
  same,
)
performs_skip meant c Answers Same name (Some room) named same = (
  performs_without (FreeSized name room) meant c c [] (call_none (λ v rest. rest))
      (λ v rest agreed. omega arith) (λ v names means known. (rw (stands_for names name None (means ∙ named) known) (refl, refl, refl), refl)),
  same,
)

-- ---- a flush and a stop
pub performs_flush : {σ σ' : Standing} (meant : Option Block) (c c' : Cached) → FlushesLog c c' σ σ' → PerformsMeant Flush meant None c c' σ σ' None
performs_flush {σ} meant c c' flushes = performs_without Flush meant c c' flushes.steps flushes.calls (λ v rest agreed.
    omega (
      arith,
      emptied_events σ.seat.actor c.log c.noted c'.noted flushes.steps v flushes.empties,
      ap (λ (d : Cached). length d.log) flushes.cache,
      unknown_no_more σ.seat.profile flushes.steps v agreed,
    ))
    (λ v names means known. (record { empties = flushes.empties; cache = flushes.cache }, refl, refl))

-- A stop of the cache performs what a stop means.
pub performs_stop : {σ σ' : Standing} (meant : Option Block) (c c' : Cached) → StopsCache c c' σ σ' → PerformsMeant Stop meant None c c' σ σ' None
performs_stop {σ} meant c c' stops = performs_without Stop meant c c' (stops.stopped ++ stops.flushed)
    (call_as (λ v w. AtRest σ.seat.profile c' w) stops.calls (λ v rest. rest) (λ v w rest stopped. stopped.0)) (λ v rest agreed.
    let events = emptied_events σ.seat.actor c.log c.noted c'.noted stops.flushed v stops.empties in
    let all = ap (λ (es : List Event). length es) (events_append σ.seat.actor stops.stopped stops.flushed v
    ∙ ap (λ (es : List Event). es ++ events_by σ.seat.actor v stops.flushed) (stops.silent σ.seat.actor (stops.flushed ++ v))) in
    omega (arith, events, all, ap (λ (d : Cached). length d.log) stops.cache, unknown_no_more σ.seat.profile (stops.stopped ++ stops.flushed) v agreed))
    (λ v names means known. (search arith, refl, refl))

-- ==== What a reallocation promises.

-- ---- what is asked
-- A reallocation at rest may be asked of whatever gives blocks another size.
pub can_move : {σ : _} (c : Cached) (name n heap size align spare there : ℕ) → CanCall σ (MayPerform σ.seat.profile c (Remake name n heap size align) spare)
    → CanCall σ (MayMove σ.seat.profile (wanted_for σ.seat.profile there size align) c spare)
can_move {σ} c name n heap size align spare there can = search (arith, leb-true)

-- ---- what it comes to
module _ (σ σ' : Standing) (c c' : Cached) (name n heap size align : ℕ) (old : Block) (Answers : ℕ → ℕ → Option ℕ → Type 0) (Same : Type 0) where
  abbrev f : Profile
  f = σ.seat.profile

  abbrev k : ℕ
  k = σ.seat.actor

  abbrev r : Request
  r = request_for old name size align

  abbrev pub CameTo : Result Moved NoRoom → Type 0
  CameTo answer = Moves (Answers old.heap ((size + 4096 - 1) / 4096)) Same (wanted_for σ.seat.profile old.heap size align) old size align c c' σ σ' answer
      -- the steps and what is said, with a run that was named or none

  abbrev Did : Option Block → Option Said → Type 0
  Did came said = DoesTask σ σ' (Task.Remake name n heap size align) (Some old) came c c' said Answers Same

  no_more : (came : Option Block) (A : Type 0) → the_name name came ∷ [] ≡ [] → A
  no_more came A none = absurd (let bad : the_name name came ∷ [] ≡ [] = none in cc)

  -- by what the old name stands for
  by_meant : (names : List Named) (v : View) (a : Answer) → IsMeant names (Remake name n heap size align) (Some old)
      → IsKnown names (Remake name n heap size align) → IsRemadeBy f k name size align (Some (Some old)) (having names v c) a
      → IsAnswered f k (Remake name n heap size align) (having names v c) a
  by_meant names v a means known is = rw (stands_for names n (Some old) means known) is

  -- which request is made
  made_by : (t : Bool) (found : Option ℕ) → suits old size align ≡ t → IsNamedFor f Answers Same (unless_suited t r) found
      → IsNamedFor f Answers Same (request_made (Remake name n heap size align) (Some old)) found
  made_by t found is named = rw is named

  -- it is kept
  pub kept : {answer : Result Moved NoRoom} → answer ≡ Ok Kept → CameTo answer → Did (Some old) (Some (Said.Kept old.name name))
  kept came m0 = search (arith, length, by_meant, no_more, made_by)

  -- another block was given, and the old name was logged
  pub replaced : {answer : _} (block : Block) → answer ≡ Ok (New block) → old.heap < σ.seat.profile.heaps → CameTo answer → Did (Some block) None
  replaced block came of_region m0 =
      let m : CameTo (Ok (New block)) = subst CameTo came m0 in
      let is = m.moved in
      let w = wanted_for f old.heap size align in (
        record {
          steps = m.steps;
          found = is.found;
          calls = m.calls;
          few = λ v rest agreed.
              let all = subst (Agreed f v) is.steps_are agreed in
              let freed = taken_few f k is.between c' (entry_of old.name) is.freed (is.placed ++ v) is.logs (agreed_first f v is.freed is.placed all) in
              let events = ap (λ (ms : List Made). length (events_by k v ms)) is.steps_are ∙ ap length (events_append k is.freed is.placed v)
              ∙ length-append (events_by k (is.placed ++ v) is.freed) (events_by k v is.placed) in
              let there = ap (λ (ms : List Made). owed_events f c' (ms ++ v)) is.steps_are ∙ ap (λ (u : View). owed_events f c' u) (append_assoc is.freed is.placed v) in
              omega (arith, is.few k v rest (agreed_later f v is.freed is.placed all), freed, events, there, ap (λ (es : List Entry). length es) is.same_log);
          answered = λ v l stood rest names means known.
              let agreed = subst (Agreed f v) is.steps_are (m.calls.adds.agreed v l stood rest) in
              by_meant names v (answer_of m.steps None is.found (the_name name (Some block) ∷ names) c') means known (inr record {
                unsuited = is.unsuited;
                of_region = of_region;
                placed = answer_of is.placed None is.found (the_name name (Some block) ∷ names) is.between;
                served = record { rest = rest; answer = Ok block; serves = is.serves; kinds = is.kinds; ends = is_given f k w c is.placed block v rest (agreed_later f v is.freed is.placed agreed) is.block_for; said_is = refl; names_are = refl };
                freed = is.freed;
                logged = is.logs;
                steps_are = is.steps_are;
                said_is = refl;
                found_is = refl;
                names_are = refl;
              });
          others = λ none. no_more (Some block) (Some block ≡ None) none;
        },
        made_by false is.found is.unsuited (named_for f name old.heap size align Answers Same is.found is.named),
      )

  -- the request was refused
  pub refused : (room : NoRoom) (message : Said) → message ≡ said_of_room name room → old.heap < σ.seat.profile.heaps → CameTo (Err room)
      → Did None (Some message)
  refused room message says of_region m =
      let is = m.moved in (
        record {
          steps = m.steps;
          found = is.found;
          calls = m.calls;
          few = search arith;
          answered = λ v l stood rest names means known.
              let placed : Answer = answer_of m.steps (Some message) is.found (the_name name None ∷ names) c' in
              by_meant names v placed means known (inr record {
                unsuited = is.unsuited;
                of_region = of_region;
                placed = placed;
                served = record { rest = rest; answer = Err room; serves = is.serves; kinds = is.kinds; ends = is.ends k v; said_is = ap (λ s. Some s) says; names_are = refl };
                freed = [];
                logged = (refl, refl);
                steps_are = refl;
                said_is = refl;
                found_is = refl;
                names_are = refl;
              });
          others = λ none. refl;
        },
        made_by false is.found is.unsuited (named_for f name old.heap size align Answers Same is.found is.named),
      )

  -- the new block may be freed or reallocated
  pub new_stands : (spare : ℕ) (block : Block) → IsValid σ.seat.profile → IsAdmitted σ.seat.profile size align old.heap
      → CanCall σ (MayPerform σ.seat.profile c (Remake name n heap size align) spare) → {answer : Result Moved NoRoom} → answer ≡ Ok (New block) → CameTo answer
      → MayStand σ.seat.profile (Some block)
  new_stands spare block valid admitted can came m0 =
      let m : CameTo (Ok (New block)) = subst CameTo came m0 in
      let is = m.moved in
      let agreed = subst (Agreed f can.view) is.steps_are (m.calls.adds.agreed can.view can.whole can.stood can.met.rest) in
      block_stands f c old.heap size align is.placed block can.view valid admitted can.met.rest (agreed_later f can.view is.freed is.placed agreed) is.block_for

-- ---- its own request was refused
pub performs_no_move : {σ : Standing} (c : Cached) (Answers : ℕ → ℕ → Option ℕ → Type 0) (Same : Type 0) (name n heap size align : ℕ) → Same
    → DoesTask σ σ (Task.Remake name n heap size align) None None c c (Some (Said.Skipped name)) Answers Same
performs_no_move c Answers Same name n heap size align same = (
  performs_without _ None c c [] (call_none (λ v rest. rest)) (λ v rest agreed. omega arith)
      (λ v names means known. rw (stands_for names n None means known) (refl, refl, refl, refl)),
  same,
)
