-- An actor that goes on errands beside another one, and then in a storm.
use Rattle.std.proofs.Common.{◌≡◌, ◌≢◌, ℕ, [], ◌++◌, refl, ap, sym, ◌∙◌, subst, ◌+◌, ◌<◌, ◌≤◌, inr, arith}
use Rattle.pas_profile.specs.{declared.profile.Profile.Profile, Profiles.IsDirectoryOf}
use Rattle.pas_steps.specs.{Clear.HasNothing, Lists.Whole, Views.View, Unknown.unknown_pages, Desks.{Seat, Standing, CanCall, triples}}
use Rattle.pas_steps.proofs.{Adding.adds_call, Called.next_call, Parts.part_of_others, Nothing.nothing_yet, Noting.rest_length}
use Rattle.pas_cache.{specs.{Caches.{Cached, AtRest}, Calls.StopsCache}, proofs.FlushesAndFrees.rests_empty}
use Rattle.pas_plain.specs.{Plain.{profile_of, actor_of, PassStands, spare_in}, Storms.{own_stands, StormStands, seat_for}, Seats.{region_of, pass_of}}
use Rattle.pas_plain.specs.{Seats.{DeskStands, standing_of, Opens}, declared.{desk.PlainDesk.PlainDesk, pass.PlainPass.PlainPass}}
use Rattle.pas_plain.{specs.declared.region.PlainRegion.PlainRegion, proofs.Desks.pass_rests}
use Rattle.pas_trials.{specs.{Borrowing.{Borrows, RestsWithRoom}, Filling.Steps}, proofs.{Opened.storm_stands, Going.few_below}}
use Rattle.pas_tests.{specs.Seated.{RestsBeside, two_threads}, proofs.Besides.may_search}
use Rattle.pas_search.specs.Searches.{SearchRoom}
use Rattle.pas_segregated.specs.Stops.{class_directory}

-- ---- before the storm
pub rests_first : {d : PlainDesk} {p : PlainPass} {room : ℕ} {c : Cached} → Opens d p room → c.locals ≡ [] → c.log ≡ [] → RestsBeside d p c
rests_first {d} {p} {room} {c} opens locals log = record { view = []; whole = []; stands = storm_stands opens refl refl; rest = rests_empty (profile_of (region_of d)) c [] locals log nothing_yet }

-- An actor that rests beside another one may go on errands.
pub may_go_beside : {d : PlainDesk} {p : PlainPass} {c : Cached} → RestsBeside d p c → CanCall (standing_of d) (AtRest (profile_of (region_of d)) c)
may_go_beside {d} {p} b = record { view = b.view; whole = b.whole; stood = own_stands d p b.view b.whole b.stands; met = b.rest }

-- An actor that went on an errand rests beside the other one with the cache that it has then.
pub rests_then : {d d' : PlainDesk} {p : PlainPass} {c c' : Cached} → RestsBeside d p c → Borrows c c' (standing_of d) (standing_of d') → RestsBeside d' p c'
rests_then {d} {d'} {p} {c} {c'} b goes =
    let f : Profile = profile_of (region_of d) in
    let k : ℕ = actor_of (pass_of d) in
    let v : View = goes.steps ++ b.view in
    let l : Whole = triples k goes.steps ++ b.whole in
    let before : DeskStands d b.view b.whole = own_stands d p b.view b.whole b.stands in
    let stood : DeskStands d' v l = goes.rests.adds.added b.view b.whole before b.rest in
    let actor : actor_of (pass_of d') ≡ k = ap (λ (s : Seat). s.actor) goes.rests.adds.seat_is in
    let profile : profile_of (region_of d') ≡ f = ap (λ (s : Seat). s.profile) goes.rests.adds.seat_is in
    let other : k ≢ actor_of p = λ e. b.stands.other (sym e) in
    record {
      view = v;
      whole = l;
      stands = record {
        region_stands = stood.region;
        own_part = stood.pass;
        foreign_part = subst (λ (g : Profile). PassStands g p l) (sym profile) (pass_rests f p k goes.steps b.whole other b.stands.foreign_part);
        other = λ e. b.stands.other (e ∙ actor);
        part_is = stood.part_is;
        nothing = subst HasNothing (sym (part_of_others (actor_of p) k goes.steps b.whole other)) b.stands.nothing;
      };
      rest = subst (λ (g : Profile). AtRest g c' v) (sym profile) (goes.rests.leads.from b.view b.rest (goes.rests.adds.agreed b.view b.whole before b.rest));
    }

-- ---- in the storm
-- after an errand the cache may be stopped
pub may_stop_then : {σ σ' : Standing} {c c' : Cached} → CanCall σ (AtRest σ.seat.profile c) → Borrows c c' σ σ' → CanCall σ' (AtRest σ'.seat.profile c')
may_stop_then {σ} {σ'} {c} {c'} can goes = next_call goes.rests can (λ v rest there. subst (λ (s : Seat). AtRest s.profile c' (goes.steps ++ v)) (sym goes.rests.adds.seat_is) there)

-- the steps of an errand and of a stop
pub gone_and_stopped : {σ σ1 σ2 : Standing} {c c1 c2 : Cached} → Borrows c c1 σ σ1 → StopsCache c1 c2 σ1 σ2 → Steps σ σ2 (AtRest σ.seat.profile c)
gone_and_stopped {σ} {σ1} {c1 = c1} goes stops = record {
  steps = (stops.stopped ++ stops.flushed) ++ goes.steps;
  adds = adds_call goes.rests.adds stops.calls.adds (λ v l stood rest. subst (λ (s : Seat). AtRest s.profile c1 (goes.steps ++ v)) (sym goes.rests.adds.seat_is)
      (goes.rests.leads.from v rest (goes.rests.adds.agreed v l stood rest)));
}

-- A stop of a cache among the steps of another actor.

-- an actor that made no step may make requests
pub may_begin_alone : {d : PlainDesk} {c : Cached} (n spare : ℕ) → DeskStands d [] [] → ((f : Profile) (v : View) → HasNothing v → AtRest f c v)
    → n + (profile_of (region_of d)).pages ≤ spare → CanCall (standing_of d) (RestsWithRoom (profile_of (region_of d)) c n spare)
may_begin_alone {d} n spare stood rests room =
    let f : Profile = profile_of (region_of d) in
    let few : unknown_pages f [] ≤ f.pages = few_below f.pages [] in
    record { view = []; whole = []; stood = stood; met = (rests f [] nothing_yet, omega (arith, few, room)) }

-- once it made them it rests beside the other one
pub rests_beside : {d d' : PlainDesk} {p : PlainPass} {room : ℕ} {c c' : Cached} → Opens d p room → ((f : Profile) (v : View) → HasNothing v → AtRest f c v)
    → Borrows c c' (standing_of d) (standing_of d') → RestsBeside d' p c'
rests_beside {d} {p = p} {c = c} opens rests borrows =
    let first : RestsBeside d p c = record { view = []; whole = []; stands = storm_stands opens refl refl; rest = rests _ [] nothing_yet } in
    rests_then first borrows

-- ---- region and pass of the desk
parted : {d : PlainDesk} {p : PlainPass} {c : Cached} {r : PlainRegion} {own : PlainPass} → r ≡ region_of d → own ≡ pass_of d → (b : RestsBeside d p c)
    → StormStands r own p b.view b.whole
parted {d} {p} {c} {r} {own} region pass b = subst (λ (x : PlainRegion). StormStands x own p b.view b.whole) (sym region)
    (subst (λ (x : PlainPass). StormStands (region_of d) x p b.view b.whole) (sym pass) b.stands)

-- the storm's desk may stop the cache
pub may_stop : {σ : Standing} {d : PlainDesk} {p : PlainPass} {c : Cached} {r : PlainRegion} {own : PlainPass} → r ≡ region_of d → own ≡ pass_of d
    → (b : RestsBeside d p c) → σ.seat ≡ seat_for r own
    → ((v : View) (w l : Whole) → StormStands r own p v w → σ.stands v l) → CanCall σ (AtRest σ.seat.profile c)
may_stop {c = c} region pass b seat stands = record {
  view = b.view;
  whole = b.whole;
  stood = stands b.view b.whole b.whole (parted region pass b);
  met = subst (λ (f : Profile). AtRest f c b.view) (sym (ap (λ (s : Seat). s.profile) seat ∙ ap profile_of region)) b.rest;
}

-- ---- nobody made a step yet
-- a desk of two threads has the directories of heap 0
pub of_heap : (f : Profile) (class : ℕ) → class < 16 → f ≡ two_threads 1 → IsDirectoryOf f (class_directory 0 class)
of_heap f class small of = let heaps : f.heaps ≡ 1 = ap (λ (g : Profile). g.heaps) of in let classes : f.classes ≡ 16 = ap (λ (g : Profile). g.classes) of in record { heap = omega (arith, heaps); kind = omega (arith, small); class = omega (arith, classes, small) }

-- and may refill a class
pub may_refill : {σ : Standing} {d : PlainDesk} {p : PlainPass} {room : ℕ} {r : PlainRegion} {own : PlainPass} (class spare : ℕ) → r ≡ region_of d
    → own ≡ pass_of d → Opens d p room → 2 ≤ spare
    → ((v : View) (w l : Whole) → StormStands r own p v w → σ.stands v l) → CanCall σ (SearchRoom σ.seat.profile (class_directory 0 class) 1 spare)
may_refill class spare region pass opens two stands =
    record { view = []; whole = []; stood = stands [] [] [] (storm_stands opens region pass); met = record { may = may_search (class_directory 0 class); room = (omega (arith, two), inr (omega (arith, two))) } }

-- there is room for all events
pub room_left : {d : PlainDesk} {p : PlainPass} {room : ℕ} {own : PlainPass} → own ≡ pass_of d → Opens d p room
    → spare_in own ≡ room
room_left {d} {room = room} pass opens =
    let none = rest_length opens.stood.pass.shown in
    let whole : spare_in (pass_of d) ≡ room = omega (arith, none, opens.room_of) in
    ap spare_in pass ∙ whole
