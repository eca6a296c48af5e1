-- Two actors that sit at one plain region after each other: a desk, and the pass of the other one at rest.
use Rattle.std.proofs.Common.{◌≡◌, ℕ, ◌<◌, [], ◌++◌, refl, ap, sym, ◌∙◌, subst, inr, arith}
use Rattle.pas_profile.specs.declared.{directory.Directory.Directory, profile.Profile.Profile}
use Rattle.pas_steps.{specs.{Desks.{Seat, Standing, CanCall, triples, AnyView}, Lists.part, Views.View}, proofs.{Noting.rest_length, Parts.part_of_others}}
use Rattle.pas_plain.specs.{Plain.{profile_of, actor_of, room_of_pass, spare_in, RegionStands, PassStands}, Seats.{region_of, pass_of, standing_of, shows_rest}}
use Rattle.pas_plain.specs.{Seats.{DeskStands, Opens}, declared.{desk.PlainDesk.PlainDesk, pass.PlainPass.PlainPass, region.PlainRegion.PlainRegion}}
use Rattle.pas_plain.proofs.Desks.{pass_rests}
use Rattle.pas_search.specs.Searches.{MaySearch, SearchRoom}
use Rattle.pas_trials.specs.{Trials.{Beside, Brings, Wants}, Filling.Steps, declared.wanting.Findings.Findings}
use Rattle.pas_tests.specs.Seated.{Waits}

-- an actor that made no step may search
pub may_search : (d : Directory) → MaySearch d []
may_search d = record { rights = λ p of. refl; clear = record { on = λ p. record { stamped = refl; owes = record { checks = λ w lt. refl; hint = refl }; examined = refl } } }

-- the steps of a want
pub wants_bring : {σ σ' : Standing} {page : ℕ} {d : Directory} {found : Findings} → Wants page d σ σ' found → Brings σ σ' AnyView AnyView
wants_bring w = record { steps = _; calls = record { adds = w.adds; leads = record { from = λ v m agreed. tt } } }

-- ---- before the first step
abbrev pub opens_beside : {desk : PlainDesk} {pass : PlainPass} {room : ℕ} → Opens desk pass room → Beside desk pass
opens_beside o = record { view = []; whole = []; stood = o.stood; rests = o.rests; other = o.other }

-- ---- the steps of the one actor leave the other at rest
-- After a call at a desk the other actor's pass still rests beside it.
abbrev after_call : {d d' : PlainDesk} {pass : PlainPass} {B : View → Type 0} → Steps (standing_of d) (standing_of d') B → (at : Beside d pass) → B at.view
    → Beside d' pass
after_call {d} {pass = pass} taken at met =
    let k = actor_of (pass_of d) in
    let l = triples k taken.steps ++ at.whole in
    record {
      view = taken.steps ++ at.view;
      whole = l;
      stood = taken.adds.added at.view at.whole at.stood met;
      rests = subst (λ (f : Profile). PassStands f pass l) (sym (ap (λ (s : Seat). s.profile) taken.adds.seat_is))
          (pass_rests (profile_of (region_of d)) pass k taken.steps at.whole at.other at.rests);
      other = λ e. at.other (sym (ap (λ (s : Seat). s.actor) taken.adds.seat_is) ∙ e);
    }

-- Steps of an actor leave another one at rest beside it.
pub still_beside : {d d' : PlainDesk} {pass : PlainPass} {B : View → Type 0} → Brings (standing_of d) (standing_of d') AnyView B → Beside d pass
    → Beside d' pass
still_beside brought at = after_call (record { steps = brought.steps; adds = brought.calls.adds }) at tt

-- ---- after the first call at a new region
module _ {d d' : PlainDesk} {pass : PlainPass} {room : ℕ} {B : View → Type 0} (opens : Opens d pass room) (taken : Steps (standing_of d) (standing_of d') B)
    (met : B []) where
  abbrev pub beside_first : Beside d' pass
  beside_first = after_call taken (opens_beside opens) met

  -- After the first call at a new region the other actor, one that made no step yet, waits beside it with its room.
  pub waits_first : Waits d' pass room
  waits_first = record {
    view = taken.steps ++ [];
    whole = triples (actor_of (pass_of d)) taken.steps ++ [];
    stood = beside_first.stood;
    rests = beside_first.rests;
    other = beside_first.other;
    none = part_of_others (actor_of pass) (actor_of (pass_of d)) taken.steps [] opens.other;
    room_of = ap (λ (s : Seat). s.room) taken.adds.seat_is ∙ opens.room_of;
    room_of_other = opens.room_of_other;
  }

-- ---- the other actor takes the seat
module _ {desk : PlainDesk} {pass : PlainPass} {room : ℕ} (w : Waits desk pass room) (next : PlainDesk) (region : region_of next ≡ region_of desk)
    (seat : pass_of next ≡ pass) where
  -- it made no step yet
  pub seated_then : DeskStands next [] w.whole
  seated_then = record {
    region = subst (λ (r : PlainRegion). RegionStands r w.whole) (sym region) w.stood.region;
    pass = subst (λ (p : PlainPass). PassStands (profile_of (region_of next)) p w.whole) (sym seat)
        (subst (λ (r : PlainRegion). PassStands (profile_of r) pass w.whole) (sym region) w.rests);
    part_is = ap (λ (p : PlainPass). part (actor_of p) w.whole) seat ∙ w.none;
  }

  -- so all of its room is left
  pub whole_room : spare_in (pass_of next) ≡ room
  whole_room =
      let none = rest_length (shows_rest next [] w.whole seated_then) in
      let room = ap (λ (p : PlainPass). room_of_pass p) seat ∙ w.room_of_other in
      omega (arith, none, room)

  -- .. and it may search where that is more than is asked
  pub seated_may_search : (d : Directory) (n : ℕ) → n < room
      → CanCall (standing_of next) (SearchRoom (profile_of (region_of next)) d n (spare_in (pass_of next)))
  seated_may_search d n fits = record {
    view = [];
    whole = w.whole;
    stood = seated_then;
    met = record { may = may_search d; room = (omega (arith, whole_room, fits), inr (omega (arith, whole_room, fits))) };
  }

  -- After its first call the one that rose rests beside it.
  pub beside_second : {next' : PlainDesk} {risen : PlainPass} {B : View → Type 0} → risen ≡ pass_of desk → Steps (standing_of next) (standing_of next') B → B []
      → Beside next' risen
  beside_second {risen = risen} same taken met = after_call taken (record {
    view = [];
    whole = w.whole;
    stood = seated_then;
    rests = subst (λ (p : PlainPass). PassStands (profile_of (region_of next)) p w.whole) (sym same)
        (subst (λ (r : PlainRegion). PassStands (profile_of r) (pass_of desk) w.whole) (sym region) w.stood.pass);
    other = λ e. w.other (sym (ap actor_of same) ∙ (sym e ∙ ap actor_of seat));
  }) met
