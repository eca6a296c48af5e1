-- Desks at a plain region, and their passes.
use Rattle.std.proofs.Common.{◌≡◌, ◌≢◌, ℕ, zero, suc, ◌+◌, ◌-◌, ◌*◌, ◌/◌, ◌<◌, ◌≤◌, All, List, [], ◌∷◌, ◌++◌, length, refl, ap, sym, ◌∙◌, arith, true, subst}
use Rattle.std.proofs.{Common.{Bool, if◌then◌else◌, length-append, append-nil, reverse}, lemmas.List.reverse-append}
use Rattle.pas_profile.specs.{Rooms.{shown, EventRoom}, Layouts.same_word, Profiles.IsWordOf, declared.{profile.Profile.Profile, word.Word.Word}}
use Rattle.pas_profile.{specs.declared.event.Event.Event, proofs.Places.same_word-true}
use Rattle.pas_steps.specs.{Events.{events_of, event_of}, Allowed.{Allowed, IsStepOf}, Agreement.Agrees, Calls.{nothing, Does, Calls}, Clear.IsClear}
use Rattle.pas_steps.specs.{Clear.HasNothing, Effects.{target, new_value}, Noted.{IsNoted, ShowsRest}, Lists.{Whole, part, word_after, Legal}, Views.View}
use Rattle.pas_steps.specs.{Views.{epoch_of, or_zero}, Told.{AreShort, StandsLater, StandsStill, TellsWord}, Desks.{triples, Seat, Standing, made, triple}}
use Rattle.pas_steps.specs.{Desks.{CanMake, Makes}, declared.step.{Made.Made, Step.Step}, Kinds.{Kinds, kind_of, is_in, apart, changing}}
use Rattle.pas_steps.proofs.{ShortOfGrains.short_alike, Parts.{part_of_others, part_of_own}, Frames.with_few, Called.{call_none, call_step}, Calls.does_idly}
use Rattle.pas_steps.proofs.{Nothing.{nothing_still, calls_rest}, Running.target_of_region, Noting.{rest_noted, count_next}}
use Rattle.pas_bits.specs.Bits.{has_bit}
use Rattle.pas_plain.specs.{Short.IsShortPage, Plain.{actor_of, count_of_pass, CountsMore, word_at, Forgets, PassStands, pass_for, passes_from, profile_of}}
use Rattle.pas_plain.specs.Plain.{room_of_pass, events_shown, forgotten_by, spare_in, RegionStands, epoch_known, IsExchanged}
use Rattle.pas_plain.specs.{declared.{pass.PlainPass.PlainPass, region.PlainRegion.PlainRegion, desk.PlainDesk.PlainDesk}, Seats.{region_of, pass_of}}
use Rattle.pas_plain.specs.{Seats.{DeskStands, standing_of, spare_of_room, IsChanged}, Storms.{Acts, StormStands, seat_for, storm_of, own_stands}}
use Rattle.pas_core.proofs.Nexts.{legal_next, agrees_next}

-- ==== Passes that stand: at the opening, and at rest while another actor steps.

-- ---- at the opening
pub fresh_stands : (f : Profile) (k : ℕ) (room : EventRoom) → k ≤ f.threads → shown room ≡ [] → PassStands f (pass_for k room) []
fresh_stands f k room actor empty = record { actor = actor; shown = record { gone = []; many = refl; all = empty }; count = refl; epoch = refl }

-- Passes for rooms of which nothing is shown stand for actors that did nothing.
pub passes_stand : (f : Profile) (n : ℕ) (rooms : List EventRoom) → n + length rooms ≤ f.threads + 1 → All (λ room. shown room ≡ []) rooms
    → All (λ pass. PassStands f pass []) (passes_from n rooms)
passes_stand f n [] few empty k d h = absurd (omega (arith, h))
passes_stand f n (room ∷ rooms) few empty zero d h = fresh_stands f n room (omega (arith, few)) (empty zero room (omega arith))
passes_stand f n (room ∷ rooms) few empty (suc k) d h =
    passes_stand f (n + 1) rooms (omega (arith, few)) (λ j e g. empty (suc j) e (omega (arith, g))) k d (omega (arith, h))

-- ---- at rest: the steps of another actor change nothing of what a pass stands for
pub pass_rests : (f : Profile) (pass : PlainPass) (k : ℕ) (steps : List Made) (l : Whole) → k ≢ actor_of pass → PassStands f pass l
    → PassStands f pass (triples k steps ++ l)
pass_rests f pass k steps l other stands =
    search (arith, part_of_others)

-- ==== A desk between whose own steps another actor acts.

-- ---- the foreign actor sits at the desk
-- it stands for its part of each list
foreign_stands : (d : PlainDesk) (own : PlainPass) (v : View) (l : Whole) → StormStands (region_of d) own (pass_of d) v l
    → DeskStands d (part (actor_of (pass_of d)) l) l
foreign_stands d own v l stood = record { region = stood.region_stands; pass = stood.foreign_part; part_is = refl }

-- it acted, and has nothing again: its steps stand on the list, and the own part is as it was
acted : (old new : PlainDesk) (own : PlainPass) → Acts (standing_of old) (standing_of new) → (v : View) (l : Whole)
    → StormStands (region_of old) own (pass_of old) v l → (w : Whole) × StormStands (region_of new) own (pass_of new) v w
acted old new own acts v l stood =
    let j : ℕ = actor_of (pass_of old) in
    let u : View = part j l in
    let w : Whole = triples j acts.steps ++ l in
    let here : DeskStands old u l = foreign_stands old own v l stood in
    let next : DeskStands new (acts.steps ++ u) w = acts.calls.adds.added u l here stood.nothing in
    let after : HasNothing (acts.steps ++ u) = acts.calls.leads.from u stood.nothing (acts.calls.adds.agreed u l here stood.nothing) in
    let actor : actor_of (pass_of new) ≡ j = ap (λ (s : Seat). s.actor) acts.calls.adds.seat_is in
    let profile : profile_of (region_of new) ≡ profile_of (region_of old) = ap (λ (s : Seat). s.profile) acts.calls.adds.seat_is in (
      w,
      search (arith, next, pass_rests, part_of_others),
    )

-- ---- the two passes were exchanged, the foreign actor acted, and they were exchanged again
pub disturbed : (old seated acts_done new : PlainDesk) (foreign foreign' waiting : PlainPass) → region_of seated ≡ region_of old → pass_of seated ≡ foreign
    → waiting ≡ pass_of old → Acts (standing_of seated) (standing_of acts_done)
    → region_of new ≡ region_of acts_done → pass_of new ≡ waiting → foreign' ≡ pass_of acts_done
    → (v : View) (l : Whole) → StormStands (region_of old) (pass_of old) foreign v l → (w : Whole) × StormStands (region_of new) (pass_of new) foreign' v w
disturbed old seated acts_done new foreign foreign' waiting region pass own acts region' pass' risen v l stood =
    let before : StormStands (region_of seated) waiting (pass_of seated) v l =
    rw (region, own, pass) stood in
    let after = acted seated acts_done waiting acts v l before in (
      after.0,
      rw (region', pass', risen) after.1,
    )

-- ---- an own step
storm_next : (mid new : PlainDesk) (foreign : PlainPass) (s : Step) (a : ℕ) → Makes (standing_of mid) (standing_of new) s a → (v : View) (w : Whole)
    → StormStands (region_of mid) (pass_of mid) foreign v w → Allowed (profile_of (region_of mid)) v s
    → StormStands (region_of new) (pass_of new) foreign (made s a ∷ v) (triple (actor_of (pass_of mid)) (made s a) ∷ w)
storm_next mid new foreign s a makes v w at allowed =
    let k : ℕ = actor_of (pass_of mid) in
    let j : ℕ = actor_of foreign in
    let next : Whole = triple k (made s a) ∷ w in
    let stands : DeskStands new (made s a ∷ v) next = makes.added v w (own_stands mid foreign v w at) allowed in
    let other : k ≢ j = λ e. at.other (sym e) in
    let actor : actor_of (pass_of new) ≡ k = ap (λ (x : Seat). x.actor) makes.seat_is in
    let profile : profile_of (region_of new) ≡ profile_of (region_of mid) = ap (λ (x : Seat). x.profile) makes.seat_is in
    record {
      region_stands = stands.region;
      own_part = stands.pass;
      foreign_part = subst (λ (f : Profile). PassStands f foreign next) (sym profile) (pass_rests (profile_of (region_of mid)) foreign k (made s a ∷ []) w other at.foreign_part);
      other = λ e. at.other (e ∙ actor);
      part_is = stands.part_is;
      nothing = subst HasNothing (sym (part_of_others j k (made s a ∷ []) w other)) at.nothing;
    }

-- the own step can be made after the intruder acted
pub may_step : (old mid : PlainDesk) (foreign foreign' : PlainPass) (s : Step) → profile_of (region_of mid) ≡ profile_of (region_of old)
    → ((v : View) (l : Whole) → StormStands (region_of old) (pass_of old) foreign v l → (w : Whole) × StormStands (region_of mid) (pass_of mid) foreign' v w)
    → CanMake (storm_of old foreign) s → CanMake (standing_of mid) s
may_step old mid foreign foreign' s profile stands can =
    let at = stands can.view can.stood.0 can.stood.1 in
    search arith

abbrev seat_at : Profile → PlainPass → Seat
seat_at f pass = record { actor = actor_of pass; profile = f; room = room_of_pass pass }

-- what a call says, from what the intruder left and what the step changed
pub storm_makes : (old mid new : PlainDesk) (foreign foreign' : PlainPass) (s : Step) (a : ℕ) → pass_of mid ≡ pass_of old
    → profile_of (region_of mid) ≡ profile_of (region_of old)
    → ((v : View) (l : Whole) → StormStands (region_of old) (pass_of old) foreign v l → (w : Whole) × StormStands (region_of mid) (pass_of mid) foreign' v w)
    → Makes (standing_of mid) (standing_of new) s a → Makes (storm_of old foreign) (storm_of new foreign') s a
storm_makes old mid new foreign foreign' s a own profile stands makes =
    let allowed_there = λ (v : View) (allowed : Allowed (profile_of (region_of old)) v s). subst (λ (f : Profile). Allowed f v s) (sym profile) allowed in
    record {
      seat_is = makes.seat_is ∙ ap (seat_for (region_of mid)) own ∙ ap (λ (f : Profile). seat_at f (pass_of old)) profile;
      added = λ v l stood allowed.
          let at = stands v stood.0 stood.1 in
          (triple (actor_of (pass_of mid)) (made s a) ∷ at.0, storm_next mid new foreign' s a makes v at.0 at.1 (allowed_there v allowed));
      agrees = λ v l stood allowed.
          let at = stands v stood.0 stood.1 in
          subst (λ (f : Profile). Agrees f v s a) profile (makes.agrees v at.0 (own_stands mid foreign' v at.0 at.1) (allowed_there v allowed));
    }

-- ---- for those who write intruders
-- one that changes nothing of what it holds, has and owes, and that it may always make
pub acts_idly : {σ σ' : Standing} {s : Step} {a : ℕ} (ks : Kinds) → apart ks changing ≡ true → is_in ks (kind_of s) ≡ true
    → ((v : View) → Allowed σ.seat.profile v s) → Makes σ σ' s a → Acts σ σ'
acts_idly {σ} {s = s} {a = a} ks w is allowed makes = record {
  steps = made s a ∷ [];
  calls = call_step (λ v w. HasNothing w) (call_none {R = λ v w. HasNothing w} (λ v met. met)) makes (λ v met same. allowed v)
      (λ v met same agrees. nothing_still (does_idly σ.seat.profile ks w (made s a ∷ []) v (is, tt) (agrees, tt)) met);
}

-- calls after which the actor holds, has and owes what it did
pub acts_still : {σ σ' : Standing} {steps : List Made} → Calls σ σ' IsClear (Does nothing) steps → Acts σ σ'
acts_still {steps = steps} calls = record { steps = steps; calls = calls_rest calls }

-- ==== The walk of an actor alone at a plain desk, step by step from the opening on.

-- the desk stands for the view of this actor, beside its steps alone
pub record At (f : Profile) (room k : ℕ) (d : PlainDesk) (v : View) : Type 0 where
  pub stood : DeskStands d v (triples k v)
  pub actor_is : actor_of d.pass ≡ k
  pub of_profile : profile_of d.region ≡ f
  pub of_room : room_of_pass d.pass ≡ room

-- A desk that stands for nothing stands for its actor at its beginning.
pub start : {f : Profile} {room : ℕ} {d : PlainDesk} → DeskStands d [] [] → profile_of d.region ≡ f → room_of_pass d.pass ≡ room
    → At f room (actor_of d.pass) d []
start fresh of size = record { stood = fresh; actor_is = refl; of_profile = of; of_room = size }

-- A desk that made an allowed step stands for its actor's view with that step.
pub next : {f : Profile} {room k : ℕ} {d d' : PlainDesk} {v : View} {s : Step} {a : ℕ} → At f room k d v → Makes (standing_of d) (standing_of d') s a
    → Allowed f v s → At f room k d' (made s a ∷ v)
next {f} {room} {k} {d} {d'} {v} {s} {a} at m allowed = search arith

-- A desk can make each step of the region that its actor's view allows.
pub can : {f : Profile} {room k : ℕ} {d : PlainDesk} {v : View} (s : Step) → At f room k d v → IsStepOf f s → Allowed f v s → CanMake (standing_of d) s
can {f} {room} {k} {d} {v} s at of allowed = search arith

-- each answer is the value of its word
pub told : {f : Profile} {room k : ℕ} {d : PlainDesk} {v : View} → At f room k d v → Legal (profile_of d.region) (triples k v)
told at = at.stood.region.legal

events_few : (k : ℕ) (v : View) → length (events_of k v) ≤ length v
events_few k [] = omega arith
events_few k (m ∷ v) = omega (arith, with_few (event_of k (epoch_of v) m.step m.answer) (events_of k v), events_few k v)

-- there is room for n events after so few steps
pub spare : {f : Profile} {room k : ℕ} {d : PlainDesk} {v : View} (n : ℕ) → At f room k d v → length v + n ≤ room
    → n ≤ spare_in d.pass
spare {k = k} {d = d} {v = v} n at few =
    let j = actor_of d.pass in
    let left = spare_of_room d v (triples k v) at.stood in
    omega (arith, left, events_few j v, at.of_room, few)

-- ==== A region, a pass and a desk after a step.

-- the actor's part has the step
own_part : (k : ℕ) (m : Made) (l : Whole) → part k (triple k m ∷ l) ≡ m ∷ part k l
own_part k m l = part_of_own k (m ∷ []) l

-- ---- the pass
pass_next : (f : Profile) (old new : PlainPass) (s : Step) (a : ℕ) (l : Whole) → PassStands f old l → actor_of new ≡ actor_of old
    → forgotten_by new ≡ forgotten_by old
    → IsNoted old.notes new.notes (actor_of old) s a → PassStands f new (triple (actor_of old) (made s a) ∷ l)
pass_next f old new s a l stands same gone noted =
    search (arith, next, rest_noted, count_next)

-- ---- the region
-- a word after the step, which wrote its own word
word_next : (l : Whole) (w : Word) (e k : ℕ) (s : Step) (n old : ℕ) → n ≡ word_after l (target s) → old ≡ word_after l w → e ≡ epoch_of (part k l)
    → (same : Bool) → same_word (target s) w ≡ same
    → (if same then new_value e s n else old) ≡ (if same then new_value (epoch_of (part k l)) s (word_after l w) else word_after l w)
word_next l w e k s n old is was ep same h = grind (arith, same_word-true)

region_next : (old new : PlainRegion) (e : ℕ) (s : Step) (a : ℕ) (l : Whole) (k : ℕ) → RegionStands old l → IsExchanged old new e s a → e ≡ epoch_of (part k l)
    → IsWordOf (profile_of old) (target s)
    → Legal (profile_of old) (triple k (made s a) ∷ l) → RegionStands new (triple k (made s a) ∷ l)
region_next old new e s a l k stands changed ep of legal =
    search (arith, word_next)

-- ---- the desk
abbrev seat : ℕ → Profile → ℕ → Seat
seat a f r = record { actor = a; profile = f; room = r }

seat_same : {a a' r r' : ℕ} {f f' : Profile} → a ≡ a' → f ≡ f' → r ≡ r' → seat a f r ≡ seat a' f' r'
seat_same {a} {a'} {r} {r'} {f} {f'} x y z = ap (λ (n : ℕ). seat n f r) x ∙ ap (λ (g : Profile). seat a' g r) y ∙ ap (λ (n : ℕ). seat a' f' n) z

desk_next : (d new : PlainDesk) (s : Step) (a : ℕ) → IsStepOf (profile_of d.region) s → IsChanged d new s a → (v : View) (l : Whole) → DeskStands d v l
    → Allowed (profile_of d.region) v s
    → DeskStands new (made s a ∷ v) (triple (actor_of d.pass) (made s a) ∷ l)
desk_next d new s a of changed v l stood allowed =
    let f = profile_of d.region in
    let k = actor_of d.pass in
    let of_word = target_of_region f v s of allowed in
    let legal = legal_next f l k v s a stood.region.legal stood.pass.actor stood.part_is of allowed (changed.region.answer_is ∙ stood.region.ends (target s) of_word) in
    record {
      region = region_next d.region new.region (or_zero (epoch_known d.pass)) s a l k stood.region changed.region (ap or_zero stood.pass.epoch) of_word legal;
      pass = subst (λ (g : Profile). PassStands g new.pass (triple k (made s a) ∷ l)) (sym changed.region.profile) (pass_next f d.pass new.pass s a l stood.pass changed.actor changed.forgotten changed.pass);
      part_is = ap (λ (x : ℕ). part x (triple k (made s a) ∷ l)) changed.actor ∙ own_part k (made s a) l ∙ ap (λ x. made s a ∷ x) stood.part_is;
    }

-- what a call says, from what it changed
pub plain_makes : (d new : PlainDesk) (s : Step) (a : ℕ) → IsStepOf (profile_of d.region) s → IsChanged d new s a → Makes (standing_of d) (standing_of new) s a
plain_makes d new s a of changed =
    let f = profile_of d.region in
    let k = actor_of d.pass in
    record {
      seat_is = seat_same changed.actor changed.region.profile changed.pass.size;
      added = desk_next d new s a of changed;
      agrees = λ v l stood allowed.
          agrees_next f l k v s a d.region.valid stood.region.legal stood.part_is of (changed.region.answer_is ∙ stood.region.ends (target s) (target_of_region f v s of allowed));
    }

-- ---- a pass whose room is emptied
-- What was shown is gone then, after what was gone before.
gone_too : (n m : ℕ) (shown empty es : List Event) → m ≡ n + length shown → empty ≡ [] → ShowsRest n shown es → ShowsRest m empty es
gone_too n m shown empty es more none rest = record {
  gone = rest.gone ++ shown;
  many = length-append rest.gone shown ∙ ap (λ (x : ℕ). x + length shown) rest.many ∙ sym more;
  all = ap (λ xs. (rest.gone ++ shown) ++ xs) none ∙ append-nil (rest.gone ++ shown) ∙ rest.all;
}

-- A pass that forgot what it showed stands as before.
pub forgets : (old new : PlainPass) → actor_of new ≡ actor_of old → events_shown new ≡ [] → forgotten_by new ≡ forgotten_by old + length (events_shown old)
    → room_of_pass new ≡ room_of_pass old → count_of_pass new ≡ count_of_pass old → epoch_known new ≡ epoch_known old → Forgets old new
forgets old new actor empty forgotten room count epoch =
    search (arith, gone_too)

-- .. and so does its desk.
pub desk_forgets : (old new : PlainDesk) → region_of new ≡ region_of old → Forgets (pass_of old) (pass_of new) → (v : View) (l : Whole)
    → DeskStands old v l → DeskStands new v l
desk_forgets old new region pass v l stood = record {
  region = subst (λ (r : PlainRegion). RegionStands r l) (sym region) stood.region;
  pass = subst (λ (r : PlainRegion). PassStands (profile_of r) (pass_of new) l) (sym region) (pass.stands (profile_of (region_of old)) l stood.pass);
  part_is = ap (λ (k : ℕ). part k l) pass.actor ∙ stood.part_is;
}

-- ---- steps that are told
-- A desk that counted steps which change nothing stands for its lists with them.
pub told_later : (d new : PlainDesk) (count : ℕ) → region_of new ≡ region_of d → CountsMore count (pass_of d) (pass_of new)
    → StandsLater count (standing_of d) (standing_of new)
told_later d new count region counts = search (arith, seat_same, next, part_of_own, length-append, reverse)

-- A desk of which only the notes changed stands as before.
pub noted_still : (d new : PlainDesk) → profile_of new.region ≡ profile_of d.region → new.region.words ≡ d.region.words → new.pass ≡ d.pass
    → StandsStill (standing_of d) (standing_of new)
noted_still d new profile words pass = search (arith, seat_same)

-- The value of a word is told, since all lists for which a plain desk stands end in its words.
pub tells_word : (d : PlainDesk) (word : Word) → IsWordOf (profile_of d.region) word → TellsWord true (standing_of d) word (word_at d.region word)
tells_word d word of = search arith

-- The pages that its notes have are short by each list for which it stands.
pub are_short : (d : PlainDesk) (grains align block bits : ℕ)
    → ((b : ℕ) → b < 64 → has_bit bits b ≡ true → IsShortPage (profile_of d.region).pages d.region.words.words grains align (64 * block + b))
    → AreShort (standing_of d) grains align block bits
are_short d grains align block bits noted b lt bit v l stood =
    let here = noted b lt bit in short_alike grains align (λ g small. cc (stood.region.ends (Word.Free (64 * block + b) (g / 64)) (here.of_region.0, here.of_region.1, omega (arith, small)))) here.short

-- The last passes of a region that nobody used yet.
-- ---- the last one of a list
abbrev first_or : {A : Type 0} → A → List A → A
first_or x [] = x
first_or x (y ∷ ys) = y

last_same : {A : Type 0} (xs ys : List A) (x y : A) → xs ++ x ∷ [] ≡ ys ++ y ∷ [] → x ≡ y
last_same {A = A} xs ys x y e =
    sym (ap (first_or x) (reverse-append xs (x ∷ []))) ∙ (ap (λ (zs : List A). first_or x (reverse zs)) e ∙ ap (first_or x) (reverse-append ys (y ∷ [])))

-- the last two of three
last_two : {A : Type 0} (a b c : A) (rest : List A) (x y : A) → a ∷ b ∷ c ∷ [] ≡ (rest ++ x ∷ []) ++ y ∷ [] → (x ≡ b) × (y ≡ c)
last_two a b c [] x y e = absurd (omega (arith, ap length e))
last_two a b c (r ∷ []) x y e = (cc, cc)
last_two a b c (r ∷ s ∷ rest) x y e = absurd (omega (arith, simp length-append at (ap length e)))

-- ---- the last pass
passes_more : (n : ℕ) (rooms : List EventRoom) (room : EventRoom)
    → passes_from n (rooms ++ room ∷ []) ≡ passes_from n rooms ++ pass_for (n + length rooms) room ∷ []
passes_more n [] room = let same : n ≡ n + 0 = omega arith in ap (λ (k : ℕ). pass_for k room ∷ []) same
passes_more n (r ∷ rooms) room =
    let same : n + 1 + length rooms ≡ n + suc (length rooms) = omega arith in
    ap (λ (passes : List PlainPass). pass_for n r ∷ passes)
    (passes_more (n + 1) rooms room ∙ ap (λ (k : ℕ). passes_from (n + 1) rooms ++ pass_for k room ∷ []) same)

-- is that of the last room, with the number of the rooms before it
last_pass : (rooms all : List EventRoom) (room : EventRoom) (passes rest : List PlainPass) (pass : PlainPass)
    → all ≡ rooms ++ room ∷ [] → passes ≡ passes_from 0 all → passes ≡ rest ++ pass ∷ [] → pass ≡ pass_for (length rooms) room
last_pass rooms all room passes rest pass more from last =
    search (arith, last_same, passes_more)

fresh_pass : (f : Profile) (region : PlainRegion) (k : ℕ) (room : EventRoom) (pass : PlainPass) → profile_of region ≡ f → k ≤ f.threads → shown room ≡ []
    → pass ≡ pass_for k room → PassStands (profile_of region) pass []
fresh_pass f region k room pass of below empty is =
    let profile = sym of in let made = sym is in
    subst (λ (z : Profile × PlainPass). PassStands z.0 z.1 []) (λ i. (profile i, made i)) (fresh_stands f k room below empty)

-- the last one of all: its pass, and that it stands
pub record IsLast (f : Profile) (region : PlainRegion) (room : EventRoom) (pass : PlainPass) : Type 0 where
  pub pass_is : pass ≡ pass_for f.threads room
  pub stands : PassStands (profile_of region) pass []

pub is_last : (f : Profile) (region : PlainRegion) (rooms all : List EventRoom) (room : EventRoom) (passes rest : List PlainPass) (pass : PlainPass)
    → profile_of region ≡ f → length rooms ≡ f.threads → shown room ≡ [] → all ≡ rooms ++ room ∷ [] → passes ≡ passes_from 0 all
    → passes ≡ rest ++ pass ∷ [] → IsLast f region room pass
is_last f region rooms all room passes rest pass of many empty more from last =
    let is = last_pass rooms all room passes rest pass more from last in
    record { pass_is = is ∙ ap (λ (k : ℕ). pass_for k room) many; stands = fresh_pass f region (length rooms) room pass of (omega (arith, many)) empty is }

-- the last two of three
pub record AreTwo (region : PlainRegion) (one two : EventRoom) (first second : PlainPass) : Type 0 where
  pub first_is : first ≡ pass_for 1 one
  pub second_is : second ≡ pass_for 2 two
  pub first_stands : PassStands (profile_of region) first []
  pub second_stands : PassStands (profile_of region) second []

pub are_two : (f : Profile) (region : PlainRegion) (idle one two : EventRoom) (all : List EventRoom) (passes rest : List PlainPass) (first second : PlainPass)
    → profile_of region ≡ f → f.threads ≡ 2 → shown one ≡ [] → shown two ≡ [] → all ≡ idle ∷ one ∷ two ∷ [] → passes ≡ passes_from 0 all
    → passes ≡ (rest ++ first ∷ []) ++ second ∷ []
    → AreTwo region one two first second
are_two f region idle one two all passes rest first second of threads empty empty' three from last =
    search (arith, last_two)
