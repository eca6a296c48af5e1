-- A block that one actor hands another: what each of the two did, and how their steps stand in the one list.
use Rattle.std.proofs.Common.{◌≡◌, ◌≢◌, ℕ, zero, suc, ◌-◌, ◌/◌, ◌<◌, max, Bool, if◌then◌else◌, List, [], ◌∷◌, ◌++◌, length, reverse, Option, Some, Ok, inr}
use Rattle.std.proofs.{Common.{⊎_elim, refl, sym, ap, ◌∙◌, subst, arith, nat_lt, eq-eqb, append-nil, append_assoc}, lemmas.Bool.cases_eq}
use Rattle.std.{proofs.lemmas.List.append_cancel_right, specs.List.AllByRecursion}
use Rattle.pas_bits.proofs.Runs.{first_of_run}
use Rattle.pas_profile.specs.{Blocks.{address_of, grain_of, length_of}, Lives.turn_of, Profiles.IsValid, Requests.route_in, Routes.{room_by, IsRouteOf}}
use Rattle.pas_profile.specs.{Entries.entry_of, declared.{directory.{Directory.Directory, Route.Route}, event.{Event.Event, Why.Why}, name.Block.Block}}
use Rattle.pas_profile.{specs.declared.{name.Name.Name, profile.Profile.Profile}, proofs.Sizes.{route_is, class_known, class_size_whole}}
use Rattle.pas_steps.specs.{Noted.{events_noted, room_of_notes}, Clear.HasNothing, Views.{View, epoch_of}, Desks.{Seat, CanCall, triple, triples}}
use Rattle.pas_steps.specs.{Events.{event_of, events_of, events_by, with_event}, Lists.{Triple, Whole, Legal, part, visible}, declared.state.State.State}
use Rattle.pas_steps.{specs.declared.step.Made.Made, proofs.{Parts.{part_of_own, part_of_others}, Nothing.nothing_yet}}
use Rattle.pas_machine.specs.{Machine.{Run, IsLive, IsReason}, State.{live_in, ends_in}}
use Rattle.pas_core.proofs.MachineRuns.{runs}
use Rattle.pas_free_log.specs.{Flushes.{EndsName, event_for}, declared.ending.Outcome.{Outcome, TheVariants.{Ended, Refused}}}
use Rattle.pas_cache.specs.{Caches.{Cached, AtRest}, Calls.{MayAllocate, Allocates}, Serves.{IsPreparing, wanted_for}}
use Rattle.pas_shared.specs.{Ruled.IsEarlier, Passes.{view_of, seat_of, standing_of}, Pasts.{told, IsPastOf, HasOwn}, Ledgers.EndsAfter}
use Rattle.pas_shared.specs.declared.{desk.SharedDesk.SharedDesk, past.Past.Past, pass.SharedPass.SharedPass, region.SharedRegion.SharedRegion}
use Rattle.pas_shared.proofs.{Pops.{first_is, others_are}, Ruling.part_both}
use Rattle.pas_trials.{specs.{Handing.{IsFirst, IsOfActor, IsGiftOf, HasFreed, IsHandedOver}, declared.handing.Gift.Gift}, proofs.Firsts.no_events}

-- ==== What each of the two did.

events_all : (k : ℕ) (xs : List Made) → events_of k (xs ++ []) ≡ events_by k [] xs
events_all k [] = refl
events_all k (m ∷ xs) = ap (with_event (event_of k (epoch_of (xs ++ [])) m.step m.answer)) (events_all k xs)

-- ---- the one that asks
pub can_ask : (desk : SharedDesk) (c : Cached) → view_of desk.pass ≡ [] → (seat_of desk.pass).room ≡ 3
    → ((f : Profile) (v : View) → HasNothing v → AtRest f c v)
    → CanCall (standing_of desk) (MayAllocate (seat_of desk.pass).profile c (room_of_notes desk.pass.notes - length (events_noted desk.pass.notes)))
can_ask desk c none room rest =
    let f = (seat_of desk.pass).profile in
    let empty = no_events desk.pass none in
    record {
      view = view_of desk.pass;
      whole = [];
      stood = refl;
      met = record { rest = rw none (rest f [] nothing_yet); room = (omega (arith, empty, room), inr (omega (arith, empty, room))) };
    }

some_grains : (classes size align : ℕ) (route : Route) → IsRouteOf classes size align route → 0 < room_by route (max size 1) / 16
some_grains classes size align route is = search (arith, class_size_whole, class_known)

-- A block that one actor allocated, and whose past it told, is a gift.
pub gift_of : (region : SharedRegion) (c c' : Cached) (tells : Bool) (d d' : SharedDesk) (pass : SharedPass) (gift : Gift) (block : Block)
    → view_of d.pass ≡ [] → (seat_of d.pass).actor ≡ 1 → (seat_of d.pass).profile ≡ region.profile → ((f : Profile) (v : View) → HasNothing v → AtRest f c v)
    → Allocates (wanted_for (seat_of d.pass).profile 0 64 16) tells c c' (standing_of d) (standing_of d') (Ok block)
    → pass ≡ d'.pass → IsPastOf region gift.past → HasOwn (seat_of d'.pass).actor (view_of d'.pass) (told gift.past) → gift.name ≡ block.name
    → IsGiftOf region pass gift
gift_of region c c' tells d d' pass gift block none actor profile rest al pass_is of own name =
    let f = (seat_of d.pass).profile in
    let met = rest f [] nothing_yet in
    let view : view_of pass ≡ al.steps ++ [] = ap view_of pass_is ∙ al.calls.adds.added [] [] none met in
    let who : (seat_of d'.pass).actor ≡ 1 = ap (λ (s : Seat). s.actor) al.calls.adds.seat_is ∙ actor in
    let shown = al.outcome.events 1 [] in
    let small = al.outcome.turn.from [] met (al.calls.adds.agreed [] [] none met) in
    let some = some_grains f.classes 64 16 (route_in f 64 16) (route_is f.classes 64 16) in
    let room = ap (λ (n : ℕ). n / 16) al.outcome.room in
    let page = al.outcome.of_region (grain_of block.name) (first_of_run (grain_of block.name) (length_of block) (omega (arith, some, room))) in
    search (arith, events_all)

-- ---- the one that frees
pub freed : (region : SharedRegion) (d d' : SharedDesk) (gift : Gift) (pass : SharedPass) (past : Past)
    → view_of d.pass ≡ [] → (seat_of d.pass).actor ≡ 2 → EndsName gift.name (standing_of d) (standing_of d')
    → pass ≡ d'.pass → IsPastOf region past → IsEarlier (told gift.past) (told past) → HasOwn 2 [] (told past)
    → HasFreed region gift pass past
freed region d d' gift pass past none actor ends pass_is of earlier own =
    let all = ends.flushes in
    let view : view_of pass ≡ all.steps ++ [] = ap view_of pass_is ∙ all.calls.adds.added [] [] none nothing_yet.clear in
    search (arith, events_all)

-- ==== The one list: all steps of the one, and behind them all of the other.

-- ---- a list of one actor
own_part : (t : Triple) (l : Whole) → part t.actor (t ∷ l) ≡ t.made ∷ part t.actor l
own_part t l = part_of_own t.actor (t.made ∷ []) l

other_part : (t : Triple) (l : Whole) (j : ℕ) → t.actor ≢ j → part j (t ∷ l) ≡ part j l
other_part t l j ne = part_of_others j t.actor (t.made ∷ []) l ne

-- Where no other actor made a step, the list is the one actor's part.
lone : (k : ℕ) (l : Whole) → ((j : ℕ) → j ≢ k → part j l ≡ []) → l ≡ triples k (part k l)
lone k [] none = refl
lone k (t ∷ l) none = ⊎_elim
    (λ (same : t.actor ≡ k).
    let rest : l ≡ triples k (part k l) = lone k l (λ j ne. sym (other_part t l j (λ e. ne (sym e ∙ same))) ∙ none j ne) in
    let its : part k (t ∷ l) ≡ t.made ∷ part k l = subst (λ (n : ℕ). part n (t ∷ l) ≡ t.made ∷ part n l) same (own_part t l) in
    let front : t ∷ l ≡ triple k t.made ∷ triples k (part k l) = λ i. triple (same i) t.made ∷ rest i in
    front ∙ ap (triples k) (sym its))
    (λ (ne : t.actor ≢ k). cc (own_part t l, none t.actor ne))
    (cases_eq t.actor k)

-- ---- no one else made a step
nobody : (f : Profile) (l : Whole) (j : ℕ) → Legal f l → f.threads < j → part j l ≡ []
nobody f [] j legal beyond = refl
nobody f (t ∷ l) j legal beyond = other_part t l j (λ same. omega (arith, legal.0.actor, beyond, same)) ∙ nobody f l j legal.1 beyond

left_none : (v w : View) → v ++ w ≡ [] → v ≡ []
left_none [] w none = refl
left_none (m ∷ v) w none = cc

right_none : (v w : View) → v ++ w ≡ [] → w ≡ []
right_none v w none = ap (λ (u : View). u ++ w) (sym (left_none v w none)) ∙ none

others : (k : ℕ) (P : ℕ → Type 0) → P 0 → (1 ≢ k → P 1) → (2 ≢ k → P 2) → ((j : ℕ) → 2 < j → P j) → (j : ℕ) → j ≢ k → P j
others k P none one two more zero ne = none
others k P none one two more (suc zero) ne = one ne
others k P none one two more (suc (suc zero)) ne = two ne
others k P none one two more (suc (suc (suc j))) ne = more (suc (suc (suc j))) (omega arith)

-- ---- its events
event_both : (o : Option Event) (es more : List Event) → with_event o (es ++ more) ≡ with_event o es ++ more
event_both o es more = grind arith

shown_both : (k : ℕ) (xs : List Made) (l : Whole) → visible (triples k xs ++ l) ≡ events_by k (part k l) xs ++ visible l
shown_both k [] l = refl
shown_both k (m ∷ xs) l =
    ap (λ (v : View). with_event (event_of k (epoch_of v) m.step m.answer) (visible (triples k xs ++ l))) (part_of_own k xs l)
    ∙ (ap (with_event (event_of k (epoch_of (xs ++ part k l)) m.step m.answer)) (shown_both k xs l)
    ∙ event_both (event_of k (epoch_of (xs ++ part k l)) m.step m.answer) (events_by k (part k l) xs) (visible l))

shown_lone : (k : ℕ) (v : View) (l : Whole) → part k l ≡ [] → visible (triples k v ++ l) ≡ events_of k v ++ visible l
shown_lone k v l none =
    cc (shown_both k v l, events_all k v, append-nil v)

-- ==== A run in which the block was given last has no refusal of its name next.

-- What prepares a page ends no block: event by event.
no_end : (d : Directory) (e : Event) (es : List Event) (a : ℕ) → IsPreparing d e → ends_in (e ∷ es) a ≡ ends_in es a
no_end d e es a is = grind arith

no_ends : (d : Directory) (es : List Event) (a : ℕ) → AllByRecursion (IsPreparing d) es → ends_in es a ≡ 0
no_ends d [] a all = refl
no_ends d (e ∷ es) a all = no_end d e es a all.0 ∙ no_ends d es a all.1

refuses_not : (ended : Bool) (es : List Event) (name : Name) → ends_in es (address_of name) ≡ 0 → IsLive es name
    → IsReason es name (if ended then Why.Ended else Why.NoBlock) → ⊥
refuses_not ended es name none live reason = search arith

is_end : (f : Profile) (block : Block) (d : Directory) (before : List Event) (epoch : ℕ) (outcome : Outcome) → AllByRecursion (IsPreparing d) before
    → Run f (event_for 2 epoch (entry_of block.name) outcome ∷ Event.Give 1 block ∷ before)
    → event_for 2 epoch (entry_of block.name) outcome ≡ Event.End 2 block.name epoch
is_end f block d before epoch (Ended grains) prepared run = refl
is_end f block d before epoch (Refused read) prepared run =
    let a = address_of block.name in
    let live : IsLive (Event.Give 1 block ∷ before) block.name = (record { actor = 1; block = block }, ap (λ (b : Bool). if b then Some (record { actor = 1; block = block }) else live_in before a) (eq-eqb a a refl), refl) in
    absurd (refuses_not (nat_lt block.name.turn (turn_of read)) (Event.Give 1 block ∷ before) block.name (no_ends d before a prepared) live run.0.1)

-- ==== The session.

handed_over : (f : Profile) (l first second : Whole) (v w : View) (block : Block) (name : Name) (d : Directory) (before : List Event) (epoch : ℕ)
    (outcome : Outcome)
    → IsValid f → Legal f l → f.threads ≡ 2 → IsEarlier first second → IsEarlier second l → HasOwn 1 v first → HasOwn 2 [] second
    → part 0 l ≡ [] → part 1 l ≡ v → part 2 l ≡ w
    → block.name ≡ name → events_of 1 v ≡ Event.Give 1 block ∷ before → AllByRecursion (IsPreparing d) before
    → events_of 2 w ≡ event_for 2 epoch (entry_of name) outcome ∷ []
    → event_for 2 epoch (entry_of name) outcome ≡ Event.End 2 name epoch
handed_over f l first second v w block name d before epoch outcome valid legal threads told_before taken own fresh none one two name_is gave prepared ended =
    let later : Whole = taken.0 in
    let cut : (j : ℕ) → part j l ≡ part j later ++ part j second = λ j. ap (part j) taken.1 ∙ part_both j later second in
    let zero_cut : part 0 later ++ part 0 second ≡ [] = sym (cut 0) ∙ none in
    let more_cut : (j : ℕ) → 2 < j → part j later ++ part j second ≡ [] = λ j beyond. sym (cut j) ∙ nobody f l j legal (omega (arith, threads, beyond)) in
    let two_later : part 2 later ≡ w = cc (append-nil (part 2 later), fresh, cut 2, two) in
    let mid : Whole = told_before.0 in
    let one_after : part 1 second ≡ part 1 mid ++ v = ap (part 1) told_before.1 ∙ (part_both 1 mid first ∙ ap (λ x. part 1 mid ++ x) own) in
    let one_whole : (part 1 later ++ part 1 mid) ++ v ≡ v = cc (append_assoc (part 1 later) (part 1 mid) v, one_after, cut 1, one) in
    let one_later : part 1 later ≡ [] = left_none (part 1 later) (part 1 mid) (append_cancel_right (part 1 later ++ part 1 mid) [] v one_whole) in
    let one_second : part 1 second ≡ v = cc (one_later, cut 1, one) in
    let second_is : second ≡ triples 1 v = search (arith, lone, others, right_none) in
    let later_is : later ≡ triples 2 w = search (arith, lone, others, left_none) in
    let whole_is : l ≡ triples 2 w ++ second = taken.1 ∙ ap (λ (x : Whole). x ++ second) later_is in
    let first_events : visible second ≡ Event.Give 1 block ∷ before = cc (second_is, append-nil (triples 1 v), shown_lone 1 v [] refl, append-nil (events_of 1 v), gave) in
    search (arith, shown_lone, is_end, runs)

-- A gift that the second actor freed was handed over.
pub is_handed_over : (region : SharedRegion) (gift : Gift) (scavenger giver taker : SharedPass) (past : Past) (state : State) (event : Option Event)
    → region.profile.threads ≡ 2 → IsFirst region 0 3 scavenger → IsOfActor region 1 giver → IsOfActor region 2 taker → IsGiftOf region giver gift
    → HasFreed region gift taker past
    → EndsAfter region.profile (told past) (scavenger ∷ giver ∷ taker ∷ []) state
    → ((e : Event) (more : List Event) → events_noted taker.notes ≡ e ∷ more → event ≡ Some e)
    → IsHandedOver record { name = gift.name; event = event }
is_handed_over region gift scavenger giver taker past state event threads idle one two given free ends tells =
    search (arith, others, others_are, first_is, reverse, handed_over)
