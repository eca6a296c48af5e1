-- The acts of a replay, one after the other, and what stands between two operations where records are handed on.
use Rattle.std.proofs.Common.{◌≡◌, ℕ, ◌+◌, ◌-◌, ◌<◌, ◌≤◌, not, List, [], ◌∷◌, ◌++◌, map, length, drop, get_or, refl, ap, sym, ◌∙◌, subst, arith, Option, Bool}
use Rattle.std.proofs.Common.{true, false, length-append, append_assoc, append-nil, None, Some, MatchOption, All, drop_at, zero, suc, ◌*◌, ◌/◌, nat_le, inl}
use Rattle.std.proofs.{Common.{inr, slice_index, le-leb, slice_index_or, ◌==◌, ◌||◌}, lemmas.{List.{drop_more, get_or-map, Elements.All-drop}, Nat.mul-le}}
use Rattle.pas_replay.proofs.Common.{length-map, cases_lt, lt-leb, same_Some, suc-mul, filter, Legal, Whole, part, View, Profile, Guard, Op, Plan, Act, Wakes}
use Rattle.pas_replay.proofs.Common.{Lowers, is_active, numbers_from, acts_of_op, acts_of_ops, phase_acts, MarksPhase, MarksClose, Ends, acts_of, IsPlanOf}
use Rattle.pas_replay.proofs.Common.{unlined, without_lines, Progress, Advances, names_held, InOrder, AreFit, cost_of_act, costs_of, AreOfThreads, at_start}
use Rattle.pas_replay.proofs.Common.{phases_of, region_of, keepers_of, acts_of_plan, Shows, Names, EachShown, sum_both, acts_shown, Indexes, no_ranges, pass_in}
use Rattle.pas_replay.proofs.Common.{HasNames, ActorStands, Replay, Left, Hand, GoesBy, IsAt, SoFar, upon, Session, SoFarAt, owed_by, session, telling}
use Rattle.pas_replay.proofs.Common.{SeatStands, AreCaches, GuardBook, hand_of, dearest, left_between, Between, Begins, IsKitOf, replay_of, Actors, PlainPass}
use Rattle.pas_replay.proofs.Common.{profile_of, RegionStands, PassStands, is_set, Mask4, awake_in, idle_in, plan_operate, plan_fit, FitsBook, is_outer, Cached}
use Rattle.pas_replay.proofs.{Common.{records_in, room_of, Records, Record, HaveBooks, HavePlaces, replays}, Turning.{all_rest, still_places, owed_kept}}
use Rattle.pas_replay.proofs.Turning.{op_costs, owed_most, AsksNoIndex, still_named, less_events, less_tries, other_stands, said_more}
use Rattle.pas_replay.specs.{Sessions.{costs_and, AreEmpty, AreLowered}, Taking.{FewWait, room_for_taker, room_between}, Kits.IsFresh}
use Rattle.pas_replay.specs.declared.kit.PlainKit.{PlainKit}
use Rattle.pas_trace.{specs.{Plans.bounds_of, declared.plan.What.TheVariants.Alloc, Acts.close_acts, EveryPlan.operations_of}, proofs.Keepers.plan_actors}
use Rattle.pas_answers.{specs.{Replays.{threads_of, empty_cache}, Answers.with_records}, proofs.{OwnRecords.all_shown, Reached.{in_phases, plan_by_one_list}}}
use Rattle.pas_answers.proofs.Consequences.{all_true}
use Rattle.pas_cache.{specs.Caches.AtRest, proofs.FlushesAndFrees.rests_empty}
use Rattle.pas_steps.{specs.{Lists.word_after, Clear.HasNothing, States.{profile_of as the_profile_of, word_in}}, proofs.Nothing.nothing_yet}
use Rattle.pas_profile.specs.{declared.word.Word.Word, Profiles.{IsValid, IsWordOf}, Rooms.EventRoom}
use Rattle.pas_plain.specs.Plain.{pass_for, passes_from}
use Rattle.pas_acts.{specs.{PlanKeepers.guarded_of, Parts.AreRooms}, proofs.ActsLeft.{number_next, number_last, next_chosen, next_passed, none_left}}
use Rattle.pas_acts.proofs.{ActsLeft.threads_alike, PlanFacts.{plan_own, plan_scavenger, plan_total, plan_kept_own, plan_tries, plan_keeps}}
use Rattle.pas_acts.proofs.PlanFacts.{pages_owed_at_first, no_slots}
use Rattle.pas_records.specs.Lines.{CanShow}

-- ---- marks
-- A mark that was said takes the replay on, and the acts behind it come next.
pub after_mark : {r : Replay} {more : Left} {act : Act} {T : Type 0} {h : Hand} (out' : Records) (mark : Record) → T × SoFar r (upon r (act ∷ []) more) h
    → ((p : Progress) → Advances r.profile act p (with_records p (mark ∷ []))) → cost_of_act r.profile.pages act ≡ 1
    → ((limit : ℕ) (asked : List ℕ) → AreFit r.profile limit asked (act ∷ more.acts) → AreFit r.profile limit asked more.acts) → AsksNoIndex r.profile act
    → records_in out' ≡ records_in h.out ++ mark ∷ [] → room_of out' ≡ room_of h.out → T × SoFar r more (record h { out = out' })
after_mark {r} {more} {act} {T} {h} out' mark (taken, (p, at)) advances one fit asks pushed room =
    let f = r.profile in
    let next = with_records p (mark ∷ []) in
    let each : (k : ℕ) → k ≤ f.threads → ActorStands r.threads f k next (pass_in h.passes k) more.acts
    = λ k le. (other_stands r.threads f p (with_records p (mark ∷ [])) {j = k} {k = k + 1} (act ∷ more.acts) more.acts []
    (λ e. omega (arith, e)) refl refl refl refl (less_events r.threads f (act ∷ []) more.acts k) (at.each k le)) in
    let known : HasNames f more.acts h.table next.names = still_named fit refl at.names in
    let places = still_places r.threads h.books (act ∷ more.acts) more.acts (less_tries (act ∷ []) more.acts) at.books_have in
    let said = said_more r.told (records_in h.out) (records_in out') p.records (mark ∷ []) at.records_are pushed in
    let legal = subst (λ (g : Profile). Legal g p.list) at.profile_is at.stands.legal in
    let shown : EachShown next.records = acts_shown f (act ∷ []) p next (next, advances p, refl) legal at.shown in
    let same = owed_kept r.threads f p next 0 (record { parts = λ j ne. refl; caches = λ j ne. refl; books = λ j ne. refl }) (r.threads + r.keepers) (λ j low high e. omega (arith, low, e)) in
    let spare : length (records_in out') + (owed_by r.threads f next (r.threads + r.keepers) + more.room) ≤ room_of out'
    = omega (arith, ap (λ (rs : List Record). length rs) pushed ∙ length-append (records_in h.out) (mark ∷ []), at.spare, room, one, same) in
    let answers : (q : Progress) → GoesBy r.threads f h.indexes more.acts next q → GoesBy r.threads f (no_ranges f.heaps) r.acts at_start q
    = λ q rest.
    let asked = asks h.indexes p next (advances p) in
    let left = subst (λ (ix : Indexes). GoesBy r.threads f ix more.acts next q) (sym asked.0) rest in
    at.answers q (((next, advances p, left.0.0), (asked.1, left.0.1)), (all_rest at, left.1)) in
    (taken, (next, assumption (at.operate.1, at.keep.1, places, said, room ∙ at.size)))

-- ---- the acts that are left
-- What acts cost and so many more is the sum.
costs_then : (f : Profile) (acts : List Act) (more : ℕ) → costs_and f acts more ≡ costs_of f.pages acts + more
costs_then f [] more = omega arith
costs_then f (act ∷ acts) more = omega (arith, costs_then f acts more)

costs_both : (f : Profile) (first more : List Act) (after : ℕ) → costs_and f (first ++ more) after ≡ costs_and f first (costs_and f more after)
costs_both f [] more after = refl
costs_both f (act ∷ first) more after = ap (λ (n : ℕ). cost_of_act f.pages act + n) (costs_both f first more after)

-- field by field
left_same : {acts acts' : List Act} {room room' : ℕ} → acts ≡ acts' → room ≡ room' → ◌≡◌ {A = Left} record { acts = acts; room = room } record { acts = acts'; room = room' }
left_same {acts' = acts'} {room = room} same is = search arith

-- What stands before some acts stands before the same acts otherwise written.
pub as_left : {r : Replay} {left left' : Left} {T : Type 0} {h : Hand} → left ≡ left' → T × SoFar r left h → T × SoFar r left' h
as_left {r} {h = h} same so = (so.0, subst (λ (l : Left). SoFar r l h) same so.1)

-- What a hand had so far is had by the same hand otherwise written.
pub as_hand : {r : Replay} {left : Left} {h h' : Hand} → h ≡ h' → SoFar r left h → SoFar r left h'
as_hand {r} {left} same so = subst (λ (k : Hand). SoFar r left k) same so

-- .. the same where it came after a reading of the epoch
pub as_read : {r : Replay} {left left' : Left} {T : Type 0} {h : Hand} {epoch : ℕ} → left ≡ left' → T × (p : Progress) × IsAt r left h p × (p.epoch ≡ epoch)
    → T × (p : Progress) × IsAt r left' h p × (p.epoch ≡ epoch)
as_read {r} {h = h} {epoch} same so = search arith

-- .. where the first ones are alike before no acts
upon_alike : (r : Replay) (acts acts' : List Act) (more : Left) → acts ++ [] ≡ acts' ++ [] → upon r acts more ≡ upon r acts' more
upon_alike r acts acts' more same = ap (λ (xs : List Act). upon r xs more) (sym (append-nil acts) ∙ same ∙ append-nil acts')

pub as_first : {r : Replay} {acts acts' : List Act} {T : Type 0} {h : Hand} (more : Left) → acts ≡ acts' → T × SoFar r (upon r acts more) h
    → T × SoFar r (upon r acts' more) h
as_first {r} more same so = as_left (ap (λ (xs : List Act). upon r xs more) same) so

-- .. of all actors behind this one
module _ {r : Replay} {T : Type 0} {h : Hand} (to : ℕ → Act) (first i n : ℕ) (more : Left) where
  -- Where acts of so many actors come next, that of the first of them does, and then those past it.
  pub next_number : (k : ℕ) → k ≡ first + i → i < n → T × SoFar r (upon r (map to (numbers_from (first + i) (n - i))) more) h
      → T × SoFar r (upon r (to k ∷ []) (upon r (map to (numbers_from (first + (i + 1)) (n - (i + 1)))) more)) h
  next_number k is lt so =
      let rest = n - (i + 1) in
      let next : first + i + 1 ≡ first + (i + 1) = omega arith in
      as_first more (ap (λ ks. map to ks) (number_next (first + i) (n - i) rest (omega (arith, lt)))
      ∙ ap (λ j. to (first + i) ∷ map to (numbers_from j rest)) next ∙ ap (λ j. to j ∷ map to (numbers_from (first + (i + 1)) rest)) (sym is)) so

  -- Past the last actor, what comes next are the acts behind theirs.
  pub no_number : n ≤ i → T × SoFar r (upon r (map to (numbers_from (first + i) (n - i))) more) h → T × SoFar r more h
  no_number le so = as_first more (ap (λ (ks : List ℕ). map to ks) (number_last (first + i) (n - i) (omega (arith, le)))) so

-- .. where those of this kind do them
module _ (r : Replay) (to : ℕ → Act) (chosen : ℕ → Bool) (i n : ℕ) (more : Left) where
  -- the acts of those from there on, and past there
  abbrev pub there : List Act
  there = map to (filter chosen (numbers_from (i + 1) (n - i)))

  abbrev pub beyond : List Act
  beyond = map to (filter chosen (numbers_from (i + 1 + 1) (n - (i + 1))))

  -- Where acts of chosen actors come next, the first of them does its own, where it is chosen.
  pub chosen_next : i < n → chosen (i + 1) ≡ true → upon r there more ≡ upon r (to (i + 1) ∷ []) (upon r beyond more)
  chosen_next lt on = upon_alike r there (to (i + 1) ∷ beyond) more (next_chosen to chosen i n [] lt on)

  -- .. or those past it come next
  pub passed_next : i < n → chosen (i + 1) ≡ false → upon r there more ≡ upon r beyond more
  passed_next lt off = upon_alike r there beyond more (next_passed to chosen i n [] lt off)

  -- Past the last actor, what comes next are the acts behind theirs.
  pub none_next : n ≤ i → upon r there more ≡ more
  none_next le = upon_alike r there [] more (none_left to chosen i n [] le)

-- ---- the next operation
-- (any, past the last one)
abbrev pub past : Op
past = record { line = 0; actor = 0; what = Alloc 0 0 0 0 }

-- the phase begins: first its threads wake
pub wakes_first : (threads : ℕ) (awake : Mask4) (ops : List Op) (more : List Act) → ((k : ℕ) → is_set awake k ≡ is_active ops k)
    → phase_acts threads ops ++ more ≡ map Wakes (awake_in awake threads) ++ (acts_of_ops (idle_in awake threads) ops ++ more)
wakes_first threads awake ops more alike =
    search (arith, threads_alike, not, append_assoc)

-- the same acts are left of the same progress, with other records handed on, other ones that wait, and room for others
as_so : {r : Replay} {left : Left} {h : Hand} {p : Progress} (told : List Record) (room : ℕ) (out : Records) → IsAt r left h p
    → told ++ records_in out ≡ r.told ++ records_in h.out → room_of out ≡ room_of h.out
    → length (records_in out) + (owed_by r.threads r.profile p (r.threads + r.keepers) + room) ≤ room_of out
    → IsAt (record r { told = told }) (record left { room = room }) (record h { out = out }) p
-- what goes by the acts, the actors and their progress is as it was
as_so told room out at same size spare = search arith

-- There is room for acts that come next, where they cost no more than the dearest operation.
may_do : (waits : Option ℕ) (r : Replay) (s : Session) (acts more : List Act) → costs_of r.profile.pages acts ≤ dearest r.profile
    → Between waits r (acts ++ more) s
    → SoFarAt r (upon r acts (left_between waits r more)) s
may_do None r s acts more cheap btw = search (arith, as_left, left_same, sum_both, costs_then)
may_do (Some most) r s acts more cheap ((taken, (p, at)), few) =
    let f = r.profile in
    let n = r.threads + r.keepers in
    let owed = owed_most at n (omega arith) in
    let all = mul-le n (f.pages + 64) f.threads (f.pages + 64) (omega (arith, at.threads)) (omega arith) in
    (taken, (p, as_so r.told (costs_and f acts 0) s.out at refl refl (omega (arith, few.0, few.1, owed, all, costs_then f acts 0, cheap, at.size))))

-- The records that wait can be shown.
pub can_show : {r : Replay} {left : Left} {h : Hand} → SoFar r left h → All CanShow (records_in h.out)
can_show {r} {h = h} (p, at) =
    let all = subst (λ (rs : List Record). All CanShow rs) (sym at.records_are) (all_shown p.records at.shown) in
    subst (λ (rs : List Record). All CanShow rs) (drop_at r.told _ (length r.told) refl) (All-drop CanShow (length r.told) (r.told ++ records_in h.out) all)

-- ---- what was handed on
-- What stands where these were handed on stands where the same were, otherwise written.
pub as_told : (waits : Option ℕ) (r : Replay) {told told' : List Record} (acts : List Act) (s : Session) → told ≡ told'
    → Between waits (record r { told = told }) acts s → Between waits (record r { told = told' }) acts s
as_told waits r acts s same btw = subst (λ (rs : List Record). Between waits (record r { told = rs }) acts s) same btw

pub as_between : (waits : Option ℕ) (r : Replay) (s : Session) {acts acts' : List Act} → acts ≡ acts' → Between waits r acts s → Between waits r acts' s
as_between waits r s same btw = subst (λ (xs : List Act). Between waits r xs s) same btw

-- Between two operations the taker takes the first of the records that wait.
pub taken_on : (waits : Option ℕ) (r : Replay) (acts : List Act) (s : Session) (before : Records) (told first : List Record) (out : Records)
    → records_in s.out ≡ first ++ records_in out → room_of out ≡ room_of s.out → MatchOption waits (Unit {0}) (λ most. length (records_in out) ≤ most)
    → FewWait waits r before → SoFarAt (telling r told) (left_between waits r acts) s
    → Between waits (telling r (told ++ first)) acts (session s.desk s.actors s.table out)
taken_on waits r acts s before told first out parts size less few (taken, (p, at)) =
    search (arith, length-append, append_assoc)

-- ---- the next operation
-- Where operations from one on come next, there is room for that one.
pub op_next : (waits : Option ℕ) (r : Replay) (s : Session) (awake : Mask4) (ops : List Op) (more : List Act) (i : ℕ) → i < length ops
    → Between waits r (acts_of_ops (idle_in awake r.threads) (drop i ops) ++ more) s
    → SoFarAt r (upon r (acts_of_op (idle_in awake r.threads) (get_or ops i past))
    (left_between waits r (acts_of_ops (idle_in awake r.threads) (drop (i + 1) ops) ++ more))) s
op_next waits r s awake ops more i lt btw =
    let idle = idle_in awake r.threads in
    let rest = acts_of_ops idle (drop (i + 1) ops) ++ more in
    let now = as_between waits r s (search (arith, drop_more, append_assoc)) btw in
    may_do waits r s (acts_of_op idle (get_or ops i past)) rest (op_costs awake (get_or ops i past) rest now.0.1.1) now

-- The operation at a place of a phase is the one there of each list that is the phase's but for lines.
pub said_at : (said : Op) {all : List Op} (ops : List Op) (i : ℕ) → i < length ops → ((d : Op) → unlined said ≡ slice_index_or all i d) → all ≡ map unlined ops
    → unlined (get_or ops i past) ≡ unlined said
said_at said ops i lt at is = sym (at past ∙ ap (λ (xs : List Op). slice_index_or xs i past) is ∙ get_or-map unlined ops i past past lt)

pub place_in : {all : List Op} (ops : List Op) {i : ℕ} → i < length all → all ≡ map unlined ops → i < length ops
place_in ops lt is = omega (arith, lt, ap (λ (xs : List Op). length xs) is, length-map ops unlined)

-- ---- acts that cost nothing
none_costs : (f : Profile) (to : ℕ → Act) → ((k : ℕ) → cost_of_act f.pages (to k) ≡ 0) → (ks : List ℕ) → costs_of f.pages (map to ks) ≡ 0
none_costs f to free [] = refl
none_costs f to free (k ∷ ks) = let first = free k in let rest = none_costs f to free ks in omega (arith, first, rest)

-- ---- the phases of a course
-- Where each phase has the operations of a list but for their lines, so has the one at a place.
pub list_at : {P : Type 0} (said : P → List Op) (phases : List P) (lists : List (List Op)) (i : ℕ) (item : P) → map said phases ≡ without_lines lists
    → i < length phases → item ≡ slice_index_or phases i item → said item ≡ map unlined (get_or lists i [])
list_at said phases lists i item same lt is =
    let long : i < length lists = omega (arith, lt, ap (λ (xs : List (List Op)). length xs) same, length-map phases said, length-map lists (λ (ops : List Op). map unlined ops)) in
    ap said is ∙ sym (get_or-map said phases i item [] lt) ∙ ap (λ (xs : List (List Op)). get_or xs i []) same ∙ get_or-map (λ (ops : List Op). map unlined ops) lists i [] [] long

pub list_in : {P : Type 0} (said : P → List Op) (phases : List P) (lists : List (List Op)) → map said phases ≡ without_lines lists
    → length lists ≡ length phases
list_in said phases lists same = search (arith, length-map, map, length)

-- A thread is active among operations where it is without their lines.
pub same_active : (ops : List Op) (k : ℕ) → is_active (map unlined ops) k ≡ is_active ops k
same_active [] k = refl
same_active (op ∷ ops) k = ap (λ (b : Bool). (op.actor == k) || b) (same_active ops k)

-- There is room for the threads that wake.
pub wakes_next : (waits : Option ℕ) (r : Replay) (s : Session) (ks : List ℕ) (more : List Act) → Between waits r (map Wakes ks ++ more) s
    → SoFarAt r (upon r (map Wakes ks) (left_between waits r more)) s
wakes_next waits r s ks more btw = let cost = none_costs r.profile Wakes (λ k. refl) ks in may_do waits r s (map Wakes ks) more (omega (arith, cost)) btw

-- There is room for the close: its mark, the ends of the threads, and the last sweeps of the keepers.
pub close_next : (waits : Option ℕ) (r : Replay) (s : Session) → Between waits r (close_acts r.threads r.keepers) s
    → SoFarAt r (upon r (MarksClose ∷ [])
    (upon r (map Ends (numbers_from 1 r.threads)) (upon r (map Lowers (numbers_from (r.threads + 1) r.keepers)) (left_between waits r [])))) s
close_next waits r s btw =
    let f = r.profile in
    let ends = map Ends (numbers_from 1 r.threads) in
    let lowers = map Lowers (numbers_from (r.threads + 1) r.keepers) in
    let first = none_costs f Ends (λ k. refl) (numbers_from 1 r.threads) in
    let last = none_costs f Lowers (λ k. refl) (numbers_from (r.threads + 1) r.keepers) in
    let now = as_between waits r s (sym (append-nil (MarksClose ∷ (ends ++ lowers)))) btw in
    let may = may_do waits r s (MarksClose ∷ (ends ++ lowers)) [] (omega (arith, sum_both (cost_of_act f.pages) ends lowers, first, last)) now in
    as_left (ap (λ (left : Left). upon r (MarksClose ∷ []) left) (left_same (append_assoc ends lowers (left_between waits r []).acts)
    (costs_both r.profile ends lowers (left_between waits r []).room))) may

-- ---- marks
-- There is room for a mark that comes next.
pub mark_next : (waits : Option ℕ) (r : Replay) (s : Session) (more : List Act) (mark : Act) → cost_of_act r.profile.pages mark ≡ 1
    → Between waits r (mark ∷ more) s
    → SoFarAt r (upon r (mark ∷ []) (left_between waits r more)) s
mark_next waits r s more mark one btw = may_do waits r s (mark ∷ []) more (omega (arith, one)) btw

-- Once the mark of a phase was said, what comes behind it is left.
pub marked : (waits : Option ℕ) (r : Replay) (s : Session) (more : List Act) (n : ℕ) (out : Records) → Between waits r (MarksPhase n ∷ more) s
    → records_in out ≡ records_in s.out ++ Record.Phase n ∷ [] → room_of out ≡ room_of s.out
    → SoFarAt r (left_between waits r more) (session s.desk s.actors s.table out)
marked waits r s more n out btw pushed size =
    after_mark out _ (mark_next waits r s more (MarksPhase n) refl btw) (λ p. refl) refl (λ limit asked fit. fit) (λ indexes p q is. (refl, tt)) pushed size

-- How a replay starts, at a kit that nobody used, and what it shows at its end.

-- an actor that made no step, which rests
starts_at : (plan : Plan) (k need : ℕ) (slot : Option PlainPass) (Rest : View → Type 0) → Rest [] → need ≤ slice_index (bounds_of plan.bounds) k
    → IsFresh plan k slot → SeatStands (region_of plan) k Rest slot [] need
starts_at plan k need slot Rest rest within fresh =
    record { pass = fresh.pass; present = fresh.present; actor = fresh.actor; stands = fresh.stands; rest = rest; room = omega (arith, fresh.room, within) }

actor_starts : {text : List ℕ} {plan : Plan} {kit : PlainKit} → IsPlanOf text plan → IsKitOf plan kit → (k : ℕ) → k ≤ (region_of plan).threads
    → ActorStands (threads_of plan) (region_of plan) k at_start (pass_in kit.actors.passes.items k) (acts_of_plan plan)
actor_starts {text} {plan} {kit} read made zero le = let bound = plan_scavenger read in
    starts_at plan 0 _ (pass_in kit.actors.passes.items 0) HasNothing nothing_yet (omega (arith, bound)) (made.fresh 0 (omega arith))
actor_starts {text} {plan} {kit} read made (suc i) le =
    let f = region_of plan in
    let k = suc i in
    let slot = pass_in kit.actors.passes.items k in
    let fresh = made.fresh k (omega (arith, le)) in
    let owed = pages_owed_at_first f in
    elim (cases_lt (threads_of plan) k) [
      | inl past ↦
          let own = plan_kept_own read k past le in
          let fits : FitsBook f [] [] = record { apart = tt; of_region = tt; knows = tt; held = nothing_yet.grains; rights = nothing_yet.rights; clear = nothing_yet.clear } in
          rw (lt-leb k (threads_of plan) past) (starts_at plan k _ slot (FitsBook f []) fits (omega (arith, own, owed)) fresh)
      | inr within ↦
          let own = plan_own read k (omega arith) (omega (arith, within)) in
          let rest = rests_empty f empty_cache [] refl refl nothing_yet in
          rw (le-leb k (threads_of plan) (omega (arith, within))) (starts_at plan k _ slot (AtRest f empty_cache) rest (omega (arith, own, owed)) fresh)
    ]

-- at first each owes a deed of each page
owed_start : (threads : ℕ) (f : Profile) (n : ℕ) → owed_by threads f at_start n ≡ n * f.pages
owed_start threads f zero = omega arith
owed_start threads f (suc n) = let rest = owed_start threads f n in search (arith, rest, pages_owed_at_first, nat_le, suc-mul)

-- the room suffices for all that the actors owe at first, and for what is to come between two operations
suffices : (waits : Option ℕ) {text : List ℕ} (plan : Plan) (room : ℕ) → IsPlanOf text plan → room_for_taker waits plan ≤ room
    → (region_of plan).threads * (region_of plan).pages + room_between waits (region_of plan) (acts_of_plan plan) ≤ room
suffices None plan room read enough = let total = plan_total read in omega (arith, total, enough)
suffices (Some most) plan room read enough =
    search (arith, mul-le)

-- A replay starts at the kit of its plan, with nothing said and all its acts to come.
pub start : (waits : Option ℕ) {text : List ℕ} {plan : Plan} {kit : PlainKit} {out : Records} {phases : List (List Op)} → phases ≡ phases_of plan
    → IsPlanOf text plan
    → IsKitOf plan kit → records_in out ≡ [] → room_for_taker waits plan ≤ room_of out
    → Begins waits phases (replay_of plan (room_of out)) (hand_of kit.region kit.actors kit.names out)
start waits {text} {plan} {kit} {out} phases read made empty room =
    let f = region_of plan in
    let acts = acts_of_plan plan in
    let actors = plan_actors plan in
    let owed = owed_start (threads_of plan) f (threads_of plan + keepers_of plan) in
    let pages = ap (λ (n : ℕ). n * f.pages) actors in
    let enough = suffices waits plan (room_of out) read room in
    let none = ap (λ (rs : List Record). length rs) empty in
    let nobody : (k : ℕ) → threads_of plan + keepers_of plan < k → part k at_start.list ≡ [] = λ k past. refl in
    let names : HasNames f acts kit.names at_start.names = record {
      asked = [];
      fit = plan_fit read (names_held kit.names) made.names;
      tells = made.no_name;
      stand = λ n block is. absurd (let bad : None ≡ Some block = sym (made.no_name n) ∙ is in cc);
      known = λ n is. absurd (let bad : false ≡ true = is in cc);
    } in
    let caches : AreCaches at_start.caches kit.actors.caches.items = λ i d lt. sym (made.unused.each i d (omega (arith, lt, made.unused.many))) in
    let empty_books = λ (i : ℕ) (d : GuardBook) (lt : i < length kit.actors.books.items). made.books.empty i d (omega (arith, lt, made.books.many)) in
    let books : HaveBooks (threads_of plan) at_start.books kit.actors.books.items = λ i d lt. sym (empty_books i d lt) in
    let places : HavePlaces (threads_of plan) kit.actors.books.items acts = λ i d lt.
    let none = ap (λ (gs : List Guard). length gs) (empty_books i d lt) in
    let most = made.books.places i d (omega (arith, lt, made.books.many)) in
    let next : i + 1 ≡ suc i = omega arith in
    omega (arith, none, most, ap (λ (k : ℕ). guarded_of k (operations_of plan)) next, plan_tries read (suc i)) in
    let answers : (q : Progress) → GoesBy (threads_of plan) f kit.actors.indexes.items acts at_start q
    → GoesBy (threads_of plan) f (no_ranges f.heaps) acts at_start q
    = λ q goes. subst (λ (ix : Indexes). GoesBy (threads_of plan) f ix acts at_start q) made.indexes goes in
    let shown : EachShown at_start.records = tt in
    let same : room_of out ≡ room_of out = refl in
    let few : threads_of plan + keepers_of plan ≤ f.threads = omega (arith, actors) in
    let spare : length (records_in out) + (owed_by (threads_of plan) f at_start (threads_of plan + keepers_of plan) + room_between waits f acts) ≤ room_of out
    = omega (arith, owed, pages, enough, none) in (
      ap (λ (ps : List (List Op)). acts_of (threads_of plan) (keepers_of plan) ps) (sym phases),
      (at_start, assumption (made.unused.many, made.books.many, plan_operate read, plan_keeps read, actor_starts read made)),
      search arith,
    )

-- the first of a list, of which there is one at least
first_of : {A : Type 0} (xs : List A) → 1 ≤ length xs → A
first_of [] bad = absurd (omega (arith, bad))
first_of (x ∷ xs) some = x

module _ {r : Replay} {left : Left} {h : Hand} (so : SoFar r left h) (empty : AreEmpty h.caches) (lowered : AreLowered h.books) where
  -- a thread has no local allocator, and a keeper no guard
  bare_thread : (i : ℕ) → suc i ≤ r.threads → HasNothing (part (suc i) so.0.list)
  bare_thread i most =
      let p = so.0 in
      let within : i < length h.caches = omega (arith, most, so.1.many) in
      let d = first_of h.caches (omega (arith, within)) in
      let rest = (all_rest so.1).working (suc i) (omega arith, most) in
      let none = no_slots (p.caches (suc i)).locals (ap (λ (c : Cached). c.locals) (so.1.caches_are i d within) ∙ empty i d within) in
      record { grains = λ g. rest.locals.grains g ∙ (none g).0; rights = λ page. rest.locals.rights page ∙ (none page).1; clear = rest.locals.clear }

  bare_keeper : (i j : ℕ) → suc i ≡ r.threads + suc j → suc j ≤ r.keepers → HasNothing (part (suc i) so.0.list)
  bare_keeper i j place most =
      let p = so.0 in
      let within : j < length h.books = omega (arith, most, so.1.kept) in
      let d = first_of h.books (omega (arith, within)) in
      let fits = (all_rest so.1).keeping (suc i) (omega (arith, place), omega (arith, place, most, so.1.threads)) in
      let none = ap p.books place ∙ so.1.books_are j d within ∙ lowered j d within in
      record { grains = λ g. fits.held g ∙ ap (λ (gs : List Guard). is_outer gs (g / 256)) none; rights = fits.rights; clear = fits.clear }

  -- an actor holds, has and owes nothing
  bare : (k : ℕ) → k ≤ r.threads + r.keepers → HasNothing (part k so.0.list)
  bare zero most = (so.1.each 0 (omega arith)).rest
  bare (suc i) most = elim (cases_lt r.threads (suc i)) [
    | inl past ↦ bare_keeper i (i - r.threads) (omega (arith, past)) (omega (arith, past, most))
    | inr within ↦ bare_thread i (omega (arith, within))
  ]

  bare_at : (k : ℕ) → HasNothing (part k so.0.list)
  bare_at k = elim (cases_lt _ k) [ inl past ↦ subst HasNothing (sym (so.1.nobody k past)) nothing_yet | inr within ↦ bare k (omega (arith, within)) ]

-- A replay without acts left, whose actors have nothing, shows its plan by the words of its region.
pub shows : (waits : Option ℕ) (told : List Record) (room : ℕ) {plan region : _} (actors : Actors) (table : Names) {out state : _} (limit : ℕ)
    → IsValid (region_of plan)
    → AreOfThreads (threads_of plan) (acts_of_plan plan) → AreFit (region_of plan) limit [] (acts_of_plan plan)
    → SoFar (telling (replay_of plan room) told) (left_between waits (replay_of plan room) []) (hand_of region actors table out) → AreEmpty actors.caches.items
    → AreLowered actors.books.items
    → the_profile_of state ≡ profile_of region
    → ((l : Whole) → RegionStands region l → (w : Word) → IsWordOf (profile_of region) w → word_in state w ≡ word_after l w)
    → Shows InOrder plan (told ++ records_in out) state
shows waits told room {plan} {region} actors table {out} {state} limit valid threads fit so empty lowered profile words =
    let p = so.0 in
    let at = so.1 in
    let legal = subst (λ (f : Profile). Legal f p.list) at.profile_is at.stands.legal in
    let all = at.answers p ((refl, tt), all_rest at) in
    let answers = all.0.0 in
    let true_ones = all_true (region_of plan) limit [] (acts_of_plan plan) at_start p valid fit legal answers in
    record {
      whole = p.list;
      replay = replays InOrder plan p p.list (told ++ records_in out) valid answers refl (in_phases (region_of plan)
          (acts_of_plan plan) at_start p answers p.list ([], refl)) (plan_by_one_list plan p answers) at.records_are legal (bare_at so empty lowered)
          true_ones.0 ((all.0.1, true_ones.1), all.1) threads;
      profile = profile ∙ at.profile_is;
      words = λ w of. words p.list at.stands w (subst (λ (f : Profile). IsWordOf f w) (sym at.profile_is) of);
    }

-- ---- the kit
pub passes_count : (n : ℕ) (rooms : List EventRoom) → length (passes_from n rooms) ≡ length rooms
passes_count n [] = refl
passes_count n (room ∷ rooms) = let m = passes_count (n + 1) rooms in omega (arith, m)

pass_at : (n k : ℕ) (rooms : List EventRoom) (d : PlainPass) (r : EventRoom) → k < length rooms
    → slice_index_or (passes_from n rooms) k d ≡ pass_for (n + k) (slice_index_or rooms k r)
pass_at n k [] d r bad = absurd (omega (arith, bad))
pass_at n zero (room ∷ rooms) d r lt = ap (λ j. pass_for j room) (omega arith)
pass_at n (suc k) (room ∷ rooms) d r lt = pass_at (n + 1) k rooms d r (omega (arith, lt)) ∙ ap (λ j. pass_for j (slice_index_or rooms k r)) (omega arith)

-- the actors, whose passes have the rooms, did nothing yet
pub fresh_actor : (plan : Plan) (sizes : ℕ → Option ℕ) (count : ℕ) (rooms : List EventRoom) (passes : List PlainPass) (places : List (Option PlainPass))
    → AreRooms sizes count rooms → ((k : ℕ) → k < count → sizes k ≡ Some (slice_index (bounds_of plan.bounds) k))
    → passes ≡ passes_from 0 rooms → All (λ pass. PassStands (region_of plan) pass []) passes → places ≡ map Some passes → (k : ℕ) → k < count
    → IsFresh plan k (pass_in places k)
fresh_actor plan sizes count rooms passes places are bounds is stand placed k lt =
    let all = are.many in
    let same = ap (λ (ps : List PlainPass). length ps) is in
    let long = passes_count 0 rooms in
    let r = first_of rooms (omega (arith, lt, all)) in
    let room = slice_index_or rooms k r in
    let pass = pass_for k room in
    let at : slice_index_or passes k pass ≡ pass = ap (λ (ps : List PlainPass). slice_index_or ps k pass) is ∙ pass_at 0 k rooms pass r (omega (arith, lt, all)) ∙ ap (λ (j : ℕ). pass_for j room) (omega arith) in
    record {
      pass = pass;
      present = ap (λ (ps : List (Option PlainPass)). slice_index_or ps k None) placed
          ∙ get_or-map (λ (p : PlainPass). Some p) passes k pass None (omega (arith, lt, all, same, long)) ∙ ap (λ (p : PlainPass). Some p) at;
      actor = refl;
      stands = subst (λ (p : PlainPass). PassStands (region_of plan) p []) at (stand k pass (omega (arith, lt, all, same, long)));
      room = same_Some _ _ (sym (are.each k r (omega (arith, lt, all))) ∙ bounds k lt);
    }
