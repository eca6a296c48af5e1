-- The scavenger's worker with the lent threads on one bench: they sit down, take their places at its desk, and leave.
use Rattle.std.proofs.Common.{◌≡◌, ◌≢◌, ◌⊎◌, ⊎_elim, ℕ, ◌+◌, ◌<◌, ◌≤◌, Bool, true, false, if◌then◌else◌, List, [], ◌∷◌, ◌++◌, length, set, get_or, Some, refl}
use Rattle.std.proofs.Common.{ap, sym, ◌∙◌, subst, arith, true≢false, eq-eqb, ne_eqb, zero, suc, append-nil, get_or-set_other}
use Rattle.pas_threads.proofs.Common.{cases_eq, same_Some, get_or_default, Profile, Whole, part, View, cached, among, made_in, all_actors, only_this, isnt}
use Rattle.pas_threads.proofs.Common.{rows_of, rows_of_only, steps_of, IsRowOf, AreRowsOf, empty_row, first_row, row_on, rows_on, seat_of_member, standing_on}
use Rattle.pas_threads.proofs.Common.{HasLooked, IsBenchOf, IsMemberOf, SitsInRow, MaySitOn, StandsOver, part_of, seat_of, view_of, IsPassOf, Bench, Member}
use Rattle.pas_threads.proofs.Common.{BenchDesk, BenchHome, SharedPass, SharedRegion, Entry, Row, among_picked, row_tells, stands_first, Act, Progress, goes_on}
use Rattle.pas_threads.proofs.Common.{Later, RestsAt, StandsStill, rests_still, standing_of_pass, crew_in, KeepsOrder, WorkerHas, Told, Shift, number_in}
use Rattle.pas_threads.proofs.Common.{IsLent, AreLent, standing_at, home_at, SitsLent, AreOfCrew, TellAs, IsDeskAt, MayLeaveAll, crew, CrewAt, CrewSits}
use Rattle.pas_threads.proofs.{Common.{CrewActs, Worker, Records, Record}, Benched.{among_cases, among_here, among_later, seated, row_part, rows_part}}
use Rattle.pas_threads.{proofs.{Benched.{has_seat, member_seat, sits_as, keeps_order}, TakingTurns.{Stays, set_each}}, specs.Scavengers.CrewHasLeft}
use Rattle.pas_threads.specs.{Lent.{SitsAmong, standing_among, WorkerSits, IsButPlace, HasSeat, AreSeated, MayLeave, HasLeave, HaveLeave}, Crews.CrewSat}
use Rattle.pas_threads.specs.Crews.{CrewMayRise, CrewRose}
use Rattle.pas_steps.specs.Noted.{AreNotesOf}
use Rattle.pas_shared.{specs.Ruled.only, proofs.Benching.among_only}

-- ---- who is among some actors
pub among_at : (ks : List ℕ) (i : ℕ) → i < length ks → among ks (get_or ks i 0) ≡ true
among_at [] i lt = absurd (let bad : i < 0 = lt in omega (arith, bad))
among_at (k ∷ ks) zero lt = among_here k k ks refl
among_at (k ∷ ks) (suc i) lt = among_later k (get_or ks i 0) ks (among_at ks i (omega (arith, lt)))

pub among_place : (ks : List ℕ) (k : ℕ) → among ks k ≡ true → (i : ℕ) × (i < length ks) × (get_or ks i 0 ≡ k)
among_place [] k h = absurd (true≢false (sym h))
among_place (n ∷ ks) k h =
    ⊎_elim (λ is. (0, omega arith, is)) (λ more. let rest = among_place ks k more in (suc rest.0, omega (arith, rest.1), rest.2)) (among_cases n k ks h)

nobody_among : (ks : List ℕ) → ((k : ℕ) → among ks k ≡ true → ⊥) → ks ≡ []
nobody_among [] none = refl
nobody_among (n ∷ ks) none = absurd (none n (among_here n n ks refl))

both_true : (a b : Bool) → (a ≡ true → b ≡ true) → (b ≡ true → a ≡ true) → a ≡ b
-- By both values of the test.
both_true a b to from = search arith

isnt_other : (j k : ℕ) → k ≢ j → isnt (only_this j) k ≡ true
isnt_other j k ne = ap (λ (b : Bool). if b then false else true) (ne_eqb k j ne)

isnt_itself : (j k : ℕ) → isnt (only_this j) k ≡ true → k ≢ j
isnt_itself j k h same = true≢false (sym h ∙ ap (λ (b : Bool). if b then false else true) (eq-eqb k j same))

-- all of the crew, and nobody else
crew_among : {s : Shift} {actors : List ℕ} → AreOfCrew s 0 (length s.idle) actors → (k : ℕ) → among actors k ≡ crew_in s.idle k
crew_among {s} {actors} crew k = search (arith, both_true, among_here, among_later, among_at, among_place, among_cases)

-- ---- a worker on the bench
-- A lent worker on a bench stays as it stands where others act and it takes no part.
pub lent_stays : (region : SharedRegion) (actors : List ℕ) (s : Shift) → Stays (number_in s) (SitsLent region actors s)
lent_stays region actors s i w q r parts caches names at =
    let still : StandsStill (standing_among region actors at.member) (standing_among region actors at.member) q.list r.list =
    record { seat_is = refl; stands = λ stood same. subst (SitsAmong region actors at.member) (sym same) stood } in
    record { member = at.member; present = at.present; rests = rests_still still parts caches at.rests }

-- among more actors
sits_wider : {region : SharedRegion} {one more : List ℕ} {f : Profile} {k : ℕ} {worker : Worker} {later : Later} {p : Progress}
    → ((j : ℕ) → among one j ≡ true → among more j ≡ true) → WorkerSits region one f k worker later p → WorkerSits region more f k worker later p
sits_wider wider at = search arith

-- ---- sitting down
-- the notes of a pass are its member's
noted_by : {pass : SharedPass} {member : Member} {v : View} → IsMemberOf pass member → view_of pass ≡ v → AreNotesOf member.actor v member.notes
noted_by {pass} is view = rw (is.notes, is.actor, sym view) pass.noted

sits_down : {region : SharedRegion} {f : Profile} {k : ℕ} {old new : Worker} {rows rows' : List Row} {later : Later} {p : Progress}
    → WorkerHas region f k old later p → HasSeat region old new rows rows' → WorkerSits region (all_actors rows') f k new later p
sits_down {region} {f} {k} {old} {new} {rows} {rows'} {later} {p} was seat = record {
  member = seat.member;
  present = seat.present;
  rests = search (arith, member_seat, among_here, noted_by) fits 400;
}

-- the rows with one more say what the list tells, too
tell_more : (pass : SharedPass) (rows rows' : List Row) (l : Whole) → rows' ≡ rows_of (part_of pass ∷ []) ++ rows → view_of pass ≡ part pass.place.actor l
    → TellAs rows l → TellAs rows' l
tell_more pass rows rows' l is view tell k its = search (arith, has_seat, among_cases)

-- the first ones sat down, up to this place
pub record SeatedSoFar (region : SharedRegion) (s : Shift) (i : ℕ) (old now : List Worker) (rows : List Row) (p : Progress) : Type 0 where
  pub each : (j : ℕ) (d : Worker) → j < i → j < length old
      → SitsLent region (all_actors rows) s j (get_or now j d) p × IsButPlace (get_or old j d) (get_or now j d)
  pub crew : AreOfCrew s 0 i (all_actors rows)
  pub tell : TellAs rows p.list

crew_more : {s : Shift} {i : ℕ} {actors : List ℕ} (a : ℕ) → a ≡ number_in s i → AreOfCrew s 0 i actors → AreOfCrew s 0 (i + 1) (a ∷ actors)
crew_more {s} {i} {actors} a is crew = search (arith, among_later, among_here, among_cases, (λ (j : ℕ). cases_eq j i))

-- After one more lent worker sat down with its pass, one more sits on the bench.
pub seats_go_on : {region s i old now rows rows' p : _} (d w : Worker) → i < length old → length now ≡ length old → AreLent region s old p
    → get_or now i d ≡ get_or old i d → SeatedSoFar region s i old now rows p → HasSeat region (get_or now i d) w rows rows'
    → SeatedSoFar region s (i + 1) old (set now i w) rows' p
seats_go_on {region} {s} {i} {old} {now} {rows} {rows'} {p} d w lt many lent left so seat =
    let was = subst (λ w. IsLent region s i w p) (sym left) (lent.each i d lt) in
    let sits = sits_down was seat in
    let rests = seated (λ σ. RestsAt s.profile (number_in s i) σ (cached (get_or now i d).cache) (get_or now i d).out (s.lends i) p) seat.has.pass seat.has.present was.has was.rests in
    let actor = rests.sits.actor in
    let wider = λ (k : ℕ) (its : among (all_actors rows) k ≡ true).
    ap (λ (rs : List Row). among (all_actors rs) k) seat.rows_are ∙ among_later seat.has.pass.place.actor k (all_actors rows) its in
    record {
      each = λ j e less within. set_each (λ (m : ℕ) (x : Worker). SitsLent region (all_actors rows') s m x p × IsButPlace (get_or old m e) x) now i w e j
          (omega (arith, lt, many)) (sits, subst (λ (x : Worker). IsButPlace x w) (left ∙ get_or_default old i d e lt) seat.but)
          (λ ne. let one = so.each j e (omega (arith, less, ne)) within in (sits_wider wider one.0, one.1));
      crew = subst (λ (rs : List Row). AreOfCrew s 0 (i + 1) (all_actors rs)) (sym seat.rows_are) (crew_more seat.has.pass.place.actor actor so.crew);
      tell = tell_more seat.has.pass rows rows' p.list seat.rows_are (rests.sits.stood ∙ ap (λ (k : ℕ). part k p.list) (sym actor)) so.tell;
    }

-- Once each lent worker had its turn, all sit on the bench beside the scavenger.
pub seats_end : {region : SharedRegion} {s : Shift} {i : ℕ} {old now : List Worker} {rows : List Row} {p : Progress} → length old ≤ i → i ≤ length old
    → length now ≡ length old → AreLent region s old p → SeatedSoFar region s i old now rows p → AreSeated region s old now rows p
-- Each place is below `i` then, which is the number of the idle threads.
seats_end {region} {s} {i} {old} {now} {rows} {p} le ge many lent so = search arith

-- ---- at the desk
-- a worker of the bench may take the place there
at_home : {h : BenchHome} (desk : BenchDesk) → home_at desk ≡ h → (k : ℕ) → among (row_on desk.place.bench).actors k ≡ among h.row.actors k
at_home desk home k = ap (λ (g : BenchHome). among g.row.actors k) home

module _ {h : BenchHome} {desk : BenchDesk} {p : Progress} (at : IsDeskAt h desk p) where
  tells_of : (k : ℕ) → among (row_on desk.place.bench).actors k ≡ true → part k p.list ≡ made_in (row_on desk.place.bench) k
  tells_of k its = row_tells (row_on desk.place.bench) p.list k at.over its

  module _ {f : Profile} {k : ℕ} {worker : Worker} {later : Later} (w : WorkerSits h.region h.row.actors f k worker later p) where
    -- A lent worker that sits on the bench may sit down at its desk.
    pub may_sit : MaySitOn desk.region.now desk.place.bench w.member
    may_sit = search (arith, at_home, tells_of)

    -- there it rests as it did
    rests_there : RestsAt f k (standing_on desk.place.bench w.member) (cached worker.cache) worker.out later p
    rests_there = search (arith, tells_of, at_home) fits 400

    -- A lent worker that has the desk rests there with its cache.
    pub rests_at : (now : BenchDesk) {member : Member} → worker.member ≡ Some member → now.place.bench ≡ desk.place.bench → now.place.member ≡ member
        → RestsAt f k (standing_at now) (cached worker.cache) worker.out later p
    rests_at now is b m = rw (b, m ∙ same_Some _ _ (sym is ∙ w.present)) rests_there

-- the one that made way for another may take its place again
pub may_again : {h desk p : _} → IsDeskAt h desk p → (mid : BenchDesk) (q : Progress) (risen : Member) → risen ≡ desk.place.member → home_at mid ≡ h
    → StandsOver (row_on mid.place.bench) q.list → part desk.place.member.actor q.list ≡ part desk.place.member.actor p.list
    → MaySitOn mid.region.now mid.place.bench risen
may_again {h} {desk} {p} at mid q risen is home over same = search (arith, at_home, tells_of)

-- A desk whose bench and region are as before has the same home.
pub home_moved : (desk now : BenchDesk) → now.region.now ≡ desk.region.now → now.place.bench ≡ desk.place.bench → home_at now ≡ home_at desk
home_moved desk now region bench = cc

-- a worker that sat at the desk sits on the bench beside it
pub sits_beside : {h : _} (mid : BenchDesk) {f k : _} {worker : Worker} {later q : _} → home_at mid ≡ h → worker.member ≡ Some mid.place.member
    → RestsAt f k (standing_at mid) (cached worker.cache) worker.out later q → WorkerSits h.region h.row.actors f k worker later q
sits_beside {h} mid {f} {k} {worker} {later} {q} home is at = record {
  member = mid.place.member;
  present = is;
  rests = search (arith, at_home) fits 400;
}

-- ---- all sat down
module _ {region s old new p rows : _} (bench : Bench) (looked : HasLooked rows (rows_on bench)) (all : AreSeated region s old new rows p) where
  row_is : row_on bench ≡ record { actors = all_actors rows; made = []; base = looked.base }
  row_is = ap first_row looked.is

  -- the bench saw of each what the replay told
  saw : (k : ℕ) → among (all_actors rows) k ≡ true → part k (steps_of looked.base) ≡ part k p.list
  saw k its = rows_part rows (steps_of looked.base) k (part k p.list) looked.rows (all.tell k its)

  -- After the look, the row on the bench has of each of its actors what the list tells.
  made_seen : (k : ℕ) → among (all_actors rows) k ≡ true → made_in (row_on bench) k ≡ part k p.list
  made_seen k its = ap (λ (r : Row). made_in r k) row_is ∙ saw k its

  -- After the look, the actors of the row are those of all rows before it.
  is_among : (k : ℕ) → among (row_on bench).actors k ≡ among (all_actors rows) k
  is_among k = ap (λ (r : Row). among r.actors k) row_is

  -- so the scavenger may sit down at the desk
  pub first_sits : {pass : SharedPass} {member : Member} → IsPassOf region pass → IsMemberOf pass member → IsBenchOf region bench → pass.place.actor ≡ 0
      → view_of pass ≡ part 0 p.list → MaySitOn region bench member
  first_sits {pass} {member} of is at scavenger view =
      search (arith, made_seen, row_is, is_among, noted_by)

-- the scavenger sits there alone at first
pub first_crew : {s : Shift} {rows rows0 : List Row} (pass : SharedPass) → rows ≡ rows_of (part_of pass ∷ []) ++ rows0 → rows0 ≡ empty_row ∷ []
    → pass.place.actor ≡ 0 → AreOfCrew s 0 0 (all_actors rows)
first_crew {s} {rows} {rows0} pass is none scavenger =
    search (arith, among_here, true≢false, among_cases)

-- The row of the scavenger's pass, with an empty one behind, tells of its actor what the list does.
pub first_tell : {rows rows0 : List Row} (l : Whole) (pass : SharedPass) → rows ≡ rows_of (part_of pass ∷ []) ++ rows0 → rows0 ≡ empty_row ∷ []
    → pass.place.actor ≡ 0 → view_of pass ≡ part 0 l → TellAs rows l
first_tell {rows} {rows0} l pass is none scavenger view =
    tell_more pass rows0 rows l is (view ∙ ap (λ k. part k l) (sym scavenger))
    (λ k its. absurd (true≢false (sym its ∙ ap (λ rs. among (all_actors rs) k) none)))

-- .. with the lent threads beside it
pub all_sat : {region s old new p rows pass : _} (desk : BenchDesk) → HasLooked rows (rows_on desk.place.bench) → AreSeated region s old new rows p
    → IsMemberOf pass desk.place.member → pass.place.actor ≡ 0 → CrewSat region s pass desk old new p
all_sat {region} {s} {old} {new} {p} {rows} {pass} desk looked all is scavenger =
    let bench = desk.place.bench in
    let member = desk.place.member in
    let row = row_on bench in
    let first = row_is bench looked all in
    let seen : (k : ℕ) → among row.actors k ≡ true → part k p.list ≡ part k (steps_of row.base) =
    λ k its. sym (saw bench looked all k (sym (is_among bench looked all k) ∙ its)) ∙ ap (λ (r : Row). part k (steps_of r.base)) (sym first)
    in
    let actor = is.actor ∙ scavenger in
    search (arith, member_seat, made_seen, stands_first, sits_wider, is_among) fits 400

-- ---- leaving
-- the first ones left, up to this place
pub record LeftSoFar (region : SharedRegion) (s : Shift) (all : List ℕ) (base : List Entry) (i : ℕ) (old now : List Worker) (rows : List Row)
    (p : Progress) : Type 0 where
  pub each : (j : ℕ) (d : Worker) → j < i → j < length old → IsLent region s j (get_or now j d) p × IsButPlace (get_or old j d) (get_or now j d)
  pub left : (j : ℕ) (d : Worker) → i ≤ j → get_or now j d ≡ get_or old j d
  pub actors : List ℕ
  pub fresh : rows ≡ record { actors = actors; made = []; base = base } ∷ []
  pub crew : AreOfCrew s i (length s.idle) actors
  pub within : (k : ℕ) → among actors k ≡ true → among all k ≡ true

module _ {region : SharedRegion} {s : Shift} {all : List ℕ} {base : List Entry} {i : ℕ} {old now : List Worker} {rows0 rows : List Row} {p : Progress}
    (d : Worker) (lt : i < length old) (may : MayLeaveAll region s old all base rows0 p)
    (so : LeftSoFar region s all base i old now rows p) where
  -- the next one sits there still
  next_sits : SitsLent region all s i (get_or now i d) p
  next_sits = subst (λ (w : Worker). SitsLent region all s i w p) (sym (so.left i d (omega arith))) (may.lent.each i d lt)

  is_there : (member : Member) → member.actor ≡ number_in s i → among so.actors member.actor ≡ true
  is_there member actor = subst (λ (j : ℕ). among so.actors j ≡ true) (sym actor) (so.crew.lent i (omega arith) (omega (arith, lt, may.lent.many)))

  -- and the row says of it what the replay told
  row_says : (member : Member) → member.actor ≡ number_in s i → made_in (first_row rows) member.actor ≡ part (number_in s i) p.list
  row_says member actor = cc (may.tell member.actor (so.within member.actor (is_there member actor)))

  -- While others have left, the next lent worker may leave the bench.
  pub leaves_next : MayLeave region rows (get_or now i d)
  leaves_next =
      let sits = next_sits.rests.sits in
      record {
        member = next_sits.member;
        present = next_sits.present;
        fresh = record { actors = so.actors; base = base; is = so.fresh };
        profile = sits.stood.profile;
        sits = record {
          among_them = ap (λ (rs : List Row). among (first_row rs).actors next_sits.member.actor) so.fresh ∙ is_there next_sits.member sits.actor;
          noted = rw (row_says next_sits.member sits.actor) sits.stood.noted;
        };
      }

  -- it has its pass, and rests as it did
  has_again : {w : Worker} {rows' : List Row} → HasLeave region (get_or now i d) w rows rows' → IsLent region s i w p
  has_again {w} left =
      let same : next_sits.member ≡ left.may.member = same_Some _ _ (sym next_sits.present ∙ left.may.present) in
      let rests = subst (λ m. RestsAt s.profile (number_in s i) (standing_among region all m) (cached (get_or now i d).cache) (get_or now i d).out (s.lends i) p) same next_sits.rests in
      let sits = sits_as left.is.seat (λ stood. left.is.view ∙ row_says left.may.member rests.sits.actor) rests.sits in
      record { has = left.has; rests = rw (left.but.out, left.but.cache) record { sits = sits; cache = rests.cache; spare = rests.spare } }

  -- After one more lent worker left with its pass, one more has left.
  pub leaves_go_on : (w : Worker) {rows' : List Row} → length now ≡ length old → HasLeave region (get_or now i d) w rows rows'
      → LeftSoFar region s all base (i + 1) old (set now i w) rows' p
  leaves_go_on w {rows'} many left =
      let a = left.may.member.actor in
      let test = isnt (only_this a) in
      let mine : a ≡ number_in s i = ap (λ (m : Member). m.actor) (same_Some _ _ (sym left.may.present ∙ next_sits.present)) ∙ next_sits.rests.sits.actor in
      record {
        each = λ j e less within. set_each (λ (m : ℕ) (x : Worker). IsLent region s m x p × IsButPlace (get_or old m e) x) now i w e j (omega (arith, lt, many))
            (has_again left, subst (λ (x : Worker). IsButPlace x w) (so.left i d (omega arith) ∙ get_or_default old i d e lt) left.but)
            (λ ne. so.each j e (omega (arith, less, ne)) within);
        left = λ j e from. let ne : j ≢ i = λ (is : j ≡ i). omega (arith, is, from) in get_or-set_other now i j w e ne ∙ so.left j e (omega (arith, from));
        actors = only test so.actors;
        fresh = left.rows_are ∙ ap (rows_of_only test) so.fresh;
        crew = search (arith, among_picked, isnt_other, among_only, isnt_itself) fits 400;
        within = λ k its. so.within k (among_only test so.actors k its).0;
      }

-- whichever member it is called
pub member_leaves : {region : SharedRegion} {rows : List Row} {worker : Worker} (member : Member) → worker.member ≡ Some member → MayLeave region rows worker
    → (member.profile ≡ region.profile) × SitsInRow (first_row rows) member
member_leaves {region} {rows} member is may =
    subst (λ (m : Member). (m.profile ≡ region.profile) × SitsInRow (first_row rows) m) (same_Some _ _ (sym may.present ∙ is)) (may.profile, may.sits)

-- Once each lent worker had its turn, only the scavenger still sits on the bench.
pub leaves_end : {region s all base i old now rows0 rows p : _} → length old ≤ i → length now ≡ length old → MayLeaveAll region s old all base rows0 p
    → LeftSoFar region s all base i old now rows p → HaveLeave region s old now base rows p
leaves_end le many may so =
    let size = may.lent.many in
    record {
      lent = record { many = many ∙ size; each = λ j d lt. (so.each j d (omega (arith, lt, le, many)) (omega (arith, lt, many))).0 };
      but = λ j d lt. (so.each j d (omega (arith, lt, le)) lt).1;
      actors = so.actors;
      fresh = so.fresh;
      own = so.crew.own;
      only = λ k its. ⊎_elim (λ is. is) (λ t. absurd (omega (arith, t.1, t.2, le, size))) (so.crew.only k its);
    }

-- ---- all rise
module _ {region : SharedRegion} {s : Shift} {lent : List Worker} {p : Progress} (desk : BenchDesk) (may : CrewMayRise region s desk lent p) where
  abbrev row : Row
  row = row_on desk.place.bench

  -- the last look saw a list that the row is one of
  row_seen : (bench : Bench) (looked : HasLooked (rows_on desk.place.bench) (rows_on bench)) → IsRowOf row (steps_of looked.base)
  row_seen bench looked = (subst (λ (rs : List Row). AreRowsOf rs (steps_of looked.base)) desk.place.one looked.rows).0

  -- all may leave then
  pub all_may_leave : (bench : Bench) (looked : HasLooked (rows_on desk.place.bench) (rows_on bench))
      → MayLeaveAll region s lent row.actors looked.base (rows_on bench) p
  all_may_leave bench looked =
      search (arith, row_part, row_tells, row_seen, append-nil)

  -- and at last the scavenger
  module _ (bench left : Bench) {now : List Worker} (looked : HasLooked (rows_on desk.place.bench) (rows_on bench))
      (have : HaveLeave region s lent now looked.base (rows_on left) p) where
    own_made : made_in (first_row (rows_on left)) desk.place.member.actor ≡ made_in row desk.place.member.actor
    own_made = cc (row_part row (steps_of looked.base) desk.place.member.actor (row_seen bench looked) desk.place.sits.among_them)

    -- The scavenger still sits in the row once all that were lent left it.
    pub own_sits : SitsInRow (first_row (rows_on left)) desk.place.member
    own_sits = search (arith, own_made)

    -- The whole crew rose once the scavenger left, too: all have passes with what they made.
    pub all_rose : {end : Bench} {pass : SharedPass} → IsBenchOf region end → IsPassOf region pass → seat_of pass ≡ seat_of_member desk.place.member
        → view_of pass ≡ made_in (first_row (rows_on left)) desk.place.member.actor
        → rows_on end ≡ rows_of_only (isnt (only_this desk.place.member.actor)) (rows_on left) → CrewRose region s desk pass end lent now p
    all_rose {end} {pass} of pass_of seat view rows =
        let test = isnt (only_this desk.place.member.actor) in
        let none : only test have.actors ≡ [] = nobody_among (only test have.actors)
        (λ k its. let both = among_only test have.actors k its in isnt_itself desk.place.member.actor k both.1 (have.only k both.0 ∙ sym may.own)) in
        search (arith, own_made, row_seen) fits 400

-- ---- from pass to pass
-- the crew on its bench
pub crew_sits : {region : SharedRegion} {s : Shift} {acts : List Act} {pass : SharedPass} {old new : List Worker} {places : ℕ} {out : Records} {p : Progress}
    (desk : BenchDesk)
    → desk.region.now ≡ region → CrewAt region s acts (crew (standing_of_pass pass) old places out) p
    → CrewSat region s pass desk old new p → CrewSits (home_at desk) s acts (crew (standing_at desk) new places out) p
crew_sits {s = s} {new = new} {p = p} desk is at sat = search (arith, sits_as)

told_between : {k : ℕ} {said : List Record} {a b c d : Worker} → IsButPlace a b → Told k said b c → IsButPlace c d → Told k said a d
-- What the worker said went into the same records, which were moved before and after.
told_between {k} {said} one told two = search arith

module _ {region : SharedRegion} {s : Shift} {acts : List Act} {pass : SharedPass} {lent sat1 sat2 : List Worker} {places places' : ℕ} {out out' : Records}
    {p : Progress} (desk now : BenchDesk) (is : desk.region.now ≡ region) (home : home_at now ≡ home_at desk)
    (sat : CrewSat region s pass desk lent sat1 p)
    (did : CrewActs (home_at desk) s acts [] (crew (standing_at desk) sat1 places out) (crew (standing_at now) sat2 places' out') p) where
  actors_same : (row_on now.place.bench).actors ≡ (row_on desk.place.bench).actors
  actors_same = ap (λ (h : BenchHome). h.row.actors) home

  -- After its acts the crew may rise from the bench.
  pub crew_may_rise : CrewMayRise region s now sat2 did.came.reached
  crew_may_rise = search (arith, actors_same)

  -- A crew that sat down, acted and rose did its acts with passes, and left a bench that saw in which order.
  pub crew_left : {after bench new : _} → length sat1 ≡ length lent → length sat2 ≡ length sat1 → CrewRose region s now after bench sat2 new did.came.reached
      → CrewHasLeft region s acts after bench (crew (standing_of_pass pass) lent places out) (crew (standing_of_pass after) new places' out') p
  crew_left {after} {bench} {new} many more rose =
      let at = did.stands.stands in
      let grown = goes_on s.profile acts p did.came.reached did.came.reaches in
      let order = keeps_order (row_on now.place.bench) rose.base grown.0 p.list did.came.reached.list rose.saw grown.1 at.stands.sits.stood.1
      (λ k its. sat.tell k (sym (ap (λ (h : BenchHome). among h.row.actors k) home) ∙ its) ∙ ap (λ (h : BenchHome). part k (steps_of h.row.base)) (sym home)) in
      record {
        of = rose.is.of;
        did = record {
          came = did.came;
          stands = search arith fits 400;
          told = did.told;
          lent = λ i d lt. told_between (sat.but i d lt) (did.lent i d (omega (arith, lt, many))) (rose.but i d (omega (arith, lt, many, more)));
          books = did.books;
          others = did.others;
        };
        left = record {
          bench = bench;
          present = refl;
          of = rose.of;
          base = rose.base;
          rows = rose.rows;
          order = subst (λ (chosen : ℕ → Bool). KeepsOrder chosen p.list did.came.reached.list (steps_of rose.base))
              (λ j k. crew_among crew_may_rise.crew k j) order;
        };
      }
