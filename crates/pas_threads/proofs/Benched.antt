-- Actors on a bench: they sit down with their passes, stand still while another one acts, and leave; and a thread with its keeper on the bench of both.
use Rattle.std.proofs.Common.{arith, ◌≡◌, ◌≢◌, ℕ, Bool, true, if◌then◌else◌, inl, inr, List, [], ◌∷◌, ◌++◌, refl, ap, sym, ◌∙◌, subst, append-nil, eq-eqb}
use Rattle.std.proofs.Common.{ne_eqb, true≢false, ◌+◌, Option, Some, None, ⊎_elim, ◌⊎◌}
use Rattle.pas_threads.proofs.Common.{same_Some, cases_eq, Standing, triples, Whole, part, View, part_of_others, Profile, part_of_chosen, among, made_in}
use Rattle.pas_threads.proofs.Common.{rows_of, rows_of_only, isnt, only_this, all_actors, steps_of, IsRowOf, AreRowsOf, HasRow, rows_on, first_row, row_on}
use Rattle.pas_threads.proofs.Common.{seat_of_member, IsBenchOf, IsMemberOf, HasLooked, SitsInRow, MaySitOn, StandsOver, standing_on, empty_row, part_of}
use Rattle.pas_threads.proofs.Common.{seat_of, view_of, IsPassOf, Bench, Member, SharedPass, SharedRegion, Entry, Row, BenchDesk, among_picked, stands_first}
use Rattle.pas_threads.proofs.Common.{Later, keeper_has, KeeperAt, LaterKept, StandsStill, Keeping, KeeperWaits, PairWorks, KeepsOrder, keeper_actors, pair_in}
use Rattle.pas_threads.proofs.Common.{HasLeft, standing_of_pass, HasPass, Did, kept_by, Seated, Keeper, Worker, IsKeeperOf, kept_by_worker, kept_seated}
use Rattle.pas_threads.{proofs.Common.{MayDoPhase, keeper_parts, PairSits, Progress, goes_on, Act, own_acts}, specs.Left.{IsSeated, standing_beside}}
use Rattle.pas_threads.specs.Seats.{seated_actors, PairRose, IsAnother, KeeperSits, rows_without_keeper, IsSameKeeper, SitsBeside, KeeperMayLeave}
use Rattle.pas_threads.specs.{Seats.{IsPassOfMember, HasRisen, PairMayRise}, Still.stays_beside}
use Rattle.pas_steps.{specs.{Calls.Calls, Noted.room_of_notes, Desks.triple}, proofs.Parts.part_of_own}
use Rattle.pas_shared.{specs.{Ruled.entries_by, Benches.{IsFreshRow, home_of}}, proofs.{Benching.row_since, Ruling.part_both}}
use Rattle.pas_acts.specs.{Works.{Sits, Keeps, ThreadAt}, Keepers.{KeeperTries, StandsAt}, Pairs.PairAt}
use Rattle.pas_answers.specs.Guarding.{after_trying}

-- ---- what rows say of a list
-- of each of its actors the list has what the row says
pub row_part : (r : Row) (l : Whole) (k : ℕ) → IsRowOf r l → among r.actors k ≡ true → part k l ≡ made_in r k
row_part r l k is its =
    cc (part_both k is.since (steps_of r.base), part_of_chosen (among r.actors) k is.since its, part_both k (steps_of r.made) (steps_of r.base))

-- An actor's row says of it what a list tells of which the rows are rows.
pub rows_part : (rs : List Row) (l : Whole) (k : ℕ) (v : View) → AreRowsOf rs l → HasRow rs k v → part k l ≡ v
rows_part [] l k v are has = absurd has
rows_part (r ∷ rs) l k v are (inl sits) = row_part r l k are.0 sits.0 ∙ sits.1
rows_part (r ∷ rs) l k v are (inr later) = rows_part rs l k v are.1 later

-- ---- one of several actors
-- A number among others is the first or one of the rest.
pub among_cases : (n k : ℕ) (ns : List ℕ) → among (n ∷ ns) k ≡ true → (n ≡ k) ⊎ (among ns k ≡ true)
among_cases n k ns h =
    elim (cases_eq n k) [ inl is ↦ inl is | inr other ↦ inr (sym (ap (λ (b : Bool). if b then true else among ns k) (ne_eqb n k other)) ∙ h) ]

-- The first of several numbers is among them.
pub among_here : (n k : ℕ) (ns : List ℕ) → n ≡ k → among (n ∷ ns) k ≡ true
among_here n k ns e = ap (λ (b : Bool). if b then true else among ns k) (eq-eqb n k e)

-- A number among the rest is among all.
pub among_later : (n k : ℕ) (ns : List ℕ) → among ns k ≡ true → among (n ∷ ns) k ≡ true
among_later n k ns h =
    elim (cases_eq n k) [ inl is ↦ among_here n k ns is | inr other ↦ ap (λ (b : Bool). if b then true else among ns k) (ne_eqb n k other) ∙ h ]

among_front : (ms ns : List ℕ) (k : ℕ) → among ms k ≡ true → among (ms ++ ns) k ≡ true
among_front [] ns k h = absurd (true≢false (sym h))
among_front (m ∷ ms) ns k h = ⊎_elim (among_here m k (ms ++ ns)) (λ more. among_later m k (ms ++ ns) (among_front ms ns k more)) (among_cases m k ms h)

among_back : (ms ns : List ℕ) (k : ℕ) → among ns k ≡ true → among (ms ++ ns) k ≡ true
among_back [] ns k h = h
among_back (m ∷ ms) ns k h = among_later m k (ms ++ ns) (among_back ms ns k h)

sits_among : (rs : List Row) (k : ℕ) (v : View) → HasRow rs k v → among (all_actors rs) k ≡ true
sits_among [] k v has = absurd has
sits_among (r ∷ rs) k v (inl sits) = among_front r.actors (all_actors rs) k sits.0
sits_among (r ∷ rs) k v (inr later) = among_back r.actors (all_actors rs) k (sits_among rs k v later)

-- ---- an actor sits down
entries_are : (k : ℕ) (v : View) → steps_of (entries_by k v) ≡ triples k v
entries_are k [] = refl
entries_are k (m ∷ v) = ap (λ (l : Whole). triple k m ∷ l) (entries_are k v)

-- in a row by itself
pub has_seat : (pass : SharedPass) (rs : List Row) → HasRow (rows_of (part_of pass ∷ []) ++ rs) pass.place.actor (view_of pass)
has_seat pass rs = search (arith, eq-eqb, entries_are, part_of_own, append-nil) fits 400

-- A member has the seat of the pass with which it sat down.
pub member_seat : {pass : SharedPass} {member : Member} → IsMemberOf pass member → seat_of_member member ≡ seat_of pass
member_seat m = λ i. record { actor = m.actor i; profile = m.profile i; room = room_of_notes (m.notes i) }

-- .. and in one row with the others, once the bench looked
pub sat : {region : _} (b now : Bench) (pass : SharedPass) (member : Member) → IsPassOf region pass → IsMemberOf pass member → IsBenchOf region now
    → HasLooked (rows_on b) (rows_on now) → HasRow (rows_on b) pass.place.actor (view_of pass) → IsSeated region now pass member
sat {region} b now pass member of m bench looked has = search (arith, rows_part, sits_among)

-- what is so of a desk at which an actor sits is so of another one that it has for it
pub sits_as : {f : Profile} {k : ℕ} {Rest : View → Type 0} {σ τ : Standing} {l : Whole} {need : ℕ} → τ.seat ≡ σ.seat
    → (σ.stands (part k l) l → τ.stands (part k l) l) → Sits f k Rest σ l need → Sits f k Rest τ l need
-- The same actor sits there with the same profile and room, and stands there by `to`.
sits_as {k = k} {l = l} {need} seat to s = search arith

-- .. and what was done there is so of it
pub calls_as : {σ σ' τ τ' : Standing} {Before Change steps : _} → τ.seat ≡ σ.seat → τ'.seat ≡ σ'.seat → ((v : View) (l : Whole) → τ.stands v l → σ.stands v l)
    → ((v : View) (l : Whole) → σ'.stands v l → τ'.stands v l) → Calls σ σ' Before Change steps → Calls τ τ' Before Change steps
-- What the call adds is the same at the same seats, and what stood there stands there by `from` and `to`.
calls_as {σ} {σ'} {τ} {τ'} {Before} {Change} {steps} one two from to calls = search arith

-- ---- the last look
-- all sit in one row still, in which nobody made a step since, and it says of each what it said before
looked_made : (b now : Bench) (k : ℕ) → rows_on b ≡ row_on b ∷ [] → HasLooked (rows_on b) (rows_on now) → among (row_on b).actors k ≡ true
    → (among (first_row (rows_on now)).actors k ≡ true) × (made_in (first_row (rows_on now)) k ≡ made_in (row_on b) k)
looked_made b now k one looked its =
    search (arith, among_front, row_part)

-- After a look on a bench its rows are one fresh row.
pub looked_fresh : {old new : List Row} → HasLooked old new → IsFreshRow new
looked_fresh {old} looked = record { actors = all_actors old; base = looked.base; is = looked.is }

-- a member that sat there does so still
still_sits : (b now : Bench) (member : Member) → rows_on b ≡ row_on b ∷ [] → HasLooked (rows_on b) (rows_on now) → SitsInRow (row_on b) member
    → SitsInRow (first_row (rows_on now)) member
still_sits b now member one looked sits =
    search (arith, looked_made)

-- ---- it leaves
left_fresh : (test : ℕ → Bool) {rs : List Row} → IsFreshRow rs → IsFreshRow (rows_of_only test rs)
left_fresh test {rs} fresh = record { actors = (first_row (rows_of_only test (record { actors = fresh.actors; made = []; base = fresh.base } ∷ []))).actors; base = fresh.base; is = ap (rows_of_only test) fresh.is }

-- what is said of the others is as it was
left_made : (test : ℕ → Bool) {rs : List Row} (k : ℕ) → IsFreshRow rs → made_in (first_row (rows_of_only test rs)) k ≡ made_in (first_row rs) k
left_made test {rs} k fresh = cc

-- ---- what the bench saw
-- of a row that stands beside the list that was told the steps stand in the same order in the list that the bench saw at its last look
pub keeps_order : (r : Row) (base : List Entry) (made told told' : Whole) → IsRowOf r (steps_of base) → told' ≡ made ++ told → StandsOver r told'
    → ((k : ℕ) → among r.actors k ≡ true → part k told ≡ part k (steps_of r.base))
    → KeepsOrder (among r.actors) told told' (steps_of base)
keeps_order r base made told told' is grown over same = record {
  made = made;
  told_is = grown;
  since = is.since;
  before = steps_of r.base;
  seen_is = is.goes_on;
  parts = λ k its. sym (same k its);
  order = is.made_is ∙ sym (row_since r made told (subst (StandsOver r) grown over) same);
}

-- ---- a worker sits down with its pass, and rises with it
-- its pass is the one that it sits with
pub seated : {region : SharedRegion} {slot : Option SharedPass} (At : Standing → Type 0) (pass : SharedPass) → slot ≡ Some pass → (has : HasPass region slot)
    → At (standing_of_pass has.pass) → At (standing_of_pass pass)
seated {region} {slot} At pass is has at = subst (λ (x : SharedPass). At (standing_of_pass x)) (same_Some _ _ (sym has.present ∙ is)) at

-- what it did with its pass
pub rose : {region slot : _} (Does : Standing → Standing → Type 0) (pass left after : SharedPass) → slot ≡ Some pass → HasPass region slot → after ≡ left
    → IsPassOf region after → Does (standing_of_pass pass) (standing_of_pass left) → Did region slot (Some after) Does
rose {region} {slot} Does pass left after is has same of does = record {
  before = record { pass = pass; present = is; of = subst (IsPassOf region) (same_Some _ _ (sym has.present ∙ is)) has.of };
  after = record { pass = after; present = refl; of = of };
  does = subst (λ (x : SharedPass). Does (standing_of_pass pass) (standing_of_pass x)) (sym same) does;
}

-- ---- a keeper at the desk that its thread lends it, on the bench of both
-- A keeper that stands at its own desk stands so too beside its thread, on the bench of both.
pub keeper_beside : {region b m f k book out later p : _} → MaySitOn region b m → KeeperAt f k (keeper_has (standing_on b m) book out) later p
    → KeeperAt f k (keeper_has (standing_beside region b m) book out) later p
keeper_beside may at = record { sits = sits_as refl (λ stood. (may, stood.0, stood.1)) at.sits; book = at.book; spare = at.spare; places = at.places }

abbrev pub tries_beside : {region now b c m n f k r block book book' out out' later p : _} → MaySitOn now c n
    → KeeperTries f k r block (keeper_has (standing_on b m) book out) (keeper_has (standing_on c n) book' out') later p
    → KeeperTries f k r block (keeper_has (standing_beside region b m) book out) (keeper_has (standing_beside now c n) book' out') later p
tries_beside may t = record {
  tried = t.tried;
  is = t.is;
  short = t.short;
  block_is = t.block_is;
  given = t.given;
  stands = keeper_beside may t.stands;
  moves = record { steps = t.moves.steps; list_is = t.moves.list_is; calls = calls_as refl refl (λ v l stood. (stood.1, stood.2)) (λ v l stood. (may, stood.0, stood.1)) t.moves.calls };
  pushed = t.pushed;
  room = t.room;
  size = t.size;
  each = t.each;
  paid = t.paid;
}

-- ---- the desk that the thread lends
-- who has a desk may sit there
abbrev pub may_sit : (desk : BenchDesk) → MaySitOn desk.region.now desk.place.bench desk.place.member
may_sit desk = record { of = desk.of; profile = desk.profiled; one = desk.place.one; sits = desk.place.sits }

-- the keeper sits there in the thread's place
pub lent_at : {f k later p : _} (desk lent : BenchDesk) (seated : Seated) → lent.place.bench ≡ desk.place.bench → lent.place.member ≡ seated.member
    → KeeperAt f k (keeper_has (standing_beside desk.region.now desk.place.bench seated.member) seated.book seated.out) later p
    → KeeperAt f k (keeper_has (standing_on lent.place.bench lent.place.member) seated.book seated.out) later p
lent_at {f} {k} {later} {p} desk lent seated bench member at =
    rw (bench, member) record { sits = sits_as refl (λ stood. (stood.1, stood.2)) at.sits; book = at.book; spare = at.spare; places = at.places }

module _ {f k r block later p book out : _} (desk lent after : BenchDesk) (seated : Seated) (region : lent.region.now ≡ desk.region.now)
    (bench : lent.place.bench ≡ desk.place.bench) (member : lent.place.member ≡ seated.member)
    (tries : KeeperTries f k r block (keeper_has (standing_on lent.place.bench lent.place.member) seated.book seated.out)
    (keeper_has (standing_on after.place.bench after.place.member) book out) later p)
    (home : home_of after.region.now (row_on after.place.bench) ≡ home_of lent.region.now (row_on lent.place.bench))
    (stood : StandsAt (standing_on desk.place.bench desk.place.member) p.list) (other : desk.place.member.actor ≢ k) where
  -- the thread may sit down again
  pub thread_after : StandsAt (standing_beside after.region.now after.place.bench desk.place.member) (after_trying p k tries.tried).list
  thread_after =
      let who = desk.place.member.actor in
      let may : MaySitOn lent.region.now lent.place.bench desk.place.member = rw (region, bench) (may_sit desk) in
      let at : StandsAt (standing_on lent.place.bench desk.place.member) p.list = rw bench stood in
      let same = ap (part who) tries.moves.list_is ∙ part_of_others who k tries.moves.steps p.list (λ is. other (sym is)) in
      (stays_beside lent.region.now after.region.now lent.place.bench after.place.bench desk.place.member p.list (after_trying p k tries.tried).list home
      after.of after.place.one tries.stands.sits.stood.1).stands (may, at.0, at.1) same

  -- .. and once it does, the keeper stands beside it as before
  pub tried_at : (back : BenchDesk) (risen : Member) → back.region.now ≡ after.region.now → back.place.bench ≡ after.place.bench
      → back.place.member ≡ desk.place.member → risen ≡ after.place.member
      → (t : KeeperTries f k r block (keeper_has (standing_beside desk.region.now desk.place.bench seated.member) seated.book seated.out)
      (keeper_has (standing_beside back.region.now back.place.bench risen) book out) later p)
      × StandsStill (standing_on desk.place.bench desk.place.member) (standing_on back.place.bench back.place.member) p.list (after_trying p k t.tried).list
  tried_at back risen same there again gone = rw (same, there, again, gone, sym region, sym bench, sym member)
      (tries_beside (may_sit after) tries, record { seat_is = refl; stands = λ stands parts. (thread_after.1, thread_after.2) })

-- ---- both sit down
seated_beside : (region : SharedRegion) (keeper : Option Keeper) (seated : Option Seated) (b now : Bench) (r : Row) (rs : List Row) → IsSameKeeper keeper seated
    → IsKeeperOf region keeper → rows_on b ≡ r ∷ (rows_of (keeper_parts keeper) ++ rs)
    → IsBenchOf region now → HasLooked (rows_on b) (rows_on now) → SitsBeside region now keeper seated
seated_beside region (Some keeper) (Some seated) b now r rs same of rows bench looked =
    let has : HasRow (rows_on b) keeper.pass.place.actor (view_of keeper.pass) = rw rows (inr (has_seat keeper.pass rs)) in
    (sat b now keeper.pass seated.member of same.0 bench looked has, same.1, same.2)
seated_beside region _ _ b now r rs same of rows bench looked = same

kept_actors : (keeper : Option Keeper) (seated : Option Seated) → IsSameKeeper keeper seated
    → all_actors (rows_of (keeper_parts keeper) ++ (empty_row ∷ [])) ≡ seated_actors seated
-- With one and without one.
kept_actors a b same = search arith

-- A thread and its keeper that sat down with their passes and looked sit in one row.
pub pair_sat : {region : _} (pass : SharedPass) (keeper : Option Keeper) (member : Member) (seated : Option Seated) (b now : Bench) → IsPassOf region pass
    → IsKeeperOf region keeper → IsSameKeeper keeper seated → (rows_on b ≡ rows_of (part_of pass ∷ []) ++ (rows_of (keeper_parts keeper) ++ (empty_row ∷ [])))
    → IsSeated region now pass member → IsBenchOf region now → HasLooked (rows_on b) (rows_on now) → PairSits region pass keeper now member seated
pair_sat {region} pass keeper member seated b now of kept same rows thread bench looked = search (arith, seated_beside, kept_actors)

-- ---- beside each list that tells of both what they made
-- nobody made a step since they sit in one row
base_part : (r : Row) (k : ℕ) → r.made ≡ [] → part k (steps_of r.base) ≡ made_in r k
base_part r k none = sym (ap (λ es. part k (steps_of es ++ steps_of r.base)) none)

module _ {region : SharedRegion} {pass : SharedPass} {keeper : Option Keeper} {bench : Bench} {member : Member} {seated : Option Seated}
    (sits : PairSits region pass keeper bench member seated)
    (f : Profile) (k j : ℕ) (acts : List Act) (has : Keeps) (later : Later) (more : LaterKept) (p : Progress)
    (thread : ThreadAt f k acts (standing_of_pass pass) has later p) (waits : KeeperWaits f j acts (kept_by_worker keeper) more p) where
  own_part : part member.actor p.list ≡ part member.actor (steps_of (row_on bench).base)
  own_part = ap (λ a. part a p.list) (sits.thread.is.actor ∙ thread.sits.actor) ∙ (sym thread.sits.stood ∙ (sym sits.thread.view ∙ sym (base_part (row_on bench) member.actor sits.fresh)))

  kept_part : (o : Option Keeper) → SitsBeside region bench o seated → KeeperWaits f j acts (kept_by_worker o) more p → (s : Seated) → seated ≡ Some s
      → part s.member.actor p.list ≡ part s.member.actor (steps_of (row_on bench).base)
  kept_part a beside wait s is = search (arith, base_part)

  -- Each actor of the row has the part of the list that the row's base has of it.
  both_parts : (i : ℕ) → among (row_on bench).actors i ≡ true → part i p.list ≡ part i (steps_of (row_on bench).base)
  both_parts i its = search (arith, own_part, kept_part, among_cases, true≢false, seated)

  -- The list tells of the pair what their row tells, as nobody acted since the look.
  stand_over : StandsOver (row_on bench) p.list
  stand_over = stands_first (row_on bench) p.list sits.fresh both_parts

  -- A thread and its keeper that sit on one bench stand before their operations there.
  pair_at : k ≢ j → PairAt f k j acts (standing_on bench member) has (kept_seated region bench seated) later more p
  pair_at apart = search (arith, member_seat, stand_over)

-- ---- both rise
sits_without : (seated : Option Seated) {rs : List Row} (member : Member) → IsFreshRow rs → IsAnother member.actor seated → SitsInRow (first_row rs) member
    → SitsInRow (first_row (rows_without_keeper seated rs)) member
sits_without a member fresh other sits = search (arith, ne_eqb, among_picked, left_made)

made_without : (seated : Option Seated) {rs : _} (k : ℕ) → IsFreshRow rs → made_in (first_row (rows_without_keeper seated rs)) k ≡ made_in (first_row rs) k
made_without a k fresh = search (arith, left_made)

-- what both have then is what the row said before the look
risen_as : (region : SharedRegion) (r s : Row) (seated : Option Seated) (keeper : Option Keeper)
    → ((there : Seated) → seated ≡ Some there → made_in s there.member.actor ≡ made_in r there.member.actor) → HasRisen region s seated keeper
    → HasRisen region r seated keeper
risen_as region r s a b same risen = search arith

module _ {region : SharedRegion} {bench : Bench} (looked : Bench) {member : Member} {seated : Option Seated} (may : PairMayRise region bench member seated)
    (look : HasLooked (rows_on bench) (rows_on looked)) where
  one_row : AreRowsOf (row_on bench ∷ []) (steps_of look.base)
  one_row = subst (λ (rs : List Row). AreRowsOf rs (steps_of look.base)) may.thread.one look.rows

  -- The keeper may leave the bench first.
  pub may_leave_first : KeeperMayLeave region (first_row (rows_on looked)) seated
  may_leave_first = search (arith, still_sits)

  -- The row is fresh after the keeper left.
  pub fresh_then : {rs : List Row} → rs ≡ rows_without_keeper seated (rows_on looked) → IsFreshRow rs
  fresh_then is = subst IsFreshRow (sym is) (search (arith, left_fresh, looked_fresh look))

  -- The thread still sits in the row after its keeper left.
  pub sits_then : {rs : List Row} → rs ≡ rows_without_keeper seated (rows_on looked) → SitsInRow (first_row rs) member
  sits_then is = rw is (sits_without seated member (looked_fresh look) may.apart (still_sits bench looked member may.thread.one look may.thread.sits))

  -- A pair rose once its keeper and then its thread left the bench: both have passes with what they made.
  pub pair_rose : (gone left : Bench) {keeper : Option Keeper} {pass : SharedPass} → rows_on gone ≡ rows_without_keeper seated (rows_on looked)
      → HasRisen region (first_row (rows_on looked)) seated keeper → IsPassOfMember region (first_row (rows_on gone)) member pass → IsBenchOf region left
      → rows_on left ≡ rows_of_only (isnt (only_this member.actor)) (rows_on gone)
      → PairRose region bench member seated left pass keeper
  pair_rose gone left gone_is risen own of left_is = search (arith, made_without, looked_fresh, looked_made, risen_as, one_row)
    where
      -- At the bench sit the thread and its keeper alone.
      all : all_actors (rows_on bench) ≡ member.actor ∷ seated_actors seated
      all = ap all_actors may.thread.one ∙ (append-nil (row_on bench).actors ∙ may.actors)

-- ---- after their acts
keeper_sits : (f : Profile) (j : ℕ) (more : LaterKept) (p : Progress) (region : SharedRegion) (b : Bench) (s : Option Seated)
    → KeeperWaits f j [] (kept_seated region b s) more p → KeeperSits region b s
-- With one and without one.
keeper_sits f j more p region b a waits = search arith

keeper_apart : (f : Profile) (j k : ℕ) (more : LaterKept) (p : Progress) (region : SharedRegion) (b : Bench) (a : ℕ) (s : Option Seated) → a ≡ k → k ≢ j
    → KeeperWaits f j [] (kept_seated region b s) more p → IsAnother a s
-- With one and without one.
keeper_apart f j k more p region b a c is apart waits = search arith

keeper_is : (f : Profile) (j : ℕ) (acts : List Act) (more : LaterKept) (p : Progress) (region : SharedRegion) (b : Bench) (o : Option Keeper)
    (s : Option Seated)
    → SitsBeside region b o s → KeeperWaits f j acts (kept_by_worker o) more p
    → seated_actors s ≡ keeper_actors j o
-- With one and without one.
keeper_is f j acts more p region b a c sits waits = search arith

-- ---- with their passes again
thread_back : (c : Bench) {region : SharedRegion} {pass : SharedPass} {member : Member} {f : Profile} {k : ℕ} {has : Keeps} {later : Later} {q : Progress}
    → IsPassOfMember region (row_on c) member pass → ThreadAt f k [] (standing_on c member) has later q
    → ThreadAt f k [] (standing_of_pass pass) has later q
thread_back c own at = record { sits = sits_as own.seat (λ stood. own.view ∙ stood.0) at.sits; cache = at.cache; spare = at.spare; names = at.names }

keeper_back : (c : Bench) {region now : SharedRegion} {f : Profile} {j : ℕ} {more : LaterKept} {q : Progress} (s : Seated) (keeper : Keeper)
    → IsPassOfMember region (row_on c) s.member keeper.pass
    → KeeperAt f j (keeper_has (standing_beside now c s.member) s.book s.out) more q
    → KeeperAt f j (keeper_has (standing_of_pass keeper.pass) s.book s.out) more q
keeper_back c s keeper risen at =
    record { sits = sits_as risen.seat (λ stood. risen.view ∙ stood.1) at.sits; book = at.book; spare = at.spare; places = at.places }

module _ (region was now : SharedRegion) (b c : Bench) (pass : SharedPass) (member : Member) (f : Profile) (k j : ℕ) (acts : List Act) (σ τ : Standing)
    (has has' : Keeps) (later : Later) (more : LaterKept) (p : Progress)
    (own : IsPassOfMember region (row_on c) member pass) where
  -- What a pair did on the bench it did with its passes, once it has risen.
  works_back : (o : Option Keeper) (s t : Option Seated) (keeper : Option Keeper) → SitsBeside was b o s → HasRisen region (row_on c) t keeper
      → (w : PairWorks f k j acts [] τ (standing_on c member) has has' (kept_seated was b s) (kept_seated now c t) later more p)
      → (v : PairWorks f k j acts [] σ (standing_of_pass pass) has has' (kept_by_worker o) (kept_by_worker keeper) later more p) × (v.reached ≡ w.reached)
  works_back None None None None sits risen w = (
    search (arith, thread_back) fits 400,
    refl,
  )
  works_back (Some o) (Some s) (Some t) (Some keeper) sits risen w = rw (sym sits.1, sym sits.2, risen.1, risen.2) (
    search (arith, thread_back, keeper_back) fits 400,
    refl,
  )
  -- Nobody else is there before, on the bench or after it.
  works_back _ _ _ _ sits risen w = search arith

-- ---- a worker's operations of a phase
module _ {region book : _} {worker : Worker} {ops pass keeper seated : _} (desk : BenchDesk) (is : worker.pass ≡ Some pass) (taken : keeper ≡ worker.keeper)
    (sits : PairSits desk.region.now pass keeper desk.place.bench desk.place.member seated) (m : MayDoPhase region book ops worker) where
  abbrev f : Profile
  f = m.profile

  abbrev k : ℕ
  k = m.thread

  abbrev other : ℕ
  other = m.threads + m.thread

  abbrev p : Progress
  p = m.progress

  abbrev bench : Bench
  bench = desk.place.bench

  abbrev member : Member
  member = desk.place.member

  abbrev kept_before : Keeping
  kept_before = kept_seated desk.region.now bench seated

  -- what the pair does in the phase, as thread n and its keeper
  abbrev Works : ℕ → Standing → Standing → Keeps → Keeping → Keeping → Type 0
  Works n σ τ has kept kept' = PairWorks f n other (own_acts n ops) [] σ τ (kept_by book worker) has kept kept' m.later m.more p

  -- The thread stands with its pass as it should before its acts.
  thread : ThreadAt f k (own_acts k ops) (standing_of_pass pass) (kept_by book worker) m.later p
  thread = subst (λ x. ThreadAt f k (own_acts k ops) (standing_of_pass x) (kept_by book worker) m.later p) (same_Some _ _ (sym m.stands.thread.has.present ∙ is)) m.stands.thread.stands

  -- Its keeper waits for these acts.
  waits : KeeperWaits f other (own_acts k ops) (kept_by_worker keeper) m.more p
  waits = subst (λ (o : Option Keeper). KeeperWaits f other (own_acts k ops) (kept_by_worker o) m.more p) (sym taken) m.stands.waits

  here : PairAt f k other (own_acts k ops) (standing_on bench member) (kept_by book worker) kept_before m.later m.more p
  here = pair_at sits f k other (own_acts k ops) (kept_by book worker) m.later m.more p thread waits (λ one. omega (arith, one, m.some))

  -- they may begin
  pub begins : PairAt f member.actor other (own_acts member.actor ops) (standing_on bench member) (kept_by book worker) kept_before m.later m.more p
  begins = subst (λ n. PairAt f n other (own_acts n ops) (standing_on bench member) (kept_by book worker) kept_before m.later m.more p) (sym here.thread.sits.actor) here

  module _ (after : BenchDesk) (has : Keeps) (there : Option Seated)
      (works : Works member.actor (standing_on bench member)
      (standing_on after.place.bench after.place.member) has kept_before (kept_seated after.region.now after.place.bench there))
      (home : home_of after.region.now (row_on after.place.bench) ≡ home_of desk.region.now (row_on bench)) where
    abbrev kept_after : Keeping
    kept_after = kept_seated after.region.now after.place.bench there

    -- What the thread did at the bench.
    mine : Works k (standing_on bench member) (standing_on after.place.bench after.place.member) has kept_before kept_after
    mine = subst (λ n. Works n (standing_on bench member) (standing_on after.place.bench after.place.member) has kept_before kept_after) here.thread.sits.actor works

    same_there : seated_actors there ≡ seated_actors seated
    same_there = search (arith, mine.kept_pushed, here.waits, mine.stands.waits)

    -- After its acts both still sit in one row.
    pub pair_may : PairMayRise after.region.now after.place.bench after.place.member there
    pair_may = record {
      thread = may_sit after;
      keeper = keeper_sits f other m.more mine.reached after.region.now after.place.bench there mine.stands.waits;
      apart = keeper_apart f other k m.more mine.reached after.region.now after.place.bench after.place.member.actor there
          mine.stands.thread.sits.actor mine.stands.apart mine.stands.waits;
      actors = search (arith, same_there);
    }

    -- it did them, and its bench is left
    module _ (left : Bench) (own : SharedPass) (risen : Option Keeper) (rose : PairRose region after.place.bench after.place.member there left own risen) where
      -- Between its passes it did the same.
      back : (v : Works k (standing_of_pass pass) (standing_of_pass own) has (kept_by_worker keeper) (kept_by_worker risen)) × (v.reached ≡ mine.reached)
      back =
          works_back region desk.region.now after.region.now bench after.place.bench own after.place.member f k other (own_acts k ops) (standing_of_pass pass)
          (standing_on bench member)
          (kept_by book worker) has m.later m.more p rose.thread keeper seated there risen sits.beside rose.beside mine

      -- The list grew by what the pair made.
      grown : (made : Whole) × (mine.reached.list ≡ made ++ p.list)
      grown = goes_on f (own_acts k ops) p mine.reached mine.reaches

      -- The bench's row names the thread and its keeper.
      pair : (row_on after.place.bench).actors ≡ k ∷ keeper_actors other worker.keeper
      pair =
          search (arith, keeper_is, pair_may.actors, same_there)

      parts : (n : ℕ) → among (row_on after.place.bench).actors n ≡ true → part n p.list ≡ part n (steps_of (row_on after.place.bench).base)
      parts = search (arith, both_parts)

      -- The steps of the pair stand in the order in which it made them.
      order : KeepsOrder (pair_in m.threads k worker.keeper) p.list mine.reached.list (steps_of rose.base)
      order = subst (λ (ns : List ℕ). KeepsOrder (among ns) p.list mine.reached.list (steps_of rose.base)) pair
          (keeps_order (row_on after.place.bench) rose.base grown.0 p.list mine.reached.list rose.saw grown.1 mine.stands.thread.sits.stood.1 parts)

      its : IsPassOf region pass
      its = subst (IsPassOf region) (same_Some _ _ (sym m.stands.thread.has.present ∙ is)) m.stands.thread.has.of

      -- what it did, with this keeper before
      abbrev DidWith : Option Keeper → Type 0
      DidWith o =
          (did : Did region worker.pass (Some own) (λ σ σ'. Works k σ σ' has (kept_by_worker o) (kept_by_worker risen)))
          × IsKeeperOf region risen × HasLeft region (Some left) (pair_in m.threads k worker.keeper) p.list did.does.reached.list

      -- A worker that sat down, worked and rose did its acts of the phase with its passes.
      pub pair_did : DidWith worker.keeper
      pair_did =
          let in_order = subst (λ (q : Progress). KeepsOrder (pair_in m.threads k worker.keeper) p.list q.list (steps_of rose.base)) (sym back.1) order in
          subst DidWith taken (
            record { before = record { pass = pass; present = is; of = its }; after = record { pass = own; present = refl; of = rose.thread.of }; does = back.0 },
            search (arith, rose.beside),
            record { bench = left; present = refl; of = rose.of; base = rose.base; rows = rose.rows; order = in_order },
          )
