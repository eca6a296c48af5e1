-- The acts of the scavenger's worker at its bench, and the stops of the threads that are lent to it.
use Rattle.std.proofs.Common.{◌≡◌, ◌≢◌, ℕ, ◌+◌, ◌<◌, ◌≤◌, Bool, List, [], ◌∷◌, ◌++◌, length, drop, set, get_or, refl, ap, sym, ◌∙◌, subst, arith, length-append}
use Rattle.std.proofs.Common.{drop_of_length-le, zero, suc, eq-eqb, ne_eqb}
use Rattle.pas_threads.proofs.Common.{drop_more, Profile, Bench, BenchDesk, BenchHome, row_tells, Act, idle_stops, acts_of_chore, scavenger_acts, work_of}
use Rattle.pas_threads.proofs.Common.{AreSound, IsSoundWork, asked_after, Op, Chore, Work, Progress, Reaches, EachOf, records_by, costs_of, records_both}
use Rattle.pas_threads.proofs.Common.{none_by, all_by, part, Standing, part_of_others, StandsStill, sits_still, sits_for, AreDistinct, Came, Pushed, Told}
use Rattle.pas_threads.proofs.Common.{TookNoPart, Shift, number_in, standing_at, AreBeside, SitsLent, IsDeskAt, Worker, Crew, crew, CrewSits, CrewActs}
use Rattle.pas_threads.proofs.{Common.{records_in, Records, Record}, TakingTurns.{pushed_none, pushed_both, SoFar, at_first, goes_on, at_last, Stays, no_turn}}
use Rattle.pas_threads.proofs.{TakingTurns.{no_part_both, came_none, came_both, told_none, told_both, acts_in_turn}, CrewSits.lent_stays}
use Rattle.pas_threads.specs.{Lent.{StopsLent, StoppedLent}, Crews.{CrewStands, CrewDoes}, Hands.{and_left, ScavengerAt}}
use Rattle.pas_trace.specs.{Acts.{StopsIdle, ReadsEpoch}, EveryPlan.IsActorBy}
use Rattle.pas_answers.specs.Fit.{cost_of_act, unbacks_of_act}
use Rattle.pas_acts.specs.AtDesks.{told_if, for_act, HasRoomAt, ScavengerActs}

-- ---- what is said of one thread's stop
-- that it was stopped says the scavenger
told_by : (stopped : Bool) (k : ℕ) → EachOf 0 (told_if stopped k) × (length (told_if stopped k) ≤ 1)
-- By both values of the test.
told_by a k = search arith

-- ---- all of them
-- the stops of the lent threads before this place were done
abbrev pub StopsSoFar : BenchHome → Shift → ℕ → Bench → List Worker → List Worker → Records → Records → ℕ → Progress → Type 0
StopsSoFar h s n bench old now out out1 i p =
    SoFar (idle_stops n s.idle) (idle_stops n (drop i s.idle)) (λ acts. StoppedLent h s acts bench old now out out1 i p)

-- Before the first idle thread is stopped, the stops so far are none.
pub stops_begin : {h : BenchHome} {s : Shift} {desk : BenchDesk} {lent : List Worker} {out : Records} {p : Progress} (n : ℕ) → IsDeskAt h desk p
    → AreBeside (SitsLent h.region h.row.actors s) s lent p → StopsSoFar h s n desk.place.bench lent lent out out 0 p
stops_begin n there at = at_first (record { did = record { turns = no_turn at.each; told = pushed_none refl; few = omega arith }; over = there.over })

-- After one more lent thread was stopped where it was idle long enough, the stops so far are one more.
pub stops_go_on : {h : BenchHome} {s : Shift} {bench bench' : Bench} {old now : List Worker} {out out1 out2 : Records} {p : Progress} (n i : ℕ) (d w : Worker)
    → length old ≡ length s.idle → (so : StopsSoFar h s n bench old now out out1 i p) → i < length old → length now ≡ length old
    → StopsLent h s.profile (number_in s i) n bench' (get_or now i d) w out1 out2 (s.lends i) so.done.did.turns.came.reached
    → StopsSoFar h s n bench' old (set now i w) out out2 (i + 1) p
stops_go_on {h} {s} {bench} {bench'} {old} {now} {out} {out1} {out2} {p} n i d w size so lt many t =
    let k = number_in s i in
    let x = t.does in
    let told = told_if t.stopped k in
    let theirs = told_by t.stopped k in
    let apart : AreDistinct (number_in s) (length old) = subst (AreDistinct (number_in s)) (sym size) s.distinct in
    let by = records_both 0 x.own told ∙ ap (λ (xs : List Record). xs ++ records_by 0 told) (none_by 0 k x.own x.each (λ is. (apart.threads i lt) (sym is))) in
    let both = ap length (records_both 0 so.done.did.turns.came.said (x.own ++ told))
    ∙ length-append (records_by 0 so.done.did.turns.came.said) (records_by 0 (x.own ++ told)) in
    goes_on (StopsIdle k n ∷ []) (ap (idle_stops n) (drop_more s.idle i 0 (omega (arith, lt, size)))) so
    (record {
      did = record {
        turns = acts_in_turn (lent_stays h.region h.row.actors s) apart theirs.0 i d w lt many so.done.did.turns x t.requests t.keeper t.sits;
        told = pushed_both so.done.did.told (record { added = t.told.added ∙ ap (λ (rs : List Record). records_in out1 ++ rs) (sym by); room = t.told.room });
        few = omega (arith, both, ap length (by ∙ all_by 0 told theirs.0), so.done.did.few, theirs.1);
      };
      over = t.over;
    })

-- Once each lent worker had its turn, all the stops of the idle threads were done.
pub stops_end : {h : _} {s : Shift} {bench old now out out1 p : _} (n i : ℕ) → length old ≡ length s.idle → length old ≤ i → i ≤ length old
    → StopsSoFar h s n bench old now out out1 i p → StoppedLent h s (idle_stops n s.idle) bench old now out out1 (length old) p
stops_end {s = s} {old = old} n i size le ge so =
    rw (let count : length old ≡ i = omega (arith, le, ge) in count) (at_last (ap (idle_stops n) (drop_of_length-le s.idle (omega (arith, le, size)))) so)

-- ---- the scavenger's own act
-- there is room for it, beside the acts that are left
pub room_for_act : {f : Profile} {act next σ places out later p : _} → unbacks_of_act f.pages act ≤ cost_of_act f.pages act
    → ScavengerAt f (act ∷ next) σ places out later p → HasRoomAt f σ out (for_act f act (and_left f next later)) p
room_for_act less at = let spare = at.stands.spare in record { sits = sits_for at.stands.sits (omega (arith, less)); spare = omega (arith, spare) }

module _ {Lends : ℕ → Worker → Progress → Type 0} {s act next σ σ' places out out' lent p : _} (stays : Stays (number_in s) Lends)
    (at : CrewStands Lends s (act ∷ next) (crew σ lent places out) p) (did : ScavengerActs s.profile act σ σ' out out' (and_left s.profile next s.own) p) where
  -- it leaves the lent threads where they are
  pub still_lent : AreBeside Lends s lent did.reached
  still_lent = record {
    many = at.lent.many;
    each = λ i d lt.
        let many = at.lent.many in
        let k = number_in s i in
        stays i (get_or lent i d) p did.reached (ap (part k) did.moves.list_is ∙ part_of_others k 0 did.moves.steps p.list (s.distinct.threads i (omega (arith, lt, many)))) (ap (λ cs. cs k) did.caches) did.names
        (at.lent.each i d lt);
  }

  abbrev came : Came s.profile (act ∷ []) p
  came = record { reached = did.reached; reaches = did.reaches; said = did.says.said; records_are = did.says.records_are }

  own_told : Pushed 0 did.says.said out out'
  own_told = record { added = did.says.pushed ∙ ap (λ rs. records_in out ++ rs) (sym (all_by 0 did.says.said did.says.each)); room = did.says.room }

  lent_told : (i : ℕ) (d : Worker) → i < length lent → Told (number_in s i) did.says.said (get_or lent i d) (get_or lent i d)
  lent_told i d lt = told_none (none_by (number_in s i) 0 did.says.said did.says.each (s.distinct.threads i (omega (arith, lt, at.lent.many))))

  leaves_alone : (k : ℕ) → 0 ≢ k → TookNoPart k did.says.said p did.reached
  leaves_alone k some =
      record { part_is = ap (part k) did.moves.list_is ∙ part_of_others k 0 did.moves.steps p.list some; silent = none_by k 0 did.says.said did.says.each some }

  -- An act of the scavenger alone is one that its crew did, the lent threads being as they were.
  pub did_alone : {places' : ℕ} → places' ≡ places → CrewDoes Lends s (act ∷ []) next (crew σ lent places out) (crew σ' lent places' out') p
  did_alone same = record { came = came; stands = record { stands = record { stands = did.stands; has_places = same ∙ at.stands.has_places }; lent = still_lent }; told = own_told; lent = lent_told; books = did.books; others = λ k some other. leaves_alone k some }

-- ---- an idle operation
pub costs_stops : (f : Profile) (n : ℕ) (idle : List ℕ) (next : List Act) → costs_of f.pages (idle_stops n idle ++ next) ≡ length idle + costs_of f.pages next
costs_stops f n [] next = omega arith
costs_stops f n (k ∷ idle) next = let rest = costs_stops f n idle next in omega (arith, rest)

-- The scavenger's reading of the epoch and the stops of the idle threads are acts that its crew did.
pub did_idle : {h : BenchHome} {s : Shift} {next : List Act} {σ σ' : Standing} {places : ℕ} {out out' : Records} {old new : List Worker} {p : Progress} (n : ℕ)
    (desk : BenchDesk) (at : CrewSits h s (ReadsEpoch ∷ (idle_stops n s.idle ++ next)) (crew σ old places out) p)
    (read : ScavengerActs s.profile ReadsEpoch σ σ' out out (and_left s.profile (idle_stops n s.idle ++ next) s.own) p) → (standing_at desk).seat ≡ σ'.seat
    → length new ≡ length old → StoppedLent h s (idle_stops n s.idle) desk.place.bench old new out out' (length old) read.reached
    → CrewActs h s (ReadsEpoch ∷ idle_stops n s.idle) next (crew σ old places out) (crew (standing_at desk) new places out') p
did_idle {h} {s} {next} {σ} {σ'} {places} {out} {out'} {old} {new} {p} n desk at read seat size stopped =
    let stops = stopped.did in
    let stays = lent_stays h.region h.row.actors s in
    let costs = costs_stops s.profile n s.idle next in
    let many = at.lent.many in
    let longer = ap length stops.told.added ∙ length-append (records_in out) (records_by 0 stops.turns.came.said) in
    let still : StandsStill σ' (standing_at desk) read.reached.list stops.turns.came.reached.list =
    record {
      seat_is = seat;
      stands = λ stood same. (sym (row_tells _ stops.turns.came.reached.list desk.place.member.actor stopped.over desk.place.sits.among_them), stopped.over);
    } in
    let own_part = stops.turns.leaves.parts 0 (λ i lt same. s.distinct.threads i (omega (arith, lt, many)) (sym same)) in
    record {
      came = came_both (came stays at read) stops.turns.came;
      stands = record {
        stands = search (arith, sits_still, stops);
        lent = record { many = size ∙ many; each = λ i d lt. stops.turns.stand i d (omega (arith, lt, size)) };
      };
      told = pushed_both (own_told stays at read) stops.told;
      lent = λ i d lt. told_both (lent_told stays at read i d lt) (stops.turns.told i d lt);
      books = stops.turns.leaves.books ∙ read.books;
      others = λ k some other. no_part_both (leaves_alone stays at read k some) (record { part_is = stops.turns.leaves.parts k (λ i lt. other i (omega (arith, lt, many))); silent = stops.turns.leaves.silent k some (λ i lt. other i (omega (arith, lt, many))) });
    }

-- ---- the chore written otherwise
pub as_acts : {Lends : ℕ → Worker → Progress → Type 0} {s : Shift} {has : Crew} {p : Progress} (next : List Act) {one chore : Chore} → chore ≡ one
    → CrewStands Lends s (acts_of_chore s.idle chore ++ next) has p → CrewStands Lends s (acts_of_chore s.idle one ++ next) has p
as_acts {Lends} {s} {has} {p} next is at = subst (λ x. CrewStands Lends s (acts_of_chore s.idle x ++ next) has p) is at

-- What a crew did for some chore it did for the same chore otherwise written.
pub to_acts : {Lends : ℕ → Worker → Progress → Type 0} {s : Shift} {next : List Act} {has has' : Crew} {p : Progress} {one chore : Chore} → chore ≡ one
    → CrewDoes Lends s (acts_of_chore s.idle one) next has has' p → CrewDoes Lends s (acts_of_chore s.idle chore) next has has' p
to_acts {Lends} {s} {next} {has} {has'} {p} is did = subst (λ x. CrewDoes Lends s (acts_of_chore s.idle x) next has has' p) (sym is) did

-- ---- which operation comes next
-- it may follow the names of some list
sound_at : (f : Profile) (asked : List ℕ) (ops : List Op) (i : ℕ) (d : Op) → AreSound f asked ops → i < length ops
    → IsActorBy f (work_of (get_or ops i d).what) (get_or ops i d).actor × ((names : List ℕ) × IsSoundWork f names (work_of (get_or ops i d).what))
sound_at f asked [] i d sound lt = absurd (let bad : i < 0 = lt in omega (arith, bad))
sound_at f asked (op ∷ ops) zero d sound lt = (sound.0, (asked, sound.1))
sound_at f asked (op ∷ ops) (suc i) d sound lt = sound_at f (asked_after op.what asked) ops i d sound.2 (omega (arith, lt))

-- all but a chore is of a thread
not_first : (f : Profile) (work : Work) (k : ℕ) → IsActorBy f work k → ((chore : Chore) → work ≡ Work.Chore chore → ⊥) → k ≡ 0 → ⊥
not_first f a k of not same = search arith

-- by what it asks for: a chore is the scavenger's, and all else is a thread's
module _ (f : Profile) (asked : List ℕ) (ops : List Op) (i : ℕ) (d : Op) (sound : AreSound f asked ops) (lt : i < length ops) (work : Work)
    (asks : work ≡ work_of (get_or ops i d).what) where
  of_actor : IsActorBy f work (get_or ops i d).actor
  of_actor = subst (λ (w : Work). IsActorBy f w (get_or ops i d).actor) (sym asks) (sound_at f asked ops i d sound lt).0

  -- The chore of an operation of a sound phase is sound.
  pub chore_sound : (chore : Chore) → work ≡ Work.Chore chore → IsSoundWork f [] (Work.Chore chore)
  chore_sound chore is = let one = (sound_at f asked ops i d sound lt).1 in subst (IsSoundWork f one.0) (sym asks ∙ is) one.1

  -- The acts of the scavenger from an operation on are those of its chore and of the later operations.
  pub next_acts : (idle : List ℕ) (chore : Chore) → work ≡ Work.Chore chore
      → scavenger_acts idle (drop i ops) ≡ acts_of_chore idle chore ++ scavenger_acts idle (drop (i + 1) ops)
  next_acts idle chore is = search (arith, drop_more, eq-eqb, of_actor)

  -- An operation that is no chore adds nothing to the acts of the scavenger.
  pub skip_acts : (idle : List ℕ) → ((chore : Chore) → work ≡ Work.Chore chore → ⊥) → scavenger_acts idle (drop i ops) ≡ scavenger_acts idle (drop (i + 1) ops)
  skip_acts idle not = search (arith, drop_more, ne_eqb, not_first, of_actor)

-- by these acts, which are those told otherwise
abbrev pub came_as : {f : Profile} {acts acts' : List Act} {p : Progress} → acts' ≡ acts → Came f acts p → Came f acts' p
came_as {f} {p = p} is own = record {
  reached = own.reached;
  reaches = subst (λ acts. Reaches f acts p own.reached) (sym is) own.reaches;
  said = own.said;
  records_are = own.records_are;
}

-- where there are no acts, the crew did them all
abbrev pub did_none : {Lends : ℕ → Worker → Progress → Type 0} {s : Shift} {acts next : List Act} {has : Crew} {p : Progress} → acts ≡ []
    → CrewStands Lends s next has p → CrewDoes Lends s acts next has has p
did_none {s = s} {p = p} none at = record {
  came = came_as none (came_none s.profile p);
  stands = at;
  told = pushed_none refl;
  lent = λ i d lt. told_none refl;
  books = refl;
  others = λ k some other. record { part_is = refl; silent = refl };
}

-- so far, the scavenger's operations before this place were done
abbrev pub CrewSoFar : (ℕ → Worker → Progress → Type 0) → Shift → List Op → ℕ → Crew → Crew → Progress → Type 0
CrewSoFar Lends s ops i has0 has p =
    SoFar (scavenger_acts s.idle ops) (scavenger_acts s.idle (drop i ops)) (λ acts. CrewDoes Lends s acts (scavenger_acts s.idle (drop i ops)) has0 has p)

-- Before the first operation of a phase its crew did no acts.
pub crew_begins : {Lends : ℕ → Worker → Progress → Type 0} {s : Shift} (ops : List Op) {has : Crew} {p : Progress}
    → CrewStands Lends s (scavenger_acts s.idle ops) has p → CrewSoFar Lends s ops 0 has has p
crew_begins ops at = at_first (did_none refl at)

-- the next one is this chore
module _ {Lends : ℕ → Worker → Progress → Type 0} {s : Shift} (ops : List Op) (i : ℕ) {has0 has : Crew} {p : Progress} (chore : Chore)
    (next : scavenger_acts s.idle (drop i ops) ≡ acts_of_chore s.idle chore ++ scavenger_acts s.idle (drop (i + 1) ops))
    (so : CrewSoFar Lends s ops i has0 has p) where
  -- Before a chore the crew stands where its acts come next.
  pub crew_before : CrewStands Lends s (acts_of_chore s.idle chore ++ scavenger_acts s.idle (drop (i + 1) ops)) has so.done.came.reached
  crew_before = subst (λ (acts : List Act). CrewStands Lends s acts has so.done.came.reached) next so.done.stands

  -- After a chore the crew did all acts of the operations up to it.
  pub crew_goes_on : {has' : Crew} → length has0.lent ≡ length s.idle
      → CrewDoes Lends s (acts_of_chore s.idle chore) (scavenger_acts s.idle (drop (i + 1) ops)) has has' so.done.came.reached
      → CrewSoFar Lends s ops (i + 1) has0 has' p
  crew_goes_on {has'} many did =
      let one = so.done in
      goes_on (acts_of_chore s.idle chore) next so
      (record {
        came = came_both one.came did.came;
        stands = did.stands;
        told = pushed_both one.told did.told;
        lent = λ j e less. told_both (one.lent j e less) (did.lent j e (omega (arith, less, many, one.stands.lent.many)));
        books = did.books ∙ one.books;
        others = λ k some other. no_part_both (one.others k some other) (did.others k some other);
      })

-- After an operation of a thread the crew did all acts of the operations up to it, since none is its own.
pub crew_skips : {Lends : ℕ → Worker → Progress → Type 0} {s : Shift} (ops : List Op) (i : ℕ) {has0 has : Crew} {p : Progress}
    → scavenger_acts s.idle (drop i ops) ≡ scavenger_acts s.idle (drop (i + 1) ops) → CrewSoFar Lends s ops i has0 has p
    → CrewSoFar Lends s ops (i + 1) has0 has p
crew_skips {Lends} {s} ops i {has0} {has} {p} same so =
    subst (λ (left : List Act). SoFar (scavenger_acts s.idle ops) left (λ acts. CrewDoes Lends s acts left has0 has p)) same so

-- Once all operations were passed, the crew did all the scavenger's acts of the phase.
pub crew_ends : {Lends : ℕ → Worker → Progress → Type 0} {s : Shift} (ops : List Op) {i : ℕ} {has0 has : Crew} {p : Progress} → length ops ≤ i
    → CrewSoFar Lends s ops i has0 has p → CrewDoes Lends s (scavenger_acts s.idle ops) [] has0 has p
crew_ends {Lends} {s} ops {i} {has0} {has} {p} le so =
    let none : scavenger_acts s.idle (drop i ops) ≡ [] = ap (scavenger_acts s.idle) (drop_of_length-le ops le) in
    subst (λ (left : List Act). CrewDoes Lends s (scavenger_acts s.idle ops) left has0 has p) none (at_last none so)
