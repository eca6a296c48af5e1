-- What the actors of all workers said in a phase, or at the close: in which order it is written, that it is paid for, and how the workers rest once it is gathered.
use Rattle.std.proofs.Common.{◌≡◌, ℕ, suc, ◌+◌, ◌<◌, ◌≤◌, List, [], ◌++◌, length, get_or, ap, sym, ◌∙◌, arith, append_assoc, length-append, ◌∷◌, Option, refl}
use Rattle.std.proofs.Common.{subst, zero, ◌⊎◌, inl, inr, map, drop, take, slice_index_or, drop_of_length-le, append-nil, is_some}
use Rattle.pas_threads.proofs.Common.{drop_more, own_records, records_of_ops, all_ops, ops_of, Act, phase_acts, Op, Phase, own_both, Cached, part, Whole}
use Rattle.pas_threads.proofs.Common.{SharedRegion, IsEarlier, Progress, owed_events, Reaches, at_start, AreInPhases, AtMark, StandFirst, records_by, by_actors}
use Rattle.pas_threads.proofs.Common.{OnThreads, Stage, one_by_one, phase_stages, stages_of, stage, itself, reach_both, room_for, NamesAt, NameBook, sits_still}
use Rattle.pas_threads.proofs.Common.{AreGuarded, owed_kept, IsLow, ThreadTold, KeeperTold, ClosedFirst, Session, planned, owed_by, AreMarked, WorkerRests}
use Rattle.pas_threads.proofs.Common.{WorkersRest, closing_acts, ScavengerRests, TeamAt, HasPlaces, HasRoom, PhaseDone, HasReplayed, IsOfActors, StandSo}
use Rattle.pas_threads.proofs.Common.{WentBy, said_kept, said_by_all, said_by_keepers, TookNoPart, WereGathered, Worker, Keeper, Team, Scavenger, records_in}
use Rattle.pas_threads.proofs.{Common.{room_of, Records, Record, Profile}, TakingTurns.{IsCleared, rests_clear, cleared_silent, same_rests}}
use Rattle.pas_threads.proofs.{ReadyPhases.{said_in_order, kept_in_order, kept_few, by_all, owed_less, own_by, own_all, all_paid}, Keepers.alike_pushed}
use Rattle.pas_threads.proofs.Keepers.{alike_said, guarded_alike, said_then, waits_gathered, of_gathered, silent_gathered, kept_still, keeper_is, owed_still}
use Rattle.pas_threads.proofs.{Keepers.{low_gathered, none_there}, Closing.all_acts, Dealt.some_item, Staging.{went_both, went_mark, in_both, unmarked}}
use Rattle.pas_threads.{proofs.Staging.{phase_unmarked, close_unmarked, earlier_both, stand_first}, specs.{Sessions.{AreWritten, CloseDone}, Turns.said_own}}
use Rattle.pas_trace.{specs.Acts.{MarksPhase, MarksClose, close_acts, acts_of}, proofs.EveryPlan.records_both}
use Rattle.pas_answers.specs.{Answers.with_records, Reaching.Advances, Ways.{AreSpoken, arranged}, Stages.stages_from}
use Rattle.pas_acts.proofs.{ActsLeft.{acts_left, close_left, first_phase, other_phase}, PlanFacts.are_arranged}

-- What was said from p to q by the actors of these workers, which rested before it with these operations, and those left, to come. What they owe afterwards (the keepers of
-- `owing` do), and what was said, is paid for.
pub record AllTold (region : SharedRegion) (s : Session) (ops left : List Op) (said : List Record) (old new owing : List Worker) (p q : Progress) : Type 0 where
  pub rest : WorkersRest region s (ops ++ left) old p
  pub many : length new ≡ length old
  pub threads : (i : ℕ) (d : Worker) → i < length old → ThreadTold region s left (suc i) said (get_or old i d) (get_or new i d) q
  pub keepers : (i : ℕ) (d : Worker) → i < length old → KeeperTold region s left (suc i) said (get_or old i d).keeper (get_or new i d).keeper q
  pub places : (i : ℕ) (d : Worker) → i < length old → room_for (get_or new i d).requests ≡ room_for (get_or old i d).requests
  pub silent : (k : ℕ) → s.threads + s.keepers < k → records_by k said ≡ []
  pub spoken : AreSpoken said
  pub records_are : q.records ≡ p.records ++ said
  pub paid : length (records_by 0 said) + length (by_actors 1 s.threads said) + length (by_actors (s.threads + 1) s.threads said)
      + owed_by s owing q s.threads ≤ owed_by s old p s.threads + records_of_ops (planned s) ops

module _ {region s ops left said old new owing p q : _} (x : AllTold region s ops left said old new owing p q) where
  -- Each thread's records are those that it said, and each keeper's.
  own_one : (i : ℕ) (d : Worker) → i < length old → said_own (get_or new i d) ≡ records_by (suc i) said
  own_one i d lt = (x.threads i d lt).out.added ∙ ap (λ rs. rs ++ records_by (suc i) said) (x.rest.threads i d lt).said

  kept_one : (i : ℕ) (d : Worker) → i < length old → said_kept (get_or new i d) ≡ records_by (s.threads + suc i) said
  kept_one i d lt = said_then (s.threads + suc i) said (get_or old i d).keeper (get_or new i d).keeper (x.keepers i d lt).out (x.rest.kept i d lt).silent

  own_said : said_by_all new ≡ by_actors 1 s.threads said
  own_said = search (arith, said_in_order, own_one) fits 400

  -- A worker has a keeper just where it had one.
  alike : (i : ℕ) (d : Worker) → i < length old → is_some (get_or new i d).keeper ≡ is_some (get_or old i d).keeper
  alike i d lt = alike_pushed (s.threads + suc i) said (get_or old i d).keeper (get_or new i d).keeper (x.keepers i d lt).out

  guarded : AreGuarded s.keepers new
  guarded = guarded_alike old new x.many alike x.rest.guarded

  kept_said : said_by_keepers new ≡ by_actors (s.threads + 1) s.keepers said
  kept_said = kept_in_order s.threads new said guarded (λ i d lt. kept_one i d (omega (arith, lt, x.many)))

  kept_most : length (said_by_keepers new) ≤ length (by_actors (s.threads + 1) s.threads said)
  kept_most =
      omega (arith, kept_few s.threads new said guarded, ap (λ (n : ℕ). length (by_actors (s.threads + 1) n said)) (x.many ∙ x.rest.many), ap length kept_said)

  -- ---- the records
  -- there is room for all that, behind what the scavenger said
  module _ (marks : ℕ) (before out : Records) (added : records_in out ≡ records_in before ++ records_by 0 said) (same : room_of out ≡ room_of before)
      (room : length (records_in before) + (owed_by s old p s.threads + records_of_ops (planned s) (ops ++ left) + marks) ≤ room_of before) where
    spent : length (records_in out) ≡ length (records_in before) + length (records_by 0 said)
    spent = ap length added ∙ length-append (records_in before) (records_by 0 said)

    pub may_gather : length (records_in out) + (length (said_by_all new) + length (said_by_keepers new)) ≤ room_of out
    may_gather =
        omega (arith, spent, ap length own_said, kept_most, x.paid, records_both (planned s) ops left, room, same)

    -- .. and then for what is owed, and the operations and marks that are left
    pub room_left : (out' : Records) → records_in out' ≡ records_in out ++ (said_by_all new ++ said_by_keepers new) → room_of out' ≡ room_of out
        → length (records_in out') + (owed_by s owing q s.threads + records_of_ops (planned s) left + marks) ≤ room_of out'
    room_left out' pushed size =
        let now = ap length pushed ∙ length-append (records_in out) (said_by_all new ++ said_by_keepers new) in
        let sum = length-append (said_by_all new) (said_by_keepers new) in
        omega (arith, spent, ap length own_said, now, sum, kept_most, x.paid, records_both (planned s) ops left, room, same, size)

  -- All is written actor by actor.
  pub written : (before : List Record) (out out' : Records) → s.threads + s.keepers ≤ s.profile.threads → AreMarked s p.records before
      → records_in out ≡ before ++ records_by 0 said
      → records_in out' ≡ records_in out ++ (said_by_all new ++ said_by_keepers new) → AreWritten s q.records (records_in out')
  written before out out' fits marked added pushed = record {
    before = p.records;
    before_written = before;
    said = said;
    marked = marked;
    spoken = x.spoken;
    records_are = x.records_are;
    written_are =
        let all = by_all s.threads s.keepers s.profile.threads said fits x.silent in
        cc (pushed, added, append_assoc before (records_by 0 said) (said_by_all new ++ said_by_keepers new), own_said, kept_said, all);
  }

  -- ---- the workers, once that is gathered and their requests were taken over
  thread_clear : {after : Worker} (i : ℕ) (d : Worker) → i < length old → IsCleared (get_or new i d) after
      → WorkerRests region s.profile (suc i) after (own_records (planned s) (suc i) left) q
  thread_clear {after} i d lt c =
      let t = (x.threads i d lt).here in
      let was = (x.rest.threads i d lt).requests in
      let same = x.places i d lt in
      let both = own_both (planned s) (suc i) ops left in
      let owed = ap (λ (c : Cached). owed_events s.profile c (part (suc i) q.list)) t.rests.cache in
      rests_clear t c.pass c.cache c.none (omega arith) (omega (arith, t.rests.spare, c.room, owed)) c.asked (omega (arith, was, same, both, c.places))

  pub rest_again : (after : List Worker) → length after ≡ length new
      → ((i : ℕ) (d : Worker) → i < length new → IsCleared (get_or new i d) (get_or after i d)) → WorkersRest region s left after q
  rest_again after many clear = record {
    many = many ∙ x.many ∙ x.rest.many;
    threads = λ i d lt. thread_clear i d (omega (arith, lt, many, x.many)) (clear i d (omega (arith, lt, many)));
    guarded = guarded_alike new after many (λ i d lt. alike_said (get_or new i d).keeper (get_or after i d).keeper (clear i d lt).keeper) guarded;
    kept = search (arith, of_gathered, waits_gathered, silent_gathered) fits 400;
  }

-- How a replay on threads goes from phase to phase, and to its end: what stays so at another progress, the marks between phases, and the close.

-- ---- another progress
-- the scavenger rests at each progress of which it has the same part
scavenger_rests : {region : SharedRegion} {f : Profile} {scavenger : Scavenger} {later : ℕ} {p q : Progress} → part 0 q.list ≡ part 0 p.list
    → ScavengerRests region f scavenger later p → ScavengerRests region f scavenger later q
scavenger_rests {region} {f} {scavenger} {later} {p} {q} same at = record {
  has = at.has;
  at = search (arith, sits_still) fits 400;
  said = at.said;
  none = at.none;
}

-- the book says what all names stand for, wherever they stand for the same
names_at : {f : Profile} {ops : List Op} {book : NameBook} {p q : Progress} → q.names ≡ p.names → NamesAt f ops book p → NamesAt f ops book q
names_at {f} {ops} {book} {p} {q} same at = search arith

-- ---- more records
team_at_records : {region s phases team p : _} (more : List Record) → TeamAt region s phases team p → TeamAt region s phases team (with_records p more)
unfolding names_at
team_at_records more at = record {
  fit = at.fit;
  workers = record {
    many = at.workers.many;
    threads = λ i d lt. same_rests refl refl (at.workers.threads i d lt);
    guarded = at.workers.guarded;
    kept = λ i d lt. kept_still refl refl refl (at.workers.kept i d lt);
  };
  scavenger = scavenger_rests refl at.scavenger;
  nobody = at.nobody;
  names = names_at refl at.names;
  frees = at.frees;
  places = at.places;
}

-- a mark took the room for one
room_after_mark : (s : Session) (phases : List (List Op)) (marks : ℕ) (workers : List Worker) (out out' : Records) (p : Progress) (mark : Record)
    → records_in out' ≡ records_in out ++ mark ∷ [] → room_of out' ≡ room_of out
    → HasRoom s phases (marks + 1) workers out p → HasRoom s phases marks workers out' (with_records p (mark ∷ []))
room_after_mark s phases marks workers out out' p mark pushed size room =
    search (arith, length-append, owed_less, owed_still)

-- ---- no records
none_by_actors : (k n : ℕ) → by_actors k n [] ≡ []
none_by_actors k zero = refl
none_by_actors k (suc n) = none_by_actors (k + 1) n

are_none : {records written : List Record} (s : Session) → records ≡ [] → written ≡ [] → AreMarked s records written
are_none {records} {written} s is written_is more = cc

none_written : {records written : List Record} (s : Session) → records ≡ [] → written ≡ [] → AreWritten s records written
none_written s is written_is = record {
  before = [];
  before_written = [];
  said = [];
  marked = λ more. refl;
  spoken = tt;
  records_are = is;
  written_are = written_is ∙ sym (none_by_actors 0 (s.profile.threads + 1));
}

-- ---- a mark
-- the records since the last mark are written, and then this one
abbrev StaysBehind : ℕ → Record → Type 0
StaysBehind threads mark = (said more : List Record) → AreSpoken said → arranged OnThreads threads (said ++ mark ∷ more) ≡ by_actors 0 (threads + 1) said ++ mark ∷ arranged OnThreads threads more

marked_by : {s : Session} {records written : List Record} (mark : Record) → StaysBehind s.profile.threads mark → AreWritten s records written
    → AreMarked s (records ++ mark ∷ []) (written ++ mark ∷ [])
marked_by {s} {records} {written} mark behind so more =
    let threads = s.profile.threads in
    let after = arranged OnThreads threads more in
    let one = append_assoc so.before so.said (mark ∷ more) in
    let two = append_assoc so.before_written (by_actors 0 (threads + 1) so.said) (mark ∷ after) in
    let ends = append_assoc written (mark ∷ []) after in
    let here = so.marked (so.said ++ mark ∷ more) in
    cc (append_assoc records (mark ∷ []) more, so.records_are, one, here, behind so.said more so.spoken, two, so.written_are, ends)

-- ---- the end
-- ---- the close
-- Each thread was stopped, then each keeper lowered its guards; then all that was said is gathered.
module _ {region : SharedRegion} {s : Session} {team : Team} {p : Progress} {closed : List Worker} (at : TeamAt region s [] team p)
    (did : ClosedFirst region s (s.threads + s.keepers) team.threads.items closed p)
    (many : length closed ≡ length team.threads.items) where
  abbrev f : Profile
  f = s.profile

  abbrev said : List Record
  said = did.came.said

  abbrev reached : Progress
  reached = did.came.reached

  -- The scavenger, and nobody past the keepers, took part.
  no_part : (k : ℕ) → (k ≡ 0) ⊎ (s.threads + s.keepers < k) → TookNoPart k said p reached
  no_part k away = did.others k (λ m less there is. elim away [ inl first ↦ omega (arith, first, is) | inr past ↦ omega (arith, past, is, there) ])

  -- what they owed pays for what they said
  said_few : length (by_actors 1 s.threads said) + length (by_actors (s.threads + 1) s.threads said) + owed_by s [] reached s.threads
      ≤ owed_by s team.threads.items p s.threads + own_by (planned s) [] s.threads
  said_few = all_paid s [] said team.threads.items [] p reached s.threads (λ i lt.
      let less : i < length team.threads.items = omega (arith, lt, at.workers.many) in
      let d = some_item team.threads.items i less in
      let one = did.each i d less in
      omega (arith, one.paid, one.kept_paid, ap (λ (o : Option Keeper). owed_kept f (s.threads + suc i) o p) (keeper_is team.threads.items i d less)))

  told : AllTold region s [] [] said team.threads.items closed [] p reached
  told = record {
    rest = at.workers;
    many = many;
    threads = λ i d lt. (did.each i d lt).thread;
    keepers = λ i d lt. (did.each i d lt).keeper;
    places = λ i d lt. ap room_for (did.each i d lt).requests;
    silent = λ k past. (no_part k (inr past)).silent;
    spoken = did.spoken;
    records_are = did.came.records_are;
    paid = let none = own_all (planned s) [] s.threads in let own = ap length (no_part 0 (inl refl)).silent in omega (arith, said_few, none, own);
  }

  nothing_more : (out : Records) → records_in out ≡ records_in out ++ records_by 0 said
  nothing_more out = sym (append-nil (records_in out)) ∙ ap (λ rs. records_in out ++ rs) (sym (no_part 0 (inl refl)).silent)

  -- There is room for what all said at the close.
  pub room_at_close : (out : Records) → HasRoom s [] 0 team.threads.items out p
      → length (records_in out) + (length (said_by_all closed) + length (said_by_keepers closed)) ≤ room_of out
  room_at_close out room = may_gather told 0 out out (nothing_more out) refl room

  -- no keeper has a guard up
  low_of : AreGuarded s.keepers closed → (i : ℕ) (d : Worker) → i < length closed → IsLow (get_or closed i d).keeper
  low_of given i d lt = search (arith, none_there)

  module _ {gathered : List Worker} {out out2 : Records} (g : WereGathered closed gathered out out2) where
    -- The close is done once threads are stopped, guards are lowered and all that was said is gathered.
    pub has_closed : {after : Team} → after.threads.items ≡ gathered → after.scavenger ≡ team.scavenger → after.book ≡ team.book → HasPlaces s.threads after
        → AreMarked s p.records (records_in out) → {first last_seen : Whole}
        → WentBy s (one_by_one (take (s.threads + s.keepers) (closing_acts s.threads s.keepers))) p reached first last_seen
        → CloseDone region s after (records_in out2) first last_seen p
    has_closed {after} threads scavenger book places marked {first} {last_seen} went =
        let acts = all_acts s.threads s.keepers in
        let one : (i : ℕ) (d : Worker) → i < length gathered → i < length team.threads.items = λ i d lt. omega (arith, lt, g.many, many) in
        let clear : (i : ℕ) (d : Worker) → i < length closed → IsCleared (get_or closed i d) (get_or gathered i d) = search (arith, cleared_silent) in
        record {
          reached = reached;
          reaches = subst (λ xs. Reaches f xs p reached) acts did.came.reaches;
          team_at = record {
            fit = at.fit;
            workers = subst (λ ws. WorkersRest region s [] ws reached) (sym threads) (rest_again told gathered g.many clear);
            scavenger = rw scavenger (scavenger_rests (no_part 0 (inl refl)).part_is at.scavenger);
            nobody = λ k far. (no_part k (inr far)).part_is ∙ at.nobody k far;
            names = subst (λ (b : NameBook). NamesAt f (all_ops []) b reached) (sym book) (names_at did.names at.names);
            frees = tt;
            places = places;
          };
          written_so = written told (records_in out) out out2 at.fit.fits marked (nothing_more out) g.added;
          empty = search arith fits 400;
          low = search (arith, low_gathered, low_of (guarded told)) fits 400;
          went = subst (λ xs. WentBy s (one_by_one xs) p reached first last_seen) acts went;
        }

-- ---- which stages are left
-- after so many phases
abbrev pub stages_left : ℕ → ℕ → ℕ → List (List Op) → List Stage
stages_left threads keepers zero phases = stages_of threads keepers phases
stages_left threads keepers (suc n) phases = stages_from threads keepers (suc n + 1) phases

close_stages : (threads keepers n : ℕ) → stages_left threads keepers n [] ≡ one_by_one (close_acts threads keepers)
-- At the first place and at the others.
close_stages threads keepers a = search arith

left_stages : (threads keepers n : ℕ) (phases : List (List Op)) → 1 ≤ n → stages_left threads keepers n phases ≡ stages_from threads keepers (n + 1) phases
-- At the first place and at the others.
left_stages threads keepers a phases b = search arith

-- What follows these acts from p on, by these stages, is a replay of all. A list of these actors that begins with these steps is in phases, if it is in what follows.
pub record Leads (s : Session) (all : List (List Op)) (acts : List Act) (stages : List Stage) (p : Progress) (so_far : Whole) : Type 0 where
  pub reaches : (q : Progress) → Reaches s.profile acts p q → Reaches s.profile (acts_of s.threads s.keepers all) at_start q
  pub in_phases : (whole : Whole) → IsEarlier so_far whole → IsOfActors s whole → (q : Progress) (is : Reaches s.profile acts p q)
      → AreInPhases s.profile acts p q is whole → AreInPhases s.profile (acts_of s.threads s.keepers all) at_start q (reaches q is) whole
  pub by_stages : (q : Progress) (l : Whole) → WentBy s stages p q so_far l → WentBy s (stages_of s.threads s.keepers all) at_start q [] l

-- by these acts and stages, which are those told otherwise
leads_as : {s : Session} {all : List (List Op)} {acts acts' : List Act} {stages stages' : List Stage} {p : Progress} {so_far : Whole} → acts ≡ acts'
    → stages ≡ stages' → Leads s all acts stages p so_far → Leads s all acts' stages' p so_far
leads_as {s} {all} {acts} {acts'} {stages} {stages'} {p} {so_far} one two leads =
    subst (λ ss. Leads s all acts' ss p so_far) two (subst (λ xs. Leads s all xs stages p so_far) one leads)

-- After n phases of all: these are left. There is room for a mark before each of them, and for that of the close. Before the first phase there is no
-- record. The steps so far stand in the ledger.
pub record AfterPhases (region : SharedRegion) (s : Session) (all : List (List Op)) (n : ℕ) (left : List (List Op)) (team : Team) (so_far : Whole)
    (out : Records) : Type 0 where
  pub p : Progress
  pub team_at : TeamAt region s left team p
  pub written : AreWritten s p.records (records_in out)
  pub room : HasRoom s left (length left + 1) team.threads.items out p
  pub none : n ≡ 0 → (p.records ≡ []) × (records_in out ≡ [])
  pub leads : Leads s all (acts_left s.threads s.keepers n left) (stages_left s.threads s.keepers n left) p so_far
  pub stand : StandSo s so_far p.list

-- Before any phase of a replay its team, its records and its ledger stand at the start.
pub no_phase : {region s all team so_far out marks : _} → so_far ≡ [] → records_in out ≡ [] → marks ≡ length all + 1 → TeamAt region s all team at_start
    → HasRoom s all marks team.threads.items out at_start → AfterPhases region s all 0 all team so_far out
no_phase {region} {s} {all} {team} {so_far} {out} {marks} nothing empty is at room = record {
  p = at_start;
  team_at = at;
  written = none_written s refl empty;
  room = subst (λ (m : ℕ). HasRoom s all m team.threads.items out at_start) is room;
  none = λ zero. (refl, empty);
  leads = record {
    reaches = λ q reaches. reaches;
    in_phases = λ whole first of q is so. so;
    by_stages = λ q l went. subst (λ (m : Whole). WentBy s (stages_of s.threads s.keepers all) at_start q m l) nothing went;
  };
  stand = λ k le. ap (part k) nothing;
}

-- what is left begins with the next phase, or is nothing
pub as_next : {region s all team so_far out : _} (phases : List Phase) (i : ℕ) (item : Phase) (ops : List Op) → i < length phases
    → item ≡ slice_index_or phases i item → ops ≡ ops_of item → AfterPhases region s all i (map ops_of (drop i phases)) team so_far out
    → AfterPhases region s all i (ops ∷ map ops_of (drop (i + 1) phases)) team so_far out
as_next {region} {s} {all} {team} {so_far} {out} phases i item ops lt is same so =
    search (arith, drop_more)

-- After the last phase no operations are left.
pub as_last : {region : SharedRegion} {s : Session} {all : List (List Op)} {team : Team} {so_far : Whole} {out : Records} (phases : List Phase) (i : ℕ)
    → length phases ≤ i → AfterPhases region s all i (map ops_of (drop i phases)) team so_far out → AfterPhases region s all i [] team so_far out
as_last {region} {s} {all} {team} {so_far} {out} phases i le so = rw drop_of_length-le at so

-- ---- a phase
-- What is left begins with these acts, by these stages, and the records so far end with a mark, or there are none yet.
pub record BeforeActs (region : SharedRegion) (s : Session) (all left : List (List Op)) (acts : List Act) (stages : List Stage) (marks : ℕ) (team : Team)
    (so_far : Whole) (out : Records) : Type 0 where
  pub p : Progress
  pub team_at : TeamAt region s left team p
  pub marked : AreMarked s p.records (records_in out)
  pub room : HasRoom s left marks team.threads.items out p
  pub leads : Leads s all acts stages p so_far
  pub stand : StandSo s so_far p.list

-- .. those of the next phase, whose mark was written, where it has one
abbrev pub BeforePhase : SharedRegion → Session → List (List Op) → ℕ → List Op → List (List Op) → Team → Whole → Records → Type 0
BeforePhase region s all n ops rest = BeforeActs region s all (ops ∷ rest) (phase_acts s.threads ops ++ acts_left s.threads s.keepers (n + 1) rest)
    (phase_stages s.threads ops ++ stages_left s.threads s.keepers (n + 1) rest) (length rest + 1)

-- .. or those of the close, whose mark was written
abbrev pub BeforeClose : SharedRegion → Session → List (List Op) → Team → Whole → Records → Type 0
BeforeClose region s all = BeforeActs region s all [] (closing_acts s.threads s.keepers) (one_by_one (closing_acts s.threads s.keepers)) 0

module _ {region s all n left team so_far out : _} (so : AfterPhases region s all n left team so_far out) where
  -- there is room for a mark
  pub spare_for_mark : length (records_in out) < room_of out
  spare_for_mark = omega (arith, so.room)

  -- What is behind a mark begins once it is among the records.
  mark_begins : {acts : List Act} {stages : List Stage} {marks : ℕ} {out' : Records} (mark : Record) (act : Act)
      → ((p : Progress) → Advances s.profile act p (with_records p (mark ∷ []))) → ((So : Type 0) → So → AtMark act So)
      → StaysBehind s.profile.threads mark → Leads s all (act ∷ acts) (stage (act ∷ []) itself ∷ stages) so.p so_far → marks + 1 ≡ length left + 1
      → records_in out' ≡ records_in out ++ mark ∷ [] → room_of out' ≡ room_of out → BeforeActs region s all left acts stages marks team so_far out'
  mark_begins {marks = marks} {out'} mark act steps at behind leads few pushed size =
      let after = with_records so.p (mark ∷ []) in
      record {
        p = after;
        team_at = team_at_records (mark ∷ []) so.team_at;
        marked = subst (AreMarked s (so.p.records ++ mark ∷ [])) (sym pushed) (marked_by mark behind so.written);
        room = room_after_mark s left marks team.threads.items out out' so.p mark pushed size
            (subst (λ m. HasRoom s left m team.threads.items out so.p) (sym few) so.room);
        leads = record {
          reaches = λ q reaches. leads.reaches q (after, steps so.p, reaches);
          in_phases = λ whole first of q is then. leads.in_phases whole first of q (after, steps so.p, is)
              (at (StandFirst so.p.list whole) (stand_first so.team_at so_far whole so.stand first of), then);
          by_stages = λ q l went. leads.by_stages q l
              (went_both (went_mark s (act ∷ []) (after, steps so.p, refl) refl so.team_at.nobody so.stand) went);
        };
        stand = so.stand;
      }

module _ {region s all n ops rest team so_far out : _} (so : AfterPhases region s all n (ops ∷ rest) team so_far out) where
  -- The first phase begins where the replay stands, without a mark.
  pub first_begins : n ≡ 0 → BeforePhase region s all n ops rest team so_far out
  first_begins is = search (arith, are_none, leads_as, first_phase)

  -- Each later phase begins once its mark is among the records.
  pub other_begins : {out' : Records} → 1 ≤ n → records_in out' ≡ records_in out ++ Record.Phase (n + 1) ∷ [] → room_of out' ≡ room_of out
      → BeforePhase region s all n ops rest team so_far out'
  other_begins some pushed size = mark_begins so (Record.Phase (n + 1)) (MarksPhase (n + 1)) (λ p. refl) (λ So is. is)
      (λ said more spoken. (are_arranged s.profile.threads said spoken).0 (n + 1) more) (leads_as (other_phase s.threads s.keepers n ops rest some)
      (cc (left_stages s.threads s.keepers n (ops ∷ rest) some, left_stages s.threads s.keepers (n + 1) rest (omega arith))) so.leads) (omega arith) pushed size

-- A phase that was done leaves the replay where the phases after it come next.
pub phase_ends : (n : ℕ) {region s all ops rest team team' so_far so_far' out out' : _} (so : BeforePhase region s all n ops rest team so_far out)
    → PhaseDone region s ops rest (length rest + 1) team' out out' so_far so_far' so.p → AfterPhases region s all (n + 1) rest team' so_far' out'
phase_ends n {s = s} {ops = ops} {rest} so did = record {
  p = did.reached;
  team_at = did.team_at;
  written = did.written;
  room = did.room;
  none = λ zero. absurd (omega (arith, zero));
  leads = record {
    reaches = λ q reaches. so.leads.reaches q (reach_both s.profile (phase_acts s.threads ops) (acts_left s.threads s.keepers (n + 1) rest) so.p did.reached q did.reaches reaches);
    in_phases = λ whole first of q is then.
        so.leads.in_phases whole (earlier_both did.went.earlier first) of q
        (reach_both s.profile (phase_acts s.threads ops) (acts_left s.threads s.keepers (n + 1) rest) so.p did.reached q did.reaches is)
        (in_both s.profile (phase_acts s.threads ops) (acts_left s.threads s.keepers (n + 1) rest) so.p did.reached q did.reaches is whole
        (unmarked s.profile (phase_acts s.threads ops) so.p did.reached did.reaches whole (phase_unmarked s.threads ops)) then);
    by_stages = λ q l went. so.leads.by_stages q l (went_both did.went went);
  };
  stand = did.went.stand;
}

-- ---- the close
-- The close begins once its mark is among the records.
pub close_begins : {region s all n team so_far out out' : _} (so : AfterPhases region s all n [] team so_far out)
    → records_in out' ≡ records_in out ++ Record.Close ∷ [] → room_of out' ≡ room_of out → BeforeClose region s all team so_far out'
close_begins {s = s} {n = n} so pushed size = mark_begins so Record.Close MarksClose (λ p. refl) (λ So is. is)
    (λ said more spoken. (are_arranged s.profile.threads said spoken).1 more)
    (leads_as (close_left s.threads s.keepers n) (close_stages s.threads s.keepers n) so.leads) (omega arith) pushed size

-- A close that was done ends the replay: all phases were replayed.
pub close_ends : {region s all team team' so_far so_far' out written : _} (so : BeforeClose region s all team so_far out)
    → CloseDone region s team' written so_far so_far' so.p → HasReplayed region s all so_far' team' written
close_ends {region} {s} {all} {team} {team'} {so_far} {so_far'} {out} {written} so did = record {
  end = did.reached;
  answers = so.leads.reaches did.reached did.reaches;
  went = so.leads.by_stages did.reached so_far' did.went;
  in_phases = λ whole first of. so.leads.in_phases whole (earlier_both did.went.earlier first) of did.reached did.reaches
      (unmarked s.profile (closing_acts s.threads s.keepers) so.p did.reached did.reaches whole (close_unmarked s.threads s.keepers));
  stands = did.team_at;
  written_are = search (arith, are_arranged, did.written_so);
  empty = did.empty;
  low = did.low;
}
