-- The records of a piece are of its actor, and each can be shown, in whatever order they are written.
use Rattle.std.proofs.Common.{[], ◌≡◌, ◌≢◌, ℕ, ◌==◌, Bool, true, ◌||◌, if◌then◌else◌, List, ◌∷◌, ◌++◌, reverse, Option, refl, ap, sym, ◌∙◌, subst, map, eq-eqb}
use Rattle.std.proofs.{Common.{ne_eqb, arith, zero, suc, ◌+◌, All}, lemmas.List.Elements.{All-nil, All-push, All-append}}
use Rattle.pas_answers.proofs.Common.{AllByRecursion, Event, Outcome, Block, Profile, Guard, all_both, all_map, events_by, View, Made, Record, Said, CanShow}
use Rattle.pas_answers.proofs.Common.{AreOfRegion, record_of, records_of, said_by, said_of_guard, Tried, IsTried, Way, arranged, Request, SweptOne, Swept}
use Rattle.pas_answers.{proofs.EachAct.{all_of, all_any}, specs.{PassRecords.records_of_pass, Ways.{is_of, AreSpoken, EachOf, records_by, by_actors}}}
use Rattle.pas_answers.specs.Ways.{by_phases}
use Rattle.pas_profile.proofs.Lists.{all_reverse}
use Rattle.pas_guard.specs.Sweeps.{is_over}
use Rattle.pas_steps.{specs.Events.actor_of, proofs.Events.events_own}
use Rattle.pas_records.proofs.Showable.{steps_showable}

-- ---- what is so of each record of a piece, by its events and by what is said
-- What is so of each event is so of the records of those events.
piece_events : (P : Record → Type 0) (es : List Event) → AllByRecursion (λ e. P (Record.Event e)) es → AllByRecursion P (records_of es)
piece_events P es all = all_of P (λ e. P (Record.Event e)) Record.Event (reverse es) (λ e is. is) (all_reverse (λ e. P (Record.Event e)) es all)

-- What is so of each event of a piece and of all that its actor says is so of each of its records.
piece_all : (P : Record → Type 0) (k : ℕ) (es : List Event) (said : Option Said) → AllByRecursion (λ e. P (Record.Event e)) es
    → ((s : Said) → P (Record.Said k s)) → AllByRecursion P (records_of es ++ said_by k said)
piece_all P k es said all says = search (arith, all_both, piece_events)

-- What is so of the record of each page's outcome is so of all those of a pass.
outcomes_all : (P : Record → Type 0) (k epoch : ℕ) (found : List (ℕ × Outcome)) → ((page : ℕ) (o : Outcome) → P (record_of k epoch page o))
    → AllByRecursion P (map (λ p. record_of k epoch p.0 p.1) found)
outcomes_all P k epoch found all = all_of P (λ x. Unit {0}) (λ p. record_of k epoch p.0 p.1) found (λ x any. all x.0 x.1) (all_any found)

-- ---- each is of actor j
abbrev IsOf : ℕ → Record → Type 0
IsOf j r = (k : ℕ) → is_of k r ≡ (j == k)

events_are : (j : ℕ) (v : View) (steps : List Made) → AllByRecursion (λ e. IsOf j (Record.Event e)) (events_by j v steps)
events_are j v steps = all_map (λ e. actor_of e ≡ j) (λ e. IsOf j (Record.Event e)) (events_by j v steps) (λ e own k. ap (λ i. i == k) own) (events_own j v steps)

-- Two lists of records of one actor are of it together.
pub each_both : (j : ℕ) (xs ys : List Record) → EachOf j xs → EachOf j ys → EachOf j (xs ++ ys)
each_both j xs ys a b = all_both (IsOf j) xs ys a b

-- The events that an actor's steps make are its own records.
pub events_of_piece : (j : ℕ) (v : View) (steps : List Made) → EachOf j (records_of (events_by j v steps))
events_of_piece j v steps = piece_events (IsOf j) (events_by j v steps) (events_are j v steps)

-- The events of an actor's steps, with what it says besides, are its own records.
pub piece_of : (j : ℕ) (v : View) (steps : List Made) (said : Option Said) → EachOf j (records_of (events_by j v steps) ++ said_by j said)
piece_of j v steps said = piece_all (IsOf j) j (events_by j v steps) said (events_are j v steps) (λ s k. refl)

-- by cases
outcome_of : (j epoch page : ℕ) (o : Outcome) → IsOf j (record_of j epoch page o)
outcome_of j epoch page o k = search arith

-- The records of a pass are those of the actor that makes it.
pub pass_of : (j epoch : ℕ) (found : List (ℕ × Outcome)) → EachOf j (records_of_pass j epoch found)
pass_of j epoch found = (λ k. refl, outcomes_all (IsOf j) j epoch found (outcome_of j epoch))

-- ---- none of them is a mark
pub spoken_piece : (j : ℕ) (rs : List Record) → EachOf j rs → AreSpoken rs
spoken_piece j [] all = tt
spoken_piece j (r ∷ rs) all = ((j, all.0 j ∙ eq-eqb j j refl), spoken_piece j rs all.1)

-- Two lists of records without marks have none together.
pub spoken_both : (xs ys : List Record) → AreSpoken xs → AreSpoken ys → AreSpoken (xs ++ ys)
spoken_both xs ys a b = all_both (λ r. (j : ℕ) × (is_of j r ≡ true)) xs ys a b

-- ---- those of one actor
both_by : (t : Bool) (r : Record) (xs ys zs : List Record) → zs ≡ xs ++ ys → (if t then r ∷ zs else zs) ≡ (if t then r ∷ xs else xs) ++ ys
both_by t r xs ys zs is = search arith

-- An actor's records among two lists are those of both, one after the other.
pub records_both : (k : ℕ) (xs ys : List Record) → records_by k (xs ++ ys) ≡ records_by k xs ++ records_by k ys
records_both k [] ys = refl
records_both k (x ∷ xs) ys = both_by (is_of k x) x (records_by k xs) (records_by k ys) (records_by k (xs ++ ys)) (records_both k xs ys)

-- the records of an actor are all of its own
pub all_by : (j : ℕ) (rs : List Record) → EachOf j rs → records_by j rs ≡ rs
all_by j [] all = refl
all_by j (r ∷ rs) all = ap (λ (t : Bool). if t then r ∷ records_by j rs else records_by j rs) (all.0 j ∙ eq-eqb j j refl) ∙ ap (λ (xs : List Record). r ∷ xs) (all_by j rs all.1)

-- .. and none is another's
pub none_by : (k j : ℕ) (rs : List Record) → EachOf j rs → j ≢ k → records_by k rs ≡ []
none_by k j [] all other = refl
none_by k j (r ∷ rs) all other = ap (λ (t : Bool). if t then r ∷ records_by k rs else records_by k rs) (all.0 k ∙ ne_eqb j k other) ∙ none_by k j rs all.1 other

-- ---- what a keeper says
-- is so where it is so of all that it says and of its events
module _ (P : Record → Type 0) (k : ℕ) (says : (s : Said) → P (Record.Said k s)) where
  -- by cases
  lowered_all : (down : Bool) (guard : Guard) (first : List Made) (kept after : List Guard) (said more : List Record)
      → SweptOne down k guard first kept after said more → AllByRecursion P more → AllByRecursion P said
  lowered_all down guard first kept after said more is rest = search arith

  -- The lines of a sweep.
  pub swept_all : (all : Bool) (guards kept : List Guard) (said : List Record) (steps : List Made) → Swept all k guards kept said steps → AllByRecursion P said
  swept_all all [] kept said steps is = subst (AllByRecursion P) (sym is.1) tt
  swept_all all (guard ∷ guards) kept said steps is = lowered_all (all || is_over guard is.0) guard is.1 kept is.3 said is.4 is.5
      (swept_all all guards is.3 is.4 is.2 is.6)

  -- by cases
  guard_all : (name n : ℕ) (block : Option Block) → AllByRecursion P (said_of_guard k name n block)
  guard_all name n block = search arith

  -- The records of a try.
  pub try_all : (f : Profile) (r : Request) (v : View) (guards : List Guard) (t : Tried) (is : IsTried f k r v guards t)
      → AllByRecursion P (records_of (events_by k (is.swept ++ v) is.raised)) → AllByRecursion P t.records
  try_all f r v guards t is events = search (arith, all_both, swept_all, guard_all)

-- The lines of a sweep are records of its keeper.
pub swept_each : (all : Bool) (k : ℕ) (guards kept : List Guard) (said : List Record) (steps : List Made) → Swept all k guards kept said steps → EachOf k said
swept_each all k = swept_all (IsOf k) k (λ s j. refl) all

-- The records of a keeper's try are its own.
pub try_each : (f : Profile) (keeper : ℕ) (r : Request) (v : View) (guards : List Guard) (t : Tried) → IsTried f keeper r v guards t → EachOf keeper t.records
try_each f keeper r v guards t is = try_all (IsOf keeper) keeper (λ s j. refl) f r v guards t is (events_of_piece keeper (is.swept ++ v) is.raised)

abbrev pub EachShown : List Record → Type 0
EachShown = AllByRecursion CanShow

-- Two lists of records that can be shown can be shown together.
pub shown_both : (xs ys : List Record) → EachShown xs → EachShown ys → EachShown (xs ++ ys)
shown_both xs ys a b = all_both CanShow xs ys a b

-- by cases
one_by : (t : Bool) (r : Record) (rs : List Record) → CanShow r → EachShown rs → EachShown (if t then r ∷ rs else rs)
one_by t r rs one rest = search arith

-- .. and so it is where they stand actor by actor
each_by : (k : ℕ) (rs : List Record) → EachShown rs → EachShown (records_by k rs)
each_by k [] all = tt
each_by k (r ∷ rs) all = one_by (is_of k r) r (records_by k rs) all.0 (each_by k rs all.1)

each_actors : (k n : ℕ) (rs : List Record) → EachShown rs → EachShown (by_actors k n rs)
each_actors k zero rs all = tt
each_actors k (suc n) rs all = shown_both (records_by k rs) (by_actors (k + 1) n rs) (each_by k rs all) (each_actors (k + 1) n rs all)

each_phases : (threads : ℕ) (since rs : List Record) → EachShown since → EachShown rs → EachShown (by_phases threads since rs)
each_phases threads since [] a b = each_actors 0 (threads + 1) since a
each_phases threads since (Record.Phase n ∷ rs) a b = let rest = each_phases threads [] rs tt b.1 in search (arith, rest, shown_both, each_actors)
each_phases threads since (Record.Close ∷ rs) a b = shown_both (by_actors 0 (threads + 1) since) (Record.Close ∷ by_phases threads [] rs) (each_actors 0 (threads + 1) since a) (tt, each_phases threads [] rs tt b.1)
each_phases threads since (Record.Event e ∷ rs) a b = each_phases threads (since ++ Record.Event e ∷ []) rs (shown_both since (Record.Event e ∷ []) a (b.0, tt)) b.1
each_phases threads since (Record.Said k said ∷ rs) a b = each_phases threads (since ++ Record.Said k said ∷ []) rs (shown_both since (Record.Said k said ∷ []) a (b.0, tt)) b.1

-- Records that can be shown can be shown in the order in which they are written, too.
pub each_arranged : (way : Way) (threads : ℕ) (rs : List Record) → EachShown rs → EachShown (arranged way threads rs)
each_arranged way threads rs all = search (arith, each_phases)

-- ---- the records of a piece, and those of a pass
pub records_shown : (f : Profile) (k : ℕ) (steps : List Made) (v : View) → AreOfRegion f steps → EachShown (records_of (events_by k v steps))
records_shown f k steps v of = piece_events CanShow (events_by k v steps) (steps_showable f k steps v of)

-- The records of a piece can be shown, where its steps are of the region.
pub piece_shown : (f : Profile) (k : ℕ) (steps : List Made) (said : Option Said) (v : View) → AreOfRegion f steps
    → EachShown (records_of (events_by k v steps) ++ said_by k said)
piece_shown f k steps said v of = piece_all CanShow k (events_by k v steps) said (steps_showable f k steps v of) (λ s. tt)

-- by cases
outcome_shown : (k epoch page : ℕ) (outcome : Outcome) → CanShow (record_of k epoch page outcome)
outcome_shown k epoch page outcome = search arith

-- The records of a pass can be shown.
pub pass_shown : (k epoch : ℕ) (found : List (ℕ × Outcome)) → EachShown (records_of_pass k epoch found)
pass_shown k epoch found = (tt, outcomes_all CanShow k epoch found (outcome_shown k epoch))

-- ---- all records
pub all_shown : (rs : List Record) → EachShown rs → All CanShow rs
all_shown [] all = All-nil CanShow
all_shown (r ∷ rs) all = All-append CanShow (r ∷ []) rs (All-push CanShow [] r (All-nil CanShow) all.0) (all_shown rs all.1)
