-- The two ways in which a plan is replayed: in the order of the text, or with each thread's operations in a thread of their own. What answers the
-- plan is the same in both. They differ in the order of the records in the text, and in what is known of the order of the steps.
use Rattle.std.specs.{Prelude.{ℕ, zero, suc, ◌+◌, ◌≡◌, ◌==◌, Bool, true, false, if◌then◌else◌, List, [], ◌∷◌, ◌++◌}, List.AllByRecursion}
use Rattle.pas_profile.specs.declared.event.Event.{Event}
use Rattle.pas_steps.specs.{Lists.{Whole, part}, Events.actor_of}
use Rattle.pas_records.specs.declared.record.Record.{Record}

pub data Way : Type 0 where
  InOrder : Way
  OnThreads : Way

-- ---- the order of the steps
-- The list of the steps as they were made has of each actor the same part as the list of the pieces in the order of the acts. In the order of the
-- text it is that list.
abbrev pub IsOneOrder : Way → Whole → Whole → Type 0
IsOneOrder InOrder told whole = whole ≡ told
IsOneOrder OnThreads told whole = (k : ℕ) → part k whole ≡ part k told

-- ---- the order of the records
abbrev pub is_event_of : ℕ → Event → Bool
is_event_of k e = actor_of e == k

-- it is of actor k; a mark is of nobody
abbrev pub is_of : ℕ → Record → Bool
is_of k (Record.Event e) = is_event_of k e
is_of k (Record.Said j said) = j == k
is_of k (Record.Phase n) = false
is_of k Record.Close = false

-- none of these is a mark
abbrev pub AreSpoken : List Record → Type 0
AreSpoken = AllByRecursion (λ r. (j : ℕ) × (is_of j r ≡ true))

-- each of these records is of actor j, and none is a mark
abbrev pub EachOf : ℕ → List Record → Type 0
EachOf j = AllByRecursion (λ r. (k : ℕ) → is_of k r ≡ (j == k))

-- the records of actor k among these
abbrev pub records_by : ℕ → List Record → List Record
records_by k [] = []
records_by k (r ∷ rs) = if is_of k r then r ∷ records_by k rs else records_by k rs

-- .. of so many actors from actor k on, actor by actor
abbrev pub by_actors : ℕ → ℕ → List Record → List Record
by_actors k zero rs = []
by_actors k (suc n) rs = records_by k rs ++ by_actors (k + 1) n rs

-- The marks stay where they are, and those between two marks stand actor by actor, from actor 0 to the last thread. `since` has those since the
-- last mark.
abbrev pub by_phases : ℕ → List Record → List Record → List Record
by_phases threads since [] = by_actors 0 (threads + 1) since
by_phases threads since (Record.Phase n ∷ rs) = by_actors 0 (threads + 1) since ++ Record.Phase n ∷ by_phases threads [] rs
by_phases threads since (Record.Close ∷ rs) = by_actors 0 (threads + 1) since ++ Record.Close ∷ by_phases threads [] rs
by_phases threads since (Record.Event e ∷ rs) = by_phases threads (since ++ Record.Event e ∷ []) rs
by_phases threads since (Record.Said k said ∷ rs) = by_phases threads (since ++ Record.Said k said ∷ []) rs

-- the records of pieces that stand in the order of the acts, as they are written
abbrev pub arranged : Way → ℕ → List Record → List Record
arranged InOrder threads rs = rs
arranged OnThreads threads rs = by_phases threads [] rs
