-- The rule of the table: its words are those after one legal list, and what the seats know is the own list of each actor.
use Rattle.std.specs.{Prelude.{◌≡◌, ◌≢◌, ◌⊎◌, ℕ, ◌+◌, ◌≤◌, ◌==◌, max, Bool, true, false, if◌then◌else◌, List, [], ◌∷◌, ◌++◌, bit_and, bit_or}, Int.bit_not}
use Rattle.std.specs.Int.{w64}
use mathlib.Core.Option.{some}
use lib.ListN.{get_elem?}
use Rattle.atomic_table.specs.Table.{State, Me}
use Rattle.pas_profile.specs.{Profiles.IsValid, declared.profile.Profile.Profile}
use Rattle.pas_steps.specs.{Views.{View, epoch_of}, Effects.new_value, Allowed.{Allowed, IsStepOf}, Agreement.Agrees, Lists.{Whole, Legal, part}, Desks.made}
use Rattle.pas_steps.specs.{Desks.triple, declared.step.{Made.Made, Step.Step}}
use Rattle.pas_core.specs.{Orders.{IsOneOrder, steps_by}, WordLists.AreWordsAfter}
use Rattle.pas_shared.specs.declared.{exchange.Change.{Change, TheVariants.{Raise, Set, Clear}}, rule.{Entry.Entry, Part.Part, Roster.Roster}}
use Rattle.pas_shared.specs.declared.rule.{Roster.TheVariants.{Unused, Listed, Settled, Benched}, Row.Row}

-- ---- which actors a seat names
abbrev pub HasPart : List Part → ℕ → View → Type 0
HasPart [] k v = ⊥
HasPart (p ∷ ps) k v = ((p.actor ≡ k) × (p.made ≡ v)) ⊎ HasPart ps k v

-- the steps that entries tell of
abbrev pub steps_of : List Entry → Whole
steps_of [] = []
steps_of (e ∷ es) = triple e.actor e.made ∷ steps_of es

-- the actor is one of these
abbrev pub among : List ℕ → ℕ → Bool
among [] k = false
among (n ∷ ns) k = if n == k then true else among ns k

-- what an actor of the row made: before the row's base, and since
abbrev pub made_in : Row → ℕ → View
made_in r k = part k (steps_of r.made ++ steps_of r.base)

abbrev pub SitsIn : Row → ℕ → View → Type 0
SitsIn r k v = (among r.actors k ≡ true) × (made_in r k ≡ v)

abbrev pub HasRow : List Row → ℕ → View → Type 0
HasRow [] k v = ⊥
HasRow (r ∷ rs) k v = SitsIn r k v ⊎ HasRow rs k v

-- the seat names the actor, with these steps
abbrev pub Names : Roster → ℕ → View → Type 0
Names (Unused n) k v = (n ≤ k) × (v ≡ [])
Names (Listed ps) k v = HasPart ps k v
Names (Settled es ps) k v = HasPart ps k v
Names (Benched rs) k v = HasRow rs k v

-- just this actor
abbrev pub alone : ℕ → View → Roster
alone k v = Listed (record { actor = k; made = v } ∷ [])

-- the first of the actors that made no step, and the others
abbrev pub first_alone : Roster → Roster
first_alone (Unused n) = alone n []
first_alone (Listed ps) = Listed []
first_alone (Settled es ps) = Listed []
first_alone (Benched rs) = Listed []

abbrev pub all_but_first : Roster → Roster
all_but_first (Unused n) = Unused (n + 1)
all_but_first (Listed ps) = Listed ps
all_but_first (Settled es ps) = Settled es ps
all_but_first (Benched rs) = Benched rs

-- one actor's steps, as entries
abbrev pub entries_by : ℕ → View → List Entry
entries_by k [] = []
entries_by k (m ∷ v) = record { actor = k; made = m } ∷ entries_by k v

-- a row for each actor, which sits alone in it
abbrev pub rows_of : List Part → List Row
rows_of [] = []
rows_of (p ∷ ps) = record { actors = p.actor ∷ []; made = entries_by p.actor p.made; base = [] } ∷ rows_of ps

-- the steps so far at the last look of each row's bench
abbrev pub bases_in : List Row → List (List Entry)
bases_in [] = []
bases_in (r ∷ rs) = r.base ∷ bases_in rs

-- The actors of both, where both are lists, or the first is a bench. Of those whom nobody joins one side is enough. What ledgers' seats saw stays, and a ledger's seat
-- that a bench joins saw what the bench did
abbrev pub joined : Roster → Roster → Roster
joined (Listed ps) (Listed qs) = Listed (qs ++ ps)
joined (Listed ps) (Unused n) = Listed ps
joined (Listed ps) (Settled es qs) = Listed (qs ++ ps)
joined (Settled es ps) (Listed qs) = Settled es (qs ++ ps)
joined (Settled es ps) (Unused n) = Settled es ps
joined (Settled es ps) (Settled ds qs) = Settled (es ++ ds) (qs ++ ps)
joined (Listed ps) (Benched qs) = Listed ps
joined (Settled es ps) (Benched qs) = Settled (es ++ bases_in qs) ps
joined (Benched rs) (Listed ps) = Benched (rows_of ps ++ rs)
joined (Benched rs) (Benched qs) = Benched (qs ++ rs)
joined (Benched rs) (Unused n) = Benched rs
joined (Benched rs) (Settled es ps) = Benched rs
joined (Unused n) u = u

-- all actors of a ledger's seat but the one that it took in last, and that one
abbrev pub all_but_last : Roster → Roster
all_but_last (Unused n) = Unused n
all_but_last (Listed ps) = Listed ps
all_but_last (Settled es []) = Settled es []
all_but_last (Settled es (p ∷ ps)) = Settled es ps
all_but_last (Benched rs) = Benched rs

abbrev pub last_alone : Roster → Roster
last_alone (Unused n) = Listed []
last_alone (Listed ps) = Listed []
last_alone (Settled es []) = Listed []
last_alone (Settled es (p ∷ ps)) = Listed (p ∷ [])
last_alone (Benched rs) = Listed []

abbrev pub parts_in : Roster → List Part
parts_in (Unused n) = []
parts_in (Listed ps) = ps
parts_in (Settled es ps) = ps
parts_in (Benched rs) = []

-- what it saw at each of its looks
abbrev pub looks_in : Roster → List (List Entry)
looks_in (Unused n) = []
looks_in (Listed ps) = []
looks_in (Settled es ps) = es
looks_in (Benched rs) = []

abbrev pub first_look : List (List Entry) → Whole
first_look [] = []
first_look (es ∷ looks) = steps_of es

abbrev pub seen_in : Roster → Whole
seen_in u = first_look (looks_in u)

-- the steps and the number of the first actor in the list
abbrev pub view_in : Roster → View
view_in (Unused n) = []
view_in (Listed []) = []
view_in (Listed (p ∷ ps)) = p.made
view_in (Settled es ps) = []
view_in (Benched rs) = []

-- the first of the actors that a roster lists, and 0 where it lists none
abbrev pub actor_in : Roster → ℕ
actor_in (Unused n) = 0
actor_in (Listed []) = 0
actor_in (Listed (p ∷ ps)) = p.actor
actor_in (Settled es ps) = 0
actor_in (Benched rs) = 0

-- a seat that names no actor and saw no step
abbrev pub SawNothing : Me (Unit {0}) Roster → Type 0
SawNothing me = me ≡ (Settled [] [], [])

-- ---- benches
abbrev pub rows_in : Roster → List Row
rows_in (Unused n) = []
rows_in (Listed ps) = []
rows_in (Settled es ps) = []
rows_in (Benched rs) = rs

-- the seat is no bench
abbrev pub IsNoBench : Roster → Type 0
IsNoBench (Unused n) = Unit {0}
IsNoBench (Listed ps) = Unit {0}
IsNoBench (Settled es ps) = Unit {0}
IsNoBench (Benched rs) = ⊥

-- the actors that a test picks, and the others
abbrev pub only : (ℕ → Bool) → List ℕ → List ℕ
only test [] = []
only test (n ∷ ns) = if test n then n ∷ only test ns else only test ns

abbrev pub isnt : (ℕ → Bool) → ℕ → Bool
isnt test n = if test n then false else true

-- the row with these of its actors alone
abbrev pub row_of_only : (ℕ → Bool) → Row → Row
row_of_only test r = record { actors = only test r.actors; made = r.made; base = r.base }

abbrev pub rows_of_only : (ℕ → Bool) → List Row → List Row
rows_of_only test [] = []
rows_of_only test (r ∷ rs) = row_of_only test r ∷ rows_of_only test rs

-- the bench without the picked ones, and theirs
abbrev pub left_of : (ℕ → Bool) → Roster → Roster
left_of test u = Benched (rows_of_only (isnt test) (rows_in u))

abbrev pub picked_of : (ℕ → Bool) → Roster → Roster
picked_of test u = Benched (rows_of_only test (rows_in u))

-- one actor alone, and a seat for it, with what it made
abbrev pub only_this : ℕ → ℕ → Bool
only_this k n = n == k

abbrev pub made_at : List Row → ℕ → View
made_at [] k = []
made_at (r ∷ rs) k = made_in r k

abbrev pub leaver_of : ℕ → Roster → Roster
leaver_of k u = alone k (made_at (rows_in u) k)

-- the actors of all rows
abbrev pub all_actors : List Row → List ℕ
all_actors [] = []
all_actors (r ∷ rs) = r.actors ++ all_actors rs

-- a bench with one row, in which nobody sits
abbrev pub IsEmptyBench : Me (Unit {0}) Roster → Type 0
IsEmptyBench me = me ≡ (Benched (record { actors = []; made = []; base = [] } ∷ []), [])

-- The list goes on from the row's base, and of the steps since those by the row's actors are the ones that it names, in their order
pub record IsRowOf (r : Row) (l : Whole) : Type 0 where
  pub since : Whole
  pub goes_on : l ≡ since ++ steps_of r.base
  pub made_is : steps_by (among r.actors) since ≡ steps_of r.made

abbrev pub AreRowsOf : List Row → Whole → Type 0
AreRowsOf [] l = Unit {0}
AreRowsOf (r ∷ rs) l = IsRowOf r l × AreRowsOf rs l

-- ---- the rule
-- each actor that a seat names is named by that seat alone, and with its own list
abbrev pub AreNamed : (ℕ → View) → (ℕ → ℕ) → List Roster → Type 0
AreNamed own seat_number rosters = (i : ℕ) (u : Roster) (k : ℕ) (v : View) → get_elem? rosters i ≡ some u → Names u k v → (seat_number k ≡ i) × (own k ≡ v)

-- these are the first steps of the list, which has its newest step first
abbrev pub IsEarlier : Whole → Whole → Type 0
IsEarlier so_far l = (since : Whole) × (l ≡ since ++ so_far)

-- so are those of each look
abbrev pub AreEarlier : List (List Entry) → Whole → Type 0
AreEarlier [] l = Unit {0}
AreEarlier (es ∷ looks) l = IsEarlier (steps_of es) l × AreEarlier looks l

-- no actor is twice in the list
abbrev pub AreApart : List Part → Type 0
AreApart [] = Unit {0}
AreApart (p ∷ ps) = ((v : View) → HasPart ps p.actor v → ⊥) × AreApart ps

-- this is so of what each seat knows
abbrev pub AllKnow : (Roster → Type 0) → List Roster → Type 0
AllKnow P rosters = (i : ℕ) (u : Roster) → get_elem? rosters i ≡ some u → P u

-- The words are those after one legal list, which is one order of each actor's own list. What a seat saw are the first steps of that list, and what
-- a bench knows of the order of its actors' steps is their order in it.
pub record AreAfterOneList (f : Profile) (words : List ℕ) (rosters : List Roster) : Type 0 where
  pub whole : Whole
  pub legal : Legal f whole
  pub words_are : AreWordsAfter f words whole
  pub own : ℕ → View
  pub one_order : IsOneOrder whole own
  pub seat_number : ℕ → ℕ
  pub named : AreNamed own seat_number rosters
  pub apart : AllKnow (λ u. AreApart (parts_in u)) rosters
  pub seen : AllKnow (λ u. AreEarlier (looks_in u) whole) rosters
  pub rows : AllKnow (λ u. AreRowsOf (rows_in u) whole) rosters

abbrev pub Holds : Profile → State (Unit {0}) Roster → Type 0
Holds f s = AreAfterOneList f s.words s.views

-- ---- a step
-- what is asked of the step of an actor with this view
pub record IsAskedOf (f : Profile) (k : ℕ) (v : View) (step : Step) : Type 0 where
  pub valid : IsValid f
  pub actor : k ≤ f.threads
  pub of_region : IsStepOf f step
  pub allowed : Allowed f v step

-- the actor may make a step at this seat, and made these before: it has the seat for itself, or sits in the one row of a bench
abbrev pub SitsFor : Roster → ℕ → View → Type 0
SitsFor u k v = (u ≡ alone k v) ⊎ ((r : Row) × (u ≡ Benched (r ∷ [])) × SitsIn r k v)

-- the row with one step more
abbrev pub row_with : ℕ → Made → Row → Row
row_with k m r = record { actors = r.actors; made = record { actor = k; made = m } ∷ r.made; base = r.base }

abbrev pub rows_with : ℕ → Made → List Row → List Row
rows_with k m [] = []
rows_with k m (r ∷ rs) = row_with k m r ∷ rs

-- the seat with it
abbrev pub with_made : ℕ → Made → Roster → Roster
with_made k m (Unused n) = Unused n
with_made k m (Listed ps) = alone k (m ∷ view_in (Listed ps))
with_made k m (Settled es ps) = Settled es ps
with_made k m (Benched rs) = Benched (rows_with k m rs)

-- what the step tells: the seat has it, with its answer, which agrees with what the actor made before
abbrev pub IsAdded : Profile → Roster → ℕ → View → Step → ℕ → Me (Unit {0}) Roster → Type 0
IsAdded f u k v step n me = (me ≡ (with_made k (made step n) u, [])) × Agrees f v step n

-- the word after a change
abbrev pub changed : Change → ℕ → ℕ
changed (Raise value) n = max n value
changed (Set mask) n = bit_or n mask
changed (Clear mask) n = bit_and n (bit_not w64 mask)

-- the step changes its word in this way
abbrev pub Makes : View → Step → Change → Type 0
Makes v step change = (n : ℕ) → new_value (epoch_of v) step n ≡ changed change n

-- what a load tells: where the step would leave the word that it found as it is, the load is the step, and otherwise it is no step at all
pub record IsAddedIfKept (f : Profile) (u : Roster) (k : ℕ) (v : View) (step : Step) (n : ℕ) (me : Me (Unit {0}) Roster) : Type 0 where
  pub kept : new_value (epoch_of v) step n ≡ n → IsAdded f u k v step n me
  pub changed : new_value (epoch_of v) step n ≢ n → me ≡ (u, [])

-- ---- a look
-- the steps of each of these actors in the list are the ones named
abbrev pub HasAllOf : List Part → Whole → Type 0
HasAllOf ps l = (k : ℕ) (v : View) → HasPart ps k v → part k l ≡ v

-- What a ledger's look tells: the seat names the actors that it named, and saw all steps so far. Those of each of these actors are all among them, and what it
-- saw before are the first of them.
pub record SeesAll (before after : Me (Unit {0}) Roster) : Type 0 where
  pub entries : List Entry
  pub after_is : after ≡ (Settled (entries ∷ []) (parts_in before.0), [])
  pub earlier : AreEarlier (looks_in before.0) (steps_of entries)
  pub all : HasAllOf (parts_in before.0) (steps_of entries)

-- What a bench's look tells: all its actors sit in one row now, whose base is the list of all steps so far; and each row that was there is one of that list.
pub record SettlesAll (before after : Me (Unit {0}) Roster) : Type 0 where
  pub entries : List Entry
  pub after_is : after ≡ (Benched (record { actors = all_actors (rows_in before.0); made = []; base = entries } ∷ []), [])
  pub rows : AreRowsOf (rows_in before.0) (steps_of entries)
