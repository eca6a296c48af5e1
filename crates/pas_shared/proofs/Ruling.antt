-- The rule of the shared words, step by step and at the close.
use Rattle.std.proofs.Common.{◌==◌, eqb-true, List, [], ◌∷◌, ◌++◌, sym, subst, ◌≡◌, ◌≢◌, ◌⊎◌, inl, inr, ⊎_elim, ℕ, suc, zero, ◌+◌, ◌<◌, ◌≤◌, length, set, Bool}
use Rattle.std.proofs.Common.{true, false, eqb, eq-eqb, ne_eqb, refl, ap, ◌∙◌, arith, if◌then◌else◌, get_or, append-nil, slice_index, slice_set}
use Rattle.std.{proofs.lemmas.{Bool.{cases_eq, false_from_ne_true}, List.{set-get_or, Elements.All-weaker, append_cancel_right}}, specs.List.All}
use Rattle.pas_profile.specs.{Profiles.{IsValid, IsWordOf}, Layouts.{index_of, words_of}, declared.{event.Event.Event, profile.Profile.Profile, word.Word.Word}}
use Rattle.pas_profile.proofs.Places.{index_lt}
use Rattle.pas_machine.specs.Machine.{Run}
use Rattle.pas_steps.specs.{Views.{View, epoch_of}, Effects.{target, new_value}, Desks.{made, triple, triples}, States.{profile_of, word_in}, Lists.Triple}
use Rattle.pas_steps.specs.{Lists.{Whole, Legal, part, visible, word_after}, declared.{step.{Step.Step, Made.Made}, state.State.State}}
use Rattle.pas_steps.proofs.{Parts.{part_of_own, part_of_others}, Running.target_of_region}
use Rattle.pas_core.proofs.{MachineRuns.{runs, agrees, in_one_place, lists_borne}, Offers.{parked_is_owed, empty_is_minded}, Deeds.known_is}
use Rattle.pas_core.proofs.{Choosing.{step_taken, step_passed, steps_by_one}, Lives.{life_is_known, ends_stamped, unstamped_is_held, stamp_known, epoch_known}}
use Rattle.pas_core.proofs.{Rights.{right_in_one_place, free_without_deed, free_known, deeds_known, backed_known}, Nexts.{legal_next, agrees_next}}
use Rattle.pas_core.{proofs.Nexts.{with_step_own, with_step_others, one_order_next, words_next}, specs.{Orders.with_step, WordLists.AreWordsAfter}}
use Rattle.pas_shared.specs.{Kept.{IsGood, NoneIsEarly}, Left.IsLeftBy, Pasts.{HasOwn, StandsAfter}, declared.{exchange.Change.Change, rule.Entry.Entry}}
use Rattle.pas_shared.specs.declared.{rule.{Part.Part, Roster.{Roster, TheVariants.{Unused, Listed, Settled, Benched}}, Row.Row}, pass.SharedPass.SharedPass}
use Rattle.pas_shared.specs.Ruled.{HasPart, Names, alone, first_alone, all_but_first, joined, AreNamed, AreAfterOneList, Holds, changed, IsAskedOf, IsAdded}
use Rattle.pas_shared.specs.Ruled.{Makes, IsAddedIfKept, parts_in, looks_in, first_look, steps_of, seen_in, SawNothing, IsEarlier, AreEarlier, AreApart}
use Rattle.pas_shared.specs.Ruled.{AllKnow, SeesAll, among, made_in, SitsIn, HasRow, entries_by, rows_of, rows_in, IsNoBench, IsRowOf, AreRowsOf, SitsFor}
use Rattle.pas_shared.specs.{Ruled.{row_with, with_made, bases_in}, Passes.{view_of, seat_of, IsNamed, AreWordsOf}}
use Rattle.atomic_table.specs.{Seated.TableId, Table.{Me, Act, keeps, Valid, stepped, carried_after, Allows, Splits, Joins, Final, Seen, Enters}}
use Rattle.atomic_table.proofs.Lists.{at_set, set_again}
use prog.Atomic.{either}
use mathlib.Core.Option.{some, some-injective, some-ne-none}
use lib.ListN.{get_elem?}

-- ==== Every legal list is good.

-- After every legal list what a region keeps is so.
pub good : (f : Profile) (l : Whole) → IsValid f → Legal f l → IsGood f l
good f l valid legal = record {
  place = in_one_place f l valid legal;
  untouched = free_without_deed f l legal;
  borne = lists_borne f l valid legal;
  right = right_in_one_place f l legal;
  known = search (arith, known_is, deeds_known, backed_known, free_known, life_is_known, stamp_known, epoch_known);
  checked = parked_is_owed f l legal;
  stamped = ends_stamped f l valid legal;
  unstamped = unstamped_is_held f l legal;
  minded = empty_is_minded f l valid legal;
  run = runs f l valid legal;
  agrees = agrees f l valid legal;
}

-- a run's events before some later ones are a run
earlier_run : (f : Profile) (later es : List Event) → Run f (later ++ es) → Run f es
earlier_run f [] es run = run
earlier_run f (e ∷ later) es run = earlier_run f later es run.1

-- In no legal list was a page unbacked before all ends on it were old enough.
pub none_is_early : (f : Profile) (l : Whole) → IsValid f → Legal f l → NoneIsEarly f (visible l)
none_is_early f l valid legal k page epoch later earlier is = (earlier_run f later (Event.Unback k page epoch ∷ earlier) (subst (Run f) is (runs f l valid legal))).0.3

-- ==== A step that the view of the stepping seat allows keeps the rule, and every other seat knows what it knew. So does a split and a join.

-- ---- what the seats know after one more step of actor k, whose seat is id
sits_named : (u : Roster) (k : ℕ) (v : View) → SitsFor u k v → Names u k v
sits_named u k v h = grind arith

view_with : (own : ℕ → View) (k : ℕ) (m : Made) (l : Whole) (b : ℕ) → own b ≡ part b l → with_step k m own b ≡ part b (triple k m ∷ l)
view_with own k m l b is = search (arith, cases_eq, with_step_own, with_step_others, part_of_own, part_of_others)

-- all whom the seat names are at it, with their own lists
abbrev IsNamedAt : (ℕ → View) → (ℕ → ℕ) → ℕ → Roster → Type 0
IsNamedAt own seat_number id u = (b : ℕ) (x : View) → Names u b x → (seat_number b ≡ id) × (own b ≡ x)

named_with : (own : ℕ → View) (seat_number : ℕ → ℕ) (id k : ℕ) (v : View) (m : Made) (u : Roster) → SitsFor u k v → IsNamedAt own seat_number id u
    → IsNamedAt (with_step k m own) seat_number id (with_made k m u)
named_with own seat_number id k v m u (inl is) h = subst (λ (y : Roster). IsNamedAt (with_step k m own) seat_number id (with_made k m y)) (sym is) now
  where
    -- Each actor of the row sits at this bench, with the steps that the row has of it.
    its : (seat_number k ≡ id) × (own k ≡ v)
    its = h k v (sits_named u k v (inl is))

    -- The step of one that sits alone is named at its seat.
    now : IsNamedAt (with_step k m own) seat_number id (alone k (m ∷ v))
    now b x (inl p) = (ap seat_number (sym p.0) ∙ its.0, subst (λ (c : ℕ). with_step k m own c ≡ x) p.0 (with_step_own k m own ∙ (ap (λ (y : View). m ∷ y) its.1 ∙ p.1)))
    now b x (inr p) = absurd p
named_with own seat_number id k v m u (inr (r, is, sits)) h =
    subst (λ (y : Roster). IsNamedAt (with_step k m own) seat_number id (with_made k m y)) (sym is) now where
      its : (b : ℕ) → among r.actors b ≡ true → (seat_number b ≡ id) × (own b ≡ made_in r b)
      its b sits = h b (made_in r b) (subst (λ (y : Roster). Names y b (made_in r b)) (sym is) (inl (sits, refl)))

      -- The step of one at a bench is named at its seat.
      now : IsNamedAt (with_step k m own) seat_number id (Benched (row_with k m r ∷ []))
      now b x (inl p) = ((its b p.0).0, view_with own k m (steps_of r.made ++ steps_of r.base) b (its b p.0).1 ∙ p.1)
      now b x (inr p) = absurd p

-- With one more step of an actor each roster still names its own.
grows : (own : ℕ → View) (seat_number : ℕ → ℕ) (rosters : List Roster) (id k : ℕ) (v : View) (m : Made) (u : Roster) → AreNamed own seat_number rosters
    → get_elem? rosters id ≡ some u → SitsFor u k v → AreNamed (with_step k m own) seat_number (set rosters id (with_made k m u))
grows own seat_number rosters id k v m u h at sits i y b x e named = ⊎_elim (λ (t : (i ≡ id) × (with_made k m u ≡ y)). let now =
    named_with own seat_number id k v m u sits (λ c z. h id u c z at) b x (subst (λ (z : Roster). Names z b x) (sym t.1) named) in (now.0 ∙ sym t.0, now.1))
    (λ (t : (i ≢ id) × (get_elem? rosters i ≡ some y)). there t.0 (h i y b x t.1 named))
    (at_set rosters id i (with_made k m u) y e)
  where
    there : i ≢ id → (seat_number b ≡ i) × (own b ≡ x) → (seat_number b ≡ i) × (with_step k m own b ≡ x)
    there ne p = (p.0, with_step_others b k m own (λ z. ne (sym p.0 ∙ (ap seat_number z ∙ (h id u k v at (sits_named u k v sits)).0))) ∙ p.1)

-- ---- what is so of all seats
know_set : (P : Roster → Type 0) (rosters : List Roster) (id : ℕ) (w : Roster) → AllKnow P rosters → P w → AllKnow P (set rosters id w)
know_set P rosters id w all new i u e = ⊎_elim (λ (t : (i ≡ id) × (w ≡ u)). subst P t.1 new) (λ (t : (i ≢ id) × (get_elem? rosters i ≡ some u)). all i u t.1) (at_set rosters id i w u e)

-- .. where it is so anew of all but the one that changed
know_others : (P Q : Roster → Type 0) (rosters : List Roster) (id : ℕ) (w : Roster) → ((i : ℕ) (u : Roster) → i ≢ id → get_elem? rosters i ≡ some u → P u → Q u)
    → AllKnow P rosters → Q w → AllKnow Q (set rosters id w)
know_others P Q rosters id w still all new i u e = ⊎_elim (λ (t : (i ≡ id) × (w ≡ u)). subst Q t.1 new)
    (λ (t : (i ≢ id) × (get_elem? rosters i ≡ some u)). still i u t.0 t.1 (all i u t.1)) (at_set rosters id i w u e)

abbrev pub Apart : Roster → Type 0
Apart u = AreApart (parts_in u)

abbrev pub SawOf : Whole → Roster → Type 0
SawOf l u = AreEarlier (looks_in u) l

-- What saw nothing saw the first steps of each list.
nothing_seen : (l : Whole) → AreEarlier [] l
nothing_seen l = tt

abbrev pub RowsOf : Whole → Roster → Type 0
RowsOf l u = AreRowsOf (rows_in u) l

-- what the rule says of a roster beside whom it names
abbrev pub Fits : Whole → Roster → Type 0
Fits l u = Apart u × SawOf l u × RowsOf l u

-- A seat of one actor that saw nothing fits every list.
alone_fits : (l : Whole) (k : ℕ) (v : View) → Fits l (alone k v)
alone_fits l k v = (((λ x none. none), tt), tt, tt)

-- The rosters of the rule fit its list.
all_fit : {f : Profile} {words : List ℕ} {rosters : List Roster} (h : AreAfterOneList f words rosters) → AllKnow (Fits h.whole) rosters
all_fit h i u e = (h.apart i u e, h.seen i u e, h.rows i u e)

-- The rule goes on with other rosters where words and list stay.
seated : {f : Profile} {words : List ℕ} {rosters : List Roster} (h : AreAfterOneList f words rosters) (now : List Roster) (seat_number : ℕ → ℕ)
    → AreNamed h.own seat_number now → AllKnow (Fits h.whole) now → AreAfterOneList f words now
seated h now seat_number named fit = record {
  whole = h.whole;
  legal = h.legal;
  words_are = h.words_are;
  own = h.own;
  one_order = h.one_order;
  seat_number = seat_number;
  named = named;
  apart = λ i u e. (fit i u e).0;
  seen = λ i u e. (fit i u e).1;
  rows = λ i u e. (fit i u e).2;
}

-- what was seen at the first look
pub first_earlier : (looks : List (List Entry)) (l : Whole) → AreEarlier looks l → IsEarlier (first_look looks) l
first_earlier [] l seen = (l, sym (append-nil l))
first_earlier (es ∷ looks) l seen = seen.0

seen_longer : (looks : List (List Entry)) (l : Whole) (t : Triple) → AreEarlier looks l → AreEarlier looks (t ∷ l)
seen_longer [] l t seen = tt
seen_longer (es ∷ looks) l t seen = ((t ∷ seen.0.0, ap (λ (m : Whole). t ∷ m) seen.0.1), seen_longer looks l t seen.1)

seen_both : (looks more : List (List Entry)) (l : Whole) → AreEarlier looks l → AreEarlier more l → AreEarlier (looks ++ more) l
seen_both [] more l one other = other
seen_both (es ∷ looks) more l one other = (one.0, seen_both looks more l one.1 other)

-- the list as a seat sees it
abbrev pub entries_for : Whole → List Entry
entries_for [] = []
entries_for (t ∷ l) = record { actor = t.actor; made = t.made } ∷ entries_for l

-- The steps of a list's entries are the list.
pub entries_same : (l : Whole) → steps_of (entries_for l) ≡ l
entries_same [] = refl
entries_same (t ∷ l) = ap (λ (m : Whole). t ∷ m) (entries_same l)

-- ---- what benches know after one more step
row_still : (r : Row) (k : ℕ) (m : Made) (l : Whole) → among r.actors k ≡ false → IsRowOf r l → IsRowOf r (triple k m ∷ l)
row_still r k m l other h = record {
  since = triple k m ∷ h.since;
  goes_on = ap (λ (n : Whole). triple k m ∷ n) h.goes_on;
  made_is = step_passed (among r.actors) (triple k m) h.since other ∙ h.made_is;
}

row_grown : (r : Row) (k : ℕ) (m : Made) (l : Whole) → among r.actors k ≡ true → IsRowOf r l → IsRowOf (row_with k m r) (triple k m ∷ l)
row_grown r k m l its h = record {
  since = triple k m ∷ h.since;
  goes_on = ap (λ (n : Whole). triple k m ∷ n) h.goes_on;
  made_is = step_taken (among r.actors) (triple k m) h.since its ∙ ap (λ (n : Whole). triple k m ∷ n) h.made_is;
}

-- of nobody whom they name
rows_still : (rs : List Row) (k : ℕ) (m : Made) (l : Whole) → ((x : View) → HasRow rs k x → ⊥) → AreRowsOf rs l → AreRowsOf rs (triple k m ∷ l)
rows_still [] k m l none h = tt
rows_still (r ∷ rs) k m l none h = (at (among r.actors k) refl, rows_still rs k m l (λ x has. none x (inr has)) h.1)
  where
    at : (b : Bool) → among r.actors k ≡ b → IsRowOf r (triple k m ∷ l)
    at true its = absurd (none (made_in r k) (inl (its, refl)))
    at false other = row_still r k m l other h.0

names_rows : (u : Roster) (k : ℕ) (x : View) → HasRow (rows_in u) k x → Names u k x
names_rows u k x h = search arith

-- A roster with one more step still tells its actors apart.
apart_with : (k : ℕ) (v : View) (m : Made) (u : Roster) → SitsFor u k v → Apart (with_made k m u)
apart_with k v m u h = grind arith

seen_with : (l : Whole) (k : ℕ) (v : View) (m : Made) (u : Roster) → SitsFor u k v → SawOf l (with_made k m u)
seen_with l k v m u h = grind (arith, nothing_seen)

rows_with_step : (l : Whole) (k : ℕ) (v : View) (m : Made) (u : Roster) → SitsFor u k v → RowsOf l u → RowsOf (triple k m ∷ l) (with_made k m u)
rows_with_step l k v m u h i = grind (arith, row_grown)

-- ---- a step
adds : (f : Profile) (slots id k : ℕ) (v : View) (s : Step) (i : ℕ) (g : ℕ → ℕ) (u : Roster) → SitsFor u k v → IsAskedOf f k v s
    → i ≡ index_of f.pages (target s) → ((n : ℕ) → new_value (epoch_of v) s n ≡ g n)
    → Allows (Holds f) slots id (u, []) i g (IsAdded f u k v s)
adds f slots id k v s i g u sits asked at same t h len there fits =
    let n : ℕ = slice_index t.words i in
    let l : Whole = h.whole in
    let here = h.named id u k v there (sits_named u k v sits) in
    let its_part : part k l ≡ v = h.one_order k ∙ here.1 in
    let of_word = target_of_region f v s asked.of_region asked.allowed in
    let found : n ≡ slice_index t.words (index_of f.pages (target s)) = ap (slice_index t.words) at in
    let read : n ≡ word_after l (target s) = found ∙ h.words_are.values (target s) of_word in (
      with_made k (made s n) u,
      keeps,
      tt,
      record {
        whole = triple k (made s n) ∷ l;
        legal = legal_next f l k v s n h.legal asked.actor its_part asked.of_region asked.allowed read;
        words_are = subst (λ (z : ℕ × ℕ). AreWordsAfter f (slice_set t.words z.0 z.1) (triple k (made s n) ∷ l)) (λ j. (sym at j, same n j))
            (words_next f t.words l (epoch_of v) k s n h.words_are of_word found (ap epoch_of (sym its_part)));
        own = with_step k (made s n) h.own;
        one_order = one_order_next l h.own k (made s n) h.one_order;
        seat_number = h.seat_number;
        named = grows h.own h.seat_number t.views id k v (made s n) u h.named there sits;
        apart = know_set Apart t.views id (with_made k (made s n) u) h.apart (apart_with k v (made s n) u sits);
        seen = know_set (SawOf (triple k (made s n) ∷ l)) t.views id (with_made k (made s n) u)
            (λ j y e. seen_longer (looks_in y) l (triple k (made s n)) (h.seen j y e)) (seen_with (triple k (made s n) ∷ l) k v (made s n) u sits);
        rows = know_others (RowsOf l) (RowsOf (triple k (made s n) ∷ l)) t.views id (with_made k (made s n) u)
            (λ j y ne e. rows_still (rows_in y) k (made s n) l (λ x has. ne (sym (h.named j y k x e (names_rows y k x has)).0 ∙ here.0)))
            h.rows (rows_with_step l k v (made s n) u sits (h.rows id u there));
      },
      (refl, agrees_next f l k v s n asked.valid h.legal its_part asked.of_region read),
    )

-- A load of the word is the step where that would leave the word as it is. Otherwise words, views and list stay.
adds_if_kept : (f : Profile) (slots id k : ℕ) (v : View) (s : Step) (i : ℕ) (u : Roster) → SitsFor u k v → IsAskedOf f k v s → i ≡ index_of f.pages (target s)
    → Allows (Holds f) slots id (u, []) i (λ n. n) (IsAddedIfKept f u k v s)
adds_if_kept f slots id k v s i u sits asked at t h len there fits = ⊎_elim kept changed (cases_eq (new_value (epoch_of v) s n) n)
  where
    n : ℕ
    n = slice_index t.words i

    -- What the rule answers to a step with this old value.
    Answer : Type 0
    Answer = (w : Roster) × (a : Act (Unit {0})) × Valid t.homes [] a × Holds f (stepped t i n id [] w a) × IsAddedIfKept f u k v s n (w, carried_after [] a)

    -- A step that leaves the word needs no exchange.
    kept : new_value (epoch_of v) s n ≡ n → Answer
    kept e =
        let added = adds f slots id k v s i (new_value (epoch_of v) s) u sits asked at (λ x. refl) t h len there fits in
        (added.0, added.1, added.2, subst (λ x. Holds f (stepped t i x id [] added.0 added.1)) e added.3, record { kept = λ same. added.4; changed = λ ne. absurd (ne e) })

    -- A step that changes the word makes one exchange.
    changed : new_value (epoch_of v) s n ≢ n → Answer
    changed ne = (
      u,
      keeps,
      tt,
      subst (λ (z : List ℕ × List Roster). AreAfterOneList f z.0 z.1) (λ j. (sym (set-get_or t.words i 0) j, sym (set_again t.views id u there) j)) h,
      record { kept = λ same. absurd (ne same); changed = λ other. refl },
    )

-- ---- a call: what the table asks of it, at a seat and a key that are known by equations
at_call : {f key : Profile} {here there : TableId} {m slots id k : ℕ} {v : View} {i : ℕ} {u : Roster} {me : Me (Unit {0}) Roster} (s : Step) (g : ℕ → ℕ)
    (told : ℕ → Me (Unit {0}) Roster → Type 0)
    → (here ≡ there) × (key ≡ f) × (m ≡ words_of f.pages f.heaps)
    → me ≡ (u, []) → IsAskedOf f k v s → i ≡ index_of f.pages (target s)
    → Allows (Holds f) slots id (u, []) i g told
    → (here ≡ there) × (i < m) × Allows (Holds key) slots id me i g told
at_call {f = f} {m = m} {slots = slots} {id = id} {v = v} {i = i} s g told place seated asked at allows = search (arith, index_lt, target_of_region)

-- for the step that a match has shown to be s
pub may_make : {f key : Profile} {here there : TableId} {m slots id k : ℕ} {v : View} {u : Roster} {chosen step s : Step} {i e : ℕ} {g : ℕ → ℕ}
    {me : Me (Unit {0}) Roster}
    → (here ≡ there) × (key ≡ f) × (m ≡ words_of f.pages f.heaps)
    → (me ≡ (u, [])) × SitsFor u k v × (chosen ≡ step) × IsAskedOf f k v step
    → (i ≡ index_of f.pages (target step)) × (e ≡ epoch_of v)
    → step ≡ s → ((n : ℕ) → new_value e s n ≡ g n)
    → (here ≡ there) × (i < m) × Allows (Holds key) slots id me i g (IsAdded f u k v chosen)
may_make {f = f} {slots = slots} {id = id} {k = k} {v = v} {u = u} {chosen = chosen} {s = s} {i = i} {g = g} place asked at shown new =
    let ok : IsAskedOf f k v s = subst (IsAskedOf f k v) shown asked.3 in
    let at' : i ≡ index_of f.pages (target s) = at.0 ∙ ap (λ x. index_of f.pages (target x)) shown in
    let new' : (n : ℕ) → new_value (epoch_of v) s n ≡ g n = λ n. ap (λ x. new_value x s n) (sym at.1) ∙ new n in
    at_call s g (IsAdded f u k v chosen) place asked.0 ok at' (subst (λ x. Allows (Holds f) slots id (u, []) i g (IsAdded f u k v x)) (sym (asked.2 ∙ shown)) (adds f slots id k v s i g u asked.1 ok at' new'))

-- for a load that is the step only where that would leave the word as it is
pub may_look_first : {f key : Profile} {here there : TableId} {m slots id k : ℕ} {v : View} {u : Roster} {s : Step} {i : ℕ} {me : Me (Unit {0}) Roster}
    → (here ≡ there) × (key ≡ f) × (m ≡ words_of f.pages f.heaps)
    → (me ≡ (u, [])) × SitsFor u k v × IsAskedOf f k v s
    → i ≡ index_of f.pages (target s)
    → (here ≡ there) × (i < m) × Allows (Holds key) slots id me i (λ n. n) (IsAddedIfKept f u k v s)
may_look_first {f = f} {slots = slots} {id = id} {k = k} {v = v} {u = u} {s = s} {i = i} place asked at =
    at_call s (λ n. n) (IsAddedIfKept f u k v s) place asked.0 asked.2 at (adds_if_kept f slots id k v s i u asked.1 asked.2 at)

-- for the exchange after such a load, which found a word that the change alters
pub may_change : {f key : Profile} {here there : TableId} {m slots id k : ℕ} {v : View} {u : Roster} {s : Step} {i n : ℕ} {g : ℕ → ℕ}
    {me : Me (Unit {0}) Roster} (change : Change)
    → (here ≡ there) × (key ≡ f) × (m ≡ words_of f.pages f.heaps)
    → SitsFor u k v × IsAskedOf f k v s → i ≡ index_of f.pages (target s) → Makes v s change
    → IsAddedIfKept f u k v s n me → changed change n ≢ n
    → ((x : ℕ) → changed change x ≡ g x)
    → (here ≡ there) × (i < m) × Allows (Holds key) slots id me i g (IsAdded f u k v s)
may_change {n = n} change place asked at makes looked altered new =
    may_make place (looked.changed (λ same. altered (sym (makes n) ∙ same)), asked.0, refl, asked.1) (at, refl) refl (λ x. makes x ∙ new x)

-- A choice of two values is the same by either name.
pub either_if : (b : Bool) (x y : ℕ) → (if b then x else y) ≡ either b x y
either_if b x y = search arith

-- ---- a split
at_end : {A : Type 0} (l : List A) (a b : A) (j : ℕ) → get_elem? (l ++ a ∷ []) j ≡ some b → (get_elem? l j ≡ some b) ⊎ ((j ≡ length l) × (a ≡ b))
at_end [] a b zero e = inr (refl, some-injective a b e)
at_end [] a b (suc j) e = absurd (some-ne-none b (sym e))
at_end (x ∷ xs) a b zero e = inl e
at_end (x ∷ xs) a b (suc j) e = ⊎_elim inl (λ (t : (j ≡ length xs) × (a ≡ b)). inr (ap suc t.0, t.1)) (at_end xs a b j e)

-- One more roster that is so makes all of them so.
know_end : (P : Roster → Type 0) (rosters : List Roster) (w : Roster) → AllKnow P rosters → P w → AllKnow P (rosters ++ w ∷ [])
know_end P rosters w all new i u e = ⊎_elim (λ was. all i u was) (λ (t : (i ≡ length rosters) × (w ≡ u)). subst P t.1 new) (at_end rosters w u i e)

-- .. of the one whose view is cut in two, and of the new one
know_split : (P : Roster → Type 0) (rosters : List Roster) (id : ℕ) (left right : Roster) → AllKnow P rosters → P left → P right
    → AllKnow P (set rosters id left ++ right ∷ [])
know_split P rosters id left right all one other = know_end P (set rosters id left) right (know_set P rosters id left all one) other

-- The actors of a seat whom a test tells get a new one.
pub split_by : {f : Profile} {words : List ℕ} {rosters : List Roster} (h : AreAfterOneList f words rosters) (id : ℕ) (u stays goes : Roster) (went : ℕ → Bool)
    → get_elem? rosters id ≡ some u
    → ((k : ℕ) (v : View) → Names stays k v → (went k ≡ false) × Names u k v)
    → ((k : ℕ) (v : View) → Names goes k v → (went k ≡ true) × Names u k v)
    → ((k : ℕ) → went k ≡ true → h.seat_number k ≡ id)
    → Fits h.whole stays → Fits h.whole goes → AreAfterOneList f words (set rosters id stays ++ goes ∷ [])
split_by {rosters = rosters} h id u stays goes went there stay go its one other =
    seated h (set rosters id stays ++ goes ∷ []) seat_number all_named (know_split (Fits h.whole) rosters id stays goes (all_fit h) one other)
  where
    k : ℕ
    k = length (set rosters id stays)

    seat_number : ℕ → ℕ
    seat_number b = (if went b then k else h.seat_number b)

    as_was : (b i : ℕ) → went b ≡ false → h.seat_number b ≡ i → seat_number b ≡ i
    as_was b i e is = ap (λ c. if c then k else h.seat_number b) e ∙ is

    -- Who stays sits where it sat, with the same steps.
    kept : (i : ℕ) (y : Roster) (b : ℕ) (x : View) → Names y b x → ((i ≡ id) × (stays ≡ y)) ⊎ ((i ≢ id) × (get_elem? rosters i ≡ some y))
        → (seat_number b ≡ i) × (h.own b ≡ x)
    kept i y b x named (inl t) =
        let p = stay b x (subst (λ (z : Roster). Names z b x) (sym t.1) named) in
        let old = h.named id u b x there p.1 in
        (as_was b i p.0 (old.0 ∙ sym t.0), old.1)
    kept i y b x named (inr t) =
        let old = h.named i y b x t.1 named in
        (as_was b i (false_from_ne_true (went b) (λ e. t.0 (sym old.0 ∙ its b e))) old.0, old.1)

    -- Who goes sits at the new seat, with the same steps.
    new : (i b : ℕ) (x : View) → i ≡ k → Names goes b x → (seat_number b ≡ i) × (h.own b ≡ x)
    new i b x z named = let p = go b x named in (ap (λ c. if c then k else h.seat_number b) p.0 ∙ sym z, (h.named id u b x there p.1).1)

    all_named : AreNamed h.own seat_number (set rosters id stays ++ goes ∷ [])
    all_named i y b x e named = ⊎_elim
        (λ was. kept i y b x named (at_set rosters id i stays y was))
        (λ (t : (i ≡ k) × (goes ≡ y)). new i b x t.0 (subst (λ (z : Roster). Names z b x) (sym t.1) named))
        (at_end (set rosters id stays) goes y i e)

-- One of its actors gets a seat for itself.
pub split_one : {f : Profile} {words : List ℕ} {rosters : List Roster} (h : AreAfterOneList f words rosters) (id : ℕ) (u stays : Roster) (a : ℕ) (w : View)
    → get_elem? rosters id ≡ some u → Names u a w → ((k : ℕ) (v : View) → Names stays k v → (k ≢ a) × Names u k v) → Fits h.whole stays
    → AreAfterOneList f words (set rosters id stays ++ alone a w ∷ [])
split_one h id u stays a w there has stay fit =
    split_by h id u stays (alone a w) (λ k. k == a) there (λ k v named. let p = stay k v named in (ne_eqb k a p.0, p.1)) gone
    (λ k e. (h.named id u k w there (subst (λ j. Names u j w) (sym (eqb-true k a e)) has)).0) fit (alone_fits h.whole a w)
  where
    gone : (k : ℕ) (v : View) → Names (alone a w) k v → ((k == a) ≡ true) × Names u k v
    gone k v (inl q) = (eq-eqb k a (sym q.0), subst (λ (z : ℕ × View). Names u z.0 z.1) (λ i. (q.0 i, q.1 i)) has)
    gone k v (inr q) = absurd q

-- The first of the actors that nobody used may be taken away.
pub splits : (f : Profile) (id n : ℕ) → Splits (Holds f) id (Unused n) (all_but_first (Unused n)) (first_alone (Unused n))
splits f id n s h there =
    split_one h id (Unused n) (Unused (n + 1)) n [] there (omega arith, refl)
    (λ k v (q : (n + 1 ≤ k) × (v ≡ [])). let le = q.0 in ((λ e. omega arith), (omega arith, q.1))) (tt, tt, tt)

-- ---- a join
has_either : (ps qs : List Part) (k : ℕ) (v : View) → HasPart (ps ++ qs) k v → HasPart ps k v ⊎ HasPart qs k v
has_either [] qs k v h = inr h
has_either (p ∷ ps) qs k v (inl h) = inl (inl h)
has_either (p ∷ ps) qs k v (inr h) = ⊎_elim (λ t. inl (inr t)) inr (has_either ps qs k v h)

row_either : (rs qs : List Row) (k : ℕ) (v : View) → HasRow (rs ++ qs) k v → HasRow rs k v ⊎ HasRow qs k v
row_either [] qs k v h = inr h
row_either (r ∷ rs) qs k v (inl h) = inl (inl h)
row_either (r ∷ rs) qs k v (inr h) = ⊎_elim (λ t. inl (inr t)) inr (row_either rs qs k v h)

entries_are : (k : ℕ) (v : View) → steps_of (entries_by k v) ≡ triples k v
entries_are k [] = refl
entries_are k (m ∷ v) = ap (λ (l : Whole). triple k m ∷ l) (entries_are k v)

among_one : (n k : ℕ) → among (n ∷ []) k ≡ true → n ≡ k
among_one n k h = grind (arith, eqb-true)

-- a row of one actor names it alone
row_of_one : (p : Part) (k : ℕ) (v : View) → SitsIn (record { actors = p.actor ∷ []; made = entries_by p.actor p.made; base = [] }) k v
    → (p.actor ≡ k) × (p.made ≡ v)
row_of_one p k v sits = search (arith, among_one, entries_are, part_of_own, append-nil)

rows_of_parts : (ps : List Part) (k : ℕ) (v : View) → HasRow (rows_of ps) k v → HasPart ps k v
rows_of_parts [] k v h = absurd h
rows_of_parts (p ∷ ps) k v (inl h) = inl (row_of_one p k v h)
rows_of_parts (p ∷ ps) k v (inr h) = inr (rows_of_parts ps k v h)

names_either : (u w : Roster) (k : ℕ) (v : View) → Names (joined u w) k v → Names u k v ⊎ Names w k v
names_either u w k v h = grind (arith, has_either, rows_of_parts, row_either)

-- no actor is at both
abbrev AtOne : Roster → Roster → Type 0
AtOne u w = (k : ℕ) (v x : View) → Names u k v → Names w k x → ⊥

apart_both : (qs ps : List Part) → AreApart qs → AreApart ps → ((k : ℕ) (v x : View) → HasPart ps k v → HasPart qs k x → ⊥) → AreApart (qs ++ ps)
apart_both [] ps one other never = other
apart_both (q ∷ qs) ps one other never = (
  (λ v has. ⊎_elim (λ here. one.0 v here) (λ there. never q.actor v q.made there (inl (refl, refl))) (has_either qs ps q.actor v has)),
  apart_both qs ps one.1 other (λ k v x there here. never k v x there (inr here)),
)

apart_joined : (u w : Roster) → Apart u → Apart w → AtOne u w → Apart (joined u w)
apart_joined (Listed ps) (Listed qs) one other never = apart_both qs ps other one never
apart_joined (Listed ps) (Unused n) one other never = one
apart_joined (Listed ps) (Settled es qs) one other never = apart_both qs ps other one never
apart_joined (Settled es ps) (Listed qs) one other never = apart_both qs ps other one never
apart_joined (Settled es ps) (Unused n) one other never = one
apart_joined (Settled es ps) (Settled ds qs) one other never = apart_both qs ps other one never
apart_joined (Listed ps) (Benched qs) one other never = one
apart_joined (Settled es ps) (Benched qs) one other never = one
apart_joined (Benched rs) (Listed ps) one other never = tt
apart_joined (Unused n) (Listed qs) one other never = other
apart_joined (Unused n) (Unused m) one other never = other
apart_joined (Unused n) (Settled es qs) one other never = other
apart_joined _ _ one other never = tt

-- the list goes on from each row's base
bases_earlier : (rs : List Row) (l : Whole) → AreRowsOf rs l → AreEarlier (bases_in rs) l
bases_earlier [] l rows = tt
bases_earlier (r ∷ rs) l rows = ((rows.0.since, rows.0.goes_on), bases_earlier rs l rows.1)

seen_joined : (u w : Roster) (l : Whole) → SawOf l u → SawOf l w → RowsOf l w → SawOf l (joined u w)
seen_joined u w l h i j = grind (arith, seen_both, bases_earlier)

rows_both : (qs rs : List Row) (l : Whole) → AreRowsOf qs l → AreRowsOf rs l → AreRowsOf (qs ++ rs) l
rows_both [] rs l one other = other
rows_both (q ∷ qs) rs l one other = (one.0, rows_both qs rs l one.1 other)

just_one : (n j : ℕ) → among (n ∷ []) j ≡ (j == n)
just_one n j = search (arith, eq-eqb, ne_eqb, cases_eq)

rows_of_theirs : (ps : List Part) (l : Whole) → ((k : ℕ) (v : View) → HasPart ps k v → part k l ≡ v) → AreRowsOf (rows_of ps) l
rows_of_theirs [] l own = tt
rows_of_theirs (p ∷ ps) l own = (
  record {
    since = l;
    goes_on = sym (append-nil l);
    made_is = steps_by_one (among (p.actor ∷ [])) p.actor l (just_one p.actor) ∙ (ap (triples p.actor) (own p.actor p.made (inl (refl, refl))) ∙ sym (entries_are p.actor p.made));
  },
  rows_of_theirs ps l (λ k v has. own k v (inr has)),
)

rows_joined : (u w : Roster) (l : Whole) → RowsOf l u → RowsOf l w → ((k : ℕ) (v : View) → Names w k v → part k l ≡ v) → RowsOf l (joined u w)
rows_joined (Listed ps) (Listed qs) l one other own = tt
rows_joined (Settled es ps) (Listed qs) l one other own = tt
rows_joined (Benched rs) (Listed ps) l one other own = rows_both (rows_of ps) rs l (rows_of_theirs ps l own) one
rows_joined (Benched rs) (Benched qs) l one other own = rows_both qs rs l other one
rows_joined (Benched rs) (Unused n) l one other own = one
rows_joined (Benched rs) (Settled es ps) l one other own = one
rows_joined (Unused n) (Listed qs) l one other own = other
rows_joined (Unused n) (Unused m) l one other own = other
rows_joined (Unused n) (Settled es qs) l one other own = other
rows_joined (Unused n) (Benched qs) l one other own = other
rows_joined _ _ l one other own = tt

-- Two rosters that are joined are one of both, and nothing is left.
pub joins : (f : Profile) (id : ℕ) (u : Roster) (other : ℕ) (w : Roster) → Joins (Holds f) id u other w (joined u w) (Listed [])
joins f id u other w s h here apart there =
    let fit = know_set (Fits h.whole) s.views id (joined u w) (all_fit h) (
      apart_joined u w (h.apart id u here) (h.apart other w theirs) at_one,
      seen_joined u w h.whole (h.seen id u here) (h.seen other w theirs) (h.rows other w theirs),
      rows_joined u w h.whole (h.rows id u here) (h.rows other w theirs) own_part,
    ) in
    seated h (set (set s.views id (joined u w)) other (Listed [])) seat_number all_named (know_set (Fits h.whole) (set s.views id (joined u w)) other (Listed []) fit (tt, tt, tt))
  where
    seat_number : ℕ → ℕ
    seat_number b = (if eqb (h.seat_number b) other then id else h.seat_number b)

    -- The other seat has the roster that is joined to this one.
    theirs : get_elem? s.views other ≡ some w
    theirs = ⊎_elim (λ (t : (other ≡ id) × (joined u w ≡ w)). absurd (apart t.0)) (λ (t : (other ≢ id) × (get_elem? s.views other ≡ some w)). t.1) (at_set s.views id other (joined u w) w there)

    own_part : (k : ℕ) (v : View) → Names w k v → part k h.whole ≡ v
    own_part k v named = h.one_order k ∙ (h.named other w k v theirs named).1

    at_one : AtOne u w
    at_one k v x mine its = apart (sym (h.named other w k x theirs its).0 ∙ (h.named id u k v here mine).0)

    -- Who sat at the other seat sits here afterwards.
    moved : (b : ℕ) → h.seat_number b ≡ other → seat_number b ≡ id
    moved b e = ap (λ c. if c then id else h.seat_number b) (eq-eqb (h.seat_number b) other e)

    as_was : (b i : ℕ) → i ≢ other → h.seat_number b ≡ i → seat_number b ≡ i
    as_was b i ne e = ap (λ c. if c then id else h.seat_number b) (ne_eqb (h.seat_number b) other (λ z. ne (sym e ∙ z))) ∙ e

    -- Who was in either roster sits here, with the same steps.
    both : (i b : ℕ) (x : View) → i ≡ id → Names u b x ⊎ Names w b x → (seat_number b ≡ i) × (h.own b ≡ x)
    both i b x z (inl named) = let old = h.named id u b x here named in (as_was b i (λ e. apart (sym e ∙ z)) (old.0 ∙ sym z), old.1)
    both i b x z (inr named) = let old = h.named other w b x theirs named in (moved b old.0 ∙ sym z, old.1)

    -- Who sat elsewhere sits there still, with the same steps.
    kept : (i : ℕ) (y : Roster) (b : ℕ) (x : View) → i ≢ other → Names y b x → ((i ≡ id) × (joined u w ≡ y)) ⊎ ((i ≢ id) × (get_elem? s.views i ≡ some y))
        → (seat_number b ≡ i) × (h.own b ≡ x)
    kept i y b x ne named (inl t) = both i b x t.0 (names_either u w b x (subst (λ (z : Roster). Names z b x) (sym t.1) named))
    kept i y b x ne named (inr t) = let old = h.named i y b x t.1 named in (as_was b i ne old.0, old.1)

    all_named : AreNamed h.own seat_number (set (set s.views id (joined u w)) other (Listed []))
    all_named i y b x e named = ⊎_elim
        (λ (t : (i ≡ other) × (Listed [] ≡ y)). absurd (subst (λ (z : Roster). Names z b x) (sym t.1) named))
        (λ (t : (i ≢ other) × (get_elem? (set s.views id (joined u w)) i ≡ some y)). kept i y b x t.0 named (at_set s.views id i (joined u w) y t.1))
        (at_set (set s.views id (joined u w)) other i (Listed []) y e)

-- ==== What the seat that took in every pass shows at the end.

has_right : (ps qs : List Part) (k : ℕ) (v : View) → HasPart qs k v → HasPart (ps ++ qs) k v
has_right [] qs k v h = h
has_right (p ∷ ps) qs k v h = inr (has_right ps qs k v h)

-- A roster keeps each actor's part when one more actor joins.
kept : (u : Roster) (n : ℕ) (w : View) (k : ℕ) (v : View) → HasPart (parts_in u) k v → HasPart (parts_in (joined u (alone n w))) k v
kept u n w k v h = grind (arith, has_right)

taken_in : (u : Roster) (n : ℕ) (w : View) → IsNoBench u → HasPart (parts_in (joined u (alone n w))) n w
taken_in u n w list = search arith

-- A roster that is no bench is none with one actor more.
pub no_bench_still : (u : Roster) (n : ℕ) (w : View) → IsNoBench u → IsNoBench (joined u (alone n w))
no_bench_still u n w list = search arith

-- what it saw stays
pub seen_still : (u : Roster) (n : ℕ) (w : View) → seen_in (joined u (alone n w)) ≡ seen_in u
seen_still u n w = search arith

-- one more pass
pub takes_in : (u : Roster) (me : Me (Unit {0}) Roster) (p : SharedPass) (rest : List SharedPass) → IsNoBench u → me ≡ (joined u p.place.seat.me.0, [])
    → All (IsNamed u) rest → All (IsNamed me.0) (p ∷ rest)
takes_in u me p rest list is h = search (arith, taken_in)

-- A part that a roster has is one that it names.
names_shown : (u : Roster) (k : ℕ) (v : View) → HasPart (parts_in u) k v → Names u k v
names_shown u k v h = grind arith

-- what the region was left with shows of each pass
pub ends : (f : Profile) (u : Roster) (state : State) (passes : List SharedPass) → (left : IsLeftBy f u state) → All (IsNamed u) passes
    → (after : AreWordsOf f passes (word_in state)) × IsEarlier (seen_in u) after.whole
ends f u state passes left named = (
  record {
    whole = left.holds.whole;
    legal = left.holds.legal;
    parts = All-weaker (IsNamed u) (λ (p : SharedPass). part (seat_of p).actor left.holds.whole ≡ view_of p) (λ p has. left.holds.one_order p.place.actor
        ∙ (left.holds.named left.seat u p.place.actor (view_of p) left.there (names_shown u _ _ has)).1) passes named;
    words = λ w hw. left.values w hw ∙ left.holds.words_are.values w hw;
  },
  first_earlier (looks_in u) left.holds.whole (left.holds.seen left.seat u left.there),
)

-- the table at the end held the rule
pub left_by : (f key : Profile) (id : ℕ) (u : Roster) (words : List ℕ) (slots : List (Unit {0})) (state : State) → key ≡ f
    → Final (Seen (Holds key) id u) words slots → profile_of state ≡ f → ((w : Word) → IsWordOf f w → word_in state w ≡ slice_index words (index_of f.pages w))
    → IsLeftBy f u state
left_by f key id u words slots state known (s, h, words_are, homes, there) profiled values = search arith

-- An element that is at a place is the one that is read there.
pub read_at : (xs : List ℕ) (i a d : ℕ) → get_elem? xs i ≡ some a → get_or xs i d ≡ a
read_at [] i a d e = absurd (some-ne-none a (sym e))
read_at (x ∷ xs) zero a d e = some-injective x a e
read_at (x ∷ xs) (suc i) a d e = read_at xs i a d e

-- ---- a seat that comes, names nobody and saw nothing
pub enter : {f : Profile} {words : List ℕ} {rosters : List Roster} (h : AreAfterOneList f words rosters) (u : Roster) → ((k : ℕ) (v : View) → Names u k v → ⊥)
    → Fits h.whole u → AreAfterOneList f words (rosters ++ u ∷ [])
enter {rosters = rosters} h u nobody fit = seated h (rosters ++ u ∷ []) h.seat_number named (know_end (Fits h.whole) rosters u (all_fit h) fit)
  where
    named : AreNamed h.own h.seat_number (rosters ++ u ∷ [])
    named j y k v e its = ⊎_elim
        (λ was. h.named j y k v was its)
        (λ (t : (j ≡ length rosters) × (u ≡ y)). absurd (nobody k v (subst (λ (z : Roster). Names z k v) (sym t.1) its)))
        (at_end rosters u y j e)

pub arrives : (f : Profile) (slots i : ℕ) → Enters (Holds f) slots i (λ n w. SawNothing (w, []))
arrives f slots i s h len fits = (Settled [] [], enter h (Settled [] []) (λ k v none. none) (tt, tt, tt), refl)

-- ==== A ledger: it takes actors in, looks at all steps so far, and gives the actors their seats back.

-- ---- all actors of a seat get another
pub splits_all : (f : Profile) (id : ℕ) (u : Roster) → Splits (Holds f) id u (Listed []) u
splits_all f id u s h there =
    split_by h id u (Listed []) u (λ k. h.seat_number k == id) there (λ k v none. absurd none)
    (λ k v its. (eq-eqb (h.seat_number k) id (h.named id u k v there its).0, its)) (λ k e. eqb-true (h.seat_number k) id e) (tt, tt, tt) (all_fit h id u there)

-- ---- the actor that was taken in last gets one
pub splits_last : (f : Profile) (id : ℕ) (es : List (List Entry)) (p : Part) (ps : List Part)
    → Splits (Holds f) id (Settled es (p ∷ ps)) (Settled es ps) (Listed (p ∷ []))
splits_last f id es p ps s h there =
    let apart = h.apart id (Settled es (p ∷ ps)) there in
    split_one h id (Settled es (p ∷ ps)) (Settled es ps) p.actor p.made there (inl (refl, refl))
    (λ k v (has : HasPart ps k v). ((λ e. apart.0 v (subst (λ (c : ℕ). HasPart ps c v) e has)), inr has)) (apart.1, h.seen id (Settled es (p ∷ ps)) there, tt)

-- ---- a look
-- A seat that looks may be another, which names nobody anew.
pub learns : {f : Profile} {words : List ℕ} {rosters : List Roster} (h : AreAfterOneList f words rosters) (i id : ℕ) (now : Roster)
    → ((k : ℕ) (v : View) → Names now k v → (h.seat_number k ≡ id) × (h.own k ≡ v)) → Fits h.whole now
    → AreAfterOneList f (set words i (get_or words i 0)) (set rosters id now)
learns {f = f} {words = words} {rosters = rosters} h i id now its fit =
    rw set-get_or (seated h (set rosters id now) h.seat_number named (know_set (Fits h.whole) rosters id now (all_fit h) fit))
  where
    named : AreNamed h.own h.seat_number (set rosters id now)
    named j u k v e has = ⊎_elim
        (λ (t : (j ≡ id) × (now ≡ u)). let old = its k v (subst (λ (y : Roster). Names y k v) (sym t.1) has) in (old.0 ∙ sym t.0, old.1))
        (λ (t : (j ≢ id) × (get_elem? rosters j ≡ some u)). h.named j u k v t.1 has)
        (at_set rosters id j now u e)

pub looks : (f : Profile) (slots id i : ℕ) (es : List (List Entry)) (ps : List Part)
    → Allows (Holds f) slots id (Settled es ps, []) i (λ n. n) (λ n me. SeesAll (Settled es ps, []) me)
looks f slots id i es ps s h len there fits =
    let same = entries_same h.whole in (
      Settled (entries_for h.whole ∷ []) ps,
      keeps,
      tt,
      learns h i id (Settled (entries_for h.whole ∷ []) ps) (λ k v has. h.named id (Settled es ps) k v there has) (h.apart id (Settled es ps) there, (([], sym same), tt), tt),
      record {
        entries = entries_for h.whole;
        after_is = refl;
        earlier = subst (λ (l : Whole). AreEarlier es l) (sym same) (h.seen id (Settled es ps) there);
        all = λ k v has. ap (λ (l : Whole). part k l) same ∙ (h.one_order k ∙ (h.named id (Settled es ps) k v there has).1);
      },
    )

-- Two pasts that become one, and what stands behind a past.
-- ---- two pasts
earlier_left : (looks more : List (List Entry)) (l : Whole) → AreEarlier (looks ++ more) l → AreEarlier looks l
earlier_left [] more l seen = tt
earlier_left (es ∷ looks) more l seen = (seen.0, earlier_left looks more l seen.1)

earlier_right : (looks more : List (List Entry)) (l : Whole) → AreEarlier (looks ++ more) l → AreEarlier more l
earlier_right [] more l seen = seen
earlier_right (es ∷ looks) more l seen = earlier_right looks more l seen.1

-- what each of two ledgers' seats saw is behind the look of the one that took the other in
pub both_earlier : (one other both : Me (Unit {0}) Roster) (l : Whole) → one ≡ (Settled (looks_in one.0) (parts_in one.0), [])
    → other ≡ (Settled (looks_in other.0) (parts_in other.0), [])
    → both.0 ≡ joined one.0 other.0 → AreEarlier (looks_in both.0) l → IsEarlier (seen_in one.0) l × IsEarlier (seen_in other.0) l
both_earlier one other both l one_is other_is new seen = search (arith, first_earlier, earlier_left, earlier_right)

-- ---- what stands behind a past
one_more : (b : Bool) (m : Made) (v w x : View) → x ≡ v ++ w → (if b then m ∷ x else x) ≡ (if b then m ∷ v else v) ++ w
one_more b m v w x is = search arith

-- An actor's part of two lists together is that of both, one after the other.
pub part_both : (k : ℕ) (l m : Whole) → part k (l ++ m) ≡ part k l ++ part k m
part_both k [] m = refl
part_both k (t ∷ l) m = one_more (t.actor == k) t.made (part k l) (part k m) (part k (l ++ m)) (part_both k l m)

-- A list that goes on from a past, and has of an actor what it made since, stands after that past.
pub stands_after : (first whole : Whole) (k : ℕ) (v since : View) → IsEarlier first whole → HasOwn k v first → part k whole ≡ since ++ v
    → StandsAfter first k since whole
stands_after first whole k v since earlier own now = search (arith, append_cancel_right, part_both)
