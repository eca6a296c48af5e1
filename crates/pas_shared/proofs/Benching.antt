-- The rule of the shared words when a bench is laid out, looks and gives actors away; and for which lists a desk at a bench stands.
use Rattle.std.proofs.Common.{suc, arith, List, [], ◌∷◌, ◌++◌, sym, subst, ◌≡◌, ◌≢◌, ◌⊎◌, inl, inr, ⊎_elim, ℕ, length, Bool, true, false, true≢false, eqb-true}
use Rattle.std.proofs.{Common.{eq-eqb, refl, ap, ◌∙◌, append-nil, length-append}, lemmas.Bool.false_from_ne_true}
use Rattle.atomic_table.specs.Table.{Me, keeps, Allows, Splits, Enters}
use Rattle.pas_profile.specs.declared.profile.Profile.{Profile}
use Rattle.pas_steps.{specs.{Views.View, Lists.{Triple, Whole, part}, declared.step.Made.Made}, proofs.Parts.part_of_own}
use Rattle.pas_core.{specs.Orders.steps_by, proofs.Choosing.{steps_by_nobody, no_steps_by_fewer, part_of_chosen, as_many_steps, steps_by_both}}
use Rattle.pas_shared.specs.{declared.{bench.Member.Member, rule.{Entry.Entry, Row.Row, Roster.{Roster, TheVariants.Benched}}}, Ruled.{Names, Holds, steps_of}}
use Rattle.pas_shared.specs.Ruled.{among, made_in, HasRow, rows_in, row_with, with_made, only, only_this, leaver_of, alone, isnt, row_of_only, left_of}
use Rattle.pas_shared.specs.{Ruled.{picked_of, all_actors, IsEmptyBench, IsRowOf, AreRowsOf, SettlesAll}, Benches.{empty_row, SitsInRow, StandsOver}}
use Rattle.pas_shared.proofs.Ruling.{part_both, Fits, entries_for, entries_same, enter, learns, split_by, split_one}

-- ---- a bench on which nobody sits
empty_row_of : (l : Whole) → IsRowOf empty_row l
empty_row_of l = record { since = l; goes_on = sym (append-nil l); made_is = steps_by_nobody (among []) l (λ k. refl) }

nobody_there : (k : ℕ) (v : View) → HasRow (empty_row ∷ []) k v → ⊥
nobody_there k v given = search (arith, true≢false)

-- A bench that enters a region has no row.
pub lays_out : (f : Profile) (slots i : ℕ) → Enters (Holds f) slots i (λ n w. IsEmptyBench (w, []))
lays_out f slots i s h len fits = (Benched (empty_row ∷ []), enter h (Benched (empty_row ∷ [])) nobody_there (tt, tt, (empty_row_of h.whole, tt)), refl)

-- ---- some get a bench of their own
-- those that a test picks
pub among_only : (test : ℕ → Bool) (ns : List ℕ) (k : ℕ) → among (only test ns) k ≡ true → (among ns k ≡ true) × (test k ≡ true)
among_only test [] k h = absurd (true≢false (sym h))
among_only test (n ∷ ns) k h = let again = among_only test ns k in grind (arith, eqb-true, again)

-- An actor that passes a test is among the picked ones.
pub among_picked : (test : ℕ → Bool) (ns : List ℕ) (k : ℕ) → among ns k ≡ true → test k ≡ true → among (only test ns) k ≡ true
among_picked test [] k h its = absurd (true≢false (sym h))
among_picked test (n ∷ ns) k h its = let again = among_picked test ns k in grind (arith, eqb-true, again)

-- Where a test's contrary passes, it fails.
isnt_true : (test : ℕ → Bool) (k : ℕ) → isnt test k ≡ true → test k ≡ false
isnt_true test k h = grind arith

-- a row of fewer actors, none of which made a step
row_of_fewer : (test : ℕ → Bool) (r : Row) (l : Whole) → r.made ≡ [] → IsRowOf r l → IsRowOf (row_of_only test r) l
row_of_fewer test r l none h = search (arith, no_steps_by_fewer, among_only)

-- The row with some of its actors names these, with what they made.
only_names : (test : ℕ → Bool) (r : Row) (k : ℕ) (v : View) → HasRow (row_of_only test r ∷ []) k v
    → (among (only test r.actors) k ≡ true) × (test k ≡ true) × HasRow (r ∷ []) k v
only_names test r k v given = search (arith, among_only)

row_fits : (test : ℕ → Bool) (r : Row) (l : Whole) → r.made ≡ [] → AreRowsOf (r ∷ []) l → Fits l (Benched (row_of_only test r ∷ []))
row_fits test r l none rows = (tt, tt, (row_of_fewer test r l none rows.0, tt))

-- A bench gives the actors that a test chooses a row of their own.
gives : (f : Profile) (id : ℕ) (test : ℕ → Bool) (r : Row) → r.made ≡ []
    → Splits (Holds f) id (Benched (r ∷ [])) (Benched (row_of_only (isnt test) r ∷ [])) (Benched (row_of_only test r ∷ []))
gives f id test r none s h there =
    let rows = h.rows id (Benched (r ∷ [])) there in
    let stay : (k : ℕ) (v : View) → HasRow (row_of_only (isnt test) r ∷ []) k v → (among (only test r.actors) k ≡ false) × HasRow (r ∷ []) k v = search (arith, only_names, false_from_ne_true, true≢false, among_only, isnt_true) in
    split_by h id (Benched (r ∷ [])) (Benched (row_of_only (isnt test) r ∷ [])) (Benched (row_of_only test r ∷ [])) (among (only test r.actors)) there stay
    (λ k v named. let p = only_names test r k v named in (p.0, p.2))
    (λ k e. (h.named id (Benched (r ∷ [])) k (made_in r k) there (inl ((among_only test r.actors k e).0, refl))).0)
    (row_fits (isnt test) r h.whole none rows) (row_fits test r h.whole none rows)

-- ---- one gets a seat for itself
leaves : (f : Profile) (id k : ℕ) (r : Row) → r.made ≡ [] → among r.actors k ≡ true
    → Splits (Holds f) id (Benched (r ∷ [])) (Benched (row_of_only (isnt (only_this k)) r ∷ [])) (alone k (made_in r k))
leaves f id a r none sits s h there =
    split_one h id (Benched (r ∷ [])) (Benched (row_of_only (isnt (only_this a)) r ∷ [])) a (made_in r a) there (inl (sits, refl))
    (λ k v named. let p = only_names (isnt (only_this a)) r k v named in ((λ e. true≢false (sym (eq-eqb k a e) ∙ isnt_true (only_this a) k p.1)), p.2))
    (row_fits (isnt (only_this a)) r h.whole none (h.rows id (Benched (r ∷ [])) there))

-- ---- a look
among_both : (ms ns : List ℕ) (k : ℕ) → among (ms ++ ns) k ≡ true → (among ms k ≡ true) ⊎ (among ns k ≡ true)
among_both [] ns k h = inr h
among_both (m ∷ ms) ns k h = let again = among_both ms ns k in grind (arith, again)

has_a_row : (rs : List Row) (k : ℕ) → among (all_actors rs) k ≡ true → (v : View) × HasRow rs k v
has_a_row [] k h = absurd (true≢false (sym h))
has_a_row (r ∷ rs) k h = ⊎_elim (λ its. (made_in r k, inl (its, refl))) (λ later. let rest = has_a_row rs k later in (rest.0, inr rest.1)) (among_both r.actors (all_actors rs) k h)

-- A bench may settle all that its actors did.
settles : (f : Profile) (slots id i : ℕ) (rs : List Row) → Allows (Holds f) slots id (Benched rs, []) i (λ n. n) (λ n me. SettlesAll (Benched rs, []) me)
settles f slots id i rs s h len there fits = (
  now,
  keeps,
  tt,
  learns h i id now its (tt, tt, (record { since = []; goes_on = sym same; made_is = refl }, tt)),
  record {
    entries = entries_for h.whole;
    after_is = refl;
    rows = subst (AreRowsOf rs) (sym same) (h.rows id (Benched rs) there);
  },
)
  where
    -- The entries of a list of steps are those steps.
    same : steps_of (entries_for h.whole) ≡ h.whole
    same = entries_same h.whole

    -- The roster of the bench after the step.
    now : Roster
    now = Benched (record { actors = all_actors rs; made = []; base = entries_for h.whole } ∷ [])

    -- Each actor of the roster sits at this bench, with its own steps.
    its : (k : ℕ) (v : View) → Names now k v → (h.seat_number k ≡ id) × (h.own k ≡ v)
    its k v (inl p) =
        let one = has_a_row rs k p.0 in
        let old = h.named id (Benched rs) k one.0 there one.1 in
        (old.0, sym (h.one_order k) ∙ (sym (ap (part k) same) ∙ p.1))
    its k v (inr p) = absurd p

-- ---- at a seat that is known by an equation
pub gives_as : (f : Profile) (id : ℕ) (test : ℕ → Bool) (me : Me (Unit {0}) Roster) (r : Row) → me ≡ (Benched (rows_in me.0), []) → rows_in me.0 ≡ r ∷ []
    → r.made ≡ [] → Splits (Holds f) id me.0 (left_of test me.0) (picked_of test me.0)
gives_as f id test me r benched is none = subst (λ (m : Me (Unit {0}) Roster). Splits (Holds f) id m.0 (left_of test m.0) (picked_of test m.0))
    (sym (benched ∙ ap (λ (rs : List Row). (Benched rs, [])) is)) (gives f id test r none)

-- A look of a bench makes one row of all its rows, however the bench is written.
pub settles_as : (f : Profile) (slots id i : ℕ) (me : Me (Unit {0}) Roster) → me ≡ (Benched (rows_in me.0), [])
    → Allows (Holds f) slots id me i (λ n. n) (λ n after. SettlesAll me after)
settles_as f slots id i me benched = subst (λ (m : Me (Unit {0}) Roster). Allows (Holds f) slots id m i (λ n. n) (λ n after. SettlesAll m after)) (sym benched) (settles f slots id i (rows_in me.0))

-- ---- a step at it
pub benched_is : (me : Me (Unit {0}) Roster) (rs : List Row) → me ≡ (Benched rs, []) → me ≡ (Benched (rows_in me.0), [])
benched_is me rs is = subst (λ (m : Me (Unit {0}) Roster). m ≡ (Benched (rows_in m.0), [])) (sym is) refl

-- A bench of one row is that row, however it is written.
pub one_row : (me : Me (Unit {0}) Roster) (r : Row) → me ≡ (Benched (rows_in me.0), []) → rows_in me.0 ≡ r ∷ [] → me ≡ (Benched (r ∷ []), [])
one_row me r benched is = benched ∙ ap (λ (rs : List Row). (Benched rs, [])) is

-- A step at a bench of one row is that row with the step.
pub row_stepped : (me now : Me (Unit {0}) Roster) (k : ℕ) (m : Made) (r : Row) → me ≡ (Benched (r ∷ []), []) → now ≡ (with_made k m me.0, [])
    → now ≡ (Benched (row_with k m r ∷ []), [])
row_stepped me now k m r was is = is ∙ ap (λ (n : Me (Unit {0}) Roster). (with_made k m n.0, [])) was

-- A member of a row sits in the same row, however it is written.
pub sits_as : (r s : Row) (member : Member) → s ≡ r → SitsInRow r member → SitsInRow s member
sits_as r s member is sits = subst (λ (q : Row). SitsInRow q member) (sym is) sits

-- ---- the lists for which a desk at a bench stands
pub made_next : (r : Row) (k : ℕ) (m : Made) → made_in (row_with k m r) k ≡ m ∷ made_in r k
made_next r k m = part_of_own k (m ∷ []) (steps_of r.made ++ steps_of r.base)

-- beside a list that tells of the row's actors what the row tells, a desk at a row in which nobody made a step stands
pub stands_first : (r : Row) (l : Whole) → r.made ≡ [] → ((k : ℕ) → among r.actors k ≡ true → part k l ≡ part k (steps_of r.base)) → StandsOver r l
stands_first r l none same = record {
  before = l;
  order = ap (λ (es : List Entry). steps_of es ++ steps_by (among r.actors) l) (sym none);
  parts = same;
}

-- Two lists with ends of one length are equal in front of these.
cut : (a b c d : Whole) → a ++ b ≡ c ++ d → length b ≡ length d → a ≡ c
cut [] b [] d e many = refl
cut [] b (t ∷ c) d e many = absurd (let all = ap length e ∙ ap suc (length-append c d) in omega (arith, all, many))
cut (t ∷ a) b [] d e many = absurd (let all = ap suc (sym (length-append a b)) ∙ ap length e in omega (arith, all, many))
cut (t ∷ a) b (s ∷ c) d e many = λ i. (first (e i) t ∷ cut a b c d (λ j. rest (e j)) many i)
  where
    first : Whole → Triple → Triple
    first [] d = d
    first (x ∷ xs) d = x

    -- What of a list isn't this bench's.
    rest : Whole → Whole
    rest [] = []
    rest (x ∷ xs) = xs

-- what its actors did in such a list since it was like that is what the row names, in its order
pub row_since : (r : Row) (since l : Whole) → StandsOver r (since ++ l) → ((k : ℕ) → among r.actors k ≡ true → part k l ≡ part k (steps_of r.base))
    → steps_by (among r.actors) since ≡ steps_of r.made
row_since r since l h same =
    cut _ _ _ _ (sym (steps_by_both (among r.actors) since l) ∙ h.order) (as_many_steps (among r.actors) l h.before (λ k its. same k its ∙ sym (h.parts k its)))

-- A member of a fresh row may leave it.
pub leaves_as : (f : Profile) (id k : ℕ) (me : Me (Unit {0}) Roster) (r : Row) → me ≡ (Benched (rows_in me.0), []) → rows_in me.0 ≡ r ∷ [] → r.made ≡ []
    → among r.actors k ≡ true → Splits (Holds f) id me.0 (left_of (only_this k) me.0) (leaver_of k me.0)
leaves_as f id k me r benched is none sits = subst (λ (m : Me (Unit {0}) Roster). Splits (Holds f) id m.0 (left_of (only_this k) m.0) (leaver_of k m.0))
    (sym (benched ∙ ap (λ (rs : List Row). (Benched rs, [])) is)) (leaves f id k r none sits)

-- ---- each actor's part of a list for which a desk of the row stands
-- A row that stands over a list says of each actor what the list tells.
pub row_tells : (r : Row) (l : Whole) (k : ℕ) → StandsOver r l → among r.actors k ≡ true → part k l ≡ made_in r k
row_tells r l k h its = search (arith, part_of_chosen, part_both)
