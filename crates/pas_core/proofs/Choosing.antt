-- The steps of some actors in a list of those of all.
use Rattle.std.proofs.Common.{ℕ, Bool, true, false, if◌then◌else◌, ◌≡◌, ◌==◌, List, [], ◌∷◌, ◌++◌, length, refl, sym, ap, ◌∙◌, arith, suc, eqb-true, eq-eqb}
use Rattle.std.proofs.Common.{ne_eqb, true≢false}
use Rattle.pas_steps.specs.{Desks.triples, Lists.{Triple, Whole, part}, declared.step.Made.Made}
use Rattle.pas_core.specs.Orders.{steps_by}

-- ---- one step more
pub step_taken : (chosen : ℕ → Bool) (t : Triple) (l : Whole) → chosen t.actor ≡ true → steps_by chosen (t ∷ l) ≡ t ∷ steps_by chosen l
step_taken chosen t l e = ap (λ (b : Bool). if b then t ∷ steps_by chosen l else steps_by chosen l) e

-- A step of another actor isn't among the steps of the chosen ones.
pub step_passed : (chosen : ℕ → Bool) (t : Triple) (l : Whole) → chosen t.actor ≡ false → steps_by chosen (t ∷ l) ≡ steps_by chosen l
step_passed chosen t l e = ap (λ (b : Bool). if b then t ∷ steps_by chosen l else steps_by chosen l) e

-- ---- lists one behind the other
pub steps_by_both : (chosen : ℕ → Bool) (l m : Whole) → steps_by chosen (l ++ m) ≡ steps_by chosen l ++ steps_by chosen m
steps_by_both chosen [] m = refl
steps_by_both chosen (t ∷ l) m = at (steps_by_both chosen l m) (chosen t.actor) refl
  where
    -- Whether the newest step was chosen or not, a chosen actor's part is the same.
    at : steps_by chosen (l ++ m) ≡ steps_by chosen l ++ steps_by chosen m → (b : Bool) → chosen t.actor ≡ b
        → steps_by chosen (t ∷ (l ++ m)) ≡ steps_by chosen (t ∷ l) ++ steps_by chosen m
    at again true e = search (arith, step_taken)
    at again false e = step_passed chosen t _ e ∙ (again ∙ sym (ap (λ (k : Whole). k ++ steps_by chosen m) (step_passed chosen t l e)))

-- ---- the part of a chosen actor
part_more : (k : ℕ) (t : Triple) (l m : Whole) → part k l ≡ part k m → part k (t ∷ l) ≡ part k (t ∷ m)
part_more k t l m e = ap (λ v. if t.actor == k then t.made ∷ v else v) e

part_without : (k : ℕ) (t : Triple) (l : Whole) → (t.actor == k) ≡ false → part k (t ∷ l) ≡ part k l
part_without k t l e = ap (λ (b : Bool). if b then t.made ∷ part k l else part k l) e

-- A chosen actor's part of the chosen steps is its part of the whole list.
pub part_of_chosen : (chosen : ℕ → Bool) (k : ℕ) (l : Whole) → chosen k ≡ true → part k (steps_by chosen l) ≡ part k l
part_of_chosen chosen k [] its = refl
part_of_chosen chosen k (t ∷ l) its = at (part_of_chosen chosen k l its) (chosen t.actor) refl
  where
    other : chosen t.actor ≡ false → (b : Bool) → (t.actor == k) ≡ b → part k l ≡ part k (t ∷ l)
    other e true same = absurd (true≢false (sym its ∙ (ap chosen (sym (eqb-true _ k same)) ∙ e)))
    other e false ne = sym (part_without k t l ne)

    -- Whether the newest step is in the wider choice or not, choosing twice is choosing once.
    at : part k (steps_by chosen l) ≡ part k l → (b : Bool) → chosen t.actor ≡ b → part k (steps_by chosen (t ∷ l)) ≡ part k (t ∷ l)
    at again true e = ap (part k) (step_taken chosen t l e) ∙ part_more k t (steps_by chosen l) l again
    at again false e = ap (part k) (step_passed chosen t l e) ∙ (again ∙ other e (t.actor == k) refl)

-- ---- fewer actors
abbrev pub Within : (ℕ → Bool) → (ℕ → Bool) → Type 0
Within fewer more = (k : ℕ) → fewer k ≡ true → more k ≡ true

-- The steps of fewer actors are the same among the steps of more as in the whole list.
steps_by_fewer : (fewer more : ℕ → Bool) (l : Whole) → Within fewer more → steps_by fewer (steps_by more l) ≡ steps_by fewer l
steps_by_fewer fewer more [] within = refl
steps_by_fewer fewer more (t ∷ l) within = at (steps_by_fewer fewer more l within) (more t.actor) refl
  where
    kept : steps_by fewer (steps_by more l) ≡ steps_by fewer l → more t.actor ≡ true → (b : Bool) → fewer t.actor ≡ b
        → steps_by fewer (t ∷ steps_by more l) ≡ steps_by fewer (t ∷ l)
    kept again m true e = step_taken fewer t _ e ∙ (ap (λ (k : Whole). t ∷ k) again ∙ sym (step_taken fewer t l e))
    kept again m false e = step_passed fewer t _ e ∙ (again ∙ sym (step_passed fewer t l e))

    -- A step that the wider choice leaves out, the narrower one leaves out, too.
    dropped : more t.actor ≡ false → (b : Bool) → fewer t.actor ≡ b → steps_by fewer l ≡ steps_by fewer (t ∷ l)
    dropped m true e = absurd (true≢false (sym (within t.actor e) ∙ m))
    dropped m false e = sym (step_passed fewer t l e)

    -- The newest step is a chosen actor's, so all steps are.
    at : steps_by fewer (steps_by more l) ≡ steps_by fewer l → (b : Bool) → more t.actor ≡ b → steps_by fewer (steps_by more (t ∷ l)) ≡ steps_by fewer (t ∷ l)
    at again true m = ap (steps_by fewer) (step_taken more t l m) ∙ kept again m (fewer t.actor) refl
    at again false m = ap (steps_by fewer) (step_passed more t l m) ∙ (again ∙ dropped m (fewer t.actor) refl)

-- Where some actors made no steps, fewer of them made none.
pub no_steps_by_fewer : (fewer more : ℕ → Bool) (l : Whole) → Within fewer more → steps_by more l ≡ [] → steps_by fewer l ≡ []
no_steps_by_fewer fewer more l within none = sym (steps_by_fewer fewer more l within) ∙ ap (steps_by fewer) none

-- ---- one actor, and all that made a step
cons_not_nil : {x : Made} {xs : List Made} → x ∷ xs ≡ [] → ⊥
cons_not_nil e = omega (arith, ap length e)

-- The steps of one chosen actor are its own part, as steps of that actor.
pub steps_by_one : (chosen : ℕ → Bool) (k : ℕ) (l : Whole) → ((j : ℕ) → chosen j ≡ (j == k)) → steps_by chosen l ≡ triples k (part k l)
steps_by_one chosen k [] just = refl
steps_by_one chosen k (t ∷ l) just = at (steps_by_one chosen k l just) (t.actor == k) refl
  where
    -- Whoever made the newest step, the parts of others stay without one of this actor's.
    at : steps_by chosen l ≡ triples k (part k l) → (b : Bool) → (t.actor == k) ≡ b → steps_by chosen (t ∷ l) ≡ triples k (part k (t ∷ l))
    at again true e =
        search (arith, eqb-true, step_taken)
    at again false e = step_passed chosen t l (just t.actor ∙ e) ∙ (again ∙ sym (ap (triples k) (part_without k t l e)))

tail_same : {x y : Made} {xs ys : List Made} → x ∷ xs ≡ y ∷ ys → xs ≡ ys
tail_same {xs = xs} e = ap (λ (l : List Made). tail_or l xs) e
  where
    tail_or : List Made → List Made → List Made
    tail_or [] ys = ys
    tail_or (x ∷ xs) ys = xs

-- no step is by nobody
pub steps_by_nobody : (chosen : ℕ → Bool) (l : Whole) → ((k : ℕ) → chosen k ≡ false) → steps_by chosen l ≡ []
steps_by_nobody chosen [] none = refl
steps_by_nobody chosen (t ∷ l) none = step_passed chosen t l (none t.actor) ∙ steps_by_nobody chosen l none

-- where nobody else made a step, the steps of the chosen are all
pub steps_by_all : (chosen : ℕ → Bool) (l : Whole) → ((k : ℕ) → chosen k ≡ false → part k l ≡ []) → steps_by chosen l ≡ l
steps_by_all chosen [] none = refl
steps_by_all chosen (t ∷ l) none = at (steps_by_all chosen l) (chosen t.actor) refl
  where
    -- The newest step is this actor's, so it begins its part.
    here : part t.actor (t ∷ l) ≡ t.made ∷ part t.actor l
    here = ap (λ (b : Bool). if b then t.made ∷ part t.actor l else part t.actor l) (eq-eqb _ _ refl)

    -- Actors that weren't chosen made none of the earlier steps either.
    later : (k : ℕ) → chosen k ≡ false → (b : Bool) → (t.actor == k) ≡ b → part k l ≡ []
    later k e true same = absurd (cons_not_nil (sym here ∙ (ap (λ (j : ℕ). part j (t ∷ l)) (eqb-true t.actor k same) ∙ none k e)))
    later k e false ne = sym (part_without k t l ne) ∙ none k e

    -- Whoever made the newest step, there is one chosen step fewer without this actor's newest.
    at : (((k : ℕ) → chosen k ≡ false → part k l ≡ []) → steps_by chosen l ≡ l) → (b : Bool) → chosen t.actor ≡ b → steps_by chosen (t ∷ l) ≡ t ∷ l
    at again true e = step_taken chosen t l e ∙ ap (λ (m : Whole). t ∷ m) (again (λ k c. later k c (t.actor == k) refl))
    at again false e = absurd (cons_not_nil (sym here ∙ none t.actor e))

-- ---- the steps of the chosen are as many in two lists that have the same parts of them
abbrev without : ℕ → Whole → Whole
without k [] = []
without k (t ∷ l) = if t.actor == k then l else t ∷ without k l

without_at : (k : ℕ) (t : Triple) (l : Whole) (b : Bool) → (t.actor == k) ≡ b → without k (t ∷ l) ≡ (if b then l else t ∷ without k l)
without_at k t l b e = ap (λ (c : Bool). if c then l else t ∷ without k l) e

part_at : (k : ℕ) (t : Triple) (l : Whole) (b : Bool) → (t.actor == k) ≡ b → part k (t ∷ l) ≡ (if b then t.made ∷ part k l else part k l)
part_at k t l b e = ap (λ (c : Bool). if c then t.made ∷ part k l else part k l) e

-- its first step gone
part_of_rest : (k : ℕ) (l : Whole) (m : Made) (v : List Made) → part k l ≡ m ∷ v → part k (without k l) ≡ v
part_of_rest k [] m v h = absurd (cons_not_nil (sym h))
part_of_rest k (t ∷ l) m v h = at (part_of_rest k l m v) (t.actor == k) refl
  where
    -- The newest step isn't a chosen actor's, so none is.
    at : (part k l ≡ m ∷ v → part k (without k l) ≡ v) → (b : Bool) → (t.actor == k) ≡ b → part k (without k (t ∷ l)) ≡ v
    at again true e = ap (part k) (without_at k t l true e) ∙ tail_same (sym (part_at k t l true e) ∙ h)
    at again false e = ap (part k) (without_at k t l false e) ∙ (part_at k t _ false e ∙ again (sym (part_at k t l false e) ∙ h))

-- those of others as they were
part_of_others_left : (k j : ℕ) (l : Whole) → (j == k) ≡ false → part j (without k l) ≡ part j l
part_of_others_left k j [] ne = refl
part_of_others_left k j (t ∷ l) ne = at (part_of_others_left k j l ne) (t.actor == k) refl
  where
    mine : t.actor ≡ k → (b : Bool) → (t.actor == j) ≡ b → part j l ≡ part j (t ∷ l)
    mine its true e = absurd (true≢false (sym (eq-eqb j k (sym (eqb-true _ j e) ∙ its)) ∙ ne))
    mine its false e = sym (part_without j t l e)

    -- Whether the newest step was chosen or not, equal parts have equally many chosen steps.
    at : part j (without k l) ≡ part j l → (b : Bool) → (t.actor == k) ≡ b → part j (without k (t ∷ l)) ≡ part j (t ∷ l)
    at again true e = ap (part j) (without_at k t l true e) ∙ mine (eqb-true t.actor k e) (t.actor == j) refl
    at again false e = ap (part j) (without_at k t l false e) ∙ part_more j t (without k l) l again

-- one fewer of the chosen
one_fewer : (chosen : ℕ → Bool) (k : ℕ) (l : Whole) (m : Made) (v : List Made) → chosen k ≡ true → part k l ≡ m ∷ v
    → length (steps_by chosen l) ≡ suc (length (steps_by chosen (without k l)))
one_fewer chosen k [] m v its h = absurd (cons_not_nil (sym h))
one_fewer chosen k (t ∷ l) m v its h = at (one_fewer chosen k l m v its) (t.actor == k) refl
  where
    other : length (steps_by chosen l) ≡ suc (length (steps_by chosen (without k l))) → (b : Bool) → chosen t.actor ≡ b
        → length (steps_by chosen (t ∷ l)) ≡ suc (length (steps_by chosen (t ∷ without k l)))
    other again true e = ap length (step_taken chosen t l e) ∙ (ap suc again ∙ sym (ap suc (ap length (step_taken chosen t _ e))))
    other again false e = ap length (step_passed chosen t l e) ∙ (again ∙ sym (ap suc (ap length (step_passed chosen t _ e))))

    at : (part k l ≡ m ∷ v → length (steps_by chosen l) ≡ suc (length (steps_by chosen (without k l)))) → (b : Bool) → (t.actor == k) ≡ b
        → length (steps_by chosen (t ∷ l)) ≡ suc (length (steps_by chosen (without k (t ∷ l))))
    at again true e = search (arith, step_taken, eqb-true, without_at)
    at again false e = search (arith, part_at, without_at)

-- Actors whose parts of a list are empty made no steps in it.
pub no_steps_by : (chosen : ℕ → Bool) (l : Whole) → ((k : ℕ) → chosen k ≡ true → part k l ≡ []) → steps_by chosen l ≡ []
no_steps_by chosen [] none = refl
no_steps_by chosen (t ∷ l) none = at (no_steps_by chosen l) (chosen t.actor) refl
  where
    here : part t.actor (t ∷ l) ≡ t.made ∷ part t.actor l
    here = part_at _ t l true (eq-eqb _ _ refl)

    -- Actors that were chosen made none of the earlier steps either.
    later : (k : ℕ) → chosen k ≡ true → (b : Bool) → (t.actor == k) ≡ b → part k l ≡ []
    later k its true e = absurd (cons_not_nil (sym (part_at k t l true e) ∙ none k its))
    later k its false e = sym (part_at k t l false e) ∙ none k its

    at : (((k : ℕ) → chosen k ≡ true → part k l ≡ []) → steps_by chosen l ≡ []) → (b : Bool) → chosen t.actor ≡ b → steps_by chosen (t ∷ l) ≡ []
    at again true e = absurd (cons_not_nil (sym here ∙ none t.actor e))
    at again false e = step_passed chosen t l e ∙ again (λ k its. later k its (t.actor == k) refl)

-- Two lists with the same parts of the chosen actors have as many steps of them.
pub as_many_steps : (chosen : ℕ → Bool) (l m : Whole) → ((k : ℕ) → chosen k ≡ true → part k l ≡ part k m)
    → length (steps_by chosen l) ≡ length (steps_by chosen m)
as_many_steps chosen [] m same = sym (ap length (no_steps_by chosen m (λ k its. sym (same k its))))
as_many_steps chosen (t ∷ l) m same = at (as_many_steps chosen l) (chosen t.actor) refl
  where
    k : ℕ
    k = t.actor

    here : part k (t ∷ l) ≡ t.made ∷ part k l
    here = part_at k t l true (eq-eqb k k refl)

    -- With a step of a chosen actor gone from both, the chosen actors' parts are equal still.
    taken : chosen k ≡ true → (j : ℕ) → chosen j ≡ true → (b : Bool) → (j == k) ≡ b → part j l ≡ part j (without k m)
    taken its j chose true e = search (arith, eqb-true, part_of_rest)
    taken its j chose false e = sym (part_without j t l (not_so e)) ∙ (same j chose ∙ sym (part_of_others_left k j m e))
      where
        not_so : (j == k) ≡ false → (k == j) ≡ false
        not_so e = ne_eqb k j (λ is. true≢false (sym (eq-eqb j k (sym is)) ∙ e))

    at : ((n : Whole) → ((j : ℕ) → chosen j ≡ true → part j l ≡ part j n) → length (steps_by chosen l) ≡ length (steps_by chosen n)) → (b : Bool) → chosen k ≡ b
        → length (steps_by chosen (t ∷ l)) ≡ length (steps_by chosen m)
    at again true e = ap length (step_taken chosen t l e)
        ∙ (ap suc (again (without k m) (λ j chose. taken e j chose (j == k) refl)) ∙ sym (one_fewer chosen k m t.made _ e (sym (same k e) ∙ here)))
    at again false e = ap length (step_passed chosen t l e) ∙ again m (λ j chose. sym (part_without j t l (ne_eqb k j (λ is. true≢false (sym chose ∙ (ap chosen (sym is) ∙ e))))) ∙ same j chose)
