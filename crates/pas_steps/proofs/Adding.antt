-- How the steps of a call are put together.
use Rattle.std.proofs.Common.{◌≡◌, ℕ, ◌+◌, ◌≤◌, List, [], ◌∷◌, ◌++◌, length, refl, ap, sym, subst, arith, append_assoc}
use Rattle.pas_profile.specs.declared.profile.Profile.{Profile}
use Rattle.pas_steps.specs.{declared.step.{Made.Made, Step.Step}, Views.View, Events.events_of, Allowed.{Allowed, IsStepOf}, Agreement.{Agrees, Agreed}}
use Rattle.pas_steps.specs.{Lists.{Whole, Legal}, Desks.{Standing, made, triple, triples, CanMake, Makes, CanCall, Adds}}

-- ---- steps of one actor, put onto a whole list
pub triples_append : (k : ℕ) (ys xs : List Made) (l : Whole) → triples k ys ++ (triples k xs ++ l) ≡ triples k (ys ++ xs) ++ l
triples_append k [] xs l = refl
triples_append k (y ∷ ys) xs l = ap (λ w. triple k y ∷ w) (triples_append k ys xs l)

-- ---- answers that agree, of two calls
agreed_append : (f : Profile) (v : View) (ys xs : List Made) → Agreed f (xs ++ v) ys → Agreed f v xs → Agreed f v (ys ++ xs)
agreed_append f v [] xs more before = before
agreed_append f v (m ∷ ys) xs more before = (subst (λ w. Agrees f w m.step m.answer) (sym (append_assoc ys xs v)) more.0, agreed_append f v ys xs more.1 before)

-- ---- no steps, one more step, and one more call
pub adds_none : {σ : Standing} {C : View → Type 0} → Adds σ σ C []
adds_none = record { seat_is = refl; added = λ v l stood met. stood; agreed = λ v l stood met. tt }

-- A step that is allowed after a call makes the call one step longer.
pub adds_step : {σ σ' σ'' : Standing} {C : View → Type 0} {xs : List Made} {step : Step} {a : ℕ}
    → Adds σ σ' C xs → Makes σ' σ'' step a → ((v : View) (l : Whole) → σ.stands v l → C v → Allowed σ.seat.profile (xs ++ v) step)
    → Adds σ σ'' C (made step a ∷ xs)
adds_step {σ} {σ'} {σ''} {C} {xs} {step} {a} before makes allowed =
    search arith

-- A call after another one, whose condition holds then, is one call with it.
pub adds_call : {σ σ' σ'' : Standing} {C D : View → Type 0} {xs ys : List Made}
    → Adds σ σ' C xs → Adds σ' σ'' D ys → ((v : View) (l : Whole) → σ.stands v l → C v → D (xs ++ v)) → Adds σ σ'' C (ys ++ xs)
adds_call {σ} {σ'} {σ''} {C} {D} {xs} {ys} before call meets = search (arith, append_assoc, triples_append, agreed_append)

-- under a condition that says more
pub adds_under : {σ σ' : Standing} {C D : View → Type 0} {xs : List Made} → Adds σ σ' C xs → ((v : View) (l : Whole) → σ.stands v l → D v → C v)
    → Adds σ σ' D xs
adds_under adds under = record { seat_is = adds.seat_is; added = λ v l stood met. adds.added v l stood (under v l stood met); agreed = λ v l stood met. adds.agreed v l stood (under v l stood met) }

-- ---- what may come next
pub can_step : {σ σ' : Standing} {C : View → Type 0} {xs : List Made} {step : Step}
    → Adds σ σ' C xs → CanCall σ C → IsStepOf σ.seat.profile step → ((v : View) (l : Whole) → σ.stands v l → C v → Allowed σ.seat.profile (xs ++ v) step)
    → CanMake σ' step
can_step {σ} {σ'} {C} {xs} {step} before can of_region allowed = search arith

-- After a call a desk can call what asks for what holds then.
pub can_call : {σ σ' : Standing} {C D : View → Type 0} {xs : List Made}
    → Adds σ σ' C xs → CanCall σ C → ((v : View) (l : Whole) → σ.stands v l → C v → D (xs ++ v)) → CanCall σ' D
can_call {σ} {σ'} {C} {D} {xs} before can meets = search arith

-- ---- on a desk that tells the whole state
-- each list that the desk stands for is legal
abbrev pub Tells : Standing → Type 0
Tells σ = (v : View) (l : Whole) → σ.stands v l → Legal σ.seat.profile l

-- After a call a desk that tells the whole state has a legal list.
pub legal_after : {σ σ' : Standing} {C : View → Type 0} {xs : List Made} → Adds σ σ' C xs → Tells σ' → (v : View) (l : Whole) → σ.stands v l → C v
    → Legal σ.seat.profile (triples σ.seat.actor xs ++ l)
legal_after {σ} {σ'} {C} {xs} adds tells v l stood met = subst (λ s. Legal s.profile (triples σ.seat.actor xs ++ l)) adds.seat_is (tells (xs ++ v) _ (adds.added v l stood met))

-- ---- room for events
-- a desk that has room for n more events after these steps has so much to spare
pub room_left : {σ σ' : Standing} {C : View → Type 0} {xs : List Made} {spare : ℕ} (n : ℕ) → Adds σ σ' C xs → (can : CanCall σ C)
    → ((v : View) (l : Whole) → σ'.stands v l → spare + length (events_of σ'.seat.actor v) ≡ σ'.seat.room)
    → length (events_of σ.seat.actor (xs ++ can.view)) + n ≤ σ.seat.room → n ≤ spare
room_left {σ} {σ'} {C} {xs} {spare} n adds can spares fits =
    search arith

-- ---- a list of steps that agrees, cut
pub agreed_first : (f : Profile) (v : View) (ys xs : List Made) → Agreed f v (ys ++ xs) → Agreed f (xs ++ v) ys
agreed_first f v [] xs all = tt
agreed_first f v (y ∷ ys) xs all = (subst (λ w. Agrees f w y.step y.answer) (append_assoc ys xs v) all.0, agreed_first f v ys xs all.1)

-- What agrees with all steps of a call agrees with the earlier ones.
pub agreed_later : (f : Profile) (v : View) (ys xs : List Made) → Agreed f v (ys ++ xs) → Agreed f v xs
agreed_later f v [] xs all = all
agreed_later f v (y ∷ ys) xs all = agreed_later f v ys xs all.1
