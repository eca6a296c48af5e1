-- Calls put together: no step, one more step, one more call, and what may come next.
use Rattle.std.proofs.Common.{arith, ◌≡◌, ℕ, true, List, [], ◌∷◌, ◌++◌, append_assoc}
use Rattle.pas_profile.specs.declared.directory.Directory.{Directory}
use Rattle.pas_steps.specs.{Agreement.Agrees, Allowed.{Allowed, IsStepOf}, Calls.{Effect, Does, Calls}, Views.{View, KnowsDeed}, Desks.{Standing, made, Makes}}
use Rattle.pas_steps.specs.{Desks.{CanMake, CanCall}, Kinds.{Kinds, kind_of, is_in, apart, changing}, declared.step.{Made.Made, Step.Step}}
use Rattle.pas_steps.proofs.{Adding.{agreed_first, agreed_later, adds_none, adds_step, adds_call, adds_under, can_step, can_call}, Frames.knows_still}
use Rattle.pas_steps.proofs.Calls.{leads_none, leads_as, leads_at, does_then, does_idly}

-- A call of no step does what holds between each view and itself.
pub call_none : {σ : Standing} {B : View → Type 0} {R : View → View → Type 0} → ((v : View) → B v → R v v) → Calls σ σ B R []
call_none r = record { adds = adds_none; leads = leads_none r }

-- A step that is allowed after a call, and what it tells, make one call longer.
pub call_step : {σ σ1 σ2 : Standing} {B : View → Type 0} {R : View → View → Type 0} {xs : List Made} {s : Step} {a : ℕ} (T : View → View → Type 0)
    → Calls σ σ1 B R xs → Makes σ1 σ2 s a
    → ((v : View) → B v → R v (xs ++ v) → Allowed σ.seat.profile (xs ++ v) s)
    → ((v : View) → B v → R v (xs ++ v) → Agrees σ.seat.profile (xs ++ v) s a → T v (made s a ∷ (xs ++ v))) → Calls σ σ2 B T (made s a ∷ xs)
call_step {xs = xs} T c makes allowed more = search (arith, adds_step)

-- A call after another, with what each does, is one call that does both.
pub call_then : {σ σ1 σ2 : Standing} {B C : View → Type 0} {R S : View → View → Type 0} {ys xs : List Made} (T : View → View → Type 0) → Calls σ σ1 B R xs
    → Calls σ1 σ2 C S ys
    → ((v : View) → B v → R v (xs ++ v) → C (xs ++ v)) → ((v : View) → B v → R v (xs ++ v) → S (xs ++ v) (ys ++ (xs ++ v)) → T v (ys ++ (xs ++ v)))
    → Calls σ σ2 B T (ys ++ xs)
call_then {σ} {ys = ys} {xs = xs} T c d meets both =
    let next = leads_at c.adds.seat_is d.leads in
    record {
      adds = adds_call c.adds d.adds (λ v l stood met. meets v met (c.leads.from v met (c.adds.agreed v l stood met)));
      leads = search (arith, agreed_later, append_assoc, agreed_first);
    }

-- under a condition that says more, with a change that says less
pub call_as : {σ σ1 : Standing} {B C : View → Type 0} {R : View → View → Type 0} {xs : List Made} (S : View → View → Type 0) → Calls σ σ1 B R xs
    → ((v : View) → C v → B v) → ((v w : View) → C v → R v w → S v w) → Calls σ σ1 C S xs
call_as S c under more = record { adds = adds_under c.adds (λ v l stood met. under v met); leads = leads_as c.leads under more }

-- and a deed that was known is known still
pub call_knows : {σ σ' : Standing} {B : View → Type 0} {R : View → View → Type 0} {xs : List Made} (page : ℕ) (d : Directory) → Calls σ σ' B R xs
    → ((v : View) → B v → KnowsDeed page d v) → Calls σ σ' B (λ v w. R v w × KnowsDeed page d w) xs
call_knows {σ} {xs = xs} page d c knows = record { adds = c.adds; leads = record { from = λ v met agreed. (c.leads.from v met agreed, knows_still _ d _ xs v agreed (knows v met)) } }

-- After a call a desk can make a step that is allowed then.
pub next_step : {σ σ1 : Standing} {B : View → Type 0} {R : View → View → Type 0} {xs : List Made} {s : Step} → Calls σ σ1 B R xs → CanCall σ B
    → IsStepOf σ.seat.profile s → ((v : View) → B v → R v (xs ++ v) → Allowed σ.seat.profile (xs ++ v) s) → CanMake σ1 s
next_step {B = B} {xs = xs} c can of allowed = can_step {C = B} c.adds can of (λ v l stood met. allowed v met (c.leads.from v met (c.adds.agreed v l stood met)))

-- After a call a desk can make another whose condition holds then.
pub next_call : {σ σ1 : Standing} {B C : View → Type 0} {R : View → View → Type 0} {xs : List Made} → Calls σ σ1 B R xs → CanCall σ B
    → ((v : View) → B v → R v (xs ++ v) → C (xs ++ v)) → CanCall σ1 C
next_call {B = B} {xs = xs} c can meets = can_call {C = B} c.adds can (λ v l stood met. meets v met (c.leads.from v met (c.adds.agreed v l stood met)))

-- one more step of a kind that changes nothing
pub call_idly : {σ σ1 σ2 : Standing} {B : View → Type 0} {e : Effect} {xs : List Made} {s : Step} {a : ℕ} (ks : Kinds) → apart ks changing ≡ true
    → Calls σ σ1 B (Does e) xs → Makes σ1 σ2 s a → is_in ks (kind_of s) ≡ true
    → ((v : View) → B v → Does e v (xs ++ v) → Allowed σ.seat.profile (xs ++ v) s) → Calls σ σ2 B (Does e) (made s a ∷ xs)
call_idly {σ} {e = e} {xs = xs} {s = s} {a = a} ks w c makes is allowed =
    call_step (Does e) c makes allowed (λ v met d agrees. does_then d (does_idly σ.seat.profile ks w (made s a ∷ []) (xs ++ v) (is, tt) (agrees, tt)))
