-- Steps of the past: what held once, always and since, and steps for each of some things in turn.
use Rattle.std.proofs.Common.{List, [], ◌∷◌, ◌++◌, inl, inr, ◌≡◌, ℕ, ◌*◌, ◌≤◌, length, ap, ◌∙◌, sym, subst, arith, length-append}
use Rattle.pas_steps.specs.{declared.step.Made.Made, Past.{Once, Always, Since}, InTurn.InTurn}

-- ==== Once, always and since, over the steps of two calls.

-- later steps
pub once_later : (P : Made → List Made → Type 0) (ys xs : List Made) → Once P xs → Once P (ys ++ xs)
once_later P [] xs h = h
once_later P (y ∷ ys) xs h = inr (once_later P ys xs h)

-- earlier steps, under which P is Q
pub once_earlier : (P Q : Made → List Made → Type 0) (ys xs : List Made) → ((m : Made) (before : List Made) → P m before → Q m (before ++ xs)) → Once P ys
    → Once Q (ys ++ xs)
once_earlier P Q [] xs f h = absurd h
once_earlier P Q (y ∷ ys) xs f (inl h) = inl (f y ys h)
once_earlier P Q (y ∷ ys) xs f (inr h) = inr (once_earlier P Q ys xs f h)

-- What held once in some steps held once in any weaker form.
pub once_map : (P Q : Made → List Made → Type 0) (ys : List Made) → ((m : Made) (before : List Made) → P m before → Q m before) → Once P ys → Once Q ys
once_map P Q [] f h = absurd h
once_map P Q (y ∷ ys) f (inl h) = inl (f y ys h)
once_map P Q (y ∷ ys) f (inr h) = inr (once_map P Q ys f h)

-- What held always in some steps held always in any weaker form.
pub always_map : (P Q : Made → List Made → Type 0) (ys : List Made) → ((m : Made) (before : List Made) → P m before → Q m before) → Always P ys → Always Q ys
always_map P Q [] f h = tt
always_map P Q (y ∷ ys) f h = (f y ys h.0, always_map P Q ys f h.1)

-- What held always of two things held of both.
pub always_pair : (P Q : Made → List Made → Type 0) (xs : List Made) → Always P xs → Always Q xs → Always (λ m before. P m before × Q m before) xs
always_pair P Q [] a b = tt
always_pair P Q (x ∷ xs) a b = ((a.0, b.0), always_pair P Q xs a.1 b.1)

-- What held always in two lists held always in both together, where the second is behind the first.
pub always_both : (P Q : Made → List Made → Type 0) (ys xs : List Made) → ((m : Made) (before : List Made) → P m before → Q m (before ++ xs)) → Always P ys
    → Always Q xs → Always Q (ys ++ xs)
always_both P Q [] xs f a b = b
always_both P Q (y ∷ ys) xs f a b = (f y ys a.0, always_both P Q ys xs f a.1 b)

-- Where something held at a step, and another thing at each since, it held once.
pub since_once : (P Q : Made → List Made → Type 0) (xs : List Made) → Since P Q xs → Once P xs
since_once P Q [] h = h
since_once P Q (m ∷ xs) (inl h) = inl h
since_once P Q (m ∷ xs) (inr h) = inr (since_once P Q xs h.1)

-- ==== Steps for each of some things in turn: what holds of each step, and how many there are.

-- what holds of each step for one thing holds of each step
pub in_turn_always : {A : Type 0} (P : A → List Made → Type 0) (R : Made → Type 0) → ((x : A) (piece : List Made) → P x piece → Always (λ m before. R m) piece)
    → (xs : List A) (steps : List Made) → InTurn P xs steps → Always (λ m before. R m) steps
in_turn_always P R each [] steps h = subst (Always (λ m before. R m)) (sym h) tt
in_turn_always P R each (x ∷ xs) steps h = subst (Always (λ m before. R m)) (sym h.4)
    (always_both (λ m before. R m) (λ m before. R m) h.0 h.1 (λ m before r. r) (each x h.0 h.2) (in_turn_always P R each xs h.1 h.3))

-- at most so many steps for each thing, and for all things
pub in_turn_length : {A : Type 0} (P : A → List Made → Type 0) (n : ℕ) → ((x : A) (piece : List Made) → P x piece → length piece ≤ n)
    → (xs : List A) (steps : List Made) → InTurn P xs steps → length steps ≤ n * length xs
in_turn_length P n each [] steps h = let none : length steps ≡ 0 = ap length h in omega (arith, none)
in_turn_length P n each (x ∷ xs) steps h =
    omega (arith, each x h.0 h.2, in_turn_length P n each xs h.1 h.3, ap length h.4 ∙ length-append h.0 h.1)
