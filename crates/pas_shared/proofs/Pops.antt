-- Elements that move from one list to another.
use Rattle.std.proofs.{Common.{◌≡◌, suc, List, [], ◌∷◌, ◌++◌, map, refl, sym, subst, arith, append_assoc}, lemmas.List.Elements.{All-append, All-cons, All-nil}}
use Rattle.std.specs.List.{All}

-- one more at the end
pub all_more : {A : Type 0} (P : A → Type 0) (xs ys : List A) (x : A) → ys ≡ xs ++ x ∷ [] → All P xs → P x → All P ys
all_more {A = A} P xs ys x is all new = subst (λ (zs : List A). All P zs) (sym is) (All-append P xs (x ∷ []) all (All-cons P x [] new (All-nil P)))

-- the first, and the others
pub first_is : {A : Type 0} (P : A → Type 0) (xs : List A) (x : A) (rest : List A) → xs ≡ x ∷ rest → All P xs → P x
first_is {A = A} P xs x rest is all = subst (λ (ys : List A). All P ys) is all 0 x (omega arith)

-- What is so of all of a list is so of those without its first.
pub others_are : {A : Type 0} (P : A → Type 0) (xs : List A) (x : A) (rest : List A) → xs ≡ x ∷ rest → All P xs → All P rest
others_are {A = A} P xs x rest is all k d lt = subst (λ (ys : List A). All P ys) is all (suc k) d (omega (arith, lt))

-- the last, and those before it
pub last_is : {A : Type 0} (P : A → Type 0) (xs ys : List A) (x : A) → xs ≡ ys ++ x ∷ [] → All P xs → All P ys × P x
last_is {A = A} P xs ys x is all = parted ys (subst (λ (zs : List A). All P zs) is all)
  where
    parted : (ys : List A) → All P (ys ++ x ∷ []) → All P ys × P x
    parted [] all = (All-nil P, first_is P (x ∷ []) x [] refl all)
    parted (y ∷ ys) all =
        let rest = parted ys (others_are P (y ∷ (ys ++ x ∷ [])) y (ys ++ x ∷ []) refl all) in
        (All-cons P y ys (first_is P (y ∷ (ys ++ x ∷ [])) y (ys ++ x ∷ []) refl all) rest.0, rest.1)

-- What was made of the first goes from what is left to the end of what was made.
pub first_moves : {A B : Type 0} (f : A → B) (made more : List B) (xs rest : List A) (x : A) (all : List B)
    → xs ≡ x ∷ rest → more ≡ made ++ f x ∷ [] → made ++ map f xs ≡ all → more ++ map f rest ≡ all
first_moves {A = A} {B = B} f made more xs rest x all is one so =
    cc (append_assoc made (f x ∷ []) (map f rest))
