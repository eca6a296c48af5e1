-- What holds of each element of a list.
use Rattle.std.{proofs.{Common.{List, [], ◌∷◌, ◌++◌, reverse, sym, subst}, lemmas.List.reverse-append}, specs.List.AllByRecursion}

-- What is so of each of two lists is so of each of both together.
pub all_both : {A : Type 0} (P : A → Type 0) (xs ys : List A) → AllByRecursion P xs → AllByRecursion P ys → AllByRecursion P (xs ++ ys)
all_both P [] ys first second = second
all_both P (x ∷ xs) ys first second = (first.0, all_both P xs ys first.1 second)

-- What is so of each of a list is so in any weaker form.
pub all_map : {A : Type 0} (P Q : A → Type 0) (xs : List A) → ((x : A) → P x → Q x) → AllByRecursion P xs → AllByRecursion Q xs
all_map P Q [] more all = tt
all_map P Q (x ∷ xs) more all = (more x all.0, all_map P Q xs more all.1)

-- What is so of each of a list is so of each in reverse.
pub all_reverse : {A : Type 0} (P : A → Type 0) (xs : List A) → AllByRecursion P xs → AllByRecursion P (reverse xs)
all_reverse P [] all = tt
all_reverse P (x ∷ xs) all = subst (AllByRecursion P) (sym (reverse-append (x ∷ []) xs)) (all_both P (reverse xs) (x ∷ []) (all_reverse P xs all.1) (all.0, tt))
