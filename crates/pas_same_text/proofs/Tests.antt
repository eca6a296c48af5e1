-- Tests on lists.
use Rattle.std.proofs.Common.{◌≡◌, ℕ, ◌==◌, Bool, true, false, not, ◌&&◌, ◌||◌, List, [], ◌∷◌, ◌⊎◌, inl, inr, refl, ap, sym, ◌∙◌, arith, ◌+◌, ◌*◌, ◌/◌, ◌<◌}
use Rattle.std.proofs.Common.{eq-eqb, eqb-true}
use Rattle.pas_same_text.proofs.Common.{false≢true, or_cases, or_left, or_right, list_any, filter, has_number}

-- ---- tests
-- A number equals itself by the test.
pub eqb_itself : (n : ℕ) → (n == n) ≡ true
eqb_itself n = eq-eqb n n refl

-- grain b of a page is on it
pub on_page : (page b : ℕ) → b < 256 → (256 * page + b) / 256 ≡ page
on_page page b small = omega (arith, small)

-- ---- lists
-- Of two tests that both hold, the first holds.
pub and_first : (x y : Bool) → (x && y) ≡ true → x ≡ true
and_first x y h = search arith

-- Of two tests that both hold, the second holds.
pub and_second : (x y : Bool) → (x && y) ≡ true → y ≡ true
and_second x y h = search (arith, false≢true)

filtered_same : {X : Type 0} (p q : X → Bool) (xs : List X) → list_any p (filter q xs) ≡ list_any (λ x. q x && p x) xs
filtered_same p q [] = refl
filtered_same p q (x ∷ xs) = let ih = filtered_same p q xs in grind (arith, ih)

-- one that is left passes both tests
pub any_filtered : {X : Type 0} (p q : X → Bool) (xs : List X) → list_any p (filter q xs) ≡ true → list_any (λ x. q x && p x) xs ≡ true
any_filtered p q xs h = sym (filtered_same p q xs) ∙ h

-- Something that passes both tests passes one among those that pass the other.
pub filtered_any : {X : Type 0} (p q : X → Bool) (xs : List X) → list_any (λ x. q x && p x) xs ≡ true → list_any p (filter q xs) ≡ true
filtered_any p q xs h = filtered_same p q xs ∙ h

-- ---- numbers
-- a number of the list that passes the test
pub record IsFound (numbers : List ℕ) (p : ℕ → Bool) : Type 0 where
  pub number : ℕ
  pub there : has_number numbers number ≡ true
  pub so : p number ≡ true

found_at : (p : ℕ → Bool) (n : ℕ) (more : List ℕ) → (list_any p more ≡ true → IsFound more p) → (p n ≡ true) ⊎ (list_any p more ≡ true) → IsFound (n ∷ more) p
found_at p n more rest given = search (arith, or_left, eqb_itself, or_right)

-- Where some number of a list passes a test, one of its numbers is found that does.
pub found : (p : ℕ → Bool) (numbers : List ℕ) → list_any p numbers ≡ true → IsFound numbers p
found p [] h = absurd (false≢true h)
found p (n ∷ more) h = found_at p n more (found p more) (or_cases (p n) (list_any p more) h)

-- A number of a list that passes a test makes that some number does.
pub passed : (p : ℕ → Bool) (numbers : List ℕ) (m : ℕ) → has_number numbers m ≡ true → p m ≡ true → list_any p numbers ≡ true
passed p [] m h so = h
passed p (n ∷ more) m h so = elim (or_cases (n == m) (has_number more m) h) [
  | inl same ↦ (or_left (p n) (list_any p more) (ap p (eqb-true n m same) ∙ so))
  | inr rest ↦ or_right (p n) (list_any p more) (passed p more m rest so)
]

-- ---- tests that follow from others
-- Where something passes a test, something passes each weaker one.
pub any_weaker : {X : Type 0} (p q : X → Bool) (xs : List X) → ((x : X) → p x ≡ true → q x ≡ true) → list_any p xs ≡ true → list_any q xs ≡ true
any_weaker p q [] more h = h
any_weaker p q (x ∷ xs) more h = let ih = any_weaker p q xs more in search (arith, or_cases, or_left, or_right, ih)

-- by cases of the tests
split_at : (a x r s t : Bool) → (r ≡ true → (s ≡ true) ⊎ (t ≡ true)) → (x || r) ≡ true → (((a && x) || s) ≡ true) ⊎ (((not a && x) || t) ≡ true)
split_at a x r s t rest h = search arith

-- one of which the first test is so, or one of which it isn't
pub any_split : {X : Type 0} (a p : X → Bool) (xs : List X) → list_any p xs ≡ true
    → (list_any (λ x. a x && p x) xs ≡ true) ⊎ (list_any (λ x. not (a x) && p x) xs ≡ true)
any_split a p [] h = absurd (false≢true h)
any_split a p (x ∷ xs) h = split_at (a x) (p x) (list_any p xs) (list_any (λ y. a y && p y) xs) (list_any (λ y. not (a y) && p y) xs) (any_split a p xs) h

-- ---- numbers that are left of a list
pub filtered_has : (q : ℕ → Bool) (xs : List ℕ) (n : ℕ) → has_number (filter q xs) n ≡ true → (q n ≡ true) × (has_number xs n ≡ true)
filtered_has q xs n h =
    let o : IsFound xs (λ m. q m && (m == n)) = found (λ m. q m && (m == n)) xs (any_filtered (λ m. m == n) q xs h) in
    let is : o.number ≡ n = eqb-true o.number n (and_second (q o.number) (o.number == n) o.so) in
    (ap q (sym is) ∙ and_first (q o.number) (o.number == n) o.so, ap (has_number xs) (sym is) ∙ o.there)

-- A number that passes a test stays in the list when the others are filtered out.
pub has_filtered : (q : ℕ → Bool) (xs : List ℕ) (n : ℕ) → q n ≡ true → has_number xs n ≡ true → has_number (filter q xs) n ≡ true
has_filtered q xs n so there = filtered_any (λ m. m == n) q xs (passed (λ m. q m && (m == n)) xs n there (ap (λ (t : Bool). t && (n == n)) so ∙ eq-eqb n n refl))
