-- Workers that are dealt into those of the threads that are chosen and the others, and taken back.
use Rattle.std.proofs.Common.{◌≡◌, ℕ, zero, suc, ◌+◌, ◌<◌, not, Bool, true, false, if◌then◌else◌, List, [], ◌∷◌, ◌++◌, length, get_or, reverse, refl, ap, sym}
use Rattle.std.{proofs.{Common.{◌∙◌, subst, arith, append_assoc, append-nil, length-append, ◌≤◌}, lemmas.List.reverse-append}, specs.List.filter}
use Rattle.pas_threads.proofs.Common.{get_or_default, Op, is_active, numbers_from, idle_threads, numbers_count, picked, count_of, is_in, is_out, AreSized}
use Rattle.pas_threads.{proofs.Common.{AreDistinct, Worker}, specs.Dealing.IsPut}

-- A place within a list has an item.
pub some_item : {A : Type 0} (xs : List A) (i : ℕ) → i < length xs → A
some_item [] i bad = absurd (omega (arith, bad))
some_item (x ∷ xs) i lt = x

-- ---- what is picked
-- There are as many picked things of a list as chosen places.
pub picked_many : {A : Type 0} (chosen : ℕ → Bool) (xs : List A) → length (picked chosen xs) ≡ count_of chosen (length xs)
picked_many chosen [] = refl
picked_many chosen (x ∷ xs) = search (arith, chosen 0, picked_many (λ i. chosen (suc i)) xs)

-- what stands at a place that is chosen stands behind all that is picked before it
picked_at : {A : Type 0} (chosen : ℕ → Bool) (xs : List A) (i : ℕ) (d : A) → i < length xs → chosen i ≡ true
    → (count_of chosen i < length (picked chosen xs)) × (get_or (picked chosen xs) (count_of chosen i) d ≡ get_or xs i d)
picked_at chosen [] i d bad on = absurd (omega (arith, bad))
picked_at chosen (x ∷ xs) zero d lt on = search (arith, chosen 0)
picked_at chosen (x ∷ xs) (suc i) d lt on = search (arith, chosen 0, picked_at (λ j. chosen (suc j)) xs i d (omega (arith, lt)) on)

-- What is picked stood at a place that is chosen.
abbrev pub IsPlaced : {A : Type 0} → (ℕ → Bool) → List A → ℕ → Type 0
IsPlaced chosen xs n = (i : ℕ) × (i < length xs) × (chosen i ≡ true) × (count_of chosen i ≡ n)

-- .. counted from a place on that is chosen or not
abbrev count_from : (ℕ → Bool) → ℕ → Bool → ℕ
count_from chosen n t = if t then suc (count_of chosen n) else count_of chosen n

placed : {A : Type 0} (chosen : ℕ → Bool) (xs : List A) (n : ℕ) → n < length (picked chosen xs) → IsPlaced chosen xs n
placed chosen [] n bad = absurd (omega (arith, bad))
placed chosen (x ∷ xs) n lt = at (chosen 0) refl (placed (λ j. chosen (suc j)) xs) n lt
  where
    at : (b : Bool) → chosen 0 ≡ b → ((n : ℕ) → n < length (picked (λ j. chosen (suc j)) xs) → IsPlaced (λ j. chosen (suc j)) xs n)
        → (n : ℕ) → n < length (if b then x ∷ picked (λ j. chosen (suc j)) xs else picked (λ j. chosen (suc j)) xs) → IsPlaced chosen (x ∷ xs) n
    at true on rest zero lt = (0, omega arith, on, refl)
    at true on rest (suc n) lt =
        let its = rest n (omega (arith, lt)) in
        (suc its.0, omega (arith, its.1), its.2, ap (count_from (λ j. chosen (suc j)) its.0) on ∙ ap suc its.3)
    at false off rest n lt = let its = rest n lt in (suc its.0, omega (arith, its.1), its.2, ap (count_from (λ j. chosen (suc j)) its.0) off ∙ its.3)

module _ {A : Type 0} (chosen : ℕ → Bool) (all : List A) {some : List A} (is : some ≡ picked chosen all) where
  -- What stands at a chosen place is at its rank among what is picked.
  pub dealt_at : (i : ℕ) → i < length all → chosen i ≡ true
      → (count_of chosen i < length some) × ((d e : A) → get_or some (count_of chosen i) d ≡ get_or all i e)
  dealt_at i lt on =
      subst (λ xs. (count_of chosen i < length xs) × ((d e : A) → get_or xs (count_of chosen i) d ≡ get_or all i e)) (sym is)
      ((picked_at chosen all i (some_item all i lt) lt on).0, λ d e. (picked_at chosen all i d lt on).1 ∙ get_or_default all i d e lt)

  -- Each of what is picked stood at a chosen place of that rank.
  pub dealt_from : (n : ℕ) → n < length some → IsPlaced chosen all n
  dealt_from n lt = placed chosen all n (subst (λ xs. n < length xs) is lt)

-- One place more is counted where it is chosen.
count_more : (chosen : ℕ → Bool) (n : ℕ) (t : Bool) → chosen n ≡ t → count_of chosen (suc n) ≡ (if t then 1 else 0) + count_of chosen n
count_more chosen zero t is = search arith
count_more chosen (suc n) t is = search (arith, chosen 0, count_more (λ i. chosen (suc i)) n t is)

-- ---- numbers of threads
pub number_at : (k n i : ℕ) → i < n → get_or (numbers_from k n) i 0 ≡ k + i
number_at k zero i bad = absurd (omega (arith, bad))
number_at k (suc n) zero lt = let is : k ≡ k + 0 = omega arith in is
number_at k (suc n) (suc i) lt = number_at (k + 1) n i (omega (arith, lt)) ∙ (let is : k + 1 + i ≡ k + suc i = omega arith in is)

-- the numbers that are chosen are picked by their places
filter_picked : (chosen at : ℕ → Bool) (k n : ℕ) → ((i : ℕ) → at i ≡ chosen (k + i)) → filter chosen (numbers_from k n) ≡ picked at (numbers_from k n)
filter_picked chosen at k zero same = refl
filter_picked chosen at k (suc n) same =
    let here : at 0 ≡ chosen k = same 0 ∙ ap chosen (let is : k + 0 ≡ k = omega arith in is) in
    let later = λ (i : ℕ). same (suc i) ∙ ap chosen (let is : k + suc i ≡ k + 1 + i = omega arith in is) in
    cc (here, filter_picked chosen (λ i. at (suc i)) (k + 1) n later)

-- ---- the threads that are idle
module _ (threads : ℕ) (ops : List Op) where
  abbrev idle : ℕ → Bool
  idle i = not (is_active ops (suc i))

  pub idle_are : idle_threads threads ops ≡ picked idle (numbers_from 1 threads)
  idle_are = filter_picked (λ k. not (is_active ops k)) idle 1 threads (λ i. ap (λ k. not (is_active ops k)) (let is : suc i ≡ 1 + i = omega arith in is))

  -- An idle thread of a phase stands among them at its rank.
  pub idle_at : (i : ℕ) → i < threads → idle i ≡ true
      → (count_of idle i < length (idle_threads threads ops)) × (get_or (idle_threads threads ops) (count_of idle i) 0 ≡ suc i)
  idle_at i lt off =
      let is : 1 + i ≡ suc i = omega arith in
      let at = dealt_at idle (numbers_from 1 threads) idle_are i (omega (arith, lt, numbers_count 1 threads)) off in
      (at.0, at.1 0 0 ∙ (number_at 1 threads i lt ∙ is))

  -- Each of them is such a thread.
  pub idle_from : (n : ℕ) → n < length (idle_threads threads ops)
      → (i : ℕ) × (i < threads) × (idle i ≡ true) × (count_of idle i ≡ n) × (get_or (idle_threads threads ops) n 0 ≡ suc i)
  idle_from n lt =
      let at = dealt_from idle (numbers_from 1 threads) idle_are n lt in
      let less : at.0 < threads = omega (arith, at.1, numbers_count 1 threads) in
      (at.0, less, at.2, at.3, subst (λ m. get_or (idle_threads threads ops) m 0 ≡ suc at.0) at.3 (idle_at at.0 less at.2).1)

  -- The idle threads of a phase are distinct, and none is the scavenger.
  pub idle_distinct : AreDistinct (λ i. get_or (idle_threads threads ops) i 0) (length (idle_threads threads ops))
  idle_distinct = record {
    threads = λ i lt is. omega (arith, is, (idle_from i lt).4);
    apart = λ i j lt lt' ne same.
        let a = idle_from i lt in
        let b = idle_from j lt' in
        ne (sym a.3 ∙ ap (count_of idle) (let is : a.0 ≡ b.0 = omega (arith, same, a.4, b.4) in is) ∙ b.3);
  }

-- ---- dealing, and taking back
-- which places behind the first k are chosen
abbrev pub behind : (ℕ → Bool) → ℕ → ℕ → Bool
behind chosen k i = chosen (k + i)

-- Those that are left, the last one first, are dealt behind these: the others are all of these hands and of these that are lent.
abbrev pub Piles : (chosen : ℕ → Bool) (k : ℕ) (left hands lent all_hands all_lent : List Worker) → Type 0
Piles chosen k left hands lent all_hands all_lent = (hands ++ picked (behind (is_in chosen) k) (reverse left) ≡ all_hands)
    × (lent ++ picked (behind (is_out chosen) k) (reverse left) ≡ all_lent)

all_left : (chosen : ℕ → Bool) (left : List Worker) {pile all : List Worker} → pile ≡ [] → all ≡ reverse left
    → pile ++ picked (behind chosen 0) (reverse left) ≡ picked chosen all
all_left chosen left none is = search arith

-- While all are left, none of them is on a pile.
pub piles_begin : (chosen : ℕ → Bool) (left : List Worker) {hands lent all : List Worker} → hands ≡ [] → lent ≡ [] → all ≡ reverse left
    → Piles chosen 0 left hands lent (picked (is_in chosen) all) (picked (is_out chosen) all)
piles_begin chosen left none none' is = (all_left (is_in chosen) left none is, all_left (is_out chosen) left none' is)

-- While none is left, all are there.
pub piles_end : (chosen : ℕ → Bool) (k : ℕ) (hands lent : List Worker) {left : List Worker} → left ≡ [] → Piles chosen k left hands lent hands lent
piles_end chosen k hands lent none = (rw (none, append-nil), rw (none, append-nil))

-- the last of those that are left is put there, or it isn't
module _ (chosen : ℕ → Bool) (k n : ℕ) (is : n ≡ k + 1) (left : List Worker) {before : List Worker} (w : Worker) (last : before ≡ left ++ w ∷ []) where
  next_behind : (λ i. behind chosen k (suc i)) ≡ behind chosen n
  next_behind = λ j i. chosen ((let at : k + suc i ≡ n + i = omega (arith, is) in at) j)

  next_picked : (t : Bool) → chosen k ≡ t
      → picked (behind chosen k) (reverse before) ≡ (if t then w ∷ picked (behind chosen n) (reverse left) else picked (behind chosen n) (reverse left))
  next_picked t on =
      let here : behind chosen k 0 ≡ t = ap chosen (let at : k + 0 ≡ k = omega arith in at) ∙ on in
      rw (last, reverse-append left (w ∷ [])) (cc (here, next_behind))

  pile_next : (t : Bool) → chosen k ≡ t → (pile : List Worker) {pile' : List Worker} → pile' ≡ (if t then pile ++ w ∷ [] else pile)
      → pile ++ picked (behind chosen k) (reverse before) ≡ pile' ++ picked (behind chosen n) (reverse left)
  pile_next true on pile put = cc (next_picked true on, append_assoc pile (w ∷ []) (picked (behind chosen n) (reverse left)), put)
  pile_next false off pile put = ap (λ ws. pile ++ ws) (next_picked false off) ∙ ap (λ ws. ws ++ picked (behind chosen n) (reverse left)) (sym put)

pile_sized : (chosen : ℕ → Bool) (k n : ℕ) (t : Bool) (pile pile' : List Worker) (w : Worker) → n ≡ k + 1 → chosen k ≡ t
    → pile' ≡ (if t then pile ++ w ∷ [] else pile) → length pile' ≡ count_of chosen n → length pile ≡ count_of chosen k
pile_sized chosen k n t pile pile' w is on put size =
    let more = ap (count_of chosen) (let at : n ≡ suc k = omega (arith, is) in at) ∙ count_more chosen k t on in
    search (arith, size, more, ap length put, length-append, t)

some_on : (chosen : ℕ → Bool) (k n : ℕ) (pile : List Worker) → n ≡ k + 1 → chosen k ≡ true → length pile ≡ count_of chosen n → 0 < length pile
some_on chosen k n pile is on size =
    omega (arith, size, ap (count_of chosen) (let at : n ≡ suc k = omega (arith, is) in at) ∙ count_more chosen k true on)

-- One worker more makes a pile longer by one at most.
pub put_few : (t : Bool) (w : Worker) (pile : List Worker) {pile' : List Worker} → pile' ≡ (if t then pile ++ w ∷ [] else pile) → length pile' ≤ length pile + 1
put_few t w pile put = search (arith, ap length put, length-append, t)

module _ (chosen : ℕ → Bool) (k n : ℕ) (t : Bool) (is : n ≡ k + 1) (on : is_in chosen k ≡ t) where
  -- The last of those that are left is put there.
  pub piles_go_on : (left hands lent : List Worker) {before hands' lent' ins outs : List Worker} (w : Worker) → before ≡ left ++ w ∷ []
      → IsPut t w hands lent hands' lent' → Piles chosen k before hands lent ins outs → Piles chosen n left hands' lent' ins outs
  piles_go_on left hands lent w last put piles =
      let own = pile_next (is_in chosen) k n is left w last t on hands put.0 in
      let others = pile_next (is_out chosen) k n is left w last (not t) (ap not on) lent put.1 in
      (sym own ∙ piles.0, sym others ∙ piles.1)

  -- .. or it is taken back
  pub piles_go_back : (left hands lent : List Worker) {before hands' lent' ins outs : List Worker} (w : Worker) → before ≡ left ++ w ∷ []
      → IsPut t w hands lent hands' lent' → Piles chosen n left hands' lent' ins outs → Piles chosen k before hands lent ins outs
  piles_go_back left hands lent w last put piles =
      let own = pile_next (is_in chosen) k n is left w last t on hands put.0 in
      let others = pile_next (is_out chosen) k n is left w last (not t) (ap not on) lent put.1 in
      (own ∙ piles.0, others ∙ piles.1)

  -- Then there are as many of both as of the threads before it.
  pub sized_back : (hands lent : List Worker) {hands' lent' : List Worker} (w : Worker) → IsPut t w hands lent hands' lent' → AreSized chosen n hands' lent'
      → AreSized chosen k hands lent
  sized_back hands lent {hands'} {lent'} w put sized =
      let own = pile_sized (is_in chosen) k n t hands hands' w is on put.0 sized.0 in
      (own, pile_sized (is_out chosen) k n (not t) lent lent' w is (ap not on) put.1 sized.1)

  -- It is there to be taken.
  pub one_there : (hands lent : List Worker) → AreSized chosen n hands lent → (t ≡ true → 0 < length hands) × (t ≡ false → 0 < length lent)
  one_there hands lent sized = (
    λ awake. some_on (is_in chosen) k n hands is (on ∙ awake) sized.0,
    λ idle. some_on (is_out chosen) k n lent is (ap not (on ∙ idle)) sized.1,
  )
