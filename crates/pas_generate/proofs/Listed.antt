-- The allocations that no line has freed, against the items so far.
use Rattle.std.proofs.Common.{◌≡◌, ◌≢◌, ℕ, ◌+◌, ◌-◌, ◌<◌, ◌≤◌, ◌==◌, nat_eq, Bool, true, false, not, ◌||◌, if◌then◌else◌, List, [], ◌∷◌, ◌++◌, length, set}
use Rattle.std.proofs.{Common.{get_or, All, swap_remove, arith, eq-eqb, ne_eqb}, lemmas.{Bool.{cases_eq, false_from_ne_true}, List.Elements.All-push}}
use Rattle.std.proofs.lemmas.List.Elements.{All-take, All-set, All-get_or, All-weaker}
use Rattle.pas_trace.specs.{Wishes.{name_made, is_name}, Reasons.{makes, is_phase, is_named, is_named_now, thread_of}, declared.item.Item.Item}
use Rattle.pas_trace.specs.declared.item.{Item.TheVariants.{NextPhase, Operates}, Wish.Wish}

-- The name was asked for before the next one, by the thread; and if in the present phase, then at this one.
pub record IsListed (threads phase next : ℕ) (items : List Item) (name thread at : ℕ) : Type 0 where
  pub some_name : 1 ≤ name
  pub before : name < next
  pub named : is_named items name ≡ true
  pub thread_is : thread_of items name ≡ thread
  pub some_thread : 1 ≤ thread
  pub thread_within : thread ≤ threads
  pub now : is_named_now items name ≡ true → at ≡ phase

-- an item that doesn't make the name and begins no phase changes nothing
pub listed-past : (threads phase next more : ℕ) (items : List Item) (i : Item) (name thread at : ℕ) → next ≤ more → makes i name ≡ false → is_phase i ≡ false
    → IsListed threads phase next items name thread at
    → IsListed threads phase more (i ∷ items) name thread at
listed-past threads phase next more items i name thread at le other same h = search arith

-- in a new phase there is no name yet
pub listed-next : (threads phase next : ℕ) (items : List Item) (name thread at : ℕ) → IsListed threads phase next items name thread at
    → IsListed threads (phase + 1) next (NextPhase ∷ items) name thread at
listed-next threads phase next items name thread at h = search arith

-- the name that is asked for: this item names it, and is of its thread
pub listed-new : (threads phase next : ℕ) (items : List Item) (t : ℕ) (w : Wish) → is_name (name_made w) next ≡ true → 1 ≤ next → 1 ≤ t → t ≤ threads
    → IsListed threads phase (next + 1) (Operates t w ∷ items) next t phase
listed-new threads phase next items t w same some lo hi = search arith

-- ---- the thread that frees it
-- the thread is of the region, and no free comes too early
pub record IsFreer (threads : ℕ) (items : List Item) (name t : ℕ) : Type 0 where
  pub some_thread : 1 ≤ t
  pub thread_within : t ≤ threads
  pub late : ((t == thread_of items name) || not (is_named_now items name)) ≡ true

-- by the test
or-true : (b : Bool) → (b || true) ≡ true
or-true a = search arith

own-thread : (threads phase next : ℕ) (items : List Item) (name thread at : ℕ) → IsListed threads phase next items name thread at
    → IsFreer threads items name thread
own-thread threads phase next items name thread at h = search (arith, eq-eqb)

other-thread : (threads phase next : ℕ) (items : List Item) (name thread at t : ℕ) → IsListed threads phase next items name thread at → at ≢ phase → 1 ≤ t
    → t ≤ threads → IsFreer threads items name t
other-thread threads phase next items name thread at t h past lo hi = search (arith, false_from_ne_true, or-true)

-- A listed allocation may be freed by its own thread, or after its phase by any.
pub freer : (threads phase next : ℕ) (items : List Item) (name thread at t : ℕ) → IsListed threads phase next items name thread at → 1 ≤ t → t ≤ threads
    → IsFreer threads items name (if nat_eq at phase then thread else t)
freer threads phase next items name thread at t h lo hi = search (arith, cases_eq, eq-eqb, own-thread, ne_eqb, other-thread)

-- ---- elements of a list
abbrev pub Each : {A : Type 0} → List A → (A → Type 0) → Type 0
Each xs P = All P xs

-- What is so of each of a list is so after one was swapped out.
pub each-left : {A : Type 0} (xs : List A) (P : A → Type 0) (i : ℕ) (d : A) → i < length xs → Each xs P → Each (swap_remove xs i d) P
each-left xs P i d within h =
    let last : P (get_or xs (length xs - 1) d) = All-get_or P xs (length xs - 1) d (omega arith) h in
    All-take P (length xs - 1) (set xs i (get_or xs (length xs - 1) d)) (All-set P xs i (get_or xs (length xs - 1) d) last h)

-- What is so of each of a list is so with one more of which it is so.
pub each-more : {A : Type 0} (xs : List A) (x : A) (P : A → Type 0) → Each xs P → P x → Each (xs ++ x ∷ []) P
each-more xs x P h p = All-push P xs x h p

-- What is so of each of a list is so in any weaker form.
pub each-weaker : {A : Type 0} (xs : List A) (P Q : A → Type 0) → ((x : A) → P x → Q x) → Each xs P → Each xs Q
each-weaker xs P Q f h = All-weaker P Q f xs h
