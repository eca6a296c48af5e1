-- Drawn requests are valid, and the checks of generated items hold.
use Rattle.std.proofs.Common.{◌≡◌, ℕ, zero, suc, ◌+◌, ◌*◌, ◌/◌, ◌^◌, ◌<◌, ◌≤◌, ◌⊎◌, inl, inr, Bool, true, false, cond, nat_eq, nat_lt, refl, arith, lit<, ◌==◌}
use Rattle.std.proofs.{Common.{nat_le, not, ◌||◌, if◌then◌else◌, List, [], ◌∷◌, length, None, Some, ap, ◌∙◌, le-leb, lt-ltb}, Math.Nat.{mod-lt, mul-le-mul}}
use Rattle.std.proofs.lemmas.Bool.{and_from, cases_lt}
use Rattle.pas_generate.specs.{Draws.{drawn, draw, moved_by}, Requests.{IsValid, lot, request_from}, Traces.IsJob, Meant.region}
use Rattle.pas_trace.specs.Reasons.{first_failed, is_thread, is_alignment, is_named, is_named_now, thread_of, operations_in, guard_after, guard_in}
use Rattle.pas_trace.specs.{Reasons.{cost_of_size, cost_of, costs_of, record_bound, few_enough, reason_of}, declared.{fault.Reason.Reason, item.Item.Item}}
use Rattle.pas_trace.{specs.declared.{item.{Item.TheVariants.{Operates, Scavenges}, Wish.TheVariants.{Asks, Frees}}, plan.Chore.Chore}, proofs.Costs.small_cost}
use Rattle.pas_trace.proofs.{Costs.large_cost, PassedChecks.AreHeld}

-- ==== Drawn requests are valid.

below : (x n : ℕ) → 0 < n → drawn x n < n
unfolding drawn
below x n some = mod-lt (x / 2 ^ 33) some

-- by the test
either : (P : ℕ → Type 0) (b : Bool) (m n : ℕ) → P m → P n → P (cond b m n)
either a b m n h k = search arith

abbrev IsAlign : ℕ → Type 0
IsAlign n = (n ≡ 16) ⊎ ((n ≡ 32) ⊎ (n ≡ 64))

align_of : (n : ℕ) → n < 3 → IsAlign (16 * 2 ^ n)
align_of zero small = inl refl
align_of (suc zero) small = inr (inl refl)
align_of (suc (suc zero)) small = inr (inr refl)
align_of (suc (suc (suc n))) small = absurd (omega arith)

-- by the two tests
sized : (a b c : ℕ) → a < 6144 → b < 1536 → c < 513 → (p q : Bool) → cond p (2049 + a) (cond q (513 + b) c) ≤ 8192
sized a b c f g h p q = search arith

-- Each drawn request is valid.
pub valid : (x : ℕ) → IsValid (request_from x)
valid x = record {
  heap = below (moved_by 1 x) 6 (lit< tt);
  size = sized (draw 3 x 6144) (draw 3 x 1536) (draw 3 x 513) (below (moved_by 3 x) 6144 (lit< tt)) (below (moved_by 3 x) 1536 (lit< tt)) (below (moved_by 3 x) 513 (lit< tt)) (nat_eq (lot x) 0) (nat_lt (lot x) 3);
  align = either IsAlign (nat_lt (lot x) 3) 16 (16 * 2 ^ draw 4 x 3) (inl refl) (align_of (draw 4 x 3) (below (moved_by 4 x) 3 (lit< tt)));
}

-- ==== The checks of generated items hold.

none-failed : (cs : List (Bool × Reason)) → AreHeld cs → first_failed cs ≡ None
none-failed [] h = refl
none-failed (c ∷ cs) h = ap (λ (t : Bool). if t then first_failed cs else Some c.1) h.0 ∙ none-failed cs h.1

-- ---- the counts
-- after so many operations there are so many, with few records: three for each of them, and one for each page at a pass. No operation has more than
-- two lines, and none is guarded
pub record Counted (pages threads n : ℕ) (items : List Item) : Type 0 where
  pub operations : operations_in items ≡ n
  pub unguarded : guard_in items ≡ 0
  pub costs : costs_of (region pages threads) items ≤ 3 * n + 4096 * (n / 1000)
  pub lines : length items ≤ 2 * n + 1

-- A request of at most 8,192 bytes may make three records at most.
pub request-cost : (size : ℕ) → size ≤ 8192 → cost_of_size size ≤ 3
request-cost size within = elim (cases_lt 2048 size) [
  | inl beyond ↦ omega (arith, large_cost size beyond, within)
  | inr few ↦ omega (arith, small_cost size few)
]

-- With one operation more there are still few enough.
few : (ops threads pages n : ℕ) (items : List Item) (i : Item) → IsJob ops threads pages → n < ops → ((guard : ℕ) → guard_after i guard ≡ guard)
    → Counted pages threads n items → cost_of (region pages threads) 0 i ≤ 4097
    → AreHeld (few_enough (operations_in items) (record_bound (region pages threads) (i ∷ items)))
few ops threads pages n items i job more same counted small = search (arith, mul-le-mul, lt-ltb, le-leb)

-- ---- ticks and passes
pub tick-fine : (ops threads pages n : ℕ) (items : List Item) (epoch : ℕ) → IsJob ops threads pages → n < ops → Counted pages threads n items
    → reason_of (region pages threads) items (Scavenges (Chore.Tick epoch)) ≡ None
tick-fine ops threads pages n items epoch job more counted =
    search (arith, none-failed, few)

-- A pass of a generated trace passes its checks.
pub pass-fine : (ops threads pages n : ℕ) (items : List Item) → IsJob ops threads pages → n < ops → Counted pages threads n items
    → reason_of (region pages threads) items (Scavenges Chore.Pass) ≡ None
pass-fine ops threads pages n items job more counted =
    search (arith, none-failed, few)

-- ---- allocations
thread-fine : (pages threads t : ℕ) → 1 ≤ t → t ≤ threads → is_thread (region pages threads) t ≡ true
thread-fine pages threads t lo hi = and_from (nat_le 1 t) (nat_le t threads) (le-leb 1 t lo) (le-leb t threads hi)

-- by computing, for each of the three
align-fine : (a : ℕ) → (a ≡ 16) ⊎ ((a ≡ 32) ⊎ (a ≡ 64)) → is_alignment a ≡ true
align-fine a b = search arith

-- the thread and the request are of the region, and no item has the name
pub record IsRequested (threads t name heap size align : ℕ) (items : List Item) : Type 0 where
  pub some_thread : 1 ≤ t
  pub thread_within : t ≤ threads
  pub known_heap : heap < 6
  pub small : size ≤ 8192
  pub aligned : (align ≡ 16) ⊎ ((align ≡ 32) ⊎ (align ≡ 64))
  pub fresh : is_named items name ≡ false

-- An allocation of a generated trace passes its checks.
pub allocation-fine : (ops threads pages n : ℕ) (items : List Item) (t name heap size align : ℕ) → IsJob ops threads pages → n < ops
    → Counted pages threads n items → IsRequested threads t name heap size align items
    → reason_of (region pages threads) items (Operates t (Asks name heap size align)) ≡ None
allocation-fine ops threads pages n items t name heap size align job more counted r =
    search (arith, request-cost, none-failed, thread-fine, lt-ltb, le-leb, align-fine, few)

-- ---- frees
pub free-fine : (ops threads pages n : ℕ) (items : List Item) (t name : ℕ) → IsJob ops threads pages → n < ops → Counted pages threads n items → 1 ≤ t
    → t ≤ threads → is_named items name ≡ true
    → ((t == thread_of items name) || not (is_named_now items name)) ≡ true → reason_of (region pages threads) items (Operates t (Frees name)) ≡ None
free-fine ops threads pages n items t name job more counted lo hi named early = search (arith, none-failed, thread-fine, few)
