-- What an item keeps that passed its checks.
use Rattle.std.proofs.Common.{◌≡◌, ℕ, ◌*◌, ◌<◌, ◌≤◌, nat_le, nat_lt, Bool, true, false, not, if◌then◌else◌, List, [], ◌∷◌, Option, None, Some, arith}
use Rattle.std.proofs.{Common.{MatchOption, ltb-true, leb-true}, lemmas.Bool.and_parts}
use Rattle.pas_profile.specs.{Classes.IsAlignment, Profiles.IsValid, declared.profile.Profile.Profile}
use Rattle.pas_trace.specs.{Wishes.{Sizing, heap_in, sizing_in, name_made, name_freed, holds_of, IsFit, IsFitSizing}, Reasons.{first_failed, is_alignment}}
use Rattle.pas_trace.specs.Reasons.{record_bound, few_enough, may_free, is_guard_number, guard_in, checks_of, reason_of, operations_in, started, is_operation}
use Rattle.pas_trace.specs.{Reasons.{is_named, actor_of}, EveryPlan.IsThread, declared.{fault.Reason.Reason, item.Item.{Item, TheVariants.{Guards, Operates}}}}
use Rattle.pas_trace.specs.declared.item.Wish.{Wish}

abbrev pub AreHeld : List (Bool × Reason) → Type 0
AreHeld [] = Unit {0}
AreHeld (c ∷ cs) = (c.0 ≡ true) × AreHeld cs

first_holds : (c : Bool) (r : Reason) (cs : List (Bool × Reason)) → first_failed ((c, r) ∷ cs) ≡ None → (c ≡ true) × (first_failed cs ≡ None)
first_holds c r cs e = search arith

all_hold : (cs : List (Bool × Reason)) → first_failed cs ≡ None → AreHeld cs
all_hold [] e = tt
all_hold (c ∷ cs) e = let p = first_holds c.0 c.1 cs e in (p.0, all_hold cs p.1)

-- Each check of an item that passed holds.
pub passes : (f : Profile) (items : List Item) (i : Item) → reason_of f items i ≡ None → AreHeld (checks_of f items i)
passes f items i e = all_hold (checks_of f items i) e

-- ---- what the checks say
-- A number that tests as an alignment is one.
pub aligns : (a : ℕ) → is_alignment a ≡ true → IsAlignment a
aligns a e = search (arith, and_parts)

-- What tests as not so is false.
pub is_not : (t : Bool) → not t ≡ true → t ≡ false
is_not t e = search arith

-- A choice that has something has it because its test holds.
pub if_some : {A : Type 0} (t : Bool) (o : Option A) (x : A) → (if t then o else None) ≡ Some x → (t ≡ true) × (o ≡ Some x)
if_some t o x e = search arith

pub record FineCounts (f : Profile) (items : List Item) (i : Item) : Type 0 where
  pub few : operations_in items < 1000000
  pub small : record_bound f (i ∷ items) ≤ 2000000

counts_fit : (f : Profile) (items : List Item) (i : Item) → AreHeld (few_enough (operations_in items) (record_bound f (i ∷ items))) → FineCounts f items i
counts_fit f items i h = record { few = ltb-true _ _ h.0; small = leb-true _ _ h.1.0 }

-- those of an operation of a thread, one by one
pub record OwnPassed (f : Profile) (items : List Item) (t : ℕ) (w : Wish) : Type 0 where
  pub thread : IsThread f t
  pub heap : holds_of (λ h. nat_lt h f.heaps) (heap_in w) ≡ true
  pub size : holds_of (λ s. nat_le s.size (4096 * f.pages)) (sizing_in w) ≡ true
  pub align : holds_of (λ s. is_alignment s.align) (sizing_in w) ≡ true
  pub fresh : holds_of (λ n. not (is_named items n)) (name_made w) ≡ true
  pub known : holds_of (is_named items) (name_freed w) ≡ true
  pub free : holds_of (may_free items t) (name_freed w) ≡ true
  pub counts : FineCounts f items (Operates t w)

-- A thread's operation that passed its checks passed each of its own.
pub own_passed : (f : Profile) (items : List Item) (t : ℕ) (w : Wish) → reason_of f items (Operates t w) ≡ None → OwnPassed f items t w
own_passed f items t w e =
    let held = passes f items (Operates t w) e in
    let thread_within : IsThread f t = let p = and_parts (nat_le 1 t) (nat_le t f.threads) held.0 in
    (leb-true _ _ p.0, leb-true _ _ p.1) in assumption (thread_within, counts_fit f items (Operates t w) held.1.1.1.1.1.1.1)

-- those of a `guard` line
pub record GuardPassed (f : Profile) (items : List Item) (n : Option ℕ) : Type 0 where
  pub first : started items ≡ false
  pub single : guard_in items ≡ 0
  pub number : is_guard_number n ≡ true
  pub few : f.threads ≤ 8

-- A guard item that passed its checks passed each of its own.
pub guard_passed : (f : Profile) (items : List Item) (n : Option ℕ) → reason_of f items (Guards n) ≡ None → GuardPassed f items n
guard_passed f items n e = search (arith, passes, and_parts)

-- ---- what any item gives
pub actor_within : (f : Profile) (items : List Item) (i : Item) → reason_of f items i ≡ None → actor_of i ≤ f.threads
actor_within f items i e = search (arith, own_passed)

-- An operation that passed its checks keeps all counts within their bounds.
pub counts_within : (f : Profile) (items : List Item) (i : Item) → is_operation i ≡ true → reason_of f items i ≡ None → FineCounts f items i
counts_within f items i o e = search (arith, own_passed, counts_fit, passes)

-- ---- tests of a value that may be there
pub held_both : {A : Type 0} (o : Option A) (test other : A → Bool) (P : A → Type 0) → ((x : A) → test x ≡ true → other x ≡ true → P x) → holds_of test o ≡ true
    → holds_of other o ≡ true → MatchOption o (Unit {0}) P
held_both o test other P all a b = search arith

fit_sizing : (f : Profile) → IsValid f → (s : Sizing) → nat_le s.size (4096 * f.pages) ≡ true → is_alignment s.align ≡ true → IsFitSizing f s
fit_sizing f valid s size align =
    let le = leb-true s.size _ size in
    record { small = omega (arith, valid.pages, le); within = omega (arith, le); aligned = aligns s.align align }

-- What a thread wishes by an item that passed its checks fits a valid profile.
pub all_fit : (f : Profile) (items : List Item) (t : ℕ) (w : Wish) → IsValid f → OwnPassed f items t w → IsFit f w
all_fit f items t w valid p = search (arith, held_both, ltb-true, fit_sizing)
