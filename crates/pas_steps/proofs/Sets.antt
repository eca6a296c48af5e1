-- Effects on sets of grains and of pages, one after the other.
use Rattle.std.proofs.{Common.{◌≡◌, ℕ, Bool, true, false, ◌||◌, ◌==◌, if◌then◌else◌, inl, refl, ap, sym, subst, arith}, Math.Bool.or_self}
use Rattle.pas_steps.specs.{Calls.{Fate, Kept, Gained, Lost, later, nothing, put, freed, on_page, ClearAfter, Does, now, grain_fate}, Views.{View, Gives}}
use Rattle.pas_steps.{specs.Views.Stays, proofs.Calls.{does_then, does_as, clear_step}}

-- Two tests of which each follows from the other are equal.
pub same_truth : (a b : Bool) → (a ≡ true → b ≡ true) → (b ≡ true → a ≡ true) → a ≡ b
same_truth a b h e = grind arith

-- one fate on two sets
pub both_fates : (fate : Fate) (s t c : Bool) → later fate fate ≡ fate → (s || t) ≡ c
    → later (if s then fate else Kept) (if t then fate else Kept) ≡ (if c then fate else Kept)
both_fates fate s t c twice e = grind arith

-- A thing that was kept twice was kept.
pub kept_kept : (t : Bool) → later Kept (if t then Kept else Kept) ≡ Kept
kept_kept t = grind arith

-- ---- more grains of one page, the same grains in other words
pub put_both : {v w u : View} (a b c : ℕ → Bool) (page : ℕ) → Does (put a page) v w → Does (put b page) w u → ((x : ℕ) → (a x || b x) ≡ c x)
    → Does (put c page) v u
put_both {v} {w} {u} a b c page d e grains = search (arith, does_as, does_then, both_fates, or_self)

-- Grains that were put back are those of each equal set.
pub put_as : {v w : View} (a b : ℕ → Bool) (page : ℕ) → Does (put a page) v w → ((x : ℕ) → a x ≡ b x) → Does (put b page) v w
put_as a b page d same = does_as (put b page) d (λ x. inl (ap (λ t. if t then Lost else Kept) (same x))) (λ q. refl) (λ q h. h)

-- A set without grains was put back where nothing was done.
pub put_nothing : {v w : View} (a : ℕ → Bool) (page : ℕ) → Does nothing v w → ((x : ℕ) → a x ≡ false) → Does (put a page) v w
put_nothing {v} {w} a page d none = does_as (put a page) d (λ x. inl (ap (λ t. if t then Lost else Kept) (sym (none x)))) (λ q. refl) (λ q h. clear_step (page == q) q v w (λ stays. h))

-- ---- the page is clear then
pub put_freed : {v w u : View} (a pages : ℕ → Bool) (page : ℕ) → Does (put a page) v w → Does (on_page page Kept Gained) w u → ((q : ℕ) → (page == q) ≡ pages q)
    → Does (freed a pages) v u
put_freed {v} {w} {u} a pages page d e its = does_as _ (does_then d e) (λ x. inl refl) (λ q. kept_kept _) (λ q h. subst (λ t. ClearAfter t q v u) (grind arith) h)

-- Grains that were freed one set after the other were freed together.
pub freed_both : {v w u : View} (a p b q c r : ℕ → Bool) → Does (freed a p) v w → Does (freed b q) w u → ((x : ℕ) → (a x || b x) ≡ c x)
    → ((x : ℕ) → (p x || q x) ≡ r x) → Does (freed c r) v u
freed_both {v} {w} {u} a p b q c r d e grains pages = search (arith, does_as, does_then, both_fates)

-- A set without grains or pages was freed where nothing was done.
pub freed_nothing : {v w : View} (a p : ℕ → Bool) → Does nothing v w → ((x : ℕ) → a x ≡ false) → ((x : ℕ) → p x ≡ false) → Does (freed a p) v w
freed_nothing {v} {w} a p d none no_page = does_as (freed a p) d (λ x. inl (ap (λ t. if t then Lost else Kept) (sym (none x)))) (λ q. refl)
    (λ q h. subst (λ t. ClearAfter (if t then Gained else Kept) q v w) (sym (no_page q)) h)

-- ---- one thing that is given, or got and lost again
pub given_fate : (t : Bool) (g : ℕ) → later Kept (grain_fate (if t then Gives g else Stays)) ≡ (if t then Lost else Kept)
given_fate t g = grind arith

-- What was got and then lost is had as it was.
pub got_lost : (t had : Bool) → (t ≡ true → had ≡ false) → now (if t then Lost else Kept) (now (if t then Gained else Kept) had) ≡ had
got_lost t had lacked = grind arith
