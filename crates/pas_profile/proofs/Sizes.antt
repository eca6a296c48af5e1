-- Sizes of classes, of all and of those of a region, and the search of the class list.
use Rattle.std.proofs.Common.{◌≡◌, ℕ, zero, suc, ◌<◌, Bool, true, ◌&&◌, refl, ◌≤◌, ◌==◌, leb, length, get_or, arith, inl, inr, ◌+◌, ◌*◌, ◌%◌, max, ltb, eqb}
use Rattle.std.proofs.Common.{false, if◌then◌else◌, List, drop, Some, None, ap, sym, ◌∙◌, subst, length-take, length-take-le, get_or-take, leb-true, eqb-true}
use Rattle.std.proofs.{Common.{lt-ltb, le-ltb, le-leb, ◌/◌, [], ◌∷◌, Option, div-add-mod', eq-eqb}, lemmas.Bool.{Decides.Decides-below_and, cases_lt, or_cases}}
use Rattle.std.proofs.lemmas.{Bool.{or_left, or_right, and_parts, lt-leb, and_left, and_from, cases_Bool, false≢true}, List.{get_or_past, drop_all}}
use Rattle.std.{proofs.{lemmas.Nat.Gcd.{dvd_of_mod-eq-zero, mod-eq-zero_of_dvd}, Math.{Seq.drop-cons, Nat.{dvd-add, dvd-mul_left_of_dvd}}}, specs.Int.◌∣◌}
use Rattle.pas_profile.specs.Classes.{class_sizes, IsClass, class_size, sizes_of, IsClassCount, class_grains, usable_grains, IsSlotStart}
use Rattle.pas_profile.specs.{Profiles.AreClassesFor, Routes.{first_class, route_of, route_with, route_without_class, Suits, IsSmallest, NoneSuits, IsRouteOf}}
use Rattle.pas_profile.specs.declared.{directory.Route.TheVariants.{Class, Bitfit, Large}, routing.TheConstants.CLASS_BY_GRAINS}

-- ==== What holds at each number below one that is written out, by computing it there.

-- the test answers true at each number below n
abbrev pub passes_below : (ℕ → Bool) → ℕ → Bool
passes_below f zero = true
passes_below f (suc n) = f n && passes_below f n

-- A test that all numbers below a bound pass is passed by each.
pub passes_at : (f : ℕ → Bool) (n k : ℕ) → passes_below f n ≡ true → k < n → f k ≡ true
passes_at f n k h lt = (Decides-below_and f (λ i. f i ≡ true) (passes_below f) (λ i. (λ e. e, λ e. e)) refl (λ i. refl) n).0 h k lt

-- ==== The sizes of all classes, and of those of a region.

-- ---- all classes
-- the test answers true of each class, and so of one
abbrev pub of_each_class : (ℕ → Bool) → Bool
of_each_class test = passes_below test 20

-- A test that all classes pass is passed by each class.
pub class_passes : (test : ℕ → Bool) → of_each_class test ≡ true → (class : ℕ) → IsClass class → test class ≡ true
class_passes test all class is = passes_at test 20 class all is

-- The size of each class is at most 1,024 bytes.
pub class_size_le : (class : ℕ) → class_size class ≤ 1024
class_size_le class = search (arith, cases_lt, leb-true, class_passes, leb, get_or_past)

-- ---- the classes of a region
pub count_le : (classes : ℕ) → IsClassCount classes → classes ≤ 20
count_le classes is = search (arith, or_cases, eqb-true)

-- The classes of a valid profile are sixteen or twenty.
pub count_of : (pages classes : ℕ) → AreClassesFor pages classes → IsClassCount classes
count_of pages classes is = search (arith, or_cases, or_right, or_left, and_parts)

-- There are at most so many sizes as classes.
sizes_le : (classes : ℕ) → length (sizes_of classes) ≤ classes
sizes_le classes = omega (arith, length-take classes class_sizes)

-- The size in the list at a class is the size of that class.
size_at : (classes class : ℕ) → class < classes → get_or (sizes_of classes) class 0 ≡ class_size class
size_at classes class lt = get_or-take classes class_sizes class 0 lt

size_le : (classes class : ℕ) → get_or (sizes_of classes) class 0 ≤ class_size class
size_le classes class = search (arith, cases_lt, size_at, get_or_past, sizes_le)

-- ==== The search of the class list, begun at a later class.

abbrev pub suits : ℕ → ℕ → ℕ → Bool
suits c size align = leb size c && eqb (c % align) 0

one_step : (cs : List ℕ) (i n size align : ℕ) → i < length cs →
    first_class (drop i cs) n size align ≡ (if suits (get_or cs i 0) size align then Some n else first_class (drop (suc i) cs) (n + 1) size align)
one_step cs i n size align h = ap (λ (l : List ℕ). first_class l n size align) (drop-cons cs i 0 h)

-- a class that doesn't suit is passed over, and so are the places past the last class
passed_over : (cs : List ℕ) (i size align : ℕ) → suits (get_or cs i 0) size align ≡ false →
    first_class (drop (i + 1) cs) (i + 1) size align ≡ first_class (drop i cs) i size align
passed_over cs i size align e = elim (cases_lt i (length cs)) [
  | inl h ↦ search (arith, one_step)
  | inr past ↦ cc (drop_all (i + 1) cs (omega (arith, past)), drop_all i cs past)
]

-- classes that are too small are passed over
small_ones : (cs : List ℕ) (size align i : ℕ) → ((k : ℕ) → k < i → get_or cs k 0 < size) →
    first_class (drop i cs) i size align ≡ first_class cs 0 size align
small_ones cs size align zero small = refl
small_ones cs size align (suc i) small =
    let turn : i + 1 ≡ suc i = omega arith in
    let here : suits (get_or cs i 0) size align ≡ false = and_left (leb size (get_or cs i 0)) (eqb (get_or cs i 0 % align) 0) (lt-leb _ _ (small i (omega arith))) in
    ap (λ k. first_class (drop k cs) k size align) (sym turn) ∙ passed_over cs i size align here
    ∙ small_ones cs size align i (λ k lt. small k (omega (arith, lt)))

-- the table's entry for so many grains: the classes below it have fewer grains, and those from it on at least as many
abbrev parts_at : ℕ → ℕ → Bool
parts_at grains k =
    if ltb k (get_or CLASS_BY_GRAINS grains 0) then leb (class_size k + 16) (16 * grains)
    else leb (16 * max grains 1) (class_size k)

abbrev parts_with : ℕ → Bool
parts_with grains = leb (get_or CLASS_BY_GRAINS grains 0) 19 && passes_below (λ k. parts_at grains k) 20

abbrev AtTable : ℕ → ℕ → Type 0
AtTable grains first = (first ≤ 19) × ((k : ℕ) → k < first → class_size k + 16 ≤ 16 * grains) × ((k : ℕ) → first ≤ k → k < 20 → 16 * max grains 1 ≤ class_size k)

-- the search from the table's class on answers as the whole search, and the classes from it on are large enough
pub record BeginsAt (classes size align first : ℕ) : Type 0 where
  pub rest : first_class (drop first (sizes_of classes)) first (max size 1) align ≡ first_class (sizes_of classes) 0 (max size 1) align
  pub large : (k : ℕ) → first ≤ k → k < 20 → max size 1 ≤ class_size k

-- The table's class for so many grains is where the search of a size may begin.
begins : (classes size align grains first : ℕ) → size ≤ 16 * grains → 16 * grains < size + 16 → AtTable grains first → BeginsAt classes size align first
begins classes size align grains first low high t = record {
  rest = small_ones (sizes_of classes) (max size 1) align first (λ k lt. omega (arith, size_le classes k, t.1 k lt, low, high));
  large = λ k ge lt. omega (arith, t.2 k ge lt, low, high);
}

-- The table by grains tells where the search for a size's class may begin.
pub begins_at : (classes size align grains : ℕ) → grains < 65 → size ≤ 16 * grains → 16 * grains < size + 16
    → BeginsAt classes size align (get_or CLASS_BY_GRAINS grains 0)
begins_at classes size align grains few low high = begins classes size align grains _ low high
    (let both = and_parts (leb (get_or CLASS_BY_GRAINS grains 0) 19) (passes_below (λ k. parts_at grains k) 20) (passes_at parts_with 65 grains refl few) in
    let each : (k : ℕ) → k < 20 → parts_at grains k ≡ true = λ k lt. passes_at (λ k. parts_at grains k) 20 k both.1 lt in
    let top : get_or CLASS_BY_GRAINS grains 0 ≤ 19 = leb-true _ _ both.0 in (
      top,
      (λ k lt. leb-true _ _ (rw lt-ltb at (each k (omega (arith, lt, top))))),
      (λ k ge lt. leb-true _ _ (rw le-ltb at (each k lt))),
    ))

-- a class of the region that suits is found where the search has come to it
pub found_at : (classes class size align : ℕ) → classes ≤ 20 → class < classes → suits (class_size class) size align ≡ true
    → first_class (drop class (sizes_of classes)) class size align ≡ Some class
found_at classes class size align few lt e =
    one_step (sizes_of classes) class class size align (omega (arith, lt, length-take-le classes class_sizes few))
    ∙ ap (λ b. if b then Some class else first_class (drop (suc class) (sizes_of classes)) (class + 1) size align)
    (ap (λ c. suits c size align) (size_at classes class lt) ∙ e)

-- one that doesn't suit is passed over
pub passed_at : (classes class size align : ℕ) → class < classes → suits (class_size class) size align ≡ false →
    first_class (drop (class + 1) (sizes_of classes)) (class + 1) size align ≡ first_class (drop class (sizes_of classes)) class size align
passed_at classes class size align lt e = passed_over (sizes_of classes) class size align (ap (λ c. suits c size align) (size_at classes class lt) ∙ e)

-- no class serves more than 1,024 bytes
pub none_above : (classes size align : ℕ) → 1024 < size → first_class (sizes_of classes) 0 (max size 1) align ≡ None
none_above classes size align h = cc (
  small_ones (sizes_of classes) (max size 1) align classes (λ k lt. omega (arith, size_le classes k, class_size_le k, h)),
  drop_all classes (sizes_of classes) (sizes_le classes),
)

-- what the search's answer makes of the route
pub route_found : (classes size align class : ℕ) → first_class (sizes_of classes) 0 (max size 1) align ≡ Some class → Class class ≡ route_of classes size align
route_found classes size align class e = sym (ap (λ o. route_with o (max size 1)) e)

-- past the last class nothing is left to search
pub after_all : (classes size align class : ℕ) → classes ≤ class
    → first_class (drop class (sizes_of classes)) class (max size 1) align ≡ first_class (sizes_of classes) 0 (max size 1) align
    → first_class (sizes_of classes) 0 (max size 1) align ≡ None
after_all classes size align class h e =
    sym e ∙ ap (λ (cs : List ℕ). first_class cs class (max size 1) align) (drop_all class (sizes_of classes) (omega (arith, h, sizes_le classes)))

-- A size above 2,048 bytes is for whole pages.
pub large_for : (classes size align : ℕ) → 2048 < size → Large ≡ route_of classes size align
large_for classes size align h =
    search (arith, none_above, lt-leb)

-- Sizes of classes, the slots of their pages, and what a route says.
-- Sizes are whole grains, of which a block has 1 to 64, and the slots cover 224 to 256 grains of a page.

-- The size of a class is sixteen times its grains.
pub class_size-grains : (class : ℕ) → IsClass class → class_size class ≡ 16 * class_grains class
class_size-grains class h = eqb-true _ _ (class_passes (λ c. eqb (class_size c) (16 * class_grains c)) refl class h)

-- The size of each class is of whole grains.
pub class_size_whole : (class : ℕ) → IsClass class → class_size class % 16 ≡ 0
class_size_whole class h = eqb-true _ _ (class_passes (λ c. eqb (class_size c % 16) 0) refl class h)

-- Each class has at least one grain.
pub class_grains_positive : (class : ℕ) → IsClass class → 1 ≤ class_grains class
class_grains_positive class h = leb-true _ _ (class_passes (λ c. leb 1 (class_grains c)) refl class h)

-- A slot of a class has at most 64 grains.
pub class_grains_le : (class : ℕ) → IsClass class → class_grains class ≤ 64
class_grains_le class h = leb-true _ _ (class_passes (λ c. leb (class_grains c) 64) refl class h)

-- The slots of a page cover at most its 256 grains.
pub usable_grains_le : (class : ℕ) → IsClass class → usable_grains class ≤ 256
usable_grains_le class h = leb-true _ _ (class_passes (λ c. leb (usable_grains c) 256) refl class h)

-- The slots of a page cover at least 224 of its grains.
pub usable_grains_ge : (class : ℕ) → IsClass class → 224 ≤ usable_grains class
usable_grains_ge class h = leb-true _ _ (class_passes (λ c. leb 224 (usable_grains c)) refl class h)

-- A slot lies within its page, and the page's first grain begins one.

-- The start of a slot is a grain of the page.
pub slot_lt : (class grain : ℕ) → IsClass class → IsSlotStart class grain → grain < 256
slot_lt class grain h s = omega (arith, s.within, class_grains_positive class h, usable_grains_le class h)

-- Each slot of a class ends on its page.
pub slot_end : (class grain : ℕ) → IsClass class → IsSlotStart class grain → grain + class_grains class ≤ 256
slot_end class grain h s = omega (arith, s.within, usable_grains_le class h)

-- The first slot of a page begins at its first grain.
pub first_slot : (class : ℕ) → IsClass class → IsSlotStart class 0
first_slot class h = search (arith, class_passes, class_grains_le, usable_grains_ge)

-- every slot of the class begins at a multiple of each alignment that divides the class's size
pub slot_aligned : (class grain page align : ℕ) → IsClass class → IsSlotStart class grain → 4096 % align ≡ 0 → class_size class % align ≡ 0
    → (page * 4096 + grain * 16) % align ≡ 0
slot_aligned class grain page align h s whole fits =
    let k = class_grains class in
    let turn : grain / k * class_size class ≡ grain * 16
    = ap (λ n. grain / k * n) (class_size-grains class h)
    ∙ (let it : grain / k * (16 * k) ≡ grain * 16 = omega (arith, s.aligned, div-add-mod' grain k) in it) in
    mod-eq-zero_of_dvd align (dvd-add align (dvd-mul_left_of_dvd align (dvd_of_mod-eq-zero align whole) page)
    (subst (λ n. align ∣ n) turn (dvd-mul_left_of_dvd align (dvd_of_mod-eq-zero align fits) (grain / k))))

-- What the search of the class list found, or that it found none.

abbrev Found : List ℕ → ℕ → ℕ → ℕ → ℕ → Type 0
Found cs n size align c = (i : ℕ) × (c ≡ n + i) × (i < length cs) × (suits (get_or cs i 0) size align ≡ true) × ((k : ℕ) → k < i → suits (get_or cs k 0) size align ≡ false)

abbrev Missing : List ℕ → ℕ → ℕ → Type 0
Missing cs size align = (k : ℕ) → k < length cs → suits (get_or cs k 0) size align ≡ false

found_later : (c : ℕ) (cs : List ℕ) (n size align class : ℕ) → suits c size align ≡ false → Found cs (n + 1) size align class
    → Found (c ∷ cs) n size align class
found_later c cs n size align class e f =
    (suc f.0, omega (arith, f.1), omega (arith, f.2), f.3, λ k. elim k as (λ k. k < suc f.0 → suits (get_or (c ∷ cs) k 0) size align ≡ false) [ zero ↦ λ lt. e | suc k ↦ λ lt. f.4 k (omega (arith, lt)) ])

-- A class that doesn't fit in front leaves none where there was none.
missing_later : (c : ℕ) (cs : List ℕ) (size align : ℕ) → suits c size align ≡ false → Missing cs size align → Missing (c ∷ cs) size align
missing_later c cs size align e f h lt = grind arith

-- A class that the search found fits, and no lower one does.
found : (cs : List ℕ) (n size align class : ℕ) → first_class cs n size align ≡ Some class → Found cs n size align class
found [] n size align class e = absurd (cc)
found (c ∷ cs) n size align class e = elim (cases_Bool (suits c size align)) [
  | inl good ↦
      search arith
  | inr bad ↦ found_later c cs n size align class bad (found cs (n + 1) size align class (cc))
]

-- Where the search found none, none fits.
missing : (cs : List ℕ) (n size align : ℕ) → first_class cs n size align ≡ None → Missing cs size align
missing [] n size align e = λ k lt. absurd (omega (arith, lt))
missing (c ∷ cs) n size align e = elim (cases_Bool (suits c size align)) [
  | inl good ↦ let here : Some n ≡ None = ap (λ b. if b then Some n else first_class cs (n + 1) size align) (sym good) ∙ e in absurd (cc)
  | inr bad ↦ missing_later c cs size align bad (missing cs (n + 1) size align (cc))
]

suits_from : (size align class : ℕ) → suits (class_size class) (max size 1) align ≡ true → Suits size align class
suits_from size align class e = search (arith, and_parts)

not_from : (size align class : ℕ) → suits (class_size class) (max size 1) align ≡ false → Suits size align class → ⊥
not_from size align class e s =
    search (arith, and_from, leb, eqb, le-leb, eq-eqb, false≢true)

-- the size of a class of the region, where the search reads it
read_size : (classes class size align : ℕ) (b : Bool) → class < classes → suits (get_or (sizes_of classes) class 0) size align ≡ b
    → suits (class_size class) size align ≡ b
read_size classes class size align b lt e = ap (λ c. suits c size align) (sym (size_at classes class lt)) ∙ e

smallest_from : (classes size align class : ℕ) → Found (sizes_of classes) 0 (max size 1) align class → IsSmallest classes size align class
smallest_from classes size align class f =
    let same : f.0 ≡ class = omega (arith, f.1) in
    let within : class < classes = omega (arith, f.2, same, sizes_le classes) in
    record {
      known = within;
      suits = suits_from size align class (read_size classes class (max size 1) align true within (rw same at f.3));
      smallest = λ k lt. not_from size align k (read_size classes k (max size 1) align false (omega (arith, lt, within)) (f.4 k (omega (arith, lt, same))));
    }

none_from : (classes size align : ℕ) → Missing (sizes_of classes) (max size 1) align → NoneSuits classes size align
none_from classes size align none k lt s = elim (cases_lt k (length (sizes_of classes))) [
  | inl within ↦ not_from size align k (read_size classes k (max size 1) align false lt (none k within)) s
  | inr beyond ↦ let past = get_or_past (sizes_of classes) k 0 beyond in let size_is = size_at classes k lt in omega (arith, past, size_is, s.room)
]

without_class : (classes size align : ℕ) → NoneSuits classes size align → IsRouteOf classes size align (route_without_class (max size 1))
without_class classes size align none = search (arith, cases_lt, lt-leb, le-leb)

-- The route with the class that the search found is the request's.
answered : (classes size align : ℕ) (o : Option ℕ) → first_class (sizes_of classes) 0 (max size 1) align ≡ o
    → IsRouteOf classes size align (route_with o (max size 1))
answered classes size align None e = without_class classes size align (none_from classes size align (missing (sizes_of classes) 0 (max size 1) align e))
answered classes size align (Some class) e = smallest_from classes size align class (found (sizes_of classes) 0 (max size 1) align class e)

-- the route is the smallest class that suits, and where none does a bit-fit page or whole pages
pub route_is : (classes size align : ℕ) → IsRouteOf classes size align (route_of classes size align)
route_is classes size align = answered classes size align (first_class (sizes_of classes) 0 (max size 1) align) refl

-- a route to a class
pub class_suits : (classes size align class : ℕ) → route_of classes size align ≡ Class class → IsSmallest classes size align class
class_suits classes size align class e = subst (IsRouteOf classes size align) e (route_is classes size align)

-- what suits a request is a class
pub class_known : (classes size align class : ℕ) → IsSmallest classes size align class → IsClass class
class_known classes size align class is = search (arith, cases_lt, get_or_past)

-- a route to a bit-fit page
pub bitfit_suits : (classes size align : ℕ) → route_of classes size align ≡ Bitfit → (size ≤ 2048) × NoneSuits classes size align
bitfit_suits classes size align e = subst (IsRouteOf classes size align) e (route_is classes size align)

-- a slot of the class to which a request goes begins at a multiple of the alignment
pub routed_slot_aligned : (classes size align class grain page : ℕ) → 4096 % align ≡ 0 → route_of classes size align ≡ Class class → IsSlotStart class grain
    → (page * 4096 + grain * 16) % align ≡ 0
routed_slot_aligned classes size align class grain page whole e s =
    let m = class_suits classes size align class e in
    slot_aligned class grain page align (class_known classes size align class m) s whole m.suits.aligned
