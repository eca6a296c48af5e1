-- How the parts of a kit are made, one after the other, and how many guarded requests the books of its keepers are made for.
use Rattle.std.proofs.Common.{if◌then◌else◌, [], ◌≡◌, ℕ, ◌+◌, List, ◌∷◌, ◌++◌, length, All, slice_index_or, Option, Some, None, ap, sym, ◌∙◌, subst, arith}
use Rattle.std.proofs.{Common.{length-append, zero, suc, ◌<◌, ◌≤◌, ◌==◌, map, drop, get_or, eq-eqb, ne_eqb, refl, ◌||◌}, lemmas.List.get_or_append_left}
use Rattle.std.proofs.{lemmas.List.{Elements.All-push, map-append}, Math.Seq.get_or-append_seam}
use Rattle.pas_acts.proofs.Common.{cases_lt, drop_more, AllByRecursion, cached, AreRooms, AreUnused, one_guarded, guarded_of, AreBooksFor, empty_cache, all_of}
use Rattle.pas_acts.proofs.Common.{all_front, all_back, Profile, keeper_in, all_ops, operations_of, records_of_ops, is_active, IsPlanOf, ops_of, Op, Plan}
use Rattle.pas_acts.proofs.{Common.{every_plan, guards_in, size_of_book, GuardBook}, PlanFacts.plan_planned, ActsOfPlan.ArePlanned}
use Rattle.pas_acts.specs.PlanKeepers.{keepers_by}
use Rattle.pas_cache.specs.declared.cache.ThreadCache.{ThreadCache}
use Rattle.pas_profile.specs.Rooms.{shown, size_of_room, EventRoom}
use Rattle.pas_trace.specs.{Acts.keepers_of, Plans.phases_of, declared.course.Course.Course, Codes.unlined, Courses.IsCourseOf, Scripts.without_lines}

-- the element that was put at the end
at_end : {A : Type 0} (xs : List A) (x d : A) (k : ℕ) → k ≡ length xs → slice_index_or (xs ++ x ∷ []) k d ≡ x
at_end xs x d k is = ap (λ i. slice_index_or (xs ++ x ∷ []) i d) is ∙ get_or-append_seam xs x [] d

-- What is so of each of a list by its place, and of one more at its end, is so of each of both.
each_next : {A : Type 0} (P : ℕ → A → Type 0) (n : ℕ) (xs after : List A) (x : A) → after ≡ xs ++ x ∷ [] → length xs ≡ n
    → ((k : ℕ) (d : A) → k < n → P k (slice_index_or xs k d)) → P n x → (k : ℕ) (d : A) → k < n + 1 → P k (slice_index_or after k d)
each_next {A} P n xs after x is many all this k d lt = search (arith, cases_lt, get_or_append_left, at_end)

-- .. and one more
pub next_room : {sizes : ℕ → Option ℕ} {count : ℕ} {rooms : List EventRoom} (after : List EventRoom) (room : EventRoom) → after ≡ rooms ++ room ∷ []
    → sizes count ≡ Some (size_of_room room) → shown room ≡ [] → AreRooms sizes count rooms → AreRooms sizes (count + 1) after
next_room {sizes} {count} {rooms} after room is size empty made =
    record {
      many = omega (arith, made.many, length-append rooms (room ∷ []), ap (λ rs. length rs) is);
      each = each_next (λ k (r : EventRoom). sizes k ≡ Some (size_of_room r)) count rooms after room is made.many made.each size;
      empty = subst (All (λ room. shown room ≡ [])) (sym is) (All-push (λ room. shown room ≡ []) rooms room made.empty empty);
    }

-- a room that was left wasn't handed out
pub left_room : {A : Type 0} (found : Option ℕ) (size : ℕ) → found ≡ None → found ≡ Some size → A
left_room found size none some = absurd (cc)

-- An empty list of caches is one of no thread.
pub none_unused : (caches : List ThreadCache) → caches ≡ [] → AreUnused 0 caches
none_unused caches none = record { many = ap (λ (cs : List ThreadCache). length cs) none; each = λ i d bad. absurd (omega (arith, bad)) }

-- One empty cache more makes the unused caches one more.
pub next_unused : {count : ℕ} {caches : List ThreadCache} (after : List ThreadCache) (cache : ThreadCache) → after ≡ caches ++ cache ∷ []
    → cached cache ≡ empty_cache → AreUnused count caches → AreUnused (count + 1) after
next_unused {count} {caches} after cache is empty made =
    record {
      many = omega (arith, made.many, length-append caches (cache ∷ []), ap (λ (cs : List ThreadCache). length cs) is);
      each = each_next (λ k (c : ThreadCache). cached c ≡ empty_cache) count caches after cache is made.many made.each empty;
    }

-- ---- counts
abbrev guards_of : ℕ → Op → ℕ
guards_of k op = if op.actor == k then one_guarded (keeper_in op.what) else 0

guarded_both : (k : ℕ) (xs ys : List Op) → guarded_of k (xs ++ ys) ≡ guarded_of k xs + guarded_of k ys
guarded_both k [] ys = omega arith
guarded_both k (x ∷ xs) ys = let rest = guarded_both k xs ys in omega (arith, rest)

-- .. which is said but for its line
pub said_next : (k : ℕ) (said : Op) (ops : List Op) (i : ℕ) → i < length ops → ((d : Op) → unlined said ≡ slice_index_or ops i d)
    → guarded_of k (drop i ops) ≡ guards_of k said + guarded_of k (drop (i + 1) ops)
said_next k said ops i lt at = (ap (λ (xs : List Op). guarded_of k xs) (drop_more ops i said lt))
    ∙ ap (λ (o : Op). guards_of k o + guarded_of k (drop (i + 1) ops)) (sym (at said))

pub active_next : (k : ℕ) (said : Op) (ops : List Op) (i : ℕ) → i < length ops → ((d : Op) → unlined said ≡ slice_index_or ops i d)
    → is_active (drop i ops) k ≡ ((said.actor == k) || is_active (drop (i + 1) ops) k)
active_next k said ops i lt at =
    ap (λ (os : List Op). is_active os k) (drop_more ops i said lt) ∙ ap (λ (o : Op). (o.actor == k) || is_active (drop (i + 1) ops) k) (sym (at said))

-- .. and of phases with one phase more
pub phases_next : {P : Type 0} (said : P → List Op) (k : ℕ) (phases : List P) (i : ℕ) (item : P) → i < length phases → item ≡ slice_index_or phases i item
    → guarded_of k (all_ops (map said (drop i phases))) ≡ guarded_of k (said item) + guarded_of k (all_ops (map said (drop (i + 1) phases)))
phases_next said k phases i item lt is = cc (drop_more phases i item lt, guarded_both k (said item) (all_ops (map said (drop (i + 1) phases))))

-- so many more of one actor
pub count_more : (a k more : ℕ) (counts : ℕ → ℕ) → (if a == k then counts a + more else counts k) ≡ counts k + (if a == k then more else 0)
count_more a k more counts = search (arith, eq-eqb, ne_eqb)

-- ---- each costs its plan a record at least
-- Operations have no more guarded requests than they may make records.
pub guarded_few : (f : Profile) (k : ℕ) (ops : List Op) → guarded_of k ops ≤ records_of_ops f ops
guarded_few f k [] = omega arith
guarded_few f k (op ∷ ops) = let rest = guarded_few f k ops in search (arith, rest)

-- ---- actors
-- The actor of each planned operation is below 17.
actors_within : (f : Profile) (ops : List Op) → f.threads ≤ 16 → ArePlanned f ops → AllByRecursion (λ (op : Op). op.actor < 17) ops
actors_within f [] few all = tt
actors_within f (op ∷ ops) few all = (grind arith, actors_within f ops few all.1)

-- What is so of each of a list is so of the one at a place.
pub all_at : {A : Type 0} (P : A → Type 0) (xs : List A) (i : ℕ) (d : A) → AllByRecursion P xs → i < length xs → P (get_or xs i d)
all_at P [] i d all lt = absurd (let bad : i < 0 = lt in omega (arith, bad))
all_at P (x ∷ xs) zero d all lt = all.0
all_at P (x ∷ xs) (suc i) d all lt = all_at P xs i d all.1 (omega (arith, lt))

-- what is so of all operations is so of those of a phase
pub phase_at : {Phase : Type 0} (said : Phase → List Op) (P : Op → Type 0) (phases : List Phase) (i : ℕ) (d : Phase)
    → AllByRecursion P (all_ops (map said phases)) → i < length phases → AllByRecursion P (said (get_or phases i d))
phase_at said P [] i d all lt = absurd (let bad : i < 0 = lt in omega (arith, bad))
phase_at said P (p ∷ phases) zero d all lt = all_front P (said p) (all_ops (map said phases)) all
phase_at said P (p ∷ phases) (suc i) d all lt = phase_at said P phases i d (all_back P (said p) (all_ops (map said phases)) all) (omega (arith, lt))

-- ---- without their lines
same_guarded : (k : ℕ) (ops : List Op) → guarded_of k (map unlined ops) ≡ guarded_of k ops
same_guarded k [] = refl
same_guarded k (op ∷ ops) = ap (λ (n : ℕ). guards_of k op + n) (same_guarded k ops)

all_unlined : (phases : List (List Op)) → all_ops (without_lines phases) ≡ map unlined (all_ops phases)
all_unlined [] = refl
all_unlined (phase ∷ phases) = ap (λ (ops : List Op). map unlined phase ++ ops) (all_unlined phases) ∙ sym (map-append unlined phase (all_ops phases))

-- What is said of the operations of a course is so of those of its plan.
module _ {P : Type 0} {said : P → List Op} {plan : Plan} {course : Course P} (same : IsCourseOf said plan course) where
  said_all : all_ops (map said course.phases.now) ≡ map unlined (operations_of plan)
  said_all = ap (λ (phases : List (List Op)). all_ops phases) same.phases ∙ all_unlined (map ops_of (phases_of plan.phases))

  pub course_guarded : (k : ℕ) → guarded_of k (all_ops (map said course.phases.now)) ≡ guarded_of k (operations_of plan)
  course_guarded k = ap (λ (ops : List Op). guarded_of k ops) said_all ∙ same_guarded k (operations_of plan)

  pub course_within : {text : List ℕ} → IsPlanOf text plan → AllByRecursion (λ (op : Op). op.actor < 17) (all_ops (map said course.phases.now))
  course_within {text} read = subst (λ (ops : List Op). AllByRecursion (λ (op : Op). op.actor < 17) ops) (sym said_all)
      (all_of (λ (op : Op). op.actor < 17) (λ (op : Op). op.actor < 17) unlined (operations_of plan) (λ op lt. lt)
      (actors_within plan.profile (operations_of plan) (every_plan read).valid.threads (plan_planned read)))

  pub course_keepers : keepers_by course.guard course.profile.threads ≡ keepers_of plan
  course_keepers = ap (λ (n : ℕ). keepers_by n course.profile.threads) same.guard ∙ ap (λ (f : Profile). keepers_by plan.guard f.threads) same.profile

-- ---- books
pub no_books : (places : ℕ → ℕ) (books : List GuardBook) → books ≡ [] → AreBooksFor 0 places books
no_books places books none = search arith

-- An empty book with enough places for the next keeper makes the books one more.
pub next_book : {many : ℕ} {places : ℕ → ℕ} {books : List GuardBook} (after : List GuardBook) (book : GuardBook) → after ≡ books ++ book ∷ []
    → guards_in book ≡ [] → size_of_book book ≡ places (many + 1) → AreBooksFor many places books → AreBooksFor (many + 1) places after
next_book {many} {places} {books} after book is empty size made =
    record {
      many = omega (arith, made.many, length-append books (book ∷ []), ap (λ (bs : List GuardBook). length bs) is);
      empty = each_next (λ k (b : GuardBook). guards_in b ≡ []) many books after book is made.many made.empty empty;
      places = each_next (λ k (b : GuardBook). size_of_book b ≡ places (k + 1)) many books after book is made.many made.places size;
    }

-- with other numbers that are the same
pub same_books : {many many' : ℕ} {places places' : ℕ → ℕ} {books : List GuardBook} → many ≡ many' → ((k : ℕ) → places k ≡ places' k)
    → AreBooksFor many places books → AreBooksFor many' places' books
same_books {many} {many'} {places} {places'} {books} same alike made = search (arith, made.many, made.empty, made.places)
