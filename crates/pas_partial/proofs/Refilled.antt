-- The lowest row of slots, as a run of grains and by the slots' first grains.
use Rattle.std.proofs.Common.{◌≡◌, ℕ, ◌+◌, ◌-◌, ◌*◌, ◌/◌, ◌%◌, ◌<◌, ◌≤◌, min, true, refl, ap, sym, ◌∙◌, subst, arith, inl, inr, leb, leb-true, true≢false}
use Rattle.std.proofs.{Common.{div-add-mod', ◌==◌, Bool, if◌then◌else◌, List, ◌++◌, Ok, false, eq-eqb}, Math.Nat.{add-mul, mod-lt, add-mul-mod_self_right}}
use Rattle.std.proofs.{Math.Nat.{mul-le-mul_right, suc-mul}, lemmas.{Bool.{cases_lt, and_from}, Nat.le-div}}
use Rattle.pas_bits.{specs.{Masks.{is_set, IsLowestPlace, IsRunEnd}, Runs.in_run, declared.mask.Mask4.Mask4}, proofs.Runs.{run_of, to_run}}
use Rattle.pas_partial.specs.{Rows.{IsInRow, IsFreeSlot, IsLowestRow, IsLowestRun, lowest_rows, rows}, Refills.{shared_directory, shared_slots}}
use Rattle.pas_profile.{specs.{Classes.{IsClass, class_grains, slots_of, usable_grains}, declared.directory.Directory.Directory}, proofs.Sizes.class_passes}
use Rattle.pas_profile.proofs.Sizes.{class_grains_positive, slot_end, slot_lt}
use Rattle.pas_segregated.specs.{Masks.start_of, Takes.{AreFreeSlots, in_starts}, Refills.{GetsSlots, Refills}, Stops.in_slots, declared.slots.Slots.Slots}
use Rattle.pas_segregated.proofs.Starts.{start_at, start_below}
use Rattle.pas_steps.{proofs.{Sets.same_truth, Called.{call_knows, call_then}, Calls.returns_are}, specs.{Evidence.Readings, Desks.Standing, Calls.Calls}}
use Rattle.pas_steps.specs.{Calls.{Kept, Gained, now}, Views.{View, holds, has_right, knows_backed}, declared.step.Made.Made}
use Rattle.pas_search.specs.{Placements.{IsPlaced, by_run, placing}, Allocates.served_by, Choices.choosing, Searches.{IsServed, MaySearch, Searches}}
use Rattle.pas_search.{specs.declared.{placing.Run.Run, serving.Served.Served}, proofs.TheBestPage.{KeepsNew, finds_as, finds_call, left_after}}
use Rattle.pas_rights.specs.Leaves.{MayLeave, Leaves}

-- ---- where slots end
-- after the slots of a page less is left of it than a slot
past_usable : (class : ℕ) → IsClass class → 256 < usable_grains class + class_grains class
past_usable class is = leb-true _ _ (class_passes (λ c. leb 257 (usable_grains c + class_grains c)) refl class is)

-- so places of slots that end on the page end within its slots
ends_usable : (class n first : ℕ) → IsClass class → first % class_grains class ≡ 0 → first + n * class_grains class ≤ 256
    → first + n * class_grains class ≤ usable_grains class
ends_usable class n first is aligned within =
    let k = class_grains class in let a = first / k in
    let place = div-add-mod' first k in let past = past_usable class is in
    elim (cases_lt (slots_of class) (a + n)) [
      | inl more ↦
          let le = mul-le-mul_right k more in let next = suc-mul (slots_of class) k in let sum = add-mul a n k in
          absurd (omega (arith, le, next, sum, place, aligned, past, within))
      | inr few ↦ let le = mul-le-mul_right k few in let sum = add-mul a n k in omega (arith, le, sum, place, aligned)
    ]

-- ---- the row in a mask of free grains
-- The run from the lowest free slot to where the free grains end, of four slots at most, is the lowest row.
pub placed_row : (class : ℕ) → IsClass class → (free : Mask4) (first end slots : ℕ) → IsLowestPlace free (class_grains class) (class_grains class) 256 first
    → IsRunEnd free first end → slots ≡ min ((end - first) / class_grains class) 4
    → IsPlaced (lowest_rows class) (is_set free) (record { first = first; grains = slots * class_grains class })
placed_row class is free first end slots lowest ends slots_is =
    let k = class_grains class in let q = (end - first) / k in
    let some = class_grains_positive class is in let place = lowest.place in
    let whole = div-add-mod' (end - first) k in let rest : (end - first) % k < k = mod-lt (end - first) (omega (arith, some)) in
    -- no grain of a slot is where the free ones end
    let free_to : (s : ℕ) → first ≤ s → s ≤ end → s + k ≤ 256 → ((x : ℕ) → s ≤ x → x < s + k → is_set free x ≡ true) → s + k ≤ end
    = λ s low at within set. elim (cases_lt end (s + k)) [
      | inl short ↦ absurd (true≢false (sym (set end at short) ∙ ends.clear (omega (arith, short, within))))
      | inr long ↦ long
    ] in
    let one : 1 ≤ q = le-div 1 (end - first) k (omega (arith, some)) (omega (arith, free_to first (omega arith) ends.above place.within place.set)) in
    let few : slots ≤ 4 = omega (arith, slots_is) in
    let less : slots * k ≤ q * k = mul-le-mul_right k (omega (arith, slots_is)) in
    let inside : first + slots * k ≤ end = omega (arith, less, whole, ends.above) in
    record {
      found = record { first = first; grains = slots * k };
      chosen = record {
        slots = slots;
        few = (omega (arith, slots_is, one), few);
        grains = refl;
        start = record { aligned = place.aligned; within = omega (arith, ends_usable class 1 first is place.aligned (omega (arith, place.within))) };
        within = ends_usable class slots first is place.aligned (omega (arith, inside, ends.within));
        free = λ x low high. ends.set x low (omega (arith, high, inside));
        lowest = λ s lt slot. lowest.lowest s lt (record { aligned = slot.0.aligned; within = slot_end class s is slot.0; set = slot.1 });
        last = λ few slot.
            let all : slots ≡ q = omega (arith, slots_is, few) in let same : slots * k ≡ q * k = ap (λ n. n * k) all in
            let far = free_to (first + slots * k) (omega arith) inside (slot_end class (first + slots * k) is slot.0) slot.1 in
            omega (arith, far, same, whole, rest);
      };
      run_is = refl;
    }

-- ---- the row as a mask
module _ (class : ℕ) (is : IsClass class) (r : Readings) (run : Run) (lowest : IsLowestRun class r run) (starts : Mask4)
    (are : AreFreeSlots class (in_run run.first run.grains) starts) where
  abbrev k : ℕ
  k = class_grains class

  -- the i-th slot lies in the run
  inside : (i : ℕ) → i < lowest.slots → run.first + i * k + k ≤ run.first + run.grains
  inside i lt = let le = mul-le-mul_right k lt in let next = suc-mul i k in omega (arith, le, next, lowest.grains)

  -- Each slot of the lowest run is free.
  slot : (i : ℕ) → i < lowest.slots → IsFreeSlot class r (run.first + i * k)
  slot i lt = let end = inside i lt in (
    record { aligned = add-mul-mod_self_right run.first i k ∙ lowest.start.aligned; within = omega (arith, end, lowest.within) },
    λ x low high. lowest.free x (omega (arith, low)) (omega (arith, high, end)),
  )

  has_slot : (i : ℕ) → i < lowest.slots → is_set starts (run.first + i * k) ≡ true
  has_slot i lt = let end = inside i lt in
      (are (run.first + i * k)).1 ((slot i lt).0, λ x low high. to_run run.first run.grains x (omega (arith, low)) (omega (arith, high, end)))

  first_set : is_set starts run.first ≡ true
  first_set = let none : run.first + 0 * k ≡ run.first = omega arith in subst (λ x. is_set starts x ≡ true) none (has_slot 0 lowest.few.0)

  -- a grain of the run is one of its i-th slot
  slot_of : (b : ℕ) → in_run run.first run.grains b ≡ true
      → (i : ℕ) × (i < lowest.slots) × (run.first + i * k ≤ b) × (b < run.first + i * k + k)
  slot_of b here =
      let at = run_of run.first run.grains b here in let i = (b - run.first) / k in
      let whole = div-add-mod' (b - run.first) k in let some = class_grains_positive class is in
      let rest : (b - run.first) % k < k = mod-lt (b - run.first) (omega (arith, some)) in (
        i,
        elim (cases_lt i lowest.slots) [
          | inl lt ↦ lt
          | inr le ↦ let more = mul-le-mul_right k le in absurd (omega (arith, more, whole, at.0, at.1, lowest.grains))
        ],
        omega (arith, whole, at.0),
        omega (arith, whole, rest, at.0),
      )

  -- The slots of the run have just its grains.
  covered : (b : ℕ) → b < 256 → in_run run.first run.grains b ≡ in_starts class starts b
  covered b lt = same_truth (in_run run.first run.grains b) (in_starts class starts b)
      (λ here. let at = slot_of b here in ap (is_set starts) (start_at class (run.first + at.0 * k) b (slot at.0 at.1).0 at.2 at.3) ∙ has_slot at.0 at.1)
      (λ set. let below = start_below class b is in ((are (start_of class b)).0 set).1 b below.0 below.1)

  to_row : (s : ℕ) → is_set starts s ≡ true → IsInRow (IsFreeSlot class r) run.first k 4 s
  to_row s set =
      let both = (are s).0 set in let some = class_grains_positive class is in
      let at = slot_of s (both.1 s (omega arith) (omega (arith, some))) in
      let same : start_of class s ≡ run.first + at.0 * k = start_at class (run.first + at.0 * k) s (slot at.0 at.1).0 at.2 at.3 in
      let own : start_of class s ≡ s = start_at class s s both.0 (omega arith) (omega (arith, some)) in
      (at.0, omega (arith, at.1, lowest.few.1), sym own ∙ same, λ j le. slot j (omega (arith, le, at.1)))

  from_row : (s : ℕ) → IsInRow (IsFreeSlot class r) run.first k 4 s → is_set starts s ≡ true
  from_row s here = elim (cases_lt here.0 lowest.slots) [
    | inl lt ↦ subst (λ x. is_set starts x ≡ true) (sym here.2) (has_slot here.0 lt)
    | inr le ↦ absurd (lowest.last (omega (arith, le, here.1)) (subst (λ n. IsFreeSlot class r (run.first + n)) (sym lowest.grains) (here.3 lowest.slots le)))
  ]

  -- The slots of the lowest run are the lowest row.
  lowest_row : IsLowestRow class r starts
  lowest_row = record {
    first = run.first;
    free = (lowest.start, λ x low high. (slot 0 lowest.few.0).1 x (omega (arith, low)) (omega (arith, high)));
    lowest = lowest.lowest;
    are = λ s. (to_row s, from_row s);
  }

-- What a search of shared pages found, as slots, once the page was left.
module _ (heap class : ℕ) (is : IsClass class) {tells : Bool} {σ σ1 : Standing} (served : Served Run)
    (searches : Searches (placing (lowest_rows class)) tells (shared_directory heap) σ σ1 (Ok served)) (mask starts : Mask4)
    (mask_is : (g : ℕ) → is_set mask g ≡ in_run served.found.first served.found.grains g) (whole : AreFreeSlots class (is_set mask) starts) where
  abbrev d : Directory
  d = shared_directory heap

  abbrev page : ℕ
  page = served.page

  abbrev run : Run
  run = served.found

  abbrev xs : List Made
  xs = searches.steps

  abbrev slots : Slots
  slots = record { page = served.page; heap = heap; class = class; starts = starts; right = false }

  -- The starts are those of the free slots of the run.
  are : AreFreeSlots class (in_run run.first run.grains) starts
  are s = (
    λ set. let both = (whole s).0 set in (both.0, λ x low high. sym (mask_is x) ∙ both.1 x low high),
    λ both. (whole s).1 (both.0, λ x low high. mask_is x ∙ both.1 x low high),
  )

  -- The run is the lowest one of the page's free slots.
  lowest : IsLowestRun class searches.outcome.serves.readings run
  lowest = let it = searches.outcome.serves.chosen in subst (IsLowestRun class searches.outcome.serves.readings) (sym it.run_is) it.chosen

  -- So the starts are the lowest row.
  row : IsLowestRow class searches.outcome.serves.readings starts
  row = lowest_row class is searches.outcome.serves.readings run lowest starts are

  -- what was found, as the slots' first grains
  found : IsServed (choosing (rows class)) σ.seat.profile d xs (served_by page starts)
  found = finds_as (by_run (lowest_rows class)) (IsLowestRow class) (in_starts class) page run starts
      (covered class is searches.outcome.serves.readings run lowest starts are) searches.outcome row searches.outcome.choice

  abbrev Found : View → View → Type 0
  Found v w = KeepsNew (choosing (rows class)) d (served_by page starts) v w

  new_call : Calls σ σ1 (MaySearch d) Found xs
  new_call = finds_call (choosing (rows class)) d (served_by page starts) searches.adds found

  -- the first grain, by its number in the region
  abbrev grain : ℕ
  grain = page * 256 + run.first

  -- The grain is of this page.
  here : page ≡ grain / 256
  here = let lt = slot_lt class run.first is lowest.start in omega (arith, lt)

  has_first : in_slots slots grain ≡ true
  has_first =
      let lt = slot_lt class run.first is lowest.start in let more = class_grains_positive class is in let bit : grain % 256 ≡ run.first = omega (arith, lt) in
      and_from (page == grain / 256) (in_starts class starts (grain % 256)) (eq-eqb page (grain / 256) here)
      (ap (in_starts class starts) bit ∙ ap (is_set starts) (start_at class run.first run.first lowest.start (omega arith) (omega (arith, more)))
      ∙ first_set class is searches.outcome.serves.readings run lowest starts are)

  may_leave : (v : View) → MaySearch d v → Found v (xs ++ v) → MayLeave page d (xs ++ v)
  may_leave v met kept = record { right = kept.found.keeps.does.right page ∙ ap (λ t. now (if t then Gained else Kept) (has_right v page)) (eq-eqb page page refl); deed = kept.found.deed }

  module _ {σ2 : Standing} (left : Leaves served.page (shared_directory heap) σ1 σ2) where
    all_call : Calls σ σ2 (MaySearch d) (GetsSlots d slots) (left.steps ++ xs)
    all_call = call_then (GetsSlots d slots) new_call (call_knows page d left.calls (λ v may. may.deed)) may_leave (λ v met kept b.
        let does = left_after (λ g. if in_slots slots g then Gained else Kept) page kept.found.keeps.does b.0.does in
        let held = λ (g : ℕ) (inside : in_slots slots g ≡ true). ap (λ t. now (if t then Gained else Kept) (holds v g)) inside in
        record {
          does = does;
          apart = kept.apart;
          backed = ap (knows_backed (left.steps ++ (xs ++ v))) here ∙ (b.0.does.backed grain refl (record { held = kept.found.keeps.does.held grain ∙ held grain has_first; backed = ap (knows_backed (xs ++ v)) (sym here) ∙ kept.found.keeps.backed })).backed;
          may_stop = record { clear = record { on = λ q. does.clear q (met.clear.on q) }; held = λ g inside. does.held g ∙ held g inside; deed = b.1; right = λ has. absurd (true≢false (sym has)) };
        })

    -- Slots that a search of shared pages found, once the page was left, are a refill without its right.
    pub refills_ok : Refills (shared_slots heap class) tells σ σ2
        (Ok (record { page = served.page; heap = heap; class = class; starts = starts; right = false }))
    refills_ok = record {
      searched = xs;
      searches = searches.searches;
      few = searches.few;
      after = left.steps;
      adds = all_call.adds;
      outcome = record {
        page = found.page;
        class_is = refl;
        home = refl;
        starts = λ s set. ((are s).0 set).0;
        some = (run.first, slot_lt class run.first is lowest.start, first_set class is searches.outcome.serves.readings run lowest starts are);
        took = found.serves;
        choice = found.choice;
        shows = found.shows;
        marks = found.marks;
        few = found.few;
        events = found.events;
        leaves = left.order;
        after_few = left.few;
        after_kinds = returns_are page left.steps left.returns;
        gets = all_call.leads;
      };
      told = λ t v l stood met. searches.told t v l stood met;
    }
