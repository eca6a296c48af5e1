-- One operation more: its lines are read, what is kept between two operations holds again, and the plan is made of them.
use Rattle.std.proofs.Common.{◌≡◌, ℕ, ◌+◌, ◌*◌, ◌^◌, ◌<◌, ◌≤◌, ◌||◌, Bool, true, false, if◌then◌else◌, List, [], ◌∷◌, ◌++◌, map, length, Option, None, Some, Ok}
use Rattle.std.proofs.{Common.{refl, ap, arith, length-append, Global, ne_eqb, ◌⊎◌, ◌/◌, ◌%◌, nat_eq, nat_lt, codes, ◌∙◌, eq-eqb}, lemmas.Bool.cases_eq}
use Rattle.std.{proofs.{lemmas.{Bool.false≢true, List.length-map}, Math.Nat.mod-lt}, specs.Global.Vec}
use denote.RawPtr.{null_ptr}
use Rattle.pas_profile.specs.declared.profile.Profile.{Profile}
use Rattle.pas_trace.specs.declared.{header.Header.Header, item.{Item.{Item, TheVariants.{NextPhase, Operates, Scavenges}}, Wish.TheVariants.{Asks, Frees}}}
use Rattle.pas_trace.specs.{declared.plan.{Op.Op, Phase.Phase, Plan.Plan, Chore.Chore}, Wishes.{name_made, is_name}, Reasons.{is_named, guard_in, record_bound}}
use Rattle.pas_trace.specs.{Reasons.{operations_in, kept}, Plans.{parsed, shared_in, add_last, phases_after, phases_in, all_bounds, ops_of, IsPlanOf}}
use Rattle.pas_trace.proofs.EveryPlan.{bounds_count, phases_within}
use Rattle.pas_generate.specs.{Draws.{drawn, draw, moved_by}, Requests.request_from, Lines.{line_of, tick_line}, Traces.IsJob, Operations.{State, place, none}}
use Rattle.pas_generate.specs.Operations.{freed, freeing_thread, allocation, after_allocation, free_of, after_free, allocates, begun, thread_of}
use Rattle.pas_generate.{specs.{Operations.{drawn_operation, after_drawn}, Meant.{heading, with_allocation, with_free, with_drawn}}, proofs.Checks.valid}
use Rattle.pas_generate.proofs.{Checks.{Counted, request-cost, tick-fine, pass-fine, IsRequested, allocation-fine, free-fine}, Splits.lacks-by, Says.IsWritten}
use Rattle.pas_generate.proofs.{Says.{allocation-says, free-says, tick-says, Reads, reads-both, reads-line, reads-said}, Listed.{IsListed, listed-past}}
use Rattle.pas_generate.proofs.Listed.{listed-next, listed-new, IsFreer, freer, Each, each-left, each-more, each-weaker}

-- ==== The plan of a text that is read, made of its items.

-- ---- vectors
holding : {X : Type 0} (heap : Global) (xs : List X) → length xs < 2 ^ 63 → Vec X
holding heap xs small = record { ptr = null_ptr; len = length xs; cap = length xs; alloc = heap; items = xs; ok = (refl, omega arith); small = small }

-- ---- phases
-- no phase is longer
abbrev AtMost : ℕ → List (List Op) → Type 0
AtMost n [] = Unit {0}
AtMost n (p ∷ ps) = (length p ≤ n) × AtMost n ps

most-more : (n : ℕ) (ps : List (List Op)) → AtMost n ps → AtMost (n + 1) ps
most-more n [] h = tt
most-more n (p ∷ ps) h = (omega (arith, h.0), most-more n ps h.1)

most-next : (n : ℕ) (ps : List (List Op)) → AtMost n ps → AtMost (n + 1) (ps ++ [] ∷ [])
most-next n [] h = (omega arith, tt)
most-next n (p ∷ ps) h = (omega (arith, h.0), most-next n ps h.1)

most-add : (n : ℕ) (op : Op) (ps : List (List Op)) → AtMost n ps → AtMost (n + 1) (add_last (Some op) ps)
most-add n op [] h = (omega arith, tt)
most-add n op (p ∷ []) h = (omega (arith, h.0, length-append p (op ∷ [])), tt)
most-add n op (p ∷ q ∷ ps) h = (omega (arith, h.0), most-add n op (q ∷ ps) h.1)

most-after : (f : Profile) (heaps : ℕ → ℕ) (keeper : Option ℕ) (n line : ℕ) (i : Item) (ps : List (List Op)) → AtMost n ps
    → AtMost (n + 1) (phases_after f heaps keeper i line ps)
most-after f heaps keeper n line b ps h = search (arith, most-more, most-next, most-add)

most-in : (f : Profile) (items : List Item) → AtMost (length items) (phases_in f items)
most-in f [] = (omega arith, tt)
most-in f (i ∷ items) =
    let rest = most-in f items in grind (arith, rest, most-after)

-- the phases with these operations
held : Global → (n : ℕ) → n < 2 ^ 63 → (ps : List (List Op)) → AtMost n ps → List Phase
held heap n small [] h = []
held heap n small (p ∷ ps) h = record { ops = holding heap p (omega (arith, h.0)) } ∷ held heap n small ps h.1

held-back : (heap : Global) (n : ℕ) (small : n < 2 ^ 63) (ps : List (List Op)) (h : AtMost n ps) → map ops_of (held heap n small ps h) ≡ ps
unfolding held holding
held-back heap n small [] h = refl
held-back heap n small (p ∷ ps) h = ap (λ qs. p ∷ qs) (held-back heap n small ps h.1)

-- ---- bounds
few-actors : (none : Bool) (threads : ℕ) → threads < 2 ^ 62 → (if none then threads else 2 * threads) + 1 < 2 ^ 63
few-actors a threads few = search arith

all-few : (f : Profile) (items : List Item) → f.threads < 2 ^ 62 → length (all_bounds f items) < 2 ^ 63
all-few f items few = search (arith, bounds_count, few-actors)

-- ---- a number above all names
abbrev above : Option ℕ → ℕ
above None = 0
above (Some n) = n + 1

abbrev limit_in : List Item → ℕ
limit_in [] = 0
limit_in (Operates t w ∷ items) = limit_in items + above (name_made w)
limit_in (i ∷ items) = limit_in items

below_more : (made : Option ℕ) (named : Bool) (n limit : ℕ) → is_name made n || named ≡ true → (named ≡ true → n < limit) → n < limit + above made
below_more a named n limit is before = search (arith, cases_eq, ne_eqb)

named_below : (items : List Item) (n : ℕ) → is_named items n ≡ true → n < limit_in items
named_below [] n is = absurd (false≢true is)
named_below (Operates t w ∷ items) n is = below_more (name_made w) (is_named items n) n (limit_in items) is (named_below items n)
named_below (i ∷ items) n is = named_below items n is

-- ---- the plan
pub plan-of : Global → (header : Header) (items : List Item) → length items < 2 ^ 62 → header.profile.threads < 2 ^ 62 → Plan
plan-of heap header items few threads =
    let f = header.profile in
    let small : length items < 2 ^ 63 = omega arith in
    record {
      version = header.version;
      profile = record f { shared = shared_in items };
      phases = record {
        phases = holding heap (held heap (length items) small (phases_in f items) (most-in f items))
            (omega (
              arith,
              length-map (held heap (length items) small (phases_in f items) (most-in f items)) ops_of,
              ap (λ ps. length ps) (held-back heap (length items) small (phases_in f items) (most-in f items)),
              phases_within f items,
            ));
      };
      guard = guard_in items;
      bounds = record { bounds = holding heap (all_bounds f items) (all-few f items threads) };
      total = record_bound f items;
      names_limit = limit_in items;
    }

-- A text that parses into not too many items has a plan.
pub has-plan : (heap : Global) (text : List ℕ) (header : Header) (items : List Item) → parsed text ≡ Ok (record { header = header; items = items })
    → length items < 2 ^ 62 → header.profile.threads < 2 ^ 62 → (plan : Plan) × IsPlanOf text plan
unfolding plan-of holding
has-plan heap text header items read few threads = (
  plan-of heap header items few threads,
  record {
    items = items;
    header = header;
    read = read;
    version = refl;
    profile = refl;
    guard = refl;
    phases = held-back heap (length items) (omega arith) (phases_in header.profile items) (most-in header.profile items);
    bounds = refl;
    total = refl;
    names = named_below items;
  },
)

-- ==== One operation more: its lines are read, and what is kept between two operations holds again.

-- The names were given in order, the allocations that no line has freed were asked for, and there are so many operations and records.
pub record Follows (pages threads n : ℕ) (s : State) (items : List Item) : Type 0 where
  pub some_name : 1 ≤ s.next_name
  pub few_names : s.next_name ≤ n + 1
  pub fresh : (name : ℕ) → s.next_name ≤ name → is_named items name ≡ false
  pub listed : Each s.unfreed (λ a. IsListed threads s.phase s.next_name items a.name a.thread a.phase)
  pub counted : Counted pages threads n items

-- the text is read after these items, and leaves those, at that state
pub record Step (pages threads n : ℕ) (items : List Item) (text : List ℕ) (now : State) (after : List Item) : Type 0 where
  pub reads : Reads (heading pages threads) items text after
  pub follows : Follows pages threads (n + 1) now after

-- the counts after an item
one-more : (pages threads n : ℕ) (items : List Item) → operations_in items ≡ n → operations_in items + 1 ≡ n + 1
one-more pages threads n items e = ap (λ k. k + 1) e

-- ---- ticks and passes
pub tick-step : (ops threads pages n : ℕ) (s : State) (items : List Item) → IsJob ops threads pages → n < ops → Follows pages threads n s items
    → Step pages threads n items (tick_line ((n + 1) / 1000 + 1)) s (Scavenges (Chore.Tick ((n + 1) / 1000 + 1)) ∷ items)
tick-step ops threads pages n s items job more h =
    let e = (n + 1) / 1000 + 1 in
    record {
      reads = reads-said (heading pages threads) items (tick_line e) (Scavenges (Chore.Tick e)) (tick-says e (omega arith)) (tick-fine ops threads pages n items e job more h.counted);
      follows = search (arith, each-weaker, listed-past, one-more);
    }

-- A pass and the phase after it are read as the next items of a generated trace.
pub pass-step : (ops threads pages n : ℕ) (s : State) (items : List Item) → IsJob ops threads pages → n < ops → (n + 1) % 1000 ≡ 0
    → Follows pages threads n s items
    → Step pages threads n items (codes "pass\nphase\n") (record s { phase = s.phase + 1 }) (NextPhase ∷ Scavenges Chore.Pass ∷ items)
pass-step ops threads pages n s items job more turn h =
    record {
      reads = reads-both (heading pages threads) items (Scavenges Chore.Pass ∷ items) (NextPhase ∷ Scavenges Chore.Pass ∷ items) (codes "pass\n") (codes "phase\n")
          (reads-line (heading pages threads) items (codes "pass") (Scavenges Chore.Pass) (lacks-by 10 (codes "pass") refl) (ap (kept (Scavenges Chore.Pass)) (pass-fine ops threads pages n items job more h.counted)))
          (reads-line (heading pages threads) (Scavenges Chore.Pass ∷ items) (codes "phase") NextPhase (lacks-by 10 (codes "phase") refl) refl);
      follows = search (arith, each-weaker, listed-next, listed-past, one-more);
    }

-- ---- allocations
aligned-small : (a : ℕ) → (a ≡ 16) ⊎ ((a ≡ 32) ⊎ (a ≡ 64)) → a < 2 ^ 64
aligned-small a b = search arith

allocation-step : (ops threads pages n t : ℕ) (s : State) (items : List Item) → IsJob ops threads pages → n < ops → 1 ≤ t → t ≤ threads
    → Follows pages threads n s items
    → Step pages threads n items (line_of (allocation t s)) (after_allocation t s) (with_allocation t s items)
allocation-step ops threads pages n t s items job more lo hi h =
    let name = s.next_name in
    let heap = (request_from s.x).heap in
    let size = (request_from s.x).size in
    let align = (request_from s.x).align in
    let v = valid s.x in
    let small : size ≤ 8192 = v.size in
    let i : Item = Operates t (Asks name heap size align) in
    let written : IsWritten t name heap size align = search (arith, aligned-small) in
    let requested : IsRequested threads t name heap size align items = assumption (h.fresh name (omega arith)) in
    record {
      reads = reads-said (heading pages threads) items (line_of (allocation t s)) i (allocation-says t name heap size align written)
          (allocation-fine ops threads pages n items t name heap size align job more h.counted requested);
      follows = record {
        some_name = omega arith;
        few_names = omega arith;
        fresh = λ other later. ap (λ (b : Bool). b || is_named items other) (ne_eqb name other (λ e. omega (arith, e, later))) ∙ h.fresh other (omega (arith, later));
        listed = each-more s.unfreed _ (λ a. IsListed threads s.phase (name + 1) (i ∷ items) a.name a.thread a.phase)
            (each-weaker s.unfreed _ _ (λ a l. listed-past threads s.phase name (name + 1) items i a.name a.thread a.phase (omega arith) (ne_eqb name a.name (λ e. omega (arith, e, l.before))) refl l) h.listed)
            (listed-new threads s.phase name items t (Asks name heap size align) (eq-eqb name name refl) h.some_name lo hi);
        counted = search (arith, one-more, request-cost);
      };
    }

-- ---- frees
drawn-below : (x n : ℕ) → 0 < n → drawn x n < n
unfolding drawn
drawn-below x n some = mod-lt (x / 2 ^ 33) some

free-step : (ops threads pages n t : ℕ) (s : State) (items : List Item) → IsJob ops threads pages → n < ops → 1 ≤ t → t ≤ threads → 0 < length s.unfreed
    → Follows pages threads n s items
    → Step pages threads n items (line_of (free_of t s)) (after_free s) (with_free t s items)
free-step ops threads pages n t s items job more lo hi some h =
    let within : place s < length s.unfreed = drawn-below (moved_by 1 s.x) (length s.unfreed) some in
    let name = (freed s).name in
    let l : IsListed threads s.phase s.next_name items name (freed s).thread (freed s).phase = h.listed (place s) none within in
    let b : IsFreer threads items name (freeing_thread t s) = freer threads s.phase s.next_name items name (freed s).thread (freed s).phase t l lo hi in
    let i : Item = Operates (freeing_thread t s) (Frees name) in
    record {
      reads = reads-said (heading pages threads) items (line_of (free_of t s)) i (free-says (freeing_thread t s) name (omega arith) l.some_name (omega arith))
          (free-fine ops threads pages n items (freeing_thread t s) name job more h.counted b.some_thread b.thread_within l.named b.late);
      follows = record {
        some_name = h.some_name;
        few_names = omega arith;
        fresh = h.fresh;
        listed = each-left s.unfreed (λ a. IsListed threads s.phase s.next_name (i ∷ items) a.name a.thread a.phase) (place s) (freed s) within
            (each-weaker s.unfreed _ _ (λ a l. listed-past threads s.phase s.next_name s.next_name items i a.name a.thread a.phase (omega arith) refl refl l) h.listed);
        counted = search (arith, one-more);
      };
    }

-- ---- either of the two
drawn-follows : (pages threads n : ℕ) (s : State) (items : List Item) → Follows pages threads n s items → Follows pages threads n (begun s) items
drawn-follows pages threads n s items h = record { some_name = h.some_name; few_names = h.few_names; fresh = h.fresh; listed = h.listed; counted = h.counted }

-- by the test and the number
some-left : (b : Bool) (n : ℕ) → (b || nat_eq n 0) ≡ false → 0 < n
some-left a n e = search arith

by-choice : (ops threads pages n : ℕ) (s : State) (items : List Item) (choice : Bool) → allocates s ≡ choice → IsJob ops threads pages → n < ops
    → Follows pages threads n s items
    → Step pages threads n items (line_of (drawn_operation threads s)) (after_drawn threads s) (with_drawn threads s items)
unfolding drawn_operation after_drawn with_drawn
by-choice ops threads pages n s items true e job more h =
    let below : draw 2 s.x threads < threads = drawn-below (moved_by 2 s.x) threads (omega arith) in
    rw e (allocation-step ops threads pages n (thread_of threads s) (begun s) items job more (omega arith) (omega arith) (drawn-follows pages threads n s items h))
by-choice ops threads pages n s items false e job more h =
    let below : draw 2 s.x threads < threads = drawn-below (moved_by 2 s.x) threads (omega arith) in
    let left : 0 < length s.unfreed = some-left (nat_lt (draw 1 s.x 8) 4) (length s.unfreed) e in
    rw e (free-step ops threads pages n (thread_of threads s) (begun s) items job more (omega arith) (omega arith) left (drawn-follows pages threads n s items h))

-- A drawn operation is read as the next item of a generated trace.
pub drawn-step : (ops threads pages n : ℕ) (s : State) (items : List Item) → IsJob ops threads pages → n < ops → Follows pages threads n s items
    → Step pages threads n items (line_of (drawn_operation threads s)) (after_drawn threads s) (with_drawn threads s items)
drawn-step ops threads pages n s items job more h = by-choice ops threads pages n s items (allocates s) refl job more h
