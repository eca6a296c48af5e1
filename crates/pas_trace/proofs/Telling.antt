-- The checks by what the reader keeps are those of the items before.
use Rattle.std.proofs.Common.{◌≡◌, ℕ, ◌+◌, ◌*◌, nat_lt, nat_le, Bool, true, false, not, List, [], ◌∷◌, ◌++◌, Option, None, Some, Ok, refl, sym, ap, arith, ◌<◌}
use Rattle.std.proofs.Common.{◌≤◌, ◌==◌, ◌&&◌, if◌then◌else◌, length, get_or, set, ◌∙◌, eq-eqb, ne_eqb, le-leb, subst, add-one, leb-true, rules}
use Rattle.std.proofs.{Math.ListN.length-set, lemmas.{Bool.{cases_eq, and_parts}, Nat.mul-le}}
use Rattle.pas_trace.specs.Wishes.{heap_in, sizing_in, name_made, name_freed, holds_of, is_large, asks_pages, heap_by, heap_made, is_name, IsFit}
use Rattle.pas_trace.specs.Reasons.{first_failed, is_thread, is_alignment, guard_after, guard_in, cost_of, cost_of_wish, record_bound, few_enough, may_free}
use Rattle.pas_trace.specs.Reasons.{checks_of, reason_of, operations_in, is_named, line_says, actor_of, is_operation, is_large_request, large_requests}
use Rattle.pas_trace.specs.Reasons.{is_sampled, is_guarded, costs_of, cost_of_size, is_guard_number, actors_by, records_of_chore, is_phase, makes, heap_of}
use Rattle.pas_trace.specs.{Reasons.started, Items.item_of_line, Gathering.{HasGathered, Gathers, is_scripting}, Told.{few_told, told_checks, has_owner}}
use Rattle.pas_trace.specs.Told.{may_free_told, Tells, TellsSamples, IsSampled, samples_next, keeper_told, owner_in, heap_told, NameTold, IsReady, CanSample}
use Rattle.pas_trace.specs.{Told.{IsCounted, IsOperated, IsGuarding, IsAdded, IsNextPhase}, declared.{fault.Reason.Reason, item.Item.Item}}
use Rattle.pas_trace.specs.declared.{item.{Item.TheVariants.{Guards, Operates, Scavenges, NextPhase}, Wish.Wish}, reader.Reader.Reader, samples.Samples.Samples}
use Rattle.pas_trace.specs.declared.{header.Header.Header, names.{Owner.Owner, Names.Names}, plan.{Chore.Chore, Op.Op, What.What}, gathered.Gathered.Gathered}
use Rattle.pas_trace.specs.Plans.{kept_costs, keeper_for, shared_by, phases_after, phases_in, own_costs, bound_of, bounds_upto, operation, what_wished}
use Rattle.pas_trace.{specs.Plans.{what_of_chore, add_last, line_of_newest}, proofs.{Costs.least_cost, Gathering.get_or-written, PassedChecks.FineCounts}}
use Rattle.pas_trace.proofs.PassedChecks.{own_passed, guard_passed, actor_within, counts_within, all_fit}
use Rattle.pas_profile.specs.{declared.profile.Profile.Profile, Profiles.IsValid}

-- ---- the tables tell what the checks ask
-- the bound with an operation; its cost goes by the `guard` line before it, and it is none itself
pub bound-after : (r : Reader) (items : List Item) (i : Item) → guard_after i (guard_in items) ≡ guard_in items → Tells r items
    → r.counts.bound + cost_of r.header.profile r.samples.guard i ≡ record_bound r.header.profile (i ∷ items)
bound-after r items i none t = search arith

-- two tests that say the same of each value
holds-same : {A : Type 0} (o : Option A) (test other : A → Bool) → ((x : A) → test x ≡ other x) → holds_of test o ≡ holds_of other o
holds-same o test other same = search arith

pub own-same : (r : Reader) (items : List Item) (t : ℕ) (w : Wish) → Tells r items
    → told_checks r (Operates t w) ≡ checks_of r.header.profile items (Operates t w)
own-same r items t w h =
    let f = r.header.profile in
    let list : Bool → Bool → Bool → List (Bool × Reason) → List (Bool × Reason) = λ fresh known free few.
    (is_thread f t, Reason.BadThread) ∷ (holds_of (λ h. nat_lt h f.heaps) (heap_in w), Reason.BadHeap) ∷ (holds_of (λ s. nat_le s.size (4096 * f.pages)) (sizing_in w), Reason.BadSize)
    ∷ (holds_of (λ s. is_alignment s.align) (sizing_in w), Reason.BadAlign) ∷ (fresh, Reason.NameTaken) ∷ (known, Reason.NameUnknown) ∷ (free, Reason.TooEarly) ∷ few in
    let named : (n : ℕ) → has_owner r n ≡ is_named items n = λ n. sym (h.names n).named in
    let fresh = holds-same (name_made w) (λ n. not (has_owner r n)) (λ n. not (is_named items n)) (λ n. ap not (named n)) in
    let known = holds-same (name_freed w) (has_owner r) (is_named items) named in
    -- each table that it reads has what the items tell of the name
    let free = holds-same (name_freed w) (may_free_told r t) (may_free items t) (λ n. search arith) in
    let few = few_told r (cost_of_wish r.samples.guard w) in
    let few-same : few_told r (cost_of r.header.profile r.samples.guard (Operates t w)) ≡ few_enough (operations_in items)
    (record_bound r.header.profile ((Operates t w) ∷ items)) = search (arith, bound-after) in cc (few-same)

-- ---- what a line says
pub says-item : (r : Reader) (items : List Item) (line : List ℕ) (i : Item) → Tells r items → Ok i ≡ item_of_line r.header.version r.started line
    → first_failed (told_checks r i) ≡ None
    → (line_says r.header items line ≡ Ok i) × (reason_of r.header.profile items i ≡ None)
says-item r items line i h e none = search (arith, own-same, bound-after)

-- ---- a request that passes its own checks stands by those of every operation
pub passed-then : (cs ds : List (Bool × Reason)) → first_failed cs ≡ None → first_failed (cs ++ ds) ≡ first_failed ds
passed-then [] ds e = refl
passed-then ((true, r) ∷ cs) ds e = passed-then cs ds e
passed-then ((false, r) ∷ cs) ds e = absurd (cc)

-- ---- the checks of a `guard` line, one after the other

-- ==== Which requests are guarded, by what the reader keeps.

-- ---- a count that is raised in one place
raised_where : (on : Bool) (xs : List ℕ) (t k more n : ℕ) → t < length xs → get_or xs k 0 ≡ n
    → get_or (if on then set xs t (get_or xs t 0 + more) else xs) k 0 ≡ (if on && (t == k) then n + more else n)
raised_where on xs t k more n lt told = search (arith, cases_eq, eq-eqb, get_or-written, ne_eqb)

width_where : (on : Bool) (xs : List ℕ) (t x : ℕ) → length (if on then set xs t x else xs) ≡ length xs
width_where on xs t x = search (arith, length-set)

-- ---- whether a request is guarded
module _ (f : Profile) (s : Samples) (items : List Item) (told : TellsSamples f s items) where
  -- the reader tells it by its counts
  guarded_same : (t : ℕ) (w : Wish) → t < 17 → (asks_pages w && samples_next s t) ≡ is_guarded items (Operates t w)
  guarded_same t w lt =
      ap (λ n. asks_pages w && is_sampled s.guard (n + 1)) (told.larges t lt) ∙ ap (λ g. asks_pages w && is_sampled g (large_requests t items + 1)) told.guard

  -- After a wish was sampled, the samples tell of the items with this one more.
  sampled : (new : Samples) (t : ℕ) (w : Wish) → t < 17 → IsSampled s new t (asks_pages w) (cost_of_wish 0 w) → TellsSamples f new (Operates t w ∷ items)
  sampled new t w lt h = search (arith, width_where, raised_where, guarded_same)

-- The keeper of a wish by what the reader keeps is that by the items before.
keeper_same : (r : Reader) (items : List Item) (t : ℕ) (w : Wish) → Tells r items → t < 17
    → keeper_told r t w ≡ keeper_for r.header.profile items (Operates t w)
keeper_same r items t w told lt =
    ap (λ on. if on then Some (r.header.profile.threads + t) else None) (guarded_same r.header.profile r.samples items told.samples t w lt)

-- ---- one request is counted
pub sampled_small : (s : Samples) (t size : ℕ) → size ≤ 2048
    → (false ≡ (is_large size && samples_next s t)) × IsSampled s s t (is_large size) (cost_of_size size)
sampled_small s t size within = search (arith, le-leb)

-- ---- the counts are small
large_is : (i : Item) → is_large_request i ≡ true → is_operation i ≡ true
large_is i is = search arith

-- whichever way the test goes
one_more : (large mine operates : Bool) (n m : ℕ) → (large ≡ true → operates ≡ true) → n ≤ m
    → (if large && mine then n + 1 else n) ≤ (if operates then m + 1 else m)
one_more a mine b n m is le = search arith

-- A thread has no more requests for whole pages than there are operations.
few_larges : (t : ℕ) (items : List Item) → large_requests t items ≤ operations_in items
few_larges t [] = omega arith
few_larges t (i ∷ items) = one_more _ _ _ _ _ (large_is i) (few_larges t items)

cheaper_item : (f : Profile) (guard : ℕ) (i : Item) → cost_of f 0 i ≤ cost_of f guard i
cheaper_item f guard i = search (arith, least_cost)

some_more : (on : Bool) (n m cost plain : ℕ) → plain ≤ cost → n ≤ m → (if on then n + plain else n) ≤ m + cost
some_more on n m cost plain least le = search arith

-- what keepers may make is counted among all costs
pub few_kept : (f : Profile) (k : ℕ) (items : List Item) → kept_costs f k items ≤ costs_of f items
few_kept f k [] = omega arith
few_kept f k (i ∷ items) = some_more _ _ _ _ _ (cheaper_item f _ i) (few_kept f k items)

-- ==== What the reader keeps after each item.

-- ---- costs
if-le : (b : Bool) (x y z : ℕ) → x ≤ z → y ≤ z → (if b then x else y) ≤ z
if-le b x y z p q = search arith

-- an actor's own costs are among all
pub own_costs-le : (f : Profile) (k : ℕ) (items : List Item) → own_costs f k items ≤ costs_of f items
own_costs-le f k [] = omega arith
own_costs-le f k (i ∷ items) =
    let h = own_costs-le f k items in
    let cost = cost_of f (guard_in items) i in
    if-le (actor_of i == k) (own_costs f k items + cost) (own_costs f k items) (costs_of f items + cost) (omega (arith, h)) (omega (arith, h))

-- a request of the thread may be counted
can-sample : (r : Reader) (items : List Item) (i : Item) (actor : ℕ) → Tells r items → FineCounts r.header.profile items i → actor ≤ 16
    → CanSample r.samples actor
can-sample r items i actor t fine le = search (arith, few_kept, few_larges)

-- An operation whose counts are fine may be counted for its actor.
ready : (r : Reader) (items : List Item) (i : Item) (actor cost : ℕ) → ((guard : ℕ) → guard_after i guard ≡ guard) → Tells r items
    → FineCounts r.header.profile items i → actor ≤ 16 → cost ≡ cost_of r.header.profile r.samples.guard i → IsReady r.counts actor cost
ready r items i actor cost same t fine le e = search (arith, bound-after, own_costs-le)

-- ---- names
-- an item that neither makes the name nor begins a phase leaves all that is told of it
kept-name : (i : Item) (items : List Item) (o : Owner) (p n : ℕ) → is_phase i ≡ false → makes i n ≡ false → NameTold o p items n → NameTold o p (i ∷ items) n
kept-name i items o p n phase none h = search arith

-- the heap of a name that is made, by heaps that are the same
heap-by-same : (heaps others : ℕ → ℕ) (heap freed : Option ℕ) → ((n : ℕ) → heaps n ≡ others n) → heap_by heaps heap freed ≡ heap_by others heap freed
heap-by-same heaps others a freed same = search arith

what-same : (f : Profile) (heaps others : ℕ → ℕ) (keeper : Option ℕ) (w : Wish) → ((n : ℕ) → heaps n ≡ others n)
    → what_wished f heaps keeper w ≡ what_wished f others keeper w
what-same f heaps others keeper w same = search arith

taken-by : (here : Bool) (t heap p : ℕ) (w : Wish) (items : List Item) (o o' : Owner) (n : ℕ) → heap_made (heap_of items) w ≡ heap
    → is_name (name_made w) n ≡ here → 1 ≤ t → o' ≡ (if here then record { thread = t; heap = heap; phase = p } else o) → NameTold o p items n
    → NameTold o' p (Operates t w ∷ items) n
taken-by a t heap p w items o o' n home is least e told = search (arith, ne_eqb, eq-eqb, kept-name)

-- ---- an item that is an operation, of a thread or of the scavenger
pub record IsOperation (f : Profile) (heaps : ℕ → ℕ) (keeper : Option ℕ) (guard : ℕ) (i : Item) (actor : ℕ) (what : What) (cost : ℕ) : Type 0 where
  pub operates : is_operation i ≡ true
  pub same_phase : is_phase i ≡ false
  pub same_guard : (g : ℕ) → guard_after i g ≡ g
  pub marks : (m : ℕ) → shared_by i m ≡ m
  pub thread : actor_of i ≡ actor
  pub costs : cost_of f guard i ≡ cost
  pub phases : (line : ℕ) (ps : List (List Op)) → phases_after f heaps keeper i line ps ≡ add_last (Some (operation line actor what)) ps

-- an operation is gathered behind those of the items before
gathered-more : (old new : Reader) (items : List Item) (i : Item) (actor : ℕ) (what : What) (cost : ℕ) → Tells old items
    → IsOperation old.header.profile (heap_of items) (keeper_for old.header.profile items i) old.samples.guard i actor what cost
    → new.header ≡ old.header → Gathers (add_last (Some (operation (old.line + 1) actor what))) old.gathered new.gathered
    → HasGathered (phases_in new.header.profile (i ∷ items)) new.gathered
gathered-more old new items i actor what cost t op header h =
    let f = old.header.profile in
    let line : old.line + 1 ≡ line_of_newest (i ∷ items) = ap (λ n. n + 1) t.line in
    let is : phases_in new.header.profile (i ∷ items) ≡ add_last (Some (operation (old.line + 1) actor what)) (phases_in f items) =
    ap (λ (g : Header). phases_in g.profile (i ∷ items)) header ∙ op.phases (line_of_newest (i ∷ items)) (phases_in f items)
    ∙ ap (λ n. add_last (Some (operation n actor what)) (phases_in f items)) (sym line) in
    subst (λ (ps : List (List Op)). HasGathered ps new.gathered) (sym is) (h.phases (phases_in f items) t.phases)

-- The reader tells of one operation more.
operated : (old new : Reader) (names : Names) (samples : Samples) (items : List Item) (i : Item) (actor : ℕ) (what : What) (cost : ℕ) → Tells old items
    → IsOperation old.header.profile (heap_of items) (keeper_for old.header.profile items i) old.samples.guard i actor what cost
    → IsReady old.counts actor cost → ((n : ℕ) → NameTold (owner_in names n) old.phase (i ∷ items) n) → TellsSamples old.header.profile samples (i ∷ items)
    → IsCounted (record old { line = old.line + 1; names = names; samples = samples }) new actor what cost
    → HasGathered (phases_in new.header.profile (i ∷ items)) new.gathered → Tells new (i ∷ items)
operated old new names samples items i actor what cost t op can told sampling h gathered =
    search (arith, bound-after, length-set, cases_eq, eq-eqb, get_or-written, ne_eqb)

-- what the names hold after an item
abbrev pub NamesAfter : Reader → Names → Item → Type 0
NamesAfter old names i =
    (items : List Item) → Tells old items → reason_of old.header.profile items i ≡ None → (n : ℕ) → NameTold (owner_in names n) old.phase (i ∷ items) n

-- .. and which requests are guarded
abbrev pub SamplesAfter : Reader → Samples → Item → Type 0
SamplesAfter old samples i =
    (items : List Item) → Tells old items → reason_of old.header.profile items i ≡ None → TellsSamples old.header.profile samples (i ∷ items)

small_thread : (old : Reader) (items : List Item) (t : ℕ) (w : Wish) → Tells old items → reason_of old.header.profile items (Operates t w) ≡ None → t < 17
small_thread old items t w told e =
    omega (arith, actor_within old.header.profile items (Operates t w) e, told.header.threads)

-- The reader tells of one item more.
added : (old new : Reader) (names : Names) (samples : Samples) (i : Item) (actor : ℕ) (what : What) (cost : ℕ)
    → ((items : List Item) → Tells old items → reason_of old.header.profile items i ≡ None
    → IsOperation old.header.profile (heap_of items) (keeper_for old.header.profile items i) old.samples.guard i actor what cost)
    → NamesAfter old names i → SamplesAfter old samples i
    → IsCounted (record old { line = old.line + 1; names = names; samples = samples }) new actor what cost → IsAdded old new i
added old new names samples i actor what cost op after sampling h = record {
  header = h.header;
  scripting = h.gathers.scripting;
  line = h.line;
  tells = λ items t e.
      let most = actor_within old.header.profile items i e in
      let threads : old.header.profile.threads ≤ 16 = t.header.threads in
      let is : actor_of i ≡ actor = (op items t e).thread in
      let can = ready old items i actor cost (op items t e).same_guard t (counts_within old.header.profile items i (op items t e).operates e) (omega (arith, most, threads, is)) (sym (op items t e).costs) in
      operated old new names samples items i actor what cost t (op items t e) can (after items t e) (sampling items t e) h
      (gathered-more old new items i actor what cost t (op items t e) h.header h.gathers);
}

-- A thread's operation that was counted is added to what the reader keeps.
pub added_wish : (old new : Reader) (t : ℕ) (w : Wish) → IsOperated (record old { line = old.line + 1 }) new t w (cost_of_wish old.samples.guard w)
    → IsAdded old new (Operates t w)
added_wish old new t w h =
    let f = old.header.profile in
    let cost = cost_of_wish old.samples.guard w in
    let what = what_wished f (heap_told old) (keeper_told old t w) w in
    let op : (items : List Item) → Tells old items → reason_of f items (Operates t w) ≡ None → IsOperation f (heap_of items) (keeper_for f items (Operates t w)) old.samples.guard (Operates t w) t what cost = search (arith, keeper_same, small_thread, what-same) in
    added old new h.names h.samples (Operates t w) t what cost op (λ items told e n. taken-by _ t _ old.phase w items _ _ n
    (heap-by-same _ _ (heap_in w) (name_freed w) (λ m. (told.names m).heap)) refl (own_passed old.header.profile items t w e).thread.0 (h.given n)
    (told.names n))
    (λ items told e. sampled f old.samples items told.samples h.samples t w (small_thread old items t w told e) h.sampled) h.counted

-- A chore that was counted is added to what the reader keeps.
pub added_chore : (old new : Reader) (c : Chore)
    → IsCounted (record old { line = old.line + 1 }) new 0 (what_of_chore c) (records_of_chore old.header.profile c) → IsAdded old new (Scavenges c)
added_chore old new c h =
    let f = old.header.profile in
    let cost = records_of_chore f c in
    let op : (items : List Item) → Tells old items → reason_of f items (Scavenges c) ≡ None → IsOperation f (heap_of items)
    (keeper_for f items (Scavenges c)) old.samples.guard (Scavenges c) 0 (what_of_chore c) cost = λ items told e.
    record { operates = refl; same_phase = refl; same_guard = λ g. refl; marks = λ m. refl; thread = refl; costs = refl; phases = λ line ps. refl } in
    added old new old.names old.samples (Scavenges c) 0 (what_of_chore c) cost op
    (λ items told e n. kept-name (Scavenges c) items (owner_in old.names n) old.phase n refl refl (told.names n)) (λ items told e. search arith) h

-- ---- a phase begins
phased : (old new : Reader) (items : List Item) → Tells old items → IsNextPhase (record old { line = old.line + 1 }) new
    → HasGathered (phases_in new.header.profile (NextPhase ∷ items)) new.gathered → Tells new (NextPhase ∷ items)
phased old new items t h gathered = search rules

-- A phase that was begun is added to what the reader keeps.
pub added_phase : (old new : Reader) → IsNextPhase (record old { line = old.line + 1 }) new → IsAdded old new NextPhase
added_phase old new h = record {
  header = h.header;
  scripting = h.gathers.scripting;
  line = h.line;
  tells = λ items t e. phased old new items t h (subst (λ (g : Header). HasGathered (phases_in g.profile (NextPhase ∷ items)) new.gathered) (sym h.header)
      (h.gathers.phases (phases_in old.header.profile items) t.phases));
}

-- ---- a `guard` line stands before all operations
none-costs : (f : Profile) (items : List Item) → started items ≡ false → costs_of f items ≡ 0
none-costs f [] none = refl
none-costs f (i ∷ items) none =
    let both : ((is_operation i) ≡ false) × ((started items) ≡ false) = search arith in
    -- whichever case it is
    let no_cost : cost_of f (guard_in items) i ≡ 0 = search arith in omega (arith, no_cost, none-costs f items both.1)

free-cost : (here : Bool) (n : ℕ) → n ≡ (if here then n + 0 else n)
free-cost here n = search arith

-- A line that sets the guard's number was added.
numbered : (old new : Reader) (n : ℕ) → IsGuarding (record old { line = old.line + 1 }) new (Some n) → IsAdded old new (Guards (Some n))
numbered old new n h = record {
  header = h.header;
  scripting = ap is_scripting h.gathered;
  line = h.line;
  tells = λ items t e.
      let f = old.header.profile in
      let held = guard_passed f items (Some n) e in
      let header = t.header in
      let pages : f.pages ≤ 16384 = header.pages in
      let few : f.threads ≤ 8 = held.few in
      let least : 1 ≤ n = leb-true 1 n (and_parts (nat_le 1 n) (nat_le n 1000000) held.number).0 in
      let some : (n == 0) ≡ false = ne_eqb n 0 (λ z. absurd (omega (arith, z, least))) in
      let costs = none-costs f items held.first in
      let before : record_bound f items ≡ f.threads * f.pages + costs_of f items = ap (λ g. actors_by g f.threads * f.pages + costs_of f items) held.single in
      let after : record_bound f (Guards (Some n) ∷ items) ≡ 2 * f.threads * f.pages + (costs_of f items + 0) = ap (λ b. (if b then f.threads else 2 * f.threads) * f.pages + (costs_of f items + 0)) some in
      let bound : old.counts.bound ≡ record_bound f items = t.bound in
      let now : new.counts.bound ≡ old.counts.bound + f.threads * f.pages = h.bound in
      let line : new.line ≡ old.line + 1 = h.line in
      let phase : new.phase ≡ old.phase = h.phase in
      let same_bound : new.counts.bound ≡ record_bound f (Guards (Some n) ∷ items) = omega (arith, now, bound, before, after) in
      record {
        header = subst (λ (g : Header). IsValid g.profile) (sym h.header) t.header;
        shared = h.shared ∙ t.shared;
        started = h.started ∙ t.started;
        line = line ∙ ap (λ n. n + 1) t.line;
        phase = omega (arith, phase, line, t.phase);
        names = λ m. rw (h.names, phase) (kept-name _ items _ old.phase m refl refl (t.names m));
        operations = h.operations ∙ t.operations;
        bound = same_bound ∙ ap (λ (g : Header). record_bound g.profile (Guards (Some n) ∷ items)) (sym h.header);
        small = omega (arith, now, bound, before, costs, mul-le f.threads f.pages 8 16384 few pages);
        width = ap length h.costs ∙ t.width;
        costs = λ k lt. ap (λ xs. get_or xs k 0) h.costs ∙ t.costs k lt ∙ free-cost _ _ ∙ ap (λ (g : Header). own_costs g.profile k (Guards (Some n) ∷ items)) (sym h.header);
        samples = search arith;
        phases = subst (λ (g : Gathered). HasGathered (phases_in new.header.profile (Guards (Some n) ∷ items)) g) (sym h.gathered)
            (subst (λ (g : Header). HasGathered (phases_in g.profile items) old.gathered) (sym h.header) t.phases);
      };
}

-- A guard's number that was noted is added to what the reader keeps.
pub added_guard : (old new : Reader) (n : Option ℕ) → is_guard_number n ≡ true → IsGuarding (record old { line = old.line + 1 }) new n
    → IsAdded old new (Guards n)
added_guard old new None number h = absurd (cc)
added_guard old new (Some n) number h = numbered old new n h

-- ---- bounds
pub bounds-more : (f : Profile) (items : List Item) (k bound : ℕ) (bounds more : List ℕ) → bounds ≡ bounds_upto f items k → bound ≡ bound_of f items k
    → more ≡ bounds ++ bound ∷ [] → more ≡ bounds_upto f items (k + 1)
bounds-more f items k bound bounds more e b m =
    m ∙ ap (λ xs. xs ++ bound ∷ []) e ∙ ap (λ n. bounds_upto f items k ++ n ∷ []) b ∙ sym (ap (λ n. bounds_upto f items n) (add-one k))

-- The bound of a thread is its cost and the region's pages.
pub bound-thread : (f : Profile) (items : List Item) (k : ℕ) → 1 ≤ k → k ≤ f.threads → f.pages + own_costs f k items ≡ bound_of f items k
bound-thread f items k some within = search (arith, ne_eqb, le-leb)

-- ==== What an item that passed its checks may do to the reader.

module _ (r : Reader) (items : List Item) (i : Item) (tells : Tells r items) (passed : reason_of r.header.profile items i ≡ None) where
  -- The actor of an item that passed its checks is at most 16.
  pub small_actor : (actor : ℕ) → actor_of i ≡ actor → actor ≤ 16
  small_actor actor is =
      omega (arith, actor_within r.header.profile items i passed, tells.header.threads, is)

  -- An operation that passed its checks may be counted for its actor, with its cost.
  pub ready_for : (actor cost : ℕ) → cost ≡ cost_of r.header.profile r.samples.guard i → is_operation i ≡ true → actor_of i ≡ actor
      → ((guard : ℕ) → guard_after i guard ≡ guard) → IsReady r.counts actor cost
  ready_for actor cost is_cost operates is same =
      ready r items i actor cost same tells (counts_within r.header.profile items i operates passed) (small_actor actor is) is_cost

  -- The actor of an operation that passed its checks can be sampled.
  pub sample_for : (actor : ℕ) → is_operation i ≡ true → actor_of i ≡ actor → CanSample r.samples actor
  sample_for actor operates is = can-sample r items i actor tells (counts_within r.header.profile items i operates passed) (small_actor actor is)

  -- The number of a guard item that passed its checks is one of a guard.
  pub guard_for : (n : Option ℕ) → i ≡ Guards n → is_guard_number n ≡ true
  guard_for n is = (guard_passed r.header.profile items n (subst (λ (j : Item). reason_of r.header.profile items j ≡ None) is passed)).number

  -- What a thread wishes by an item that passed its checks fits the profile.
  pub fit_for : (t : ℕ) (w : Wish) → i ≡ Operates t w → IsFit r.header.profile w
  fit_for t w is = all_fit r.header.profile items t w tells.header (own_passed r.header.profile items t w (rw is at passed))

-- ---- an operation was counted, by a reader that had given its name
-- A wish that makes a name is operated once it is sampled, its name has an owner, and its operation is counted.
pub named : (old mid new : Reader) (names : Names) (samples : Samples) (t name heap : ℕ) (w : Wish) (what : What) (cost : ℕ) → Some name ≡ name_made w
    → heap ≡ heap_made (heap_told old) w
    → what ≡ what_wished old.header.profile (heap_told old) (keeper_told old t w) w → mid ≡ record old { names = names; samples = samples }
    → IsSampled old.samples samples t (asks_pages w) (cost_of_wish 0 w)
    → ((n : ℕ) → owner_in names n ≡ (if n == name then record { thread = t; heap = heap; phase = old.phase } else owner_in old.names n))
    → IsCounted mid new t what cost → IsOperated old new t w cost
named old mid new names samples t name heap w what cost made home is same sampled given counted = record {
  names = names;
  samples = samples;
  sampled = sampled;
  given = search (arith, cases_eq, eq-eqb, ne_eqb);
  counted = rw (same, is) at counted;
}

no_keeper : (old : Reader) (t : ℕ) (w : Wish) → asks_pages w ≡ false → keeper_told old t w ≡ None
no_keeper old t w none = ap (λ large. if large && samples_next old.samples t then Some (old.header.profile.threads + t) else None) none

-- A wish that makes a name and asks for no pages is operated without being sampled.
pub renamed : (old mid new : Reader) (names : Names) (t name heap : ℕ) (w : Wish) (what : What) (cost : ℕ) → Some name ≡ name_made w
    → heap ≡ heap_made (heap_told old) w → asks_pages w ≡ false
    → what ≡ what_wished old.header.profile (heap_told old) None w → mid ≡ record old { names = names }
    → ((n : ℕ) → owner_in names n ≡ (if n == name then record { thread = t; heap = heap; phase = old.phase } else owner_in old.names n))
    → IsCounted mid new t what cost → IsOperated old new t w cost
renamed old mid new names t name heap w what cost made home none is same given counted =
    named old mid new names old.samples t name heap w what cost made home (cc (no_keeper old t w none)) same (search arith) given counted

-- A wish that makes no name and asks for no pages is operated once its operation is counted.
pub unnamed : (old mid new : Reader) (t : ℕ) (w : Wish) (what : What) (cost : ℕ) → None ≡ name_made w → asks_pages w ≡ false
    → what ≡ what_wished old.header.profile (heap_told old) None w → mid ≡ old → IsCounted mid new t what cost
    → IsOperated old new t w cost
unnamed old mid new t w what cost none small is same counted = record {
  names = old.names;
  samples = old.samples;
  sampled = search arith;
  given = λ n. ap (λ o. if is_name o n then record { thread = t; heap = heap_made (heap_told old) w; phase = old.phase } else owner_in old.names n) none;
  counted = search (arith, no_keeper);
}
