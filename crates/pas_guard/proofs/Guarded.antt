-- A guard that is up stays as it is, step by step.
use Rattle.std.proofs.Common.{◌≡◌, ℕ, arith, ◌/◌, ◌==◌, Bool, true, false, if◌then◌else◌, List, [], ◌∷◌, ◌++◌, refl, ap, sym, ◌∙◌, subst, true≢false, inl, inr}
use Rattle.std.proofs.Common.{eqb-true, eq-eqb, bit_or, ◌+◌, ◌<◌, ◌^◌, ◌||◌, length-append, append_assoc, ne_eqb, ◌≤◌, ◌≢◌, ◌%◌, ◌&&◌, ◌⊎◌}
use Rattle.std.proofs.lemmas.Bool.{cases_Bool, Decides.nat_tests, or_right, cases_lt}
use Rattle.pas_profile.specs.{Layouts.same_word, Profiles.IsValid, Directories.number_of, declared.{directory.Directory.Directory, profile.Profile.Profile}}
use Rattle.pas_profile.{specs.declared.{name.Block.Block, guard.Guard.Guard}, proofs.Codecs.deed_word_of-positive}
use Rattle.pas_steps.specs.{Allowed.Allowed, Effects.{target, new_value}, Past.{Since, Once, Always}, Desks.{Standing, CanCall}, Agreement.{Agrees, Agreed}}
use Rattle.pas_steps.specs.{Evidence.{GetsRight, GetsHere}, Kinds.apart, Lists.{Triple, Whole, part, word_after, IsNext, Legal}, Views.{View, Stays, Gives}}
use Rattle.pas_steps.specs.Views.{held_after, grain_move, holds, known_deed, KnowsDeed, has_right, Way, ByDeed, FromOffer, FromParked, ToOffer, ToParked, Rests}
use Rattle.pas_steps.specs.{Views.{had_after, right_after}, declared.step.{Made.Made, Step.{Step, TheVariants.{Back, Deed, TakeRight, Offer, Park, Unpark}}}}
use Rattle.pas_steps.specs.{Calls.{Calls, Kept, Lost, ClearAfter, Does, on_page, Gained, now, nothing}, Frames.{OnlyOn, GivesUp, KeepsRight}}
use Rattle.pas_steps.proofs.{Called.{call_then, next_call, call_as, call_knows}, Calls.{does_as, does_then}, Sets.{both_fates, kept_kept}, Apart.only_both}
use Rattle.pas_steps.proofs.{Past.always_map, Frames.{rights_stay, right_on, knows_still, right_own}}
use Rattle.pas_core.proofs.{Deeds.{looked, known_is}, Grains.one_holder, Rights.deeds_known}
use Rattle.pas_large.specs.{Claims.{StaysPut, in_span, HasPages, HoldsSpan, Releases}, Gives.{GaveRun, GivesRun}, Pages.{of_pages, GotPages}, Finds.MayFind}
use Rattle.pas_large.proofs.{Claims.{call_knowing, span_in, in_parts, span_none, got_both}, Pages.{undone, since_more}}
use Rattle.pas_guard.specs.{Raises.BacksNot, Evidence.BackedReadHere, Seeks.{LeftSince, HasSpan}, Guards.{given_and_left, GuardsRun}, Books.is_outer_of}
use Rattle.pas_guard.specs.{Lowers.{MayLower, lowered, Lowers}, Guarded.{StandsGuard, LeavesGuard, KeepsGuard, GivesOn, IsUntouched, AreUntouched}}
use Rattle.pas_rights.specs.{Leaves.{MayLeave, Leaves}, Gives.give_steps, Puts.masked, Words.full, PutsBack.{giving_back, given_back, MayPutAndReturn}}
use Rattle.pas_rights.{specs.PutsBack.{PutsAndReturns, put_and_left, GivesDuly, PutsAndLeaves}, proofs.{Orders.{on_full, since_kept}, Puts.put_and_leave_due}}
use Rattle.pas_scan.{specs.Runs.large_directory, proofs.LeftPages.holds_own}
use Rattle.pas_search.{specs.Kinds.{IsReturnOf, ReturnsDuly}, proofs.PagesThatServe.{return_page, duly_in}}
use Rattle.pas_bits.specs.Bits.{has_bit}
use Rattle.pas_profile.specs.declared.word.Word.TheVariants as Words

-- only a back makes a page that isn't backed a backed one
stays_bare : (e : ℕ) (s : Step) (page old : ℕ) → (s ≡ Back page → ⊥) → old ≡ 0
    → (if same_word (target s) (Words.Backed page) then new_value e s old else old) ≡ 0
stays_bare e s page old not h = search (arith, cases_Bool, eqb-true)

-- ---- the steps of others
module _ (f : Profile) (l : Whole) (keeper page : ℕ) (d : Directory) (valid : IsValid f) (legal : Legal f l) (stands : StandsGuard l keeper page d) where
  -- The keeper alone holds grains of the page.
  alone : (k g : ℕ) → g / 256 ≡ page → holds (part k l) g ≡ true → (k == keeper) ≡ true
  alone k g at held = one_holder f l valid legal k keeper g held (stands.held g at)

  no_back : (k : ℕ) (s : Step) → (k == keeper) ≡ false → Allowed f (part k l) s → s ≡ Back page → ⊥
  no_back k s other may e = let now = subst (Allowed f (part k l)) e may in let on = now.0 in true≢false (sym (alone k on.0 on.1 on.2) ∙ other)

  no_give : (k : ℕ) (s : Step) → (k == keeper) ≡ false → Allowed f (part k l) s → GivesOn page s → ⊥
  no_give k s other may on = let now = subst (Allowed f (part k l)) on.1 may in let g = on.2 in true≢false (sym (alone k g.0 g.1 (now.held g.0 g.2)) ∙ other)

-- ---- the keeper's own
moved : (b g : ℕ) → Gives b ≡ Stays → ⊥
moved b g e = cc

-- ---- one step more
module _ (f : Profile) (l : Whole) (t : Triple) (keeper page : ℕ) (d : Directory) (valid : IsValid f) (legal : Legal f l) (next : IsNext f l t)
    (stands : StandsGuard l keeper page d) (keeps : (t.actor == keeper) ≡ true → LeavesGuard page t.made) where
  untouched_next : IsUntouched page t.made.step
  untouched_next = search (arith, cases_Bool, moved, no_back, no_give)

  stands_next : StandsGuard (t ∷ l) keeper page d
  stands_next = search (arith, stays_bare, untouched_next)

-- ---- a step between two places where the page stands
given_away : (page answer : ℕ) (s : Step) (on : GivesOn page s) (h : Bool) → held_after (grain_move s answer on.2.0) h ≡ false
given_away page answer s on h = search (arith, on.0, on.2, on.1)

-- A step between two places at which a keeper's page stands leaves the page untouched.
pub untouched_between : (f : Profile) (l : Whole) (t : Triple) (keeper page : ℕ) (d : Directory) → IsValid f → Legal f (t ∷ l) → StandsGuard l keeper page d
    → StandsGuard (t ∷ l) keeper page d → IsUntouched page t.made.step
untouched_between f l t keeper page d valid legal before after = search (arith, bit_or, eq-eqb, cases_Bool, true≢false, given_away, no_give)

-- ---- all steps
pub stands_on : (f : Profile) (older newer : Whole) (keeper page : ℕ) (d : Directory) → IsValid f → Legal f (newer ++ older) → StandsGuard older keeper page d
    → KeepsGuard keeper page newer → StandsGuard (newer ++ older) keeper page d
stands_on f older [] keeper page d valid legal stands keeps = stands
stands_on f older (t ∷ newer) keeper page d valid legal stands keeps = stands_next f _ t _ page d valid legal.1 legal.0 (stands_on f older newer _ page d valid legal.1 stands keeps.1) keeps.0

-- Steps that keep a page which stands for its keeper leave it untouched.
pub untouched_on : (f : Profile) (older newer : Whole) (keeper page : ℕ) (d : Directory) → IsValid f → Legal f (newer ++ older)
    → StandsGuard older keeper page d → KeepsGuard keeper page newer → AreUntouched page newer
untouched_on f older [] keeper page d valid legal stands keeps = tt
untouched_on f older (t ∷ newer) keeper page d valid legal stands keeps =
    let before = stands_on f older newer _ page d valid legal.1 stands keeps.1 in (search (arith, untouched_next), untouched_on f older newer _ page d valid legal.1 stands keeps.1)

-- ---- the keeper's own steps, whatever others did between them
pub record OwnLeaves (keeper page : ℕ) (own : Bool) (m : Made) (rest : List Made) : Type 0 where
  pub mine : own ≡ true → LeavesGuard page m
  pub stays : (g : ℕ) → g / 256 ≡ page → StaysPut g rest
  pub backs : BacksNot page rest

one_leaves : (keeper page : ℕ) (own : Bool) (m : Made) (rest : List Made) → ((g : ℕ) → g / 256 ≡ page → StaysPut g (if own then m ∷ rest else rest))
    → BacksNot page (if own then m ∷ rest else rest) → OwnLeaves keeper page own m rest
one_leaves keeper page own m rest stays backs = search (arith, true≢false)

-- A keeper whose own steps move no grain of the page and don't back it keeps its guard.
pub own_keep : (keeper page : ℕ) (newer : Whole) → ((g : ℕ) → g / 256 ≡ page → StaysPut g (part keeper newer)) → BacksNot page (part keeper newer)
    → KeepsGuard keeper page newer
own_keep keeper page [] stays backs = tt
own_keep keeper page (t ∷ l) stays backs = let one = one_leaves keeper page _ t.made _ stays backs in (one.mine, own_keep keeper page l one.stays one.backs)

-- ---- where a guard begins
pub record StandsBare (l : Whole) (keeper page : ℕ) : Type 0 where
  pub held : (g : ℕ) → g / 256 ≡ page → holds (part keeper l) g ≡ true
  pub bare : word_after l (Words.Backed page) ≡ 0

-- the keeper's newest step is the look
begins_here : (f : Profile) (l : Whole) (t : Triple) (keeper page : ℕ) (v : View) (before : List Made) → IsNext f l t → part keeper l ≡ before ++ v
    → (t.actor == keeper) ≡ true → BackedReadHere v page 0 t.made before → StandsBare (t ∷ l) keeper page
begins_here f l t keeper page v before next is own read = search (arith, looked)

goes_bare : (f : Profile) (l : Whole) (t : Triple) (keeper page : ℕ) → IsValid f → Legal f l → IsNext f l t → StandsBare l keeper page
    → ((t.actor == keeper) ≡ true → LeavesGuard page t.made) → StandsBare (t ∷ l) keeper page
goes_bare f l t keeper page valid legal next stands keeps = search (arith, no_back, cases_Bool, true≢false, one_holder, stays_bare)

-- the steps since, in the list of all actors
begins_by : (f : Profile) (t : Triple) (l : Whole) (keeper page : ℕ) (v : View) (m : Made) (steps : List Made) → IsValid f → Legal f l → IsNext f l t
    → t.made ≡ m → part keeper l ≡ steps ++ v → (t.actor == keeper) ≡ true → Since (BackedReadHere v page 0) (LeftSince page) (m ∷ steps)
    → (Since (BackedReadHere v page 0) (LeftSince page) steps → StandsBare l keeper page) → StandsBare (t ∷ l) keeper page
begins_by f t l keeper page v m steps valid legal next same is own h more = search (arith, begins_here, goes_bare)

-- Two lists that are the same have the same first step and the same others.
pub head_same : (x y : Made) (xs ys : List Made) → x ∷ xs ≡ y ∷ ys → (x ≡ y) × (xs ≡ ys)
head_same x y xs ys e = (cc, cc)

-- From the look that read it as not backed on the page stands bare.
begins : (f : Profile) (l : Whole) (keeper page : ℕ) (v : View) (steps : List Made) → IsValid f → Legal f l → part keeper l ≡ steps ++ v
    → Since (BackedReadHere v page 0) (LeftSince page) steps → StandsBare l keeper page
begins f [] keeper page v [] valid legal is since = absurd since
begins f [] keeper page v (m ∷ steps) valid legal is since = absurd (let e : [] ≡ m ∷ (steps ++ v) = is in cc)
begins f (t ∷ l) keeper page v [] valid legal is since = absurd since
begins f (t ∷ l) keeper page v (m ∷ steps) valid legal is since = elim (cases_Bool (t.actor == keeper)) [
  | inl own ↦ (let both = head_same t.made m (part keeper l) (steps ++ v) (sym (ap (λ o. if o then t.made ∷ part keeper l else part keeper l) own) ∙ is) in
      begins_by f t l keeper page v m steps valid legal.1 legal.0 both.0 both.1 own since (λ later. begins f l keeper page v steps valid legal.1 both.1 later))
  | inr other ↦ (let same = sym (ap (λ o. if o then t.made ∷ part keeper l else part keeper l) other) ∙ is in goes_bare f l t keeper page valid legal.1 legal.0
      (begins f l keeper page v (m ∷ steps) valid legal.1 same since) (λ own. absurd (true≢false (sym own ∙ other))))
]

-- A page that its keeper read as not backed, and has held whole since, stands guarded.
pub guard_begins : (f : Profile) (l : Whole) (keeper page : ℕ) (d : Directory) (v : View) (steps : List Made) → IsValid f → Legal f l
    → part keeper l ≡ steps ++ v → Since (BackedReadHere v page 0) (LeftSince page) steps → KnowsDeed page d (part keeper l) → StandsGuard l keeper page d
guard_begins f l keeper page d v steps valid legal is since knows =
    let stands = begins f l keeper page v steps valid legal is since in
    record { held = stands.held; deed = sym (known_is _ _ (deeds_known f l legal keeper page) (λ z. deed_word_of-positive d (sym knows ∙ z))) ∙ knows; bare = stands.bare }

-- ---- a run that is held is guarded
with_low : (first k q : ℕ) → (in_span (first + 1) (first + 1 + k) q || (first == q)) ≡ in_span first (first + 1 + k) q
with_low first k q = grind (arith, nat_tests)

with_high : (first k q : ℕ) → (in_span first (first + 1 + k) q || (first + k + 1 == q)) ≡ in_span first (first + (k + 2)) q
with_high first k q = grind (arith, nat_tests)

inner_pages : (d : Directory) (first k : ℕ) (v : View) → HasPages d first (first + (k + 2)) v → HasPages d (first + 1) (first + 1 + k) v
inner_pages d first k v met = search (arith, nat_tests)

-- Who has the pages of a run may give the block of those between its outer ones.
pub can_give_inner : {σ : Standing} (d : Directory) (first k : ℕ) → CanCall σ (HasPages d first (first + (k + 2)))
    → CanCall σ (HasPages d (first + 1) (first + 1 + k))
can_give_inner d first k can = record { view = can.view; whole = can.whole; stood = can.stood; met = inner_pages d first k can.view can.met }

-- one page more is left
leave_one : {v w u : View} (low high first stop first' stop' page : ℕ) → ((q : ℕ) → (in_span first stop q || (page == q)) ≡ in_span first' stop' q)
    → Does (given_and_left low high first stop) v w → Does (on_page page Lost Kept) w u → Does (given_and_left low high first' stop') v u
leave_one {v} {w} {u} low high first stop first' stop' page same a b = does_as _ (does_then a b) (λ x. inl refl) (λ q. both_fates Lost _ _ _ refl (same q))
    (λ q c. subst (λ t. ClearAfter t q v u) (kept_kept (page == q)) c)

module _ (d : Directory) (first k : ℕ) (block : Block) where
  abbrev run : ℕ → Bool
  run = in_span first (first + (k + 2))

  abbrev Knows : View → Type 0
  Knows w = (p : ℕ) → run p ≡ true → KnowsDeed p d w

  low_in : run first ≡ true
  low_in = span_in first (first + (k + 2)) first (omega arith) (omega arith)

  high_in : run (first + k + 1) ≡ true
  high_in = span_in first (first + (k + 2)) (first + k + 1) (omega arith) (omega arith)

  -- what the give and the first leave come to
  abbrev Gave : View → View → Type 0
  Gave v w = GaveRun d (first + 1) k block v w × Knows w

  pub record LeftLow (v w : View) : Type 0 where
    pub does : Does (given_and_left (first + 1) (first + 1 + k) first (first + 1 + k)) v w
    pub turn : block.name.turn < 2 ^ 37

  pub record LeftAll (v w : View) : Type 0 where
    pub does : Does (given_and_left (first + 1) (first + 1 + k) first (first + (k + 2))) v w
    pub turn : block.name.turn < 2 ^ 37

  module _ {σ σ1 : Standing} (give : GivesRun d (first + 1) k block σ σ1) where
    abbrev gs : List Made
    gs = give.left ++ (give_steps (first + 1) 0 block give.word give.answer ++ give.backs)

    -- The give of the block, as a call.
    gave : Calls σ σ1 (HasPages d first (first + (k + 2))) Gave gs
    gave = call_knowing d run (call_as (GaveRun d (first + 1) k block) give.calls (inner_pages d first k) (λ v w met r. r)) (λ v met. met.deeds)

    may_low : (v : View) → HasPages d first (first + (k + 2)) v → Gave v (gs ++ v) → MayLeave first d (gs ++ v)
    may_low v met gaves = search (arith, nat_tests, low_in)

    -- After the give of a guarded block its low outer page may be left.
    pub can_leave_low : CanCall σ (HasPages d first (first + (k + 2))) → CanCall σ1 (MayLeave first d)
    can_leave_low can = next_call gave can may_low

    module _ {σ2 : Standing} (low : Leaves first d σ1 σ2) where
      left_low : Calls σ σ2 (HasPages d first (first + (k + 2))) (λ v w. LeftLow v w × Knows w) (low.steps ++ gs)
      left_low = call_knowing d run (call_then LeftLow gave low.calls may_low
          (λ v met gaves left. record { does = leave_one _ _ _ _ _ _ first (with_low first k) gaves.0.does left.does; turn = gaves.0.turn })) (λ v met. met.deeds)

      may_high : (v : View) → HasPages d first (first + (k + 2)) v → LeftLow v ((low.steps ++ gs) ++ v) × Knows ((low.steps ++ gs) ++ v)
          → MayLeave (first + k + 1) d ((low.steps ++ gs) ++ v)
      may_high v met left = search (arith, nat_tests, high_in)

      -- After the low outer page was left, the high one may be left, too.
      pub can_leave_high : CanCall σ (HasPages d first (first + (k + 2))) → CanCall σ2 (MayLeave (first + k + 1) d)
      can_leave_high can = next_call left_low can may_high

      -- A run whose inner pages were given, and whose outer ones were left, is guarded.
      pub guards : {σ3 : Standing} → Leaves (first + k + 1) d σ2 σ3 → GuardsRun d first k block σ σ3
      guards {σ3} high =
          let done = call_knowing d run (call_then LeftAll left_low high.calls may_high
          (λ v met left last. record { does = search (arith, leave_one, with_high); turn = left.0.turn })) (λ v met. met.deeds) in
          let left = high.steps ++ (low.steps ++ give.left) in let rest = give_steps (first + 1) 0 block give.word give.answer ++ give.backs in
          let same : left ++ rest ≡ high.steps ++ (low.steps ++ gs) = search (arith, append_assoc) in record {
            backs = give.backs;
            back_order = give.back_order;
            word = give.word;
            answer = give.answer;
            block_is = give.block_is;
            left = left;
            left_order = (high.steps, low.steps ++ give.left, high.order, (low.steps, give.left, low.order, give.left_order, refl), refl);
            few = search (arith, length-append);
            calls = search (arith, call_as);
          }

-- ---- a guard is lowered
of_page : (page g : ℕ) → masked page full g ≡ true → page ≡ g / 256
of_page page g is = eqb-true page (g / 256) (sym (on_full page g) ∙ is)

module _ (f : Profile) (guard : Guard) where
  abbrev d : Directory
  d = large_directory guard.block.heap

  low_met : (v : View) → MayLower f guard v → MayPutAndReturn guard.low d full v
  low_met v met = search (arith, eq-eqb, of_page)

  -- A guard's low page may be put back, where the guard may be lowered.
  pub can_low : {σ : Standing} → CanCall σ (MayLower f guard) → CanCall σ (MayPutAndReturn guard.low d full)
  can_low can = record { view = can.view; whole = can.whole; stood = can.stood; met = low_met can.view can.met }

  module _ {σ σ1 : Standing} (low : PutsAndReturns guard.low d full σ σ1) where
    low_call : Calls σ σ1 (MayLower f guard) (λ v w. Does (given_back (masked guard.low full)) v w × KnowsDeed guard.high d w) low.steps
    low_call = call_knows guard.high d (call_as (Does (given_back (masked guard.low full))) low.calls low_met (λ v w met does. does)) (λ v met. met.knows.high)

    high_met : (v : View) → MayLower f guard v → Does (given_back (masked guard.low full)) v (low.steps ++ v) × KnowsDeed guard.high d (low.steps ++ v)
        → MayPutAndReturn guard.high d full (low.steps ++ v)
    high_met v met low = search (arith, of_page, on_full, ne_eqb, or_right, eq-eqb)

    -- After its low page was put back, a guard's high page may be, too.
    pub can_high : CanCall σ (MayLower f guard) → CanCall σ1 (MayPutAndReturn guard.high d full)
    can_high can = next_call low_call can high_met

    -- Both outer pages are put and returned, as one call.
    both : {σ2 : Standing} (high : PutsAndReturns guard.high d full σ1 σ2) → Calls σ σ2 (MayLower f guard) (Does (lowered guard)) (high.steps ++ low.steps)
    both high = call_then (Does (lowered guard)) low_call high.calls high_met
        (λ v met a b. does_as (lowered guard) (does_then a.0 b)
        (λ g. inl (both_fates Lost (masked guard.low full g) (masked guard.high full g) (is_outer_of guard (g / 256)) refl
        (ap (λ t. t || masked guard.high full g) (on_full guard.low g) ∙ ap (λ t. (guard.low == g / 256) || t) (on_full guard.high g))))
        (λ q. refl) (λ q h. h))

-- A guard both of whose pages were put back is lowered.
pub lowers : {σ σ1 σ2 : Standing} (guard : Guard) → PutsAndReturns guard.low (large_directory guard.block.heap) full σ σ1
    → PutsAndReturns guard.high (large_directory guard.block.heap) full σ1 σ2 → Lowers guard σ σ2
lowers {σ} guard low high = record {
  steps = high.steps ++ low.steps;
  calls = both σ.seat.profile guard low high;
  order = record {
    low = low.steps;
    high = high.steps;
    low_order = low.order;
    high_order = high.order;
    on_low = low.on;
    on_high = high.on;
    kinds = only_both giving_back high.steps low.steps high.kinds low.kinds;
    few = let n = length-append high.steps low.steps in omega (arith, n, low.few, high.few);
    steps_are = refl;
  };
}

-- Pages that the actor has whole, which it got, and what becomes of them.
-- An actor that did nothing got just an empty span.
pub span_of_none : {v w : View} (d : Directory) (a : ℕ) → Does nothing v w → HasSpan d a a v w
span_of_none {v} d a does = search (arith, does_as, span_none, true≢false)

-- A page of a span that was got is the actor's.
pub span_has : {v w : View} {d : Directory} {a b : ℕ} → HasSpan d a b v w → (p : ℕ) → in_span a b p ≡ true → has_right w p ≡ true
span_has {v} span p is = span.got.does.right p ∙ ap (λ t. now (if t then Gained else Kept) (has_right v p)) is

-- So are its grains.
pub span_holds : {v w : View} {d : Directory} {a b : ℕ} → HasSpan d a b v w → (g : ℕ) → in_span a b (g / 256) ≡ true → holds w g ≡ true
span_holds {v} span g is = span.got.does.held g ∙ ap (λ t. now (if t then Gained else Kept) (holds v g)) is

-- The right of another page is as before.
pub span_spares : {v w : View} {d : Directory} {a b : ℕ} → HasSpan d a b v w → (p : ℕ) → in_span a b p ≡ false → has_right w p ≡ has_right v p
span_spares {v} span p out = span.got.does.right p ∙ ap (λ t. now (if t then Gained else Kept) (has_right v p)) out

-- Pages that the actor has stay its own through steps that do nothing.
pub span_then : {v w u : View} (d : Directory) (a b : ℕ) → HasSpan d a b v w → Does nothing w u → ((p : ℕ) → KnowsDeed p d w → KnowsDeed p d u)
    → HasSpan d a b v u
span_then d a b span still knows = record { got = record { does = does_then span.got.does still; apart = span.got.apart; lacked = span.got.lacked; deeds = λ p is. knows p (span.got.deeds p is) }; lacked = span.lacked }

-- A span that was got and lost again leaves all as it was.
pub span_lost : {v w u : View} (d : Directory) (a b : ℕ) → HasSpan d a b v w → Does (of_pages (in_span a b) Lost) w u → Does nothing v u
span_lost d a b span lost = undone (λ g. in_span a b (g / 256)) (in_span a b) span.got.apart span.lacked span.got.does lost

-- Two spans that meet are one.
joined : (a b c p : ℕ) → a ≤ b → b ≤ c → (in_span a b p || in_span b c p) ≡ in_span a c p
joined a b c p low high = grind (arith, nat_tests)

-- Pages that were got behind a span make it longer.
pub span_both : {v w u : View} (d : Directory) (a b c : ℕ) → a ≤ b → b ≤ c → HasSpan d a b v w → ((p : ℕ) → b ≤ p → p < c → has_right v p ≡ false)
    → GotPages (in_span b c) d w u → ((p : ℕ) → KnowsDeed p d w → KnowsDeed p d u) → HasSpan d a c v u
span_both d a b c low high span lacked second knows = search (arith, got_both, joined, in_parts, cases_lt, span_in)

-- A page outside a span is outside each one that begins later.
pub out_later : (a b c p : ℕ) → a ≤ b → in_span a c p ≡ false → in_span b c p ≡ false
out_later a b c p le out = grind (arith, nat_tests)

-- the first of them is left
slid : (m t u had : Bool) → (m ≡ true → (u ≡ false) × (had ≡ false)) → (m ≡ false → t ≡ u)
    → now (if m then Lost else Kept) (now (if t then Gained else Kept) had) ≡ now (if u then Gained else Kept) had
slid m t u had here there = grind arith

past_first : (a c p : ℕ) → p ≡ a → in_span (a + 1) c p ≡ false
past_first a c p e = grind (arith, nat_tests)

-- A page other than the first of a span is in it exactly where it is in the span behind that.
pub but_first : (a c p : ℕ) → p ≢ a → in_span a c p ≡ in_span (a + 1) c p
but_first a c p ne = grind (arith, nat_tests)

module _ {v w u : View} (d : Directory) (a c : ℕ) (some : a < c) (span : HasSpan d a c v w) (left : Does (put_and_left a (masked a full)) w u) where
  -- A number that the test finds is this one.
  here : (p : ℕ) → (a == p) ≡ true → p ≡ a
  here p e = sym (eqb-true a p e)

  -- One that it doesn't find is another.
  there : (p : ℕ) → (a == p) ≡ false → p ≢ a
  there p e same = true≢false (sym (eq-eqb a p (sym same)) ∙ e)

  in_first : (p : ℕ) → p ≡ a → in_span a c p ≡ true
  in_first p e = span_in a c p (omega (arith, e)) (omega (arith, e, some))

  -- A span whose first page was left is the span from the next page on.
  pub span_slid : ((p : ℕ) → KnowsDeed p d w → KnowsDeed p d u) → HasSpan d (a + 1) c v u
  span_slid knows = record {
    got = record {
      does = record {
        held = λ x. left.held x ∙ ap (λ m. now (if m then Lost else Kept) (holds w x)) (on_full a x) ∙ ap (now _) (span.got.does.held x)
            ∙ slid _ _ _ (holds v x) (λ e. (past_first a c (x / 256) (here (x / 256) e), span.got.apart x (in_first (x / 256) (here (x / 256) e)))) (λ e. but_first a c (x / 256) (there (x / 256) e));
        right = λ q. left.right q ∙ ap (now (if a == q then Lost else Kept)) (span.got.does.right q) ∙ slid (a == q) (in_span a c q) (in_span (a + 1) c q)
            (has_right v q) (λ e. (past_first a c q (here q e), span.lacked q (in_first q (here q e)))) (λ e. but_first a c q (there q e));
        clear = λ q is. left.clear q (span.got.does.clear q is);
        backed = λ x kept bears. search (arith, cases_Bool, true≢false, in_first, here, on_full, but_first, span.got.apart, left.backed, span.got.does.backed);
      };
      apart = λ g is. let at = in_parts (a + 1) c (g / 256) is in span.got.apart g (span_in a c (g / 256) (omega (arith, at.0)) at.1);
      lacked = λ p is. let at = in_parts (a + 1) c p is in span.lacked p (span_in a c p (omega (arith, at.0)) at.1);
      deeds = λ p is. let at = in_parts (a + 1) c p is in knows p (span.got.deeds p (span_in a c p (omega (arith, at.0)) at.1));
    };
    lacked = λ p is. let at = in_parts (a + 1) c p is in span.lacked p (span_in a c p (omega (arith, at.0)) at.1);
  }

-- ---- pages that were taken whole with rights that were kept since, and later steps
-- A span without pages is held whole.
pub no_span : (first : ℕ) (xs : List Made) → HoldsSpan first first xs
no_span first xs = record { right = λ p ge lt. absurd (omega (arith, ge, lt)); whole = λ p word ge lt small. absurd (omega (arith, ge, lt)) }

-- A span that is held whole is so after steps that keep the right of each of its pages.
pub span_kept : (first stop : ℕ) (ys xs : List Made) → ((p : ℕ) → first ≤ p → p < stop → KeepsRight p ys) → HoldsSpan first stop xs
    → HoldsSpan first stop (ys ++ xs)
span_kept first stop ys xs keeps holding = search (arith, rights_stay, since_kept)

-- steps on another page
pub span_beside : (q first stop : ℕ) (ys xs : List Made) → OnlyOn q ys → ((p : ℕ) → first ≤ p → p < stop → p ≢ q) → HoldsSpan first stop xs
    → HoldsSpan first stop (ys ++ xs)
span_beside q first stop ys xs on apart holding = record {
  right = λ p ge lt. right_on q p ys xs on (apart p ge lt) ∙ holding.right p ge lt;
  whole = λ p word ge lt small. since_more _ _ _ ys xs (λ m c is more. right_on q p c xs more (apart p ge lt) ∙ holding.right p ge lt) on (holding.whole p word ge lt small);
}

-- Two spans that are held whole and follow each other are held whole together.
pub span_joined : (first mid stop : ℕ) (xs : List Made) → HoldsSpan first mid xs → HoldsSpan mid stop xs → HoldsSpan first stop xs
span_joined first mid stop xs low high = search (arith, cases_lt)

-- A right that the actor has isn't got again, so steps that give up only what they got keep it.
deed_made : (known a : ℕ) → known ≢ 0 → (known ≢ 0 → a ≡ known) → a ≡ 0 → ⊥
deed_made known a some is zero = some (sym (is some) ∙ zero)

not_got_again : (f : Profile) (v : View) (p : ℕ) (s : Step) (a : ℕ) → GetsRight p s a → Agrees f v s a → has_right v p ≡ true → known_deed v p ≢ 0 → ⊥
not_got_again f v p s a h agrees right known = search (arith, true≢false, deed_made)

gives_back : (p : ℕ) (s : Step) → GivesUp p s → IsReturnOf p s
gives_back p s (GivesUp.Offers e) = IsReturnOf.Offers e
gives_back p s GivesUp.Parks = IsReturnOf.Parks

-- The search keeps the right of a page of the directory that its actor had before, and never gets it.
pub claim_keeps : (f : Profile) (d : Directory) (p : ℕ) (v : View) (zs : List Made) → Agreed f v zs → Always ReturnsDuly zs → KnowsDeed p d v
    → has_right v p ≡ true → KeepsRight p zs × (Once (GetsHere p) zs → ⊥)
claim_keeps f d p v [] agreed duly knows right = (tt, λ h. h)
claim_keeps f d p v (m ∷ zs) agreed duly knows right =
    let rest = claim_keeps f d p v zs agreed.1 duly.1 knows right in grind (arith, rest, knows_still, gives_back, not_got_again, rights_stay)

-- ---- a right that steps have they got, where they take back only what they got
by_deed : (p q : ℕ) (d : Directory) (a : ℕ) (had x y : Bool) → (q == p) ≡ x → (a == 0) ≡ y → had_after (if x && y then ByDeed else Rests) had ≡ true
    → GetsRight p (Deed q d) a ⊎ (had ≡ true)
by_deed p q d a had true true at zero h = inl (subst (λ r. GetsRight p (Deed r d) a) (sym (eqb-true q p at)) (GetsRight.Deeds d a (eqb-true a 0 zero)))
by_deed p q d a had true false at zero h = inr h
by_deed p q d a had false y at zero h = inr h

by_claim : (p q : ℕ) (d : Directory) (a : ℕ) (had x y : Bool) → (q == p) ≡ x → has_bit a (p % 64) ≡ y
    → had_after (if x && y then FromOffer (number_of d) else Rests) had ≡ true → GetsRight p (TakeRight q d) a ⊎ (had ≡ true)
by_claim p q d a had true true at bit h = inl (subst (λ r. GetsRight p (TakeRight r d) a) (sym (eqb-true q p at)) (GetsRight.Claims d a bit))
by_claim p q d a had true false at bit h = inr h
by_claim p q d a had false y at bit h = inr h

by_unpark : (p q : ℕ) (had x y : Bool) → (q == p) ≡ x → had_after (if x && y then FromParked else Rests) had ≡ true → IsReturnOf p (Unpark q) ⊎ (had ≡ true)
by_unpark p q had true true at h = inl (subst (λ r. IsReturnOf p (Unpark r)) (sym (eqb-true q p at)) IsReturnOf.Unparks)
by_unpark p q had true false at h = inr h
by_unpark p q had false y at h = inr h

by_leave : (x had : Bool) (w : Way) → had_after w had ≡ false → had_after (if x then w else Rests) had ≡ true → had ≡ true
by_leave x had w gone h = search (arith, true≢false)

gets_or_had : (p : ℕ) (s : Step) (a : ℕ) (had : Bool) → right_after s a p had ≡ true → GetsRight p s a ⊎ (IsReturnOf p s ⊎ (had ≡ true))
gets_or_had p (Deed q d) a had h = elim (by_deed p q d a had (q == p) (a == 0) refl refl h) [ inl gets ↦ inl gets | inr was ↦ inr (inr was) ]
gets_or_had p (TakeRight q d) a had h = elim (by_claim p q d a had (q == p) (has_bit a (p % 64)) refl refl h) [ inl gets ↦ inl gets | inr was ↦ inr (inr was) ]
gets_or_had p (Unpark q) a had h = inr (by_unpark p q had (q == p) (has_bit a (p % 64)) refl h)
gets_or_had p (Offer q d) a had h = inr (inr (by_leave (q == p) had (ToOffer (number_of d)) refl h))
gets_or_had p (Park q) a had h = inr (inr (by_leave (q == p) had ToParked refl h))
gets_or_had p s a had h = inr (inr h)

right_was_got : (p : ℕ) (xs : List Made) → Always ReturnsDuly xs → has_right xs p ≡ true → Once (GetsHere p) xs
right_was_got p [] due h = absurd (true≢false (sym h))
right_was_got p (m ∷ xs) due h = elim (gets_or_had p m.step m.answer (has_right xs p) h) [
  | inl gets ↦ inl gets
  | inr other ↦ inr (elim other [ inl returns ↦ due.0.0 p returns | inr had ↦ right_was_got p xs due.1 had ])
]

-- ---- pages that steps got, and that are given back
module _ {σ σ2 : Standing} (d : Directory) (from free : ℕ) {ss : List Made} (held : Calls σ σ2 (MayFind d) (HasSpan d from free) ss)
    (can : CanCall σ (MayFind d)) (due : Always ReturnsDuly ss) where
  -- The actor has the span after the steps.
  span : HasSpan d from free can.view (ss ++ can.view)
  span = held.leads.from can.view can.met (held.adds.agreed can.view can.whole can.stood can.met)

  own_held : (g : ℕ) → in_span from free (g / 256) ≡ true → holds ss g ≡ true
  own_held g is = sym (holds_own g ss can.view (span.got.apart g is)) ∙ span_holds span g is

  gives_duly : Always GivesDuly ss
  gives_duly = always_map ReturnsDuly GivesDuly ss (λ m before is. is.1) due

  was_got : (p : ℕ) → in_span from free p ≡ true → Once (GetsHere p) ss
  was_got p is = right_was_got p ss due (sym (right_own p ss can.view (span.lacked p is)) ∙ span_has span p is)

  -- all of them
  pub release_duly : {σ3 : Standing} (r : Releases d from free σ2 σ3) → Always ReturnsDuly (r.steps ++ ss)
  release_duly r = duly_in (in_span from free) r.steps ss r.within (r.due ss own_held gives_duly) was_got due

  -- the first one
  pub first_duly : {σ3 : Standing} → from < free → (h : PutsAndLeaves from d full σ2 σ3) → Always ReturnsDuly ((h.after ++ h.puts) ++ ss)
  first_duly some h =
      let first : in_span from free from ≡ true = span_in from free from (omega arith) some in
      duly_in _ _ ss (always_map _ _ (h.after ++ h.puts) (λ m before on p is. ap (in_span from free) (return_page from p m.step is on) ∙ first) h.on)
      (put_and_leave_due from d full ss (λ g is. own_held g (ap (in_span from free) (sym (eqb-true from (g / 256) (sym (on_full from g) ∙ is))) ∙ first)) gives_duly h) was_got due
