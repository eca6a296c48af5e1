-- The search for a run whose outer pages aren't backed, one turn more.
use Rattle.std.proofs.Common.{ℕ, ◌+◌, ◌*◌, ◌/◌, ◌<◌, ◌≤◌, ◌==◌, Bool, true, false, ◌||◌, List, [], ◌∷◌, ◌++◌, refl, ◌∙◌, inl, inr, ◌⊎◌, arith, Option, ◌≡◌, ◌≢◌}
use Rattle.std.proofs.{Common.{Some, None, ap, sym, subst, append_assoc, true≢false, length, length-append, eqb-true, eq-eqb, append-nil}, lemmas.Bool.cases_lt}
use Rattle.std.proofs.lemmas.Bool.{cases_eq, cases_Bool}
use Rattle.pas_large.proofs.Claims.{narrower, steady_on, steady_both, steady_holds, out_of, span_in, in_parts, span_past, has_got, room_after, alone_on}
use Rattle.pas_large.proofs.{Claims.orderly_claim, Finds.{DeedOf, bad_later, alone_looks, knew, deeds_map, may_find, deeds_later, alone_later}, Pages.Orderly}
use Rattle.pas_large.{proofs.Pages.{orderly_later, orderly_wider}, specs.Claims.{StaysPut, in_span, MayClaimPages, HasRunRoom, AloneFrom, DeedsIn, HasPages}}
use Rattle.pas_large.specs.{Claims.{Releases, ClaimsRun, HoldsRun, FailsRun, HoldsSpan}, Evidence.{LostHere, BrokenHere, BadHere, AllUsable, FailsHere}}
use Rattle.pas_large.specs.{Evidence.{HasFailed, DeedsOf}, Finds.{MayFind, FindRoom}}
use Rattle.pas_bits.specs.Bits.{has_bit}
use Rattle.pas_profile.specs.declared.{directory.Directory.Directory, profile.Profile.Profile, word.Word.Word}
use Rattle.pas_rights.{specs.{Puts.masked, PutsBack.{giving_back, MayPutAndLeave, PutsAndLeaves}, Words.full}, proofs.Orders.keeps_by}
use Rattle.pas_scan.specs.{Runs.{page_looks, IsFirstRun, HasNoRun, HasUnusable, FindsRun}, Usable.{ReadUsable, UnusableHere, WholeHere}}
use Rattle.pas_scan.proofs.LeftPages.{usable_before, usable_later, unusable_before, left_alone_by, lacks_by}
use Rattle.pas_steps.specs.{Agreement.{Agrees, Agreed}, Evidence.ReadsFree, Frames.KeepsRight, Past.{Once, Always, Since}, Unknown.unknown_pages, Calls.Calls}
use Rattle.pas_steps.specs.{Calls.{Leads, nothing, Does}, Desks.{Seat, Standing, AnyView, Adds, CanCall, Makes, made}, declared.step.Step.Step}
use Rattle.pas_steps.specs.{declared.step.{Step.TheVariants.Look, Made.Made}, Kinds.{Kinds, Only, apart, moving, within, changing}, Views.{View, holds}}
use Rattle.pas_steps.{specs.Views.{has_right, KnowsDeed}, proofs.{Adding.{adds_none, adds_step, adds_call, agreed_first, agreed_later}, Apart.in_apart}}
use Rattle.pas_steps.proofs.{Apart.{grain_same, holds_same}, Called.{call_then, next_call}, Frames.{right_own, right_on, knows_still}, SpareRoom.Spares}
use Rattle.pas_steps.proofs.{Evidence.unknown, Calls.{does_none, does_idly, leads_none, leads_at}, Past.{once_later, once_earlier, once_map, always_both}}
use Rattle.pas_steps.proofs.Past.{always_map}
use Rattle.pas_search.{specs.Kinds.ReturnsDuly, proofs.PagesThatServe.{duly_both, duly_none}}
use Rattle.pas_guard.proofs.Guarded.{no_span, span_kept, span_beside, span_joined, claim_keeps, span_of_none, span_then, span_lost, span_both, out_later}
use Rattle.pas_guard.{proofs.Guarded.{but_first, span_slid, span_has, span_holds, span_spares, release_duly, first_duly}, specs.Evidence.BackedReadHere}
use Rattle.pas_guard.specs.{Evidence.{HoldsRunWhole, OuterBackedHere, IsBad, OuterFailsHere, HasFailedOnce}, Seeks.{LeftSince, backed_looks, ZeroBackedHere}}
use Rattle.pas_guard.specs.Seeks.{SomeBackedHere, LooksBacked, HoldsWhole, HasSpan, seeking, Seeks}

-- ---- evidence, and later steps
bad_more : (v : View) (d : Directory) (k s : ℕ) (ys xs : List Made) → IsBad v d k s xs → IsBad v d k s (ys ++ xs)
bad_more v d k s ys xs h = search (arith, bad_later, once_later)

failed_more : (v : View) (d : Directory) (k s : ℕ) (ys xs : List Made) → HasFailedOnce v d k s xs → HasFailedOnce v d k s (ys ++ xs)
failed_more v d k s ys xs h = search (arith, once_later)

-- runs that failed below page `from`, or the one that begins there, where it is held whole
abbrev Failed : View → Directory → ℕ → ℕ → List Made → ℕ → Type 0
Failed v d k from steps s = (s < from) × HasFailedOnce v d k s steps

abbrev Chosen : View → Directory → ℕ → ℕ → ℕ → List Made → ℕ → Type 0
Chosen v d k from free steps s = ((s ≡ from) × (free ≡ from + (k + 2))) ⊎ Failed v d k from steps s

-- an outer page that was looked at while the run was held
some_is_one : (f : Profile) (v : View) (page : ℕ) (m : Made) → SomeBackedHere page m [] → Agrees f v m.step m.answer → m.answer ≡ 1
some_is_one f v page m h agrees = let read = subst (λ s. Agrees f v s m.answer) h.0 agrees in omega (arith, read.small, h.1)

outer_some : (f : Profile) (v : View) (page : ℕ) (R : List Made → Type 0) (ls ss : List Made) → ((b : List Made) → Only backed_looks b → R (b ++ ss))
    → Only backed_looks ls → Agreed f v (ls ++ ss) → ((g : ℕ) → g / 256 ≡ page → holds (ss ++ v) g ≡ true) → Once (SomeBackedHere page) ls
    → Once (λ m before. R before × BackedReadHere v page 1 m before) (ls ++ ss)
outer_some f v page R [] ss had only agreed held h = absurd h
outer_some f v page R (m ∷ ls) ss had only agreed held (inl h) = inl (
  had ls only.1,
  (h.0, some_is_one f _ page m h agreed.0, λ g at. ap (λ s. holds s g) (append_assoc ls ss v) ∙ holds_same backed_looks refl g ls _ only.1 ∙ held g at),
)
outer_some f v page R (m ∷ ls) ss had only agreed held (inr h) = inr (outer_some f v page R ls ss had only.1 agreed.1 held h)

outer_zero : (v : View) (page : ℕ) (ls ss : List Made) → Only backed_looks ls → ((g : ℕ) → g / 256 ≡ page → holds (ss ++ v) g ≡ true)
    → Once (ZeroBackedHere page) ls → Since (BackedReadHere v page 0) (LeftSince page) (ls ++ ss)
outer_zero v page [] ss only held h = absurd h
outer_zero v page (m ∷ ls) ss only held (inl h) = inl (h.0, h.1, λ g at. ap (λ s. holds s g) (append_assoc ls ss v) ∙ holds_same backed_looks refl g ls (ss ++ v) only.1 ∙ held g at)
outer_zero v page (m ∷ ls) ss only held (inr h) = inr (search (arith, grain_same, in_apart, true≢false, only.0), outer_zero v page ls ss only.1 held h)

-- ---- pages that were held whole before
pub steady_kinds : (ks : Kinds) → apart ks moving ≡ true → (g : ℕ) (ys : List Made) → Only ks ys → StaysPut g ys
steady_kinds ks none g ys only = search (arith, always_map, grain_same, in_apart)

-- no grain of a page that was held whole moves
abbrev Steady : Profile → Directory → List Made → Type 0
Steady f d steps = (v : View) → MayFind d v → Agreed f v steps → (page : ℕ) → HoldsWhole page v → (g : ℕ) → g / 256 ≡ page → StaysPut g steps

steady_later : (ks : Kinds) (f : Profile) (d : Directory) (ys xs : List Made) → apart ks moving ≡ true → Only ks ys → Steady f d xs → Steady f d (ys ++ xs)
steady_later ks f d ys xs none only still v met agreed p whole g at = search (arith, steady_both, steady_kinds, agreed_later)

-- each run that begins below this page can't be guarded
abbrev BadBelow : Profile → Directory → ℕ → ℕ → List Made → Type 0
BadBelow f d k from steps = (v : View) → MayFind d v → Agreed f v steps → (s : ℕ) → 1 ≤ s → s < from → IsBad v d k s steps

-- the first grain of a page, where it is held, reads as used
first_bit : (f : Profile) (v : View) (p : ℕ) (s : Step) (a : ℕ) → ReadsFree p 0 s → Agrees f v s a → holds v (p * 256 + 0) ≡ true → has_bit a 0 ≡ false
first_bit f v p s a h agrees held = grind arith

either_false : {a b : Bool} → a ≡ false → b ≡ false → (a || b) ≡ false
either_false {a} {b} x y = ap (λ t. t || b) x ∙ y

used_here : (f : Profile) (v : View) (p : ℕ) (xs : List Made) → Agreed f v xs → Once (WholeHere p 0) xs → ((g : ℕ) → g / 256 ≡ p → holds v g ≡ true)
    → ((g : ℕ) → g / 256 ≡ p → StaysPut g xs) → ⊥
used_here f v p [] agreed h held stays = h
used_here f v p (m ∷ xs) agreed (inr h) held stays = used_here f v p xs agreed.1 h held (λ g at. (stays g at).1)
used_here f v p (m ∷ xs) agreed (inl h) held stays =
    let at : (p * 256 + 0) / 256 ≡ p = omega arith in
    let own = ap (λ s. holds s (p * 256 + 0)) (sym (append-nil xs)) ∙ steady_holds (p * 256 + 0) xs [] (stays (p * 256 + 0) at).1 in
    let now_held = steady_holds (p * 256 + 0) xs v (stays (p * 256 + 0) at).1 ∙ held (p * 256 + 0) at in
    true≢false (sym (h.1 0 (omega arith)) ∙ either_false (first_bit f (xs ++ v) p m.step m.answer h.0 agreed.0 now_held) own)

-- it is read as not usable
not_usable : (f : Profile) (d : Directory) (v : View) (p : ℕ) (xs : List Made) → Agreed f v xs → HoldsWhole p v → ((g : ℕ) → g / 256 ≡ p → StaysPut g xs)
    → ReadUsable d p xs → ⊥
not_usable f d v p xs agreed whole stays a = search (arith, unknown, used_here)

-- ---- the search so far: each run that begins below page `from` can't be guarded, the pages from there to below `next` were read as usable, and those
-- of them below `free` are held
pub record Sought (d : Directory) (k from free next : ℕ) (desk desk' : Standing) : Type 0 where
  pub steps : List Made
  pub adds : Adds desk desk' (MayFind d) steps
  pub got : Leads desk.seat.profile (MayFind d) (HasSpan d from free) steps
  pub orderly : Orderly seeking desk.seat.profile free steps
  pub lacks : (p : ℕ) → in_span from free p ≡ false → has_right steps p ≡ false
  pub returns : Always ReturnsDuly steps
  pub low : 1 ≤ from
  pub order : (from ≤ free) × (free ≤ next)
  pub within : (next ≤ from + (k + 2)) × (next ≤ desk.seat.profile.pages + 1)
  pub few : length steps + 71 ≤ 6 * next + 48 * free + 17 * from
  pub usable : (page : ℕ) → from ≤ page → page < next → ReadUsable d page steps
  pub holding : (v : View) → MayFind d v → Agreed desk.seat.profile v steps → HoldsSpan from free steps
  pub alone : AloneFrom free steps
  pub steady : Steady desk.seat.profile d steps
  pub bad : BadBelow desk.seat.profile d k from steps
  pub deeds : (v : View) → MayFind d v → Agreed desk.seat.profile v steps → DeedsOf d (k + 2) (Chosen v d k from free steps) steps

-- Before the first page, nothing is sought.
pub sought_none : {σ : Standing} (d : Directory) (k : ℕ) → Sought d k 1 1 1 σ σ
sought_none d k = record {
  steps = [];
  adds = adds_none;
  got = leads_none (λ v met. span_of_none d 1 (does_none v));
  orderly = record { kinds = tt; rise = tt; below = tt; shows = λ n v agreed. omega arith };
  lacks = λ p out. refl;
  returns = tt;
  low = omega arith;
  order = (omega arith, omega arith);
  within = (omega arith, omega arith);
  few = omega arith;
  usable = λ p ge lt. absurd (omega (arith, ge, lt));
  holding = λ v met agreed. no_span 1 [];
  alone = λ p ge. left_alone_by page_looks refl refl p [] tt;
  steady = λ v met agreed p whole g at. tt;
  bad = λ v met agreed s low lt. absurd (omega (arith, low, lt));
  deeds = λ v met agreed. tt;
}

module _ {σ σ1 : Standing} {d : Directory} {k from free next : ℕ} (so : Sought d k from free next σ σ1) where
  abbrev f : Profile
  f = σ.seat.profile

  abbrev xs : List Made
  xs = so.steps

  -- The region's profile is the same after the search.
  same : σ1.seat.profile ≡ f
  same = ap (λ (s : Seat). s.profile) so.adds.seat_is

  -- the pages that are held, and that the pages read after them may be claimed
  so_call : Calls σ σ1 (MayFind d) (λ v w. HasSpan d from free v w × MayClaimPages d free next w) xs
  so_call = record {
    adds = so.adds;
    leads = record {
      from = λ v met agreed.
          let span = so.got.from v met agreed in let at = so.order.0 in (
            span,
            record {
              lacks = λ p low high knows. span_spares span p (span_past from free p low) ∙ met.lacks p (knew f d p xs v agreed (so.usable p (omega (arith, low, at)) high));
              clear = record { on = λ q. span.got.does.clear q (met.clear.on q) };
            },
          );
    };
  }

  -- looks leave it so that they are held
  idle_call : {σ2 : Standing} (ks : Kinds) (ys : List Made) → apart ks changing ≡ true → Only ks ys → Adds σ1 σ2 AnyView ys
      → Calls σ σ2 (MayFind d) (HasSpan d from free) (ys ++ xs)
  idle_call ks ys none only adds =
      let g = σ1.seat.profile in let Idle = λ (w u : View). Does nothing w u × ((p : ℕ) → KnowsDeed p d w → KnowsDeed p d u) in
      call_then {S = Idle} (HasSpan d from free) (record { adds = so.adds; leads = so.got })
      (record { adds = adds; leads = record { from = λ v met agreed. (does_idly g ks none ys v only agreed, λ p knows. knows_still g d p ys v agreed knows) } })
      (λ v met has. tt) (λ v met has kept. span_then d from free has kept.0 kept.1)

  -- a page that was held whole is none of those that were read as usable
  held_apart : (v : View) → MayFind d v → Agreed f v xs → (p : ℕ) → HoldsWhole p v → (g : ℕ) → g / 256 ≡ p → in_span from next (g / 256) ≡ false
  held_apart v met agreed p whole g at = elim (cases_Bool (in_span from next (g / 256))) [
    | inl is ↦ (let there = in_parts from next p (ap (in_span from next) (sym at) ∙ is) in absurd (not_usable f d v p xs agreed whole (so.steady v met agreed p whole) (so.usable p there.0 there.1)))
    | inr out ↦ out
  ]

  bad_still : (ys : List Made) → BadBelow f d k from (ys ++ xs)
  bad_still ys v met agreed s low lt = bad_more v d k s ys xs (so.bad v met (agreed_later f v ys xs agreed) s low lt)

  -- grains that are put back are none of a page that was held whole
  put_steady : {σ2 σ3 : Standing} (zs : List Made) (r : Releases d from free σ2 σ3) → Steady f d (zs ++ xs) → Steady f d (r.steps ++ (zs ++ xs))
  put_steady zs r still v met agreed p whole g at = search (arith, agreed_later, steady_both, narrower, held_apart)

  -- pages that are held are put back
  module _ {σ2 : Standing} {ss : List Made} (held : Calls σ σ2 (MayFind d) (HasSpan d from free) ss) where
    held_pages : (v : View) → MayFind d v → HasSpan d from free v (ss ++ v) → HasPages d from free (ss ++ v)
    held_pages v met span = has_got d from free met.clear span.got

    can_release : CanCall σ (MayFind d) → CanCall σ2 (HasPages d from free)
    can_release can = next_call held can held_pages

    -- A span that is released leaves nothing behind.
    released : {σ3 : Standing} (r : Releases d from free σ2 σ3) → Calls σ σ3 (MayFind d) (Does nothing) (r.steps ++ ss)
    released r = call_then (Does nothing) held r.calls held_pages (λ v met span lost. span_lost d from free span lost)

  -- ---- the next page is looked for
  module _ {σ2 : Standing} {found : Option ℕ} (find : FindsRun d next next 1 σ1 σ2 found) where
    abbrev ys : List Made
    ys = find.steps

    -- After the looks the actor has the span still.
    looked : Calls σ σ2 (MayFind d) (HasSpan d from free) (ys ++ xs)
    looked = idle_call page_looks ys refl find.kinds find.adds

    looked_orderly : Orderly seeking f free (ys ++ xs)
    looked_orderly = orderly_later page_looks ys xs refl refl refl find.kinds so.orderly

    looked_returns : Always ReturnsDuly (ys ++ xs)
    looked_returns = duly_both ys xs (duly_none page_looks ys refl refl find.kinds) so.returns

    looked_lacks : (p : ℕ) → in_span from free p ≡ false → has_right (ys ++ xs) p ≡ false
    looked_lacks p out = right_own p ys xs (so.lacks p out) ∙ lacks_by page_looks refl p ys find.kinds

    looked_alone : AloneFrom free (ys ++ xs)
    looked_alone p ge = alone_looks p ys xs find.kinds (so.alone p ge)

    looked_usable : (p : ℕ) → from ≤ p → p < next → ReadUsable d p (ys ++ xs)
    looked_usable p ge lt = usable_later d p ys xs (so.usable p ge lt)

    looked_steady : Steady f d (ys ++ xs)
    looked_steady = steady_later page_looks f d ys xs refl find.kinds so.steady

    -- a run with a page, `next` or a later one, that was read as not usable
    bad_here : (v : View) (s other : ℕ) → next ≤ other → s ≤ other → other < s + (k + 2) → HasUnusable d 1 other ys → IsBad v d k s (ys ++ xs)
    bad_here v s other past low high h =
        let at = h.1 in let ge = at.0 in let lt = at.1 in let order = so.order.1 in
        inl (
          h.0,
          (omega (arith, ge, low), omega (arith, lt, high)),
          once_map (UnusableHere d h.0) (BadHere d h.0) (ys ++ xs) (λ m b x. inl x)
              (unusable_before d h.0 ys xs (so.alone h.0 (omega (arith, ge, past, order))) h.2),
        )

    -- where not all pages of a run are held
    looked_deeds : (rs : List Made) → free < from + (k + 2) → (v : View) (met : MayFind d v) → Agreed f v (ys ++ xs)
        → DeedsOf d (k + 2) (Failed v d k from (rs ++ (ys ++ xs))) (ys ++ xs)
    looked_deeds rs short v met agreed = deeds_later page_looks d (k + 2) (Chosen v d k from free xs) (Failed v d k from (rs ++ (ys ++ xs))) ys xs
        (λ s h. elim h [ inl full ↦ (absurd (omega (arith, full.1, short))) | inr failed ↦ search (arith, failed_more) ]) refl find.kinds (so.deeds v met (agreed_later f v ys xs agreed))

  -- After a look for the next page, those of the run so far may be released.
  pub can_release_looked : {σ2 : Standing} {found : Option ℕ} → FindsRun d next next 1 σ1 σ2 found → CanCall σ (MayFind d) → CanCall σ2 (HasPages d from free)
  can_release_looked find can = can_release (looked find) can

  -- none is usable, and what is held is put back
  pub seek_ends : {σ2 σ3 : Standing} → CanCall σ (MayFind d) → next < from + (k + 2) → FindsRun d next next 1 σ1 σ2 None → Releases d from free σ2 σ3
      → Seeks d k σ σ3 None
  seek_ends can short find r =
      let ys = find.steps in let rs = r.steps in let none = subst (λ x. HasNoRun x d next next 1 ys) same find.outcome in
      let calls = released (looked find) r in let order = so.order.1 in let first = so.order.0 in let in_region = so.within.1 in
      let orderly = orderly_later giving_back rs (ys ++ xs) refl refl refl r.kinds (looked_orderly find) in record {
        steps = rs ++ (ys ++ xs);
        adds = calls.adds;
        kinds = orderly.kinds;
        rise = orderly.rise;
        returns = release_duly d from free (looked find) can (looked_returns find) r;
        shows = orderly.shows;
        few = search (arith, length-append);
        steady = put_steady ys r (looked_steady find);
        outcome = record {
          still = calls.leads;
          bad = λ v met agreed s low le. let before = agreed_later f v rs (ys ++ xs) agreed in bad_more v d k s rs (ys ++ xs) (elim (cases_lt s from) [
            | inl below ↦ bad_still ys v met before s low below
            | inr above ↦ elim (cases_lt s next) [
              | inl lt ↦ bad_here find v s next (omega arith) (omega (arith, lt)) (omega (arith, short, above)) (none.runs next (omega arith) (omega (arith, short, above, le)))
              | inr ge ↦ bad_here find v s s ge (omega arith) (omega arith) (none.runs s ge (omega (arith, le)))
            ]
          ]);
          deeds = λ v met agreed. let before = agreed_later f v rs (ys ++ xs) agreed in let all = rs ++ (ys ++ xs) in
              deeds_later giving_back d (k + 2) _ _ rs (ys ++ xs) (λ s h. h.1) refl r.kinds (looked_deeds find rs (omega (arith, short, order)) v met before);
          lacks = λ p. r.lacks (ys ++ xs) p (λ out. looked_lacks find p out);
        };
      }

  -- the next page is usable
  pub seek_more : {σ2 : Standing} (page : ℕ) → page ≡ next → next < from + (k + 2) → FindsRun d next next 1 σ1 σ2 (Some page)
      → Sought d k from free (page + 1) σ σ2
  seek_more page at short find =
      let ys = find.steps in let run = subst (λ x. IsFirstRun x d next next 1 ys page) same find.outcome in let order = so.order.1 in let region = run.of_region in record {
        steps = ys ++ xs;
        adds = (looked find).adds;
        got = (looked find).leads;
        orderly = looked_orderly find;
        lacks = looked_lacks find;
        returns = looked_returns find;
        low = so.low;
        order = (so.order.0, omega (arith, order, at));
        within = (omega (arith, at, short), omega (arith, region));
        few = (let j = length-append ys xs in omega (arith, j, find.few, so.few, at));
        usable = λ p ge lt. elim (cases_lt p next) [
          | inl old ↦ looked_usable find p ge old
          | inr new ↦ usable_before d p ys xs (so.alone p (omega (arith, new, order))) (run.usable p (omega (arith, at, new), lt) new)
        ];
        holding = λ v met agreed. span_kept from free ys xs (λ p ge lt. keeps_by p page_looks ys refl find.kinds) (so.holding v met (agreed_later f v ys xs agreed));
        alone = looked_alone find;
        steady = looked_steady find;
        bad = bad_still ys;
        deeds = λ v met agreed. deeds_map d (k + 2) _ _ (ys ++ xs) (λ s h. inr h) (looked_deeds find [] (omega (arith, short, order)) v met agreed);
      }

  -- a later page is, and what is held is put back
  pub seek_jump : {σ2 σ3 : Standing} → CanCall σ (MayFind d) → (page : ℕ) → page ≢ next → next < from + (k + 2) → FindsRun d next next 1 σ1 σ2 (Some page)
      → Releases d from free σ2 σ3 → Sought d k page page (page + 1) σ σ3
  seek_jump can page other short find r =
      let ys = find.steps in let rs = r.steps in let run = subst (λ x. IsFirstRun x d next next 1 ys page) same find.outcome in
      let calls = released (looked find) r in let order = so.order.1 in let first = so.order.0 in let region = run.of_region in let past = run.from_there in let low = so.low in record {
        steps = rs ++ (ys ++ xs);
        adds = calls.adds;
        got = record { from = λ v met agreed. span_of_none d page (calls.leads.from v met agreed) };
        orderly = orderly_wider free page (rs ++ (ys ++ xs)) (omega (arith, order, past)) (orderly_later giving_back rs (ys ++ xs) refl refl refl r.kinds (looked_orderly find));
        lacks = λ p out. r.lacks (ys ++ xs) p (λ out. looked_lacks find p out);
        returns = release_duly d from free (looked find) can (looked_returns find) r;
        low = omega (arith, low, first, order, past);
        order = (omega arith, omega arith);
        within = (omega arith, omega (arith, region));
        few = (let i = length-append rs (ys ++ xs) in let j = length-append ys xs in omega (arith, i, j, r.few, find.few, so.few, order, first, past));
        usable = λ p ge lt. usable_later d p rs (ys ++ xs) (usable_before d p ys xs (so.alone p (omega (arith, ge, past, order))) (run.usable p (ge, lt) (omega (arith, ge, past))));
        holding = λ v met agreed. no_span page (rs ++ (ys ++ xs));
        alone = λ p ge. r.alone (ys ++ xs) p (omega (arith, ge, past, order)) (looked_alone find p (omega (arith, ge, past, order)));
        steady = put_steady ys r (looked_steady find);
        bad = λ v met agreed s one lt. let before = agreed_later f v rs (ys ++ xs) agreed in bad_more v d k s rs (ys ++ xs) (elim (cases_lt s from) [
          | inl below ↦ bad_still ys v met before s one below
          | inr above ↦ elim (cases_lt s next) [
            | inl less ↦ bad_here find v s next (omega arith) (omega (arith, less)) (omega (arith, short, above)) (run.lower next (omega arith) (omega (arith, past, other)))
            | inr ge ↦ bad_here find v s s ge (omega arith) (omega arith) (run.lower s ge lt)
          ]
        ]);
        deeds = λ v met agreed. let before = agreed_later f v rs (ys ++ xs) agreed in let all = rs ++ (ys ++ xs) in deeds_later giving_back d (k + 2)
            (Failed v d k from all) (Chosen v d k page page all) rs (ys ++ xs) (λ s h. inr (omega (arith, h.0, first, order, past), h.1)) refl r.kinds
            (looked_deeds find rs (omega (arith, short, order)) v met before);
      }

  -- ---- all pages of a run were read as usable, and those that aren't held are claimed
  module _ (whole : next ≡ from + (k + 2)) where
    all_usable : (b : List Made) → AllUsable d (k + 2) from (b ++ xs)
    all_usable b p is = usable_later d p b xs (so.usable p is.0 (omega (arith, is.1, whole)))

    -- Once a run has all its pages read as usable, those that aren't held may be claimed.
    pub can_claim : (spare spare1 : ℕ) → CanCall σ (FindRoom f d 1 spare) → Spares σ spare → Spares σ1 spare1
        → CanCall σ1 (HasRunRoom σ1.seat.profile d free next 1 spare1)
    can_claim spare spare1 can law law1 =
        let may = may_find can in let met = can.met.may in
        let agreed = so.adds.agreed may.view may.whole may.stood met in record {
          view = xs ++ can.view;
          whole = _;
          stood = so.adds.added may.view may.whole may.stood met;
          met = record {
            may = (so_call.leads.from can.view met agreed).1;
            room = subst (λ x. 1 + unknown_pages x (xs ++ can.view) ≤ spare1) (sym same) (room_after {spare = spare} {spare' = spare1} 1 so.adds may so.orderly.shows can.met.room law law1);
          };
        }

    module _ {σ2 : Standing} {failed : Option ℕ} (claim : ClaimsRun true d free next σ1 σ2 failed) where
      abbrev zs : List Made
      zs = claim.steps

      claim_adds : Adds σ σ2 (MayFind d) (zs ++ xs)
      claim_adds = adds_call so.adds claim.adds (λ v l stood met. (so_call.leads.from v met (so.adds.agreed v l stood met)).1)

      claim_orderly : (stop : ℕ) → free ≤ stop → DeedsIn d free stop zs → Orderly seeking f stop (zs ++ xs)
      claim_orderly stop le made = orderly_claim claim xs stop same refl le made so.orderly

      claim_returns : Always ReturnsDuly (zs ++ xs)
      claim_returns = duly_both zs xs claim.returns so.returns

      claim_usable : (p : ℕ) → from ≤ p → p < next → ReadUsable d p (zs ++ xs)
      claim_usable p ge lt = usable_later d p zs xs (so.usable p ge lt)

      claim_steady : Steady f d (zs ++ xs)
      claim_steady v met agreed p whole g at = search (arith, agreed_later, steady_both, out_later, held_apart)

      -- deeds of the claim are of the run, and those before of it or of one that failed
      claim_deeds : (v : View) (met : MayFind d v) → Agreed f v (zs ++ xs) → (P : ℕ → Type 0) → P from → ((s : ℕ) → s < from → HasFailedOnce v d k s xs → P s)
          → DeedsOf d (k + 2) P (zs ++ xs)
      claim_deeds v met agreed P its more = always_both _ (DeedOf d (k + 2) P) zs xs
          (λ m before h p e is z. let at = h p e is z in (at.0, (from, (omega (arith, at.1, so.order.0), omega (arith, at.2, whole)), all_usable before, its)))
          claim.made (deeds_map d (k + 2) (Chosen v d k from free xs) P xs (λ s h. elim h [ inl full ↦ subst P (sym full.0) its | inr failed ↦ more s failed.0 failed.1 ]) (so.deeds v met (agreed_later f v zs xs agreed)))

    -- the claim failed, and what is held is put back
    module _ {σ2 : Standing} (page : ℕ) (claim : ClaimsRun true d free next σ1 σ2 (Some page)) where
      abbrev ws : List Made
      ws = claim.steps

      -- The claim of the run failed.
      fails : FailsRun true f d free next page ws
      fails = subst (λ x. FailsRun true x d free next page ws) same claim.outcome

      lost_call : Calls σ σ2 (MayFind d) (HasSpan d from free) (ws ++ xs)
      lost_call = record {
        adds = claim_adds claim;
        leads = record {
          from = λ v met agreed.
              let before = agreed_later f v ws xs agreed in let after = agreed_first f v ws xs agreed in let has = so_call.leads.from v met before in
              subst (HasSpan d from free v) (sym (append_assoc ws xs v)) (span_then d from free has.0 (fails.still.from (xs ++ v) has.1 after) (λ p knows. knows_still f d p ws (xs ++ v) after knows));
        };
      }

      -- After a claim that failed, the pages that were held of the run may be released.
      pub can_release_lost : CanCall σ (MayFind d) → CanCall σ2 (HasPages d from free)
      can_release_lost can = can_release lost_call can

      lost_orderly : Orderly seeking f (page + 1) (ws ++ xs)
      lost_orderly = claim_orderly claim (page + 1) (omega (arith, fails.in_run.0)) fails.made

      lost_lacks : (p : ℕ) → in_span from free p ≡ false → has_right (ws ++ xs) p ≡ false
      lost_lacks p out = right_own p ws xs (so.lacks p out) ∙ ap (λ s. has_right s p) (sym (append-nil ws)) ∙ fails.lacks [] (λ q. refl) p

      module _ (v : View) (agreed : Agreed f v (ws ++ xs)) where
        abbrev Fails : Made → List Made → Type 0
        Fails m b = LostHere d page m (b ++ xs) ⊎ BrokenHere page m (b ++ xs)

        -- It failed at a page that was lost or broken.
        failing : Once Fails ws
        failing = elim (fails.failed refl xs v so.alone (so.usable page (omega (arith, so.order.0, fails.in_run.0)) fails.in_run.1) agreed) [
          | inl lost ↦ once_map (λ m b. LostHere d page m (b ++ xs)) Fails ws (λ m b x. inl x) lost
          | inr broken ↦ once_map (λ m b. BrokenHere page m (b ++ xs)) Fails ws (λ m b x. inr x) broken
        ]

        page_bad : Once (BadHere d page) (ws ++ xs)
        page_bad = once_earlier Fails (BadHere d page) ws xs (λ m b x. inr x) failing

        run_failed : HasFailed d (k + 2) from (ws ++ xs)
        run_failed = once_earlier Fails (FailsHere d (k + 2) from) ws xs
            (λ m b x. (all_usable b, (page, (omega (arith, so.order.0, fails.in_run.0), omega (arith, fails.in_run.1, whole)), x))) failing

      -- After a claim that failed at a page, and the others were released, the search goes on past it.
      pub seek_lost : {σ3 : Standing} → CanCall σ (MayFind d) → Releases d from free σ2 σ3 → Sought d k (page + 1) (page + 1) next σ σ3
      seek_lost can r =
          let rs = r.steps in let calls = released lost_call r in let low = so.low in let first = so.order.0 in let ge = fails.in_run.0 in let lt = fails.in_run.1 in record {
            steps = rs ++ (ws ++ xs);
            adds = calls.adds;
            got = record { from = λ v met agreed. span_of_none d (page + 1) (calls.leads.from v met agreed) };
            orderly = orderly_later giving_back rs (ws ++ xs) refl refl refl r.kinds lost_orderly;
            lacks = λ p out. r.lacks (ws ++ xs) p (λ out. lost_lacks p out);
            returns = release_duly d from free lost_call can (claim_returns claim) r;
            low = omega arith;
            order = (omega arith, omega (arith, lt));
            within = (omega (arith, whole, first, ge), so.within.1);
            few = (let i = length-append rs (ws ++ xs) in let j = length-append ws xs in omega (arith, i, j, r.few, fails.few, so.few, first, ge));
            usable = λ p from_page below. usable_later d p rs (ws ++ xs) (claim_usable claim p (omega (arith, from_page, first, ge)) below);
            holding = λ v met agreed. no_span (page + 1) (rs ++ (ws ++ xs));
            alone = λ p from_page. r.alone (ws ++ xs) p (omega (arith, from_page, ge)) (fails.alone xs so.alone p from_page);
            steady = put_steady ws r (claim_steady claim);
            bad = λ v met agreed s one under. let before = agreed_later f v rs (ws ++ xs) agreed in bad_more v d k s rs (ws ++ xs) (elim (cases_lt s from) [
              | inl below ↦ bad_still ws v met before s one below
              | inr above ↦ inl (page, (omega (arith, under), omega (arith, lt, whole, above)), page_bad v before)
            ]);
            deeds = λ v met agreed. let before = agreed_later f v rs (ws ++ xs) agreed in let all = rs ++ (ws ++ xs) in deeds_later giving_back d (k + 2)
                (Failed v d k (page + 1) all) (Chosen v d k (page + 1) (page + 1) all) rs (ws ++ xs) (λ s h. inr h) refl r.kinds
                (claim_deeds claim v met before _ (omega (arith, first, ge), failed_more v d k from rs (ws ++ xs) (inl (run_failed v before)))
                (λ s lt h. (omega (arith, lt, first, ge), failed_more v d k s rs (ws ++ xs) (failed_more v d k s ws xs h))));
          }

    -- the whole run is held
    pub seek_claimed : {σ2 : Standing} → ClaimsRun true d free next σ1 σ2 None → Sought d k from next next σ σ2
    seek_claimed claim =
        let zs = claim.steps in let holds_it = subst (λ x. HoldsRun x d free next zs) same claim.outcome in let first = so.order.0 in let last = so.order.1 in record {
          steps = zs ++ xs;
          adds = claim_adds claim;
          got = record {
            from = λ v met agreed.
                let before = agreed_later f v zs xs agreed in let after = agreed_first f v zs xs agreed in let has = so_call.leads.from v met before in
                let new = holds_it.got.from (xs ++ v) has.1 after in
                search (arith, append_assoc, span_both, span_spares, span_past, span_in, knows_still, new.lacked);
          };
          orderly = claim_orderly claim next last claim.made;
          lacks = λ p out. right_own p zs xs (so.lacks p (narrower _ _ next p last out)) ∙ ap (λ s. has_right s p) (sym (append-nil zs)) ∙ holds_it.lacks [] (λ q. refl) p (out_later from free next p first out);
          returns = claim_returns claim;
          low = so.low;
          order = (omega (arith, first, last), omega arith);
          within = so.within;
          few = (let j = length-append zs xs in omega (arith, j, holds_it.few, so.few, last));
          usable = claim_usable claim;
          holding = λ v met agreed.
              let before = agreed_later f v zs xs agreed in let after = agreed_first f v zs xs agreed in let has = so_call.leads.from v met before in
              let kept : (p : ℕ) → from ≤ p → p < free → KeepsRight p zs = λ p ge lt. let is = span_in from free p ge lt in
              (claim_keeps f d p (xs ++ v) zs after claim.returns (has.0.got.deeds p is) (span_has has.0 p is)).0 in
              span_joined from free next (zs ++ xs) (span_kept from free zs xs kept (so.holding v met before)) (holds_it.holding xs so.alone);
          alone = holds_it.alone xs so.alone;
          steady = claim_steady claim;
          bad = bad_still zs;
          deeds = λ v met agreed. claim_deeds claim v met agreed _ (inl (refl, whole)) (λ s lt h. inr (lt, failed_more v d k s zs xs h));
        }

abbrev HeldRun : View → Directory → ℕ → ℕ → List Made → Type 0
HeldRun v d k first before = AllUsable d (k + 2) first before × HoldsRunWhole v k first before

-- Whatever a search did, its desk may make a step that asks nothing of the view.
pub anything_goes : {σ σ1 : Standing} {d : Directory} {k from next : ℕ} → Sought d k from next next σ σ1 → CanCall σ (MayFind d) → CanCall σ1 AnyView
anything_goes so can = record { view = so.steps ++ can.view; whole = _; stood = so.adds.added can.view can.whole can.stood can.met; met = tt }

-- ---- the whole run is held, and its outer pages are looked at
module _ {σ σ1 σ2 : Standing} {d : Directory} {k from next : ℕ} (so : Sought d k from next next σ σ1) (high : ℕ) (whole : next ≡ from + (k + 2))
    (last : high + 1 ≡ next) {bare : Bool} (looks : LooksBacked from high σ1 σ2 bare) where
  abbrev g_ : Profile
  g_ = σ.seat.profile

  abbrev us : List Made
  us = so.steps

  abbrev ls : List Made
  ls = looks.steps

  high_is : high ≡ from + k + 1
  high_is = omega (arith, whole, last)

  held_page : (v : View) (met : MayFind d v) → Agreed g_ v us → (p : ℕ) → from ≤ p → p < next → (g : ℕ) → g / 256 ≡ p → holds (us ++ v) g ≡ true
  held_page v met agreed p ge lt g at = span_holds (so.got.from v met agreed) g (ap (in_span from next) at ∙ span_in from next p ge lt)

  look_call : Calls σ σ2 (MayFind d) (HasSpan d from next) (ls ++ us)
  look_call = idle_call so backed_looks ls refl looks.kinds looks.adds

  look_orderly : Orderly seeking g_ next (ls ++ us)
  look_orderly = orderly_later backed_looks ls us refl refl refl looks.kinds so.orderly

  look_returns : Always ReturnsDuly (ls ++ us)
  look_returns = duly_both ls us (duly_none backed_looks ls refl refl looks.kinds) so.returns

  look_lacks : (p : ℕ) → in_span from next p ≡ false → has_right (ls ++ us) p ≡ false
  look_lacks p out = right_own p ls us (so.lacks p out) ∙ lacks_by backed_looks refl p ls looks.kinds

  usable_now : (b : List Made) → AllUsable d (k + 2) from (b ++ us)
  usable_now b p is = usable_later d p b us (so.usable p is.0 (omega (arith, is.1, whole)))

  -- all pages of the run had been read as usable, and are held
  held_run : (v : View) (met : MayFind d v) → Agreed g_ v us → (b : List Made) → Only backed_looks b → HeldRun v d k from (b ++ us)
  held_run v met agreed b only = (
    usable_now b,
    λ g is. ap (λ s. holds s g) (append_assoc b us v) ∙ holds_same backed_looks refl g b _ only ∙ held_page v met agreed _ is.0 (omega (arith, is.1, whole)) g refl,
  )

  look_steady : Steady g_ d (ls ++ us)
  look_steady = steady_later backed_looks g_ d ls us refl looks.kinds so.steady

  look_deeds : (v : View) (met : MayFind d v) → Agreed g_ v (ls ++ us) → (P : ℕ → Type 0) → P from → ((s : ℕ) → s < from → HasFailedOnce v d k s us → P s)
      → DeedsOf d (k + 2) P (ls ++ us)
  look_deeds v met agreed P its more = deeds_later backed_looks d _ _ P ls us (λ s h. elim h [ inl run ↦ subst P (sym run.0) its | inr failed ↦ more s failed.0 failed.1 ]) refl looks.kinds
      (so.deeds v met (agreed_later g_ v ls us agreed))

module _ {σ σ1 σ2 : Standing} {d : Directory} {k from next : ℕ} (so : Sought d k from next next σ σ1) (high : ℕ) (whole : next ≡ from + (k + 2))
    (last : high + 1 ≡ next) where
  -- neither is backed
  pub seek_found : LooksBacked from high σ1 σ2 true → Seeks d k σ σ2 (Some from)
  seek_found looks =
      let f = σ.seat.profile in let ls = looks.steps in let us = so.steps in let call = look_call so high whole last looks in
      let orderly = look_orderly so high whole last looks in record {
        steps = ls ++ us;
        adds = call.adds;
        kinds = orderly.kinds;
        rise = orderly.rise;
        returns = look_returns so high whole last looks;
        shows = orderly.shows;
        few = (let j = length-append ls us in omega (arith, j, looks.few, so.few, so.within.1, so.order.0));
        steady = look_steady so high whole last looks;
        outcome = record {
          of_region = (so.low, omega (arith, whole, so.within.1));
          got = subst (λ x. Leads f (MayFind d) (HasSpan d from x) (ls ++ us)) whole call.leads;
          usable = usable_now so high whole last looks ls;
          taken = λ v met agreed.
              let held = span_kept from next ls us (λ p ge lt. keeps_by p backed_looks ls refl looks.kinds) (so.holding v met (agreed_later f v ls us agreed)) in record {
                usable = usable_now so high whole last looks ls;
                right = λ p is. held.right p is.0 (omega (arith, is.1, whole));
                whole = λ p word is small. held.whole p word is.0 (omega (arith, is.1, whole)) small;
              };
          bare = search (arith, agreed_later, outer_zero, held_page, high_is);
          lower = bad_still so ls;
          deeds = λ v met agreed. look_deeds so high whole last looks v met agreed _ (inl refl) (λ s lt h. inr (lt, failed_more v d k s ls us h));
        };
      }

  -- one of them is, and the first page is left
  module _ (looks : LooksBacked from high σ1 σ2 false) where
    abbrev ls_ : List Made
    ls_ = looks.steps

    abbrev us_ : List Made
    us_ = so.steps

    -- An outer page fails, as the looks show.
    outer : (v : View) (met : MayFind d v) → Agreed σ.seat.profile v (ls_ ++ us_) → Once (OuterFailsHere v d k from) (ls_ ++ us_)
    outer v met agreed =
        let f = σ.seat.profile in let before = agreed_later f v ls_ us_ agreed in let had = held_run so _ whole last looks v met before in let R = HeldRun v d k _ in elim looks.outcome [
          | inl low ↦ once_map _ _ _ (λ m b x. (x.0.0, (x.0.1, inl x.1))) (outer_some f v from R ls_ us_ had looks.kinds agreed
              (held_page so high whole last looks v met before from (omega arith) (omega (arith, whole))) low)
          | inr up ↦ once_map (λ m b. R b × BackedReadHere v high 1 m b) (OuterFailsHere v d k from) (ls_ ++ us_) (λ m b x. (x.0.0, search (arith, high_is)))
              (outer_some f v high R ls_ us_ had looks.kinds agreed (held_page so high whole last looks v met before high (omega (arith, whole, last)) (omega (arith, last))) up)
        ]

    may_slide : (v : View) → MayFind d v → HasSpan d from next v (ls_ ++ (us_ ++ v)) → MayPutAndLeave from d (masked from full) (ls_ ++ (us_ ++ v))
    may_slide v met span =
        let is = span_in from next from (omega arith) (omega (arith, whole)) in record {
          right = span_has span from is;
          deed = span.got.deeds from is;
          held = search (arith, eqb-true);
          clear = span.got.does.clear from (met.clear.on from);
        }

    slide_may : (v : View) → MayFind d v → HasSpan d from next v ((ls_ ++ us_) ++ v) → MayPutAndLeave from d (masked from full) ((ls_ ++ us_) ++ v)
    slide_may v met span = subst (MayPutAndLeave from d (masked from full)) (sym (append_assoc ls_ us_ v)) (may_slide v met (subst (HasSpan d from next v) (append_assoc ls_ us_ v) span))

    -- After the looks at the outer pages of a run, its first page may be put back and left.
    pub can_slide : CanCall σ (MayFind d) → CanCall σ2 (MayPutAndLeave from d (masked from full))
    can_slide can = next_call (look_call so high whole last looks) can slide_may

    -- After its first page was left, the run slides one page on.
    pub seek_slide : {σ3 : Standing} → CanCall σ (MayFind d) → PutsAndLeaves from d full σ2 σ3 → Sought d k (from + 1) next next σ σ3
    seek_slide can h =
        let f = σ.seat.profile in let ps = h.after ++ h.puts in let call = look_call so _ whole last looks in let left = leads_at call.adds.seat_is h.calls.leads in record {
          steps = ps ++ (ls_ ++ us_);
          adds = adds_call call.adds h.calls.adds (λ v l stood met. slide_may v met (call.leads.from v met (call.adds.agreed v l stood met)));
          got = record {
            from = λ v met agreed.
                let before = agreed_later f v ps _ agreed in let after = agreed_first f v ps (ls_ ++ us_) agreed in let span = call.leads.from v met before in
                subst (HasSpan d (from + 1) next v) (sym (append_assoc ps (ls_ ++ us_) v)) (span_slid d from next (omega (arith, whole)) span
                (left.from _ (slide_may v met span) after) (λ p knows. knows_still f d p ps ((ls_ ++ us_) ++ v) after knows));
          };
          orderly = orderly_later giving_back ps (ls_ ++ us_) refl refl refl h.kinds (look_orderly so high whole last looks);
          lacks = λ p out. elim (cases_eq p from) [
            | inl e ↦ ap (has_right (ps ++ (ls_ ++ us_))) e ∙ h.lacks (ls_ ++ us_)
            | inr ne ↦ right_on from p ps (ls_ ++ us_) h.on ne ∙ look_lacks so high whole last looks p (but_first from next p ne ∙ out)
          ];
          returns = first_duly d from next call can (look_returns so high whole last looks) (omega (arith, whole)) h;
          low = omega arith;
          order = (omega (arith, whole), omega arith);
          within = (omega (arith, whole), so.within.1);
          few = (let i = length-append ps (ls_ ++ us_) in let j = length-append ls_ us_ in omega (arith, i, j, h.few, looks.few, so.few));
          usable = λ p ge lt. usable_later d p ps (ls_ ++ us_) (usable_later d p ls_ us_ (so.usable p (omega (arith, ge)) lt));
          holding = λ v met agreed. let before = agreed_later f v ps (ls_ ++ us_) agreed in
              let held = span_kept from next ls_ us_ (λ p ge lt. keeps_by p backed_looks ls_ refl looks.kinds) (so.holding v met (agreed_later f v ls_ us_ before)) in
              span_beside from _ next ps _ h.on (λ p ge lt e. absurd (omega (arith, e, ge))) (record { right = λ p ge lt. held.right p (omega (arith, ge)) lt; whole = λ p word ge lt small. held.whole p word (omega (arith, ge)) lt small });
          alone = λ p ge. alone_on from p ps (ls_ ++ us_) h.on (λ e. absurd (omega (arith, e, ge, whole))) (alone_later backed_looks p ls_ us_ refl refl looks.kinds (so.alone p ge));
          steady = λ v met agreed p kept_whole g at. let before = agreed_later f v ps (ls_ ++ us_) agreed in
              let out = held_apart so v met (agreed_later f v ls_ us_ before) p kept_whole g at in
              steady_both g ps (ls_ ++ us_) (steady_on from g ps h.on (out_of from next (g / 256) from out (omega arith) (omega (arith, whole))))
              (look_steady so high whole last looks v met before p kept_whole g at);
          bad = λ v met agreed s one under. let before = agreed_later f v ps (ls_ ++ us_) agreed in bad_more v d k s ps (ls_ ++ us_) (elim (cases_lt s from) [
            | inl below ↦ bad_still so ls_ v met before s one below
            | inr above ↦ (let e : from ≡ s = omega (arith, above, under) in inr (subst (λ x. Once (OuterBackedHere v k x) (ls_ ++ us_)) e (once_map _ _ (ls_ ++ us_) (λ m b x. x.1) (outer v met before))))
          ]);
          deeds = λ v met agreed. let before = agreed_later f v ps (ls_ ++ us_) agreed in let chosen = Chosen v d k (from + 1) next (ps ++ (ls_ ++ us_)) in
              deeds_later giving_back d (k + 2) chosen chosen ps (ls_ ++ us_) (λ s h. h) refl h.kinds
              (look_deeds so high whole last looks v met before chosen (inr (omega arith, failed_more v d k from ps (ls_ ++ us_) (inr (outer v met before))))
              (λ s lt h. inr (omega (arith, lt), failed_more v d k s ps (ls_ ++ us_) (failed_more v d k s ls_ us_ h))));
        }

-- ---- the looks at the outer pages
abbrev look_at : ℕ → ℕ → Made
look_at page a = made (Look (Word.Backed page)) a

-- A low page that was read as backed shows that the run can't be guarded.
pub looks_low : {σ σ1 : Standing} (low high a : ℕ) → a ≢ 0 → Makes σ σ1 (Look (Word.Backed low)) a → LooksBacked low high σ σ1 false
looks_low low high a some makes = record { steps = look_at low a ∷ []; adds = search (arith, adds_step, adds_none); kinds = (refl, tt); few = omega arith; outcome = inl (inl (refl, some)) }

-- The backed words of both outer pages show whether the run can be guarded, where the low one is 0.
pub looks_both : {σ σ1 σ2 : Standing} (low high a b : ℕ) (bare : Bool) → a ≡ 0 → (b == 0) ≡ bare → Makes σ σ1 (Look (Word.Backed low)) a
    → Makes σ1 σ2 (Look (Word.Backed high)) b → LooksBacked low high σ σ2 bare
looks_both low high a b bare zero is first second = record {
  steps = look_at high b ∷ look_at low a ∷ [];
  adds = search (arith, adds_step, adds_none);
  kinds = (refl, (refl, tt));
  few = omega arith;
  outcome = search (arith, eqb-true, true≢false, eq-eqb);
}
