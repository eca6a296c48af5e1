-- The claim of the pages of a run, one page more, and how they are left.
use Rattle.pas_steps.specs.{Clear.IsClear, Frames.{IsOnPage, OnlyOn}, Past.{Once, Always, Since}, Evidence.{KeptHere, GetsHere}, Agreement.Agreed}
use Rattle.pas_steps.specs.{Unknown.unknown_pages, Kinds.{Kinds, within}, Calls.{Kept, Gained, Lost, now, nothing, Does, Calls, Leads}, Views.{View, Stays}}
use Rattle.pas_steps.specs.{Views.{grain_move, held_after, holds, has_right, KnowsDeed}, declared.step.{Made.Made, Step.TheVariants.Deed}, Desks.Seat}
use Rattle.pas_steps.{specs.Desks.{Standing, CanCall, Adds}, proofs.{SpareRoom.{Spares, spare_falls}, Sets.both_fates, Apart.{only_both, only_within}}}
use Rattle.pas_steps.proofs.{Calls.{does_as, does_then, does_after_nothing, does_none}, Frames.{right_on, on_grain, holds_on_page, knows_still}}
use Rattle.pas_steps.proofs.{Past.{always_both, always_map, once_later, once_earlier}, Adding.{adds_none, adds_call, can_call, agreed_first, agreed_later}}
use Rattle.pas_steps.proofs.{Adding.adds_under, Called.{call_none, call_then, next_call, call_as}}
use Rattle.std.proofs.Common.{◌≡◌, ◌≢◌, ℕ, ◌+◌, ◌/◌, ◌-◌, ◌<◌, ◌≤◌, ◌==◌, ◌*◌, min, Bool, true, false, ◌||◌, if◌then◌else◌, List, [], ◌∷◌, ◌++◌, inl, inr, refl}
use Rattle.std.proofs.Common.{ap, sym, ◌∙◌, arith, true≢false, length, subst, append_assoc, length-append, append-nil, Some, None, eqb-true, Option}
use Rattle.std.proofs.lemmas.Bool.{and_parts, cases_Bool, cases_eq, Decides.nat_tests}
use Rattle.pas_profile.specs.{declared.{directory.Directory.Directory, profile.Profile.Profile}, Directories.IsDirectory}
use Rattle.pas_scan.{specs.{Runs.page_looks, Usable.LeftAlone}, proofs.LeftPages.{usable_later, left_alone_by, holds_own}}
use Rattle.pas_large.specs.Pages.{of_pages, GotPages, MayClaim, DeedsOn, OnlyDeedsShow, claiming, claiming_old, LosesPage, BreaksPage, WinsPage, ClaimsPage}
use Rattle.pas_large.specs.Claims.{in_span, MayClaimPages, HasRunRoom, AloneFrom, DeedsIn, HoldsSpan, FailsAt, ClaimsPages, HasPages, Releases, ClaimsRun}
use Rattle.pas_large.specs.{Claims.{LacksAll, StaysPut}, Evidence.{LostHere, BrokenHere, TakenWholeHere, DeedsBelow, MissedHere, GotOf, LeftOrBroken}}
use Rattle.pas_large.{specs.declared.claiming.Claimed.Claimed, proofs.Pages.{DeedsFrom, from_on, rise_later, rise_both, Orderly, below_both, below_wider}}
use Rattle.pas_large.proofs.{Pages.{since_more, undone, no_deeds, knew_before, shows_both, shows_taking, after_more}, Left.{parks_both, deeds_both, OffPage}}
use Rattle.pas_large.proofs.Left.{off_on, off_parks, off_deeds, left_of_alone, left_off, got_off, left_before, got_before, missed_before, left_hints, released}
use Rattle.pas_search.proofs.PagesThatServe.{duly_both, duly_in, return_page}
use Rattle.pas_rights.{proofs.{Puts.put_and_leave_due, Orders.on_full}, specs.{Puts.masked, Words.full, PutsBack.{giving_back, taking_grains, GivesDuly}}}
use Rattle.pas_rights.specs.PutsBack.{MayPutAndLeave, PutsAndLeaves}

-- ---- pages from one to below another, one page more, and what becomes of them
pub span_in : (first stop p : ℕ) → first ≤ p → p < stop → in_span first stop p ≡ true
span_in first stop p low high = grind (arith, nat_tests)

-- A page in the span of some pages is at least the first and below the end.
pub in_parts : (first stop p : ℕ) → in_span first stop p ≡ true → (first ≤ p) × (p < stop)
in_parts first stop p h = search (arith, and_parts, nat_tests)

-- A page from the end of a span on isn't in it.
pub span_past : (first stop p : ℕ) → stop ≤ p → in_span first stop p ≡ false
span_past first stop p past = grind (arith, nat_tests)

-- A page in a span is in each longer span from the same first page.
pub span_wider : (first stop end p : ℕ) → stop ≤ end → in_span first stop p ≡ true → in_span first end p ≡ true
span_wider first stop end p le is = grind (arith, nat_tests)

-- A span that ends where it begins has no page.
pub span_none : (first p : ℕ) → in_span first first p ≡ false
span_none first p = grind (arith, nat_tests)

-- A span and the page behind it are the span that ends one page later.
pub span_more : (first page p : ℕ) → first ≤ page → (in_span first page p || (page == p)) ≡ in_span first (page + 1) p
span_more first page p low = grind (arith, nat_tests)

not_in : (first page p : ℕ) → first ≤ page → in_span first (page + 1) p ≡ false → p ≢ page
not_in first page p low out e = true≢false (sym (span_in first (page + 1) p (omega (arith, e, low)) (omega (arith, e))) ∙ out)

-- ---- effects on sets of pages
-- Pages that were got one after the other are got together.
pub got_both : {v w u : View} (d : Directory) (a b c : ℕ → Bool) → ((p : ℕ) → (a p || b p) ≡ c p) → GotPages a d v w → GotPages b d w u
    → ((p : ℕ) → KnowsDeed p d w → KnowsDeed p d u) → GotPages c d v u
got_both {v} {w} {u} d a b c same first second knows = search (arith, does_as, does_then, cases_Bool)

got_still : {v w u : View} (d : Directory) (a : ℕ → Bool) → GotPages a d v w → Does nothing w u → ((p : ℕ) → KnowsDeed p d w → KnowsDeed p d u)
    → GotPages a d v u
got_still d a first second knows = search (arith, does_then)

-- Pages got after steps that did nothing were got from the view before.
pub got_after : {v w u : View} (a : ℕ → Bool) (d : Directory) → Does nothing v w → GotPages a d w u → GotPages a d v u
got_after a d first second = search (arith, does_after_nothing)

-- ---- grains of pages that aren't of the span stay put
abbrev pub StaysHere : ℕ → Made → List Made → Type 0
StaysHere g m before = grain_move m.step m.answer g ≡ Stays

-- Steps on one page move no grain of another one.
pub steady_on : (q g : ℕ) (ys : List Made) → OnlyOn q ys → g / 256 ≢ q → StaysPut g ys
steady_on q g ys on ne = always_map (λ m before. IsOnPage q m.step) (StaysHere g) ys (λ m before h. on_grain q m.step m.answer g h ne) on

-- A grain that neither of two lists of steps moves is moved by none of both.
pub steady_both : (g : ℕ) (ys xs : List Made) → StaysPut g ys → StaysPut g xs → StaysPut g (ys ++ xs)
steady_both g ys xs = always_both (StaysHere g) (StaysHere g) ys xs (λ m before h. h)

-- A grain that no step moves is held where it was before the steps.
pub steady_holds : (g : ℕ) (ys xs : List Made) → StaysPut g ys → holds (ys ++ xs) g ≡ holds xs g
steady_holds g [] xs h = refl
steady_holds g (y ∷ ys) xs h = ap (λ t. held_after t (holds (ys ++ xs) g)) h.0 ∙ steady_holds g ys xs h.1

-- A page outside a span is none of its pages.
pub out_of : (first end p q : ℕ) → in_span first end p ≡ false → first ≤ q → q < end → p ≢ q
out_of first end p q out low high e = true≢false (sym (ap (in_span first end) e ∙ span_in first end q low high) ∙ out)

-- A page outside a span is outside each shorter one from the same first page.
pub narrower : (first stop end p : ℕ) → stop ≤ end → in_span first end p ≡ false → in_span first stop p ≡ false
narrower first stop end p le out = grind (arith, nat_tests)

-- ---- steps on one page leave another alone
pub alone_on : (q p : ℕ) (ys xs : List Made) → OnlyOn q ys → p ≢ q → LeftAlone p xs → LeftAlone p (ys ++ xs)
alone_on q p ys xs on ne alone = search (arith, right_on, holds_on_page, parks_both, off_parks, off_on, deeds_both, off_deeds)

-- nothing was done yet
pub alone_at_first : (first : ℕ) → AloneFrom first []
alone_at_first first p low = left_alone_by page_looks refl refl p [] tt

-- ---- the claim of the pages of a run, one page more
pub claims_fewer : (d : Directory) (first stop end : ℕ) → stop ≤ end → (v : View) → MayClaimPages d first end v → MayClaimPages d first stop v
claims_fewer d first stop end le v met = record { lacks = λ p low high. met.lacks p low (omega (arith, high, le)); clear = met.clear }

claims_one : (d : Directory) (first end page : ℕ) → first ≤ page → page < end → (v : View) → MayClaimPages d first end v → MayClaim d page v
claims_one d first end page low high v met = record { lacks = met.lacks page low high; clear = met.clear }

-- Who may claim the pages of a run may claim each of them.
pub can_claim_one : {σ : Standing} {page : ℕ} (d : Directory) (first end : ℕ) → first ≤ page → page < end → CanCall σ (MayClaimPages d first end)
    → CanCall σ (MayClaim d page)
can_claim_one {page = page} d first end low high can = search (arith, claims_one)

abbrev pub may_claim : {σ : Standing} {f : Profile} {d : Directory} {first end n spare : ℕ} (stop : ℕ) → stop ≤ end
    → CanCall σ (HasRunRoom f d first end n spare) → CanCall σ (MayClaimPages d first stop)
may_claim {d = d} {first = first} {end = end} stop le can = record { view = can.view; whole = can.whole; stood = can.stood; met = claims_fewer d first stop end le can.view can.met.may }

-- the room for unknown deeds is kept, and the room for n events besides
pub room_after : {σ σ' : Standing} {C : View → Type 0} {xs : List Made} {spare spare' : ℕ} (n : ℕ) → Adds σ σ' C xs → (can : CanCall σ C)
    → OnlyDeedsShow σ.seat.profile xs → n + unknown_pages σ.seat.profile can.view ≤ spare → Spares σ spare → Spares σ' spare'
    → n + unknown_pages σ.seat.profile (xs ++ can.view) ≤ spare'
room_after {σ} {xs = xs} {spare = spare} {spare' = spare'} n adds can shows room law law' =
    let falls = spare_falls spare spare' _ adds can law law' refl in let shown = shows σ.seat.actor can.view (adds.agreed can.view _ can.stood can.met) in omega (arith, falls, shown, room)

-- the pages below this one were claimed, and it and those above it were left alone
pub record ClaimedBelow (deeds : Bool) (d : Directory) (first page : ℕ) (desk desk' : Standing) : Type 0 where
  pub so_far : ClaimsPages deeds d first page desk desk' page
  pub alone : (before : List Made) → AloneFrom first before → AloneFrom page (so_far.steps ++ before)

-- Before the first page of a run is claimed, none is.
pub none_claimed : {σ : Standing} (deeds : Bool) (d : Directory) (first : ℕ) → ClaimedBelow deeds d first first σ σ
none_claimed deeds d first = record {
  alone = λ before alone. alone;
  so_far = record {
    steps = [];
    adds = adds_none;
    kinds = tt;
    old = λ none. tt;
    returns = tt;
    gets = λ p low high. absurd (omega (arith, low, high));
    few = omega arith;
    made = tt;
    rise = tt;
    shows = λ k v agreed. omega arith;
    span = (omega arith, omega arith);
    got = record { from = λ v met agreed. (search (arith, does_as, true≢false)) };
    holding = λ before alone. record { right = λ p low high. absurd (omega (arith, low, high)); whole = λ p word low high lt. absurd (omega (arith, low, high)) };
    lacks = λ before none p out. none p;
    alone = λ before alone p ge. alone p (omega (arith, ge));
    steady = λ g out. tt;
    failed = λ lt may. absurd (omega (arith, lt));
    missed = λ lt bare. absurd (omega (arith, lt));
    of = λ bare p is. absurd (true≢false (sym is ∙ span_none first p));
    left = λ bare p out. left_of_alone d p [] (left_alone_by page_looks refl refl p [] tt);
  };
}

abbrev MadeIn : Directory → ℕ → ℕ → Made → List Made → Type 0
MadeIn d first end m before = (p : ℕ) (e : Directory) → m.step ≡ Deed p e → m.answer ≡ 0 → (e ≡ d) × (first ≤ p) × (p < end)

deeds_join : (d : Directory) (first stop end page : ℕ) (ys xs : List Made) → first ≤ page → page < end → stop ≤ end → DeedsOn d page ys
    → DeedsIn d first stop xs → DeedsIn d first end (ys ++ xs)
deeds_join d first stop end page ys xs low high le on within = always_both _ _ ys xs (λ m before h p e same z. let its = h p e same z in (its.0, omega (arith, its.1, low), omega (arith, its.1, high))) on
    (always_map _ (MadeIn d first end) xs (λ m before h p e same z. let its = h p e same z in (its.0, its.1, omega (arith, its.2, le))) within)

deeds_wider : (d : Directory) (first stop end : ℕ) (xs : List Made) → stop ≤ end → DeedsIn d first stop xs → DeedsIn d first end xs
deeds_wider d first stop end xs le = search (arith, always_map)

-- Deeds of pages of a span are of pages below each end behind it.
deeds_below : (d : Directory) (first stop end : ℕ) (xs : List Made) → stop ≤ end → DeedsIn d first stop xs → DeedsBelow end xs
deeds_below d first stop end xs le = search (arith, always_map)

-- Deeds of pages of a span are of pages from its first one on.
deeds_from : (d : Directory) (first stop : ℕ) (xs : List Made) → DeedsIn d first stop xs → DeedsFrom first xs
deeds_from d first stop xs = search (arith, always_map)

-- The claim of a run leaves steps in order, where it begins behind their deeds.
pub orderly_claim : {ks : Kinds} {d : Directory} {first end : ℕ} {σ σ1 : Standing} {failed : Option ℕ} (claim : ClaimsRun true d first end σ σ1 failed)
    {f : Profile} (xs : List Made) (stop : ℕ) → σ.seat.profile ≡ f → within claiming ks ≡ true → first ≤ stop → DeedsIn d first stop claim.steps
    → Orderly ks f first xs → Orderly ks f stop (claim.steps ++ xs)
orderly_claim {ks} {d} {first} {end} claim {f} xs stop same among le made o = let zs = claim.steps in record {
  kinds = only_both ks zs xs (only_within claiming ks zs among claim.kinds) o.kinds;
  rise = rise_both first zs xs claim.rise o.rise (deeds_from d first end zs claim.made) o.below;
  below = below_both stop zs xs (deeds_below d first stop stop zs (omega arith) made) (below_wider first stop xs le o.below);
  shows = shows_both f zs xs (subst (λ x. OnlyDeedsShow x zs) same claim.shows) o.shows;
}

module _ {σ σ1 : Standing} {deeds : Bool} {d : Directory} {first page : ℕ} (end : ℕ) (below : ClaimedBelow deeds d first page σ σ1) (high : page < end) where
  abbrev so_far : ClaimsPages deeds d first page σ σ1 page
  so_far = below.so_far

  abbrev xs : List Made
  xs = so_far.steps

  so_adds : Adds σ σ1 (MayClaimPages d first end) xs
  so_adds = adds_under so_far.adds (λ v l stood met. claims_fewer d first page end (omega (arith, high)) v met)

  so_got : (v : View) → MayClaimPages d first end v → Agreed σ.seat.profile v xs → GotPages (in_span first page) d v (xs ++ v)
  so_got v met agreed = so_far.got.from v (claims_fewer d first page end (omega (arith, high)) v met) agreed

  -- those from this one on may be claimed still
  rest_may : (v : View) → MayClaimPages d first end v → Agreed σ.seat.profile v xs → MayClaimPages d page end (xs ++ v)
  rest_may v met agreed = let got = so_got v met agreed in record {
    lacks = search (arith, span_past, knew_before);
    clear = record { on = λ q. got.does.clear q (met.clear.on q) };
  }

  page_may : (v : View) → MayClaimPages d first end v → Agreed σ.seat.profile v xs → MayClaim d page (xs ++ v)
  page_may v met agreed = claims_one d page end page (omega arith) high (xs ++ v) (rest_may v met agreed)

  -- Once the pages below one are claimed, those from it on may be.
  pub rest_call : CanCall σ (MayClaimPages d first end) → CanCall σ1 (MayClaimPages d page end)
  rest_call can = can_call so_adds can (λ v l stood met. rest_may v met (so_adds.agreed v l stood met))

  module _ {σ2 : Standing} {claimed : Claimed} (h : ClaimsPage deeds d page σ1 σ2 claimed) where
    abbrev ys : List Made
    ys = h.steps

    all_at : (v : View) → (ys ++ xs) ++ v ≡ ys ++ (xs ++ v)
    all_at v = append_assoc ys xs v

    turn_alone : (before : List Made) → AloneFrom first before → AloneFrom (page + 1) ((ys ++ xs) ++ before)
    turn_alone before free p ge = subst (LeftAlone p) (sym (all_at before)) (alone_on page p ys (xs ++ before) h.on (λ e. absurd (omega (arith, e, ge))) (below.alone before free p (omega (arith, ge))))

    -- Up to the page where it stopped the claim got the pages of the run.
    turned : (stop : ℕ) → (page ≤ stop) × (stop ≤ end) → Leads σ.seat.profile (MayClaimPages d first end) (GotPages (in_span first stop) d) (ys ++ xs)
        → ((before : List Made) → AloneFrom first before → HoldsSpan first stop ((ys ++ xs) ++ before))
        → ((before : List Made) → LacksAll before → (p : ℕ) → in_span first stop p ≡ false → has_right ((ys ++ xs) ++ before) p ≡ false)
        → (stop < end → deeds ≡ true → FailsAt σ.seat.profile d first stop (ys ++ xs)) → length ys ≤ 6 * (stop - page) + 21 * (min (stop + 1) end - stop)
        → ((p : ℕ) → first ≤ p → p < stop → Once (GetsHere p) (ys ++ xs))
        → (stop < end → deeds ≡ false → Once (MissedHere d stop) (ys ++ xs)) → (deeds ≡ false → (p : ℕ) → in_span first stop p ≡ true → GotOf d p (ys ++ xs))
        → (deeds ≡ false → (p : ℕ) → in_span first stop p ≡ false → LeftOrBroken d p (ys ++ xs)) → ClaimsPages deeds d first end σ σ2 stop
    turned stop at got holding lacks failed few gets missed of left = let low = so_far.span.0 in let above = at.0 in record {
      steps = ys ++ xs;
      adds = adds_call {D = MayClaim d page} so_adds h.adds (λ v l stood met. page_may v met (so_adds.agreed v l stood met));
      kinds = only_both claiming ys xs h.kinds so_far.kinds;
      old = λ none. only_both claiming_old ys xs (h.old none) (so_far.old none);
      few = let n = length-append ys xs in omega (arith, n, few, so_far.few, low, high, above);
      returns = duly_both ys xs h.returns so_far.returns;
      gets = gets;
      made = deeds_join d first _ (min (stop + 1) end) page ys xs low (omega (arith, high, above)) (omega (arith, high, above)) h.made so_far.made;
      rise = rise_both page ys xs h.rise so_far.rise (from_on d page ys h.made) (deeds_below d first (min (page + 1) page) page xs (omega arith) so_far.made);
      shows = shows_both σ.seat.profile ys xs (subst (λ (s : Seat). OnlyDeedsShow s.profile ys) so_adds.seat_is h.shows) so_far.shows;
      span = (omega (arith, low, above), at.1);
      got = got;
      holding = holding;
      lacks = lacks;
      alone = λ before free p ge. turn_alone before free p (omega (arith, ge, above, high));
      steady = λ g out. steady_both g ys xs (steady_on page g ys h.on (out_of first end (g / 256) page out low high)) (so_far.steady g (narrower first page end (g / 256) (omega (arith, high)) out));
      failed = failed;
      missed = missed;
      of = of;
      left = left;
    }

    -- the page was left alone until now, and the others are since
    page_alone : LeftAlone page xs
    page_alone = subst (LeftAlone page) (append-nil xs) (below.alone [] (alone_at_first first) page (omega arith))

    others_off : (p : ℕ) → p ≢ page → OffPage p ys
    others_off p ne = off_on page p ys ne h.on

    others_of : deeds ≡ false → (p : ℕ) → in_span first page p ≡ true → GotOf d p (ys ++ xs)
    others_of bare p is = let lt = (in_parts first page p is).1 in got_off d p ys xs (others_off p (λ e. absurd (omega (arith, e, lt)))) (so_far.of bare p is)

    others_left : deeds ≡ false → (p : ℕ) → p ≢ page → in_span first page p ≡ false → LeftOrBroken d p (ys ++ xs)
    others_left bare p ne out = left_off d p ys xs (others_off p ne) (so_far.left bare p out)

    others_held : (before : List Made) → AloneFrom first before → HoldsSpan first page ((ys ++ xs) ++ before)
    others_held before free = let old = so_far.holding before free in record {
      right = λ p ge lt. ap (λ s. has_right s p) (all_at before) ∙ right_on page p ys (xs ++ before) h.on (λ e. absurd (omega (arith, e, lt))) ∙ old.right p ge lt;
      whole = λ p word ge lt small. subst (Since _ (KeptHere p)) (sym (all_at before)) (since_more _ (KeptHere p) _ ys (xs ++ before)
          (λ m c is on. right_on page p c (xs ++ before) on (λ e. absurd (omega (arith, e, lt))) ∙ old.right p ge lt) h.on (old.whole p word ge lt small));
    }

    -- it was lost or broken
    stopped : Leads σ.seat.profile (MayClaim d page) (Does nothing) h.steps
        → ((before : List Made) → has_right before page ≡ false → has_right (h.steps ++ before) page ≡ false)
        → (deeds ≡ true → FailsAt σ.seat.profile d first page (h.steps ++ so_far.steps)) → (deeds ≡ false → LeftOrBroken d page h.steps)
        → (deeds ≡ false → Once (MissedHere d page) h.steps) → ClaimsPages deeds d first end σ σ2 page
    stopped still lack failed left missed = turned page (omega arith, omega (arith, high))
        (record {
          from = λ v met agreed.
              let mine = agreed_later σ.seat.profile v ys xs agreed in let next = agreed_first σ.seat.profile v ys xs agreed in
              subst (GotPages _ d v) (sym (all_at v)) (got_still d _ (so_got v met mine) (still.from (xs ++ v) (page_may v met mine) next) (λ p knows. knows_still σ.seat.profile d p ys (xs ++ v) next knows));
        })
        others_held
        (λ before none p out. let old = so_far.lacks before none p out in ap (λ s. has_right s p) (all_at before) ∙ elim (cases_eq p page) [
          | inl e ↦ subst (λ q. has_right (xs ++ before) q ≡ false → has_right (ys ++ (xs ++ before)) q ≡ false) (sym e) (lack (xs ++ before)) old
          | inr ne ↦ right_on page p ys (xs ++ before) h.on ne ∙ old
        ])
        (λ lt. failed)
        (omega (arith, h.few, high))
        (λ p ge lt. once_later (GetsHere p) ys xs (so_far.gets p ge lt))
        (λ lt bare. missed_before d page ys xs page_alone (missed bare))
        others_of
        (λ bare p out. elim (cases_eq p _) [ inl e ↦ subst (λ q. LeftOrBroken d q (ys ++ xs)) (sym e) (left_before d _ ys xs page_alone (left bare)) | inr ne ↦ others_left bare p ne out ])

    -- A page that was lost ends the claim of its run there.
    pub lost_turn : LosesPage deeds σ1.seat.profile d page h.steps → ClaimsPages deeds d first end σ σ2 page
    lost_turn lost =
        let loses = subst (λ (s : Seat). LosesPage deeds s.profile d page ys) so_adds.seat_is lost in
        stopped loses.still loses.lacks (λ may before v free usable agreed. inl (after_more (LostHere d page) ys xs before (loses.lost may (xs ++ before) v (below.alone before free page (omega arith)) (usable_later d page xs before usable) (subst (Agreed σ.seat.profile v) (all_at before) agreed)))) (λ bare. left_of_alone d page ys loses.alone) loses.missed

    -- A page that was broken ends the claim of its run there.
    pub broken_turn : BreaksPage deeds σ1.seat.profile d page h.steps → ClaimsPages deeds d first end σ σ2 page
    broken_turn broken =
        let breaks = subst (λ (s : Seat). BreaksPage deeds s.profile d page ys) so_adds.seat_is broken in
        stopped breaks.still breaks.lacks (λ may before v free usable agreed. search (arith, after_more, breaks.broken, below.alone)) breaks.left breaks.missed

    -- it was won
    won_claims : end ≡ page + 1 → WinsPage deeds σ1.seat.profile d page h.steps → ClaimsPages deeds d first end σ σ2 (page + 1)
    won_claims last won =
        let wins = subst (λ (s : Seat). WinsPage deeds s.profile d page ys) so_adds.seat_is won in let low = so_far.span.0 in
        turned (page + 1) (omega arith, omega (arith, high))
        (record {
          from = λ v met agreed.
              let mine = agreed_later σ.seat.profile v ys xs agreed in let next = agreed_first σ.seat.profile v ys xs agreed in
              let new = wins.leads.from (xs ++ v) (page_may v met mine) next in
              subst (GotPages _ d v) (sym (all_at v)) (got_both d _ (λ q. page == q) _ (λ p. span_more first page p low) (so_got v met mine) new
              (λ p knows. knows_still σ.seat.profile d p ys (xs ++ v) next knows));
        })
        (λ before free. let rest = others_held before free in let alone = below.alone before free page (omega arith) in record {
          right = search (arith, cases_eq, all_at);
          whole = λ p word ge lt small. elim (cases_eq p page) [
            | inl e ↦ subst (λ q. Since (TakenWholeHere q word) (KeptHere q) ((ys ++ xs) ++ before)) (sym e) (subst (Since _ (KeptHere page)) (sym (all_at before)) (wins.whole (xs ++ before) alone word small))
            | inr ne ↦ rest.whole p word ge (omega (arith, lt, ne)) small
          ];
        })
        (λ before none p out. let ne = not_in _ _ p low out in ap (λ s. has_right s p) (all_at _) ∙ right_on page p ys _ h.on ne ∙ so_far.lacks _ none p (grind (arith, nat_tests)))
        (λ lt. absurd (omega (arith, lt, last)))
        (omega (arith, wins.few))
        (λ p ge lt. elim (cases_eq p page) [
          | inl e ↦ subst (λ q. Once (GetsHere q) (ys ++ xs)) (sym e) (once_earlier (GetsHere page) (GetsHere page) ys xs (λ m before gets. gets) wins.gets)
          | inr ne ↦ once_later (GetsHere p) ys xs (so_far.gets p ge (omega (arith, lt, ne)))
        ])
        (λ lt. absurd (omega (arith, lt, last)))
        (λ bare p is. elim (cases_eq p page) [
          | inl e ↦ subst (λ q. GotOf d q (ys ++ xs)) (sym e) (got_before d page ys xs page_alone (wins.of bare))
          | inr ne ↦ let at = in_parts first (page + 1) p is in let ge = at.0 in others_of bare p (span_in first page p ge (omega (arith, at.1, ne)))
        ])
        (λ bare p out. others_left bare p (not_in first page p low out) (narrower first page (page + 1) p (omega arith) out))

-- A page that was got whole makes the claimed pages of its run one more.
pub won_turn : {σ σ1 σ2 : Standing} {deeds : Bool} {d : Directory} {first page : ℕ} → ClaimedBelow deeds d first page σ σ1
    → (h : ClaimsPage deeds d page σ1 σ2 Claimed.Whole) → ClaimedBelow deeds d first (page + 1) σ σ2
unfolding won_claims turned
won_turn {page = page} below h = record { so_far = won_claims (page + 1) below (omega arith) h refl h.outcome; alone = turn_alone (page + 1) below (omega arith) h }

-- ---- the pages are left, one page more
pub has_got : {v w : View} (d : Directory) (first stop : ℕ) → IsClear v → GotPages (in_span first stop) d v w → HasPages d first stop w
has_got {v} d first stop clear got = record {
  right = λ p is. got.does.right p ∙ ap (λ t. now (if t then Gained else Kept) (has_right v p)) is;
  held = λ g is. got.does.held g ∙ ap (λ t. now (if t then Gained else Kept) (holds v g)) is;
  deeds = got.deeds;
  clear = record { on = λ q. got.does.clear q (clear.on q) };
}

-- A call for the first pages of a run is one for whoever has all its pages.
pub pages_call : {σ σ1 : Standing} {R : View → View → Type 0} {xs : List Made} (d : Directory) (first stop end : ℕ) → stop ≤ end
    → Calls σ σ1 (HasPages d first stop) R xs → Calls σ σ1 (HasPages d first end) R xs
pages_call {R = R} d first stop end le c = call_as R c (λ v met. search (arith, span_wider)) (λ v w met r. r)

-- and the deeds of these pages are known still
pub call_knowing : {σ σ1 : Standing} {B : View → Type 0} {R : View → View → Type 0} {xs : List Made} (d : Directory) (pages : ℕ → Bool) → Calls σ σ1 B R xs
    → ((v : View) → B v → (p : ℕ) → pages p ≡ true → KnowsDeed p d v)
    → Calls σ σ1 B (λ v w. R v w × ((p : ℕ) → pages p ≡ true → KnowsDeed p d w)) xs
call_knowing {σ} {xs = xs} d pages c knows = search (arith, knows_still)

-- Before the first page of a run is left, none is.
pub left_none : {σ : Standing} (d : Directory) (first : ℕ) → Releases d first first σ σ
left_none d first = record {
  steps = [];
  calls = call_none (λ v met. search (arith, does_as, does_none, span_none));
  kinds = tt;
  within = tt;
  hints = tt;
  on = tt;
  due = λ before held all. all;
  left = λ before p is. absurd (true≢false (sym is ∙ span_none first p));
  few = omega arith;
  lacks = λ before p none. none (span_none first p);
  alone = λ before p ge alone. alone;
  steady = λ g out. tt;
}

module _ {σ σ1 : Standing} {d : Directory} {first page : ℕ} (end : ℕ) (so_far : Releases d first page σ σ1) (low : first ≤ page) (high : page < end) where
  -- The pages that were left so far are lost, and the deeds of all are known.
  known : Calls σ σ1 (HasPages d first end) (λ v w. Does (of_pages (in_span first page) Lost) v w
      × ((p : ℕ) → in_span first end p ≡ true → KnowsDeed p d w)) so_far.steps
  known = call_knowing d (in_span first end) (pages_call d first page end (omega (arith, high)) so_far.calls) (λ v met. met.deeds)

  leave_may : (v : View) → HasPages d first end v
      → Does (of_pages (in_span first page) Lost) v (so_far.steps ++ v) × ((p : ℕ) → in_span first end p ≡ true → KnowsDeed p d (so_far.steps ++ v))
      → MayPutAndLeave page d (masked page full) (so_far.steps ++ v)
  leave_may v met left =
      let here = span_in first end page low high in let past = span_past first page page (omega arith) in
      record {
        right = left.0.right page ∙ ap (λ t. now (if t then Lost else Kept) (has_right v page)) past ∙ met.right page here;
        deed = left.1 page here;
        held = search (arith, eqb-true);
        clear = left.0.clear page (met.clear.on page);
      }

  -- Once the pages of a run before one were left, that one may be put back and left, too.
  pub leave_call : CanCall σ (HasPages d first end) → CanCall σ1 (MayPutAndLeave page d (masked page full))
  leave_call can = next_call known can leave_may

abbrev OnSpan : ℕ → ℕ → Made → List Made → Type 0
OnSpan first end m before = (p : ℕ) × (in_span first end p ≡ true) × IsOnPage p m.step

off_span : (first end p : ℕ) (ys : List Made) → in_span first end p ≡ false → Always (OnSpan first end) ys → OffPage p ys
off_span first end p ys out = search (arith, always_map, true≢false)

-- A page that was put back and left makes the pages of its run that are left one more.
pub left_more : {σ σ1 σ2 : Standing} (d : Directory) → IsDirectory d → (first page : ℕ) → first ≤ page → Releases d first page σ σ1
    → PutsAndLeaves page d full σ1 σ2 → Releases d first (page + 1) σ σ2
left_more d directory first page low so_far h =
    let ys = h.after ++ h.puts in
    record {
      steps = ys ++ so_far.steps;
      calls = call_then _ (known (page + 1) so_far low (omega arith)) h.calls (leave_may (page + 1) so_far low (omega arith))
          (λ v met a b. does_as (of_pages (in_span first (page + 1)) Lost) (does_then a.0 b)
          (λ g. search (arith, both_fates, on_full, span_more))
          (λ q. both_fates Lost (in_span first page q) (page == q) (in_span first (page + 1) q) refl (span_more first page q low)) (λ q h. h));
      kinds = only_both giving_back ys so_far.steps h.kinds so_far.kinds;
      within = always_both _ _ ys _ (λ m before on p is. search (arith, return_page, span_in)) h.on
          (always_map _ _ so_far.steps (λ m before h p is. span_wider first page (page + 1) p (omega arith) (h p is)) so_far.within);
      hints = left_hints page d full h so_far.steps so_far.hints;
      on = always_both _ (OnSpan first (page + 1)) ys so_far.steps (λ m before on. (page, span_in first (page + 1) page low (omega arith), on)) h.on
          (always_map (OnSpan first page) _ so_far.steps (λ m before on. (on.0, span_wider first page (page + 1) on.0 (omega arith) on.1, on.2)) so_far.on);
      left = λ before p is got. subst (LeftOrBroken d p) (sym (append_assoc ys so_far.steps before)) (elim (cases_eq p page) [
        | inl e ↦ subst (λ q. GotOf d q before → LeftOrBroken d q (ys ++ (so_far.steps ++ before))) (sym e)
            (λ here. released page d directory (so_far.steps ++ before) (got_off d page so_far.steps before (off_span first page page so_far.steps (span_past first page page (omega arith)) so_far.on) here) h) got
        | inr ne ↦ let at = in_parts first (page + 1) p is in let ge = at.0 in let lt = at.1 in
            left_off d p ys (so_far.steps ++ before) (off_on page p ys ne h.on) (so_far.left before p (span_in first page p ge (omega (arith, lt, ne))) got)
      ]);
      due = λ before held all. subst (Always GivesDuly) (sym (append_assoc ys so_far.steps before)) (put_and_leave_due page d full (so_far.steps ++ before)
          (λ g is. let at : page ≡ g / 256 = eqb-true page (g / 256) (sym (on_full page g) ∙ is) in
          steady_holds g so_far.steps before (so_far.steady g (span_past first page (g / 256) (omega (arith, at)))) ∙ held g (span_in first (page + 1) (g / 256) (omega (arith, at, low)) (omega (arith, at))))
          (so_far.due before (λ g is. held g (span_wider first page (page + 1) (g / 256) (omega arith) is)) all) h);
      few = let n = length-append ys so_far.steps in omega (arith, n, h.few, so_far.few, low);
      lacks = search (arith, append_assoc, cases_eq, right_on, nat_tests);
      alone = λ before p ge alone. rw (append_assoc ys so_far.steps before) (alone_on page p ys (so_far.steps ++ before) h.on (λ e. absurd (omega (arith, e, ge))) (so_far.alone before p (omega (arith, ge)) alone));
      steady = λ g out. steady_both g ys so_far.steps (steady_on page g ys h.on (out_of first (page + 1) (g / 256) page out low (omega arith)))
          (so_far.steady g (narrower first page (page + 1) (g / 256) (omega arith) out));
    }

-- ---- the claim of a run
pub run_claimed : {σ σ1 : Standing} {deeds : Bool} {d : Directory} {first end stop : ℕ} → stop ≡ end → ClaimsPages deeds d first end σ σ1 stop
    → ClaimsRun deeds d first end σ σ1 None
run_claimed {σ} {σ1} {deeds} {d} {first} {end} {stop} e h =
    let all = subst (ClaimsPages deeds d first end σ σ1) e h in
    record {
      steps = all.steps;
      adds = all.adds;
      kinds = all.kinds;
      old = all.old;
      returns = all.returns;
      made = deeds_wider d first (min (end + 1) end) end all.steps (omega arith) all.made;
      rise = all.rise;
      shows = all.shows;
      steady = all.steady;
      of = λ bare none. all.of bare;
      outcome = record { few = (omega (arith, all.few)); got = all.got; holding = all.holding; lacks = all.lacks; alone = λ before free p ge. all.alone _ free p (omega (arith, ge)) };
    }

module _ {σ σ1 : Standing} {deeds : Bool} {d : Directory} {first end stop : ℕ} (h : ClaimsPages deeds d first end σ σ1 stop) (ne : stop ≢ end) where
  before_end : stop < end
  before_end = omega (arith, ne, h.span.1)

  may_release : (v : View) → MayClaimPages d first end v → GotPages (in_span first stop) d v (h.steps ++ v) → HasPages d first stop (h.steps ++ v)
  may_release v met got = has_got d first stop met.clear got

  got_call : Calls σ σ1 (MayClaimPages d first end) (GotPages (in_span first stop) d) h.steps
  got_call = record { adds = h.adds; leads = h.got }

  -- After a claim that failed at a page, those before it may be left.
  pub release_call : CanCall σ (MayClaimPages d first end) → CanCall σ1 (HasPages d first stop)
  release_call can = next_call got_call can may_release

  -- A claim that failed, after which the pages before were left, fails for the whole run at that page.
  pub run_failed : {σ2 : Standing} → CanCall σ (MayClaimPages d first end) → Releases d first stop σ1 σ2 → ClaimsRun deeds d first end σ σ2 (Some stop)
  run_failed can r =
      let calls = call_then (Does nothing) got_call r.calls may_release
      (λ v met got lost. undone (λ g. in_span first stop (g / 256)) (in_span first stop) got.apart got.lacked got.does lost) in
      let made_below = deeds_join d first _ _ stop r.steps h.steps h.span.0 (omega arith) (omega arith) (no_deeds giving_back d stop r.steps refl r.kinds) h.made in
      record {
        steps = r.steps ++ h.steps;
        adds = calls.adds;
        kinds = only_both claiming r.steps h.steps (only_within giving_back claiming r.steps refl r.kinds) h.kinds;
        old = λ none. only_both claiming_old r.steps h.steps (only_within giving_back claiming_old r.steps refl r.kinds) (h.old none);
        returns = duly_in _ r.steps h.steps r.within (r.due h.steps (λ g is. search (arith, holds_own)) (always_map _ _ h.steps (λ m before is. is.1) h.returns))
            (λ p is. let at = in_parts first stop p is in h.gets p at.0 at.1) h.returns;
        made = deeds_wider d first (stop + 1) end (r.steps ++ h.steps) (omega (arith, before_end)) made_below;
        rise = rise_later giving_back (stop + 1) r.steps h.steps refl r.kinds (deeds_below d first _ (stop + 1) h.steps (omega arith) h.made) h.rise;
        shows = shows_both _ r.steps h.steps (shows_taking σ.seat.profile r.steps (only_within giving_back taking_grains r.steps refl r.kinds)) h.shows;
        steady = λ g out. steady_both g r.steps h.steps (r.steady g (narrower first stop end (g / 256) h.span.1 out)) (h.steady g out);
        of = λ bare none. cc;
        outcome = record {
          in_run = (h.span.0, before_end);
          made = made_below;
          few = (let n = length-append r.steps h.steps in omega (arith, n, r.few, h.few, h.span.0, before_end));
          still = calls.leads;
          lacks = λ before none p. ap (λ s. has_right s p) (append_assoc r.steps h.steps before) ∙ r.lacks (h.steps ++ before) p (λ out. h.lacks before none p out);
          alone = λ before free p ge. rw (append_assoc r.steps h.steps before) (r.alone (h.steps ++ before) p (omega (arith, ge)) (h.alone before free p (omega (arith, ge))));
          failed = λ may before v free usable agreed.
              let mine = agreed_later σ.seat.profile v r.steps _ (subst (Agreed σ.seat.profile v) (append_assoc r.steps h.steps before) agreed) in
              elim (h.failed before_end may before v free usable mine) [
                | inl lost ↦ inl (once_later (λ m b. LostHere d stop m (b ++ before)) r.steps h.steps lost)
                | inr broken ↦ inr (once_later (λ m b. BrokenHere stop m (b ++ before)) r.steps h.steps broken)
              ];
          missed = λ bare. once_later (MissedHere d stop) r.steps h.steps (h.missed before_end bare);
          left = λ bare p. elim (cases_Bool (in_span first stop p)) [
            | inl here ↦ r.left h.steps p here (h.of bare p here)
            | inr out ↦ left_off d p r.steps h.steps (off_span first stop p r.steps out r.on) (h.left bare p out)
          ];
        };
      }
