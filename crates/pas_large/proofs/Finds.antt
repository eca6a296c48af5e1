-- The search for a run that can be claimed, one run more.
use Rattle.pas_steps.proofs.{SpareRoom.Spares, Frames.{right_own, deed_stays}, Apart.{only_within, only_both}, Evidence.unknown, Past.once_later}
use Rattle.pas_steps.proofs.{Past.{once_earlier, once_map, always_both, always_map}, Adding.{Tells, adds_none, adds_call, agreed_first, agreed_later}}
use Rattle.pas_steps.{proofs.{Adding.legal_after, Calls.{does_none, leads_none, leads_idly, leads_then, does_then, still_clear}}, specs.Views.View}
use Rattle.pas_steps.specs.{Views.{known_deed, KnowsDeed}, Agreement.Agreed, Past.{Once, Always}, Calls.{Leads, nothing, Does}, Lists.{Whole, part, Legal}}
use Rattle.pas_steps.specs.{Frames.OnlyScans, Kinds.{Kinds, Deeding, Only, kind_of, is_in, looking, apart, righting, moving, Backing, returning}}
use Rattle.pas_steps.specs.{declared.step.{Made.Made, Step.TheVariants.Deed}, Desks.{Seat, Standing, Adds, CanCall, triples}}
use Rattle.std.proofs.Common.{ℕ, ◌+◌, ◌<◌, ◌≤◌, List, [], ◌++◌, refl, ◌∙◌, inl, inr, ◌⊎◌, arith, Option, ◌≡◌, true, Some, None, ap, sym, subst, append_assoc}
use Rattle.std.proofs.Common.{true≢false, false, length, ◌*◌, length-append, Bool, append-nil, ◌∷◌, Result, MatchResult, Ok, Err, MatchOption}
use Rattle.std.proofs.lemmas.Bool.{cases_lt, cases_eq}
use Rattle.pas_profile.specs.{declared.{directory.Directory.Directory, profile.Profile.Profile, event.NoRoom.NoRoom, name.Block.Block}, Directories.IsKind}
use Rattle.pas_profile.specs.Profiles.{IsValid}
use Rattle.pas_scan.specs.{Runs.{page_looks, HasUnusable, IsFirstRun, HasNoRun, IsInRun, FindsRun}, Usable.{DeedReadHere, UnusableHere, LeftAlone, ReadUsable}}
use Rattle.pas_scan.proofs.LeftPages.{usable_before, usable_later, unusable_before, left_alone_by, holds_own, deed_before, lacks_by}
use Rattle.pas_search.{specs.{Kinds.ReturnsDuly, Alone.IsLone}, proofs.PagesThatServe.{duly_both, duly_none}}
use Rattle.pas_large.specs.{Evidence.{LostHere, BrokenHere, BadHere, HasBad, IsVain, AllUsable, FailsHere, HasFailed, DeedsOf}, Pages.OnlyDeedsShow}
use Rattle.pas_large.specs.{Pages.claiming_old, Gives.{pages_from, run_block}, Claims.{AloneFrom, DeedsIn, FailsRun, in_span, MayClaimPages, HasRunRoom}}
use Rattle.pas_large.specs.{Claims.{LacksAll, ClaimsRun, HoldsRun}, Finds.{MayFind, FindRoom, finding, Finds, FoundRun, FoundNone, LooksAlone, IsToldFind}}
use Rattle.pas_large.{specs.Allocates.{GaveLarge, IsAllocatedLarge, IsRefusedLarge, IsServedNamed, IsScanned}, proofs.Claims.{orderly_claim, room_after}}
use Rattle.pas_large.proofs.{Claims.got_after, Told.{never_fails, lowest_alone, none_alone}, Left.{parks_both, deeds_both, only_backs, backs_few, only_leaves}}
use Rattle.pas_large.proofs.Pages.{Orderly, orderly_later, orderly_wider, known_of, shows_both}
use Rattle.pas_core.proofs.{Nexts.agreed_steps, OneActor.{lends_none, legal_earlier}}
use Rattle.pas_rights.specs.Gives.{give_steps}

-- ---- the search of runs so far: each run that begins below page `from` can't serve, and the pages from there to below `next` were read as usable
pub record VainSoFar (d : Directory) (n from next : ℕ) (steps : List Made) : Type 0 where
  pub order : (from ≤ next) × (next < from + n)
  pub runs : (first : ℕ) → 1 ≤ first → first < from → HasBad d n first steps
  pub deeds : (page : ℕ) → 1 ≤ page → page < next → Once (DeedReadHere page) steps
  -- Each page of the run was read as usable.
  pub usable : (page : ℕ) → from ≤ page → page < next → ReadUsable d page steps
  pub alone : AloneFrom from steps

-- A run that has a bad page has it after later steps, too.
pub bad_later : (d : Directory) (n first : ℕ) (ys xs : List Made) → HasBad d n first xs → HasBad d n first (ys ++ xs)
bad_later d n first ys xs h = (h.0, h.1, once_later (BadHere d h.0) ys xs h.2)

-- a page that was read as not usable, on pages that the steps before left alone
unusable_bad : (d : Directory) (n from first : ℕ) (ys xs : List Made) → AloneFrom from xs → from ≤ first → HasUnusable d n first ys
    → HasBad d n first (ys ++ xs)
unusable_bad d n from first ys xs alone ge h =
    let low = h.1.0 in
    (h.0, h.1, once_map (UnusableHere d h.0) (BadHere d h.0) (ys ++ xs) (λ m b x. inl x) (unusable_before d h.0 ys xs (alone h.0 (omega (arith, ge, low))) h.2))

-- Steps that move no grain and no right leave each page alone.
pub alone_later : (ks : Kinds) (p : ℕ) (ys xs : List Made) → apart ks righting ≡ true → apart ks moving ≡ true → Only ks ys → LeftAlone p xs
    → LeftAlone p (ys ++ xs)
alone_later ks p ys xs rights grains only alone =
    let own = left_alone_by ks rights grains p ys only in
    search (arith, right_own, holds_own, parks_both, deeds_both, alone.none, own.none)

-- So do looks at pages.
pub alone_looks : (p : ℕ) (ys xs : List Made) → Only page_looks ys → LeftAlone p xs → LeftAlone p (ys ++ xs)
alone_looks p ys xs = alone_later page_looks p ys xs refl refl

-- a page at which a claim failed was lost or broken
abbrev pub LostAfter : List Made → Directory → ℕ → Made → List Made → Type 0
LostAfter xs d page m b = LostHere d page m (b ++ xs) ⊎ BrokenHere page m (b ++ xs)

-- the search found no run
vain_ends : (f : Profile) (d : Directory) (n from next : ℕ) (ys xs : List Made) → 1 ≤ from → VainSoFar d n from next xs → HasNoRun f d from next n ys
    → IsVain f d n (ys ++ xs)
vain_ends f d n from next ys xs some so_far none = record {
  deeds = search (arith, cases_lt, once_later, deed_before);
  runs = λ s low le. elim (cases_lt s from) [
    | inl below ↦ bad_later d n s ys xs (so_far.runs s low below)
    | inr above ↦ unusable_bad d n from s ys xs so_far.alone above (none.runs s above le)
  ];
}

-- it found one
module _ {f : Profile} {d : Directory} {n from next first : ℕ} {ys xs : List Made} (so_far : VainSoFar d n from next xs)
    (found : IsFirstRun f d from next n ys first) (some : 1 ≤ from) (looks : Only page_looks ys) where
  abbrev before : List Made
  before = ys ++ xs

  first_alone : AloneFrom first (ys ++ xs)
  first_alone p ge = alone_looks p ys xs looks (so_far.alone p (omega (arith, found.from_there, ge)))

  all_usable : AllUsable d n first (ys ++ xs)
  all_usable p here = let low = found.from_there in let ge = here.0 in elim (cases_lt p next) [
    | inl old ↦ usable_later d p ys xs (so_far.usable p (omega (arith, low, ge)) old)
    | inr new ↦ usable_before d p ys xs (so_far.alone p (omega (arith, low, ge))) (found.usable p here new)
  ]

  usable_still : (b : List Made) → AllUsable d n first (b ++ (ys ++ xs))
  usable_still b p here = usable_later d p b before (all_usable p here)

  lower_bad : (zs : List Made) (s : ℕ) → 1 ≤ s → s < first → HasBad d n s (zs ++ (ys ++ xs))
  lower_bad zs s low lt = elim (cases_lt s from) [
    | inl below ↦ bad_later d n s zs before (bad_later d n s ys xs (so_far.runs s low below))
    | inr above ↦ bad_later d n s zs before (unusable_bad d n from s ys xs so_far.alone above (found.lower s above lt))
  ]

  -- and its claim failed
  module _ (page : ℕ) (zs : List Made) (fails : FailsRun true f d first (first + n) page zs) (v : View) (agreed : Agreed f v (zs ++ (ys ++ xs))) where
    -- The claim failed at a page that was lost or broken.
    failed : Once (LostAfter before d page) zs
    failed = search (arith, once_map, (fails.failed refl before v first_alone (all_usable page (fails.in_run.0, fails.in_run.1)) agreed))

    vain_goes_on : VainSoFar d n (page + 1) (first + n) (zs ++ (ys ++ xs))
    vain_goes_on = record {
      order = (omega (arith, fails.in_run.1), (omega (arith, fails.in_run.0)));
      runs = λ s low lt. elim (cases_lt s first) [
        | inl early ↦ lower_bad zs s low early
        | inr late ↦ let high = fails.in_run.1 in
            (page, (omega (arith, lt), omega (arith, late, high)), once_earlier (LostAfter before d page) (BadHere d page) zs before (λ m b x. inr x) failed)
      ];
      deeds = λ p low lt. elim (cases_lt p next) [
        | inl below ↦ once_later (DeedReadHere p) zs before (once_later (DeedReadHere p) ys xs (so_far.deeds p low below))
        | inr above ↦ once_later (DeedReadHere p) zs before (deed_before p ys xs (found.deeds p above lt))
      ];
      usable = λ p ge lt. usable_still zs p (omega (arith, ge, fails.in_run.0), lt);
      alone = fails.alone before first_alone;
    }

    run_has_failed : HasFailed d n first (zs ++ (ys ++ xs))
    run_has_failed = once_earlier _ (FailsHere d n first) zs before (λ m b x. (usable_still b, (page, (fails.in_run.0, fails.in_run.1), x))) failed

-- ---- the search for a run that can be claimed, one run more
-- of a page that was read as usable the deed wasn't known, or as the directory's
pub knew : (f : Profile) (d : Directory) (p : ℕ) (xs : List Made) (v : View) → Agreed f v xs → ReadUsable d p xs → (known_deed v p ≡ 0) ⊎ KnowsDeed p d v
knew f d p xs v agreed usable = search (arith, cases_eq, unknown, deed_stays, known_of)

-- ---- deeds
abbrev pub DeedOf : Directory → ℕ → (ℕ → Type 0) → Made → List Made → Type 0
DeedOf d n Chosen m before = (page : ℕ) (e : Directory) → m.step ≡ Deed page e → m.answer ≡ 0 → (e ≡ d) × ((first : ℕ) × IsInRun first n page × AllUsable d n first before × Chosen first)

-- Deeds of pages of chosen runs are such of runs chosen in any weaker way.
pub deeds_map : (d : Directory) (n : ℕ) (P Q : ℕ → Type 0) (steps : List Made) → ((s : ℕ) → P s → Q s) → DeedsOf d n P steps → DeedsOf d n Q steps
deeds_map d n P Q steps more = always_map _ _ steps (λ m before h p e same z. let its = h p e same z in (its.0, (its.1.0, its.1.1, its.1.2, more _ its.1.3)))

-- Steps without a deed, after deeds of runs that were chosen in a stronger way.
pub deeds_later : (ks : Kinds) (d : Directory) (n : ℕ) (P Q : ℕ → Type 0) (ys xs : List Made) → ((s : ℕ) → P s → Q s) → is_in ks Deeding ≡ false
    → Only ks ys → DeedsOf d n P xs → DeedsOf d n Q (ys ++ xs)
deeds_later ks d n P Q ys xs more none only deeds =
    always_both (λ m before. is_in ks (kind_of m.step) ≡ true) (DeedOf d n Q) ys xs
    (λ m before is p e same z. absurd (true≢false (sym is ∙ ap (λ s. is_in ks (kind_of s)) same ∙ none))) only (deeds_map d n P Q xs more deeds)

-- ---- the search so far
pub record SearchedRuns (d : Directory) (n from next : ℕ) (desk desk' : Standing) : Type 0 where
  pub steps : List Made
  pub adds : Adds desk desk' (MayFind d) steps
  pub still : Leads desk.seat.profile (MayFind d) (Does nothing) steps
  pub orderly : Orderly finding desk.seat.profile from steps
  pub lacks : LacksAll steps
  pub returns : Always ReturnsDuly steps
  pub within : next ≤ desk.seat.profile.pages + 1
  pub few : length steps + 54 ≤ 6 * next + 48 * from
  pub vain : VainSoFar d n from next steps
  pub deeds : DeedsOf d n (λ other. HasFailed d n other steps) steps

-- nothing was done yet, where no other actor made a step between these
abbrev pub IsFirstAlone : Profile → Directory → List Made → Type 0
IsFirstAlone f d steps = (k : ℕ) (l : Whole) → Legal f (triples k steps ++ l) → MayFind d (part k l) → steps ≡ []

-- Before the first run is looked for, the search passed none.
pub searched_none : {σ : Standing} (d : Directory) (n : ℕ) → 1 ≤ n → SearchedRuns d n 1 1 σ σ
searched_none d n some = record {
  orderly = record { kinds = tt; rise = tt; below = tt; shows = λ k v agreed. omega arith };
  returns = tt;
  within = omega arith;
  few = omega arith;
  steps = [];
  adds = adds_none;
  still = leads_none (λ v met. does_none v);
  lacks = λ p. refl;
  vain = record { order = (omega arith, omega (arith, some)); runs = λ s low lt. absurd (omega (arith, low, lt)); deeds = λ p low lt. absurd (omega (arith, low, lt)); usable = λ p ge lt. absurd (omega (arith, ge, lt)); alone = λ p ge. left_alone_by page_looks refl refl p [] tt };
  deeds = tt;
}

-- The search that passed no run made no step.
pub none_searched : (σ : Standing) (d : Directory) (n : ℕ) (some : 1 ≤ n) → (searched_none {σ = σ} d n some).steps ≡ []
unfolding searched_none
none_searched σ d n some = refl

abbrev pub may_find : {σ : Standing} {f : Profile} {d : Directory} {n spare : ℕ} → CanCall σ (FindRoom f d n spare) → CanCall σ (MayFind d)
may_find can = record { view = can.view; whole = can.whole; stood = can.stood; met = can.met.may }

-- On a desk that tells the whole state the steps of a search came onto it with none of another actor between them.
lone_call : {σ σ' : Standing} (d : Directory) (steps : List Made) → Adds σ σ' (MayFind d) steps → Tells σ' → Only finding steps → Always ReturnsDuly steps
    → (v : View) (l : Whole) → σ.stands v l → MayFind d v → IsLone σ.seat.profile σ.seat.actor l steps
lone_call d steps adds tells kinds returns v l stood met = record { legal = legal_after adds tells v l stood met; lends_none = lends_none finding refl steps kinds; returns = returns }

-- What such a search found is told of that state.
find_told : (f : Profile) (k : ℕ) (l : Whole) (d : Directory) (n : ℕ) (steps : List Made) → IsKind d.kind → MayFind d (part k l) → IsLone f k l steps
    → (found : Option ℕ) → MatchOption found (FoundNone f d n steps) (FoundRun f d n steps) → (found ≡ None → LooksAlone f d steps)
    → IsToldFind f d n l steps found
find_told f k l d n steps kind met lone None none looked = (none_alone f k l d n kind met steps lone none, looked refl k l lone.legal met)
find_told f k l d n steps kind met lone (Some first) found looked = lowest_alone f k l d n kind met first steps lone found

module _ {σ σ1 : Standing} {d : Directory} {n from next : ℕ} (so_far : SearchedRuns d n from next σ σ1) (low : 1 ≤ from) where
  abbrev f : Profile
  f = σ.seat.profile

  abbrev xs : List Made
  xs = so_far.steps

  module _ {σ2 : Standing} {found : Option ℕ} (find : FindsRun d from next n σ1 σ2 found) where
    abbrev ys : List Made
    ys = find.steps

    look_adds : Adds σ σ2 (MayFind d) (ys ++ xs)
    look_adds = adds_call so_far.adds find.adds (λ v l stood met. tt)

    look_still : Leads f (MayFind d) (Does nothing) (ys ++ xs)
    look_still = leads_then (Does nothing) so_far.still (leads_idly f page_looks refl ys find.kinds) (λ v w met does. tt) (λ v w u a b. does_then a b)

    look_orderly : Orderly finding f from (ys ++ xs)
    look_orderly = orderly_later page_looks ys xs refl refl refl find.kinds so_far.orderly

    look_returns : Always ReturnsDuly (ys ++ xs)
    look_returns = duly_both ys xs (duly_none page_looks ys refl refl find.kinds) so_far.returns

    look_lacks : LacksAll (ys ++ xs)
    look_lacks p = right_own p ys xs (so_far.lacks p) ∙ lacks_by page_looks refl p ys find.kinds

    -- The region's profile is the same after the search.
    same : σ1.seat.profile ≡ f
    same = ap (λ (s : Seat). s.profile) so_far.adds.seat_is

    -- where these are the first steps they are looks alone
    looks_alone : xs ≡ [] → Only looking ys
    looks_alone none = only_within page_looks looking ys refl find.kinds

    all_alone : xs ≡ [] → ys ++ xs ≡ ys
    all_alone none = ap (λ zs. ys ++ zs) none ∙ append-nil ys

  -- the scan found none
  pub finds_none : {σ2 : Standing} (tells : Bool) → (tells ≡ true → Tells σ2) → (tells ≡ true → (v : View) (l : Whole) → σ.stands v l → part σ.seat.actor l ≡ v)
      → IsKind d.kind → IsFirstAlone f d xs → FindsRun d from next n σ1 σ2 None → Finds d n tells σ σ2 None
  finds_none tells laws parts kind alone find =
      let steps : List Made = find.steps ++ xs in
      let kinds : Only finding steps = (look_orderly find).kinds in
      let looked : LooksAlone f d steps = (λ k l legal met.
      let none = alone k l (legal_earlier f k find.steps xs l legal) met in subst (Only looking) (sym (all_alone find none)) (looks_alone find none)) in
      let outcome : FoundNone f d n steps = record {
        still = look_still find;
        vain = vain_ends f d n from next find.steps xs low so_far.vain (subst (λ x. HasNoRun x d from next n find.steps) (same find) find.outcome);
        deeds = search (arith, deeds_later, once_later);
        rise = (look_orderly find).rise;
        lacks = look_lacks find;
      } in
      record {
        steps = steps;
        adds = look_adds find;
        kinds = kinds;
        returns = look_returns find;
        shows = (look_orderly find).shows;
        few = (let k = length-append find.steps xs in let e = ap (λ x. x.pages) (same find) in omega (arith, k, find.few, so_far.few, so_far.within, e, so_far.vain.order.0));
        outcome = outcome;
        looked = λ none. looked;
        told = λ t v l stood met. find_told f _ l d n steps kind (subst (MayFind d) (sym (parts t v l stood)) met)
            (lone_call d steps (look_adds find) (laws t) kinds (look_returns find) v l stood met) None outcome (λ none. looked);
      }

  -- it found one
  module _ {σ2 : Standing} {first : ℕ} (find : FindsRun d from next n σ1 σ2 (Some first)) where
    abbrev ls : List Made
    ls = find.steps ++ xs

    run_at : IsFirstRun σ.seat.profile d from next n find.steps first
    run_at = subst (λ x. IsFirstRun x d from next n find.steps first) (same find) find.outcome

    usable : AllUsable d n first (find.steps ++ xs)
    usable = all_usable so_far.vain run_at low find.kinds

    run_may : (v : View) → MayFind d v → Agreed f v (find.steps ++ xs) → MayClaimPages d first (first + n) ((find.steps ++ xs) ++ v)
    run_may v met agreed =
        let does = (look_still find).from v met agreed in
        record { lacks = λ p ge lt knows. does.right p ∙ met.lacks p (knew f d p ls v agreed (usable p (ge, lt))); clear = still_clear does met.clear }

    -- After the looks that found a run, there is room for its claim.
    pub can_claim_run : (spare spare2 : ℕ) → CanCall σ (FindRoom σ.seat.profile d 1 spare) → Spares σ spare → Spares σ2 spare2
        → CanCall σ2 (HasRunRoom σ2.seat.profile d first (first + n) 1 spare2)
    can_claim_run spare spare2 can law law2 =
        let adds = look_adds find in let met = can.met.may in
        record {
          view = ls ++ can.view;
          whole = triples σ.seat.actor ls ++ can.whole;
          stood = adds.added can.view can.whole can.stood met;
          met = subst (λ (s : Seat). HasRunRoom s.profile d first (first + n) 1 spare2 (ls ++ can.view)) (sym adds.seat_is) (record {
            may = run_may can.view met (adds.agreed can.view can.whole can.stood met);
            room = room_after {spare = spare} {spare' = spare2} 1 adds (may_find can) (look_orderly find).shows can.met.room law law2;
          });
        }

    module _ {σ3 : Standing} {failed : Option ℕ} (claim : ClaimsRun true d first (first + n) σ2 σ3 failed) where
      abbrev zs : List Made
      zs = claim.steps

      -- The region's profile is the same after the claim.
      same2 : σ2.seat.profile ≡ f
      same2 = ap (λ (s : Seat). s.profile) (look_adds find).seat_is

      claim_adds : Adds σ σ3 (MayFind d) (zs ++ ls)
      claim_adds = let adds = look_adds find in adds_call {D = MayClaimPages d first _} adds claim.adds (λ v l stood met. run_may v met (adds.agreed v l stood met))

      claim_orderly : (stop : ℕ) → first ≤ stop → DeedsIn d first stop zs → Orderly finding f stop (zs ++ ls)
      claim_orderly stop le made = orderly_claim claim ls stop same2 refl le made (orderly_wider from first ls run_at.from_there (look_orderly find))

      claim_returns : Always ReturnsDuly (zs ++ ls)
      claim_returns = duly_both zs ls claim.returns (look_returns find)

      claim_deeds : (P : ℕ → Type 0) → P first → ((s : ℕ) → HasFailed d n s xs → P s) → DeedsOf d n P (zs ++ ls)
      claim_deeds P its more = always_both _ (DeedOf d n P) zs ls
          (λ m before h p e is z. let at = h p e is z in (at.0, (first, (at.1, at.2), usable_still so_far.vain run_at low find.kinds before, its)))
          claim.made (deeds_later page_looks d n (λ s. HasFailed d n s xs) P find.steps xs more refl find.kinds so_far.deeds)

    -- where no other actor made a step between these, the claim doesn't fail
    fails_alone : {σ3 : Standing} → IsKind d.kind → IsValid f → (page : ℕ) → (claim : ClaimsRun true d first (first + n) σ2 σ3 (Some page))
        → (k : ℕ) (l : Whole) → Legal f (triples k (claim.steps ++ ls) ++ l) → MayFind d (part k l) → ⊥
    fails_alone kind valid page claim k l legal met =
        let steps : List Made = claim.steps ++ ls in
        let fails = subst (λ x. FailsRun true x d first (first + n) page claim.steps) (same2 claim) claim.outcome in
        let kinds = (claim_orderly claim (first + n) (omega arith) claim.made).kinds in
        never_fails f k l d n kind met first steps (record { legal = legal; lends_none = lends_none finding refl steps kinds; returns = claim_returns claim })
        (run_has_failed so_far.vain run_at low find.kinds page claim.steps fails (part k l) (agreed_steps f k l steps valid legal))

    -- its claim failed
    pub goes_on : {σ3 : Standing} → CanCall σ (MayFind d) → (page : ℕ) → ClaimsRun true d first (first + n) σ2 σ3 (Some page)
        → SearchedRuns d n (page + 1) (first + n) σ σ3
    goes_on can page claim =
        let fails = subst (λ x. FailsRun true x d first (first + n) page claim.steps) (same2 claim) claim.outcome in
        let adds = claim_adds claim in
        let agreed = adds.agreed can.view can.whole can.stood can.met in
        let failed = run_has_failed so_far.vain run_at low find.kinds page claim.steps fails can.view agreed in
        record {
          steps = claim.steps ++ ls;
          adds = adds;
          still = record {
            from = λ v met agreed.
                let before = agreed_later f v claim.steps ls agreed in
                rw (append_assoc claim.steps ls v) (does_then ((look_still find).from v met before) (fails.still.from (ls ++ v) (run_may v met before) (agreed_first f v claim.steps ls agreed)));
          };
          orderly = claim_orderly claim (page + 1) (omega (arith, fails.in_run.0)) fails.made;
          returns = claim_returns claim;
          lacks = fails.lacks ls (look_lacks find);
          within = run_at.of_region;
          few = (let k = length-append claim.steps ls in let j = length-append find.steps xs in omega (arith, k, j, find.few, so_far.few, fails.few, run_at.from_there));
          vain = vain_goes_on so_far.vain run_at low find.kinds page claim.steps fails can.view agreed;
          deeds = claim_deeds claim _ failed (λ s h. once_later _ claim.steps ls (once_later _ find.steps xs h));
        }

    -- so nothing was done before, where no other actor made a step between these
    pub never_alone : {σ3 : Standing} → IsKind d.kind → IsValid f → (can : CanCall σ (MayFind d)) → (page : ℕ)
        → (claim : ClaimsRun true d first (first + n) σ2 σ3 (Some page)) → IsFirstAlone f d (goes_on can page claim).steps
    unfolding goes_on
    never_alone kind valid can page claim k l legal met = absurd (fails_alone kind valid page claim k l legal met)

    -- it was claimed
    pub finds_run : {σ3 : Standing} (tells : Bool) → (tells ≡ true → Tells σ3)
        → (tells ≡ true → (v : View) (l : Whole) → σ.stands v l → part σ.seat.actor l ≡ v) → IsKind d.kind
        → ClaimsRun true d first (first + n) σ2 σ3 None → Finds d n tells σ σ3 (Some first)
    finds_run tells laws parts kind claim =
        let steps : List Made = claim.steps ++ ls in
        let holds_it = subst (λ x. HoldsRun x d first (first + n) claim.steps) (same2 claim) claim.outcome in
        let span = holds_it.holding ls (first_alone so_far.vain run_at low find.kinds) in
        let orderly = claim_orderly claim (first + n) (omega arith) claim.made in
        let outcome : FoundRun f d n steps first = record {
          of_region = (omega (arith, run_at.from_there, low), run_at.of_region);
          got = record {
            from = λ v met agreed.
                let before = agreed_later f v claim.steps ls agreed in
                let does = (look_still find).from v met before in
                rw (append_assoc claim.steps ls v) (got_after (in_span first (first + n)) d does (holds_it.got.from (ls ++ v) (run_may v met before) (agreed_first f v claim.steps ls agreed)));
          };
          taken = record {
            usable = usable_still so_far.vain run_at low find.kinds claim.steps;
            right = λ p is. span.right p is.0 is.1;
            whole = λ p word is lt. span.whole p word is.0 is.1 lt;
          };
          lower = lower_bad so_far.vain run_at low find.kinds claim.steps;
          rise = orderly.rise;
          deeds = claim_deeds claim _ (inl refl) (λ s h. inr (once_later _ claim.steps ls (once_later _ find.steps xs h)));
        } in
        record {
          steps = steps;
          adds = claim_adds claim;
          looked = λ none. cc;
          kinds = orderly.kinds;
          returns = claim_returns claim;
          shows = orderly.shows;
          few = (let k = length-append claim.steps ls in let j = length-append find.steps xs in omega (arith, k, j, find.few, so_far.few, holds_it.few, run_at.from_there, run_at.of_region));
          outcome = outcome;
          told = λ t v l stood met. find_told f _ l d n steps kind (subst (MayFind d) (sym (parts t v l stood)) met)
              (lone_call d steps (claim_adds claim) (laws t) orderly.kinds (claim_returns claim) v l stood met) (Some first) outcome (λ none. cc);
        }

-- A request for whole pages, however its run was found: what its steps did.
-- each deed that was made is of the directory
abbrev pub MadeOf : Directory → List Made → Type 0
MadeOf d = Always (λ m before. (p : ℕ) (e : Directory) → m.step ≡ Deed p e → m.answer ≡ 0 → e ≡ d)

-- a run was got by the first of these steps, and given and left by the others
pub record IsGivenRun (f : Profile) (d : Directory) (n : ℕ) (got after : List Made) (block : Block) : Type 0 where
  pub first : ℕ
  pub of_region : (1 ≤ first) × (first + n ≤ f.pages + 1)
  pub made : MadeOf d got
  pub backs : List Made
  pub back_kinds : Only (Backing ∷ []) backs
  pub back_few : length backs ≤ n
  pub word : ℕ
  pub answer : ℕ
  pub block_is : block ≡ run_block d first n word
  pub left : List Made
  pub left_kinds : Only returning left
  pub after_is : after ≡ left ++ (give_steps first 0 block word answer ++ backs)
  pub gave : Leads f (MayFind d) (GaveLarge d first n block) (after ++ got)

-- nothing was got, and looks followed
pub record IsRefusedRun (f : Profile) (d : Directory) (got after : List Made) : Type 0 where
  pub made : MadeOf d got
  pub scans : OnlyScans after
  pub still : Leads f (MayFind d) (Does nothing) (after ++ got)

-- the steps of a request in two parts
pub record HasEnded (f : Profile) (d : Directory) (n : ℕ) (steps : List Made) (answer : Result Block NoRoom) : Type 0 where
  pub got : List Made
  pub after : List Made
  pub kinds : Only finding got
  pub shows : OnlyDeedsShow f got
  pub outcome : MatchResult answer (IsGivenRun f d n got after) (λ why. IsRefusedRun f d got after)
  pub steps_are : steps ≡ after ++ got

-- Deeds of pages of runs are of their directory alone.
pub of_directory : (d : Directory) (n : ℕ) (P : ℕ → Type 0) (steps : List Made) → DeedsOf d n P steps → MadeOf d steps
of_directory d n P steps deeds = always_map _ _ steps (λ m before h p e same z. (h p e same z).0) deeds

module _ (f : Profile) (d : Directory) (n : ℕ) (tried : List Made) (old : Only claiming_old tried) (shows : OnlyDeedsShow f tried) where
  named_ended : (found : Option ℕ) (rest : List Made) (answer : Result Block NoRoom) → IsServedNamed f d n found tried rest answer
      → HasEnded f d n (rest ++ tried) answer
  named_ended found rest answer served = let block = served.0 in let is = served.2 in record {
    got = tried;
    after = rest;
    kinds = only_within claiming_old finding tried refl old;
    shows = shows;
    outcome = subst (λ a. MatchResult a (IsGivenRun f d n tried rest) (λ why. IsRefusedRun f d tried rest)) (sym served.1) (record {
      first = is.first;
      of_region = is.holds_it.of_region;
      made = search (arith, always_map, true≢false);
      backs = is.backs;
      back_kinds = only_backs is.first n is.backs is.back_order;
      back_few = backs_few is.first n is.backs is.back_order;
      word = is.word;
      answer = is.answer;
      block_is = is.block_is;
      left = is.left;
      left_kinds = only_leaves d (pages_from is.first n) is.left is.left_order;
      after_is = is.after_is;
      gave = is.gave;
    });
    steps_are = refl;
  }

  scan_outcome : (got after : List Made) (answer : Result Block NoRoom) → MatchResult answer (IsAllocatedLarge f d n got after) (IsRefusedLarge f d n got after)
      → MatchResult answer (IsGivenRun f d n got after) (λ why. IsRefusedRun f d got after)
  scan_outcome got after (Ok block) is = record {
    first = is.first;
    of_region = is.found.of_region;
    made = of_directory d n _ got is.found.deeds;
    backs = is.backs;
    back_kinds = only_backs is.first n is.backs is.back_order;
    back_few = backs_few is.first n is.backs is.back_order;
    word = is.word;
    answer = is.answer;
    block_is = is.block_is;
    left = is.left;
    left_kinds = only_leaves d (pages_from is.first n) is.left is.left_order;
    after_is = is.after_is;
    gave = is.gave;
  }
  scan_outcome got after (Err why) is = record { made = of_directory d n _ got is.found.deeds; scans = is.scans; still = is.still }

  scan_ended : {found : Option ℕ} (rest : List Made) (answer : Result Block NoRoom) → IsScanned f d n found tried rest answer
      → HasEnded f d n (rest ++ tried) answer
  scan_ended rest answer is = record {
    got = is.searched ++ tried;
    after = is.after;
    kinds = only_both finding is.searched tried is.kinds (only_within claiming_old finding tried refl old);
    shows = shows_both f is.searched tried is.shows shows;
    outcome = scan_outcome (is.searched ++ tried) is.after answer is.outcome;
    steps_are = ap (λ xs. xs ++ tried) is.rest_is ∙ append_assoc is.after is.searched tried;
  }

  -- The steps of a request for whole pages, by the door or by the scan, are those of its search and then its end.
  pub ended : (found : Option ℕ) (rest : List Made) (answer : Result Block NoRoom)
      → IsServedNamed f d n found tried rest answer ⊎ IsScanned f d n found tried rest answer → HasEnded f d n (rest ++ tried) answer
  ended found rest answer outcome = elim outcome [ inl served ↦ named_ended found rest answer served | inr scanned ↦ scan_ended rest answer scanned ]
