-- A large block: the run that was found is given, or the refusal has its reason.
use Rattle.pas_steps.proofs.{SpareRoom.Spares, Called.{call_then, next_call}, Apart.{only_both, only_within}, Parts.{part_of_own, part_of_others}}
use Rattle.pas_steps.proofs.{Calls.{leads_then, leads_idly, does_then, leads_as}, Past.{always_map, once_later, once_map, since_once, always_both}}
use Rattle.pas_steps.{proofs.Adding.{Tells, adds_call, agreed_later, legal_after, triples_append, adds_under}, specs.Calls.{Leads, Calls, nothing, Does}}
use Rattle.pas_steps.specs.{Desks.{Seat, Standing, CanCall, triples}, Kinds.{looking, kind_of, is_in, Only, lending}, Frames.{IsScan, OnlyScans}, Views.View}
use Rattle.pas_steps.specs.{Views.{holds, has_right}, Past.Always, Agreement.Agreed, Lists.{Whole, part, Legal}, Evidence.KeptHere, declared.step.Made.Made}
use Rattle.std.proofs.Common.{◌≡◌, ℕ, ◌+◌, ◌*◌, ◌≤◌, true, List, ◌++◌, length-append, Option, Some, None, Result, MatchResult, Ok, Err, inl, inr, refl, ap, sym}
use Rattle.std.proofs.Common.{◌∙◌, subst, arith, append_assoc, Bool, false, [], append-nil, ◌<◌, ◌⊎◌}
use Rattle.pas_profile.specs.declared.{directory.Directory.Directory, event.NoRoom.{NoRoom, TheVariants.Held}, name.Block.Block, profile.Profile.Profile}
use Rattle.pas_profile.specs.{Blocks.address_of, Directories.IsKind, Profiles.{IsValid, IsDirectoryOf}}
use Rattle.pas_scan.specs.{Runs.{large_directory, IsInRun}, Usable.WholeHere}
use Rattle.pas_large.specs.Allocates.{GaveLarge, IsAllocatedLarge, IsRefusedLarge, AllocatesByScan, AllocatesLarge, IsServedNamed, IsScanned}
use Rattle.pas_large.specs.{Named.{HoldsNamed, ClaimsNamed, missed_steps}, Evidence.TakenWholeHere, Gives.GivesRun, Pages.{GotPages, OnlyDeedsShow}}
use Rattle.pas_large.specs.{Pages.claiming_old, Refusals.{IsReason, Refuses}, Alone.{GoesByDoor, FindsTheRunThereIs}, Telling.{IsNamedWhole, IsToldLarge}}
use Rattle.pas_large.specs.{Telling.{TakesNamed, IsToldByDoor}, Claims.{in_span, HasPages, ClaimsRun, HoldsSpan, LacksAll, MayClaimPages}, Finds.MayFind}
use Rattle.pas_large.{specs.Finds.{FindRoom, LooksAlone, Finds, finding}, proofs.{Claims.{has_got, room_after, span_in, alone_at_first}, Told.none_after}}
use Rattle.pas_large.proofs.{Told.{true_reason, never_missed, got_whole, lowest_alone, none_alone}, Pages.undone, Refusals.reason_before, Finds.may_find}
use Rattle.pas_large.proofs.Lifted.{find_again, after_still, found_run, found_none}
use Rattle.pas_rights.specs.Gives.{give_steps}
use Rattle.pas_search.{specs.{Kinds.ReturnsDuly, Telling.IsTrueReason, Alone.IsLone}, proofs.FindingAPage.{OwnLacks, still_lacks, none_held_there}}
use Rattle.pas_search.proofs.PagesThatServe.{duly_both, duly_none}
use Rattle.pas_core.proofs.{OneActor.{legal_earlier, lends_none}, Nexts.agreed_steps}

-- ---- the claim of the run that a door names
-- whatever the door names may be claimed
may_claim_named : (d : Directory) (first end : ℕ) (v : View) → MayFind d v → MayClaimPages d first end v
may_claim_named d first end v met = record { lacks = λ p low high knows. met.lacks p knows; clear = met.clear }

-- what may be spent with a run that was named
named_steps : (n first : ℕ) (found : Option ℕ) → found ≡ Some first → missed_steps found n ≡ 48 * n
named_steps n first found named = ap (λ o. missed_steps o n) named

-- The claim of a named run that got all its pages holds the named run.
pub holds_named : {σ σ1 : Standing} (d : Directory) (n first : ℕ) (found : Option ℕ) → found ≡ Some first → (1 ≤ first) × (first + n ≤ σ.seat.profile.pages + 1)
    → ClaimsRun false d first (first + n) σ σ1 None → ClaimsNamed d n found σ σ1 (Some first)
holds_named d n first found named region claim = record {
  steps = claim.steps;
  adds = adds_under claim.adds (λ v l stood met. may_claim_named d first (first + n) v met);
  old = claim.old refl;
  returns = claim.returns;
  shows = claim.shows;
  outcome = record {
    named = named;
    of_region = region;
    got = leads_as claim.outcome.got (λ v met. may_claim_named d first (first + n) v met) (λ v w met got. got);
    of = claim.of refl refl;
    holding = subst (HoldsSpan first (first + n)) (append-nil claim.steps) (claim.outcome.holding [] (alone_at_first first));
    few = (omega (arith, claim.outcome.few));
  };
}

-- The claim of a named run that failed at a page misses the named run.
pub misses_named : {σ σ1 : Standing} (d : Directory) (n first page : ℕ) (found : Option ℕ) → found ≡ Some first
    → ClaimsRun false d first (first + n) σ σ1 (Some page) → ClaimsNamed d n found σ σ1 None
misses_named d n first page found named claim = record {
  steps = claim.steps;
  adds = adds_under claim.adds (λ v l stood met. may_claim_named d first (first + n) v met);
  old = claim.old refl;
  returns = claim.returns;
  shows = claim.shows;
  outcome = record {
    unnamed = λ none. absurd (cc);
    missed = λ other is some within. let same : first ≡ other = let both = sym named ∙ is in cc in (page, subst (λ s. IsInRun s n page) same claim.outcome.in_run, claim.outcome.missed refl);
    still = leads_as claim.outcome.still (λ v met. may_claim_named d first (first + n) v met) (λ v w met does. does);
    lacks = subst LacksAll (append-nil claim.steps) (claim.outcome.lacks [] (λ p. refl));
    left = claim.outcome.left refl;
    few = (let most = named_steps n first found named in omega (arith, claim.outcome.few, claim.outcome.in_run.1, most));
  };
}

-- ---- a run that the scan found
module _ {σ σ1 : Standing} {d : Directory} {n first : ℕ} {tells : Bool} (find : Finds d n tells σ σ1 (Some first)) where
  found_call : Calls σ σ1 (MayFind d) (GotPages (in_span first (first + n)) d) find.steps
  found_call = record { adds = find.adds; leads = find.outcome.got }

  has_pages : (v : View) → MayFind d v → GotPages (in_span first (first + n)) d v (find.steps ++ v) → HasPages d first (first + n) (find.steps ++ v)
  has_pages v met got = has_got d first (first + n) met.clear got

  -- After a scan that found a run, its pages are in hand, so that they may be backed.
  pub can_give_run : CanCall σ (MayFind d) → CanCall σ1 (HasPages d first (first + n))
  can_give_run can = next_call found_call can has_pages

  -- After a scan that found a run there is room for the events of its backs and its give.
  pub room_to_give_run : (spare spare1 : ℕ) → CanCall σ (FindRoom σ.seat.profile d (n + 1) spare) → Spares σ spare → Spares σ1 spare1 → n + 1 ≤ spare1
  room_to_give_run spare spare1 can law law1 = let room = room_after {spare = spare} {spare' = spare1} (n + 1) find.adds (may_find can) find.shows can.met.room law law1 in omega (arith, room)

-- Steps that scan are looks alone.
pub scans_only : (steps : List Made) → OnlyScans steps → Only looking steps
scans_only steps scans = always_map (λ m before. IsScan m.step) _ steps (λ m before is. (grind arith)) scans

large_of : (f : Profile) (heap : ℕ) → heap < f.heaps → IsDirectoryOf f (large_directory heap)
large_of f heap lt = record { heap = lt; kind = tt; class = tt }

-- ==== A SCAN whose actor alone made steps: what it came to is told of the states before and after it.
module _ (f : Profile) (k : ℕ) (l : Whole) (d : Directory) (n : ℕ) (valid : IsValid f) (of : IsDirectoryOf f d) (met : MayFind d (part k l)) where
  -- The reason of a scan that only looked is true.
  scan_reason : (searched after : List Made) (why : NoRoom) → Legal f (triples k (after ++ searched) ++ l) → LooksAlone f d searched
      → IsRefusedLarge f d n searched after why → IsTrueReason f d (triples k (after ++ searched) ++ l) why
  scan_reason searched after why legal looked is =
      search (arith, only_both, scans_only, legal_earlier, true_reason, once_later, is.found.vain.deeds)

  -- It is told, where its reason is.
  scan_told : (got after : List Made) (answer : Result Block NoRoom) → Legal f (triples k (after ++ got) ++ l) → Only finding got → Always ReturnsDuly got
      → MatchResult answer (IsAllocatedLarge f d n got after) (IsRefusedLarge f d n got after)
      → ((why : NoRoom) → answer ≡ Err why → IsTrueReason f d (triples k (after ++ got) ++ l) why) → IsToldLarge f d n l (triples k (after ++ got) ++ l) answer
  scan_told got after (Ok block) legal kinds due is reason =
      let lone : IsLone f k l got = record { legal = legal_earlier f k after got l legal; lends_none = lends_none finding refl got kinds; returns = due } in
      (is.first, lowest_alone f k l d n of.kind met is.first got lone is.found, ap (λ (b : Block). address_of b.name) is.block_is)
  scan_told got after (Err why) legal kinds due is reason =
      let lone : IsLone f k l got = record { legal = legal_earlier f k after got l legal; lends_none = lends_none finding refl got kinds; returns = due } in
      let scans = scans_only after is.scans in
      let lends = always_both (λ m before. is_in lending (kind_of m.step) ≡ false) (λ m before. is_in lending (kind_of m.step) ≡ false) after got
      (λ m before h. h) (lends_none looking refl after scans) lone.lends_none in
      let none = none_alone f k l d n of.kind met got lone is.found in search (arith, none_after, lends_none, duly_both, duly_none)

-- A scan that found a run, which was then given, allocates a large block by scan.
pub allocates : {σ σ1 σ2 : Standing} (heap n first : ℕ) (tells : Bool) (find : Finds (large_directory heap) n tells σ σ1 (Some first)) (block : Block)
    → GivesRun (large_directory heap) first n block σ1 σ2 → AllocatesByScan heap n tells σ σ2 (Ok block)
allocates heap n first tells find block give =
    let d = large_directory heap in
    let calls = call_then (GaveLarge d first n block) (found_call find) give.calls (has_pages find)
    (λ v met got gave. record { does = undone _ _ got.apart got.lacked got.does gave.does; apart = got.apart; deeds = gave.deeds; turn = gave.turn }) in
    record {
      searched = find.steps;
      after = _;
      adds = calls.adds;
      told = λ t v l stood met. (first, find.told t v l stood met, ap (λ (b : Block). address_of b.name) give.block_is);
      kinds = find.kinds;
      returns = find.returns;
      shows = find.shows;
      few = (let k = length-append (give.left ++ (give_steps first 0 block give.word give.answer ++ give.backs)) find.steps in omega (arith, k, give.few, find.few));
      outcome = record {
        first = first;
        found = find.outcome;
        backs = give.backs;
        back_order = give.back_order;
        word = give.word;
        answer = give.answer;
        block_is = give.block_is;
        left = give.left;
        left_order = give.left_order;
        after_is = refl;
        few = give.few;
        gave = calls.leads;
      };
      looked = λ why refused. cc;
    }

-- A scan that found no run, and a reason that was looked up, refuse a large request by scan.
pub refuses_large : {σ σ1 σ2 : Standing} (heap n : ℕ) (tells : Bool) (find : Finds (large_directory heap) n tells σ σ1 None) (why : NoRoom)
    → IsValid σ.seat.profile → heap < σ.seat.profile.heaps → (tells ≡ true → Tells σ2)
    → (tells ≡ true → (v : View) (l : Whole) → σ.stands v l → part σ.seat.actor l ≡ v) → Refuses (large_directory heap) σ1 σ2 why
    → AllocatesByScan heap n tells σ σ2 (Err why)
refuses_large {σ} {σ1} heap n tells find why valid lt laws parts refused =
    let same : σ1.seat.profile ≡ σ.seat.profile = ap (λ (s : Seat). s.profile) find.adds.seat_is in
    let f : Profile = σ.seat.profile in
    let d = large_directory heap in
    let adds = adds_call find.adds refused.adds (λ v l stood met. tt) in
    let outcome : IsRefusedLarge f d n find.steps refused.steps why = record {
      found = find.outcome;
      scans = refused.scans;
      few = let e = ap (λ (x : Profile). x.pages) same in omega (arith, refused.few, e);
      reason = subst (λ x. IsReason x d (refused.steps ++ find.steps) why) same (refused.reason find.steps find.outcome.lacks);
      still = leads_then (Does nothing) find.outcome.still (leads_idly f looking refl refused.steps (scans_only refused.steps refused.scans)) (λ v w met does. tt) (λ v w u a b. does_then a b);
    } in
    record {
      searched = find.steps;
      after = refused.steps;
      adds = adds;
      told = λ t v l stood met.
          let entry = subst (MayFind d) (sym (parts t v l stood)) met in
          let legal = legal_after adds (laws t) v l stood met in
          scan_told f σ.seat.actor l d n valid (large_of f heap lt) entry find.steps refused.steps (Err why) legal find.kinds find.returns outcome
          (λ other is. let one : why ≡ other = cc in subst (IsTrueReason f d (triples σ.seat.actor (refused.steps ++ find.steps) ++ l)) one
          (scan_reason f σ.seat.actor l d n valid (large_of f heap lt) entry find.steps refused.steps why legal (find.looked refl) outcome));
      kinds = find.kinds;
      returns = find.returns;
      shows = find.shows;
      few = (let k = length-append refused.steps find.steps in let e = ap (λ x. x.pages) same in omega (arith, k, refused.few, find.few, e));
      outcome = outcome;
      looked = λ other is. find.looked refl;
    }

-- ---- the run that the door named
module _ {σ σ1 : Standing} {d : Directory} {n first : ℕ} {found : Option ℕ} (claim : ClaimsNamed d n found σ σ1 (Some first)) where
  named_call : Calls σ σ1 (MayFind d) (GotPages (in_span first (first + n)) d) claim.steps
  named_call = record { adds = claim.adds; leads = claim.outcome.got }

  named_pages : (v : View) → MayFind d v → GotPages (in_span first (first + n)) d v (claim.steps ++ v) → HasPages d first (first + n) (claim.steps ++ v)
  named_pages v met got = has_got d first (first + n) met.clear got

  -- After the claim of the run that a door named, its pages are in hand, so that they may be backed.
  pub can_give_named : CanCall σ (MayFind d) → CanCall σ1 (HasPages d first (first + n))
  can_give_named can = next_call named_call can named_pages

-- A named run that was claimed is one of the region.
pub region_named : {σ σ1 : Standing} {d : Directory} {n first : ℕ} {found : Option ℕ} → ClaimsNamed d n found σ σ1 (Some first)
    → first + n ≤ σ1.seat.profile.pages + 1
region_named {n = n} {first = first} claim = subst (λ (s : Seat). first + n ≤ s.profile.pages + 1) (sym claim.adds.seat_is) claim.outcome.of_region.1

-- room for so many events is left
pub room_named : {σ σ1 : Standing} (d : Directory) (n k : ℕ) {found result : Option ℕ} (claim : ClaimsNamed d n found σ σ1 result) (spare spare1 : ℕ)
    → CanCall σ (FindRoom σ.seat.profile d k spare) → Spares σ spare → Spares σ1 spare1 → k ≤ spare1
room_named d n k claim spare spare1 can law law1 = let room = room_after {spare = spare} {spare' = spare1} k claim.adds (may_find can) claim.shows can.met.room law law1 in omega (arith, room)

-- After the claim of a named run failed, or where none was named, the scan may begin with its room.
pub can_scan : {σ σ1 : Standing} (d : Directory) (n k : ℕ) {found : Option ℕ} (claim : ClaimsNamed d n found σ σ1 None) (spare spare1 : ℕ)
    → CanCall σ (FindRoom σ.seat.profile d k spare) → Spares σ spare → Spares σ1 spare1 → CanCall σ1 (FindRoom σ1.seat.profile d k spare1)
can_scan {σ} {σ1} d n k claim spare spare1 can law law1 =
    let xs = claim.steps in let met = can.met.may in
    let agreed = claim.adds.agreed can.view can.whole can.stood met in
    record {
      view = xs ++ can.view;
      whole = triples σ.seat.actor xs ++ can.whole;
      stood = claim.adds.added can.view can.whole can.stood met;
      met = subst (λ (s : Seat). FindRoom s.profile d k spare1 (xs ++ can.view)) (sym claim.adds.seat_is) (record {
        may = find_again σ.seat.profile d can.view xs met agreed (claim.outcome.still.from can.view met agreed);
        room = room_after {spare = spare} {spare' = spare1} k claim.adds (may_find can) claim.shows can.met.room law law1;
      });
    }

-- ==== A REQUEST whose actor alone made steps: by its door, or by the scan, what it came to is told of the states before and after it.
-- the run that was named, or the scan, after what was tried with that run
abbrev IsOutcome : Profile → Directory → ℕ → Option ℕ → List Made → List Made → Result Block NoRoom → Type 0
IsOutcome f d n found tried rest answer = IsServedNamed f d n found tried rest answer ⊎ IsScanned f d n found tried rest answer

-- A run that was claimed by its name was whole before.
pub holds_whole : (f : Profile) (k : ℕ) (l : Whole) (d : Directory) (n first : ℕ) (found : Option ℕ) (steps : List Made) → IsKind d.kind → IsLone f k l steps
    → HoldsNamed f d n found steps first → IsNamedWhole f d n l found first
holds_whole f k l d n first found steps kind lone holds = record {
  named = holds.named;
  of_region = holds.of_region;
  whole = λ p here. got_whole f k l d p kind steps lone (holds.of p (span_in first (first + n) p here.0 here.1))
      (λ word lt. once_map _ (WholeHere p word) steps (λ m b h. h.0) (since_once (TakenWholeHere p word) (KeptHere p) steps (holds.holding.whole p word here.0 here.1 lt)));
}

module _ (f : Profile) (k : ℕ) (l : Whole) (d : Directory) (n : ℕ) (found : Option ℕ) (tried rest : List Made) (old : Only claiming_old tried)
    (returns : Always ReturnsDuly tried) (legal : Legal f (triples k (rest ++ tried) ++ l)) (met : MayFind d (part k l)) where
  -- What was tried with the run that was named came onto the state at entry.
  pub tried_lone : IsLone f k l tried
  tried_lone = record { legal = legal_earlier f k rest tried l legal; lends_none = lends_none claiming_old refl tried old; returns = returns }

  -- ---- the door: the named run serves exactly where it was whole
  module _ (kind : IsKind d.kind) (answer : Result Block NoRoom) where
    served_named : IsOutcome f d n found tried rest answer → TakesNamed f d n found l (rest ++ tried) answer
    served_named (inl served) first whole =
        let is = served.2 in
        let same : is.first ≡ first = let both = sym is.holds_it.named ∙ whole.named in cc in
        (served.0, served.1, ap (λ (b : Block). address_of b.name) is.block_is ∙ ap (λ x. x * 4096) same, is.few)
    served_named (inr is) first whole =
        let miss = is.misses.missed first whole.named whole.of_region.0 whole.of_region.1 in
        absurd (never_missed f k l d n kind met miss.0 (whole.whole miss.0 miss.1) tried tried_lone miss.2)

    scanned_else : IsOutcome f d n found tried rest answer → ((first : ℕ) → IsNamedWhole f d n l found first → ⊥) → IsScanned f d n found tried rest answer
    scanned_else (inl served) none = let is = served.2 in absurd (none is.first (holds_whole f k l d n is.first found tried kind tried_lone is.holds_it))
    scanned_else (inr is) none = is

    -- A request whose actor went on alone goes by its door: the named run serves exactly where it was whole before.
    pub goes_by_door : IsOutcome f d n found tried rest answer → GoesByDoor f d n found l (rest ++ tried) answer
    goes_by_door outcome = record { served = served_named outcome; tried = tried; rest = rest; steps_are = refl; otherwise = scanned_else outcome }

  -- ---- the scan, whose steps with those before it show of the state at entry what its own show of the one between
  module _ (valid : IsValid f) (of : IsDirectoryOf f d) where
    module _ (answer : Result Block NoRoom) (is : IsScanned f d n found tried rest answer) where
      abbrev mid : Whole
      mid = triples k tried ++ l

      abbrev got : List Made
      got = is.searched ++ tried

      steps_are : rest ++ tried ≡ is.after ++ got
      steps_are = ap (λ xs. xs ++ tried) is.rest_is ∙ append_assoc is.after is.searched tried

      exit_is : triples k (is.after ++ is.searched) ++ mid ≡ triples k (is.after ++ got) ++ l
      exit_is = triples_append k (is.after ++ is.searched) tried l ∙ ap (λ xs. triples k xs ++ l) (append_assoc is.after is.searched tried)

      at_exit : Legal f (triples k (is.after ++ got) ++ l)
      at_exit = subst (λ xs. Legal f (triples k xs ++ l)) steps_are legal

      met_mid : MayFind d (part k mid)
      met_mid =
          let agreed = agreed_steps f k l tried valid tried_lone.legal in
          subst (MayFind d) (sym (part_of_own k tried l)) (find_again f d (part k l) tried met agreed (is.misses.still.from (part k l) met agreed))

      reason : (why : NoRoom) → answer ≡ Err why → IsTrueReason f d (triples k (is.after ++ got) ++ l) why
      reason why refused =
          let own = subst (λ a. MatchResult a (IsAllocatedLarge f d n is.searched is.after) (IsRefusedLarge f d n is.searched is.after)) refused is.own in
          subst (λ w. IsTrueReason f d w why) exit_is
          (scan_reason f k mid d n valid of met_mid is.searched is.after why (subst (Legal f) (sym exit_is) at_exit) (is.looked why refused) own)

      scanned_told : IsToldLarge f d n l (triples k (rest ++ tried) ++ l) answer
      scanned_told = subst (λ xs. IsToldLarge f d n l (triples k xs ++ l) answer) (sym steps_are) (scan_told f k l d n valid of met got is.after answer at_exit
          (only_both finding is.searched tried is.kinds (only_within claiming_old finding tried refl old)) (duly_both is.searched tried is.returns returns) is.outcome reason)

    -- THE REQUEST is told of the states before and after it.
    pub told_by_door : (answer : Result Block NoRoom) → IsOutcome f d n found tried rest answer
        → IsToldByDoor f d n found l (triples k (rest ++ tried) ++ l) (rest ++ tried) answer
    told_by_door answer outcome = record { served = served_named of.kind answer outcome; otherwise = λ none. scanned_told answer (scanned_else of.kind answer outcome none) }

    -- A refusal is true, and after it the actor has no right of a page of the directory.
    pub refused_alone : (why : NoRoom) → IsOutcome f d n found tried rest (Err why)
        → IsToldLarge f d n l (triples k (rest ++ tried) ++ l) (Err why) × OwnLacks k d (triples k (rest ++ tried) ++ l)
    refused_alone why (inl served) = absurd (let bad : Err why ≡ Ok served.0 = served.1 in cc)
    refused_alone why (inr is) =
        let steps : List Made = is.after ++ (is.searched ++ tried) in
        let stands = at_exit (Err why) is in
        let still = is.outcome.still.from (part k l) met (agreed_steps f k l steps valid stands) in (
          scanned_told (Err why) is,
          subst (λ xs. OwnLacks k d (triples k xs ++ l)) (sym (steps_are (Err why) is))
              (still_lacks f k l d steps valid stands (λ p known. met.lacks p (inr known)) still),
        )

-- A named run that was claimed and then given allocates a large block.
pub serves_named : {σ σ1 σ2 : Standing} (heap n first : ℕ) (found : Option ℕ) (tells : Bool)
    (claim : ClaimsNamed (large_directory heap) n found σ σ1 (Some first)) (block : Block)
    → IsValid σ.seat.profile → heap < σ.seat.profile.heaps → (tells ≡ true → Tells σ2)
    → (tells ≡ true → (v : View) (l : Whole) → σ.stands v l → part σ.seat.actor l ≡ v) → GivesRun (large_directory heap) first n block σ1 σ2
    → AllocatesLarge heap n found tells σ σ2 (Ok block)
serves_named {σ} heap n first found tells claim block valid lt laws parts give =
    let f : Profile = σ.seat.profile in
    let d = large_directory heap in
    let rest : List Made = give.left ++ (give_steps first 0 block give.word give.answer ++ give.backs) in
    let calls = call_then (GaveLarge d first n block) (named_call claim) give.calls (named_pages claim)
    (λ v met got gave. record { does = undone _ _ got.apart got.lacked got.does gave.does; apart = got.apart; deeds = gave.deeds; turn = gave.turn }) in
    let k = length-append rest claim.steps in let a = give.few in let b = claim.outcome.few in
    let outcome : IsOutcome f d n found claim.steps rest (Ok block) = inl (
      block,
      refl,
      record {
        first = first;
        holds_it = claim.outcome;
        backs = give.backs;
        back_order = give.back_order;
        word = give.word;
        answer = give.answer;
        block_is = give.block_is;
        left = give.left;
        left_order = give.left_order;
        after_is = refl;
        few = omega (arith, k, a, b);
        gave = calls.leads;
      },
    ) in
    record {
      tried = claim.steps;
      rest = rest;
      adds = calls.adds;
      old = claim.old;
      returns = claim.returns;
      shows = claim.shows;
      few = omega (arith, k, a, b, named_steps n first found claim.outcome.named);
      told = λ t v l stood met. told_by_door f σ.seat.actor l d n found claim.steps rest claim.old claim.returns (legal_after calls.adds (laws t) v l stood met)
          (subst (MayFind d) (sym (parts t v l stood)) met) valid (large_of f heap lt) (Ok block) outcome;
      outcome = outcome;
    }

-- ---- the scan, after what was tried
gave_after : {d : Directory} {first n : ℕ} {block : Block} {v u w : View} → Does nothing v u → GaveLarge d first n block u w → GaveLarge d first n block v w
gave_after does gave = record { does = does_then does gave.does; apart = λ g here. sym (does.held g) ∙ gave.apart g here; deeds = gave.deeds; turn = gave.turn }

module _ {σ σ1 : Standing} (heap n : ℕ) (found : Option ℕ) (claim : ClaimsNamed (large_directory heap) n found σ σ1 None) where
  abbrev d : Directory
  d = large_directory heap

  abbrev f : Profile
  f = σ.seat.profile

  abbrev tried : List Made
  tried = claim.steps

  module _ (v : View) (searched after : List Made) (agreed : Agreed f v ((after ++ searched) ++ tried)) where
    -- The steps of the call, in their three parts.
    at : (after ++ searched) ++ tried ≡ after ++ (searched ++ tried)
    at = append_assoc after searched tried

    search_agreed : Agreed f v (searched ++ tried)
    search_agreed = agreed_later f v after (searched ++ tried) (subst (Agreed f v) at agreed)

    -- what the scan's steps show all steps of the call do
    whole_call : (answer : Result Block NoRoom) → MatchResult answer (IsAllocatedLarge f d n searched after) (IsRefusedLarge f d n searched after)
        → MatchResult answer (IsAllocatedLarge f d n (searched ++ tried) after) (IsRefusedLarge f d n (searched ++ tried) after)
    whole_call (Ok block) is = record {
      first = is.first;
      found = found_run f d n tried searched claim.old claim.outcome.left claim.outcome.still v search_agreed is.first is.found;
      backs = is.backs;
      back_order = is.back_order;
      word = is.word;
      answer = is.answer;
      block_is = is.block_is;
      left = is.left;
      left_order = is.left_order;
      after_is = is.after_is;
      few = is.few;
      gave = subst (Leads f (MayFind d) (GaveLarge d is.first n block)) at (after_still d (after ++ searched) tried (λ v u w does gave. gave_after does gave) claim.outcome.still is.gave);
    }
    whole_call (Err why) is = record {
      found = found_none f d n tried searched claim.old claim.outcome.left claim.outcome.still v search_agreed is.found;
      scans = is.scans;
      few = is.few;
      reason = subst (λ xs. IsReason f d xs why) at (reason_before d tried claim.outcome.lacks f (after ++ searched) why is.reason);
      still = subst (Leads f (MayFind d) (Does nothing)) at (after_still d (after ++ searched) tried (λ v u w a b. does_then a b) claim.outcome.still is.still);
    }

-- What a scan comes to after the claim of a named run failed is what the whole request comes to.
pub scans_after : {σ σ1 σ2 : Standing} (heap n : ℕ) (found : Option ℕ) (tells : Bool) (claim : ClaimsNamed (large_directory heap) n found σ σ1 None)
    → CanCall σ (MayFind (large_directory heap)) → IsValid σ.seat.profile → heap < σ.seat.profile.heaps → (tells ≡ true → Tells σ2)
    → (tells ≡ true → (v : View) (l : Whole) → σ.stands v l → part σ.seat.actor l ≡ v) → (answer : Result Block NoRoom)
    → AllocatesByScan heap n tells σ1 σ2 answer → AllocatesLarge heap n found tells σ σ2 answer
scans_after {σ} {σ1} heap n found tells claim can valid lt laws parts answer scan =
    let f : Profile = σ.seat.profile in
    let d = large_directory heap in
    let rest : List Made = scan.after ++ scan.searched in
    let same : σ1.seat.profile ≡ f = ap (λ (s : Seat). s.profile) claim.adds.seat_is in
    let k = length-append rest claim.steps in let a = scan.few in let b = claim.outcome.few in let e = ap (λ x. x.pages) same in
    let adds = adds_call claim.adds scan.adds (λ v l stood met. let agreed = claim.adds.agreed v l stood met in find_again _ d v _ met agreed (claim.outcome.still.from v met agreed)) in
    let own = subst (λ f. MatchResult answer (IsAllocatedLarge f d n scan.searched scan.after) (IsRefusedLarge f d n scan.searched scan.after)) same scan.outcome in
    let outcome : IsOutcome f d n found claim.steps rest answer = inr (record {
      misses = claim.outcome;
      searched = scan.searched;
      after = scan.after;
      rest_is = refl;
      kinds = scan.kinds;
      returns = scan.returns;
      shows = subst (λ f. OnlyDeedsShow f scan.searched) same scan.shows;
      looked = λ why is. subst (λ f. LooksAlone f d scan.searched) same (scan.looked why is);
      own = own;
      outcome = whole_call heap n found claim can.view scan.searched scan.after (adds.agreed can.view can.whole can.stood can.met) answer own;
    }) in
    record {
      tried = claim.steps;
      rest = rest;
      adds = adds;
      old = claim.old;
      returns = claim.returns;
      shows = claim.shows;
      few = omega (arith, k, a, b, e);
      told = λ t v l stood met. told_by_door f σ.seat.actor l d n found claim.steps rest claim.old claim.returns (legal_after adds (laws t) v l stood met)
          (subst (MayFind d) (sym (parts t v l stood)) met) valid (large_of f heap lt) answer outcome;
      outcome = outcome;
    }

-- A request whose actor went on alone is refused only where no run of usable pages was there.
pub request_alone : {σ σ' : Standing} (heap n : ℕ) (found : Option ℕ) (tells : Bool) (answer : Result Block NoRoom)
    → (call : AllocatesLarge heap n found tells σ σ' answer) → (l : Whole) → IsValid σ.seat.profile → heap < σ.seat.profile.heaps
    → Legal σ.seat.profile (triples σ.seat.actor (call.rest ++ call.tried) ++ l) → MayFind (large_directory heap) (part σ.seat.actor l)
    → FindsTheRunThereIs σ.seat.profile (large_directory heap) n found l (call.rest ++ call.tried) answer
request_alone {σ} heap n found tells answer call l valid lt legal met =
    let f = σ.seat.profile in
    let k = σ.seat.actor in
    let d = large_directory heap in
    let of = large_of f heap lt in
    let steps : List Made = call.rest ++ call.tried in
    let refused : (why : NoRoom) → answer ≡ Err why → IsToldLarge f d n l (triples k steps ++ l) (Err why) × OwnLacks k d (triples k steps ++ l)
    = λ why is. refused_alone f k l d n found call.tried call.rest call.old call.returns legal met valid of why (subst (IsOutcome f d n found call.tried call.rest) is call.outcome) in
    record {
      by_door = goes_by_door f k l d n found call.tried call.rest call.old call.returns legal met tt answer call.outcome;
      none_usable = λ why is. (refused why is).0.0;
      not_held = λ rest page is.
          let told = refused (Held page) is in
          let space = none_held_there f k d (triples k steps ++ l) (Held page) of legal told.1
          (λ j p ne. ap (λ v. has_right v p) (part_of_others j k steps l ne) ∙ rest.rights p j) told.0.2 in cc;
    }
