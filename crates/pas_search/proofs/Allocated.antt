-- A block is given of the run that a search found, and then the page is left.
use Rattle.std.proofs.Common.{◌≡◌, ℕ, ◌+◌, ◌*◌, ◌/◌, ◌%◌, ◌^◌, ◌<◌, ◌≤◌, ◌==◌, Bool, true, false, ◌&&◌, List, [], ◌++◌, length, Some, None, Result, Ok, Err}
use Rattle.std.proofs.{Common.{refl, ap, sym, ◌∙◌, subst, arith, inl, inr, append_assoc, length-append, true≢false, eq-eqb, eqb-true}, lemmas.Bool.and_parts}
use Rattle.std.proofs.lemmas.Bool.{and_from}
use Rattle.pas_profile.specs.{Profiles.{IsDirectoryOf, IsValid}, Blocks.{address_of, grain_of, length_of}, declared.directory.Directory.Directory}
use Rattle.pas_profile.specs.declared.{event.NoRoom.NoRoom, name.Block.Block, profile.Profile.Profile}
use Rattle.pas_bits.{specs.Runs.in_run, proofs.Runs.to_run}
use Rattle.pas_rights.{specs.{Gives.{MayGive, block_of, give_steps, GaveRun, GivesRun}, Leaves.{MayLeave, Leaves}}, proofs.Gives.{may_give_on, covers}}
use Rattle.pas_steps.specs.{Calls.{Calls, Gained, now, Does}, Desks.{Seat, Standing, Adds, CanCall, triples}, Unknown.HasRoom, Events.{events_of, events_by}}
use Rattle.pas_steps.specs.{Kinds.returning, Views.{View, holds, KnowsDeed}, Evidence.IsAntitone, Lists.{Whole, part, Legal}, declared.step.Made.Made}
use Rattle.pas_steps.proofs.{Adding.room_left, Apart.events_same, Calls.{does_as, does_then, returns_are}, Frames.events_split, Sets.same_truth}
use Rattle.pas_steps.proofs.{SpareRoom.Spares, Called.{call_as, call_knows, call_then, next_call}}
use Rattle.pas_search.specs.{Kinds.deeds_made, Serving.right_of, ByRank.AllocatesByRank, Alone.FindsWhatThereIs, Choices.Choice, Placements.Placement}
use Rattle.pas_search.specs.{Placements.{IsPlacement, IsFit, placed, by_run, placing}, Searches.{MaySearch, SearchRoom, Finds, search_steps, Searches}}
use Rattle.pas_search.specs.{Ranks.{Measure, RankRoom, TriesBest, FromSurvey}, declared.{serving.Served.Served, placing.Run.Run}, Allocates.GaveBlock}
use Rattle.pas_search.{specs.Allocates.{GivesFound, AllocatesRun}, proofs.TheBestPage.{falls_back, adds_then, stood_then, KeepsNew, finds_call, finds_as}}
use Rattle.pas_search.proofs.{TheBestPage.left_after, Pages.placed_fits, FindingAPage.found_before}

room_for_one : (f : Profile) (spare : ℕ) (v : View) → HasRoom f 2 spare v → HasRoom f 1 spare v
room_for_one f spare v room = (omega (arith, room.0), elim room.1 [ inl all ↦ inl all | inr more ↦ inr (omega (arith, more)) ])

-- Who has room for a search and two events has it for a search and one.
pub room_to_search : {σ : Standing} {f : Profile} {d : Directory} {spare : ℕ} → CanCall σ (SearchRoom f d 2 spare) → CanCall σ (SearchRoom f d 1 spare)
room_to_search {f = f} {spare = spare} can =
    record { view = can.view; whole = can.whole; stood = can.stood; met = record { may = can.met.may; room = room_for_one f spare can.view can.met.room } }

abbrev pub may_search : {σ : Standing} {d : Directory} {n spare : ℕ} → CanCall σ (SearchRoom σ.seat.profile d n spare) → CanCall σ (MaySearch d)
may_search can = record { view = can.view; whole = can.whole; stood = can.stood; met = can.met.may }

module _ (p : Placement) (is : IsPlacement p) (asked : p.asked) (d : Directory) {So : List Made → Type 0} {σ σ1 : Standing}
    (of_profile : IsDirectoryOf σ.seat.profile d) (served : Served Run) {xs : List Made} (adds : Adds σ σ1 (MaySearch d) xs)
    (finds : Finds (placing p) σ.seat.profile d So xs served) where
  abbrev page : ℕ
  page = served.page

  abbrev run : Run
  run = served.found

  abbrev first : ℕ
  first = run.first

  abbrev n : ℕ
  n = run.grains

  -- What a search found by a placement is a run on its page.
  pub is_run : IsFit p.no_fit finds.serves.readings served.found
  is_run = placed_fits p is asked finds.serves.readings run finds.serves.chosen

  -- the run's grains, by their numbers in the region
  in_region : (g : ℕ) → ((page == g / 256) && in_run first n (g % 256)) ≡ in_run (page * 256 + first) n g
  in_region g = search (arith, same_truth, and_parts, eqb-true, to_run, is_run, and_from, eq-eqb)

  new_call : Calls σ σ1 (MaySearch d) (KeepsNew (placing p) d served) xs
  new_call = finds_call (placing p) d served adds finds

  -- The run that a search found lies within the region.
  pub run_within : served.page * 256 + served.found.first + served.found.grains ≤ 256 * (σ1.seat.profile.pages + 1)
  run_within = search (arith, is_run)

  -- The block of the run that a search found may be given.
  pub can_give : {spare : ℕ} → CanCall σ (SearchRoom σ.seat.profile d 2 spare)
      → CanCall σ1 (MayGive σ1.seat.profile d.heap served.page served.found.first served.found.grains)
  can_give can = next_call new_call (may_search can) (λ v met kept. search (arith, may_give_on, is_run, in_region))

  -- After the search there is room for the event of the give.
  pub room_to_give : {spare spare1 : ℕ} → deeds_made xs ≤ 1 → Spares σ spare → Spares σ1 spare1 → CanCall σ (SearchRoom σ.seat.profile d 2 spare) → 1 ≤ spare1
  room_to_give {spare} {spare1} made law law' can =
      let k : ℕ = σ.seat.actor in
      let now : spare + length (events_of k can.view) ≡ σ.seat.room = law can.view can.whole can.stood in
      let split : length (events_of k (xs ++ can.view)) ≡ length (events_by k can.view xs) + length (events_of k can.view)
      = ap length (events_split k xs can.view) ∙ length-append (events_by k can.view xs) (events_of k can.view) in
      let few = finds.few k can.view (adds.agreed can.view can.whole can.stood can.met.may) in
      let two : 2 ≤ spare = can.met.room.0 in
      let fits : length (events_by k can.view xs) + 1 ≤ spare = search (arith, few.1) in
      room_left {spare = spare1} 1 adds (may_search can) law' (omega (arith, now, split, fits))

  module _ {σ2 : Standing} (block : Block) (gives : GivesRun d.heap served.page served.found.first served.found.grains block σ1 σ2) where
    abbrev given : List Made
    given = give_steps page first block gives.word gives.answer

    record Gave (v w : View) : Type 0 where
      does : Does (right_of page Gained) v w
      apart : (g : ℕ) → in_run (grain_of block.name) (length_of block) g ≡ true → holds v g ≡ false
      turn : block.name.turn < 2 ^ 37

    give_call : Calls σ1 σ2 (λ v. MayGive σ1.seat.profile d.heap page first n v
        × KnowsDeed page d v) (λ v w. GaveRun page first n block v w × KnowsDeed page d w) given
    give_call = call_knows page d (call_as (GaveRun page first n block) gives.calls (λ v met. met.0) (λ v w met gave. gave)) (λ v met. met.1)

    gave_call : Calls σ σ2 (MaySearch d) (λ v w. Gave v w × KnowsDeed page d w) (given ++ xs)
    gave_call = call_then (λ v w. Gave v w × KnowsDeed page d w) new_call give_call
        (λ v met kept. ((search (arith, may_give_on, is_run, in_region)), kept.found.deed))
        (λ v met kept gave. search (arith, does_as, does_then, true≢false, in_region, covers, kept.apart))

    may_leave : (v : View) → MaySearch d v → Gave v ((given ++ xs) ++ v) × KnowsDeed page d ((given ++ xs) ++ v) → MayLeave page d ((given ++ xs) ++ v)
    may_leave v met gave = search (arith, eq-eqb)

    -- After its block was given, the page may be left.
    pub can_leave : {spare : ℕ} → CanCall σ (SearchRoom σ.seat.profile d 2 spare) → CanCall σ2 (MayLeave served.page d)
    can_leave can = next_call gave_call (may_search can) may_leave

    module _ {σ3 : Standing} (left : Leaves served.page d σ2 σ3) where
      abbrev after : List Made
      after = left.steps ++ given

      whole_call : Calls σ σ3 (MaySearch d) (GaveBlock page d block) (after ++ xs)
      whole_call = subst (Calls σ σ3 (MaySearch d) (GaveBlock page d block)) (sym (append_assoc left.steps given xs))
          (call_then (GaveBlock page d block) gave_call (call_knows page d left.calls (λ v may. may.deed)) may_leave
          (λ v met gave b. search (arith, left_after)))

      page_is : address_of block.name / 4096 ≡ served.page
      page_is = ap (λ (b : Block). address_of b.name / 4096) gives.block_is ∙ omega (arith, is_run.within, is_run.some)

      given_adds : Adds σ σ3 (MaySearch d) ((left.steps ++ give_steps served.page served.found.first block gives.word gives.answer) ++ xs)
      given_adds = whole_call.adds

      -- The block of the run was given, where the page was chosen so.
      given_run : (How : ℕ → List Made → Type 0) → How served.page xs
          → GivesFound (placed p) p.run σ.seat.profile d How xs (left.steps ++ give_steps served.page served.found.first block gives.word gives.answer) block
      given_run How chosen =
          let it = finds.serves.chosen in
          let block_as : block ≡ block_of d.heap page (p.run it.found).first (p.run it.found).grains gives.word
          = gives.block_is ∙ ap (λ (x : Run). block_of d.heap page x.first x.grains gives.word) it.run_is in
          record {
            page = page;
            found = it.found;
            served = finds_as (by_run p) p.chosen _ page run it.found (λ g lt. ap (λ (x : Run). in_run x.first x.grains g) it.run_is) finds it.chosen chosen;
            word = gives.word;
            answer = gives.answer;
            left = left.steps;
            after_is = ap (λ (x : Run). left.steps ++ give_steps page x.first block gives.word gives.answer) it.run_is;
            leaves = left.order;
            few = let sum = length-append left.steps given in omega (arith, sum, left.few);
            block_is = block_as;
            address_is = ap (λ (b : Block). address_of b.name) block_as;
            room_is = ap (λ (b : Block). b.room) block_as;
            gave = whole_call.leads;
            events = λ k v. ap (events_by k v) (append_assoc left.steps given xs) ∙ events_same returning refl k v left.steps _ (returns_are page left.steps left.returns);
          }

-- ---- by a search
pub one_deed : (p : Placement) (d : Directory) {tells : Bool} {σ σ1 : Standing} (served : Served Run)
    (searches : Searches (placing p) tells d σ σ1 (Ok served)) → deeds_made searches.steps ≤ 1
one_deed p d {σ = σ} served searches = search arith

-- A run that was found, given and left is allocated.
pub allocates : (p : Placement) (is : IsPlacement p) (asked : p.asked) (d : Directory) {tells : Bool}
    {σ σ1 σ2 σ3 : Standing} (of_profile : IsDirectoryOf σ.seat.profile d) (served : Served Run)
    (searches : Searches (placing p) tells d σ σ1 (Ok served)) (block : Block)
    → GivesRun d.heap served.page served.found.first served.found.grains block σ1 σ2 → Leaves served.page d σ2 σ3
    → AllocatesRun (placed p) p.run d tells σ σ3 (Ok block)
allocates p is asked d {σ = σ} of_profile served searches block gives left = record {
  searched = searches.steps;
  searches = searches.searches;
  few = searches.few;
  after = left.steps ++ give_steps served.page served.found.first block gives.word gives.answer;
  adds = given_adds p is asked d of_profile served searches.adds searches.outcome block gives left;
  outcome = given_run p is asked d of_profile served searches.adds searches.outcome block gives left _ searches.outcome.choice;
  told = λ t v l stood met. rw (page_is p is asked d of_profile served searches.adds searches.outcome block gives left) (searches.told t v l stood met);
}

-- A search that was refused allocates nothing, for its reason.
pub refuses : (p : Placement) (d : Directory) {tells : Bool} {σ σ1 : Standing} (why : NoRoom)
    → Searches (placing p) tells d σ σ1 (Err why) → AllocatesRun (placed p) p.run d tells σ σ1 (Err why)
refuses p d why searches = record { searched = searches.steps; searches = searches.searches; few = searches.few; after = []; adds = searches.adds; outcome = (searches.outcome, refl); told = searches.told }

-- ---- by a rule over pages
pub room_to_try : {σ : Standing} {f : Profile} {d : Directory} {spare : ℕ} → CanCall σ (RankRoom f d 2 spare) → CanCall σ (RankRoom f d 1 spare)
room_to_try {f = f} {spare = spare} can =
    record { view = can.view; whole = can.whole; stood = can.stood; met = record { may = can.met.may; room = room_for_one f spare can.view can.met.room } }

pub room_to_use : {σ : Standing} {f : Profile} {d : Directory} {n spare : ℕ} → CanCall σ (RankRoom f d n spare) → CanCall σ (SearchRoom f d n spare)
room_to_use can = record { view = can.view; whole = can.whole; stood = can.stood; met = record { may = can.met.may.may; room = can.met.room } }

pub no_deed : (p : Placement) (d : Directory) {ranks : Measure} {tells : Bool} {σ σ1 : Standing} (served : Served Run)
    (tries : TriesBest (placing p) ranks tells d σ σ1 (Some served)) → deeds_made tries.steps ≤ 1
no_deed p d served tries = omega (arith, tries.outcome.choice.no_deed)

pub allocates_best : (p : Placement) (is : IsPlacement p) (asked : p.asked) (d : Directory)
    {ranks : Measure} {tells : Bool} {σ σ1 σ2 σ3 : Standing} (of_profile : IsDirectoryOf σ.seat.profile d)
    (served : Served Run) (tries : TriesBest (placing p) ranks tells d σ σ1 (Some served)) (block : Block)
    → GivesRun d.heap served.page served.found.first served.found.grains block σ1 σ2 → Leaves served.page d σ2 σ3
    → AllocatesByRank (placed p) p.run ranks d tells σ σ3 (Ok block)
allocates_best p is asked d {ranks} {σ = σ} of_profile served tries block gives left = inl (
  block,
  refl,
  record {
    searched = tries.steps;
    searches = tries.searches;
    few = tries.few;
    after = left.steps ++ give_steps served.page served.found.first block gives.word gives.answer;
    adds = given_adds p is asked d of_profile served tries.adds tries.outcome block gives left;
    given = given_run p is asked d of_profile served tries.adds tries.outcome block gives left (FromSurvey σ.seat.profile ranks d) tries.outcome.choice;
    told = λ t v l stood met. rw (page_is p is asked d of_profile served tries.adds tries.outcome block gives left) (tries.told t v l stood met);
  },
)

-- where the try came to nothing
pub allocates_then : (p : Placement) (d : Directory) {ranks : Measure} {tells : Bool} {σ σ1 σ2 : Standing} {answer : Result Block NoRoom}
    → TriesBest (placing p) ranks tells d σ σ1 None → AllocatesRun (placed p) p.run d tells σ1 σ2 answer
    → AllocatesByRank (placed p) p.run ranks d tells σ σ2 answer
allocates_then p d {answer = answer} tries a = let seat_is = tries.adds.seat_is in inr (falls_back tries (record {
  searched = a.searched;
  searches = a.searches;
  few = subst (λ (seat : Seat). length a.searched ≤ search_steps 15 seat.profile.pages) seat_is a.few;
  after = a.after;
  adds = adds_then tries a.adds;
  outcome = rw seat_is at a.outcome;
  told = λ t v l b met. rw seat_is at (a.told t v l (stood_then tries v l b) met);
}))

-- A request for a run whose actor went on alone finds what there is.
pub run_alone : {Found : Type 0} {σ σ' : Standing} (choice : Choice Found) (run : Found → Run) (d : Directory) (tells : Bool) (answer : Result Block NoRoom)
    → (call : AllocatesRun choice run d tells σ σ' answer) → (l : Whole)
    → IsValid σ.seat.profile → IsDirectoryOf σ.seat.profile d → IsAntitone choice.no_fit
    → Legal σ.seat.profile (triples σ.seat.actor (call.after ++ call.searched) ++ l) → MaySearch d (part σ.seat.actor l)
    → FindsWhatThereIs choice.no_fit σ.seat.profile d l answer
run_alone {σ = σ} choice run d tells answer call l valid of fewer legal may = search (arith, found_before)
