-- What takes and puts leave: the takes of the page, and grains that aren't held. And slots that are given up.
use Rattle.std.proofs.Common.{◌≡◌, ℕ, zero, suc, ◌/◌, ◌%◌, ◌==◌, Bool, true, false, if◌then◌else◌, List, [], ◌∷◌, ◌++◌, refl, ap, sym, ◌∙◌, subst, arith, inl}
use Rattle.std.proofs.{Common.{append_assoc, length-append, ◌&&◌, eq-eqb, ◌<◌, None, Some, Ok, Err, true≢false, Result, MatchResult}, lemmas.Bool.and_from}
use Rattle.std.proofs.lemmas.Bool.{cond_both}
use Rattle.pas_bits.specs.{Masks.{is_set, IsEmpty, HasMember}, declared.mask.Mask4.Mask4}
use Rattle.pas_profile.specs.{declared.{directory.{Directory.Directory, Kind.Kind}, event.NoRoom.NoRoom, profile.Profile.Profile}, Classes.IsClass}
use Rattle.pas_profile.{specs.{Classes.IsSlotStart, Directories.IsKind, Profiles.{IsValid, IsDirectoryOf}}, proofs.Sizes.{class_grains_positive, slot_lt}}
use Rattle.pas_rights.specs.{Leaves.{MayLeave, Leaves}, Puts.masked, Takes.{word_take, takes, taken}, PutsBack.{giving_back, MayPutAndReturn, given_back}}
use Rattle.pas_rights.specs.PutsBack.{PutsAndReturns}
use Rattle.pas_steps.specs.{Calls.{Calls, Kept, Lost, later, ClearAfter, Does, Gained, now, Leads}, Desks.{made, Standing, CanCall, Makes, triples}}
use Rattle.pas_steps.specs.{Evidence.{GetsRight, IsAntitone}, Frames.IsOnPage, Lists.{Whole, part, Legal}, Kinds.{Kinds, Deeding, Taking, Giving, Ending}}
use Rattle.pas_steps.specs.{Kinds.{Claiming, kind_of, is_in, Only, returning}, Views.{View, grain_move, held_after, holds, KnowsDeed, has_right}}
use Rattle.pas_steps.{specs.declared.step.{Made.Made, Step.{Step, TheVariants.{Take, Back}}}, proofs.Apart.{only_both, same_over, holds_over, only_within}}
use Rattle.pas_steps.proofs.{Called.{call_as, call_then, next_call, call_knows}, Calls.{does_then, does_as, returns_are, kept_first, leads_as}}
use Rattle.pas_steps.proofs.{Frames.returns_on, Past.always_both, Sets.kept_kept}
use Rattle.pas_search.specs.{Serving.{IsJustGot, ServesPage}, Searches.{MaySearch, Searches, IsRefused}, Alone.FindsWhatThereIs, declared.serving.Served.Served}
use Rattle.pas_search.proofs.{TheBestPage.found_call, FindingAPage.{IsFoundOrRefused, found_before}, Pages.{Prepares, on_page, leaves_page, keeps_page}}
use Rattle.pas_segregated.specs.{Stops.{in_slots, AreGrains, MayStopAt, LeavesWhere, of_slots, StopsAt, class_directory}, Takes.{takes_after, takes_since}}
use Rattle.pas_segregated.specs.{Takes.{in_starts, TakesSlots, exclusive}, declared.slots.Slots.Slots, Masks.start_of, Refills.{exclusive_slots, GetsSlots}}
use Rattle.pas_segregated.{specs.Refills.{Refills, Filling, GivesSlots}, proofs.Starts.{start_at, start_below}}

-- ---- the takes
abbrev counted : Kinds
counted = Deeding ∷ Taking ∷ Claiming ∷ []

not_counted : (page : ℕ) (s : Step) (a : ℕ) (before : List Made) → is_in counted (kind_of s) ≡ false → takes_after page s a before ≡ before
not_counted page s a before h = search arith

-- Steps that give back leave the takes of a page as they were.
pub takes_kept_by_giving_back : (page : ℕ) (steps before : List Made) → Only giving_back steps → takes_since page (steps ++ before) ≡ takes_since page before
takes_kept_by_giving_back page = same_over (takes_since page) counted giving_back (λ m before h. not_counted page m.step m.answer (takes_since page before) h) refl

-- takes of the page are counted
word_count : (page word mask a : ℕ) (t : Bool) (before : List Made)
    → takes_since page ((if t then [] else made (Take page word mask) a ∷ []) ++ before)
    ≡ (if t then [] else made (Take page word mask) a ∷ []) ++ takes_since page before
word_count page word mask a t before = search (arith, eq-eqb)

-- Takes that come first on a page are all its takes since its right was got.
pub takes_are_all_since : (page : ℕ) (masks answers : ℕ → ℕ) (n : ℕ) (before : List Made) → takes_since page before ≡ []
    → takes_since page (takes page masks answers n ++ before) ≡ takes page masks answers n
takes_are_all_since page masks answers zero before none = none
takes_are_all_since page masks answers (suc n) before none = let here = word_take page n (masks n) (answers n) in let rest = takes page masks answers n in
    ap (takes_since page) (append_assoc here rest before) ∙ word_count page n (masks n) (answers n) (masks n == 0) (rest ++ before) ∙ ap (λ ts. here ++ ts) (takes_are_all_since page masks answers n before none)

-- none was made when the right was just got
got_none : (page : ℕ) (s : Step) (a : ℕ) (before : List Made) → GetsRight page s a → takes_after page s a before ≡ []
got_none page s a before given = search (arith, and_from, eq-eqb)

-- A page that was just got has no takes yet.
pub none_yet : (page : ℕ) (before : List Made) → IsJustGot page before → takes_since page before ≡ []
none_yet page before newest = search (arith, got_none)

-- ---- grains that aren't held
abbrev getting : Kinds
getting = Taking ∷ Giving ∷ Ending ∷ []

not_got : (s : Step) (a g : ℕ) (had : Bool) → is_in getting (kind_of s) ≡ false → had ≡ false → held_after (grain_move s a g) had ≡ false
not_got s a g had h given = search (arith, cond_both)

-- Steps that give back hold no grain more.
pub back_holds : (g : ℕ) (steps : List Made) (v : View) → Only giving_back steps → holds v g ≡ false → holds (steps ++ v) g ≡ false
back_holds g = holds_over (λ v. holds v g ≡ false) getting giving_back (λ m v h none. not_got m.step m.answer g (holds v g) h none) refl

-- whether a grain is held afterwards hangs on nothing else of what stood before
pub same_after : (g : ℕ) (steps : List Made) (u v : View) → holds u g ≡ holds v g → holds (steps ++ u) g ≡ holds (steps ++ v) g
same_after g [] u v e = e
same_after g (m ∷ more) u v e = ap (held_after (grain_move m.step m.answer g)) (same_after g more u v e)

-- ---- slots
-- a right that is given up, where it is
left_right : (r t : Bool) → r ≡ true → later Kept (if t then Lost else Kept) ≡ (if r && t then Lost else Kept)
left_right r t has = kept_first (if t then Lost else Kept) ∙ ap (λ x. if x && t then Lost else Kept) (sym has)

module _ (d : Directory) (slots : Slots) (mask : Mask4) (are : AreGrains slots mask) where
  same_grains : (g : ℕ) → masked slots.page mask g ≡ in_slots slots g
  same_grains g = ap (λ t. (slots.page == g / 256) && t) (are (g % 256) (omega arith))

  may_put_back : (v : View) → MayStopAt d slots v → MayPutAndReturn slots.page d mask v
  may_put_back v met = record { deed = met.deed; puts = record { held = λ g here. met.held g (sym (same_grains g) ∙ here); stamped = (met.clear.on slots.page).stamped } }

  -- The grains of slots that may be stopped may be put back.
  pub can_put_back : {σ : Standing} → CanCall σ (MayStopAt d slots) → CanCall σ (MayPutAndReturn slots.page d mask)
  can_put_back can = record { view = can.view; whole = can.whole; stood = can.stood; met = may_put_back can.view can.met }

  module _ {σ σ1 : Standing} (back : PutsAndReturns slots.page d mask σ σ1) where
    -- the grains are gone, and the deed is known still
    back_call : Calls σ σ1 (MayStopAt d slots) (λ v w. Does (given_back (in_slots slots)) v w × KnowsDeed slots.page d w) back.steps
    back_call = call_knows slots.page d (call_as (Does (given_back (in_slots slots))) back.calls may_put_back (λ v w met does. does_as
        (given_back (in_slots slots)) does (λ g. inl (ap (λ t. if t then Lost else Kept) (same_grains g))) (λ q. refl) (λ q h. h))) (λ v met. met.deed)

    -- Slots without a right that were put back are stopped.
    pub stops_without : slots.right ≡ false → StopsAt d slots σ σ1
    stops_without none = record {
      steps = back.steps;
      calls = call_as (Does (of_slots slots Lost)) back_call (λ v met. met) (λ v w met after. does_as (of_slots slots Lost) after.0 (λ g. inl refl)
          (λ q. ap (λ t. if t && (slots.page == q) then Lost else Kept) (sym none)) (λ q h. h));
      order = record { mask = mask; grains = are; back = back.steps; puts = back.order; left = []; leaves = subst (λ t. LeavesWhere t slots.page d []) (sym none) refl; steps_are = refl };
      kinds = back.kinds;
      on = back.on;
      few = omega (arith, back.few);
    }

    -- the page was left
    may_leave : slots.right ≡ true → (v w : View) → MayStopAt d slots v → Does (given_back (in_slots slots)) v w × KnowsDeed slots.page d w
        → MayLeave slots.page d w
    may_leave has v w met after = record { right = after.0.right slots.page ∙ met.right has; deed = after.1 }

    -- The page of slots with its right may be left once they are put back.
    pub can_leave : slots.right ≡ true → CanCall σ (MayStopAt d slots) → CanCall σ1 (MayLeave slots.page d)
    can_leave has can = next_call back_call can (λ v met after. may_leave has v (back.steps ++ v) met after)

    -- Slots with a right that were put back, and whose page was left, are stopped.
    pub stops_with : {σ2 : Standing} → slots.right ≡ true → Leaves slots.page d σ1 σ2 → StopsAt d slots σ σ2
    stops_with has left = record {
      steps = left.steps ++ back.steps;
      calls = call_then (Does (of_slots slots Lost)) back_call left.calls (λ v met after. may_leave has v (back.steps ++ v) met after)
          (λ v met a b. does_as (of_slots slots Lost) (does_then a.0 b.does) (λ g. inl refl) (λ q. left_right slots.right (slots.page == q) has)
          (λ q h. subst (λ t. ClearAfter t q v (left.steps ++ (back.steps ++ v))) (kept_kept (slots.page == q)) h));
      order = record { mask = mask; grains = are; back = back.steps; puts = back.order; left = left.steps; leaves = subst (λ t. LeavesWhere t slots.page d left.steps) (sym has) left.order; steps_are = refl };
      kinds = only_both giving_back left.steps back.steps (only_within returning giving_back left.steps refl (returns_are slots.page left.steps left.returns)) back.kinds;
      on = always_both (λ m before. IsOnPage slots.page m.step) (λ m before. IsOnPage slots.page m.step) left.steps back.steps (λ m before h. h) (returns_on slots.page left.steps left.returns) back.on;
      few = let all = length-append left.steps back.steps in omega (arith, all, left.few, back.few);
    }

-- ---- the slots
pub class_of : (class : ℕ) (d : Directory) → IsKind d.kind → d.kind ≡ Kind.Class class → IsClass class
class_of class d known same = subst IsKind same known

module _ (class page : ℕ) (d : Directory) (is : IsClass class) (starts : Mask4) {σ σ1 : Standing} (took : TakesSlots class page d σ σ1 starts) where
  -- a grain that is taken is of some slot
  pub has_slot : (b : ℕ) × (b < 256) × (in_starts class starts b ≡ true) → HasMember starts
  has_slot some = let at = start_below class some.0 is in (start_of class some.0, omega (arith, at.0, some.1), some.2)

  abbrev pub prepared : Prepares page d (is_set took.answers) (in_starts class starts) σ σ1
  prepared = record {
    steps = took.steps;
    calls = call_as (Does (taken (on_page page (in_starts class starts)))) took.calls (λ v met. met) (λ v w met gets. gets.does);
    kinds = took.kinds;
    on = took.on;
    keeps = took.keeps;
    read = took.read;
    held = took.held;
    due = took.due;
    marks = λ some. took.marks (has_slot some);
  }

  -- no slot is whole
  pub leaves_slots : {σ2 : Standing} → IsEmpty starts → Leaves page d σ1 σ2 → ServesPage (exclusive class) page d σ σ2 None
  leaves_slots empty left = leaves_page (exclusive class) page d (is_set took.answers) (in_starts class starts) prepared
      (λ b lt. let at = start_below class b is in empty (start_of class b) (omega (arith, at.0, lt)))
      (λ s slot free. true≢false (sym ((took.are s).1 (slot, free)) ∙ empty s (slot_lt class s is slot)))
      (λ before got. took.none before got.none empty)
      (λ v met agreed free. let some = took.all_free v agreed free in true≢false (sym some.2 ∙ empty some.0 some.1))
      (omega (arith, took.few)) left

  -- some slot is
  module _ (some : HasMember starts) where
    first_slot_is : IsSlotStart class some.0
    first_slot_is = ((took.are some.0).0 some.2).0

    -- Slots that were taken have some grain of the page.
    pub some_grain : (b : ℕ) × (b < 256) × (in_starts class starts b ≡ true)
    some_grain = let more = class_grains_positive class is in (some.0, some.1, ap (is_set starts) (start_at class some.0 some.0 first_slot_is (omega arith) (omega (arith, more))) ∙ some.2)

    -- A page whose slots were taken, and which was backed, serves and keeps them.
    pub keeps_slots : {σ2 : Standing} (a : ℕ) → Makes σ1 σ2 (Back page) a → ServesPage (exclusive class) page d σ σ2 (Some starts)
    keeps_slots a back = keeps_page (exclusive class) page d (is_set took.answers) (in_starts class starts) prepared some_grain starts
        (λ b lt. refl) refl a back (λ none. none some.0 first_slot_is ((took.are some.0).0 some.2).1)
        (λ b lt kept. let at = start_below class b is in ((took.are (start_of class b)).0 kept).1 b at.0 at.1)
        (λ before got. record { usable = took.usable; usable_are = took.usable_are; answers = took.answers; takes = took.takes before got.newest; are = took.are; some = some })
        (omega arith) (omega (arith, took.few))

-- ---- what a search found
module _ (heap class : ℕ) {tells : Bool} {σ σ' : Standing} (served : Served Mask4)
    (searches : Searches (exclusive class) tells (class_directory heap class) σ σ' (Ok served)) where
  gets_slots : Leads σ.seat.profile (MaySearch (class_directory heap class))
      (GetsSlots (class_directory heap class) (record { page = served.page; heap = heap; class = class; starts = served.found; right = true })) searches.steps
  gets_slots = leads_as (found_call (exclusive class) (class_directory heap class) served searches).leads (λ v met. met) (λ v w met kept. let does = kept.found.keeps.does in record {
    does = record { held = does.held; right = does.right; clear = does.clear; backed = does.backed };
    apart = kept.apart;
    backed = kept.found.keeps.backed;
    may_stop = record {
      clear = record { on = λ page. does.clear page (met.clear.on page) };
      held = λ g here. does.held g ∙ ap (λ t. now (if t then Gained else Kept) (holds v g)) here;
      deed = kept.found.deed;
      right = λ has. does.right served.page ∙ ap (λ t. now (if t then Gained else Kept) (has_right v served.page)) (eq-eqb served.page served.page refl);
    };
  })

  -- Slots that a search of exclusive pages found are a refill with the page's right.
  pub refills_ok : Refills (exclusive_slots heap class) tells σ σ'
      (Ok (record { page = served.page; heap = heap; class = class; starts = served.found; right = true }))
  refills_ok = record {
    searched = searches.steps;
    searches = searches.searches;
    few = searches.few;
    after = [];
    adds = searches.adds;
    outcome = search (arith, gets_slots);
    told = searches.told;
  }

-- A search of exclusive pages that was refused is a refused refill.
pub refills_err : (heap class : ℕ) {tells : Bool} {σ σ' : Standing} (room : NoRoom)
    → Searches (exclusive class) tells (class_directory heap class) σ σ' (Err room) → Refills (exclusive_slots heap class) tells σ σ' (Err room)
refills_err heap class room searches = record { searched = searches.steps; searches = searches.searches; few = searches.few; after = []; adds = searches.adds; outcome = (searches.outcome, refl); told = searches.told }

-- A refill whose actor alone made steps meanwhile.
found_or_refused : (fill : Filling) (f : Profile) (searched after : List Made) (answer : Result Slots NoRoom)
    → MatchResult answer (GivesSlots fill f searched after) (λ room. IsRefused fill.no_fit f fill.directory searched room × (after ≡ []))
    → IsFoundOrRefused fill.no_fit f fill.directory searched answer
found_or_refused fill f searched after answer gives = search arith

-- A refill whose actor went on alone finds what there is.
pub refill_alone : {σ σ' : Standing} (fill : Filling) (tells : Bool) (answer : Result Slots NoRoom) → (call : Refills fill tells σ σ' answer) → (l : Whole)
    → IsValid σ.seat.profile → IsDirectoryOf σ.seat.profile fill.directory → IsAntitone fill.no_fit
    → Legal σ.seat.profile (triples σ.seat.actor (call.after ++ call.searched) ++ l) → MaySearch fill.directory (part σ.seat.actor l)
    → FindsWhatThereIs fill.no_fit σ.seat.profile fill.directory l answer
refill_alone {σ} fill tells answer call l valid of fewer legal may =
    let f = σ.seat.profile in
    found_before fill.no_fit f fill.directory σ.seat.actor l call.after call.searched valid of fewer legal call.searches may answer (found_or_refused fill f call.searched call.after answer call.outcome)
