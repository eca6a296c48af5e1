-- The slots that the takes of a page got whole, and the grains that are put back.
use Rattle.std.proofs.Common.{◌≡◌, ◌≢◌, ℕ, ◌+◌, ◌*◌, ◌/◌, ◌%◌, ◌<◌, ◌==◌, Bool, true, false, not, ◌&&◌, if◌then◌else◌, List, [], ◌∷◌, ◌++◌, refl, ap, sym, ◌∙◌}
use Rattle.std.proofs.{Common.{subst, arith, inl, inr, append_assoc, length-append, true≢false, eq-eqb, lt-ltb}, lemmas.Bool.{cases_Bool, and_parts, and_from}}
use Rattle.std.proofs.lemmas.Bool.{and_right}
use Rattle.pas_profile.specs.{Classes.{IsClass, class_grains, usable_grains, is_usable, IsSlotStart}, declared.directory.Directory.Directory}
use Rattle.pas_profile.proofs.Sizes.{class_grains_positive, usable_grains_le, usable_grains_ge, first_slot}
use Rattle.pas_bits.{specs.{Bits.has_bit, Masks.{is_set, IsEmpty, HasMember}, declared.mask.Mask4.Mask4}, proofs.Words.{at_word, none_of_zero}}
use Rattle.pas_rights.specs.{Puts.{masked, PutsBelow, PutsHere}, Returns.ReturnSteps, Words.words, PutsBack.{MayPutAndReturn, giving_back, PutsAndReturns}}
use Rattle.pas_rights.{specs.{PutsBack.taking_grains, Takes.{GetsGrains, taken, TakesMask, takes}}, proofs.Puts.{due_none, back_due, puts_kinds, some_put}}
use Rattle.pas_rights.proofs.Puts.{return_holds, takes_only, takes_on, takes_keep, takes_few, takes_right, takes_leave, takes_got, takes_held, takes_free}
use Rattle.pas_rights.proofs.{Puts.takes_read, Orders.{return_returns, bit_of, bit_on, since_kept}}
use Rattle.pas_steps.specs.{Views.{View, holds, has_right}, Agreement.Agreed, Past.{Always, Since}, Frames.{IsOnPage, GivesUp, KeepsRight}, Desks.Seat}
use Rattle.pas_steps.specs.{Desks.{Standing, CanCall}, Evidence.{ShowsHere, KeptHere}, Calls.{Calls, Kept, Gained, Lost, later, now}, Kinds.{Putting, Taking}}
use Rattle.pas_steps.{specs.{Kinds.{Only, returning}, declared.step.Made.Made}, proofs.{Adding.{agreed_first, agreed_later}, Called.{call_as, call_then}}}
use Rattle.pas_steps.proofs.{Called.next_call, Past.{always_both, once_earlier}, Apart.{only_within, only_both, deeds_same, holds_same, rights_same}}
use Rattle.pas_steps.proofs.Calls.{SameGrain, does_then, does_as, returns_are}
use Rattle.pas_search.{specs.{Kinds.KeepsMarks, Serving.{MayServe, HoldsNone}}, proofs.PagesThatServe.{keeps_marks, marks_after}}
use Rattle.pas_segregated.specs.{Masks.start_of, Takes.{AreUsable, AreFreeSlots, IsRest, in_starts, slots_on, takes_since, TakesSlots}}
use Rattle.pas_segregated.proofs.{Starts.{start_at, start_below}, GivenUp.{takes_kept_by_giving_back, takes_are_all_since, none_yet, back_holds, same_after}}

-- What was got without the grains of the kept slots is the rest.
pub rest_is : (class : ℕ) (got starts kept others rest : Mask4) → ((g : ℕ) → is_set kept g ≡ is_set starts (start_of class g))
    → ((g : ℕ) → g < 256 → is_set others g ≡ not (is_set kept g)) → ((g : ℕ) → is_set rest g ≡ (is_set got g && is_set others g))
    → IsRest class got starts rest
rest_is class got starts kept others rest covers other both g lt = both g ∙ ap (λ t. is_set got g && t) (other g lt ∙ ap not (covers g))

-- what was got and not put back stays got; what was put back wasn't held before
kept_fate : (t k r held : Bool) → (t ≡ true → held ≡ false) → (k ≡ true → t ≡ true) → r ≡ (t && not k)
    → SameGrain (later (if t then Gained else Kept) (if r then Lost else Kept)) (if k then Gained else Kept) held
kept_fate t k r held given got is = search arith

-- ---- slots and readings
-- a slot's grains are usable
slot_usable : (class s g : ℕ) → IsSlotStart class s → g < s + class_grains class → is_usable class g ≡ true
slot_usable class s g slot lt = lt-ltb g (usable_grains class) (omega (arith, slot.within, lt))

slot_in : (class s g : ℕ) → IsClass class → IsSlotStart class s → g < s + class_grains class → g < 256
slot_in class s g is slot lt = let most = usable_grains_le class is in omega (arith, slot.within, lt, most)

-- ---- the whole call
module _ (class page : ℕ) (d : Directory) (is : IsClass class) {σ σ1 : Standing} (usable starts got rest : Mask4) (usable_are : AreUsable class usable)
    (took : TakesMask page usable σ σ1 got) (whole : AreFreeSlots class (is_set got) starts) (rests : IsRest class got starts rest) where
  abbrev first : List Made
  first = takes page (words usable) (words took.answers) 4

  -- each word has some usable grains
  some_word : (w : ℕ) → w < 4 → words usable w ≢ 0
  some_word w lt z = let most = usable_grains_ge class is in true≢false (sym (lt-ltb (64 * w + 0) (usable_grains class) (omega (arith, lt, most)))
      ∙ sym (usable_are (64 * w + 0) (omega (arith, lt))) ∙ at_word usable w 0 (omega arith) ∙ ap (λ m. has_bit m 0) z ∙ none_of_zero 0)

  read_of : (g : ℕ) → g < 256 → is_set got g ≡ (is_set took.answers g && is_usable class g)
  read_of g lt = took.got_is g ∙ ap (λ u. is_set took.answers g && u) (usable_are g lt)

  free_slots : AreFreeSlots class (is_set took.answers) starts
  free_slots s = (
    search (arith, and_parts, read_of, slot_in),
    λ both. (whole s).1 (
      both.0,
      λ g low high. read_of g (slot_in class s g is both.0 high) ∙ and_from (is_set took.answers g) (is_usable class g) (both.1 g low high) (slot_usable class s g both.0 high),
    ),
  )

  -- a grain of a whole slot was got, and the others of those that were are the rest
  kept_got : (g : ℕ) → slots_on page class starts g ≡ true → masked page got g ≡ true
  kept_got g h =
      let parts = and_parts (page == g / 256) (in_starts class starts (g % 256)) h in let at = start_below class (g % 256) is in
      and_from (page == g / 256) (is_set got (g % 256)) parts.0 (((whole (start_of class (g % 256))).0 parts.1).1 (g % 256) at.0 at.1)

  -- Of what was taken the rest is what isn't kept.
  others : (p t k r : Bool) → r ≡ (t && not k) → (p && r) ≡ ((p && t) && not (p && k))
  others p t k r h = search arith

  rest_is_other : (g : ℕ) → masked page rest g ≡ (masked page got g && not (slots_on page class starts g))
  rest_is_other g = others (page == g / 256) (is_set got (g % 256)) (in_starts class starts (g % 256)) (is_set rest (g % 256)) (rests (g % 256) (omega arith))

  rest_got : (g : ℕ) → masked page rest g ≡ true → masked page got g ≡ true
  rest_got g here = (and_parts (masked page got g) (not (slots_on page class starts g)) (sym (rest_is_other g) ∙ here)).0

  first_call : Calls σ σ1 (MayServe page d) (GetsGrains (masked page got)) first
  first_call = call_as (GetsGrains (masked page got)) took.calls (λ v met. met.right) (λ v w met gets. gets)

  may_put_back : (v : View) → MayServe page d v → GetsGrains (masked page got) v (first ++ v) → MayPutAndReturn page d rest (first ++ v)
  may_put_back v met gets = search (arith, deeds_same, takes_only, rest_got)

  -- The rest of a page's grains may be put back.
  pub can_put_back : CanCall σ (MayServe page d) → CanCall σ1 (MayPutAndReturn page d rest)
  can_put_back can = next_call first_call can may_put_back

  module _ {σ2 : Standing} (back : PutsAndReturns page d rest σ1 σ2) (can : CanCall σ (MayServe page d)) where
    all_call : Calls σ σ2 (MayServe page d) (GetsGrains (slots_on page class starts)) (back.steps ++ first)
    all_call = call_then (GetsGrains (slots_on page class starts)) first_call back.calls may_put_back (λ v met a b. record {
      does = does_as (taken (slots_on page class starts)) (does_then a.does b) (λ g. kept_fate (masked page got g) (slots_on page class starts g)
          (masked page rest g) (holds v g) (a.apart g) (kept_got g) (rest_is_other g)) (λ q. refl) (λ q h. h);
      apart = λ g here. a.apart g (kept_got g here);
    })

    -- by the answers of this very call
    at_view : Agreed σ.seat.profile can.view (back.steps ++ first)
    at_view = all_call.adds.agreed can.view can.whole can.stood can.met

    at_back : Agreed σ1.seat.profile (first ++ can.view) back.steps
    at_back = subst (λ (s : Seat). Agreed s.profile (first ++ can.view) back.steps) (sym first_call.adds.seat_is) (agreed_first σ.seat.profile can.view back.steps first at_view)

    back_keeps : KeepsRight page back.steps
    back_keeps = back.keeps (first ++ can.view) at_back (takes_right page (words usable) (words took.answers) 4 can.view can.met.right)

    -- where no slot is whole all that was got is put back
    all_back : (before : List Made) → HoldsNone page before → IsEmpty starts → (g : ℕ) → g / 256 ≡ page → holds (back.steps ++ (first ++ before)) g ≡ false
    all_back before none empty g at = elim (cases_Bool (masked page got g)) [
      | inr other ↦ back_holds g back.steps (first ++ before) back.kinds (takes_leave page usable took.answers got took.got_is g before other ∙ none g at)
      | inl here ↦ elim (cases_Bool (holds (first ++ before) g)) [
        | inr lost ↦ back_holds g back.steps (first ++ before) back.kinds lost
        | inl held ↦
            search (arith, first_call, agreed_later, at_view, may_put_back, at_back, same_after, rest_is_other, and_right, start_below)
      ]
    ]

    -- ---- some slot is kept: its first grain is held
    some_kept : (some : HasMember starts) → slots_on page class starts (page * 256 + some.0) ≡ true
    some_kept some =
        let lt = some.1 in let slot = ((whole some.0).0 some.2).0 in let more = class_grains_positive class is in
        let at : page ≡ (page * 256 + some.0) / 256 = omega (arith, lt) in let bit : (page * 256 + some.0) % 256 ≡ some.0 = omega (arith, lt) in
        and_from (page == (page * 256 + some.0) / 256) (in_starts class starts ((page * 256 + some.0) % 256)) (eq-eqb page ((page * 256 + some.0) / 256) at)
        (ap (in_starts class starts) bit ∙ ap (is_set starts) (start_at class some.0 some.0 slot (omega arith) (omega (arith, more))) ∙ some.2)

    first_marks : Always (KeepsMarks page) first
    first_marks = keeps_marks (Taking ∷ []) page first refl (takes_only page (words usable) (words took.answers) 4)

    module _ (some : HasMember starts) (others : HasMember rest) (puts after : List Made) (order : PutsBelow page rest 4 puts) (ret : ReturnSteps page d after)
        (same : back.steps ≡ after ++ puts) where
      all_same : back.steps ++ first ≡ after ++ (puts ++ first)
      all_same = ap (λ s. s ++ first) same ∙ append_assoc after puts first

      at_return : Agreed σ.seat.profile ((puts ++ first) ++ can.view) after
      at_return = agreed_first σ.seat.profile can.view after (puts ++ first) (subst (Agreed σ.seat.profile can.view) all_same at_view)

      puts_only : Only (Putting ∷ []) puts
      puts_only = puts_kinds page rest 4 puts order

      right_had : has_right ((puts ++ first) ++ can.view) page ≡ true
      right_had = ap (λ s. has_right s page) (append_assoc puts first can.view) ∙ rights_same (Putting ∷ []) refl page puts (first ++ can.view) puts_only
          ∙ takes_right page (words usable) (words took.answers) 4 can.view can.met.right

      grain_held : holds ((puts ++ first) ++ can.view) (page * 256 + some.0) ≡ true
      grain_held =
          let g = page * 256 + some.0 in
          sym (holds_same returning refl g after ((puts ++ first) ++ can.view) (returns_are page after (return_returns page d after ret)))
          ∙ sym (ap (λ s. holds s g) (ap (λ s. s ++ can.view) all_same ∙ append_assoc after (puts ++ first) can.view))
          ∙ (all_call.leads.from can.view can.met at_view).does.held g ∙ ap (λ t. now (if t then Gained else Kept) (holds can.view g)) (some_kept some)

      return_marks : Always (KeepsMarks page) (back.steps ++ first)
      return_marks =
          let lt = some.1 in
          let only = return_holds σ.seat.profile page d after ((puts ++ first) ++ can.view) ret at_return right_had (page * 256 + some.0) (omega (arith, lt)) grain_held in
          subst (Always (KeepsMarks page)) (sym all_same) (marks_after page after (puts ++ first) only
          (once_earlier (PutsHere page) (PutsHere page) puts first (λ m before put. put) (some_put page rest puts order others))
          (keeps_marks (Putting ∷ Taking ∷ []) page (puts ++ first) refl (only_both (Putting ∷ Taking ∷ []) puts first (only_within (Putting ∷ []) (Putting ∷ Taking ∷ []) puts refl puts_only)
          (only_within (Taking ∷ []) (Putting ∷ Taking ∷ []) first refl (takes_only page (words usable) (words took.answers) 4)))))

    marks_kept : HasMember starts → Always (KeepsMarks page) (back.steps ++ first)
    marks_kept some = search (arith, first_marks, return_marks)

    -- A page of which whole slots were taken and the rest put back has just those slots.
    pub takes_slots : TakesSlots class page d σ σ2 starts
    takes_slots = record {
      steps = back.steps ++ first;
      calls = all_call;
      kinds = only_both taking_grains back.steps first (only_within giving_back taking_grains back.steps refl back.kinds)
          (only_within (Taking ∷ []) taking_grains first refl (takes_only page (words usable) (words took.answers) 4));
      on = always_both (λ m before. IsOnPage page m.step) (λ m before. IsOnPage page m.step) back.steps first (λ m before h. h) back.on (takes_on page (words usable) (words took.answers) 4);
      few = let all = length-append back.steps first in let b = takes_few page (words usable) (words took.answers) 4 in omega (arith, all, back.few, b);
      usable = usable;
      usable_are = usable_are;
      answers = took.answers;
      are = free_slots;
      held = record {
        from = λ v met agreed g at held. sym (bit_of took.answers (g / 64 % 4) g refl) ∙ takes_held page (words usable) (words took.answers) σ.seat.profile 4 v
            (agreed_later σ.seat.profile v back.steps first agreed) g at (omega arith) (some_word (g / 64 % 4) (omega arith)) held;
      };
      all_free = λ v agreed free. (
        0,
        omega arith,
        (free_slots 0).1 (
          first_slot class is,
          λ b low high. let lt = slot_in class 0 b is (first_slot class is) high in
              let g = page * 256 + b in let at : g / 256 ≡ page = omega (arith, lt) in
              sym (bit_on took.answers page b lt)
              ∙ takes_free page (words usable) (words took.answers) σ.seat.profile 4 v (agreed_later σ.seat.profile v back.steps first agreed) g at (omega arith) (some_word (g / 64 % 4) (omega arith)) (free g at),
        ),
      );
      keeps = always_both (λ m before. GivesUp page m.step → ⊥) (λ m before. GivesUp page m.step → ⊥) back.steps first (λ m before h. h) back_keeps (takes_keep page (words usable) (words took.answers) 4);
      due = back_due page d rest first (λ g here. takes_got page usable took.answers got took.got_is g (rest_got g here))
          (due_none (Taking ∷ []) first refl (takes_only page (words usable) (words took.answers) 4)) back.steps back.order;
      marks = marks_kept;
      takes = λ before newest. ap (takes_since page) (append_assoc back.steps first before) ∙ takes_kept_by_giving_back page back.steps
          (first ++ before) back.kinds ∙ takes_are_all_since page (words usable) (words took.answers) 4 before (none_yet page before newest);
      read = λ before met w lt. subst (Since (ShowsHere page w (is_set took.answers)) (KeptHere page)) (sym (append_assoc back.steps first before))
          (since_kept (ShowsHere page w (is_set took.answers)) page back.steps (first ++ before) back_keeps (takes_right page (words usable) (words took.answers) 4 before met.right)
          (takes_read page (words usable) (words took.answers) (is_set took.answers) (λ word b small. at_word took.answers word b small) before met.right met.none 4 w lt lt (some_word w lt)));
      none = λ before none empty g at. ap (λ s. holds s g) (append_assoc back.steps first before) ∙ all_back before none empty g at;
    }
