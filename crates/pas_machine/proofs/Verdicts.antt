-- Which events may come next, why others may not, and what a machine keeps.
use Rattle.std.proofs.Common.{◌≡◌, ◌≢◌, ℕ, ◌+◌, ◌/◌, ◌%◌, ◌<◌, ◌≤◌, ◌⊎◌, ◌==◌, Bool, true, false, if◌then◌else◌, List, [], ◌∷◌, Option, Some, None, refl, ap}
use Rattle.std.proofs.Common.{sym, ◌∙◌, subst, arith, inl, inr, ◌-◌, ◌*◌, length, get_or, is_some, set, get_or-set_same, get_or-set_other, ltb-true, ltb-false}
use Rattle.std.proofs.{Common.{eqb-true, eq-eqb, ne_eqb, nat_lt, MatchBool}, lemmas.Bool.{false≢true, true_from_ne_false, false_from_ne_true}}
use Rattle.std.proofs.{lemmas.{Bool.Decides.{eqb_tells, leb_tells, nat_tests}, Option.{none-some, same_Some}, List.get_or_default}, Math.Logic.∥∥₁_map}
use Rattle.pas_profile.specs.declared.{profile.Profile.Profile, directory.Directory.Directory, name.{Address.Address, Name.Name, Block.Block}}
use Rattle.pas_profile.specs.{declared.event.{Event.Event, Why.Why}, Profiles.IsPage, Blocks.{address_of, grain_of, length_of}}
use Rattle.pas_bits.{specs.Runs.{in_run, meets_page}, proofs.Runs.{first_of_run, run_of, to_run, run_meets, met, to_meet}}
use Rattle.pas_machine.specs.{State.{Live, deed_in, backed_in, live_in, gives_in, ends_in, epoch_in, touches}, Machine.{Run, Admits, MayGive, Bears, IsLive}}
use Rattle.pas_machine.specs.{Machine.{HasOtherRoom, IsReason, IsPlace}, Reasons.{reason_number, Applies, IsFirst, IsVerdict, IsOutside, IsNoPlace, IsNoRun}}
use Rattle.pas_machine.specs.{Reasons.{IsGrainOf, HasDeedOf, Covers}, declared.{fault.Illegal.Illegal, places.{Page.Page, Place.Place}}, Laws.IsCounted}
use Rattle.pas_machine.specs.Places.{Shows, IsLiveBlock, IsCovered, IsSome, IsEach, IsWhole, IsWithin, IsInside, blank_page, blank_place, bare_place, block_of}
use Rattle.pas_machine.{specs.Places.{block_at, page_in, place_in, place_with, grains_of, ended_at}, proofs.LiveBlocks.{lives_where, live_long, all_counted}}
use Rattle.pas_machine.proofs.LiveBlocks.{all_borne, live_apart, no_block}

-- ==== That a reason applies exactly where an event may not come next, and that there is one first reason.

-- an address of whole grains is that of its first grain
at_place : (a : ℕ) → a % 16 ≡ 0 → 16 * (a / 16) ≡ a
at_place a h = omega (arith, h)

-- ---- what isn't otherwise
equal_of : (a b : ℕ) → (a ≢ b → ⊥) → a ≡ b
equal_of a b never = elim (eqb_tells a b) [ inl h ↦ h.1 | inr h ↦ absurd (never h.1) ]

le_of : (a b : ℕ) → (b < a → ⊥) → a ≤ b
le_of a b never = elim (leb_tells a b) [ inl h ↦ h.1 | inr h ↦ absurd (never h.1) ]

lt_of : (a b : ℕ) → (b ≤ a → ⊥) → a < b
lt_of a b never = elim (leb_tells b a) [ inl h ↦ absurd (never h.1) | inr h ↦ h.1 ]

-- What can't be something is nothing.
none_of : {A : Type 0} (o : Option A) → (o ≢ None → ⊥) → o ≡ None
none_of o never = grind arith

-- ---- pages and places
page_of : (f : Profile) (page : ℕ) → (IsOutside f page → ⊥) → IsPage f page
page_of f page never = (le_of 1 page (λ h. never (inl h)), le_of page f.pages (λ h. never (inr h)))

-- A page of the region isn't outside of it.
pub not_outside : (f : Profile) (page : ℕ) → IsPage f page → IsOutside f page → ⊥
not_outside f page is e = grind arith

place_of : (f : Profile) (address : ℕ) → (IsNoPlace f address → ⊥) → IsPlace f address
place_of f address never = (page_of f (address / 4096) (λ h. never (inl h)), equal_of (address % 16) 0 (λ h. never (inr h)))

-- ---- deeds
-- each deed of a run is of a heap of the profile
deed_heaps : (f : Profile) (es : List Event) → Run f es → (page : ℕ) (d : Directory) → deed_in es page ≡ Some d → d.heap < f.heaps
deed_heaps f [] run page d h = absurd (none-some _ h)
deed_heaps f (Event.Deed k p d' ∷ es) run page d h = new (p == page) (deed_in es page) (deed_heaps f es run.1 page) h
  where
    new : (t : Bool) (old : Option Directory) → ((d : Directory) → old ≡ Some d → d.heap < f.heaps) → (if t then Some d' else old) ≡ Some d → d.heap < f.heaps
    new true old before is = subst (λ (d : Directory). d.heap < f.heaps) (same_Some _ _ is) run.0.1
    new false old before is = before d is
deed_heaps f (e ∷ es) run page d h = deed_heaps f es run.1 page d h

-- what is there has this number, or nothing that has it is there
found_or_not : {A : Type 0} (o : Option A) (number : A → ℕ) (n : ℕ)
    → ((a : A) × (o ≡ Some a) × (number a ≡ n)) ⊎ (((a : A) × (o ≡ Some a) × (number a ≡ n)) → ⊥)
found_or_not None number n = inr (λ has. none-some _ has.1)
found_or_not (Some a) number n = elim (eqb_tells (number a) n) [ inl h ↦ inl (a, refl, h.1) | inr h ↦ inr (λ has. h.1 (cc (same_Some _ _ has.1))) ]

-- ---- live names
live_or_not : (es : List Event) (name : Name) → IsLive es name ⊎ (IsLive es name → ⊥)
live_or_not es name = found_or_not (live_in es (address_of name)) (λ (b : Live). b.block.name.turn) name.turn

live_of : (es : List Event) (name : Name) → ((IsLive es name → ⊥) → ⊥) → IsLive es name
live_of es name never = elim (live_or_not es name) [ inl h ↦ h | inr h ↦ absurd (never h) ]

room_or_not : (es : List Event) (name : Name) (room : ℕ) → HasOtherRoom es name room ⊎ (HasOtherRoom es name room → ⊥)
room_or_not es name room = elim (live_or_not es name) [
  | inl live ↦ elim (eqb_tells live.0.block.room room) [
    | inl h ↦ inr (λ has. has.differs (ap (λ (l : Live). l.block.room) (same_Some _ _ (sym has.lives ∙ live.1)) ∙ h.1))
    | inr h ↦ inl record { block = live.0; lives = live.1; turn_is = live.2; differs = h.1 }
  ]
  | inr dead ↦ inr (λ has. dead (has.block, has.lives, has.turn_is))
]

reason_of : (es : List Event) (name : Name) (why : Why) → ((IsReason es name why → ⊥) → ⊥) → IsReason es name why
reason_of es name Why.Ended never = search (arith, leb_tells)
reason_of es name Why.NoBlock never = search (arith, le_of)
reason_of es name (Why.SizeDiffers room) never = (
  le_of (ends_in es (address_of name)) name.turn (λ h. never (λ r. let e : ends_in es (address_of name) ≤ name.turn = r.0 in omega arith)),
  elim (room_or_not es name room) [ inl h ↦ h | inr h ↦ absurd (never (λ r. h r.1)) ],
)

-- ---- where no reason applies, the event may come next
give_bears : (f : Profile) (es : List Event) (heap page : ℕ) → (IsOutside f page → ⊥) → ((HasDeedOf es heap page → ⊥) → ⊥) → (backed_in es page ≡ false → ⊥)
    → Bears f es heap page
give_bears f es heap page outside deed backed =
    let has : HasDeedOf es heap page = elim (found_or_not (deed_in es page) (λ (d : Directory). d.heap) heap) [ inl h ↦ h | inr h ↦ absurd (deed h) ] in
    record { exists = page_of f page outside; directory = has.0; deed = has.1; of_heap = has.2; backed = true_from_ne_false (backed_in es page) backed }

-- An event to which no reason applies is admitted.
pub admits_of : (f : Profile) (es : List Event) (e : Event) → ((reason : Illegal) → Applies f es e reason → ⊥) → Admits f es e
admits_of f es (Event.Deed k page d) never = (page_of f page (never Illegal.BadPage), lt_of d.heap f.heaps (never Illegal.BadHeap), none_of (deed_in es page) (never Illegal.DeedTwice))
admits_of f es (Event.Back k page) never = (page_of f page (never Illegal.BadPage), never Illegal.NoDeed, false_from_ne_true (backed_in es page) (never Illegal.BackedTwice))
admits_of f es (Event.Unback k page epoch) never = (
  page_of f page (never Illegal.BadPage),
  true_from_ne_false (backed_in es page) (never Illegal.NotBacked),
  (λ a. false_from_ne_true (touches (live_in es a) page) (λ h. never Illegal.LivesThere (a, h))),
  le_of (epoch_in es page + f.age) epoch (never Illegal.TooYoung),
)
admits_of f es (Event.Give k block) never = record {
  aligned = equal_of (address_of block.name % 16) 0 (λ h. never Illegal.BadPage (inl (inl h)));
  whole = equal_of (block.room % 16) 0 (λ h. never Illegal.BadPage (inl (inr (inr h))));
  some = lt_of 0 block.room (λ h. never Illegal.BadPage (inl (inr (inl (omega (arith, h))))));
  bears = λ x has. give_bears f es block.heap (x / 256) (λ h. never Illegal.BadPage (inr (x, has, h))) (λ h. never Illegal.NoDeed (x, has, h)) (λ h. never Illegal.NotBacked (x, has, h));
  clear = λ a b lives x has. false_from_ne_true (in_run (grain_of block.name) (length_of block) x) (λ h. never Illegal.LivesThere (x, h, search arith));
  turn = equal_of block.name.turn (gives_in es (address_of block.name)) (never Illegal.WrongTurn);
}
admits_of f es (Event.End k name epoch) never = (place_of f (address_of name) (never Illegal.BadPage), live_of es name (never Illegal.NotLive))
admits_of f es (Event.Reject k name why) never = (place_of f (address_of name) (never Illegal.BadPage), reason_of es name why (never Illegal.WrongReason))

-- ---- and where it may come next, none applies
-- To an event that a run admits no reason applies.
pub never_of : (f : Profile) (es : List Event) → Run f es → (e : Event) → Admits f es e → (reason : Illegal) → Applies f es e reason → ⊥
never_of f es run (Event.Deed k page d) may Illegal.BadPage h = not_outside f page may.0 h
never_of f es run (Event.Deed k page d) may Illegal.BadHeap h = let heap : d.heap < f.heaps = may.1 in let other : f.heaps ≤ d.heap = h in omega arith
never_of f es run (Event.Deed k page d) may Illegal.DeedTwice h = h may.2
never_of f es run (Event.Back k page) may Illegal.BadPage h = not_outside f page may.0 h
never_of f es run (Event.Back k page) may Illegal.NoDeed h = may.1 h
never_of f es run (Event.Back k page) may Illegal.BackedTwice h = false≢true (sym may.2 ∙ h)
never_of f es run (Event.Unback k page epoch) may Illegal.BadPage h = not_outside f page may.0 h
never_of f es run (Event.Unback k page epoch) may Illegal.NotBacked h = false≢true (sym h ∙ may.1)
never_of f es run (Event.Unback k page epoch) may Illegal.LivesThere h = false≢true (sym (may.2 h.0) ∙ h.1)
never_of f es run (Event.Unback k page epoch) may Illegal.TooYoung h = search arith
never_of f es run (Event.Give k block) may Illegal.BadPage h = grind (arith, not_outside)
never_of f es run (Event.Give k block) may Illegal.BadHeap h =
    let bears = may.bears (grain_of block.name) (first_of_run (grain_of block.name) (length_of block) (omega (arith, may.some, may.whole))) in
    let heap : block.heap < f.heaps = subst (λ n. n < f.heaps) bears.of_heap (deed_heaps f es run (grain_of block.name / 256) bears.directory bears.deed) in
    let other : f.heaps ≤ block.heap = h in omega arith
never_of f es run (Event.Give k block) may Illegal.NoDeed h = let bears = may.bears h.0 h.1 in h.2 (bears.directory, bears.deed, bears.of_heap)
never_of f es run (Event.Give k block) may Illegal.NotBacked h = false≢true (sym h.2 ∙ (may.bears h.0 h.1).backed)
never_of f es run (Event.Give k block) may Illegal.LivesThere h = false≢true (sym (may.clear h.2.address h.2.live h.2.lives h.0 h.2.has) ∙ h.1)
never_of f es run (Event.Give k block) may Illegal.WrongTurn h = h may.turn
never_of f es run (Event.End k name epoch) may Illegal.BadPage h = grind (arith, not_outside)
never_of f es run (Event.End k name epoch) may Illegal.NotLive h = h may.1
never_of f es run (Event.Reject k name why) may Illegal.BadPage h = grind (arith, not_outside)
never_of f es run (Event.Reject k name why) may Illegal.WrongReason h = h may.1
never_of f es run e may reason h = h

-- ---- one reason is the first
abbrev numbered : ℕ → Illegal
numbered n = if n == 1 then Illegal.BadPage else if n == 2 then Illegal.BadHeap else if n == 3 then Illegal.DeedTwice else if n == 4 then Illegal.NoDeed
    else if n == 5 then Illegal.BackedTwice else if n == 6 then Illegal.NotBacked else if n == 7 then Illegal.LivesThere else if n == 8 then Illegal.TooYoung
    else if n == 9 then Illegal.WrongTurn else if n == 10 then Illegal.NotLive else Illegal.WrongReason

-- Only one reason is the first that applies to an event.
pub one_first : (f : Profile) (es : List Event) (e : Event) (reason other : Illegal) → IsFirst f es e reason → IsFirst f es e other → reason ≡ other
one_first f es e reason other first first' = sym (grind arith) ∙ (ap numbered same ∙ (let it : numbered (reason_number other) ≡ other = grind arith in it))
  where
    same : reason_number reason ≡ reason_number other
    same = search (arith, le_of)

-- ==== The first reason of an event, by what a machine keeps.

-- ---- runs
-- a block of whole grains has its first and its last grain
long_of : (block : Block) → IsWhole block → 0 < length_of block
long_of block is = let some : 0 < block.room = is.some in let whole : block.room % 16 ≡ 0 = is.whole in omega (arith, some, whole)

-- A block is no run of the region exactly where its end is past the region's.
pub ends_by_test : (f : Profile) (block : Block) (t : Bool) → IsWhole block → 256 ≤ grain_of block.name
    → nat_lt (256 * f.pages + 256) (grain_of block.name + length_of block) ≡ t → MatchBool t (IsNoRun f block) (IsWithin f block)
ends_by_test f block true is low e = let long : 0 < length_of block = long_of block is in
    let last : ℕ = grain_of block.name + length_of block - 1 in
    inr (
      grain_of block.name + length_of block - 1,
      to_run (grain_of block.name) (length_of block) (grain_of block.name + length_of block - 1)
          (omega (arith, long)) (omega (arith, long)),
      inr (omega (arith, (ltb-true (grains_of f) (grain_of block.name + length_of block) e))),
    )
ends_by_test f block false is low e = (low, ltb-false (grains_of f) (grain_of block.name + length_of block) e)

-- A block inside the region is a run of it.
pub inside_never : (f : Profile) (block : Block) → IsInside f block → IsNoRun f block → ⊥
inside_never f block is (inl (inl h)) = h is.whole.aligned
inside_never f block is (inl (inr (inl h))) = let some : 0 < block.room = is.whole.some in let none : block.room ≡ 0 = h in omega arith
inside_never f block is (inl (inr (inr h))) = h is.whole.whole
inside_never f block is (inr h) = outside h.2
  where
    at : (grain_of block.name ≤ h.0) × (h.0 < grain_of block.name + length_of block)
    at = run_of (grain_of block.name) (length_of block) h.0 h.1

    -- The page of the grain is one of the region.
    outside : IsOutside f (h.0 / 256) → ⊥
    outside (inl low) = omega (arith, low, at.0, is.within.0)
    outside (inr high) = omega (arith, high, at.1, is.within.1)

page_on : (g n x : ℕ) → in_run g n x ≡ true → (g / 256 ≤ x / 256) × (x / 256 < (g + n + 255) / 256)
page_on g n x h = let at = run_of g n x h in (omega (arith, at.0), omega (arith, at.1))

-- ---- what a machine keeps, at one place
pub page_is : (f : Profile) (pages : List Page) (places : List Place) (covered : List Bool) (es : List Event) → Shows f pages places covered es → (page : ℕ)
    → page ≤ f.pages → (len : ℕ) → len ≡ length pages → len ≡ f.pages + 1
    → (p : Page) → p ≡ get_or pages page p → p ≡ page_in es page
page_is f pages places covered es shows page within len same sized p is =
    let low : page < length pages = omega (arith, within, same, sized) in is ∙ (get_or_default pages page p blank_page low ∙ shows.pages_are page within)

place_is : (f : Profile) (pages : List Page) (places : List Place) (covered : List Bool) (es : List Event) → Shows f pages places covered es → (g : ℕ)
    → g < grains_of f → (len : ℕ) → len ≡ length places → len ≡ grains_of f
    → (p : Place) → p ≡ get_or places g p → p ≡ place_in es g
place_is f pages places covered es shows g within len same sized p is =
    let low : g < length places = omega (arith, within, same, sized) in is ∙ (get_or_default places g p blank_place low ∙ shows.places_are g within)

-- ---- ends
ends_by : (o : Option Live) (gives ends : ℕ) → IsCounted o gives ends → (is_some o ≡ true → gives - 1 ≡ ends) × (is_some o ≡ false → gives ≡ ends)
ends_by o gives ends counted = grind (arith, false≢true)

-- A place's gives, less one where a block lives, are the ends at its address.
pub ends_are : (f : Profile) (pages : List Page) (places : List Place) (covered : List Bool) (len a : ℕ) (p : Place) → len ≡ length places → len ≡ grains_of f
    → IsPlace f a → p ≡ get_or places (a / 16) p
    → (es : List Event) → Shows f pages places covered es → (p.lives ≡ true → p.gives - 1 ≡ ends_in es a) × (p.lives ≡ false → p.gives ≡ ends_in es a)
ends_are f pages places covered len a p same sized place read es shows =
    let high : a / 4096 ≤ f.pages = place.0.1 in
    let is : p ≡ place_in es (a / 16) = place_is f pages places covered es shows (a / 16) (omega (arith, high)) len same sized p read in
    let at : p ≡ place_with (live_in es a) (gives_in es a) = is ∙ ap (λ n. place_with (live_in es n) (gives_in es n)) (at_place a place.1) in
    rw at (ends_by (live_in es a) (gives_in es a) (ends_in es a) (all_counted f es shows.run a))

-- ---- the block of a place
-- A live block is what its place says: it lives at its own address, and all that were given there before it have ended.
block_by : (o : Option Live) (address : Address) (gives ends : ℕ) → ((b : Live) → o ≡ Some b → address_of b.block.name ≡ address.0) → IsCounted o gives ends
    → block_at (place_with o gives) address ≡ block_of o
block_by o address gives ends home counted = grind arith

-- The block at a place of the table is the one that lives at its address.
pub block_is : (f : Profile) (pages : List Page) (places : List Place) (covered : List Bool) (es : List Event) → Shows f pages places covered es
    → (address : Address) → address.0 % 16 ≡ 0 → address.0 / 16 < grains_of f → (len : ℕ)
    → len ≡ length places → len ≡ grains_of f → (p : Place) → p ≡ get_or places (address.0 / 16) p → block_at p address ≡ block_of (live_in es address.0)
block_is f pages places covered es shows address aligned within len same sized p read =
    let is : p ≡ place_in es (address.0 / 16) = place_is f pages places covered es shows (address.0 / 16) within len same sized p read in
    let at : p ≡ place_with (live_in es address.0) (gives_in es address.0) = cc (at_place address.0 aligned) in
    cc (block_by (live_in es address.0) address (gives_in es address.0) (ends_in es address.0) (lives_where f es shows.run address.0) (all_counted f es shows.run address.0))

live_there : (o : Option Live) (block : Block) → block_of o ≡ Some block → (b : Live) × (o ≡ Some b) × (b.block ≡ block)
live_there o block h = grind (arith, none-some, same_Some)

-- the block that was found at the place of a name
module _ {f : Profile} {pages : List Page} {places : List Place} {covered : List Bool} {es : List Event} (shows : Shows f pages places covered es) (name : Name)
    (place : IsPlace f (address_of name)) (len : ℕ) (same : len ≡ length places)
    (sized : len ≡ grains_of f) (p : Place) (read : p ≡ get_or places (grain_of name) p) (block : Block) (found : block_at p name.address ≡ Some block) where
  found_there : (b : Live) × (live_in es (address_of name) ≡ Some b) × (b.block ≡ block)
  found_there =
      let on : address_of name / 4096 ≤ f.pages = place.0.1 in
      live_there (live_in es (address_of name)) block (cc (block_is f pages places covered es shows name.address place.1 (omega (arith, on)) len same sized p read))

  -- A block that was found at a name's place with its turn is the live block of that name.
  pub found_live : block.name.turn ≡ name.turn → IsLiveBlock es name block
  found_live turn = (found_there.0, found_there.1, found_there.2, turn)

  -- A block that was found at a name's place with another turn shows that the name isn't live.
  pub found_other : (block.name.turn ≡ name.turn → ⊥) → IsLive es name → ⊥
  found_other differs live = search (arith, found_there, same_Some)

-- ---- unbacks
touched_by : (f : Profile) (es : List Event) → Run f es → (page : ℕ) → ((x : ℕ) → 256 * page ≤ x → x < 256 * page + 256 → Covers es x → ⊥) → (address : ℕ)
    → touches (live_in es address) page ≡ true → ⊥
touched_by f es run page never address h = by (live_in es address) refl h
  where
    -- After the give a grain is covered where it was, or where it is the block's.
    by : (o : Option Live) → live_in es address ≡ o → touches o page ≡ true → ⊥
    by None is t = false≢true t
    by (Some b) is t =
        let meets : meets_page (address / 16) (length_of b.block) page ≡ true = cc (lives_where f es run address b is) in
        let x = met (address / 16) (length_of b.block) page (live_long f es run address b is) meets in
        let on = x.of_page in
        never x.grain (omega (arith, on)) (omega (arith, on)) (record { address = address; live = b; lives = is; has = x.of_run })

-- The reasons that come before this one don't hold: reason by reason.
pub unback_before : (f : Profile) (es : List Event) (k page epoch n : ℕ) → (1 < n → IsOutside f page → ⊥) → (6 < n → backed_in es page ≡ false → ⊥)
    → (7 < n → (a : ℕ) → touches (live_in es a) page ≡ true → ⊥)
    → (8 < n → epoch < epoch_in es page + f.age → ⊥) → (reason : Illegal) → reason_number reason < n → Applies f es (Event.Unback k page epoch) reason → ⊥
unback_before f es k page epoch n a b c d reason lt h = grind arith

-- where the page was read, and is of the region
pub backed_now : (es : List Event) (page : ℕ) (p : Page) → p ≡ page_in es page → p.backed ≡ true → backed_in es page ≡ false → ⊥
backed_now es page p is backed h = false≢true (sym h ∙ (ap (λ (q : Page). q.backed) (sym is) ∙ backed))

uncovered_at : (es : List Event) (x : ℕ) (t : Bool) → IsCovered es x t → t ≡ false → Covers es x → ⊥
uncovered_at es x t is h = grind (arith, false≢true)

-- An unback of a page with a covered grain is refused first because a block lives there.
pub unback_lives : (f : Profile) (pages : List Page) (places : List Place) (covered : List Bool) (es : List Event) → Shows f pages places covered es
    → (k page epoch : ℕ) → IsPage f page → (p : Page) → p ≡ page_in es page → p.backed ≡ true
    → IsSome (256 * page) (256 * page + 256) (λ x. get_or covered x false ≡ true) → IsFirst f es (Event.Unback k page epoch) Illegal.LivesThere
unback_lives f pages places covered es shows k page epoch within p is backed some =
    search (arith, lives_where, run_meets, unback_before, not_outside, backed_now)

-- No live block touches a page without a covered grain.
pub untouched : (f : Profile) (pages : List Page) (places : List Place) (covered : List Bool) (es : List Event) → Shows f pages places covered es → (page : ℕ)
    → IsPage f page
    → IsEach (256 * page) (256 * page + 256) (λ x. get_or covered x false ≡ false) → (a : ℕ) → touches (live_in es a) page ≡ true → ⊥
untouched f pages places covered es shows page within each = touched_by f es shows.run page (λ x low until. let high : page ≤ f.pages = within.1 in
    uncovered_at es x (get_or covered x false) (shows.covered_are x (omega (arith, high, until))) (each x low until))

-- ---- gives
pub give_before : (f : Profile) (es : List Event) (k : ℕ) (block : Block) (n : ℕ) → (1 < n → IsNoRun f block → ⊥) → (2 < n → f.heaps ≤ block.heap → ⊥)
    → (4 < n → Applies f es (Event.Give k block) Illegal.NoDeed → ⊥)
    → (6 < n → Applies f es (Event.Give k block) Illegal.NotBacked → ⊥) → (7 < n → Applies f es (Event.Give k block) Illegal.LivesThere → ⊥)
    → (9 < n → Applies f es (Event.Give k block) Illegal.WrongTurn → ⊥)
    → (reason : Illegal) → reason_number reason < n → Applies f es (Event.Give k block) reason → ⊥
give_before f es k block n a b c d e g reason lt h = grind arith

-- what was looked up for a block that is inside
abbrev pub first_page : Block → ℕ
first_page block = grain_of block.name / 256

abbrev pub until_page : Block → ℕ
until_page block = (grain_of block.name + length_of block + 255) / 256

pub page_within : (f : Profile) (block : Block) → IsWithin f block → (x : ℕ) → IsGrainOf block x → (x / 256 ≤ f.pages) × (x < grains_of f)
page_within f block within x has = search (arith, run_of)

-- what the machine was asked of each page and each grain of the run
module _ {f : Profile} {pages : List Page} {places : List Place} {covered : List Bool} {es : List Event} (shows : Shows f pages places covered es)
    (block : Block) (is : IsInside f block) where
  -- Where some page of a block is so by the table, it is so of some grain's page by the events.
  pub some_page : (P : Page → Type 0) → IsSome (first_page block) (until_page block) (λ page. P (get_or pages page blank_page))
      → (x : ℕ) × IsGrainOf block x × P (page_in es (x / 256))
  some_page P some =
      let x = met (grain_of block.name) (length_of block) some.0 (long_of block is.whole)
      (to_meet (grain_of block.name) (length_of block) some.0 (omega (arith, some.1)) (omega (arith, some.2))) in
      let within : some.0 ≤ f.pages = subst (λ n. n ≤ f.pages) x.of_page (page_within f block is.within x.grain x.of_run).0 in
      (x.grain, x.of_run, subst P (shows.pages_are some.0 within ∙ ap (page_in es) (sym x.of_page)) some.3)

  -- Where each page of a block is so by the table, it is so of each grain's page by the events.
  pub each_page : (P : Page → Type 0) → IsEach (first_page block) (until_page block) (λ page. P (get_or pages page blank_page)) → (x : ℕ) → IsGrainOf block x
      → P (page_in es (x / 256))
  each_page P each x has =
      search (arith, page_on, page_within)

  -- Where no grain of a block is marked as covered, no live block covers any.
  pub none_lives : IsEach (grain_of block.name) (grain_of block.name + length_of block) (λ x. get_or covered x false ≡ false) → (x : ℕ) → IsGrainOf block x
      → Covers es x → ⊥
  none_lives each x has =
      let at = run_of (grain_of block.name) (length_of block) x has in
      uncovered_at es x (get_or covered x false) (shows.covered_are x (page_within f block is.within x has).1) (each x at.0 at.1)

-- The gives of a place are those at its address.
pub gives_are : (es : List Event) (a : ℕ) → a % 16 ≡ 0 → (p : Place) → p ≡ place_in es (a / 16) → p.gives ≡ gives_in es a
gives_are es a aligned p is = ap (λ (q : Place). q.gives) is ∙ ap (gives_in es) (at_place a aligned)

-- the place where a block that is inside begins
pub place_at : (f : Profile) (pages : List Page) (places : List Place) (covered : List Bool) (es : List Event) → Shows f pages places covered es
    → (block : Block) → IsInside f block → (len : ℕ) → len ≡ length places
    → len ≡ grains_of f → (p : Place) → p ≡ get_or places (grain_of block.name) p → p ≡ place_in es (grain_of block.name)
place_at f pages places covered es shows block is =
    place_is f pages places covered es shows (grain_of block.name) (omega (arith, is.within.1, long_of block is.whole))

-- a live block ends within the region
pub live_within : (f : Profile) (es : List Event) → Run f es → (a : ℕ) (b : Live) → live_in es a ≡ Some b → a / 16 + length_of b.block ≤ grains_of f
live_within f es run a b is =
    let long : 0 < length_of b.block = live_long f es run a b is in
    let last : in_run (a / 16) (length_of b.block) (a / 16 + length_of b.block - 1) ≡ true = to_run (a / 16) (length_of b.block) (a / 16 + length_of b.block - 1) (omega (arith, long)) (omega (arith, long)) in
    let on : (a / 16 + length_of b.block - 1) / 256 ≤ f.pages = (all_borne f es run a b is (a / 16 + length_of b.block - 1) last).exists.1 in
    omega (arith, on, long)

-- ==== What a machine keeps at its opening.

-- ==== What a machine keeps after an event that may come next is what the events lead to.

-- ---- one element is written
-- ---- covered grains, where the live blocks are the same
pub same_cover : (es es' : List Event) (x : ℕ) → ((a : ℕ) → live_in es' a ≡ live_in es a) → Covers es x → Covers es' x
same_cover es es' x same c = record { address = c.address; live = c.live; lives = same c.address ∙ c.lives; has = c.has }

-- ---- deeds, backs and unbacks
-- an event that changes what is kept of one page alone; `after q t` is what is kept of page q after it, where t says that q is that page
module _ (f : Profile) (pages : List Page) (places : List Place) (covered : List Bool) (len page : ℕ) (p : Page) (same : len ≡ length pages)
    (sized : len ≡ f.pages + 1) (within : IsPage f page) (read : p ≡ get_or pages page p) where
  page_made : (es : List Event) → Shows f pages places covered es → (e : Event) → ((reason : Illegal) → Applies f es e reason → ⊥)
      → (new : Page → Page) (after : ℕ → Bool → Page)
      → ((q : ℕ) → new (page_in es q) ≡ after q true) → ((q : ℕ) → page_in es q ≡ after q false) → ((q : ℕ) → after q (page == q) ≡ page_in (e ∷ es) q)
      → ((g : ℕ) → place_in es g ≡ place_in (e ∷ es) g) → ((a : ℕ) → live_in (e ∷ es) a ≡ live_in es a)
      → Admits f es e × Shows f (set pages page (new p)) places covered (e ∷ es)
  page_made es shows e none new after changed kept now places_same live_same =
      let may : Admits f es e = admits_of f es e none in
      let high : page ≤ f.pages = within.1 in
      let here : new p ≡ page_in (e ∷ es) page = cc (page_is f pages places covered es shows page high len same sized p read, changed page, eq-eqb page page refl, now page) in
      let others : (q : ℕ) → page ≢ q → page_in es q ≡ page_in (e ∷ es) q = λ q ne. kept q ∙ ap (after q) (sym (ne_eqb page q ne)) ∙ now q in (
        may,
        search (arith, eqb_tells, get_or-set_same, get_or-set_other, same_cover),
      )

  -- A deed that is admitted, noted at its page, makes tables that show it.
  pub deed_made : (d : Directory) → ((k : ℕ) (es : List Event) → Shows f pages places covered es → IsVerdict f es (Event.Deed k page d) None)
      → (k : ℕ) (es : List Event) → Shows f pages places covered es
      → Admits f es (Event.Deed k page d) × Shows f (set pages page (record p { directory = Some d })) places covered (Event.Deed k page d ∷ es)
  deed_made d none k es shows = page_made es shows (Event.Deed k page d) (none k es shows) (λ q. record q { directory = Some d })
      (λ q t. record { directory = if t then Some d else deed_in es q; backed = backed_in es q; epoch = epoch_in es q }) (λ q. refl) (λ q. refl) (λ q. refl) (λ g. refl) (λ a. refl)

  -- A back that is admitted, noted at its page, makes tables that show it.
  pub back_made : ((k : ℕ) (es : List Event) → Shows f pages places covered es → IsVerdict f es (Event.Back k page) None) → (k : ℕ) (es : List Event)
      → Shows f pages places covered es
      → Admits f es (Event.Back k page) × Shows f (set pages page (record p { backed = true })) places covered (Event.Back k page ∷ es)
  back_made none k es shows = page_made es shows (Event.Back k page) (none k es shows) (λ q. record q { backed = true })
      (λ q t. record { directory = deed_in es q; backed = if t then true else backed_in es q; epoch = epoch_in es q }) (λ q. refl) (λ q. refl) (λ q. refl) (λ g. refl) (λ a. refl)

  -- An unback that is admitted, noted at its page, makes tables that show it.
  pub unback_made : (epoch : ℕ) → ((k : ℕ) (es : List Event) → Shows f pages places covered es → IsVerdict f es (Event.Unback k page epoch) None)
      → (k : ℕ) (es : List Event) → Shows f pages places covered es
      → Admits f es (Event.Unback k page epoch) × Shows f (set pages page (record p { backed = false })) places covered (Event.Unback k page epoch ∷ es)
  unback_made epoch none k es shows = page_made es shows (Event.Unback k page epoch) (none k es shows) (λ q. record q { backed = false })
      (λ q t. record { directory = deed_in es q; backed = if t then false else backed_in es q; epoch = epoch_in es q }) (λ q. refl) (λ q. refl) (λ q. refl) (λ g. refl) (λ a. refl)

-- ---- gives
-- the place of an address is written; `after g t` is what is kept of grain g after the event, where t says that the address is the grain's
place_set : (f : Profile) (places : List Place) (es : List Event) (e : Event) (a : ℕ) (v : Place) (after : ℕ → Bool → Place) → a % 16 ≡ 0
    → a / 16 < length places → ((g : ℕ) → g < grains_of f → get_or places g blank_place ≡ place_in es g)
    → v ≡ after (a / 16) true → ((g : ℕ) → place_in es g ≡ after g false) → ((g : ℕ) → after g (a == 16 * g) ≡ place_in (e ∷ es) g) → (g : ℕ) → g < grains_of f
    → get_or (set places (a / 16) v) g blank_place ≡ place_in (e ∷ es) g
place_set f places es e a v after aligned low are new kept now = λ j within. search (arith, eqb_tells, get_or-set_same, get_or-set_other)

-- a grain that is outside of what was marked is as it was
unmarked : (covered covered' : List Bool) (g n x : ℕ) → ((y : ℕ) → y < g → get_or covered' y false ≡ get_or covered y false)
    → ((y : ℕ) → g + n ≤ y → get_or covered' y false ≡ get_or covered y false)
    → (in_run g n x ≡ true → ⊥) → get_or covered' x false ≡ get_or covered x false
unmarked covered covered' g n x below above out = search (arith, leb_tells, to_run)

give_covered : (f : Profile) (es : List Event) → Run f es → (k : ℕ) (block : Block) → MayGive f es block → (x : ℕ) (t : Bool)
    → (in_run (grain_of block.name) (length_of block) x ≡ true → ⊥) → IsCovered es x t
    → IsCovered (Event.Give k block ∷ es) x t
give_covered f es run k block may x true out c = record { address = c.address; live = c.live; lives = cc (ne_eqb (address_of block.name) c.address other); has = c.has }
  where
    other : address_of block.name ≢ c.address
    other e = none-some _ (sym (no_block f es block c.address (live_in es c.address) refl may e (λ b h. live_long f es run c.address b h)) ∙ c.lives)
give_covered f es run k block may x false out never = λ c. by c (address_of block.name == c.address) refl c.lives
  where
    -- After the end a grain is covered where it was, and isn't the block's.
    by : (c : Covers (Event.Give k block ∷ es) x) (t : Bool) → (address_of block.name == c.address) ≡ t
        → (if t then Some record { actor = k; block = block } else live_in es c.address) ≡ Some c.live → ⊥
    by c true e is =
        search (arith, same_Some, eqb-true)
    by c false e is = never (record { address = c.address; live = c.live; lives = is; has = c.has })

new_cover : (es : List Event) (k : ℕ) (block : Block) (x : ℕ) → in_run (grain_of block.name) (length_of block) x ≡ true → Covers (Event.Give k block ∷ es) x
new_cover es k block x has = record {
  address = address_of block.name;
  live = record { actor = k; block = block };
  lives = simp eq-eqb;
  has = has;
}

uncovered_by : (es : List Event) (x : ℕ) (t : Bool) → t ≡ false → (Covers es x → ⊥) → IsCovered es x t
uncovered_by es x t e never = grind (arith, false≢true)

give_shows : (f : Profile) (pages : List Page) (places : List Place) (covered covered' : List Bool) (es : List Event) → Shows f pages places covered es
    → (k : ℕ) (block : Block) → Admits f es (Event.Give k block)
    → (gives : ℕ) → gives ≡ gives_in es (address_of block.name) → grain_of block.name < length places
    → IsEach (grain_of block.name) (grain_of block.name + length_of block) (λ x. get_or covered' x false ≡ true)
    → ((y : ℕ) → y < grain_of block.name → get_or covered' y false ≡ get_or covered y false)
    → ((y : ℕ) → grain_of block.name + length_of block ≤ y → get_or covered' y false ≡ get_or covered y false)
    → Shows f pages (set places (grain_of block.name) (record { lives = true; heap = block.heap; room = block.room; gives = gives + 1 })) covered'
    (Event.Give k block ∷ es)
give_shows f pages places covered covered' es shows k block may gives is low set' below above = record {
  run = (may, shows.run);
  pages_are = shows.pages_are;
  places_are = place_set f places es (Event.Give k block) (address_of block.name) (record { lives = true; heap = block.heap; room = block.room; gives = gives + 1 })
      (λ g t. place_with (if t then Some record { actor = k; block = block } else live_in es (16 * g)) (if t then gives_in es (16 * g) + 1 else gives_in es (16 * g))) may.aligned low shows.places_are
      (cc (at_place (address_of block.name) may.aligned)) (λ g. refl) (λ g. refl);
  covered_are = λ x h. by x h (in_run (grain_of block.name) (length_of block) x) refl;
}
  where
    by : (x : ℕ) → x < grains_of f → (t : Bool) → in_run (grain_of block.name) (length_of block) x ≡ t
        → IsCovered (Event.Give k block ∷ es) x (get_or covered' x false)
    by x h true e = search (arith, run_of, false≢true, new_cover)
    by x h false e = search (arith, false≢true, unmarked, give_covered)

-- by what was read at the block's first grain, and marked from there on
pub give_made : (f : Profile) (pages : List Page) (places : List Place) (covered covered' : List Bool) (len first n : ℕ) (block : Block) (p : Place)
    → first ≡ grain_of block.name → n ≡ length_of block → IsInside f block
    → len ≡ length places → len ≡ grains_of f → p ≡ get_or places first p → IsEach first (first + n) (λ x. get_or covered' x false ≡ true)
    → ((y : ℕ) → y < first → get_or covered' y false ≡ get_or covered y false) → ((y : ℕ) → first + n ≤ y → get_or covered' y false ≡ get_or covered y false)
    → ((k : ℕ) (es : List Event) → Shows f pages places covered es → IsVerdict f es (Event.Give k block) None) → (k : ℕ) (es : List Event)
    → Shows f pages places covered es
    → Admits f es (Event.Give k block)
    × Shows f pages (set places first (record { lives = true; heap = block.heap; room = block.room; gives = p.gives + 1 })) covered' (Event.Give k block ∷ es)
give_made f pages places covered covered' len first n block p e e' inside same sized read marked below above none k es shows =
    let may : Admits f es (Event.Give k block) = admits_of f es (Event.Give k block) (none k es shows) in
    let at = place_at f pages places covered es shows block inside len same sized p (rw e at read) in
    let high = inside.within.1 in
    let long : 0 < length_of block = long_of block inside.whole in (
      may,
      rw e (give_shows f pages places covered covered' es shows k block may p.gives (gives_are es (address_of block.name) inside.whole.aligned p at)
          (omega (arith, high, long, same, sized)) (rw (e, e') at marked) (rw e at below) (rw (e, e') at above)),
    )

-- ---- ends
-- a page is met by the run exactly where it is in the range of its pages
met_of : (g n p : ℕ) → g / 256 ≤ p → p < (g + n + 255) / 256 → meets_page g n p ≡ true
met_of g n p low high = to_meet g n p (omega (arith, low)) (omega (arith, high))

under_of : (g n p : ℕ) → p < g / 256 → meets_page g n p ≡ false
under_of g n p low = let first : 256 * p + 256 ≤ g = omega (arith, low) in grind (arith, nat_tests, first)

over_of : (g n p : ℕ) → (g + n + 255) / 256 ≤ p → meets_page g n p ≡ false
over_of g n p high = let last : g + n ≤ 256 * p = omega (arith, high) in grind (arith, nat_tests, last)

touches_of : (f : Profile) (es : List Event) → Run f es → (name : Name) (block : Block) → IsLiveBlock es name block → (p : ℕ)
    → touches (live_in es (address_of name)) p ≡ meets_page (grain_of name) (length_of block) p
touches_of f es run name block live p = search (arith, lives_where)

-- A page after an end, whether the block touched it or not.
ended_page : (es : List Event) (k : ℕ) (name : Name) (epoch p : ℕ) (t : Bool) (q : Page) → touches (live_in es (address_of name)) p ≡ t
    → q ≡ (if t then ended_at epoch (page_in es p) else page_in es p) → q ≡ page_in (Event.End k name epoch ∷ es) p
ended_page es k name epoch p t q e is = grind arith

-- a live block beside the one that ends
apart_from : (f : Profile) (es : List Event) → Run f es → (k : ℕ) (name : Name) (epoch : ℕ) (block : Block) → IsLiveBlock es name block → (x : ℕ)
    → Covers (Event.End k name epoch ∷ es) x → (in_run (grain_of name) (length_of block) x ≡ true → ⊥) × Covers es x
apart_from f es run k name epoch block live x c = by (address_of name == c.address) refl c.lives
  where
    by : (t : Bool) → (address_of name == c.address) ≡ t → (if t then None else live_in es c.address) ≡ Some c.live
        → (in_run (grain_of name) (length_of block) x ≡ true → ⊥) × Covers es x
    by true e is = absurd (none-some _ is)
    by false e is = search (arith, false≢true, live_apart, eq-eqb)

still_covers : (es : List Event) (k : ℕ) (name : Name) (epoch : ℕ) (block : Block) → IsLiveBlock es name block → (x : ℕ)
    → (in_run (grain_of name) (length_of block) x ≡ true → ⊥) → Covers es x → Covers (Event.End k name epoch ∷ es) x
still_covers es k name epoch block live x out c = search (arith, ne_eqb)
  where
    other : address_of name ≢ c.address
    other e = search (arith, same_Some)

end_covered : (f : Profile) (es : List Event) → Run f es → (k : ℕ) (name : Name) (epoch : ℕ) (block : Block) → IsLiveBlock es name block → (x : ℕ) (t : Bool)
    → (in_run (grain_of name) (length_of block) x ≡ true → ⊥) → IsCovered es x t
    → IsCovered (Event.End k name epoch ∷ es) x t
end_covered f es run k name epoch block live x t out c = grind (arith, still_covers, apart_from)

end_shows : (f : Profile) (pages pages' : List Page) (places : List Place) (covered covered' : List Bool) (es : List Event) → Shows f pages places covered es
    → (k : ℕ) (name : Name) (epoch : ℕ) → IsPlace f (address_of name)
    → (block : Block) → IsLiveBlock es name block → (p : Place) → p ≡ place_in es (grain_of name) → grain_of name < length places
    → IsEach (grain_of name) (grain_of name + length_of block) (λ x. get_or covered' x false ≡ false)
    → ((y : ℕ) → y < grain_of name → get_or covered' y false ≡ get_or covered y false)
    → ((y : ℕ) → grain_of name + length_of block ≤ y → get_or covered' y false ≡ get_or covered y false)
    → IsEach (grain_of name / 256) ((grain_of name + length_of block + 255) / 256) (λ q. get_or pages' q blank_page ≡ ended_at epoch (get_or pages q blank_page))
    → ((q : ℕ) → q < grain_of name / 256 → get_or pages' q blank_page ≡ get_or pages q blank_page)
    → ((q : ℕ) → (grain_of name + length_of block + 255) / 256 ≤ q → get_or pages' q blank_page ≡ get_or pages q blank_page)
    → Admits f es (Event.End k name epoch) × Shows f pages' (set places (grain_of name) (bare_place p.gives)) covered' (Event.End k name epoch ∷ es)
end_shows f pages pages' places covered covered' es shows k name epoch place block live p is low cset cbelow cabove pset pbelow pabove = (
  may,
  record {
    run = (may, shows.run);
    pages_are = page;
    places_are = place_set f places es (Event.End k name epoch) (address_of name) (bare_place p.gives) (λ g t. place_with (if t then None else live_in es
        (16 * g)) (gives_in es (16 * g))) place.1 low shows.places_are (ap (λ (q : Place). bare_place q.gives) is) (λ g. refl) (λ g. refl);
    covered_are = λ x h. by x h (in_run (grain_of name) (length_of block) x) refl;
  },
)
  where
    -- The end may come.
    may : Admits f es (Event.End k name epoch)
    may = (place, (live.0, live.1, ap (λ (b : Block). b.name.turn) live.2 ∙ live.3))

    -- After the end each page of the machine is that of the events.
    page : (q : ℕ) → q ≤ f.pages → get_or pages' q blank_page ≡ page_in (Event.End k name epoch ∷ es) q
    page q within = elim (leb_tells (grain_of name / 256) q) [
      | inl l ↦ elim (leb_tells ((grain_of name + length_of block + 255) / 256) q) [
        | inl m ↦ ended_page es k name epoch q false (get_or pages' q blank_page) (touches_of f es shows.run name block live q ∙ over_of (grain_of name) (length_of block) q m.1) (grind arith)
        | inr m ↦ ended_page es k name epoch q true (get_or pages' q blank_page)
            (touches_of f es shows.run name block live q ∙ met_of (grain_of name) (length_of block) q l.1 m.1) (cc (pset q l.1 m.1, shows.pages_are q within))
      ]
      | inr l ↦ ended_page es k name epoch q false (get_or pages' q blank_page) (touches_of f es shows.run name block live q ∙ under_of (grain_of name) (length_of block) q l.1) (grind arith)
    ]

    by : (x : ℕ) → x < grains_of f → (t : Bool) → in_run (grain_of name) (length_of block) x ≡ t
        → IsCovered (Event.End k name epoch ∷ es) x (get_or covered' x false)
    by x h true e =
        let on = run_of (grain_of name) (length_of block) x e in
        uncovered_by (Event.End k name epoch ∷ es) x (get_or covered' x false) (cset x on.0 on.1) (λ c. (apart_from f es shows.run k name epoch block live x c).0 e)
    by x h false e = search (arith, false≢true, unmarked, end_covered)

-- An end that is admitted, noted at its place, its grains and its pages, makes tables that show it.
pub end_made : (f : Profile) (pages pages' : List Page) (places : List Place) (covered covered' : List Bool) (len first n : ℕ) (name : Name) (epoch : ℕ)
    (block : Block) (p : Place)
    → first ≡ grain_of name → n ≡ length_of block → IsPlace f (address_of name)
    → len ≡ length places → len ≡ grains_of f → p ≡ get_or places first p → IsEach first (first + n) (λ x. get_or covered' x false ≡ false)
    → ((y : ℕ) → y < first → get_or covered' y false ≡ get_or covered y false) → ((y : ℕ) → first + n ≤ y → get_or covered' y false ≡ get_or covered y false)
    → IsEach (first / 256) ((first + n + 255) / 256) (λ q. get_or pages' q blank_page ≡ ended_at epoch (get_or pages q blank_page))
    → ((q : ℕ) → q < first / 256 → get_or pages' q blank_page ≡ get_or pages q blank_page)
    → ((q : ℕ) → (first + n + 255) / 256 ≤ q → get_or pages' q blank_page ≡ get_or pages q blank_page)
    → ((es : List Event) → Shows f pages places covered es → IsLiveBlock es name block) → (k : ℕ) (es : List Event) → Shows f pages places covered es
    → Admits f es (Event.End k name epoch) × Shows f pages' (set places first (bare_place p.gives)) covered' (Event.End k name epoch ∷ es)
end_made f pages pages' places covered covered' len first n name epoch block p e e' place same sized read marked below above noted before after live k es shows =
    let on : address_of name / 4096 ≤ f.pages = place.0.1 in
    let at = place_is f pages places covered es shows (grain_of name) (omega (arith, on)) len same sized p (rw e at read) in
    rw e (end_shows f pages pages' places covered covered' es shows k name epoch place block (live es shows) p at (omega (arith, on, same, sized))
    (rw (e, e') at marked) (rw e at below) (rw (e, e') at above) (rw (e, e') at noted) (rw e at before) (rw (e, e') at after))

-- ---- a machine stands for some run, also after the event
pub shown_after : (f : Profile) (pages pages' : List Page) (places places' : List Place) (covered covered' : List Bool) (e : Event)
    → ((es : List Event) → Shows f pages places covered es → Admits f es e × Shows f pages' places' covered' (e ∷ es))
    → ∥ ((es : List Event) × Shows f pages places covered es) ∥₁ → ∥ ((es : List Event) × Shows f pages' places' covered' es) ∥₁
shown_after f pages pages' places places' covered covered' e after some = ∥∥₁_map some (λ s. (e ∷ s.0, (after s.0 s.1).1))
