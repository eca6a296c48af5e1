-- GUARDS GO DOWN: a sweep of a keeper, guard by guard, and then in the replay and in the text.
use Rattle.pas_same_text.proofs.GivenBack.{without_all, swapped_all, lowered_line, outer_pages, AreOfRegion, AreLowered, all_lowered, said_reversed}
use Rattle.pas_same_text.proofs.{GivenBack.{lowered_unguarded, others_stay, some_outer, apart_split, own_left, outer_number}, Common.{or_left, or_right}}
use Rattle.pas_same_text.proofs.Common.{false≢true, eqb-false, or_cases, false_from_ne_true, filter, hints_both, Mask4, address_of, IsValid, deed_word_of}
use Rattle.pas_same_text.proofs.Common.{Directory, Event, Profile, Word, live_in, ends_in, deed_in, triples, Always, Kinds, LookLife, Putting, Only, Whole}
use Rattle.pas_same_text.proofs.Common.{word_after, visible, Legal, part, Made, triples_append, only_within, agrees, legal_earlier, deed_of, one_holder}
use Rattle.pas_same_text.proofs.Common.{HintsEmpty, BackSteps, return_returns, puts_kinds, large_of, World, each, lowers, IsBetween, StaysSame, free_bit}
use Rattle.pas_same_text.proofs.Common.{raised_by, IsSame, HasSame, AreSameCaches, lives_in, Record, is_outer_of, is_outer, Each, IsBeside, sweeping}
use Rattle.pas_same_text.proofs.Common.{SweepSteps, Guard, same_from_deed_word, View, holds, usable_by_kind, word_of_deed, freeing, Act, IsThread, Progress}
use Rattle.pas_same_text.proofs.{Common.{with_book, with_records, after_lowering, Raised}, Flushes.unshown, EntrySteps.return_hints, StepMarks.IsMarked}
use Rattle.pas_same_text.proofs.StepMarks.{marked_parts, none_marked, returns_marked, hints_none, hint_marks, offer_marks, epoch_stays_by}
use Rattle.pas_same_text.proofs.{RestingPages.{deed_now, word_known, IsGivenBack, open_from, covered_not_held, free_left, given_pages}, FreeGrains.cached_held}
use Rattle.pas_same_text.proofs.FreeGrains.{outer_held, held_by, never_both, holder_thread}
use Rattle.std.proofs.Common.{◌≡◌, ℕ, ◌+◌, ◌*◌, ◌/◌, ◌%◌, ◌==◌, nat_lt, Bool, true, false, not, ◌||◌, if◌then◌else◌, List, [], ◌∷◌, ◌++◌, map, inl, inr, refl}
use Rattle.std.proofs.Common.{◌⊎◌, ap, sym, ◌∙◌, subst, arith, eq-eqb, ◌≢◌, reverse, Some, eqb-true}
use Rattle.pas_steps.specs.Views.{KnowsDeed}
use Rattle.pas_profile.specs.Lives.{turn_of}
use Rattle.pas_core.proofs.Lives.{turn_is}
use Rattle.pas_rights.specs.Words.{full}
use Rattle.pas_guard.specs.{Books.{IsGuardOf, KnowsGuard}, Lowers.LowerSteps, Sweeps.{is_over, life_look, lowered_record, SweptOne, Swept}}

-- the guard goes down: all do, or its block has ended by these events
abbrev pub goes_down : Bool → List Event → Guard → Bool
goes_down all es g = all || nat_lt g.block.name.turn (ends_in es (address_of g.block.name))

-- ---- the steps that lower one guard
back_page : (page : ℕ) (d : Directory) (mask : Mask4) (q : ℕ) (steps : List Made) → BackSteps page d mask steps → IsMarked q steps → page ≡ q
back_page page d mask q steps (inl h) marked = absurd (subst (IsMarked q) h.1 marked)
back_page page d mask q steps (inr h) marked = elim (marked_parts q h.2 h.1 (subst (IsMarked q) h.5 marked)) [
  | inl first ↦ returns_marked page q h.2 (return_returns page d h.2 h.4) first
  | inr later ↦ absurd (none_marked (Putting ∷ []) refl q h.1 (puts_kinds page mask 4 h.1 h.3) later)
]

-- Grains that are put back with what follows hint only pages that were read as backed and empty.
pub back_hints : (page : ℕ) (d : Directory) (mask : Mask4) (steps : List Made) → BackSteps page d mask steps → Always HintsEmpty steps
back_hints page d mask steps (inl h) = subst (Always HintsEmpty) (sym h.1) tt
back_hints page d mask steps (inr h) = rw h.5
    (hints_both h.2 h.1 (return_hints page d h.2 h.4) (hints_none (Putting ∷ []) h.1 refl (puts_kinds page mask 4 h.1 h.3)))

lower_hints : (g : Guard) (steps : List Made) → LowerSteps g steps → Always HintsEmpty steps
lower_hints g steps h = subst (Always HintsEmpty) (sym h.steps_are)
    (hints_both h.high h.low (back_hints g.high _ full h.high h.high_order) (back_hints g.low (large_of g.block.heap) full h.low h.low_order))

-- ---- kinds of two pieces
only_first : (ks : Kinds) (ys xs : List Made) → Only ks (ys ++ xs) → Only ks ys
only_first ks [] xs only = tt
only_first ks (y ∷ ys) xs only = (only.0, only_first ks ys xs only.1)

only_later : (ks : Kinds) (ys xs : List Made) → Only ks (ys ++ xs) → Only ks xs
only_later ks [] xs only = only
only_later ks (y ∷ ys) xs only = only_later ks ys xs only.1

-- ---- the look at a life word
look_true : (f : Profile) (k word : ℕ) (g : Guard) (l : Whole) → IsValid f → Legal f (triples k (life_look g word) ++ l) → IsBeside g
    → is_over g word ≡ nat_lt g.block.name.turn (ends_in (visible l) (address_of g.block.name))
look_true f k word g l valid legal beside =
    let a : ℕ = address_of g.block.name in
    let page : a / 4096 ≡ a / 16 / 256 = omega arith in
    let grain : a % 4096 / 16 ≡ a / 16 % 256 = omega arith in
    let whole : 16 * (a / 16) ≡ a = omega (arith, beside.begins) in
    let answer = legal.0.answer_is ∙ (ap (λ x. word_after l (Word.Life x (a % 4096 / 16))) page ∙ ap (λ (x : ℕ). word_after l (Word.Life (a / 16 / 256) x)) grain) in
    let turn : turn_of word ≡ ends_in (visible l) a = cc (turn_is f (a / 16) _ (live_in (visible l) (16 * (a / 16))) _ (ends_in (visible l) (16 * (a / 16)))
    ((agrees f l valid legal.1).life (a / 16))) in
    ap (nat_lt g.block.name.turn) turn

-- ==== THE SWEEP: which guards go down follows from the events
pub record IsSwept (all : Bool) (es : List Event) (keeper : ℕ) (guards kept : List Guard) (said : List Record) (steps : List Made) : Type 0 where
  pub kept_is : kept ≡ filter (λ g. not (goes_down all es g)) guards
  pub said_is : said ≡ map lowered_line (map (raised_by keeper) (filter (goes_down all es) guards))
  pub hints : Always HintsEmpty steps
  pub marks : (q : ℕ) → IsMarked q steps → is_outer (filter (goes_down all es) guards) q ≡ true

module _ (all : Bool) (es : List Event) (keeper : ℕ) (g : Guard) (gs kept after : List Guard) (said more : List Record) (word : ℕ)
    (first rest : List Made) (later : IsSwept all es keeper gs after more rest) where
  abbrev look : List Made
  look = life_look g word

  abbrev stay : List Guard
  stay = filter (λ (x : Guard). not (goes_down all es x)) gs

  abbrev fall : List Guard
  fall = filter (goes_down all es) gs

  -- a look marks no page
  marked_in : (q : ℕ) → IsMarked q (rest ++ (first ++ look)) → IsMarked q rest ⊎ IsMarked q first
  marked_in q marked = elim (marked_parts q rest (first ++ look) marked) [
    | inl later ↦ inl later
    | inr here ↦ elim (marked_parts q first look here) [ inl lowers ↦ inr lowers | inr looks ↦ absurd (none_marked (LookLife ∷ []) refl q look (refl, tt) looks) ]
  ]

  -- where it stays, it was only looked at
  swept_one : (t : Bool) → goes_down all es g ≡ t → SweptOne t keeper g first kept after said more
      → IsSwept all es keeper (g ∷ gs) kept said (rest ++ (first ++ look))
  swept_one true e h = record {
    kept_is = h.1 ∙ (later.kept_is ∙ sym (ap (λ (b : Bool). if not b then g ∷ stay else stay) e));
    said_is = h.2 ∙ (ap (λ (rs : List Record). lowered_record keeper g ∷ rs) later.said_is ∙ sym (ap (λ (b : Bool). map lowered_line (map (raised_by keeper) (if b then g ∷ fall else fall))) e));
    hints = hints_both rest (first ++ look) later.hints (hints_both first look (lower_hints g first h.0) (hints_none (LookLife ∷ []) look refl (refl, tt)));
    marks = λ q marked. ap (λ (b : Bool). is_outer (if b then g ∷ fall else fall) q) e ∙ elim (marked_in q marked) [
      | inl in_rest ↦ or_right (is_outer_of g q) (is_outer fall q) (later.marks q in_rest)
      | inr lowers ↦ or_left (is_outer_of g q) (is_outer fall q) (elim (marked_parts q h.0.high h.0.low (subst (IsMarked q) h.0.steps_are lowers)) [
        | inl first' ↦ or_right (g.low == q) (g.high == q) (eq-eqb g.high q (back_page g.high (large_of g.block.heap) full q h.0.high h.0.high_order first'))
        | inr later ↦ or_left (g.low == q) (g.high == q) (eq-eqb g.low q (back_page g.low (large_of g.block.heap) full q h.0.low h.0.low_order later))
      ])
    ];
  }
  swept_one false e h = search (arith, hints_both, hints_none, marked_in)

module _ (f : Profile) (all : Bool) (es : List Event) (keeper : ℕ) (valid : IsValid f) where
  -- A sweep lowers just the guards that go down by the events, and says so of each, in order.
  pub swept_told : (guards kept : List Guard) (said : List Record) (steps : List Made) (l : Whole) → Legal f (triples keeper steps ++ l) → visible l ≡ es
      → Each IsBeside guards → Only sweeping steps → Swept all keeper guards kept said steps
      → IsSwept all es keeper guards kept said steps
  swept_told [] kept said steps l legal same beside only h = search (arith, h.0, h.1, h.2)
  swept_told (g ∷ gs) kept said steps l legal same beside only h =
      let word : ℕ = h.0 in
      let first : List Made = h.1 in
      let rest : List Made = h.2 in
      let piece : List Made = first ++ life_look g word in
      let whole : Legal f (triples keeper (rest ++ piece) ++ l) = subst (λ (ms : List Made). Legal f (triples keeper ms ++ l)) h.7 legal in
      let early : Legal f (triples keeper piece ++ l) = legal_earlier f keeper rest piece l whole in
      let looked : Legal f (triples keeper (life_look g word) ++ l) = legal_earlier f keeper first (life_look g word) l early in
      let kinds : Only sweeping (rest ++ piece) = subst (Only sweeping) h.7 only in
      let shown : visible (triples keeper piece ++ l) ≡ es =
      unshown sweeping refl keeper piece l (only_later sweeping rest piece kinds) ∙ same in
      let test : goes_down all es g ≡ (all || is_over g word) =
      ap (λ (t : Bool). all || t) (ap (λ (xs : List Event). nat_lt g.block.name.turn (ends_in xs (address_of g.block.name))) (sym same) ∙ sym (look_true f keeper word g l valid looked beside.0)) in
      let later : IsSwept all es keeper gs h.3 h.4 rest =
      swept_told gs h.3 h.4 rest (triples keeper piece ++ l) (subst (Legal f) (sym (triples_append keeper rest piece l)) whole) shown beside.1 (only_first sweeping rest piece kinds) h.6 in
      subst (IsSwept all es keeper (g ∷ gs) kept said) (sym h.7) (swept_one all es keeper g gs kept h.3 said h.4 word first rest later _ test h.5)

-- ==== GUARDS GO DOWN: a sweep of a keeper, in the replay and in the text.
-- the replay after a sweep, which left these guards
abbrev pub swept_to : Progress → ℕ → List Guard → List Made → List Record → Progress
swept_to p keeper left steps said = with_records (record p { books = with_book p.books keeper left; list = triples keeper steps ++ p.list }) said

-- ---- guards of a book
region_of : (f : Profile) (keeper : ℕ) (t : Guard → Bool) (gs : List Guard) → Each (IsGuardOf f) gs
    → AreOfRegion f (map (raised_by keeper) (filter t gs))
region_of f keeper t [] all = tt
region_of f keeper t (g ∷ gs) all = search (arith, region_of f keeper t gs all.1)

-- an outer page has a deed for whole pages
outer_deed : (v : View) (gs : List Guard) (page : ℕ) → Each (KnowsGuard v) gs → is_outer gs page ≡ true → (heap : ℕ) × KnowsDeed page (large_of heap) v
outer_deed v [] page all h = absurd (false≢true h)
outer_deed v (g ∷ gs) page all h = elim (or_cases (is_outer_of g page) (is_outer gs page) h) [
  | inl here ↦ elim (or_cases (g.low == page) (g.high == page) here) [
    | inl low ↦ (g.block.heap, subst (λ (q : ℕ). KnowsDeed q (large_of g.block.heap) v) (eqb-true g.low page low) all.0.low)
    | inr high ↦ (g.block.heap, subst (λ (q : ℕ). KnowsDeed q (large_of g.block.heap) v) (eqb-true g.high page high) all.0.high)
  ]
  | inr later ↦ outer_deed v gs page all.1 later
]

module _ (f : Profile) (keeper : ℕ) (all : Bool) (p : Progress) (w : World) (steps : List Made) (left : List Guard) (said : List Record) (valid : IsValid f)
    (is : IsThread f keeper) (before : IsBetween f p) (same : IsSame f p w)
    (sweep : SweepSteps f keeper all (p.books keeper) left said steps) (after : IsBetween f (swept_to p keeper left steps said)) where
  abbrev p' : Progress
  p' = swept_to p keeper left steps said

  abbrev test : Guard → Bool
  test = goes_down all (visible p.list)

  abbrev fallen : List Guard
  fallen = filter test (p.books keeper)

  abbrev downs : List Raised
  downs = map (raised_by keeper) fallen

  abbrev v : World
  v = each lowers downs w

  -- The list with the sweep's steps is legal.
  legal : Legal f (triples keeper steps ++ p.list)
  legal = after.legal

  -- The sweep says what it did.
  told : IsSwept all (visible p.list) keeper (p.books keeper) left said steps
  told = swept_told f all (visible p.list) keeper valid (p.books keeper) left said steps p.list legal refl (before.rest.beside keeper) sweep.kinds sweep.swept

  -- The text lowers the same guards.
  lowered : AreLowered f downs w v
  lowered = all_lowered f downs w (region_of f keeper test (p.books keeper) (before.rest.working keeper is).locals.guards_of_region)

  -- A sweep makes no event.
  shown : visible p'.list ≡ visible p.list
  shown = unshown sweeping refl keeper steps p.list sweep.kinds

  -- ---- whose pages they are
  -- an outer page of one that goes down was the keeper's
  was_outer : (q : ℕ) → is_outer fallen q ≡ true → is_outer (p.books keeper) q ≡ true
  was_outer q h = some_outer test (p.books keeper) q h

  -- .. and is no other's
  only_its : (k g : ℕ) → is_outer fallen (g / 256) ≡ true → holds (part k p.list) g ≡ true → k ≡ keeper
  only_its k g h held = eqb-true k keeper (one_holder f p.list valid before.legal k keeper g held (outer_held f p before keeper g (was_outer (g / 256) h)))

  not_others : (k q : ℕ) → k ≢ keeper → is_outer fallen q ≡ true → is_outer (p.books k) q ≡ false
  not_others k q ne h = false_from_ne_true (is_outer (p.books k) q) (λ outer.
      ne (only_its k (256 * q) (ap (is_outer fallen) (omega arith) ∙ h) (outer_held f p before k (256 * q) (ap (is_outer (p.books k)) (omega arith) ∙ outer))))

  -- ---- the guards that are left
  guards_at : (k : ℕ) (t : Bool) → (k == keeper) ≡ t → filter (λ g. g.keeper == k) v.guards ≡ map (raised_by k) (if t then left else p.books k)
  guards_at k true e =
      let at_keeper : filter (λ g. g.keeper == keeper) v.guards ≡ map (raised_by keeper) left =
      ap (filter (λ (g : Raised). g.keeper == keeper)) lowered.guards
      ∙ ((let it : filter (λ g. g.keeper == keeper) (without_all (map (raised_by keeper) fallen) w.guards) ≡ without_all (map (raised_by keeper) fallen)
      (map (raised_by keeper) (p.books keeper)) = simp (swapped_all, same.guards.each keeper) in it)
      ∙ (own_left keeper test (p.books keeper) (before.rest.working keeper is).locals.guards_apart ∙ ap (map (raised_by keeper)) (sym told.kept_is))) in
      subst (λ (j : ℕ). filter (λ g. g.keeper == j) v.guards ≡ map (raised_by j) left) (sym (eqb-true k keeper e)) at_keeper
  guards_at k false e =
      ap (filter (λ (g : Raised). g.keeper == k)) lowered.guards
      ∙ ((let it : filter (λ g. g.keeper == k) (without_all (map (raised_by keeper) fallen) w.guards) ≡ without_all (map (raised_by keeper) fallen)
      (map (raised_by k) (p.books k)) = simp (swapped_all, same.guards.each k) in
      it) ∙ others_stay k keeper fallen (p.books k) (λ low h. not_others k low (eqb-false k keeper e) h))

  -- Afterwards the replay has what the text has.
  has : HasSame f p' v
  has =
      let live = lowered.live ∙ (same.pages.live ∙ ap lives_in (sym lowered.events)) in
      let guards = λ (k : ℕ). guards_at k (k == keeper) refl in
      assumption (lowered.events ∙ (same.pages.events ∙ sym shown), live, subst (AreSameCaches f p.caches) (sym lowered.caches) same.caches, guards)

  -- ---- an outer page that came back is open
  no_holder : (j g : ℕ) → is_outer fallen (g / 256) ≡ true → holds (part j p'.list) g ≡ true → ⊥
  no_holder j g h held = elim (held_by f p' after j g held) [
    | inl cached ↦
        let own : j ≡ keeper = only_its j g h (cached_held f p before j g (holder_thread f p' after j g held) cached) in
        never_both f p before j g (g / 256) cached (subst (λ (i : ℕ). is_outer (p.books i) (g / 256) ≡ true) (sym own) (was_outer (g / 256) h))
    | inr outer ↦ by_keeper (j == keeper) refl outer
  ]
    where
      by_keeper : (t : Bool) → (j == keeper) ≡ t → is_outer (if t then left else p.books j) (g / 256) ≡ true → ⊥
      by_keeper true e outer = false≢true (sym (ap (λ (gs : List Guard). is_outer gs (g / 256)) told.kept_is
          ∙ apart_split test _ (g / 256) (before.rest.working keeper is).locals.guards_apart h) ∙ outer)
      by_keeper false e outer = false≢true (sym (not_others j (g / 256) (eqb-false j keeper e) h) ∙ outer)

  -- Only outer pages of the guards were given back.
  given : IsGivenBack f keeper p.list w steps v
  given = record {
    pages = outer_pages downs;
    returns = lowered.returns;
    kinds = only_within sweeping freeing steps refl sweep.kinds;
    hints = told.hints;
    marks = λ q of hint. outer_number keeper fallen q (told.marks q (hint_marks q steps hint));
    rooms = λ q d of is_own offer. let h = told.marks q (offer_marks q steps offer) in let g : ℕ = 256 * q + 0 in
        let on : (256 * q + 0) / 256 ≡ q = omega arith in
        let at_g : is_outer fallen (g / 256) ≡ true = ap (is_outer fallen) on ∙ h in
        let o = outer_deed (part keeper p.list) (p.books keeper) q (before.rest.working keeper is).locals.guards_known (was_outer q h) in
        let deed : deed_in (visible p.list) q ≡ Some d = ap (λ (es : List Event). deed_in es q) (sym shown) ∙ deed_now f p' v valid after has q d of is_own in
        let word : word_after p.list (Word.Deed q) ≡ deed_word_of d = deed_of f p.list before.legal q ∙ ap word_of_deed deed in
        let d_is : d ≡ large_of o.0 = same_from_deed_word d _ of.kind tt (sym word ∙ word_known f p.list before.legal keeper q (large_of o.0) o.1) in
        let free : free_bit p'.list g ≡ true = free_left f p'.list valid after.legal g
        (λ j held. no_holder j g at_g held)
        (λ a b lives of_it. covered_not_held f p.list valid before.legal g a b (ap (λ (es : List Event). live_in es a) (sym shown) ∙ lives) of_it keeper
        (outer_held f p before keeper g (was_outer (g / 256) at_g))) in
        open_from f p' v valid after has d q 0 (omega arith) (ap (λ (x : Directory). usable_by_kind x.kind 0) d_is) free;
    guarded = λ q none. lowered_unguarded f downs w v q lowered none;
  }

  -- A keeper's sweep leads the text to the replay's state, with the same guards left.
  pub sweep_same : IsSame f p' v
  sweep_same =
      let pages = given_pages f keeper p.list p' w v steps valid same.pages refl after has given in
      let records = ap (λ rs. p.records ++ rs) told.said_is ∙ (said_reversed downs p.records w.records same.records ∙ ap reverse (sym lowered.records)) in
      let epoch = lowered.epoch ∙ (same.epoch ∙ sym (epoch_stays_by sweeping refl keeper steps p.list sweep.kinds)) in
      assumption (pages, has, lowered.names ∙ same.names, records, epoch, lowered.read ∙ same.read)

-- ---- the text
all_pass : (gs : List Guard) → filter (λ g. true) gs ≡ gs
all_pass [] = refl
all_pass (g ∷ gs) = ap (λ (xs : List Guard). g ∷ xs) (all_pass gs)

pub told_filtered : (keeper : ℕ) (t : Guard → Bool) (u : Raised → Bool) (gs : List Guard) → ((g : Guard) → u (raised_by keeper g) ≡ t g)
    → filter u (map (raised_by keeper) gs) ≡ map (raised_by keeper) (filter t gs)
told_filtered keeper t u [] same = refl
told_filtered keeper t u (g ∷ gs) same = let ih = told_filtered keeper t u gs same in let here = same g in grind (arith, ih, here)

-- ---- THE ACT at the close
pub lower_act : (f : Profile) (keeper : ℕ) → IsThread f keeper → StaysSame f (Act.Lowers keeper)
lower_act f keeper is p p' w taken =
    let steps : List Made = taken.advances.0 in
    let said : List Record = taken.advances.1 in
    let reached : p' ≡ after_lowering p keeper steps said = taken.advances.3 in
    rw ((ap (λ (gs : List Raised). each lowers gs w) (taken.same.guards.each keeper ∙ ap (map (raised_by keeper)) (sym (all_pass _)))), reached)
    (sweep_same f keeper true p w steps [] said taken.valid is taken.before taken.same taken.advances.2.sweep (subst (IsBetween f) reached taken.after))
