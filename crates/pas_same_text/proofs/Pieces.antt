-- WHAT A PIECE OF STEPS LEFT, page by page, and what it used, from one state where all actors are at rest to another: what is free, open or without a guard on
-- other pages is so still.
use Rattle.pas_same_text.proofs.Common.{deed_word_numbered, word_of_deed, deed_of, AllByRecursion, list_any, Directory, Word, Profile, InTurn, Always, Once}
use Rattle.pas_same_text.proofs.Common.{triples, has_right, holds, Made, Hint, Offer, LeaveSteps, GivesDuly, leave_due, leave_returns, IsInRun, MakesNoDeedHere}
use Rattle.pas_same_text.proofs.Common.{pages_from, all_map, same_from_deed_word, has_bit, IsValid, IsDirectoryOf, number_of, deed_word_of, IsKind, Whole}
use Rattle.pas_same_text.proofs.Common.{word_after, Legal, part, visible, Kinds, Only, apart, Taking, Giving, LookLife, Backing, returning, Progress, World}
use Rattle.pas_same_text.proofs.Common.{is_offered, is_guarded, is_hinted, HasSame, IsSame, ArePagesSame, IsBetween, free_bit, false≢true, false_from_ne_true}
use Rattle.pas_same_text.proofs.Common.{cases_Bool, triples_append, only_both, only_within, once_later, same_truth, eligible_bit, empty_bit, IsPartOf}
use Rattle.pas_same_text.proofs.Common.{legal_before, LendsNone, legal_earlier, right_not_offered, right_in_one_place, hinted_at_rest, only_leaves, Live}
use Rattle.pas_same_text.proofs.{Common.{live_in, deed_in, any_covers, allocating, is_outer, IsReturnOf, ReturnsDuly}, StepMarks.{IsMarked, marked_parts}}
use Rattle.pas_same_text.proofs.StepMarks.{returns_marked, HintsPage, once_parts, none_marked, hint_marks, offer_marks, offered_by, hints_of, hint_read}
use Rattle.pas_same_text.proofs.{StepMarks.{free_read, OffersPage, hinted_stays, hinted_by, KeepsBacked, hint_was}, StopSteps.{ReadsRoom, leave_room}}
use Rattle.pas_same_text.proofs.{StopSteps.{room_earlier, room_later, grain_read}, RestingPages.{open_from, free_left, open_grows, bit_at, is_open, bit_tells}}
use Rattle.pas_same_text.proofs.{RestingPages.{bit_offered, deed_now, word_now, open_unguarded, had_open, clear_of, offered_bit}, FreeGrains.not_outer}
use Rattle.pas_same_text.proofs.FreeGrains.{unguarded_by, bit_free, cached_held, free_uncovered, free_unheld, free_unless, held_by, holder_thread, outer_held}
use Rattle.pas_same_text.proofs.Tests.{on_page}
use Rattle.pas_core.proofs.{Deeds.number_told, Rights.offered_has_deed}
use Rattle.pas_steps.specs.Evidence.{GetsHere}
use Rattle.std.proofs.Common.{ℕ, zero, suc, List, [], ◌∷◌, inl, inr, sym, subst, arith, ◌≡◌, ◌/◌, ◌%◌, true, ◌++◌, ap, ◌∙◌, ◌+◌, ◌*◌, ◌<◌, Bool, refl}
use Rattle.std.proofs.Common.{append_assoc, false, Some, ◌⊎◌, true≢false, ◌==◌}
use Rattle.pas_rights.proofs.Puts.{due_both}
use Rattle.pas_search.proofs.LoneSteps.{was_offered_before}

-- each of the pages is left, the one that was left last first
abbrev pub LeftAll : Directory → List ℕ → List Made → Type 0
LeftAll d ps left = InTurn (λ page piece. LeaveSteps page d piece) ps left

-- .. the n pages of a run, the last one last
abbrev pub LeftInTurn : Directory → ℕ → ℕ → List Made → Type 0
LeftInTurn d first n left = LeftAll d (pages_from first n) left

-- a page that is marked is one of them
all_marked : (d : Directory) (P : ℕ → Type 0) (ps : List ℕ) (q : ℕ) (left : List Made) → AllByRecursion P ps → LeftAll d ps left → IsMarked q left → P q
all_marked d P [] q left all turn h = absurd (subst (IsMarked q) turn h)
all_marked d P (x ∷ ps) q left all turn h = elim (marked_parts q turn.0 turn.1 (subst (IsMarked q) turn.4 h)) [
  | inl here ↦ subst P (returns_marked x q turn.0 (leave_returns x d turn.0 turn.2) here) all.0
  | inr before ↦ all_marked d P ps q turn.1 all.1 turn.3 before
]

-- Each of n pages in a row from the first is in that run.
pub all_in_run : (first n : ℕ) → AllByRecursion (IsInRun first n) (pages_from first n)
all_in_run first zero = tt
all_in_run first (suc n) =
    ((omega arith, omega arith), all_map (IsInRun first n) _ (pages_from first n) (λ x here. (here.0, omega (arith, here.1))) (all_in_run first n))

-- hints rest on looks
left_due : (d : Directory) (ps : List ℕ) (left : List Made) → LeftAll d ps left → Always GivesDuly left
left_due d [] left turn = subst (Always GivesDuly) (sym turn) tt
left_due d (x ∷ ps) left turn = subst (Always GivesDuly) (sym turn.4) (due_both turn.0 turn.1 (leave_due x d turn.0 turn.2) (left_due d ps turn.1 turn.3))

-- a page is offered only after a grain of it was read as free
left_room : (d : Directory) (ps : List ℕ) (q : ℕ) (left : List Made) → LeftAll d ps left → IsMarked q left → ReadsRoom q d left
left_room d [] q left turn h = absurd (subst (IsMarked q) turn h)
left_room d (x ∷ ps) q left turn h = subst (ReadsRoom q d) (sym turn.4) (elim (marked_parts q turn.0 turn.1 (subst (IsMarked q) turn.4 h)) [
  | inl here ↦
      let same = returns_marked x q turn.0 (leave_returns x d turn.0 turn.2) here in
      room_earlier q d turn.0 turn.1 (subst (λ (page : ℕ). ReadsRoom page d turn.0) same (leave_room x q d turn.0 turn.2 here))
  | inr before ↦ room_later q d turn.0 turn.1 (left_room d ps q turn.1 turn.3 before)
])

-- ==== A page of which a look read room, and which no step took since, is open in the text: it is offered there where its bit is set.
module _ (f : Profile) (p : Progress) (w : World) (valid : IsValid f) (between : IsBetween f p) (same : HasSame f p w) where
  module _ (ks : Kinds) (no_take : apart ks (Taking ∷ []) ≡ true) (k : ℕ) (l : Whole) (steps : List Made) (list : p.list ≡ triples k steps ++ l)
      (only : Only ks steps) where
    -- A page of which a look read room, and of which no step took since, is open in the text.
    pub read_open : (page : ℕ) (d e : Directory) → d ≡ e → ReadsRoom page e steps → is_open w d page ≡ true
    read_open page d e is r = search (arith, grain_read, open_from, bit_at)

-- ==== PAGES THAT ARE LEFT after a block of theirs was given: which pages that marks, that it hints none, and that those that it offers are offered in the text.
-- a grain of the page isn't free
pub record IsInUse (q : Progress) (x : ℕ) : Type 0 where
  pub grain : ℕ
  pub small : grain < 256
  pub used : free_bit q.list (256 * x + grain) ≡ true → ⊥

-- steps that give a block of pages that were backed; those that leave its pages before or after it; and all of them
abbrev pub giving : Kinds
giving = Giving ∷ LookLife ∷ Backing ∷ []

abbrev pub parting : Kinds
parting = Giving ∷ LookLife ∷ returning

abbrev pub leaving : Kinds
leaving = Giving ∷ LookLife ∷ Backing ∷ returning

-- Behind `mid` actor k gave a block, before or after it left some pages one by one. All are among these, whose right it had, and each of them has a grain in use at the
-- end.
pub record LeavesBehind (f : Profile) (k : ℕ) (d : Directory) (q : Progress) (mid : Whole) (rest : List Made) (mine : ℕ → Bool) : Type 0 where
  pub pages : List ℕ
  pub late : List Made
  pub left : List Made
  pub gave : List Made
  pub order : LeftAll d pages left
  pub late_kinds : Only (Giving ∷ LookLife ∷ []) late
  pub gave_kinds : Only giving gave
  pub rest_is : rest ≡ late ++ (left ++ gave)
  pub among : AllByRecursion (λ x. mine x ≡ true) pages
  pub list : q.list ≡ triples k rest ++ mid
  pub right : (x : ℕ) → mine x ≡ true → has_right (part k mid) x ≡ true
  pub deeds : (x : ℕ) → mine x ≡ true → word_after q.list (Word.Deed x) ≡ deed_word_of d
  pub in_use : (x : ℕ) → mine x ≡ true → IsInUse q x

-- Steps that give a block and leave its pages are of such kinds.
pub rest_leaves : (d : Directory) (pages : List ℕ) (late left gave rest : List Made) → LeftAll d pages left → Only (Giving ∷ LookLife ∷ []) late
    → Only giving gave → rest ≡ late ++ (left ++ gave) → Only leaving rest
rest_leaves d pages late left gave rest order late_kinds kinds is =
    subst (Only leaving) (sym is) (only_both leaving late (left ++ gave) (only_within (Giving ∷ LookLife ∷ []) leaving late refl late_kinds)
    (only_both leaving left gave (only_within returning leaving left refl (only_leaves d pages left order)) (only_within giving leaving gave refl kinds)))

module _ {f : Profile} {k : ℕ} {d : Directory} {q : Progress} {mid : Whole} {rest : List Made} {mine : ℕ → Bool} (valid : IsValid f) (there : IsBetween f q)
    (h : LeavesBehind f k d q mid rest mine) where
  abbrev parted : List Made
  parted = h.late ++ h.left

  parted_kinds : Only parting parted
  parted_kinds = only_both parting h.late h.left (only_within (Giving ∷ LookLife ∷ []) parting h.late refl h.late_kinds)
      (only_within returning parting h.left refl (only_leaves d h.pages h.left h.order))

  abbrev base : Whole
  base = triples k h.gave ++ mid

  list_left : q.list ≡ triples k parted ++ base
  list_left = cc (append_assoc h.late h.left h.gave, triples_append k parted h.gave mid)

  mark_left : (x : ℕ) → IsMarked x rest → IsMarked x h.left
  mark_left x m = elim (marked_parts x h.late (h.left ++ h.gave) (subst (IsMarked x) h.rest_is m)) [
    | inl late ↦ absurd (none_marked (Giving ∷ LookLife ∷ []) refl x h.late h.late_kinds late)
    | inr early ↦ (elim (marked_parts x h.left h.gave early) [ inl marked ↦ marked | inr later ↦ absurd (none_marked giving refl x h.gave h.gave_kinds later) ])
  ]

  -- A page that is marked is one of them.
  pub marks_behind : (x : ℕ) → IsMarked x rest → mine x ≡ true
  marks_behind x m = all_marked d (λ y. mine y ≡ true) h.pages x h.left h.among h.order (mark_left x m)

  hint_left : (x : ℕ) → HintsPage x rest → HintsPage x h.left
  hint_left x hint = elim (once_parts (λ m. m.step ≡ Hint x) h.late (h.left ++ h.gave) (subst (HintsPage x) h.rest_is hint)) [
    | inl late ↦ absurd (none_marked (Giving ∷ LookLife ∷ []) refl x h.late h.late_kinds (hint_marks x h.late late))
    | inr early ↦ elim (once_parts (λ m. m.step ≡ Hint x) h.left h.gave early) [
      | inl left ↦ left
      | inr gave ↦ absurd (none_marked giving refl x h.gave h.gave_kinds (hint_marks x h.gave gave))
    ]
  ]

  -- No page is hinted.
  pub no_hint : (x : ℕ) → HintsPage x rest → ⊥
  no_hint x hint =
      let o = h.in_use x (marks_behind x (hint_marks x rest hint)) in
      let read = (hint_read x h.left (hints_of h.left (left_due d h.pages h.left h.order)) (hint_left x hint)).free (o.grain / 64) (omega (arith, o.small)) in
      o.used (bit_at q.list x o.grain o.small
      ∙ (ap (λ (m : Whole). has_bit (word_after m (Word.Free x (o.grain / 64))) (o.grain % 64)) list_left
      ∙ free_read parting f k base x refl refl _ _ parted (subst (Legal f) list_left there.legal) parted_kinds (omega arith) (once_later _ h.late h.left read)))

  -- A page of them whose bit is set then is offered in the text: a look of the leave read room.
  pub left_offered : (v : World) → HasSame f q v → IsKind d.kind → (x : ℕ) (e : Directory) → mine x ≡ true → IsDirectoryOf f e
      → eligible_bit q.list (number_of e) x ≡ true → is_offered v e x ≡ true
  left_offered v now kind x e here of bit = elim (offered_by k rest mid _ x (ap (λ (m : Whole). eligible_bit m (number_of e) x) (sym h.list) ∙ bit)) [
    | inl still ↦ absurd (false≢true (cc (right_not_offered f mid (legal_before f k rest mid (rw h.list at there.legal)) k (number_of e) x (h.right x here))))
    | inr offers ↦
        let tells = bit_tells f q v valid there now x e of (right_in_one_place f q.list there.legal x) bit in
        let same : e ≡ d = same_from_deed_word e d of.kind kind (cc (word_now f q v valid there now x e (deed_now f q v valid there now x e of tells.0), h.deeds x here)) in
        bit_offered f q v valid there now x e of bit (read_open f q v valid there now parting refl k base parted list_left parted_kinds x e d same
        (room_later x d h.late h.left (left_room d h.pages x h.left h.order (mark_left x (offer_marks x rest offers)))))
  ]

-- ==== WHAT A PIECE OF STEPS USED, from one state where all actors are at rest to another, told by its pages: what is free, open or without a guard on other pages is so still.
-- No actor caches a slot or has a guard up, and no block lives, that wasn't there before, but on these pages.
pub record UsesOnly (p q : Progress) (used : ℕ → Bool) : Type 0 where
  pub cached : (j g : ℕ) → any_covers (q.caches j).locals g ≡ true → (any_covers (p.caches j).locals g ≡ true) ⊎ (used (g / 256) ≡ true)
  pub outer : (j x : ℕ) → is_outer (q.books j) x ≡ true → (is_outer (p.books j) x ≡ true) ⊎ (used x ≡ true)
  pub live : (a : ℕ) (b : Live) → live_in (visible q.list) a ≡ Some b
      → (live_in (visible p.list) a ≡ Some b) ⊎ ((g : ℕ) → IsPartOf g a b → used (g / 256) ≡ true)

module _ {f : Profile} {p q : Progress} {used : ℕ → Bool} (valid : IsValid f) (before : IsBetween f p) (after : IsBetween f q) (uses : UsesOnly p q used) where
  -- A free grain of another page is free still.
  pub free_kept : (g : ℕ) → used (g / 256) ≡ false → free_bit p.list g ≡ true → free_bit q.list g ≡ true
  free_kept g out free = free_left f q.list valid after.legal g nobody none
    where
      unheld : (j : ℕ) → holds (part j p.list) g ≡ true → ⊥
      unheld j held = false≢true (sym (free_unheld f p.list valid before.legal g free j) ∙ held)

      -- Nobody holds the grain.
      nobody : (j : ℕ) → holds (part j q.list) g ≡ true → ⊥
      nobody j held = elim (held_by f q after j g held) [
        | inl cached ↦ elim (uses.cached j g cached) [
          | inl was ↦ unheld j (cached_held f p before j g (holder_thread f q after j g held) was)
          | inr here ↦ false≢true (sym out ∙ here)
        ]
        | inr outer ↦ elim (uses.outer j (g / 256) outer) [
          | inl was ↦ unheld j (outer_held f p before j g was)
          | inr here ↦ false≢true (sym out ∙ here)
        ]
      ]

      -- No live block covers it.
      none : (a : ℕ) (b : Live) → live_in (visible q.list) a ≡ Some b → IsPartOf g a b → ⊥
      none a b lives of = elim (uses.live a b lives) [
        | inl was ↦ free_uncovered f p.list valid before.legal g free a b was of
        | inr here ↦ false≢true (sym out ∙ here g of)
      ]

  module _ {w v : World} (old : HasSame f p w) (now : HasSame f q v) where
    -- Another page has no guard where it had none.
    unguarded_kept : (x : ℕ) → used x ≡ false → is_guarded w x ≡ false → is_guarded v x ≡ false
    unguarded_kept x out none = search (arith, unguarded_by, false_from_ne_true, true≢false, not_outer, false≢true)

    -- Another page that was open is so still.
    open_kept : (d : Directory) (x : ℕ) → used x ≡ false → is_open w d x ≡ true → is_open v d x ≡ true
    open_kept d x out h =
        open_grows w v d x (unguarded_kept x out) (λ b small free. bit_free f q v valid after now x b small
        (free_kept (256 * x + b) (ap used (on_page x b small) ∙ out) (sym (free_unless f p w valid before old x b small (open_unguarded w d x h)) ∙ free))) h

-- ==== A PIECE OF STEPS OF ONE ACTOR that searches, gives and leaves pages, from one state where all actors are at rest to another: each page is hinted and offered in the text
-- exactly where its bits are set. Of the pages that the piece is about that is a premise.
-- the events, the live blocks, the caches and the guards of a state that is the replay's
pub has_same : {f : Profile} {p : Progress} {w : World} → IsSame f p w → HasSame f p w
has_same same = record { events = same.pages.events; live = same.pages.live; caches = same.caches; guards = same.guards }

-- a page that the search offers was got
offers_got : (x : ℕ) (xs : List Made) → Always ReturnsDuly xs → OffersPage x xs → Once (GetsHere x) xs
offers_got x [] due h = absurd h
offers_got x (m ∷ xs) due (inl h) = inr (due.0.0 x (subst (IsReturnOf x) (sym h.1) (IsReturnOf.Offers h.0)))
offers_got x (m ∷ xs) due (inr h) = inr (offers_got x xs due.1 h)

-- Actor k went from p to q by a search and by steps after it, and the text from w to v, whose hints are the same. It used these pages alone: on others it made no deed, backed
-- none, and marked none after the search. What it marked of these is true in the text.
pub record IsPiece (f : Profile) (k : ℕ) (p q : Progress) (w v : World) (mine : ℕ → Bool) (got after : List Made) : Type 0 where
  pub valid : IsValid f
  pub before : IsBetween f p
  pub between : IsBetween f q
  pub same : IsSame f p w
  pub now : HasSame f q v
  pub list : q.list ≡ triples k (after ++ got) ++ p.list
  pub kinds : Only allocating (after ++ got)
  pub lends : LendsNone got
  pub returns : Always ReturnsDuly got
  pub uses : UsesOnly p q mine
  pub bare : (x : ℕ) → mine x ≡ false → Always (MakesNoDeedHere x) got
  -- A page that isn't backed is backed by its event.
  pub unbacked : (x : ℕ) → mine x ≡ false → Always (KeepsBacked k x) got
  pub deeds : (x : ℕ) → mine x ≡ false → deed_in v.events x ≡ deed_in w.events x
  pub hinted : v.hinted ≡ w.hinted
  pub marks : (x : ℕ) → IsMarked x after → mine x ≡ true
  pub own_hint : (x : ℕ) → mine x ≡ true → HintsPage x (after ++ got) → empty_bit p.list x ≡ true
  pub own_offer : (x : ℕ) (e : Directory) → mine x ≡ true → IsDirectoryOf f e → eligible_bit q.list (number_of e) x ≡ true → is_offered v e x ≡ true

-- A page that a search from rest hints was hinted before, where the search doesn't back it.
pub hinted_before : (k : ℕ) {f : Profile} {p : Progress} {w : World} → IsValid f → IsBetween f p → IsSame f p w → (got : List Made)
    → Legal f (triples k got ++ p.list) → LendsNone got → Always ReturnsDuly got → (x : ℕ) → Always (KeepsBacked k x) got → HintsPage x got
    → empty_bit p.list x ≡ true
hinted_before k {f} {p} {w} valid before same got legal lends due x keeps h =
    hinted_at_rest f p.list valid before.legal (clear_of f p w valid before (has_same same)) x (hint_was f k p.list x got legal before.legal lends due keeps h)

module _ {f : Profile} {k : ℕ} {p q : Progress} {w v : World} {mine : ℕ → Bool} {got after : List Made} (s : IsPiece f k p q w v mine got after) where
  abbrev steps : List Made
  steps = after ++ got

  legal_got : Legal f (triples k got ++ p.list)
  legal_got = legal_earlier f k after got p.list (subst (Legal f) s.list s.between.legal)

  hints_are : (x : ℕ) → is_hinted v x ≡ is_hinted w x
  hints_are x = ap (λ (hs : List ℕ). list_any (λ y. y == x) hs) s.hinted

  to_hint : (x : ℕ) → is_hinted v x ≡ true → empty_bit q.list x ≡ true
  to_hint x h = cc (hinted_stays allocating refl k steps p.list x s.kinds (sym (s.same.pages.hinted x) ∙ (sym (hints_are x) ∙ h)))

  from_hint : (x : ℕ) → empty_bit q.list x ≡ true → is_hinted v x ≡ true
  from_hint x bit = hints_are x
      ∙ (s.same.pages.hinted x ∙ elim (hinted_by k _ _ x (ap (λ m. empty_bit m x) (sym s.list) ∙ bit)) [
        | inl old ↦ old
        | inr new ↦ (elim (cases_Bool (mine x)) [
          | inl here ↦ s.own_hint x here new
          | inr out ↦ elim (once_parts (λ m. m.step ≡ Hint x) after got new) [
            | inl later ↦ absurd (false≢true (sym out ∙ s.marks x (hint_marks x after later)))
            | inr early ↦ hinted_before k s.valid s.before s.same got legal_got s.lends s.returns x (s.unbacked x out) early
          ]
        ])
      ])

  -- another page is offered still: its deed is the same, it was offered, and its bit is set
  offered_still : (x : ℕ) (e : Directory) → mine x ≡ false → IsDirectoryOf f e → eligible_bit q.list (number_of e) x ≡ true → is_offered v e x ≡ true
  offered_still x e out of bit =
      let told = bit_tells f q v s.valid s.between s.now x e of (right_in_one_place f q.list s.between.legal x) bit in
      let deed : deed_in (visible p.list) x ≡ Some e =
      cc (s.deeds x out, deed_now f q v s.valid s.between s.now x e of told.0) in
      let o : (i : ℕ) × (eligible_bit p.list i x ≡ true) =
      (elim (offered_by k steps p.list (number_of e) x (ap (λ (m : Whole). eligible_bit m (number_of e) x) (sym s.list) ∙ bit)) [
        | inl old ↦ (number_of e, old)
        | inr new ↦ elim (once_parts (λ m. (e' : Directory) × (m.step ≡ Offer x e')) after got new) [
          | inl later ↦ absurd (false≢true (sym out ∙ s.marks x (offer_marks x after later)))
          | inr early ↦ (was_offered_before f k p.list x got legal_got s.returns (s.bare x out)).0 (offers_got x got s.returns early)
        ]
      ]) in
      let old : is_offered w e x ≡ true = s.same.pages.offered x e of ∙ (let word : deed_word_of e ≡ deed_word_numbered o.0 = sym (ap word_of_deed deed)
      ∙ (sym (deed_of f p.list s.before.legal x) ∙ offered_has_deed f p.list s.before.legal o.0 x o.1) in
      ap (λ (m : ℕ). eligible_bit p.list m x) (number_told e o.0 of.kind word) ∙ o.1) in
      bit_offered f q v s.valid s.between s.now x e of bit
      (open_kept s.valid s.before s.between s.uses (has_same s.same) s.now e x out (had_open w e x old))

  from_offer : (x : ℕ) (e : Directory) → IsDirectoryOf f e → eligible_bit q.list (number_of e) x ≡ true → is_offered v e x ≡ true
  from_offer x e of bit = elim (cases_Bool (mine x)) [ inl here ↦ s.own_offer x e here of bit | inr out ↦ offered_still x e out of bit ]

  -- EACH PAGE is hinted and offered exactly where its bits are set
  pub piece_pages : ArePagesSame f q.list v
  piece_pages = search (arith, same_truth, to_hint, from_hint, offered_bit, from_offer)
